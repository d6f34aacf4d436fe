-- What the words of a call ask for.
use Rattle.std.specs.Prelude.{ℕ, Bool, List, [], ◌∷◌, Option, Some, None, true, false, nat_lt, nat_le, ◌%◌, ◌==◌, ◌&&◌, if◌then◌else◌, codes, length, option_and_then, option_map, slice_index_or}
use Rattle.std.specs.Str.{bytes_eq}
use Rattle.std.specs.Str.Parse.{digits_value}
use Rattle.std.specs.Char.{is_ascii_digit}
use Rattle.std.specs.List.{list_all}
use Rattle.script_statement.specs.Words.{within, hex_of, number_of as short_number}
use Rattle.df1_tool.specs.declared.form.Form.{Form}
use Rattle.df1_tool.specs.declared.form.Form.TheVariants.{Replay, Serve, Issue, Dissect, Check as Count, Drill, Storm, Vectors, Pull, Push, Route, RehearsePull, RehearsePush}
use Rattle.df1_tool.specs.declared.form.Rounds.{Rounds}
use Rattle.df1_capture.specs.declared.capture.Capture.{Capture}
use Rattle.df1_check.specs.declared.Check.{Check}
use Rattle.df1_check.specs.declared.Check.TheVariants.{Bcc, Crc}
use Rattle.half_frame.specs.declared.side.Side.{Side}
use Rattle.half_frame.specs.declared.side.Side.TheVariants.{Full, Master, Slave}
use Rattle.df1_service.specs.Service.{NoCommands, PlanCommands, PullOrders, PushOrders, Serving}

-- what the last word of `serve` asks for
abbrev pub mode_of : List ℕ → Option Form
mode_of word = if bytes_eq word (codes "raw") then Some (Serve false) else if bytes_eq word (codes "timed") then Some (Serve true) else None

-- whose bytes are captured, and with which check
abbrev pub side_of : List ℕ → Option Side
side_of word = if bytes_eq word (codes "full") then Some Full else if bytes_eq word (codes "master") then Some Master else if bytes_eq word (codes "slave") then Some Slave else None

abbrev pub check_of : List ℕ → Option Check
check_of word = if bytes_eq word (codes "bcc") then Some Bcc else if bytes_eq word (codes "crc") then Some Crc else None

-- a capture that both words name
abbrev pub captured : Option Side → Option Check → Option Capture
captured None check = None
captured (Some side) None = None
captured (Some side) (Some check) = Some (record { side = side; check = check })

abbrev pub capture_of : List ℕ → List ℕ → Option Capture
capture_of side check = captured (side_of side) (check_of check)

-- the number that a word of 1 to 10 decimal digits is
unfoldable pub number_of : List ℕ → Option ℕ
number_of word = if nat_lt 0 (length word) && nat_le (length word) 10 && list_all is_ascii_digit word then Some (digits_value 10 word) else None

-- the rounds that the last words of `drill` and `storm` name: a seed of 32 bits, and 1 to 20,000 of them
abbrev pub rounds_by : Option ℕ → Option ℕ → Option Rounds
rounds_by None count = None
rounds_by (Some seed) None = None
rounds_by (Some seed) (Some count) = Some (record { seed = seed; count = count })

abbrev pub rounds_of : List ℕ → List ℕ → Option Rounds
rounds_of seed count = rounds_by (within 0 4294967295 (number_of seed)) (within 1 20000 (number_of count))

-- the transfer that reads words of a file: its number, 0 to 999, and how many words, 1 to 3,000, are 1 to 9 decimal digits
abbrev pub file_of : List ℕ → Option ℕ
file_of word = within 0 999 (short_number word)

abbrev pub pull_by : Option ℕ → Option ℕ → Option Form
pull_by None count = None
pull_by (Some file) None = None
pull_by (Some file) (Some count) = Some (Pull file count)

abbrev pub pull_of : List ℕ → List ℕ → Option Form
pull_of file count = pull_by (file_of file) (within 1 3000 (short_number count))

-- the bytes of 1 to 3,000 words of a file, each of which is four hexadecimal digits of either case, the low byte first
abbrev pub data_of : List ℕ → Option (List ℕ)
data_of word = if nat_lt 0 (length word) && nat_le (length word) 12000 && (length word % 4 == 0) then hex_of word else None

-- the transfer that writes such words to a file
abbrev pub push_by : Option ℕ → Option (List ℕ) → Option Form
push_by None bytes = None
push_by (Some file) None = None
push_by (Some file) (Some bytes) = Some (Push file)

abbrev pub push_of : List ℕ → List ℕ → Option Form
push_of file hex = push_by (file_of file) (data_of hex)

-- what one word asks for
abbrev pub form_of_one : List ℕ → Option Form
form_of_one word =
    if bytes_eq word (codes "replay") then Some Replay
    else if bytes_eq word (codes "route") then Some Route
    else if bytes_eq word (codes "vectors") then Some Vectors
    else None

-- what two words ask for
abbrev pub form_of_two : List ℕ → Option Form
form_of_two word = if bytes_eq word (codes "issue") then Some Issue else None

-- what three words ask for
abbrev pub form_of_three : List ℕ → List ℕ → List ℕ → Option Form
form_of_three word second third =
    if bytes_eq word (codes "serve") then mode_of third
    else if bytes_eq word (codes "dissect") then option_map Dissect (capture_of second third)
    else if bytes_eq word (codes "check") then option_map Count (capture_of second third)
    else if bytes_eq word (codes "drill") then option_map Drill (rounds_of second third)
    else if bytes_eq word (codes "storm") then option_map Storm (rounds_of second third)
    else None

-- a transfer, rehearsed
abbrev pub rehearsed : Option Form → Option Form
rehearsed (Some (Pull file count)) = Some (RehearsePull file count)
rehearsed (Some (Push file)) = Some (RehearsePush file)
rehearsed other = None

abbrev pub rehearsal_of : List ℕ → List ℕ → List ℕ → Option Form
rehearsal_of kind file what =
    if bytes_eq kind (codes "pull") then rehearsed (pull_of file what)
    else if bytes_eq kind (codes "push") then rehearsed (push_of file what)
    else None

-- what four words ask for
abbrev pub form_of_four : List ℕ → List ℕ → List ℕ → List ℕ → Option Form
form_of_four word second third fourth =
    if bytes_eq word (codes "pull") then pull_of third fourth
    else if bytes_eq word (codes "push") then push_of third fourth
    else if bytes_eq word (codes "rehearse") then rehearsal_of second third fourth
    else None

-- what the words ask for
unfoldable pub form_of : List (List ℕ) → Option Form
form_of (word ∷ []) = form_of_one word
form_of (word ∷ plan ∷ []) = form_of_two word
form_of (word ∷ second ∷ third ∷ []) = form_of_three word second third
form_of (word ∷ second ∷ third ∷ fourth ∷ []) = form_of_four word second third fourth
form_of words = None

-- an end that is served over records, with these orders of a transfer
abbrev pub pushing : ℕ → List ℕ → Serving
pushing file bytes = record { timed = true; issues = PushOrders file bytes }

-- how an end is served, where the words and the form that they have ask for that
abbrev pub service_of : List (List ℕ) → Form → Option Serving
service_of words Replay = None
service_of words (Serve timed) = Some (record { timed = timed; issues = NoCommands })
service_of words Issue = Some (record { timed = true; issues = PlanCommands })
service_of words (Dissect capture) = None
service_of words (Count capture) = None
service_of words (Drill rounds) = None
service_of words (Storm rounds) = None
service_of words Vectors = None
service_of words (Pull file count) = Some (record { timed = true; issues = PullOrders file count })
service_of words (Push file) = option_map (pushing file) (data_of (slice_index_or words 3 []))
service_of words Route = None
service_of words (RehearsePull file count) = None
service_of words (RehearsePush file) = None

-- the same of the words alone
abbrev pub service_for : List (List ℕ) → Option Serving
service_for words = option_and_then (service_of words) (form_of words)

-- a form reads its script whole, before anything is written
abbrev pub reads_whole : Form → Bool
reads_whole Route = true
reads_whole (RehearsePull file count) = true
reads_whole (RehearsePush file) = true
reads_whole other = false

-- the name of the plan: the second word
abbrev pub plan_name : List (List ℕ) → List ℕ
plan_name words = slice_index_or words 1 []
