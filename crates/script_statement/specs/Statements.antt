-- What one line of a script says, by the table of the forms.
use Rattle.std.specs.Prelude.{ℕ, ◌+◌, ◌-◌, Bool, false, true, List, [], ◌∷◌, length, take, drop, slice_index, position, Option, Some, None, option_map, bit_and, nat_le, nat_lt, not, ◌==◌, ◌&&◌, ◌||◌, if◌then◌else◌, codes}
use Rattle.std.specs.Option.{option_map_or}
use Rattle.std.specs.Str.{bytes_eq}
use Rattle.df1_base.specs.declared.file_type.FileType.{FileType}
use Rattle.df1_base.specs.declared.file_type.FileType.TheVariants.{Status, Bit, Timer, Counter, Control, Integer, Float}
use Rattle.df1_check.specs.declared.Check.{Check}
use Rattle.df1_check.specs.declared.Check.TheVariants.{Bcc, Crc}
use Rattle.data_files.specs.declared.file_spec.FileSpec.{FileSpec}
use Rattle.end_settings.specs.declared.key.EndKey.{EndKey}
use Rattle.end_settings.specs.declared.row.Values.{Values}
use Rattle.end_settings.specs.declared.row.Values.TheVariants.{Switch, Number}
use Rattle.end_settings.specs.declared.settings.Setting.{Setting}
use Rattle.end_settings.specs.Rows.{fitting}
use Rattle.end_settings.specs.Table.{key_named, row_of}
use Rattle.script_statement.specs.declared.who.Who.{Who}
use Rattle.script_statement.specs.declared.who.Who.TheVariants as who
use Rattle.script_statement.specs.declared.statement.EndLetter.{EndLetter}
use Rattle.script_statement.specs.declared.statement.EndLetter.TheVariants.{A, B}
use Rattle.script_statement.specs.declared.statement.EndName.{EndName}
use Rattle.script_statement.specs.declared.statement.EndName.TheVariants.{Known, Master, Station}
use Rattle.script_statement.specs.declared.statement.Verb.{Verb}
use Rattle.script_statement.specs.declared.statement.Verb.TheVariants.{Take, Tick, Deliver, Lose}
use Rattle.script_statement.specs.declared.setup_statement.SetupStatement.TheVariants.{Set, Compat, Block, File, Word}
use Rattle.script_statement.specs.declared.half_event.Way.{Way}
use Rattle.script_statement.specs.declared.half_event.Way.TheVariants.{ToStation, ToMaster}
use Rattle.script_statement.specs.declared.half_event.HalfEvent.{HalfEvent}
use Rattle.script_statement.specs.declared.half_event.HalfEvent.TheVariants as half
use Rattle.script_statement.specs.declared.statement.Statement.{Statement}
use Rattle.script_statement.specs.declared.statement.Statement.TheVariants as statement
use Rattle.script_statement.specs.Words.{number_of, within, hex_of, byte_of, register_of}

-- ---- ends

-- an end as events name it
abbrev pub who_of : EndLetter → Who
who_of A = who.A
who_of B = who.B

-- the end at the other side of the link
abbrev pub other_end : EndLetter → EndLetter
other_end A = B
other_end B = A

-- the end that a word names: `a`, `b`, `m` for the master, or the number of a station
abbrev pub end_of : List ℕ → Option EndName
end_of word =
    if bytes_eq word (codes "a") then Some (Known A)
    else if bytes_eq word (codes "b") then Some (Known B)
    else if bytes_eq word (codes "m") then Some Master
    else option_map Station (number_of word)

-- ---- lines that begin with `set`

abbrev pub check_of : List ℕ → Option Check
check_of value = if bytes_eq value (codes "bcc") then Some Bcc else if bytes_eq value (codes "crc") then Some Crc else None

-- `off` or `on`, as 0 or 1
abbrev pub switch_of : List ℕ → Option ℕ
switch_of word = if bytes_eq word (codes "off") then Some 0 else if bytes_eq word (codes "on") then Some 1 else None

-- the number that a word is as one of these values
abbrev pub number_as : Values → List ℕ → Option ℕ
number_as Switch word = switch_of word
number_as (Number least most) word = number_of word

-- a key, with the value that the word is
abbrev pub setting_with : List ℕ → EndKey → Setting
setting_with word key = record { key = key; value = fitting (row_of key).values (number_as (row_of key).values word) }

-- the key of a name and its value: None for another name, and None inside for another value
abbrev pub setting_of : List ℕ → List ℕ → Option Setting
setting_of name word = option_map (setting_with word) (key_named name)

abbrev pub set_statement : Option EndName → Option Setting → Option Statement
set_statement (Some end) (Some setting) = Some (statement.Setup end (Set setting))
set_statement end setting = None

-- the number of a file, where a file may have it: None for a word that is no number, None inside for a number over 999
abbrev pub file_number : List ℕ → Option (Option ℕ)
file_number value = option_map (λ number. within 0 999 (Some number)) (number_of value)

abbrev pub compat_line : Option EndName → Option (Option ℕ) → Option Statement
compat_line None file = None
compat_line (Some end) file = Some (statement.Setup end (Compat file))

-- 1 to 244 bytes
abbrev pub is_block : List ℕ → Bool
is_block bytes = nat_le 1 (length bytes) && nat_le (length bytes) 244

abbrev pub block_of : Option (List ℕ) → Option (List ℕ)
block_of None = None
block_of (Some bytes) = if is_block bytes then Some bytes else None

abbrev pub block_line : Option EndName → Option (List ℕ) → Option Statement
block_line None bytes = None
block_line (Some end) bytes = Some (statement.Setup end (Block (block_of bytes)))

-- a name: the compatibility file, the block, or a setting
abbrev pub named_line : Option EndName → List ℕ → List ℕ → Option Statement
named_line end name value =
    if bytes_eq name (codes "compat") then compat_line end (file_number value)
    else if bytes_eq name (codes "block") then block_line end (hex_of value)
    else set_statement end (setting_of name value)

-- the end stands before the first full stop of a key, and the name of the setting behind it
abbrev pub setting_at : List ℕ → List ℕ → Option ℕ → Option Statement
setting_at key value None = None
setting_at key value (Some stop) = named_line (end_of (take stop key)) (drop (stop + 1) key) value

abbrev pub end_setting : List ℕ → List ℕ → Option Statement
end_setting key value = setting_at key value (position (λ byte. byte == 46) key)

-- full duplex or half duplex
abbrev pub mode_of : List ℕ → Option Statement
mode_of value =
    if bytes_eq value (codes "full") then Some (statement.Mode false)
    else if bytes_eq value (codes "half") then Some (statement.Mode true)
    else None

abbrev pub set_line : List ℕ → List ℕ → Option Statement
set_line key value =
    if bytes_eq key (codes "mode") then mode_of value
    else if bytes_eq key (codes "check") then Some (statement.Check (check_of value))
    else end_setting key value

-- ---- files and words

-- the type that a word names, letter for letter
abbrev pub file_type : List ℕ → Option FileType
file_type word =
    if bytes_eq word (codes "84") then Some Status
    else if bytes_eq word (codes "85") then Some Bit
    else if bytes_eq word (codes "86") then Some Timer
    else if bytes_eq word (codes "87") then Some Counter
    else if bytes_eq word (codes "88") then Some Control
    else if bytes_eq word (codes "89") then Some Integer
    else if bytes_eq word (codes "8A") then Some Float
    else None

abbrev pub file_spec : Option ℕ → Option FileType → Option ℕ → Option FileSpec
file_spec (Some number) (Some kind) (Some count) = Some (record { number = number; kind = kind; count = count })
file_spec number kind count = None

abbrev pub file_line : Option EndName → Option ℕ → Option FileType → Option ℕ → Option Statement
file_line (Some end) (Some number) kind (Some count) =
    Some (statement.Setup end (File (file_spec (within 0 999 (Some number)) kind (within 1 1000 (Some count)))))
file_line end number kind count = None

abbrev pub word_line : Option EndName → Option ℕ → Option ℕ → Option ℕ → Option Statement
word_line (Some end) (Some number) (Some index) (Some value) =
    Some (statement.Setup end (Word (within 0 999 (Some number)) index value))
word_line end number index value = None

-- ---- stations

-- a station has a number of at most 254, and not 16
abbrev pub station_number : ℕ → Option ℕ
station_number number = if (number == 16) || nat_lt 254 number then None else Some number

abbrev pub station_line : Option ℕ → Option Statement
station_line None = None
station_line (Some number) = Some (statement.Station (station_number number))

-- ---- the values of events

-- how many times it happens: None for no number, and None inside for a number that is out of its range
abbrev pub times_of : Option ℕ → Option (Option ℕ)
times_of None = None
times_of (Some n) = Some (within 1 4000000 (Some n))

-- 1 to 245 bytes, and bit 6 of the first, CMD, is clear
abbrev pub is_payload : List ℕ → Bool
is_payload [] = false
is_payload (cmd ∷ rest) = nat_le (length (cmd ∷ rest)) 245 && (bit_and cmd 0x40 == 0)

abbrev pub payload_of : List ℕ → Option (List ℕ)
payload_of bytes = if is_payload bytes then Some bytes else None

-- an alteration by 00 is none
abbrev pub mask_of : ℕ → Option ℕ
mask_of mask = if mask == 0 then None else Some mask

-- 1 to 250 bytes
abbrev pub foreign_of : List ℕ → Option (List ℕ)
foreign_of bytes = if nat_le 1 (length bytes) && nat_le (length bytes) 250 then Some bytes else None

-- a source is a byte
abbrev pub source_of : ℕ → Option ℕ
source_of src = within 0 255 (Some src)

-- ---- events of a full-duplex link

-- the letters `k`, `t`, `d` and `x`
abbrev pub verb_of : ℕ → Option Verb
verb_of letter =
    if letter == 107 then Some Take
    else if letter == 116 then Some Tick
    else if letter == 100 then Some Deliver
    else if letter == 120 then Some Lose
    else None

abbrev pub times_line : EndLetter → Option Verb → Option ℕ → Option Statement
times_line side (Some verb) (Some n) = Some (statement.Times side verb (within 1 4000000 (Some n)))
times_line side verb n = None

abbrev pub issue_line : EndLetter → Option (List ℕ) → Option Statement
issue_line side None = None
issue_line side (Some bytes) = Some (statement.Issue side (payload_of bytes))

-- the same in the name of a source
abbrev pub issue_from : EndLetter → Option ℕ → Option (List ℕ) → Option Statement
issue_from side (Some src) (Some bytes) = Some (statement.IssueFrom side (source_of src) (payload_of bytes))
issue_from side src bytes = None

abbrev pub alter_line : EndLetter → Option ℕ → Option Statement
alter_line side None = None
alter_line side (Some mask) = Some (statement.Alter side (mask_of mask))

abbrev pub foreign_line : EndLetter → Option (List ℕ) → Option Statement
foreign_line side None = None
foreign_line side (Some bytes) = Some (statement.Foreign side (foreign_of bytes))

-- the letters `i`, `c` and `n`, and those of `verb_of`
abbrev pub side_event : EndLetter → ℕ → List ℕ → Option Statement
side_event side letter operand =
    if letter == 105 then issue_line side (hex_of operand)
    else if letter == 99 then alter_line side (byte_of operand)
    else if letter == 110 then foreign_line side (hex_of operand)
    else times_line side (verb_of letter) (number_of operand)

-- the letter `i` alone stands before a source and an operand
abbrev pub side_from : EndLetter → ℕ → Option ℕ → List ℕ → Option Statement
side_from side letter src operand = if letter == 105 then issue_from side src (hex_of operand) else None

-- ---- events of a half-duplex line

abbrev pub half_issue : ℕ → Option (List ℕ) → Option HalfEvent
half_issue station None = None
half_issue station (Some bytes) = Some (half.Issue station (payload_of bytes))

-- the same in the name of a source
abbrev pub half_issue_from : Option ℕ → Option ℕ → Option (List ℕ) → Option HalfEvent
half_issue_from (Some station) (Some src) (Some bytes) = Some (half.IssueFrom station (source_of src) (payload_of bytes))
half_issue_from station src bytes = None

abbrev pub master_take : Option ℕ → Option HalfEvent
master_take n = option_map half.MasterTake (times_of n)

abbrev pub master_tick : Option ℕ → Option HalfEvent
master_tick n = option_map half.MasterTick (times_of n)

abbrev pub station_take : ℕ → Option ℕ → Option HalfEvent
station_take station n = option_map (half.StationTake station) (times_of n)

abbrev pub half_deliver : Way → Option ℕ → Option HalfEvent
half_deliver way n = option_map (half.Deliver way) (times_of n)

abbrev pub half_lose : Way → Option ℕ → Option HalfEvent
half_lose way n = option_map (half.Lose way) (times_of n)

abbrev pub half_alter : Way → Option ℕ → Option HalfEvent
half_alter way None = None
half_alter way (Some mask) = Some (half.Alter way (mask_of mask))

abbrev pub half_foreign : Way → Option (List ℕ) → Option HalfEvent
half_foreign way None = None
half_foreign way (Some bytes) = Some (half.Foreign way (foreign_of bytes))

-- what happens in one way between the master and a station: the letters `d`, `x`, `c` and `n`
abbrev pub way_event : Way → ℕ → List ℕ → Option HalfEvent
way_event way letter operand =
    if letter == 100 then half_deliver way (number_of operand)
    else if letter == 120 then half_lose way (number_of operand)
    else if letter == 99 then half_alter way (byte_of operand)
    else if letter == 110 then half_foreign way (hex_of operand)
    else None

-- once: the letters `d` and `x`
abbrev pub way_once : Way → ℕ → Option HalfEvent
way_once way letter =
    if letter == 100 then Some (half.Deliver way (Some 1))
    else if letter == 120 then Some (half.Lose way (Some 1))
    else None

-- the master without a station: the letters `k` and `t`
abbrev pub master_times : ℕ → Option ℕ → Option HalfEvent
master_times letter n =
    if letter == 107 then master_take n
    else if letter == 116 then master_tick n
    else None

abbrev pub once_to_station : Option ℕ → ℕ → Option HalfEvent
once_to_station None letter = None
once_to_station (Some station) letter = way_once (ToStation station) letter

-- the master with one operand: a number, or for the letters `d` and `x` a station
abbrev pub master_event : ℕ → List ℕ → Option HalfEvent
master_event letter operand =
    if (letter == 107) || (letter == 116) then master_times letter (number_of operand)
    else once_to_station (number_of operand) letter

-- the master with a station and an operand: the letter `i`, and those of `way_event`
abbrev pub to_station : Option ℕ → ℕ → List ℕ → Option HalfEvent
to_station None letter operand = None
to_station (Some station) letter operand =
    if letter == 105 then half_issue station (hex_of operand)
    else way_event (ToStation station) letter operand

-- the master with a station, a source and an operand: the letter `i`
abbrev pub to_station_from : Option ℕ → Option ℕ → ℕ → List ℕ → Option HalfEvent
to_station_from station src letter operand = if letter == 105 then half_issue_from station src (hex_of operand) else None

-- a station alone: the letters `k`, `d` and `x`
abbrev pub station_once : ℕ → ℕ → Option HalfEvent
station_once station letter =
    if letter == 107 then Some (half.StationTake station (Some 1))
    else way_once (ToMaster station) letter

-- a station with an operand: the letter `k`, and those of `way_event`
abbrev pub station_event : ℕ → ℕ → List ℕ → Option HalfEvent
station_event station letter operand =
    if letter == 107 then station_take station (number_of operand)
    else way_event (ToMaster station) letter operand

-- a command of a station to the end of another number
abbrev pub issue_to : ℕ → Option ℕ → Option (List ℕ) → Option HalfEvent
issue_to station (Some to) (Some bytes) = Some (half.StationIssue station to (payload_of bytes))
issue_to station to bytes = None

-- a station with the number of another end and an operand: the letter `i`
abbrev pub from_station : Option EndName → ℕ → Option ℕ → List ℕ → Option HalfEvent
from_station (Some (Station station)) letter to operand = if letter == 105 then issue_to station to (hex_of operand) else None
from_station end letter to operand = None

abbrev pub half_line : Option HalfEvent → Option Statement
half_line event = option_map statement.Half event

-- ---- events of either mode

-- a word of an event ends in the letter of its verb, and what stands before it names the end
abbrev pub end_in : List ℕ → Option EndName
end_in word = end_of (take (length word - 1) word)

abbrev pub letter_in : List ℕ → ℕ
letter_in word = slice_index word (length word - 1)

abbrev pub event_alone : Option EndName → ℕ → Option Statement
event_alone None letter = None
event_alone (Some (Known side)) letter = times_line side (verb_of letter) (Some 1)
event_alone (Some Master) letter = half_line (master_times letter (Some 1))
event_alone (Some (Station station)) letter = half_line (station_once station letter)

abbrev pub event_with : Option EndName → ℕ → List ℕ → Option Statement
event_with None letter operand = None
event_with (Some (Known side)) letter operand = side_event side letter operand
event_with (Some Master) letter operand = half_line (master_event letter operand)
event_with (Some (Station station)) letter operand = half_line (station_event station letter operand)

-- the number before the operand is a source at an end of a full-duplex link, and a station at the master
abbrev pub event_to : Option EndName → ℕ → Option ℕ → List ℕ → Option Statement
event_to (Some (Known side)) letter number operand = side_from side letter number operand
event_to (Some Master) letter number operand = half_line (to_station number letter operand)
event_to end letter number operand = None

-- the master alone has events with a station, a source and an operand
abbrev pub event_to_from : Option EndName → ℕ → Option ℕ → Option ℕ → List ℕ → Option Statement
event_to_from (Some Master) letter station src operand = half_line (to_station_from station src letter operand)
event_to_from end letter station src operand = None

abbrev pub bare_event : List ℕ → Option Statement
bare_event [] = None
bare_event (byte ∷ rest) = event_alone (end_in (byte ∷ rest)) (letter_in (byte ∷ rest))

abbrev pub operand_event : List ℕ → List ℕ → Option Statement
operand_event [] operand = None
operand_event (byte ∷ rest) operand = event_with (end_in (byte ∷ rest)) (letter_in (byte ∷ rest)) operand

abbrev pub number_operand_event : List ℕ → List ℕ → List ℕ → Option Statement
number_operand_event [] number operand = None
number_operand_event (byte ∷ rest) number operand = event_to (end_in (byte ∷ rest)) (letter_in (byte ∷ rest)) (number_of number) operand

abbrev pub source_operand_event : List ℕ → List ℕ → List ℕ → List ℕ → Option Statement
source_operand_event [] station src operand = None
source_operand_event (byte ∷ rest) station src operand = event_to_from (end_in (byte ∷ rest)) (letter_in (byte ∷ rest)) (number_of station) (number_of src) operand

-- ---- all forms, by the count of their words

abbrev pub one_word : List ℕ → Option Statement
one_word word = if bytes_eq word (codes "end") then Some statement.End else bare_event word

abbrev pub two_words : List ℕ → List ℕ → Option Statement
two_words word operand = if bytes_eq word (codes "station") then station_line (number_of operand) else operand_event word operand

abbrev pub three_words : List ℕ → List ℕ → List ℕ → Option Statement
three_words verb key value = if bytes_eq verb (codes "set") then set_line key value else number_operand_event verb key value

abbrev pub five_words : List ℕ → List ℕ → List ℕ → List ℕ → List ℕ → Option Statement
five_words verb end first second third =
    if bytes_eq verb (codes "file") then file_line (end_of end) (number_of first) (file_type second) (number_of third)
    else if bytes_eq verb (codes "word") then word_line (end_of end) (number_of first) (number_of second) (register_of third)
    else None

-- what the words of a line say, if they are one of the forms
unfoldable pub statement_of : List (List ℕ) → Option Statement
statement_of (word ∷ []) = one_word word
statement_of (word ∷ operand ∷ []) = two_words word operand
statement_of (verb ∷ key ∷ value ∷ []) = three_words verb key value
statement_of (word ∷ station ∷ src ∷ operand ∷ []) = source_operand_event word station src operand
statement_of (verb ∷ end ∷ first ∷ second ∷ third ∷ []) = five_words verb end first second third
statement_of other = None

abbrev pub issue_by : List ℕ → List ℕ → List ℕ → Option HalfEvent
issue_by [] to operand = None
issue_by (byte ∷ rest) to operand = from_station (end_in (byte ∷ rest)) (letter_in (byte ∷ rest)) (number_of to) operand

-- what the words of a line say by the one form that isn't among them: a station issues a command
unfoldable pub station_issue : List (List ℕ) → Option HalfEvent
station_issue (word ∷ to ∷ operand ∷ []) = issue_by word to operand
station_issue other = None

-- ---- memory

-- a key names the block of an end
abbrev pub is_block_key : List ℕ → Bool
is_block_key key = option_map_or (λ stop. bytes_eq (drop (stop + 1) key) (codes "block")) (position (λ byte. byte == 46) key) false

-- reading these words may take memory: an event with an operand, or the block of an end
abbrev pub takes_memory : List (List ℕ) → Bool
takes_memory (word ∷ operand ∷ []) = not (bytes_eq word (codes "station"))
takes_memory (verb ∷ key ∷ value ∷ []) = not (bytes_eq verb (codes "set")) || is_block_key key
takes_memory (word ∷ station ∷ src ∷ operand ∷ []) = true
takes_memory other = false
