-- What a transfer comes to, by the outcomes of the commands that carry its orders: they are numbered from its first on, each one more than that before.
use Rattle.std.specs.Prelude.{ℕ, zero, suc, ◌*◌, Bool, true, false, List, [], ◌++◌, length, drop, slice_index, ◌==◌, if◌then◌else◌, Option, Some, None}
use Rattle.std.specs.Option.{option_or, unwrap_or}
use Rattle.pccc_envelope.specs.Envelope.{envelope_of}
use Rattle.df1_node.specs.declared.outcome.Outcome.{Outcome}
use Rattle.df1_node.specs.declared.outcome.Outcome.TheVariants as outcome
use Rattle.df1_node.specs.Initiator.{InitiatorState, outcome_of, reply_of}
use Rattle.bulk_orders.specs.declared.outcome.Bulk.{Bulk}
use Rattle.bulk_orders.specs.declared.outcome.Bulk.TheVariants.{Whole, Missing, Refused, Odd}
use Rattle.bulk_orders.specs.Orders.{orders_of, words_of_order}

-- STS of a reply
abbrev pub status_of : List ℕ → ℕ
status_of reply = (envelope_of reply).sts

-- EXT STS of a reply, which is there where STS is F0, and 0 where there is none
abbrev pub extension_of : List ℕ → ℕ
extension_of reply = if status_of reply == 0xF0 then slice_index reply 6 else 0

-- what follows the envelope of a reply
abbrev pub data_of : List ℕ → List ℕ
data_of reply = drop 6 reply

-- a reply in which a command is refused, or whose data aren't so many bytes
abbrev pub fault_of_reply : ℕ → ℕ → List ℕ → Option Bulk
fault_of_reply n size reply =
    if status_of reply == 0 then (if length (data_of reply) == size then None else Some (Odd n))
    else Some (Refused n (status_of reply) (extension_of reply))

abbrev pub fault_at : ℕ → ℕ → List ℕ → Option Outcome → Option Bulk
fault_at n size reply None = Some (Missing n)
fault_at n size reply (Some outcome.Waiting) = Some (Missing n)
fault_at n size reply (Some outcome.Out) = Some (Missing n)
fault_at n size reply (Some outcome.Answered) = fault_of_reply n size reply
fault_at n size reply (Some outcome.Undelivered) = Some (Missing n)
fault_at n size reply (Some outcome.Unanswered) = Some (Missing n)

-- why command n isn't a good order of a transfer, whose reply has data of so many bytes: it isn't answered; it is refused; or its
-- reply has other data
abbrev pub fault_of : InitiatorState → ℕ → ℕ → Option Bulk
fault_of s size n = fault_at n size (reply_of s n) (outcome_of s n)

-- the fault of the lowest of the first so many orders that has one
abbrev pub first_fault : (ℕ → Option Bulk) → ℕ → Option Bulk
first_fault fault zero = None
first_fault fault (suc n) = option_or (first_fault fault n) (fault (suc n))

-- where none of a transfer's commands has a fault, it is whole
abbrev pub result_of : (ℕ → Option Bulk) → ℕ → Bulk
result_of fault count = unwrap_or (first_fault fault count) Whole

-- the number of the command that carries an order of a transfer, by the number of the first: of a transfer from command 1 on, order j is
-- command j, and each command more before its first makes that one more; no command has the number 0
abbrev pub number_of : (first j : ℕ) → ℕ
number_of zero j = zero
number_of (suc zero) j = j
number_of (suc (suc before)) j = suc (number_of (suc before) j)

-- of a transfer from a command on that reads so many words: the reply to each order has the bytes that it asks for
abbrev pub pull_fault_from : InitiatorState → (first words j : ℕ) → Option Bulk
pull_fault_from s first words j = fault_of s (2 * words_of_order words j) (number_of first j)

abbrev pub pull_result_from : InitiatorState → (first words : ℕ) → Bulk
pull_result_from s first words = result_of (pull_fault_from s first words) (orders_of words)

-- of a transfer from a command on that writes: the reply to each order has no data
abbrev pub push_fault_from : InitiatorState → (first j : ℕ) → Option Bulk
push_fault_from s first j = fault_of s 0 (number_of first j)

abbrev pub push_result_from : InitiatorState → (first words : ℕ) → Bulk
push_result_from s first words = result_of (push_fault_from s first) (orders_of words)

-- the data of the replies to the first so many orders, in order
abbrev pub data_pulled_from : InitiatorState → (first count : ℕ) → List ℕ
data_pulled_from s first zero = []
data_pulled_from s first (suc n) = data_pulled_from s first n ++ data_of (reply_of s (number_of first (suc n)))

abbrev pub is_whole : Bulk → Bool
is_whole Whole = true
is_whole (Missing number) = false
is_whole (Refused number sts ext) = false
is_whole (Odd number) = false

-- the words of a transfer from a command on that reads, low bytes first, where it is whole
abbrev pub words_pulled_from : InitiatorState → (first words : ℕ) → List ℕ
words_pulled_from s first words = if is_whole (pull_result_from s first words) then data_pulled_from s first (orders_of words) else []

-- ---- of a transfer whose orders are the commands 1, 2 and so on

abbrev pub pull_result : InitiatorState → ℕ → Bulk
pull_result s words = pull_result_from s 1 words

abbrev pub push_result : InitiatorState → ℕ → Bulk
push_result s words = push_result_from s 1 words

abbrev pub data_pulled : InitiatorState → ℕ → List ℕ
data_pulled s count = data_pulled_from s 1 count

abbrev pub words_pulled : InitiatorState → ℕ → List ℕ
words_pulled s words = words_pulled_from s 1 words

-- ---- of a transfer so far

-- nothing became of a command yet: it waits or is out
abbrev pub is_open : Option Outcome → Bool
is_open None = false
is_open (Some outcome.Waiting) = true
is_open (Some outcome.Out) = true
is_open (Some outcome.Answered) = false
is_open (Some outcome.Undelivered) = false
is_open (Some outcome.Unanswered) = false

-- a transfer that came to this so far is still under way: nothing became yet of the command that is told as missing
abbrev pub is_under_way : InitiatorState → Bulk → Bool
is_under_way s Whole = false
is_under_way s (Missing number) = is_open (outcome_of s number)
is_under_way s (Refused number sts ext) = false
is_under_way s (Odd number) = false
