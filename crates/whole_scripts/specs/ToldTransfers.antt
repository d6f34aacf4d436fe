-- What a transfer came to, by the lines of a report that tell what became of end a's commands: order n is command n.
use Rattle.std.specs.Prelude.{ℕ, zero, suc, ◌*◌, List, [], ◌∷◌, ◌++◌, Option, Some, if◌then◌else◌}
use Rattle.bulk_orders.specs.declared.outcome.Bulk.{Bulk}
use Rattle.bulk_orders.specs.declared.outcome.Bulk.TheVariants.{Missing}
use Rattle.bulk_orders.specs.Orders.{orders_of, words_of_order}
use Rattle.bulk_orders.specs.Outcomes.{data_of, fault_of_reply, is_whole, result_of}
use Rattle.df1_node.specs.Initiator.{Standing, Waiting, Out, Answered, Undelivered, Unanswered}
use Rattle.each_once.specs.Tells.{outcomes_in}
use Rattle.replay_report.specs.declared.record.Line.{Line}
use Rattle.script_statement.specs.declared.who.Who.TheVariants.{A}

-- why an order wasn't done of which this is told, where its reply is to have data of so many bytes: no reply is told of it, the reply tells a
-- refusal, or it has other data
abbrev pub fault_by : (n size : ℕ) → Standing → Option Bulk
fault_by n size Waiting = Some (Missing n)
fault_by n size (Out left) = Some (Missing n)
fault_by n size (Answered reply) = fault_of_reply n size reply
fault_by n size Undelivered = Some (Missing n)
fault_by n size Unanswered = Some (Missing n)

abbrev pub fault_told : (n size : ℕ) → List Standing → Option Bulk
fault_told n size [] = Some (Missing n)
fault_told n size (outcome ∷ more) = fault_by n size outcome

-- the data of the reply that is told
abbrev pub data_by : Standing → List ℕ
data_by Waiting = []
data_by (Out left) = []
data_by (Answered reply) = data_of reply
data_by Undelivered = []
data_by Unanswered = []

abbrev pub data_told : List Standing → List ℕ
data_told [] = []
data_told (outcome ∷ more) = data_by outcome

-- of a transfer that reads so many words
abbrev pub pull_told : List Line → ℕ → Bulk
pull_told lines words = result_of (λ n. fault_told n (2 * words_of_order words n) (outcomes_in A n lines)) (orders_of words)

-- of one that writes so many words: a reply has no data
abbrev pub push_told : List Line → ℕ → Bulk
push_told lines words = result_of (λ n. fault_told n 0 (outcomes_in A n lines)) (orders_of words)

-- the data of the replies to the first so many orders, in order
abbrev pub all_data_told : List Line → ℕ → List ℕ
all_data_told lines zero = []
all_data_told lines (suc n) = all_data_told lines n ++ data_told (outcomes_in A (suc n) lines)

-- the words of a transfer that reads, low bytes first, where it is whole
abbrev pub words_told : List Line → ℕ → List ℕ
words_told lines words = if is_whole (pull_told lines words) then all_data_told lines (orders_of words) else []
