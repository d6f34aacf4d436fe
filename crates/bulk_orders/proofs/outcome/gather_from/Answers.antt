use Rattle.std.proofs.Common.{◌≡◌, ◌+◌, ◌*◌, ◌≤◌, ℕ, Bool, [], Option, Some, None, cond, sym, ap, subst, ◌∙◌, arith}
use Rattle.std.proofs.lemmas.Grind.{common_steps}
use Rattle.bulk_orders.specs.declared.outcome.Bulk.{Bulk}
use Rattle.bulk_orders.specs.Orders.{orders_of, words_of_order}
use Rattle.bulk_orders.specs.Outcomes.{data_pulled_from, fault_of, is_whole, number_of, pull_fault_from, pull_result_from}
use Rattle.bulk_orders.proofs.Faults.{fault-at-number, fault-not-whole, next-numbers, none-more, pulled-more, told-first}
use Rattle.df1_node.specs.Initiator.{InitiatorState}
use Rattle.bulk_orders.proofs.outcome.gather_from.Goals as goal

-- the fault, or none, of the order behind the first so many
here-at : (s : InitiatorState) (words first n size number : ℕ) (came : Option Bulk) → size ≡ 2 * words_of_order words (n + 1) → (1 ≤ n → 1 ≤ first) → number ≡ first + n → fault_of s size number ≡ came → pull_fault_from s first words (n + 1) ≡ came
here-at s words first n size number came sizes some is told = subst (λ (m : ℕ). fault_of s m (number_of first (n + 1)) ≡ came) sizes (fault-at-number s size first n number came some is told)

pub returns-in-Err-clause-result : goal.returns-in-Err-clause-result
returns-in-Err-clause-result c =
    let within : c.loop-n.n + 1 ≤ orders_of c.args.words = omega arith in
    let sizes : 2 * c.from-size.result ≡ 2 * words_of_order c.args.words (c.loop-n.n + 1) = ap (λ (k : ℕ). 2 * k) (c.from-size.ensures ∙ c.word_count.ensures.count) in
    let here : pull_fault_from c.args.from.now c.args.first c.args.words (c.loop-n.n + 1) ≡ Some c.in-Err.fault =
    here-at c.args.from.now c.args.words c.args.first c.loop-n.n (2 * c.from-size.result) (c.args.first + c.from.result) (Some c.in-Err.fault) sizes (λ some. (c.loop-n.invariant.numbers some).0) (ap (λ (k : ℕ). c.args.first + k) c.from.ensures) c.in-Err.ensures.data in
    sym (told-first (pull_fault_from c.args.from.now c.args.first c.args.words) c.loop-n.n (orders_of c.args.words) c.in-Err.fault c.loop-n.invariant.none here within)

pub returns-in-Err-clause-words : goal.returns-in-Err-clause-words
returns-in-Err-clause-words c =
    let within : c.loop-n.n + 1 ≤ orders_of c.args.words = omega arith in
    let sizes : 2 * c.from-size.result ≡ 2 * words_of_order c.args.words (c.loop-n.n + 1) = ap (λ (k : ℕ). 2 * k) (c.from-size.ensures ∙ c.word_count.ensures.count) in
    let here : pull_fault_from c.args.from.now c.args.first c.args.words (c.loop-n.n + 1) ≡ Some c.in-Err.fault =
    here-at c.args.from.now c.args.words c.args.first c.loop-n.n (2 * c.from-size.result) (c.args.first + c.from.result) (Some c.in-Err.fault) sizes (λ some. (c.loop-n.invariant.numbers some).0) (ap (λ (k : ℕ). c.args.first + k) c.from.ensures) c.in-Err.ensures.data in
    let told : pull_result_from c.args.from.now c.args.first c.args.words ≡ c.in-Err.fault = told-first (pull_fault_from c.args.from.now c.args.first c.args.words) c.loop-n.n (orders_of c.args.words) c.in-Err.fault c.loop-n.invariant.none here within in
    let none = fault-not-whole c.args.from.now (2 * words_of_order c.args.words (c.loop-n.n + 1)) (number_of c.args.first (c.loop-n.n + 1)) c.in-Err.fault here in
    c.clear-in-Err.ensures ∙ sym (ap (λ (b : Bool). cond b (data_pulled_from c.args.from.now c.args.first (orders_of c.args.words)) []) (ap is_whole told ∙ none))

pub loop-n-preserved : goal.loop-n-preserved
loop-n-preserved c =
    let sizes : 2 * c.from-size.result ≡ 2 * words_of_order c.args.words (c.loop-n.n + 1) = ap (λ (k : ℕ). 2 * k) (c.from-size.ensures ∙ c.word_count.ensures.count) in
    let number_is : c.args.first + c.from.result ≡ c.args.first + c.loop-n.n = ap (λ (k : ℕ). c.args.first + k) c.from.ensures in
    let more = pulled-more c.args.from.now c.args.first c.loop-n.n (c.args.first + c.from.result) c.in-Ok.data.now c.loop-n.into.items (λ some. (c.loop-n.invariant.numbers some).0) number_is c.in-Ok.ensures.data.1 c.loop-n.invariant.bytes in
    record {
      none =
          none-more (pull_fault_from c.args.from.now c.args.first c.args.words) c.loop-n.n c.loop-n.invariant.none
          (here-at c.args.from.now c.args.words c.args.first c.loop-n.n (2 * c.from-size.result) (c.args.first + c.from.result) None sizes (λ some. (c.loop-n.invariant.numbers some).0) number_is c.in-Ok.ensures.data.0);
      bytes = grind (arith, common_steps, more);
      size = grind (arith, common_steps);
      numbers = λ some. next-numbers c.args.first c.loop-n.n (c.args.first + c.from.result) c.loop-n.invariant.numbers number_is c.in-Ok.ensures.number.0 c.in-Ok.ensures.number.1;
    }
