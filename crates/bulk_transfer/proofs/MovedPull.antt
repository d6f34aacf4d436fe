-- A rehearsed transfer that reads: its words are those of end b's file.
use Rattle.std.proofs.Common.{◌≡◌, ◌∙◌, ◌⊎◌, ℕ, zero, suc, ◌+◌, ◌*◌, ◌/◌, ◌%◌, ◌≤◌, Some, List, [], ◌∷◌, ◌++◌, length, map, min, sym, ap, ap₂, subst, inl, inr, arith, add-zero, cond, Bool}
use Rattle.std.specs.Prelude.{false, nat_le, slice_get, true}
use Rattle.std.specs.Option.{option_map_or}
use Rattle.std.specs.List.{range_with_len}
use Rattle.std.proofs.Math.Numerals.{one-add}
use Rattle.std.proofs.lemmas.List.Concat.{flat_map-append}
use Rattle.std.proofs.lemmas.List.FromFn.{length-map-range_with_len}
use Rattle.data_files.specs.Tables.{DataTables, file_of, word_count, words_at}
use Rattle.data_files.specs.WordBytes.{bytes_of}
use Rattle.data_files.proofs.WordLists.{length-bytes_of}
use Rattle.df1_node.specs.Answer.{StationState, after_answer, reply_to}
use Rattle.df1_node.specs.Initiator.{InitiatorState, reply_of}
use Rattle.replay_report.specs.declared.record.Line.{Line}
use Rattle.script_statement.specs.declared.who.Who.TheVariants.{A, B}
use Rattle.each_once.specs.Exchanges.{exchanges}
use Rattle.each_once.specs.Once.{IsAnswered}
use Rattle.each_once.specs.Tells.{executed_in}
use Rattle.bulk_orders.specs.declared.outcome.Bulk.TheVariants.{Whole, Odd}
use Rattle.bulk_orders.specs.Orders.{first_word, orders_of, pull_payload, words_of_order}
use Rattle.bulk_orders.specs.Outcomes.{data_of, data_pulled, is_whole, pull_result, status_of, words_pulled}
use Rattle.bulk_transfer.proofs.MovedAnswers.{HasData, HasFileOf, HasPart, IsRefused, body_of, reads-all, reads-order}
use Rattle.bulk_transfer.proofs.MovedBodies.{body-at, exchange-at, executed-at, order_bodies, still-replies}
use Rattle.bulk_transfer.proofs.MovedReplies.{AreTold, answered-by, reply-told}
use Rattle.bulk_transfer.proofs.MovedResults.{Fits, IsAnsweredBy, IsGood, all-good, never-odd, reply-is, whole-where-good}

-- ---- words of a file, one part after another

parts : (word : ℕ → ℕ) (first n more : ℕ) → map word (range_with_len first (n + more)) ≡ map word (range_with_len first n) ++ map word (range_with_len (first + n) more)
parts word first zero more =
    ap₂ (λ (a b : ℕ). map word (range_with_len a b)) (sym (add-zero first)) (let same : 0 + more ≡ more = omega arith in same)
parts word first (suc n) more =
    let longer : suc n + more ≡ suc (n + more) = omega arith in
    let next : first + 1 + n ≡ first + suc n = omega arith in
    ap (λ (count : ℕ). map word (range_with_len first count)) longer
    ∙ ap (λ (words : List ℕ). word first ∷ words) (parts word (first + 1) n more)
    ∙ ap (λ (at : ℕ). map word (range_with_len first (suc n)) ++ map word (range_with_len at more)) next

bytes-parts : (tables : DataTables) (file first n more : ℕ) → bytes_of (words_at tables file first (n + more)) ≡ bytes_of (words_at tables file first n) ++ bytes_of (words_at tables file (first + n) more)
bytes-parts tables file first n more = ap bytes_of (parts _ first n more) ∙ flat_map-append (λ (word : ℕ). word % 256 ∷ word / 256 ∷ []) (words_at tables file first n) (words_at tables file (first + n) more)

size-of : (tables : DataTables) (file first count : ℕ) → length (bytes_of (words_at tables file first count)) ≡ 2 * count
size-of tables file first count = length-bytes_of (words_at tables file first count) ∙ ap (λ (n : ℕ). 2 * n) (length-map-range_with_len _ first count)

-- the words of the first so many orders
abbrev words_before : ℕ → ℕ → ℕ
words_before words n = min words (100 * n)

-- the data of the orders so far are the words so far
data-so-far : (i : InitiatorState) (tables : DataTables) (file words : ℕ) →
    ((n : ℕ) → 1 ≤ n → n ≤ orders_of words → data_of (reply_of i n) ≡ bytes_of (words_at tables file (first_word n) (words_of_order words n))) → (n : ℕ) → n ≤ orders_of words → data_pulled i n ≡ bytes_of (words_at tables file 0 (words_before words n))
data-so-far i tables file words each zero within = let none : 0 ≡ words_before words 0 = omega arith in ap (λ (count : ℕ). bytes_of (words_at tables file 0 count)) none
data-so-far i tables file words each (suc n) within =
    let first : first_word (suc n) ≡ 0 + words_before words n = omega (arith, within) in
    let all : words_before words n + words_of_order words (suc n) ≡ words_before words (suc n) = omega (arith, within) in
    ap₂ (λ (xs ys : List ℕ). xs ++ ys) (data-so-far i tables file words each n (omega (arith, within)))
    (each (suc n) (omega arith) within ∙ ap (λ (at : ℕ). bytes_of (words_at tables file at (words_of_order words (suc n)))) first)
    ∙ sym (bytes-parts tables file 0 (words_before words n) (words_of_order words (suc n)))
    ∙ ap (λ (count : ℕ). bytes_of (words_at tables file 0 count)) all

-- ---- what is told

-- the bodies of a transfer's orders
abbrev pub pull_bodies : ℕ → ℕ → ℕ → ℕ → ℕ → List (List ℕ)
pull_bodies file words src dst number = order_bodies (pull_payload file words) src dst number 1 (orders_of words)

-- a reply refuses, or tells words of a file, which the station has
abbrev RefusesOrTells : StationState → ℕ → ℕ → ℕ → List ℕ → Type 0
RefusesOrTells station file first count reply = IsRefused reply ⊎ (HasData reply (bytes_of (words_at station.tables file first count)) × HasPart station file first count)

told-words : (station : StationState) (file first count : ℕ) (reply : List ℕ) → status_of reply ≡ 0 → RefusesOrTells station file first count reply → (data_of reply ≡ bytes_of (words_at station.tables file first count)) × HasPart station file first count
told-words station file first count reply status (inl refused) = absurd (omega (arith, status, refused))
told-words station file first count reply status (inr has) = (has.0.1, has.1)

has-size : (station : StationState) (file first count : ℕ) (reply : List ℕ) → RefusesOrTells station file first count reply → Fits (2 * count) reply
has-size station file first count reply (inl refused) = inl refused
has-size station file first count reply (inr has) = inr (has.0.0, ap length has.0.1 ∙ size-of station.tables file first count)

module _ (file words src dst number : ℕ) (i : InitiatorState) (station : StationState) (lines : List Line) (are : AreTold i (pull_bodies file words src dst number) station lines) where
  still : (m : ℕ) (body : List ℕ) → slice_get (executed_in B lines) m ≡ Some body → after_answer station body ≡ station
  still m body is =
      let at = executed-at (executed_in B lines) (pull_bodies file words src dst number) are.once.in_order.0 are.once.in_order.3 m body is in
      let order = body-at (pull_payload file words) src dst number 1 (orders_of words) at.0 body at.2 in
      ap (after_answer station) order.1 ∙ (reads-order station (number + at.0) src dst file words (1 + at.0)).stays

  reply-of-order : (k : ℕ) (reply : List ℕ) → IsAnsweredBy i (suc k) reply → reply ≡ reply_to station (body_of (number + k) src dst (pull_payload file words (suc k)))
  reply-of-order k reply by =
      let to = reply-told i (pull_bodies file words src dst number) station lines are k reply by in
      let exchange = exchange-at station (executed_in B lines) to.body reply to.is_answer in
      let order = body-at (pull_payload file words) src dst number 1 (orders_of words) k to.body to.is_command in
      still-replies station (executed_in B lines) still exchange.0 to.body reply exchange.2
      ∙ ap (reply_to station) (order.1 ∙ ap (λ (j : ℕ). body_of (number + k) src dst (pull_payload file words j)) (one-add k))

  -- the reply to order n refuses it, or tells its words, which the station has
  refused-or-words : (n : ℕ) → 1 ≤ n → (reply : List ℕ) → IsAnsweredBy i n reply → RefusesOrTells station file (first_word n) (words_of_order words n) reply
  refused-or-words zero some reply by = absurd (omega (arith, some))
  refused-or-words (suc k) some reply by =
      subst (RefusesOrTells station file (first_word (suc k)) (words_of_order words (suc k))) (sym (reply-of-order k reply by)) (reads-order station (number + k) src dst file words (suc k)).answers

  fits : (n : ℕ) → 1 ≤ n → n ≤ orders_of words → (reply : List ℕ) → IsAnsweredBy i n reply → Fits (2 * words_of_order words n) reply
  fits n some within reply by = has-size station file (first_word n) (words_of_order words n) reply (refused-or-words n some reply by)

  pub pull-never-odd : (n : ℕ) → pull_result i words ≡ Odd n → ⊥
  pull-never-odd = never-odd i (λ n. 2 * words_of_order words n) (orders_of words) fits

  -- where the transfer is whole, each does
  tells : pull_result i words ≡ Whole → (n : ℕ) → 1 ≤ n → n ≤ orders_of words → (data_of (reply_of i n) ≡ bytes_of (words_at station.tables file (first_word n) (words_of_order words n))) × HasPart station file (first_word n) (words_of_order words n)
  tells whole n some within =
      let good = all-good i (λ n. 2 * words_of_order words n) (orders_of words) fits whole n some within in
      let told = told-words station file (first_word n) (words_of_order words n) good.reply good.status (refused-or-words n some good.reply good.answered) in
      (ap data_of (reply-is i n good.reply good.answered) ∙ told.0, told.1)

  pub pull-words : pull_result i words ≡ Whole → words_pulled i words ≡ bytes_of (words_at station.tables file 0 words)
  pull-words whole =
      let all : words_before words (orders_of words) ≡ words = omega arith in
      ap (λ (b : Bool). cond b (data_pulled i (orders_of words)) []) (ap is_whole whole)
      ∙ data-so-far i station.tables file words (λ n some within. (tells whole n some within).0) (orders_of words) (omega arith)
      ∙ ap (λ (count : ℕ). bytes_of (words_at station.tables file 0 count)) all

  -- and the file has the words
  pub pull-file : 1 ≤ words → pull_result i words ≡ Whole → HasPart station file 0 words
  pull-file some whole =
      let all : first_word (orders_of words) + words_of_order words (orders_of words) ≡ 0 + words = omega (arith, some) in
      subst (λ (end : ℕ). option_map_or (λ f. nat_le end (word_count f)) (file_of station.tables.specs file) false ≡ true) all (tells whole (orders_of words) (omega (arith, some)) (omega arith)).1

  -- where all commands are answered and the file has the words, the transfer is whole
  pub pull-whole : ((n : ℕ) → 1 ≤ n → n ≤ orders_of words → IsAnswered A (pull_bodies file words src dst number) (exchanges station (executed_in B lines)) lines n) → HasFileOf station.tables.specs file words → pull_result i words ≡ Whole
  pull-whole answered has = whole-where-good i (λ n. 2 * words_of_order words n) (orders_of words) good
    where
      good-reply : (n : ℕ) → 1 ≤ n → n ≤ orders_of words → (reply : List ℕ) → IsAnsweredBy i n reply → IsGood i (2 * words_of_order words n) n
      good-reply zero some within reply by = absurd (omega (arith, some))
      good-reply (suc k) some within reply by =
          let data' = reads-all station (number + k) src dst file words (suc k) some within has in
          let is = reply-of-order k reply by in
          record {
            reply = reply;
            answered = by;
            status = ap status_of is ∙ data'.0;
            size_is = ap (λ (r : List ℕ). length (data_of r)) is ∙ ap length data'.1 ∙ size-of station.tables file (first_word (suc k)) (words_of_order words (suc k));
          }

      good : (n : ℕ) → 1 ≤ n → n ≤ orders_of words → IsGood i (2 * words_of_order words n) n
      good n some within =
          let is = answered n some within in
          good-reply n some within is.reply (answered-by i (pull_bodies file words src dst number) (exchanges station (executed_in B lines)) lines n are.outcomes is)
