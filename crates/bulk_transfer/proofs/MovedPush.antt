-- A rehearsed transfer that writes: its data are in end b's file, and nothing else of end b is changed.
use Rattle.std.proofs.Common.{◌≡◌, ◌∙◌, ℕ, zero, suc, ◌+◌, ◌-◌, ◌*◌, ◌/◌, ◌<◌, ◌≤◌, false, List, [], ◌∷◌, ◌++◌, length, get_or, Option, Some, None, refl, sym, ap, ap₂, subst, inl, inr, arith, add-zero, append-nil, append_assoc}
use Rattle.std.proofs.lemmas.List.{length-map}
use Rattle.std.specs.Prelude.{All, nat_le, not, slice_get, slice_index}
use Rattle.std.specs.Option.{option_map, option_map_or}
use Rattle.std.proofs.Math.Numerals.{one-add}
use Rattle.std.proofs.lemmas.Option.{same_Some, slice_get-get_or, slice_get-map, slice_get_within, some_pair_parts}
use Rattle.data_files.specs.declared.file_spec.FileSpec.{FileSpec}
use Rattle.data_files.specs.Place.{holds_of, is_status}
use Rattle.data_files.specs.Tables.{DataTables, file_of, has_words, with_word, with_words, word_count}
use Rattle.data_files.specs.WordBytes.{words_of}
use Rattle.data_files.proofs.Files.{specs-with_words}
use Rattle.data_files.proofs.WordLists.{length-words_of}
use Rattle.df1_node.specs.Answer.{StationState, after_answer, is_locked, reply_to}
use Rattle.df1_node.specs.Initiator.{InitiatorState}
use Rattle.replay_report.specs.declared.record.Line.{Line}
use Rattle.script_statement.specs.declared.who.Who.TheVariants.{A, B}
use Rattle.each_once.specs.BySource.{AreOnceOf}
use Rattle.each_once.specs.Exchanges.{exchanges, station_after}
use Rattle.each_once.specs.Once.{AreApart, IsAnswered}
use Rattle.each_once.specs.Tells.{executed_in}
use Rattle.each_once.proofs.RisingPlaces.{RiseFrom, all-of-one-source, rise-of, some-of-one-source}
use Rattle.each_once.proofs.Sublists.{Has}
use Rattle.bulk_orders.specs.declared.outcome.Bulk.TheVariants.{Whole, Odd}
use Rattle.bulk_orders.specs.Orders.{data_of_order, data_of_orders, first_word, orders_of, push_payload, words_of_order}
use Rattle.bulk_orders.specs.Outcomes.{data_of, push_result, status_of}
use Rattle.bulk_orders.proofs.Ranges.{all-data, data-size}
use Rattle.bulk_transfer.proofs.MovedAnswers.{HasFileOf, HasPart, Left, MayWrite, Written, Wrote, body_of, is-order, with_words_of, writes-all, writes-order}
use Rattle.bulk_transfer.proofs.MovedBodies.{body-at, exchange-at, exchange-body, executed-at, one-source, order_bodies}
use Rattle.bulk_transfer.proofs.MovedReplies.{AreTold, answered-by, reply-told}
use Rattle.bulk_transfer.proofs.MovedResults.{Fits, IsAnsweredBy, IsGood, all-good, never-odd, whole-where-good}

-- ---- words, one part after another

with-parts : (tables : DataTables) (file first : ℕ) (xs ys : List ℕ) → with_words tables file first (xs ++ ys) ≡ with_words (with_words tables file first xs) file (first + length xs) ys
with-parts tables file first [] ys = ap (λ (at : ℕ). with_words tables file at ys) (sym (add-zero first))
with-parts tables file first (x ∷ xs) ys =
    let next : first + 1 + length xs ≡ first + length (x ∷ xs) = omega arith in
    with-parts (with_word tables file first x) file (first + 1) xs ys ∙ ap (λ (at : ℕ). with_words (with_words tables file first (x ∷ xs)) file at ys) next

words-parts : (n : ℕ) (xs ys : List ℕ) → length xs ≡ 2 * n → words_of (xs ++ ys) ≡ words_of xs ++ words_of ys
words-parts n [] ys size = refl
words-parts n (low ∷ []) ys size = absurd (omega (arith, size))
words-parts zero (low ∷ high ∷ xs) ys size = absurd (omega (arith, size))
words-parts (suc n) (low ∷ high ∷ xs) ys size = ap (λ (words : List ℕ). (low + 256 * high) ∷ words) (words-parts n xs ys (omega (arith, size)))

-- the data of so many orders, from order j on
abbrev data_from : List ℕ → ℕ → ℕ → List ℕ
data_from bytes j zero = []
data_from bytes j (suc count) = data_of_order bytes j ++ data_from bytes (j + 1) count

data-push : (bytes : List ℕ) (j count : ℕ) → data_from bytes j (suc count) ≡ data_from bytes j count ++ data_of_order bytes (j + count)
data-push bytes j zero = append-nil (data_of_order bytes j) ∙ ap (data_of_order bytes) (sym (add-zero j))
data-push bytes j (suc count) =
    let next : j + 1 + count ≡ j + suc count = omega arith in
    ap (λ (rest : List ℕ). data_of_order bytes j ++ rest) (data-push bytes (j + 1) count)
    ∙ sym (append_assoc (data_of_order bytes j) (data_from bytes (j + 1) count) (data_of_order bytes (j + 1 + count)))
    ∙ ap (λ (k : ℕ). data_from bytes j (suc count) ++ data_of_order bytes k) next

data-of-first : (bytes : List ℕ) (count : ℕ) → data_from bytes 1 count ≡ data_of_orders bytes count
data-of-first bytes zero = refl
data-of-first bytes (suc count) = data-push bytes 1 count ∙ ap₂ (λ (xs ys : List ℕ). xs ++ ys) (data-of-first bytes count) (ap (data_of_order bytes) (one-add count))

-- ---- a station that does one order after another

is-written : (station : StationState) (body : List ℕ) (file first count : ℕ) (bytes : List ℕ) → status_of (reply_to station body) ≡ 0 → Wrote station body file first count bytes → after_answer station body ≡ with_words_of station file first (words_of bytes)
is-written station body file first count bytes status (Left same refused) = absurd (omega (arith, status, refused))
is-written station body file first count bytes status (Written after has inside may) = after

-- the rest of the data follows those of an order
rest-follows : (tables : DataTables) (file : ℕ) (bytes : List ℕ) (j count : ℕ) → length bytes ≡ 2 * (length bytes / 2) → 1 ≤ j → j + count ≤ orders_of (length bytes / 2)
    → with_words (with_words tables file (first_word j) (words_of (data_of_order bytes j))) file (first_word (j + 1)) (words_of (data_from bytes (j + 1) count))
    ≡ with_words tables file (first_word j) (words_of (data_from bytes j (suc count)))
rest-follows tables file bytes j count whole some within =
    let words : ℕ = length bytes / 2 in
    let now : List ℕ = data_of_order bytes j in
    let size = (data-size bytes j whole (is-order words j some (omega (arith, within)))).0 in
    let all = words-parts (words_of_order words j) now (data_from bytes (j + 1) count) size in
    next-place count (length-words_of (words_of_order words j) now size) within
    ∙ sym (with-parts tables file (first_word j) (words_of now) (words_of (data_from bytes (j + 1) count)))
    ∙ ap (with_words tables file (first_word j)) (sym all)
  where
    next-place : (count : ℕ) → length (words_of (data_of_order bytes j)) ≡ words_of_order (length bytes / 2) j → j + count ≤ orders_of (length bytes / 2)
        → with_words (with_words tables file (first_word j) (words_of (data_of_order bytes j))) file (first_word (j + 1)) (words_of (data_from bytes (j + 1) count))
        ≡ with_words (with_words tables file (first_word j) (words_of (data_of_order bytes j))) file (first_word j + length (words_of (data_of_order bytes j))) (words_of (data_from bytes (j + 1) count))
    next-place zero size within = refl
    next-place (suc count) size within =
        let at : first_word (j + 1) ≡ first_word j + length (words_of (data_of_order bytes j)) = omega (arith, size, some, within) in
        ap (λ (first : ℕ). with_words (with_words tables file (first_word j) (words_of (data_of_order bytes j))) file first (words_of (data_from bytes (j + 1) (suc count)))) at

-- where none is refused, its words are the data
written-after : (file : ℕ) (bytes : List ℕ) (src dst number j count : ℕ) (station : StationState) → length bytes ≡ 2 * (length bytes / 2) → 1 ≤ j → j + count ≤ orders_of (length bytes / 2) + 1
    → ((k : ℕ) (body reply : List ℕ) → slice_get (exchanges station (order_bodies (push_payload file bytes) src dst number j count)) k ≡ Some (body, reply) → status_of reply ≡ 0)
    → (station_after station (order_bodies (push_payload file bytes) src dst number j count)).tables ≡ with_words station.tables file (first_word j) (words_of (data_from bytes j count))
written-after file bytes src dst number j zero station whole some within good = refl
written-after file bytes src dst number j (suc count) station whole some within good =
    let body = body_of number src dst (push_payload file bytes j) in
    let wrote = writes-order station number src dst file bytes j whole (is-order (length bytes / 2) j some (omega (arith, within))) in
    let after : after_answer station body ≡ with_words_of station file (first_word j) (words_of (data_of_order bytes j)) = is-written station body file (first_word j) (words_of_order (length bytes / 2) j) (data_of_order bytes j) (good 0 body (reply_to station body) refl) wrote in
    written-after file bytes src dst (number + 1) (j + 1) count (after_answer station body) whole (omega arith) (omega (arith, within)) (λ k later reply is. good (suc k) later reply is)
    ∙ ap (λ (s : StationState). with_words s.tables file (first_word (j + 1)) (words_of (data_from bytes (j + 1) count))) after
    ∙ rest-follows station.tables file bytes j count whole some (omega (arith, within))

-- ---- each reply is of a station with the same files

answered-from : (station : StationState) (executed : List (List ℕ)) → ((s : StationState) (m : ℕ) (body : List ℕ) → slice_get executed m ≡ Some body → (after_answer s body).tables.specs ≡ s.tables.specs)
    → (m : ℕ) (body reply : List ℕ) → slice_get (exchanges station executed) m ≡ Some (body, reply) → (s : StationState) × (reply ≡ reply_to s body) × (s.tables.specs ≡ station.tables.specs) × (s.locked ≡ station.locked)
answered-from station [] keeps m body reply is = absurd cc
answered-from station (x ∷ xs) keeps zero body reply is =
    let pair = some_pair_parts x body (reply_to station x) reply is in
    (station, sym pair.1 ∙ ap (reply_to station) pair.0, refl, refl)
answered-from station (x ∷ xs) keeps (suc m) body reply is =
    let found = answered-from (after_answer station x) xs (λ s k later at. keeps s (suc k) later at) m body reply is in
    (found.0, found.1, found.2 ∙ keeps station 0 x refl, found.3)

wrote-specs : (station : StationState) (body : List ℕ) (file first count : ℕ) (bytes : List ℕ) → Wrote station body file first count bytes → (after_answer station body).tables.specs ≡ station.tables.specs
wrote-specs station body file first count bytes (Left same refused) = ap (λ (s : StationState). s.tables.specs) same
wrote-specs station body file first count bytes (Written after has inside may) = ap (λ (s : StationState). s.tables.specs) after ∙ specs-with_words station.tables file first (words_of bytes)

wrote-fits : (station : StationState) (body : List ℕ) (file first count : ℕ) (bytes : List ℕ) → Wrote station body file first count bytes → Fits 0 (reply_to station body)
wrote-fits station body file first count bytes (Left same refused) = inl refused
wrote-fits station body file first count bytes (Written after has inside may) = inr (has.0, ap length has.1)

-- where it isn't refused, the station has the words, and they may be written
wrote-part : (station : StationState) (body : List ℕ) (file first count : ℕ) (bytes : List ℕ) → status_of (reply_to station body) ≡ 0 → Wrote station body file first count bytes → HasPart station file first count × MayWrite station file
wrote-part station body file first count bytes status (Left same refused) = absurd (omega (arith, status, refused))
wrote-part station body file first count bytes status (Written after has inside may) = (inside, may)

-- ---- numbers that rise and are all of a run are as many

rise-above : (low : ℕ) (xs : List ℕ) → RiseFrom low xs → (m x : ℕ) → slice_get xs m ≡ Some x → low ≤ x
rise-above low [] rise m x is = absurd cc
rise-above low (y ∷ ys) rise zero x is = let same = same_Some y x is in omega (arith, rise.0, same)
rise-above low (y ∷ ys) rise (suc m) x is = let more = rise-above (suc y) ys rise.1 m x is in omega (arith, rise.0, more)

lowest-first : (low x : ℕ) (xs : List ℕ) → RiseFrom low (x ∷ xs) → Has (x ∷ xs) low → x ≡ low
lowest-first low x xs rise (zero, is) = same_Some x low is
lowest-first low x xs rise (suc m, is) = let more = rise-above (suc x) xs rise.1 m low is in absurd (omega (arith, rise.0, more))

has-later : (x k : ℕ) (xs : List ℕ) → x < k → Has (x ∷ xs) k → Has xs k
has-later x k xs below (zero, is) = let same = same_Some x k is in absurd (omega (arith, same, below))
has-later x k xs below (suc m, is) = (m, is)

as-many : (low count : ℕ) (places : List ℕ) → RiseFrom low places → ((k : ℕ) → low ≤ k → k < low + count → Has places k) → ((m p : ℕ) → slice_get places m ≡ Some p → p < low + count) → length places ≡ count
as-many low zero [] rise has within = refl
as-many low zero (p ∷ ps) rise has within = let inside = within 0 p refl in absurd (omega (arith, rise.0, inside))
as-many low (suc count) [] rise has within = let none = has low (omega arith) (omega arith) in absurd (let at : None ≡ Some low = none.1 in cc)
as-many low (suc count) (p ∷ ps) rise has within =
    let first : p ≡ low = lowest-first low p ps rise (has low (omega arith) (omega arith)) in
    ap suc (as-many (suc low) count ps (subst (λ (x : ℕ). RiseFrom (suc x) ps) first rise.1) (λ k from below. has-later p k ps (omega (arith, first, from)) (has k (omega (arith, from)) (omega (arith, below))))
    (λ m q at. let inside = within (suc m) q at in omega (arith, inside)))

-- where each command of one source is executed, they are executed in order
all-executed : (executed bodies : List (List ℕ)) (source : ℕ) → All (λ body. slice_index body 1 ≡ source) bodies → AreApart bodies → AreOnceOf executed bodies → ((k : ℕ) (body : List ℕ) → slice_get bodies k ≡ Some body → Has executed body) → executed ≡ bodies
all-executed executed bodies source one apart once each =
    let some = some-of-one-source executed bodies source one once in
    let places = some.0 in
    let has : (k : ℕ) → 0 ≤ k → k < 0 + length bodies → Has places k =
    λ k from below.
    let body : List ℕ = get_or bodies k [] in
    let at : slice_get bodies k ≡ Some body = slice_get-get_or bodies k [] (omega (arith, below)) in
    let done = each k body at in
    let place = executed-at executed bodies places some.2 done.0 body done.1 in
    (done.0, place.1 ∙ ap Some (apart place.0 k body place.2 at)) in
    let within : (m p : ℕ) → slice_get places m ≡ Some p → p < 0 + length bodies =
    λ m p is. let inside = inside-at p (slice_get executed m) (sym (slice_get-map Some executed m) ∙ ap (λ (os : List (Option (List ℕ))). slice_get os m) some.2 ∙ slice_get-map (slice_get bodies) places m ∙ ap (option_map (slice_get bodies)) is) in omega (arith, inside) in
    let count : length places ≡ length bodies = as-many 0 (length bodies) places (rise-of 0 places (λ some. omega arith) some.1) has within in
    let same : length executed ≡ length places = sym (length-map executed Some) ∙ ap length some.2 ∙ length-map places (slice_get bodies) in
    all-of-one-source executed bodies source one (once, same ∙ count)
  where
    inside-at : (p : ℕ) (o : Option (List ℕ)) → option_map Some o ≡ Some (slice_get bodies p) → p < length bodies
    inside-at p None is = absurd cc
    inside-at p (Some body) is = slice_get_within bodies p body (sym (same_Some (Some body) (slice_get bodies p) is))

-- ---- what is told

-- a reply to the command at a place is what some station answers to it, whose files are those of the first
pub record IsOfOrder (bodies executed : List (List ℕ)) (station : StationState) (k : ℕ) (reply : List ℕ) : Type 0 where
  pub body : List ℕ
  pub is_command : slice_get bodies k ≡ Some body
  pub place : ℕ
  pub is_executed : slice_get executed place ≡ Some body
  pub is_exchanged : slice_get (exchanges station executed) place ≡ Some (body, reply)
  pub by : StationState
  pub is_reply : reply ≡ reply_to by body
  pub files : by.tables.specs ≡ station.tables.specs
  pub locks : by.locked ≡ station.locked

still-done : (bodies executed : List (List ℕ)) (station : StationState) (k : ℕ) (reply : List ℕ) (o : IsOfOrder bodies executed station k reply) → status_of reply ≡ 0 → status_of (reply_to o.by o.body) ≡ 0
still-done bodies executed station k reply o status = ap status_of (sym o.is_reply) ∙ status

-- the bodies of a transfer's orders
abbrev pub push_bodies : ℕ → List ℕ → ℕ → ℕ → ℕ → List (List ℕ)
push_bodies file bytes src dst number = order_bodies (push_payload file bytes) src dst number 1 (orders_of (length bytes / 2))

-- what another station with the same files has up to the last word, the first has
part-of-first : (by station : StationState) (file first count words : ℕ) → by.tables.specs ≡ station.tables.specs → first + count ≡ 0 + words → HasPart by file first count × MayWrite by file → HasPart station file 0 words × MayWrite station file
part-of-first by station file first count words files end part = (
  ap (λ (specs : List FileSpec). has_words specs file 0 words) (sym files) ∙ ap (λ (last : ℕ). option_map_or (λ f. nat_le last (word_count f)) (file_of by.tables.specs file) false) (sym end) ∙ part.0,
  ap (λ (specs : List FileSpec). holds_of (λ f. not (is_status f.kind)) (file_of specs file)) (sym files) ∙ part.1,
)

module _ (file : ℕ) (bytes : List ℕ) (whole : length bytes ≡ 2 * (length bytes / 2)) (src dst number : ℕ) (i : InitiatorState) (station : StationState) (lines : List Line) (are : AreTold i (push_bodies file bytes src dst number) station lines) where
  wrote-at : (s : StationState) (k : ℕ) (body : List ℕ) → slice_get (push_bodies file bytes src dst number) k ≡ Some body
      → Wrote s body file (first_word (suc k)) (words_of_order (length bytes / 2) (suc k)) (data_of_order bytes (suc k))
  wrote-at s k body is =
      let order = body-at (push_payload file bytes) src dst number 1 (orders_of (length bytes / 2)) k body is in
      let same : body ≡ body_of (number + k) src dst (push_payload file bytes (suc k)) = order.1 ∙ ap (λ (j : ℕ). body_of (number + k) src dst (push_payload file bytes j)) (one-add k) in
      subst (λ (b : List ℕ). Wrote s b file (first_word (suc k)) (words_of_order (length bytes / 2) (suc k)) (data_of_order bytes (suc k))) (sym same)
      (writes-order s (number + k) src dst file bytes (suc k) whole (is-order (length bytes / 2) (suc k) (omega arith) (omega (arith, order.0))))

  keeps : (s : StationState) (m : ℕ) (body : List ℕ) → slice_get (executed_in B lines) m ≡ Some body → (after_answer s body).tables.specs ≡ s.tables.specs
  keeps s m body is =
      let at = executed-at (executed_in B lines) (push_bodies file bytes src dst number) are.once.in_order.0 are.once.in_order.3 m body is in
      wrote-specs s body file (first_word (suc at.0)) (words_of_order (length bytes / 2) (suc at.0)) (data_of_order bytes (suc at.0)) (wrote-at s at.0 body at.2)

  of-order : (k : ℕ) (reply : List ℕ) → IsAnsweredBy i (suc k) reply → IsOfOrder (push_bodies file bytes src dst number) (executed_in B lines) station k reply
  of-order k reply by =
      let to = reply-told i (push_bodies file bytes src dst number) station lines are k reply by in
      let exchange = exchange-at station (executed_in B lines) to.body reply to.is_answer in
      let from = answered-from station (executed_in B lines) keeps exchange.0 to.body reply exchange.2 in
      record { body = to.body; is_command = to.is_command; place = exchange.0; is_executed = exchange.1; is_exchanged = exchange.2; by = from.0; is_reply = from.1; files = from.2; locks = from.3 }

  fits : (n : ℕ) → 1 ≤ n → n ≤ orders_of (length bytes / 2) → (reply : List ℕ) → IsAnsweredBy i n reply → Fits 0 reply
  fits zero some within reply by = absurd (omega (arith, some))
  fits (suc k) some within reply by =
      let o = of-order k reply by in
      subst (Fits 0) (sym o.is_reply) (wrote-fits o.by o.body file (first_word (suc k)) (words_of_order (length bytes / 2) (suc k)) (data_of_order bytes (suc k)) (wrote-at o.by k o.body o.is_command))

  pub push-never-odd : (n : ℕ) → push_result i (length bytes / 2) ≡ Odd n → ⊥
  push-never-odd = never-odd i (λ n. 0) (orders_of (length bytes / 2)) fits

  good-at : push_result i (length bytes / 2) ≡ Whole → (k : ℕ) → k < orders_of (length bytes / 2) → IsGood i 0 (suc k)
  good-at all k within = all-good i (λ n. 0) (orders_of (length bytes / 2)) fits all (suc k) (omega arith) (omega (arith, within))

  executes-all : push_result i (length bytes / 2) ≡ Whole → executed_in B lines ≡ push_bodies file bytes src dst number
  executes-all all =
      let bodies = push_bodies file bytes src dst number in
      all-executed (executed_in B lines) bodies src (one-source (push_payload file bytes) src dst number 1 (orders_of (length bytes / 2))) are.once.apart are.once.in_order
      (λ k body is.
      let within = (body-at (push_payload file bytes) src dst number 1 (orders_of (length bytes / 2)) k body is).0 in
      let good = good-at all k within in
      let o = of-order k good.reply good.answered in
      (o.place, o.is_executed ∙ sym o.is_command ∙ is))

  -- each order is done where all are
  done-at : push_result i (length bytes / 2) ≡ Whole → (k : ℕ) (body reply : List ℕ) → slice_get (exchanges station (push_bodies file bytes src dst number)) k ≡ Some (body, reply) → status_of reply ≡ 0
  done-at all k body reply is =
      let bodies = push_bodies file bytes src dst number in
      let done = executes-all all in
      let at = exchange-body station bodies k body reply is in
      let within = (body-at (push_payload file bytes) src dst number 1 (orders_of (length bytes / 2)) k body at).0 in
      let good = good-at all k within in
      let o = of-order k good.reply good.answered in
      let place : o.place ≡ k = are.once.apart o.place k o.body (ap (λ (xs : List (List ℕ)). slice_get xs o.place) (sym done) ∙ o.is_executed) o.is_command in
      let here : slice_get (exchanges station bodies) k ≡ Some (o.body, good.reply) =
      ap₂ (λ (xs : List (List ℕ)) (p : ℕ). slice_get (exchanges station xs) p) (sym done) (sym place) ∙ o.is_exchanged in
      ap status_of (some_pair_parts body o.body reply good.reply (sym is ∙ here)).1 ∙ good.status

  pub push-words : push_result i (length bytes / 2) ≡ Whole → (station_after station (executed_in B lines)).tables ≡ with_words station.tables file 0 (words_of bytes)
  push-words all =
      let count : ℕ = orders_of (length bytes / 2) in
      ap (λ (xs : List (List ℕ)). (station_after station xs).tables) (executes-all all)
      ∙ written-after file bytes src dst number 1 count station whole (omega arith) (omega arith) (done-at all)
      ∙ ap (λ (data' : List ℕ). with_words station.tables file 0 (words_of data')) (data-of-first bytes count ∙ all-data bytes whole)

  -- and the file has the words, and may be written
  file-at : push_result i (length bytes / 2) ≡ Whole → (k : ℕ) → suc k ≡ orders_of (length bytes / 2) → HasPart station file 0 (length bytes / 2) × MayWrite station file
  file-at all k last =
      let good = good-at all k (omega (arith, last)) in
      let o = of-order k good.reply good.answered in
      let status = still-done (push_bodies file bytes src dst number) (executed_in B lines) station k good.reply o good.status in
      part-of-first o.by station file (first_word (suc k)) (words_of_order (length bytes / 2) (suc k)) (length bytes / 2) o.files (omega (arith, last))
      (wrote-part o.by o.body file (first_word (suc k)) (words_of_order (length bytes / 2) (suc k)) (data_of_order bytes (suc k)) status (wrote-at o.by k o.body o.is_command))

  pub push-file : 2 ≤ length bytes → push_result i (length bytes / 2) ≡ Whole → HasPart station file 0 (length bytes / 2) × MayWrite station file
  push-file some all = file-at all (orders_of (length bytes / 2) - 1) (omega (arith, some))

  -- where all commands are answered, and the file has the words and may be written, the transfer is whole
  pub push-whole : is_locked station.locked file ≡ false → ((n : ℕ) → 1 ≤ n → n ≤ orders_of (length bytes / 2) → IsAnswered A (push_bodies file bytes src dst number) (exchanges station (executed_in B lines)) lines n)
      → (has : HasFileOf station.tables.specs file (length bytes / 2)) → is_status has.0.kind ≡ false → push_result i (length bytes / 2) ≡ Whole
  push-whole free answered has may = whole-where-good i (λ n. 0) (orders_of (length bytes / 2)) good
    where
      good-reply : (n : ℕ) → 1 ≤ n → n ≤ orders_of (length bytes / 2) → (reply : List ℕ) → IsAnsweredBy i n reply → IsGood i 0 n
      good-reply zero some within reply by = absurd (omega (arith, some))
      good-reply (suc k) some within reply by =
          let o = of-order k reply by in
          let order = body-at (push_payload file bytes) src dst number 1 (orders_of (length bytes / 2)) k o.body o.is_command in
          let is : reply ≡ reply_to o.by (body_of (number + k) src dst (push_payload file bytes (suc k))) =
          o.is_reply ∙ ap (reply_to o.by) (order.1 ∙ ap (λ (j : ℕ). body_of (number + k) src dst (push_payload file bytes j)) (one-add k)) in
          let does = writes-all o.by (number + k) src dst file bytes (suc k) (ap (λ (locked : List ℕ). is_locked locked file) o.locks ∙ free) whole some within (has.0, ap (λ (specs : List FileSpec). file_of specs file) o.files ∙ has.1, has.2) may in
          record { reply = reply; answered = by; status = ap status_of is ∙ does.0; size_is = ap (λ (r : List ℕ). length (data_of r)) is ∙ ap length does.1 }

      good : (n : ℕ) → 1 ≤ n → n ≤ orders_of (length bytes / 2) → IsGood i 0 n
      good n some within =
          let is = answered n some within in
          good-reply n some within is.reply (answered-by i (push_bodies file bytes src dst number) (exchanges station (executed_in B lines)) lines n are.outcomes is)
