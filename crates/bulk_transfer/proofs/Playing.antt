-- A script with orders in front of it can be played.
use Rattle.std.proofs.Common.{◌≡◌, ◌∙◌, ℕ, zero, suc, ◌+◌, ◌*◌, ◌/◌, ◌%◌, ◌≤◌, Bool, true, false, cond, List, [], ◌∷◌, ◌++◌, length, map, drop, None, refl, sym, arith, length-append, length-take}
use Rattle.std.specs.Prelude.{All, sum_by, nat_lt, if◌then◌else◌}
use Rattle.std.specs.List.{range_with_len}
use Rattle.std.proofs.lemmas.Bool.{false≢true, le-leb}
use Rattle.std.proofs.lemmas.List.Elements.{All-append, All-cons, All-nil}
use Rattle.std.proofs.lemmas.List.FromFn.{length-map-range_with_len}
use Rattle.std.proofs.lemmas.List.Sums.{sum_by-append, sum_by-cons}
use Rattle.logical_address.specs.Shortest.{shortest_value}
use Rattle.script_statement.specs.Statements.{is_payload}
use Rattle.script_statement.specs.declared.who.Who.TheVariants.{A, B}
use Rattle.script_parts.specs.declared.script.Event.{Event}
use Rattle.script_parts.specs.declared.script.Event.TheVariants.{Issue}
use Rattle.script_parts.specs.declared.script.Script.{Script}
use Rattle.script_parts.specs.HalfPlayable.{CanBePlayed}
use Rattle.script_parts.specs.Playable.{IsPlayable, IsPossible, count_of, issues}
use Rattle.duplex_line.specs.Run.{plan_of_b}
use Rattle.bulk_orders.specs.Orders.{data_of_order, first_word, orders_of, place_bytes, pull_payload, push_payload, words_of_order}
use Rattle.bulk_transfer.specs.Rehearsal.{IsRehearsable, all_orders, issued_at, pull_script, push_script, with_orders}

-- ---- the orders are payloads

short-value : (n : ℕ) → length (shortest_value n) ≤ 3
short-value n = by (nat_lt n 255)
  where
    by : (b : Bool) → length (if b then n ∷ [] else 0xFF ∷ n % 256 ∷ n / 256 ∷ []) ≤ 3
    by true = omega arith
    by false = omega arith

short-place : (file words j : ℕ) → length (place_bytes file words j) ≤ 9
short-place file words j =
    let value = short-value file in
    let element = length-append (shortest_value file) (0 ∷ []) in
    let sub = length-append (shortest_value file ++ 0 ∷ []) [] in
    omega (arith, value, element, sub)

pub pull-payload : (file words j : ℕ) → is_payload (pull_payload file words j) ≡ true
pull-payload file words j =
    let all = length-append (place_bytes file words j) ((2 * words_of_order words j) ∷ []) in
    let short = short-place file words j in
    rw (le-leb (length (pull_payload file words j)) 245 (omega (arith, all, short))) refl

pub push-payload : (file : ℕ) (bytes : List ℕ) (j : ℕ) → is_payload (push_payload file bytes j) ≡ true
push-payload file bytes j =
    let words : ℕ = length bytes / 2 in
    let all = length-append (place_bytes file words j) (data_of_order bytes j) in
    let short = short-place file words j in
    let few = length-take (2 * words_of_order words j) (drop (2 * first_word j) bytes) in
    rw (le-leb (length (push_payload file bytes j)) 245 (omega (arith, all, short, few))) refl

-- ---- a script with orders in front can be played

orders-possible : (order : ℕ → List ℕ) → ((j : ℕ) → is_payload (order j) ≡ true) → (dst first count : ℕ) → All IsPossible (issued_at dst (map order (range_with_len first count)))
orders-possible order are dst first zero = All-nil IsPossible
orders-possible order are dst first (suc count) = All-cons IsPossible (Issue A None dst (order first)) (issued_at dst (map order (range_with_len (first + 1) count))) (refl, are first) (orders-possible order are dst (first + 1) count)

orders-sum : (f : Event → ℕ) (each : ℕ) → ((dst : ℕ) (payload : List ℕ) → f (Issue A None dst payload) ≡ each) → (dst : ℕ) (payloads : List (List ℕ)) → sum_by f (issued_at dst payloads) ≡ length payloads * each
orders-sum f each is dst [] = omega arith
orders-sum f each is dst (payload ∷ payloads) =
    let all = sum_by-cons f (Issue A None dst payload) (issued_at dst payloads) in
    let one = is dst payload in
    let more = orders-sum f each is dst payloads in
    omega (arith, all, one, more)

pub with-orders-playable : (script : Script) (order : ℕ → List ℕ) (words : ℕ) → IsRehearsable script → words ≤ 3000 → ((j : ℕ) → is_payload (order j) ≡ true) → IsPlayable (with_orders script (all_orders order words))
with-orders-playable script order words may few are =
    let dst = (plan_of_b script).node in
    let payloads = all_orders order words in
    let count = length-map-range_with_len order 1 (orders_of words) in
    let orders = issued_at dst payloads in
    let split-a = sum_by-append (λ (e : Event). cond (issues A e) 1 0) orders script.events in
    let split-b = sum_by-append (λ (e : Event). cond (issues B e) 1 0) orders script.events in
    let split = sum_by-append count_of orders script.events in
    let of-a = orders-sum (λ (e : Event). cond (issues A e) 1 0) 1 (λ d payload. refl) dst payloads in
    let of-b = orders-sum (λ (e : Event). cond (issues B e) 1 0) 0 (λ d payload. refl) dst payloads in
    let sum = orders-sum count_of 1 (λ d payload. refl) dst payloads in
    let unissued = may.unissued in
    let fewest = may.sum in
    let others = may.playable.commands_of_b in
    record {
      mode = may.playable.mode;
      ends = may.playable.ends;
      events = All-append IsPossible orders script.events (orders-possible order are dst 1 (orders_of words)) may.playable.events;
      commands_of_a = omega (arith, split-a, of-a, count, unissued, few);
      commands_of_b = omega (arith, split-b, of-b, others);
      sum = omega (arith, split, sum, count, fewest, few);
    }

pub can-play : (script : Script) → IsPlayable script → CanBePlayed script
can-play script playable = record { full = λ mode. playable; half = λ half. absurd (false≢true (sym playable.mode ∙ half)) }

pub pull-playable : (script : Script) (file words : ℕ) → IsRehearsable script → words ≤ 3000 → IsPlayable (pull_script script file words)
pull-playable script file words may few = with-orders-playable script (pull_payload file words) words may few (pull-payload file words)

pub push-playable : (script : Script) (file : ℕ) (bytes : List ℕ) → IsRehearsable script → length bytes ≤ 6000 → IsPlayable (push_script script file bytes)
push-playable script file bytes may few = with-orders-playable script (push_payload file bytes) (length bytes / 2) may (omega (arith, few)) (push-payload file bytes)

pub pull-played : (script : Script) (file words : ℕ) → IsRehearsable script → words ≤ 3000 → CanBePlayed (pull_script script file words)
pull-played script file words may few = can-play (pull_script script file words) (pull-playable script file words may few)

pub push-played : (script : Script) (file : ℕ) (bytes : List ℕ) → IsRehearsable script → length bytes ≤ 6000 → CanBePlayed (push_script script file bytes)
push-played script file bytes may few = can-play (push_script script file bytes) (push-playable script file bytes may few)
