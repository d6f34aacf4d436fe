-- What the lines of one station tell, beside what all lines tell.
use Rattle.std.proofs.Common.{◌≡◌, ◌∙◌, ℕ, zero, suc, ◌≤◌, Bool, true, false, cond, List, [], ◌∷◌, length, Option, Some, None, refl, ap, sym, arith}
use Rattle.std.specs.Prelude.{slice_get, if◌then◌else◌}
use Rattle.std.specs.List.{filter, filter_map, cons_option}
use Rattle.script_statement.specs.declared.who.Who.{Who}
use Rattle.script_statement.specs.declared.who.Who.TheVariants.{M}
use Rattle.replay_report.specs.declared.record.Line.{Line}
use Rattle.replay_report.specs.declared.record.Line.TheVariants as line
use Rattle.each_once.specs.OfStation.{is_from, is_line_of, lines_of}
use Rattle.each_once.specs.Tells.{is_who, executed_at, answer_at, given_up_at, outcome_at, executed_in, answers_in, given_up_in, outcomes_in}
use Rattle.each_once.proofs.Sublists.{Has, same-some}

-- ---- what is left out tells nothing

kept-or-left : {X Y : Type 0} (p : X → Bool) (h : X → Option Y) (x : X) (xs : List X) (keeps : Bool) → p x ≡ keeps → (p x ≡ false → h x ≡ None) → filter_map h (filter p xs) ≡ filter_map h xs
    → filter_map h (cond keeps (x ∷ filter p xs) (filter p xs)) ≡ cons_option (h x) (filter_map h xs)
kept-or-left p h x xs true is none same = ap (cons_option (h x)) same
kept-or-left p h x xs false is none same = same ∙ ap (λ o. cons_option o (filter_map h xs)) (sym (none is))

filter_map-filter : {X Y : Type 0} (p : X → Bool) (h : X → Option Y) → ((x : X) → p x ≡ false → h x ≡ None) → (xs : List X) → filter_map h (filter p xs) ≡ filter_map h xs
filter_map-filter p h none [] = refl
filter_map-filter p h none (x ∷ xs) = kept-or-left p h x xs (p x) refl (none x) (filter_map-filter p h none xs)

left-given-up : (station : ℕ) (l : Line) → is_line_of station l ≡ false → given_up_at M l ≡ None
left-given-up station (line.Answered by number body) is = refl
left-given-up station (line.Stray by body) is = refl
left-given-up station _ is = absurd cc

left-executed : (station : ℕ) (who : Who) (l : Line) → is_line_of station l ≡ false → executed_at who l ≡ None
left-executed station who (line.Answered by number body) is = refl
left-executed station who (line.Stray by body) is = refl
left-executed station who _ is = absurd cc

pub given-up-same : (station : ℕ) (lines : List Line) → given_up_in M (lines_of station lines) ≡ given_up_in M lines
given-up-same station lines = filter_map-filter (is_line_of station) (given_up_at M) (left-given-up station) lines

pub executed-same : (station : ℕ) (who : Who) (lines : List Line) → executed_in who (lines_of station lines) ≡ executed_in who lines
executed-same station who lines = filter_map-filter (is_line_of station) (executed_at who) (left-executed station who) lines

-- ---- fewer lines tell no more outcomes

cons-length : {Y : Type 0} (o : Option Y) (xs ys : List Y) → length xs ≤ length ys → length (cons_option o xs) ≤ length (cons_option o ys)
cons-length None xs ys few = few
cons-length (Some y) xs ys few = omega (arith, few)

cons-more : {Y : Type 0} (o : Option Y) (ys : List Y) → length ys ≤ length (cons_option o ys)
cons-more None ys = omega arith
cons-more (Some y) ys = omega arith

at-most : {n m k : ℕ} → n ≤ m → m ≤ k → n ≤ k
at-most a b = omega (arith, a, b)

fewer-one : {X Y : Type 0} (p : X → Bool) (h : X → Option Y) (x : X) (xs : List X) (keeps : Bool) → length (filter_map h (filter p xs)) ≤ length (filter_map h xs)
    → length (filter_map h (cond keeps (x ∷ filter p xs) (filter p xs))) ≤ length (cons_option (h x) (filter_map h xs))
fewer-one p h x xs true few = cons-length (h x) (filter_map h (filter p xs)) (filter_map h xs) few
fewer-one p h x xs false few = at-most few (cons-more (h x) (filter_map h xs))

fewer : {X Y : Type 0} (p : X → Bool) (h : X → Option Y) (xs : List X) → length (filter_map h (filter p xs)) ≤ length (filter_map h xs)
fewer p h [] = omega arith
fewer p h (x ∷ xs) = fewer-one p h x xs (p x) (fewer p h xs)

pub outcomes-fewer : (station n : ℕ) (lines : List Line) → length (outcomes_in M n lines) ≤ 1 → length (outcomes_in M n (lines_of station lines)) ≤ 1
outcomes-fewer station n lines few = at-most (fewer (is_line_of station) (outcome_at M n) lines) few

-- ---- an answer of the station is told by its lines

kept-has : {X Y : Type 0} (p : X → Bool) (h : X → Option Y) (y : Y) (x : X) (xs : List X) (o : Option Y) (keeps : Bool) → h x ≡ o → (o ≡ Some y → keeps ≡ true) → (k : ℕ) → slice_get (cons_option o (filter_map h xs)) k ≡ Some y
    → ((n : ℕ) → slice_get (filter_map h xs) n ≡ Some y → Has (filter_map h (filter p xs)) y) → Has (filter_map h (cond keeps (x ∷ filter p xs) (filter p xs))) y
kept-has p h y x xs None true is one k at later = rw is (later k at)
kept-has p h y x xs None false is one k at later = later k at
kept-has p h y x xs (Some z) true is one zero at later = (0, ap (λ o. slice_get (cons_option o (filter_map h (filter p xs))) 0) is ∙ at)
kept-has p h y x xs (Some z) true is one (suc k) at later =
    let there = later k at in
    (suc there.0, ap (λ o. slice_get (cons_option o (filter_map h (filter p xs))) (suc there.0)) is ∙ there.1)
kept-has p h y x xs (Some z) false is one zero at later = absurd (let no : false ≡ true = one at in cc)
kept-has p h y x xs (Some z) false is one (suc k) at later = later k at

has-kept : {X Y : Type 0} (p : X → Bool) (h : X → Option Y) (y : Y) → ((x : X) → h x ≡ Some y → p x ≡ true) → (xs : List X) (k : ℕ) → slice_get (filter_map h xs) k ≡ Some y → Has (filter_map h (filter p xs)) y
has-kept p h y each [] k at = absurd cc
has-kept p h y each (x ∷ xs) k at = kept-has p h y x xs (h x) (p x) refl (each x) k at (has-kept p h y each xs)

told-reply : (own : Bool) (told answer : ℕ × List ℕ) → (if own then Some told else None) ≡ Some answer → told.1 ≡ answer.1
told-reply true told answer is = ap (λ (a : ℕ × List ℕ). a.1) (same-some told answer is)
told-reply false told answer is = absurd cc

answer-line : (station n : ℕ) (reply : List ℕ) (l : Line) → is_from station reply ≡ true → answer_at M l ≡ Some (n, reply) → is_line_of station l ≡ true
answer-line station n reply (line.Answered by number body) from is = ap (is_from station) (told-reply (is_who M by) (number, body) (n, reply) is) ∙ from
answer-line station n reply _ from is = absurd cc

pub own-answer : (station n : ℕ) (reply : List ℕ) (lines : List Line) (k : ℕ) → is_from station reply ≡ true → slice_get (answers_in M lines) k ≡ Some (n, reply) → Has (answers_in M (lines_of station lines)) (n, reply)
own-answer station n reply lines k from at = has-kept (is_line_of station) (answer_at M) (n, reply) (λ l is. answer-line station n reply l from is) lines k at
