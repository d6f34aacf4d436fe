-- What is true of fields that were read.
use Rattle.std.proofs.Common.{◌≡◌, ◌≢◌, ℕ, ◌*◌, ◌/◌, ◌%◌, ◌≤◌, Bool, true, false, not, ◌&&◌, eqb, List, [], ◌∷◌, length, drop, Result, Ok, Err, refl, sym, ap, subst, arith, length-drop}
use Rattle.std.proofs.lemmas.Bool.{and_parts, cond_both, eqb-true, eqb-false}
use Rattle.df1_base.specs.declared.code.Code.{Code}
use Rattle.logical_address.specs.declared.param.Param.{Param}
use Rattle.logical_address.specs.declared.param.ParamFault.{ParamFault}
use Rattle.logical_address.specs.Reading.{param_at}
use Rattle.logical_address.proofs.Fronts.{ok_is}
use Rattle.plc_commands.specs.declared.order.Set.{Set}
use Rattle.plc_commands.specs.Fields.{illegal, only_if, after_param, param, array_element, parameter, set, words, sets_within, sets}
use Rattle.plc_commands.specs.Order.{IsWords}
use Rattle.plc_commands.proofs.SetLists.{bind_ok}

-- ---- data

even : (n : ℕ) → n % 2 ≡ 0 → n ≡ 2 * (n / 2)
even n e = omega arith

not_true : (b : Bool) → not b ≡ true → b ≡ false
not_true true e = sym e
not_true false e = refl

whole_words : (bytes : List ℕ) → (not (eqb (length bytes) 0) && eqb (length bytes % 2) 0) ≡ true → IsWords bytes
whole_words bytes e =
    let both = and_parts (not (eqb (length bytes) 0)) (eqb (length bytes % 2) 0) e in
    let some = not_true (eqb (length bytes) 0) both.0 in
    record { count = length bytes / 2; whole = even (length bytes) (eqb-true (length bytes % 2) 0 both.1); some = λ none. eqb-false (length bytes) 0 some (ap length none) }

pub words_are : (bytes found : List ℕ) → words bytes ≡ Ok found → (length found ≤ length bytes) × IsWords found
words_are bytes found e =
    cond_both (not (eqb (length bytes) 0) && eqb (length bytes % 2) 0) (Ok bytes) illegal (λ r. r ≡ Ok found → (length found ≤ length bytes) × IsWords found)
    (λ is h.
    let P : List ℕ → Type 0 = λ xs. (length xs ≤ length bytes) × IsWords xs in
    subst P (ok_is {E = Code} bytes found h) (omega arith, whole_words bytes is))
    (λ _ h. absurd cc)
    e

-- ---- a parameter

param_shorter : (bytes : List ℕ) (found : Param × List ℕ) → param bytes ≡ Ok found → length found.1 ≤ length bytes
param_shorter bytes found e = by (param_at bytes) e
  where
    by : (r : Result (Param × ℕ) ParamFault) → after_param bytes r ≡ Ok found → length found.1 ≤ length bytes
    by (Err fault) e = absurd cc
    by (Ok p) e =
        let rest : length found.1 ≡ length (drop p.1 bytes) = ap (λ (q : Param × List ℕ). length q.1) (sym (ok_is {E = Code} (p.0, drop p.1 bytes) found e)) in
        omega (arith, length-drop p.1 bytes)

pub only_if_ok : {A : Type 0} (test : Bool) (answer found : A) → only_if test answer ≡ Ok found → answer ≡ found
only_if_ok true answer found e = ok_is {E = Code} answer found e
only_if_ok false answer found e = absurd cc

array_shorter : (array : Param) (bytes : List ℕ) (found : (Param × Bool) × List ℕ) → array_element array bytes ≡ Ok found → length found.1 ≤ length bytes
array_shorter array bytes found e =
    let element = bind_ok (param bytes) _ found e in
    let shorter = param_shorter bytes element.0 element.1 in
    let rest : length found.1 ≡ length element.0.1 = ap (λ (q : (Param × Bool) × List ℕ). length q.1) (sym (only_if_ok (eqb array.size (length bytes)) ((element.0.0, true), element.0.1) found element.2)) in
    omega arith

pub parameter_shorter : (bytes : List ℕ) (found : (Param × Bool) × List ℕ) → parameter bytes ≡ Ok found → length found.1 ≤ length bytes
parameter_shorter bytes found e =
    let first = bind_ok (param bytes) _ found e in
    let shorter = param_shorter bytes first.0 first.1 in
    cond_both (eqb first.0.0.kind 9) (array_element first.0.0 first.0.1) (Ok ((first.0.0, false), first.0.1)) (λ r. r ≡ Ok found → length found.1 ≤ length bytes)
    (λ _ h. let more = array_shorter first.0.0 first.0.1 found h in omega arith)
    (λ _ h.
    let rest : length found.1 ≡ length first.0.1 = ap (λ (q : (Param × Bool) × List ℕ). length q.1) (sym (ok_is {E = Code} ((first.0.0, false), first.0.1) found h)) in
    omega arith)
    first.2

-- ---- sets

pub some_set : (bytes : List ℕ) (found : List Set) → sets bytes ≡ Ok found → found ≢ []
unfolding sets_within
some_set [] found e = absurd cc
some_set (b ∷ bytes) found e =
    let first = bind_ok (set (b ∷ bytes)) _ found e in
    let more = bind_ok (sets_within (length bytes) first.0.1) _ found first.2 in
    let is : first.0.0 ∷ more.0 ≡ found = ok_is {E = Code} (first.0.0 ∷ more.0) found more.2 in
    λ none. absurd cc
