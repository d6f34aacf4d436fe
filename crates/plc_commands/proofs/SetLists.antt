-- Sets that are read one after the other.
use Rattle.std.proofs.Common.{◌≡◌, ◌≢◌, ℕ, zero, suc, ◌+◌, ◌-◌, ◌*◌, ◌≤◌, Bool, true, false, eqb, leb, not, ◌&&◌, List, [], ◌∷◌, ◌++◌, length, drop, Some, Result, Ok, Err, refl, sym, ap, subst, ◌∙◌, append_assoc, append-nil, arith, length-drop}
use Rattle.std.specs.Option.{ok_or}
use Rattle.std.proofs.lemmas.Bool.{cond_both}
use Rattle.df1_base.specs.declared.code.Code.{Code}
use Rattle.df1_base.specs.declared.code.Code.TheVariants.{Sts}
use Rattle.logical_address.specs.declared.levels.Levels.{Levels}
use Rattle.logical_address.specs.declared.levels.LevelFault.{LevelFault}
use Rattle.logical_address.specs.declared.levels.LevelFault.TheVariants as level
use Rattle.logical_address.specs.Spelling.{has_level}
use Rattle.logical_address.specs.Reading.{word_front, value_front, optional_front, named_front, levels_front, used_or_fault}
use Rattle.logical_address.proofs.Fronts.{bind_some, some_is, ok_is, ok_or_ok, guard_ok}
use Rattle.plc_commands.specs.declared.order.Set.{Set}
use Rattle.plc_commands.specs.Fields.{◌>>=◌, word, levels, after_levels, set, sets_within, sets}

pub bind_ok : {A B : Type 0} (r : Result A Code) (f : A → Result B Code) (y : B) → (r >>= f) ≡ Ok y → (x : A) × (r ≡ Ok x) × (f x ≡ Ok y)
bind_ok (Err code) f y e = absurd cc
bind_ok (Ok x) f y e = (x, refl, e)

-- ---- what is left after a field is shorter

word_front_shorter : (bytes : List ℕ) (found : ℕ × List ℕ) → word_front bytes ≡ Some found → length found.1 + 2 ≤ length bytes
word_front_shorter [] found e = absurd cc
word_front_shorter (a ∷ []) found e = absurd cc
word_front_shorter (a ∷ b ∷ rest) found e =
    let P : ℕ × List ℕ → Type 0 = λ p. length p.1 + 2 ≤ length (a ∷ b ∷ rest) in subst P (some_is (a + 256 * b, rest) found e) (omega arith)

value_shorter : (bytes : List ℕ) (found : ℕ × List ℕ) → value_front bytes ≡ Some found → length found.1 + 1 ≤ length bytes
value_shorter [] found e = absurd cc
value_shorter (b ∷ rest) found e =
    cond_both (eqb b 255) (word_front rest) (Some (b, rest)) (λ o. o ≡ Some found → length found.1 + 1 ≤ length (b ∷ rest))
    (λ _ h. let shorter = word_front_shorter rest found h in omega arith)
    (λ _ h. let P : ℕ × List ℕ → Type 0 = λ p. length p.1 + 1 ≤ length (b ∷ rest) in subst P (some_is (b, rest) found h) (omega arith))
    e

optional_shorter : (is_given : Bool) (bytes : List ℕ) (found : ℕ × List ℕ) → optional_front is_given bytes ≡ Some found → length found.1 ≤ length bytes
optional_shorter true bytes found e = let shorter = value_shorter bytes found e in omega arith
optional_shorter false bytes found e = let P : ℕ × List ℕ → Type 0 = λ p. length p.1 ≤ length bytes in subst P (some_is (0, bytes) found e) (omega arith)

named_shorter : (mask : ℕ) (bytes : List ℕ) (found : Levels × List ℕ) → named_front mask bytes ≡ Some found → length found.1 + 2 ≤ length bytes
unfolding named_front
named_shorter mask bytes found e =
    let a = bind_some (optional_front (has_level mask 0) bytes) _ found e in
    let f = bind_some (value_front a.0.1) _ found a.2 in
    let m = bind_some (value_front f.0.1) _ found f.2 in
    let s = bind_some (optional_front (has_level mask 3) m.0.1) _ found m.2 in
    let last : length found.1 ≡ length s.0.1 = ap (λ (p : Levels × List ℕ). length p.1) (sym (some_is _ found s.2)) in
    let area = optional_shorter (has_level mask 0) bytes a.0 a.1 in
    let file = value_shorter a.0.1 f.0 f.1 in
    let element = value_shorter f.0.1 m.0 m.1 in
    let sub = optional_shorter (has_level mask 3) m.0.1 s.0 s.1 in
    omega arith

levels_front_shorter : (bytes : List ℕ) (found : Levels × List ℕ) → levels_front bytes ≡ Ok found → length found.1 + 3 ≤ length bytes
levels_front_shorter [] found e = absurd cc
levels_front_shorter (mask ∷ rest) found e =
    let few = guard_ok (leb 16 mask) level.TooMany _ found e in
    let named = guard_ok (not (has_level mask 1 && has_level mask 2)) level.TooFew (ok_or (named_front mask rest) level.Truncated) found few.1 in
    let shorter : length found.1 + 2 ≤ length rest = named_shorter mask rest found (ok_or_ok (named_front mask rest) level.Truncated found named.1) in
    omega arith

pub levels_shorter : (bytes : List ℕ) (found : Levels × List ℕ) → levels bytes ≡ Ok found → length found.1 + 3 ≤ length bytes
levels_shorter bytes found e = by (levels_front bytes) (levels_front_shorter bytes) e
  where
    by : (r : Result (Levels × List ℕ) LevelFault) → ((p : Levels × List ℕ) → r ≡ Ok p → length p.1 + 3 ≤ length bytes) → after_levels bytes (used_or_fault bytes r) ≡ Ok found → length found.1 + 3 ≤ length bytes
    by (Err fault) shorter e = absurd cc
    by (Ok p) shorter e =
        let here = shorter p refl in
        let rest : length found.1 ≡ length (drop (length bytes - length p.1) bytes) = ap (λ (q : Levels × List ℕ). length q.1) (sym (ok_is (p.0, drop (length bytes - length p.1) bytes) found e)) in
        omega (arith, length-drop (length bytes - length p.1) bytes)

pub word_shorter : (bytes : List ℕ) (found : ℕ × List ℕ) → word bytes ≡ Ok found → length found.1 + 2 ≤ length bytes
word_shorter bytes found e = word_front_shorter bytes found (ok_or_ok (word_front bytes) (Sts 0x10) found e)

pub set_shorter : (bytes : List ℕ) (found : Set × List ℕ) → set bytes ≡ Ok found → length found.1 + 7 ≤ length bytes
unfolding set
set_shorter bytes found e =
    let at = bind_ok (levels bytes) _ found e in
    let and = bind_ok (word at.0.1) _ found at.2 in
    let or = bind_ok (word and.0.1) _ found and.2 in
    let last : length found.1 ≡ length or.0.1 = ap (λ (p : Set × List ℕ). length p.1) (sym (ok_is {E = Code} _ found or.2)) in
    let first = levels_shorter bytes at.0 at.1 in
    let second = word_shorter at.0.1 and.0 and.1 in
    let third = word_shorter and.0.1 or.0 or.1 in
    omega arith

-- ---- one set after the other

-- sets that were read, before more
abbrev pub after : List Set → Result (List Set) Code → Result (List Set) Code
after front (Ok more) = Ok (front ++ more)
after front (Err code) = Err code

after_none : (r : Result (List Set) Code) → after [] r ≡ r
after_none (Ok more) = refl
after_none (Err code) = refl

after_more : (front : List Set) (next : Set) (r : Result (List Set) Code) → after (front ++ next ∷ []) r ≡ after front (r >>= (λ more. Ok (next ∷ more)))
after_more front next (Ok more) = ap (λ (xs : List Set). Ok xs) (append_assoc front (next ∷ []) more)
after_more front next (Err code) = refl

enough_by : (m n size : ℕ) (r : Result (Set × List ℕ) Code) → ((found : Set × List ℕ) → r ≡ Ok found → length found.1 ≤ size)
    → ((rest : List ℕ) → length rest ≤ size → sets_within m rest ≡ sets_within n rest)
    → (r >>= (λ first. sets_within m first.1 >>= (λ more. Ok (first.0 ∷ more)))) ≡ (r >>= (λ first. sets_within n first.1 >>= (λ more. Ok (first.0 ∷ more))))
enough_by m n size (Err code) shorter same = refl
enough_by m n size (Ok first) shorter same =
    ap (λ (r : Result (List Set) Code). r >>= (λ more. Ok (first.0 ∷ more))) (same first.1 (shorter first refl))

-- how many more sets there may be makes no difference where it isn't reached
pub enough : (m n : ℕ) (bytes : List ℕ) → length bytes ≤ m → length bytes ≤ n → sets_within m bytes ≡ sets_within n bytes
unfolding sets_within
enough zero zero [] p q = refl
enough zero (suc n) [] p q = refl
enough (suc m) zero [] p q = refl
enough (suc m) (suc n) [] p q = refl
enough zero n (b ∷ bytes) p q = absurd (omega arith)
enough (suc m) zero (b ∷ bytes) p q = absurd (omega arith)
enough (suc m) (suc n) (b ∷ bytes) p q =
    enough_by m n (length bytes) (set (b ∷ bytes)) (λ found e. let shorter = set_shorter (b ∷ bytes) found e in omega arith) (λ rest le. enough m n rest (omega arith) (omega arith))

pub sets_start : (bytes : List ℕ) → length bytes ≢ 0 → after [] (sets_within (length bytes) bytes) ≡ sets bytes
sets_start [] some = absurd (some refl)
sets_start (b ∷ bytes) some = after_none (sets_within (length (b ∷ bytes)) (b ∷ bytes))

-- one more set
pub sets_more : (front : List Set) (rest : List ℕ) (next : Set) (left : List ℕ) (r : Result (List Set) Code) → set rest ≡ Ok (next, left) → after front (sets_within (length rest) rest) ≡ r
    → after (front ++ next ∷ []) (sets_within (length left) left) ≡ r
unfolding sets_within
sets_more front [] next left r is so_far = let shorter = set_shorter [] (next, left) is in absurd (omega arith)
sets_more front (b ∷ rest) next left r is so_far =
    let shorter = set_shorter (b ∷ rest) (next, left) is in
    let same : sets_within (length left) left ≡ sets_within (length rest) left = enough (length left) (length rest) left (omega arith) (omega arith) in
    let here : sets_within (length (b ∷ rest)) (b ∷ rest) ≡ (sets_within (length rest) left >>= (λ more. Ok (next ∷ more))) = rw is refl in
    ap (after (front ++ next ∷ [])) same ∙ after_more front next (sets_within (length rest) left) ∙ ap (after front) (sym here) ∙ so_far

-- a set that can't be read
pub sets_refused : (front : List Set) (rest : List ℕ) (code : Code) (r : Result (List Set) Code) → length rest ≢ 0 → set rest ≡ Err code → after front (sets_within (length rest) rest) ≡ r → Err code ≡ r
unfolding sets_within
sets_refused front [] code r some is so_far = absurd (some refl)
sets_refused front (b ∷ rest) code r some is so_far =
    let here : sets_within (length (b ∷ rest)) (b ∷ rest) ≡ Err code = rw is refl in
    ap (after front) (sym here) ∙ so_far

-- no set is left
pub sets_end : (front : List Set) (rest : List ℕ) (r : Result (List Set) Code) → length rest ≡ 0 → after front (sets_within (length rest) rest) ≡ r → Ok front ≡ r
unfolding sets_within
sets_end front [] r none so_far = ap (λ (xs : List Set). Ok xs) (sym (append-nil front)) ∙ so_far
sets_end front (b ∷ rest) r none so_far = absurd (omega arith)
