-- A spelling at the front of bytes, and the steps of reading it.
use Rattle.std.proofs.Common.{◌≡◌, ℕ, suc, ◌+◌, ◌-◌, ◌<◌, Bool, true, false, cond, List, ◌∷◌, ◌++◌, length, get_or, take, Option, Some, None, Result, Ok, Err, refl, sym, ap, subst, ◌∙◌, arith, length-append}
use Rattle.std.specs.Option.{option_map, ok_or}
use Rattle.std.proofs.lemmas.List.{take_at, append_cancel_right}
use Rattle.logical_address.specs.Spelling.{IsFront}
use Rattle.logical_address.specs.Reading.{◌>>=◌, used, used_or_fault}

abbrev pub IsBytes : List ℕ → Type 0
IsBytes bytes = (i : ℕ) → get_or bytes i 0 < 256

pub IsBytes-rest : (b : ℕ) (bytes : List ℕ) → IsBytes (b ∷ bytes) → IsBytes bytes
IsBytes-rest b bytes h i = h (suc i)

-- the bytes are a spelling and the rest after it
pub record Takes (Spelled : List ℕ → Type 0) (bytes rest : List ℕ) : Type 0 where
  pub front : List ℕ
  pub spelled : Spelled front
  pub parts : bytes ≡ front ++ rest
  pub rest_fits : IsBytes rest

-- ---- what steps that did not fail gave

pub bind_some : {A B : Type 0} (o : Option A) (f : A → Option B) (y : B) → (o >>= f) ≡ Some y → (x : A) × (o ≡ Some x) × (f x ≡ Some y)
bind_some None f y e = absurd cc
bind_some (Some x) f y e = (x, refl, e)

abbrev some : {A : Type 0} → A → Option A
some x = Some x

pub some_is : {A : Type 0} (x y : A) → some x ≡ some y → x ≡ y
some_is x y e = cc

abbrev okay : {A E : Type 0} → A → Result A E
okay x = Ok x

pub ok_is : {A E : Type 0} (x y : A) → okay {E = E} x ≡ okay y → x ≡ y
ok_is x y e = cc

pub ok_or_ok : {A E : Type 0} (o : Option A) (e : E) (x : A) → ok_or o e ≡ Ok x → o ≡ Some x
ok_or_ok None e x h = absurd cc
ok_or_ok (Some y) e x h = cc

pub guard_ok : {A E : Type 0} (b : Bool) (fault : E) (r : Result A E) (x : A) → cond b (Err fault) r ≡ Ok x → (b ≡ false) × (r ≡ Ok x)
guard_ok true fault r x e = absurd cc
guard_ok false fault r x e = (refl, e)

-- ---- what is used of the bytes

pub used_front : (Spelled : List ℕ → Type 0) (bytes rest : List ℕ) → Takes Spelled bytes rest → IsFront Spelled (length bytes - length rest) bytes
used_front Spelled bytes rest takes =
    let total : length bytes ≡ length takes.front + length rest = ap length takes.parts ∙ length-append takes.front rest in
    let count : length takes.front ≡ length bytes - length rest = omega arith in
    let front : take (length bytes - length rest) bytes ≡ takes.front =
    ap (λ (text : List ℕ). take (length bytes - length rest) text) takes.parts ∙ take_at takes.front rest (length bytes - length rest) count in
    record { within = omega arith; spelled = subst Spelled (sym front) takes.spelled }

pub used_is : {X : Type 0} (bytes front rest : List ℕ) (x : X) → bytes ≡ front ++ rest → used bytes (x, rest) ≡ (x, length front)
used_is {X} bytes front rest x parts =
    let total : length bytes ≡ length front + length rest = ap length parts ∙ length-append front rest in
    let count : length bytes - length rest ≡ length front = omega arith in
    let pair : ℕ → X × ℕ = λ n. (x, n) in
    ap pair count

-- what was read is spelled, so many bytes at the front
pub used_spelled : {X : Type 0} (Spelled : X → List ℕ → Type 0) (bytes : List ℕ) (o : Option (X × List ℕ)) (found : X × ℕ) → ((x : X) (rest : List ℕ) → o ≡ Some (x, rest) → Takes (Spelled x) bytes rest)
    → Some found ≡ option_map (used bytes) o → IsFront (Spelled found.0) found.1 bytes
used_spelled Spelled bytes None found takes e = absurd cc
used_spelled {X} Spelled bytes (Some (x, rest)) found takes e =
    let P : X × ℕ → Type 0 = λ p. IsFront (Spelled p.0) p.1 bytes in
    subst P (sym (some_is found (used bytes (x, rest)) e)) (used_front (Spelled x) bytes rest (takes x rest refl))

pub used_or_fault_spelled : {X E : Type 0} (Spelled : X → List ℕ → Type 0) (bytes : List ℕ) (r : Result (X × List ℕ) E) (found : X × ℕ) → ((x : X) (rest : List ℕ) → r ≡ Ok (x, rest) → Takes (Spelled x) bytes rest)
    → Ok found ≡ used_or_fault bytes r → IsFront (Spelled found.0) found.1 bytes
used_or_fault_spelled Spelled bytes (Err fault) found takes e = absurd cc
used_or_fault_spelled {X} {E} Spelled bytes (Ok (x, rest)) found takes e =
    let P : X × ℕ → Type 0 = λ p. IsFront (Spelled p.0) p.1 bytes in
    subst P (sym (ok_is {E = E} found (used bytes (x, rest)) e)) (used_front (Spelled x) bytes rest (takes x rest refl))

-- ---- one front

-- two fronts that are read as different things do not begin the same bytes
pub one_front : {X Y : Type 0} (read : List ℕ → Y) (wrap : X × List ℕ → Y) → ((p q : X × List ℕ) → wrap p ≡ wrap q → p ≡ q) → (x y : X) (front other rest others : List ℕ)
    → read (front ++ rest) ≡ wrap (x, rest) → read (other ++ others) ≡ wrap (y, others) → front ++ rest ≡ other ++ others → (front ≡ other) × (x ≡ y)
one_front {X} {Y} read wrap apart x y front other rest others p q same =
    let pairs : let both : (X × List ℕ) × (X × List ℕ) = ((x, rest), (y, others)) in both.0 ≡ both.1 = apart (x, rest) (y, others) (sym p ∙ ap read same ∙ q) in
    let rests : rest ≡ others = ap (λ (found : X × List ℕ). found.1) pairs in
    let whole : front ++ others ≡ other ++ others = subst (λ (r : List ℕ). front ++ r ≡ other ++ others) rests same in
    (append_cancel_right front other others whole, ap (λ (found : X × List ℕ). found.0) pairs)
