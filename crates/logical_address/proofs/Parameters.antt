-- What is read as a parameter is spelled so, and what is spelled so is read.
use Rattle.std.proofs.Common.{◌≡◌, ℕ, ◌/◌, ◌%◌, Bool, true, false, cond, ◌||◌, eqb, ltb, leb, List, [], ◌∷◌, ◌++◌, length, Option, Some, None, Result, Ok, Err, refl, sym, ap, subst, ◌∙◌, append_assoc}
use Rattle.std.specs.Option.{ok_or, is_some, unwrap_or}
use Rattle.df1_base.specs.declared.file_type.FileType.{FileType}
use Rattle.df1_base.specs.declared.file_type.FileType.TheVariants.{Status, Bit, Timer, Counter, Control, Integer, Float}
use Rattle.std.proofs.lemmas.Bool.{cond_both, eqb-true, ltb-true, lt-ltb, lt-leb}
use Rattle.logical_address.specs.declared.param.Param.{Param}
use Rattle.logical_address.specs.declared.param.ParamFault.{ParamFault}
use Rattle.logical_address.specs.declared.param.ParamFault.TheVariants as param
use Rattle.logical_address.specs.Spelling.{SpellsField, inline, in_one, in_two, SpellsParam, IsFront}
use Rattle.logical_address.specs.Reading.{byte_front, word_front, field_front, is_wide, fields_front, param_front, param_at, used_or_fault}
use Rattle.logical_address.specs.Parameter.{element_param, written_element, array_size, array_of, written_array, IsArrayOf}
use Rattle.logical_address.proofs.Fronts.{IsBytes, IsBytes-rest, Takes, bind_some, some_is, ok_or_ok, guard_ok, used_is, used_or_fault_spelled}
use Rattle.logical_address.proofs.Values.{byte_takes, word_takes}

field_takes : (bits : ℕ) (bytes : List ℕ) (n : ℕ) (rest : List ℕ) → IsBytes bytes → field_front bits bytes ≡ Some (n, rest) → Takes (SpellsField bits n) bytes rest
field_takes bits bytes n rest fits e =
    let Goal : Option (ℕ × List ℕ) → Type 0 = λ found. found ≡ Some (n, rest) → Takes (SpellsField bits n) bytes rest in
    let S : ℕ → Type 0 = λ b. Takes (SpellsField b n) bytes rest in
    cond_both (ltb bits 8) (Some (bits, bytes)) (cond (eqb bits 9) (byte_front bytes) (cond (eqb bits 10) (word_front bytes) None)) Goal
    (λ small h.
    let P : ℕ × List ℕ → Type 0 = λ found. Takes (SpellsField bits found.0) bytes found.1 in
    subst P (some_is (bits, bytes) (n, rest) h) (record { front = []; spelled = inline (ltb-true bits 8 small); parts = refl; rest_fits = fits }))
    (λ _.
    cond_both (eqb bits 9) (byte_front bytes) (cond (eqb bits 10) (word_front bytes) None) Goal
    (λ nine h.
    let b = byte_takes bytes n rest fits h in
    subst S (sym (eqb-true bits 9 nine)) (record { front = n ∷ []; spelled = in_one; parts = b.0; rest_fits = b.1 }))
    (λ _.
    cond_both (eqb bits 10) (word_front bytes) None Goal
    (λ ten h.
    let w = word_takes bytes n rest fits h in
    subst S (sym (eqb-true bits 10 ten)) (record { front = w.low ∷ w.high ∷ []; spelled = in_two w.is; parts = w.parts; rest_fits = w.rest_fits }))
    (λ _ h. absurd cc)))
    e

field_again : {bits n : ℕ} {front : List ℕ} → SpellsField bits n front → (rest : List ℕ) → field_front bits (front ++ rest) ≡ Some (n, rest)
field_again (inline {n} small) rest = rw (lt-ltb n 8 small) refl
field_again in_one rest = refl
field_again (in_two is) rest = let found : ℕ → Option (ℕ × List ℕ) = λ m. Some (m, rest) in ap found (sym is)

not_wide : {bits n : ℕ} {front : List ℕ} → SpellsField bits n front → is_wide bits ≡ false
not_wide (inline {n} small) = rw (lt-leb 8 n small) refl
not_wide in_one = refl
not_wide (in_two is) = refl

param_parts : (flag : ℕ) (kind size rest : List ℕ) → (flag ∷ kind ++ size) ++ rest ≡ flag ∷ (kind ++ (size ++ rest))
param_parts flag kind size rest = simp append_assoc

fields_take : (flag : ℕ) (bytes : List ℕ) (p : Param) (rest : List ℕ) → IsBytes bytes → fields_front flag bytes ≡ Some (p, rest) → Takes (SpellsParam p) (flag ∷ bytes) rest
unfolding fields_front
fields_take flag bytes p rest fits e =
    let k = bind_some (field_front (flag / 16) bytes) _ (p, rest) e in
    let s = bind_some (field_front (flag % 16) k.0.1) _ (p, rest) k.2 in
    let of_kind = field_takes (flag / 16) bytes k.0.0 k.0.1 fits k.1 in
    let of_size = field_takes (flag % 16) k.0.1 s.0.0 s.0.1 of_kind.rest_fits s.1 in
    let found : Param × List ℕ = (record { kind = k.0.0; size = s.0.0 }, s.0.1) in
    let P : Param × List ℕ → Type 0 = λ q. Takes (SpellsParam q.0) (flag ∷ bytes) q.1 in
    subst P (some_is found (p, rest) s.2)
    (record {
      front = flag ∷ of_kind.front ++ of_size.front;
      spelled = record { flag = flag; kind = of_kind.front; size = of_size.front; of_kind = of_kind.spelled; of_size = of_size.spelled; whole = refl };
      parts = ap (λ (xs : List ℕ). flag ∷ xs) (of_kind.parts ∙ ap (λ (xs : List ℕ). of_kind.front ++ xs) of_size.parts) ∙ sym (param_parts flag of_kind.front of_size.front s.0.1);
      rest_fits = of_size.rest_fits;
    })

pub param_takes : (bytes : List ℕ) (p : Param) (rest : List ℕ) → IsBytes bytes → param_front bytes ≡ Ok (p, rest) → Takes (SpellsParam p) bytes rest
param_takes [] p rest fits e = absurd cc
param_takes (flag ∷ bytes) p rest fits e =
    let narrow = guard_ok (is_wide (flag / 16) || is_wide (flag % 16)) param.WideField _ (p, rest) e in
    fields_take flag bytes p rest (IsBytes-rest flag bytes fits) (ok_or_ok (fields_front flag bytes) param.Truncated (p, rest) narrow.1)

fields_again : (flag : ℕ) (p : Param) (kind size rest : List ℕ) → SpellsField (flag / 16) p.kind kind → SpellsField (flag % 16) p.size size → fields_front flag (kind ++ (size ++ rest)) ≡ Some (p, rest)
unfolding fields_front
fields_again flag p kind size rest of_kind of_size = rw (field_again of_kind (size ++ rest), field_again of_size rest) refl

narrow_again : (flag : ℕ) (p : Param) (bytes rest : List ℕ) → is_wide (flag / 16) ≡ false → is_wide (flag % 16) ≡ false → fields_front flag bytes ≡ Some (p, rest) → param_front (flag ∷ bytes) ≡ Ok (p, rest)
narrow_again flag p bytes rest kind size found =
    let wide : Bool → Result (Param × List ℕ) ParamFault = λ b. cond b (Err param.WideField) (ok_or (fields_front flag bytes) param.Truncated) in
    let none : (is_wide (flag / 16) || is_wide (flag % 16)) ≡ false = ap (λ (b : Bool). b || is_wide (flag % 16)) kind ∙ size in
    ap wide none ∙ ap (λ (o : Option (Param × List ℕ)). ok_or o param.Truncated) found

pub param_again : (p : Param) (front rest : List ℕ) → SpellsParam p front → param_front (front ++ rest) ≡ Ok (p, rest)
param_again p front rest s =
    let tail = s.kind ++ (s.size ++ rest) in
    let regrouped : front ++ rest ≡ s.flag ∷ tail = ap (λ (xs : List ℕ). xs ++ rest) s.whole ∙ param_parts s.flag s.kind s.size rest in
    ap param_front regrouped ∙ narrow_again s.flag p tail rest (not_wide s.of_kind) (not_wide s.of_size) (fields_again s.flag p s.kind s.size rest s.of_kind s.of_size)

pub param_at_spelled : (bytes : List ℕ) (found : Param × ℕ) → IsBytes bytes → Ok found ≡ param_at bytes → IsFront (SpellsParam found.0) found.1 bytes
param_at_spelled bytes found fits e = used_or_fault_spelled SpellsParam bytes (param_front bytes) found (λ p rest h. param_takes bytes p rest fits h) e

pub param_at_known : (p : Param) (bytes front rest : List ℕ) → SpellsParam p front → bytes ≡ front ++ rest → param_at bytes ≡ Ok (p, length front)
param_at_known p bytes front rest s parts =
    ap (used_or_fault bytes) (ap param_front parts ∙ param_again p front rest s) ∙ ap (λ (x : Param × ℕ). Ok x) (used_is bytes front rest p parts)

-- ---- what is written of an array is read

-- the parameter of an element, whatever follows
element_again : (kind : FileType) (element : Param) (rest : List ℕ) → element_param kind ≡ Some element → param_front (written_element kind ++ rest) ≡ Ok (element, rest)
unfolding fields_front
element_again Status element rest is = let read : Param → Result (Param × List ℕ) ParamFault = λ p. Ok (p, rest) in ap read (some_is (record { kind = 4; size = 2 }) element is)
element_again Bit element rest is = let read : Param → Result (Param × List ℕ) ParamFault = λ p. Ok (p, rest) in ap read (some_is (record { kind = 2; size = 2 }) element is)
element_again Timer element rest is = absurd cc
element_again Counter element rest is = absurd cc
element_again Control element rest is = absurd cc
element_again Integer element rest is = let read : Param → Result (Param × List ℕ) ParamFault = λ p. Ok (p, rest) in ap read (some_is (record { kind = 4; size = 2 }) element is)
element_again Float element rest is = let read : Param → Result (Param × List ℕ) ParamFault = λ p. Ok (p, rest) in ap read (some_is (record { kind = 8; size = 4 }) element is)

array_first : (size : ℕ) (rest : List ℕ) → param_front (0x99 ∷ 9 ∷ size ∷ rest) ≡ Ok (record { kind = 9; size = size }, rest)
unfolding fields_front
array_first size rest = refl

array_by : (kind : FileType) (count : ℕ) (element : Option Param) (bytes rest : List ℕ) → element_param kind ≡ element → array_of kind count element ≡ Some bytes → IsArrayOf kind count (bytes ++ rest) rest
array_by kind count None bytes rest is e = absurd cc
array_by kind count (Some element) bytes rest is e =
    let size = array_size kind count element in
    cond_both (leb size 255) (Some (0x99 ∷ 9 ∷ size ∷ written_element kind)) None (λ written. written ≡ Some bytes → IsArrayOf kind count (bytes ++ rest) rest)
    (λ _ h.
    let P : List ℕ → Type 0 = λ xs. IsArrayOf kind count (xs ++ rest) rest in
    subst P (some_is (0x99 ∷ 9 ∷ size ∷ written_element kind) bytes h)
    (record { element = element; after = written_element kind ++ rest; is_element = is; array = array_first size (written_element kind ++ rest); of_element = element_again kind element rest is }))
    (λ _ h. absurd cc)
    e

pub array_again : (kind : FileType) (count : ℕ) (bytes rest : List ℕ) → is_some (written_array kind count) ≡ true → bytes ≡ unwrap_or (written_array kind count) [] → IsArrayOf kind count (bytes ++ rest) rest
array_again kind count bytes rest fits written =
    array_by kind count (element_param kind) bytes rest refl (by_some (written_array kind count) bytes fits written)
  where
    by_some : (o : Option (List ℕ)) (xs : List ℕ) → is_some o ≡ true → xs ≡ unwrap_or o [] → o ≡ Some xs
    by_some None xs fits written = absurd cc
    by_some (Some ys) xs fits written = ap (λ (zs : List ℕ). Some zs) (sym written)
