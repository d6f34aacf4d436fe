-- Typed data that is spelled so is read as it, and what is read is spelled so.
use Rattle.std.proofs.Common.{◌≡◌, ℕ, ◌+◌, ◌-◌, ◌*◌, Bool, true, false, cond, eqb, leb, List, [], ◌∷◌, ◌++◌, length, drop, Option, Some, None, Result, Ok, Err, refl, sym, ap, subst, ◌∙◌, append_assoc, arith, length-append}
use Rattle.df1_base.specs.declared.file_type.FileType.{FileType}
use Rattle.df1_base.specs.declared.file_type.FileType.TheVariants.{Status, Bit, Timer, Counter, Control, Integer, Float}
use Rattle.std.specs.Option.{option_and_then, option_map}
use Rattle.std.specs.Result.{result_ok}
use Rattle.std.proofs.lemmas.Bool.{cond_both, eq-eqb, eqb-false, eqb-true, ne_eqb}
use Rattle.std.proofs.lemmas.List.{drop_at}
use Rattle.logical_address.specs.declared.param.Param.{Param}
use Rattle.logical_address.specs.declared.param.ParamFault.{ParamFault}
use Rattle.logical_address.specs.Spelling.{SpellsParam, inline, in_one}
use Rattle.logical_address.specs.Parameter.{element_param, written_array}
use Rattle.logical_address.specs.Reading as reading
use Rattle.logical_address.specs.Reading.{used_or_fault}
use Rattle.logical_address.proofs.Fronts.{IsBytes, Takes, some_is}
use Rattle.logical_address.proofs.Parameters.{param_at_known, param_takes}
use Rattle.plc_commands.specs.Spelling.{SpellsElement, alone, in_array}
use Rattle.reply_values.specs.Typed.{SpellsTyped, TypedData, after_param, array_element, by_first, param_front, typed_of, with_element}

param_again : (p : Param) (front rest : List ℕ) → SpellsParam p front → param_front (front ++ rest) ≡ Some (p, rest)
param_again p front rest s =
    let found : List ℕ → Option (Param × List ℕ) = λ xs. Some (p, xs) in
    ap (λ (r : Result (Param × ℕ) ParamFault). option_map (after_param (front ++ rest)) (result_ok r)) (param_at_known p (front ++ rest) front rest s refl)
    ∙ ap found (drop_at front rest (length front) refl)

abbrev typed : Param → Bool → List ℕ → Option TypedData
typed element is_array bytes = Some (record { element = element; is_array = is_array; bytes = bytes })

element_again : {element : Param} {is_array : Bool} {size : ℕ} {front : List ℕ} → SpellsElement element is_array size front → (rest : List ℕ) → size ≡ length rest → typed_of (front ++ rest) ≡ typed element is_array rest
element_again (alone {element} {size} {bytes = front} s other) rest is =
    ap (option_and_then by_first) (param_again element front rest s)
    ∙ ap (λ (t : Bool). cond t (array_element element rest) (typed element false rest)) (ne_eqb element.kind 9 other)
element_again (in_array {element} {array} {size} {outer} {inner} s nine t total) rest is =
    let bytes : List ℕ = inner ++ rest in
    let all : array.size ≡ length bytes = total ∙ ap (λ (n : ℕ). length inner + n) is ∙ sym (length-append inner rest) in
    ap typed_of (append_assoc outer inner rest)
    ∙ ap (option_and_then by_first) (param_again array outer bytes s)
    ∙ ap (λ (b : Bool). cond b (array_element array bytes) (typed array false bytes)) (eq-eqb array.kind 9 nine)
    ∙ ap (option_and_then (with_element array bytes)) (param_again element inner rest t)
    ∙ ap (λ (b : Bool). cond b (typed element true rest) None) (eq-eqb array.size (length bytes) all)

pub typed_known : (data' : TypedData) (bytes : List ℕ) → SpellsTyped data' bytes → typed_of bytes ≡ Some data'
typed_known data' bytes s = ap typed_of s.whole ∙ element_again s.of_params data'.bytes refl

-- ---- what is read is spelled so

mapped : {A B : Type 0} (f : A → B) (o : Option A) (y : B) → option_map f o ≡ Some y → (x : A) × (o ≡ Some x) × (f x ≡ y)
mapped f None y e = absurd cc
mapped f (Some x) y e = (x, refl, some_is (f x) y e)

bound : {A B : Type 0} (f : A → Option B) (o : Option A) (y : B) → option_and_then f o ≡ Some y → (x : A) × (o ≡ Some x) × (f x ≡ Some y)
bound f None y e = absurd cc
bound f (Some x) y e = (x, refl, e)

-- what is left after so many bytes as a front has is the rest
left_after : (bytes front rest : List ℕ) → bytes ≡ front ++ rest → drop (length bytes - length rest) bytes ≡ rest
left_after bytes front rest parts =
    let total : length bytes ≡ length front + length rest = ap length parts ∙ length-append front rest in
    let count : length bytes - length rest ≡ length front = omega arith in
    ap (λ (n : ℕ). drop n bytes) count ∙ ap (drop (length front)) parts ∙ drop_at front rest (length front) refl

take_param : (bytes : List ℕ) (found : Param × List ℕ) → IsBytes bytes → param_front bytes ≡ Some found → Takes (SpellsParam found.0) bytes found.1
take_param bytes found fits e = by (reading.param_front bytes) (λ p rest h. param_takes bytes p rest fits h) e
  where
    by : (r : Result (Param × List ℕ) ParamFault) → ((p : Param) (rest : List ℕ) → r ≡ Ok (p, rest) → Takes (SpellsParam p) bytes rest) → option_map (after_param bytes) (result_ok (used_or_fault bytes r)) ≡ Some found → Takes (SpellsParam found.0) bytes found.1
    by (Err fault) takes e = absurd cc
    by (Ok (q, rest)) takes e =
        let t = takes q rest refl in
        let pair : Param × List ℕ = (q, rest) in
        let left = left_after bytes t.front rest t.parts in
        let is : pair ≡ found = ap (λ (xs : List ℕ). let p : Param × List ℕ = (q, xs) in p) (sym left) ∙ some_is (q, drop (length bytes - length rest) bytes) found e in
        let P : Param × List ℕ → Type 0 = λ p. Takes (SpellsParam p.0) bytes p.1 in
        subst P is t

array_takes : (array : Param) (outer rest bytes : List ℕ) (found : TypedData) → SpellsParam array outer → bytes ≡ outer ++ rest → IsBytes rest → array.kind ≡ 9 → array_element array rest ≡ Some found → SpellsTyped found bytes
array_takes array outer rest bytes found spelled parts fits nine e =
    let q = bound (with_element array rest) (param_front rest) found e in
    let u = take_param rest q.0 fits q.1 in
    let made : TypedData = record { element = q.0.0; is_array = true; bytes = q.0.1 } in
    let P : TypedData → Type 0 = λ f. SpellsTyped f bytes in
    cond_both (eqb array.size (length rest)) (Some made) None (λ (o : Option TypedData). o ≡ Some found → SpellsTyped found bytes)
    (λ size h. subst P (some_is made found h) (record {
      front = outer ++ u.front;
      of_params = in_array spelled nine u.spelled (eqb-true array.size (length rest) size ∙ ap length u.parts ∙ length-append u.front q.0.1);
      whole = parts ∙ ap (λ (xs : List ℕ). outer ++ xs) u.parts ∙ sym (append_assoc outer u.front q.0.1);
    }))
    (λ _ h. absurd cc)
    q.2

pub typed_takes : (bytes : List ℕ) (found : TypedData) → IsBytes bytes → typed_of bytes ≡ Some found → SpellsTyped found bytes
typed_takes bytes found fits e =
    let p = bound by_first (param_front bytes) found e in
    let t = take_param bytes p.0 fits p.1 in
    let made : TypedData = record { element = p.0.0; is_array = false; bytes = p.0.1 } in
    let P : TypedData → Type 0 = λ f. SpellsTyped f bytes in
    cond_both (eqb p.0.0.kind 9) (array_element p.0.0 p.0.1) (Some made) (λ (o : Option TypedData). o ≡ Some found → SpellsTyped found bytes)
    (λ nine h. array_takes p.0.0 t.front p.0.1 bytes found t.spelled t.parts t.rest_fits (eqb-true p.0.0.kind 9 nine) h)
    (λ other h. subst P (some_is made found h) (record { front = t.front; of_params = alone t.spelled (eqb-false p.0.0.kind 9 other); whole = t.parts }))
    p.2

-- ---- the data that a station gives

integer_spelled : SpellsParam (record { kind = 4; size = 2 }) (0x42 ∷ [])
integer_spelled = record { flag = 0x42; kind = []; size = []; of_kind = inline (omega arith); of_size = inline (omega arith); whole = refl }

bit_spelled : SpellsParam (record { kind = 2; size = 2 }) (0x22 ∷ [])
bit_spelled = record { flag = 0x22; kind = []; size = []; of_kind = inline (omega arith); of_size = inline (omega arith); whole = refl }

float_spelled : SpellsParam (record { kind = 8; size = 4 }) (0x94 ∷ 0x08 ∷ [])
float_spelled = record { flag = 0x94; kind = 0x08 ∷ []; size = []; of_kind = in_one; of_size = inline (omega arith); whole = refl }

array_known : (element : Param) (inner : List ℕ) (size : ℕ) (array bytes : List ℕ) → SpellsParam element inner → size ≡ length inner + length bytes → cond (leb size 255) (Some (0x99 ∷ 9 ∷ size ∷ inner)) None ≡ Some array
    → typed_of (array ++ bytes) ≡ typed element true bytes
array_known element inner size array bytes spelled is e =
    let whole : List ℕ = 0x99 ∷ 9 ∷ size ∷ inner in
    let outer : SpellsParam (record { kind = 9; size = size }) (0x99 ∷ 9 ∷ size ∷ []) = record { flag = 0x99; kind = 9 ∷ []; size = size ∷ []; of_kind = in_one; of_size = in_one; whole = refl } in
    let params : SpellsElement element true (length bytes) whole = in_array outer refl spelled is in
    let P : List ℕ → Type 0 = λ front. typed_of (front ++ bytes) ≡ typed element true bytes in
    cond_both (leb size 255) (Some whole) None (λ (o : Option (List ℕ)). o ≡ Some array → P array) (λ _ h. subst P (some_is whole array h) (element_again params bytes refl)) (λ _ h. absurd cc) e

pub data_known : (kind : FileType) (count : ℕ) (element : Param) (array bytes : List ℕ) → element_param kind ≡ Some element → written_array kind count ≡ Some array → length bytes ≡ element.size * count → typed_of (array ++ bytes) ≡ typed element true bytes
data_known Status count element array bytes is written size =
    let P : Param → Type 0 = λ p. length bytes ≡ p.size * count → typed_of (array ++ bytes) ≡ typed p true bytes in
    subst P (some_is (record { kind = 4; size = 2 }) element is) (λ s. array_known (record { kind = 4; size = 2 }) (0x42 ∷ []) (1 + 2 * count) array bytes integer_spelled (omega arith) written) size
data_known Bit count element array bytes is written size =
    let P : Param → Type 0 = λ p. length bytes ≡ p.size * count → typed_of (array ++ bytes) ≡ typed p true bytes in
    subst P (some_is (record { kind = 2; size = 2 }) element is) (λ s. array_known (record { kind = 2; size = 2 }) (0x22 ∷ []) (1 + 2 * count) array bytes bit_spelled (omega arith) written) size
data_known Timer count element array bytes is written size = absurd cc
data_known Counter count element array bytes is written size = absurd cc
data_known Control count element array bytes is written size = absurd cc
data_known Integer count element array bytes is written size =
    let P : Param → Type 0 = λ p. length bytes ≡ p.size * count → typed_of (array ++ bytes) ≡ typed p true bytes in
    subst P (some_is (record { kind = 4; size = 2 }) element is) (λ s. array_known (record { kind = 4; size = 2 }) (0x42 ∷ []) (1 + 2 * count) array bytes integer_spelled (omega arith) written) size
data_known Float count element array bytes is written size =
    let P : Param → Type 0 = λ p. length bytes ≡ p.size * count → typed_of (array ++ bytes) ≡ typed p true bytes in
    subst P (some_is (record { kind = 8; size = 4 }) element is) (λ s. array_known (record { kind = 8; size = 4 }) (0x94 ∷ 0x08 ∷ []) (2 + 4 * count) array bytes float_spelled (omega arith) written) size
