-- What is read as an order is spelled so, and what is spelled so is read.
use Rattle.std.proofs.Common.{◌≡◌, ℕ, ◌+◌, ◌*◌, ◌/◌, ◌%◌, Bool, true, false, eqb, List, [], ◌∷◌, ◌++◌, length, take, drop, Option, Some, None, refl, sym, ap, subst, ◌∙◌, append_assoc, arith}
use Rattle.std.proofs.lemmas.Bool.{cond_both, eqb-true, eq-eqb, true≢false}
use Rattle.std.proofs.lemmas.List.{drop_at, take-append-drop}
use Rattle.logical_address.specs.Spelling.{SpellsThree, SpellsOptional}
use Rattle.logical_address.specs.Spelling as spelling
use Rattle.logical_address.specs.Shortest.{shortest_three}
use Rattle.logical_address.specs.Reading.{byte_front, three_at}
use Rattle.logical_address.proofs.Fronts.{IsBytes, bind_some, some_is}
use Rattle.logical_address.proofs.Values.{byte_takes}
use Rattle.logical_address.proofs.Addresses.{three_at_spelled, three_at_known, three_spelled}
use Rattle.slc_commands.specs.declared.order.SlcFnc.{SlcFnc}
use Rattle.slc_commands.specs.declared.order.SlcFnc.TheVariants.{Read2, Read3, Write2, Write3, Masked}
use Rattle.slc_commands.specs.Order.{Order, fnc_byte, has_sub, has_mask, data_len, SpellsMask, given, left_out, SpellsOrder, fnc_of, mask_front, with_data, fields, spelled_order, IsOrder}

-- ---- what is read is spelled so

fnc_is : (byte : ℕ) (fnc : SlcFnc) → fnc_of byte ≡ Some fnc → byte ≡ fnc_byte fnc
fnc_is byte fnc e =
    let Goal : Option SlcFnc → Type 0 = λ o. o ≡ Some fnc → byte ≡ fnc_byte fnc in
    cond_both (eqb byte 0xA1) (Some Read2) _ Goal (λ is h. eqb-true byte 0xA1 is ∙ ap fnc_byte (some_is Read2 fnc h)) (λ _.
    cond_both (eqb byte 0xA2) (Some Read3) _ Goal (λ is h. eqb-true byte 0xA2 is ∙ ap fnc_byte (some_is Read3 fnc h)) (λ _.
    cond_both (eqb byte 0xA9) (Some Write2) _ Goal (λ is h. eqb-true byte 0xA9 is ∙ ap fnc_byte (some_is Write2 fnc h)) (λ _.
    cond_both (eqb byte 0xAA) (Some Write3) _ Goal (λ is h. eqb-true byte 0xAA is ∙ ap fnc_byte (some_is Write3 fnc h)) (λ _.
    cond_both (eqb byte 0xAB) (Some Masked) None Goal (λ is h. eqb-true byte 0xAB is ∙ ap fnc_byte (some_is Masked fnc h)) (λ _ h. absurd cc))))) e

record TakesMask (is_given : Bool) (mask : ℕ) (bytes rest : List ℕ) : Type 0 where
  front : List ℕ
  spelled : SpellsMask is_given mask front
  parts : bytes ≡ front ++ rest

mask_takes : (is_given : Bool) (bytes : List ℕ) (mask : ℕ) (rest : List ℕ) → mask_front is_given bytes ≡ Some (mask, rest) → TakesMask is_given mask bytes rest
mask_takes true [] mask rest e = absurd cc
mask_takes true (low ∷ []) mask rest e = absurd cc
mask_takes true (low ∷ high ∷ bytes) mask rest e =
    let P : ℕ × List ℕ → Type 0 = λ found. TakesMask true found.0 (low ∷ high ∷ bytes) found.1 in
    subst P (some_is (low + 256 * high, bytes) (mask, rest) e) (record { front = low ∷ high ∷ []; spelled = given refl; parts = refl })
mask_takes false bytes mask rest e =
    let P : ℕ × List ℕ → Type 0 = λ found. TakesMask false found.0 bytes found.1 in
    subst P (some_is (0xFFFF, bytes) (mask, rest) e) (record { front = []; spelled = left_out; parts = refl })

-- what follows FNC in an order of a function
record SpellsFields (fnc : SlcFnc) (order : Order) (bytes : List ℕ) : Type 0 where
  at : List ℕ
  mask : List ℕ
  of_at : SpellsThree (has_sub fnc) order.at at
  of_mask : SpellsMask (has_mask fnc) order.mask mask
  of_data : length order.bytes ≡ data_len fnc order.size
  same : order.fnc ≡ fnc
  whole : bytes ≡ order.size ∷ (at ++ (mask ++ order.bytes))

data_takes : (made order : Order) (bytes : List ℕ) → with_data made ≡ Some order → (length made.bytes ≡ data_len made.fnc made.size → SpellsFields made.fnc made bytes) → SpellsFields made.fnc order bytes
data_takes made order bytes e fits =
    cond_both (eqb (length made.bytes) (data_len made.fnc made.size)) (Some made) None (λ o. o ≡ Some order → SpellsFields made.fnc order bytes)
    (λ is h. let P : Order → Type 0 = λ o. SpellsFields made.fnc o bytes in subst P (some_is made order h) (fits (eqb-true (length made.bytes) (data_len made.fnc made.size) is)))
    (λ _ h. absurd cc)
    e

fields_take : (fnc : SlcFnc) (bytes : List ℕ) (order : Order) → IsBytes bytes → fields fnc bytes ≡ Some order → SpellsFields fnc order bytes
unfolding fields
fields_take fnc bytes order fits e =
    let s = bind_some (byte_front bytes) _ order e in
    let a = bind_some (three_at (has_sub fnc) s.0.1) _ order s.2 in
    let m = bind_some (mask_front (has_mask fnc) (drop a.0.1 s.0.1)) _ order a.2 in
    let of_size = byte_takes bytes s.0.0 s.0.1 fits s.1 in
    let of_at = three_at_spelled (has_sub fnc) s.0.1 a.0 of_size.1 (sym a.1) in
    let of_mask = mask_takes (has_mask fnc) (drop a.0.1 s.0.1) m.0.0 m.0.1 m.1 in
    let made : Order = record { fnc = fnc; at = a.0.0; size = s.0.0; mask = m.0.0; bytes = m.0.1 } in
    let front : take a.0.1 s.0.1 ++ (of_mask.front ++ m.0.1) ≡ s.0.1 = ap (λ (xs : List ℕ). take a.0.1 s.0.1 ++ xs) (sym of_mask.parts) ∙ take-append-drop a.0.1 s.0.1 in
    data_takes made order bytes m.2 (λ is. record {
      at = take a.0.1 s.0.1;
      mask = of_mask.front;
      of_at = of_at.spelled;
      of_mask = of_mask.spelled;
      of_data = is;
      same = refl;
      whole = of_size.0 ∙ ap (λ (xs : List ℕ). s.0.0 ∷ xs) (sym front);
    })

order_parts : (fnc size : ℕ) (at mask bytes : List ℕ) → fnc ∷ size ∷ at ++ mask ++ bytes ≡ fnc ∷ size ∷ (at ++ (mask ++ bytes))
order_parts fnc size at mask bytes = simp append_assoc

pub spelled_takes : (payload : List ℕ) (order : Order) → IsBytes payload → spelled_order payload ≡ Some order → SpellsOrder order payload
unfolding spelled_order
spelled_takes payload order fits e =
    let b = bind_some (byte_front payload) _ order e in
    let f = bind_some (fnc_of b.0.0) _ order b.2 in
    let of_byte = byte_takes payload b.0.0 b.0.1 fits b.1 in
    let t = fields_take f.0 b.0.1 order of_byte.1 f.2 in
    let back : f.0 ≡ order.fnc = sym t.same in
    let A : SlcFnc → Type 0 = λ fnc. SpellsThree (has_sub fnc) order.at t.at in
    let M : SlcFnc → Type 0 = λ fnc. SpellsMask (has_mask fnc) order.mask t.mask in
    let D : SlcFnc → Type 0 = λ fnc. length order.bytes ≡ data_len fnc order.size in
    let cons : ℕ → List ℕ → List ℕ = λ x xs. x ∷ xs in
    record {
      at = t.at;
      mask = t.mask;
      of_at = subst A back t.of_at;
      of_mask = subst M back t.of_mask;
      of_data = subst D back t.of_data;
      whole = of_byte.0 ∙ ap (λ x. cons x b.0.1) (fnc_is b.0.0 f.0 f.1 ∙ ap fnc_byte back) ∙ ap (cons (fnc_byte order.fnc)) t.whole ∙ sym (order_parts (fnc_byte order.fnc) order.size t.at t.mask order.bytes);
    }

-- ---- what is spelled so is read

fnc_again : (fnc : SlcFnc) → fnc_of (fnc_byte fnc) ≡ Some fnc
fnc_again Read2 = refl
fnc_again Read3 = refl
fnc_again Write2 = refl
fnc_again Write3 = refl
fnc_again Masked = refl

mask_again : {is_given : Bool} {mask : ℕ} {front : List ℕ} → SpellsMask is_given mask front → (rest : List ℕ) → mask_front is_given (front ++ rest) ≡ Some (mask, rest)
mask_again (given is) rest = let found : ℕ → Option (ℕ × List ℕ) = λ n. Some (n, rest) in ap found (sym is)
mask_again left_out rest = refl

fields_again : (order : Order) (at mask : List ℕ) → SpellsThree (has_sub order.fnc) order.at at → SpellsMask (has_mask order.fnc) order.mask mask → length order.bytes ≡ data_len order.fnc order.size
    → fields order.fnc (order.size ∷ (at ++ (mask ++ order.bytes))) ≡ Some order
unfolding fields
fields_again order at mask of_at of_mask of_data =
    let rest = mask ++ order.bytes in
    let whole : eqb (length order.bytes) (data_len order.fnc order.size) ≡ true = eq-eqb _ _ of_data in
    rw (three_at_known (has_sub order.fnc) order.at (at ++ rest) at rest of_at refl, drop_at at rest (length at) refl, mask_again of_mask order.bytes, whole) refl

pub spelled_again : (order : Order) (payload : List ℕ) → SpellsOrder order payload → spelled_order payload ≡ Some order
unfolding spelled_order
spelled_again order payload s =
    let regrouped : payload ≡ fnc_byte order.fnc ∷ order.size ∷ (s.at ++ (s.mask ++ order.bytes)) = s.whole ∙ order_parts (fnc_byte order.fnc) order.size s.at s.mask order.bytes in
    ap spelled_order regrouped ∙ rw (fnc_again order.fnc) (fields_again order s.at s.mask s.of_at s.of_mask s.of_data)

-- ---- what is true of an order that is spelled

none_is_zero : {is_given : Bool} {n : ℕ} {bytes : List ℕ} → SpellsOptional is_given n bytes → is_given ≡ false → n ≡ 0
none_is_zero (spelling.given s) e = absurd (true≢false e)
none_is_zero spelling.left_out e = refl

none_is_all_bits : {is_given : Bool} {mask : ℕ} {bytes : List ℕ} → SpellsMask is_given mask bytes → is_given ≡ false → mask ≡ 0xFFFF
none_is_all_bits (given is) e = absurd (true≢false e)
none_is_all_bits left_out e = refl

pub spelled_is_order : (order : Order) (payload : List ℕ) → SpellsOrder order payload → IsOrder order
spelled_is_order order payload s = record { of_data = s.of_data; of_sub = none_is_zero s.of_at.of_sub; of_mask = none_is_all_bits s.of_mask }

-- ---- every order is spelled by some payload

mask_spelled : (is_given : Bool) (mask : ℕ) → (is_given ≡ false → mask ≡ 0xFFFF) → (bytes : List ℕ) × SpellsMask is_given mask bytes
mask_spelled true mask all = (mask % 256 ∷ mask / 256 ∷ [], given (omega arith))
mask_spelled false mask all = let P : ℕ → Type 0 = λ m. SpellsMask false m [] in ([], subst P (sym (all refl)) left_out)

pub order_spelled : (order : Order) → IsOrder order → (payload : List ℕ) × SpellsOrder order payload
order_spelled order is =
    let at = shortest_three (has_sub order.fnc) order.at in
    let mask = mask_spelled (has_mask order.fnc) order.mask is.of_mask in (
      fnc_byte order.fnc ∷ order.size ∷ at ++ mask.0 ++ order.bytes,
      record { at = at; mask = mask.0; of_at = three_spelled (has_sub order.fnc) order.at is.of_sub; of_mask = mask.1; of_data = is.of_data; whole = refl },
    )

-- ---- a payload spells one order
pub one_order : (order other : Order) (payload : List ℕ) → SpellsOrder order payload → SpellsOrder other payload → order ≡ other
one_order order other payload p q = some_is order other (sym (spelled_again order payload p) ∙ spelled_again other payload q)
