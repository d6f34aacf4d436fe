-- What is read as an address is spelled so, and what is spelled so is read.
use Rattle.std.proofs.Common.{◌≡◌, ℕ, ◌+◌, ◌≤◌, Bool, true, false, cond, not, ◌&&◌, eqb, leb, List, [], ◌∷◌, ◌++◌, length, Some, Ok, refl, sym, ap, subst, ◌∙◌, append_assoc, arith, length-append}
use Rattle.std.specs.Option.{option_map}
use Rattle.std.proofs.lemmas.Bool.{cond_both, eqb-true, leb-false, lt-leb, not-false, and_parts}
use Rattle.logical_address.specs.declared.levels.Levels.{Levels}
use Rattle.logical_address.specs.declared.levels.LevelFault.TheVariants as level
use Rattle.logical_address.specs.declared.three.Three.{Three}
use Rattle.logical_address.specs.Spelling.{SpellsValue, SpellsOptional, given, left_out, SpellsThree, has_level, IsMask, SpellsLevels, IsFront, IsShortest}
use Rattle.logical_address.specs.Shortest.{shortest_value, shortest_level, shortest_three, shortest_mask, shortest_levels}
use Rattle.logical_address.specs.Reading.{byte_front, value_front, optional_front, three_front, named_front, levels_front, three_at, levels_at, used, used_or_fault}
use Rattle.logical_address.proofs.Fronts.{IsBytes, IsBytes-rest, Takes, bind_some, some_is, ok_or_ok, guard_ok, used_is, used_spelled, used_or_fault_spelled}
use Rattle.logical_address.proofs.Values.{byte_takes, value_takes, optional_takes, value_again, optional_again, value_spelled, value_length}

-- ---- three fields

three_parts : (file element sub rest : List ℕ) (kind : ℕ) → (file ++ kind ∷ element ++ sub) ++ rest ≡ file ++ (kind ∷ (element ++ (sub ++ rest)))
three_parts file element sub rest kind = simp append_assoc

pub three_takes : (with_sub : Bool) (bytes : List ℕ) (at : Three) (rest : List ℕ) → IsBytes bytes → three_front with_sub bytes ≡ Some (at, rest) → Takes (SpellsThree with_sub at) bytes rest
unfolding three_front
three_takes with_sub bytes at rest fits e =
    let f = bind_some (value_front bytes) _ (at, rest) e in
    let k = bind_some (byte_front f.0.1) _ (at, rest) f.2 in
    let l = bind_some (value_front k.0.1) _ (at, rest) k.2 in
    let s = bind_some (optional_front with_sub l.0.1) _ (at, rest) l.2 in
    let of_file = value_takes bytes f.0.0 f.0.1 fits f.1 in
    let of_kind = byte_takes f.0.1 k.0.0 k.0.1 of_file.rest_fits k.1 in
    let of_element = value_takes k.0.1 l.0.0 l.0.1 of_kind.1 l.1 in
    let of_sub = optional_takes with_sub l.0.1 s.0.0 s.0.1 of_element.rest_fits s.1 in
    let found : Three × List ℕ = (record { file = f.0.0; kind = k.0.0; element = l.0.0; sub = s.0.0 }, s.0.1) in
    let tail : k.0.1 ≡ of_element.front ++ (of_sub.front ++ s.0.1) = of_element.parts ∙ ap (λ (xs : List ℕ). of_element.front ++ xs) of_sub.parts in
    let body : f.0.1 ≡ k.0.0 ∷ (of_element.front ++ (of_sub.front ++ s.0.1)) = of_kind.0 ∙ ap (λ (xs : List ℕ). k.0.0 ∷ xs) tail in
    let P : Three × List ℕ → Type 0 = λ p. Takes (SpellsThree with_sub p.0) bytes p.1 in
    subst P (some_is found (at, rest) s.2)
    (record {
      front = of_file.front ++ k.0.0 ∷ of_element.front ++ of_sub.front;
      spelled = record { file = of_file.front; element = of_element.front; sub = of_sub.front; of_file = of_file.spelled; of_element = of_element.spelled; of_sub = of_sub.spelled; whole = refl };
      parts = of_file.parts ∙ ap (λ (xs : List ℕ). of_file.front ++ xs) body ∙ sym (three_parts of_file.front of_element.front of_sub.front s.0.1 k.0.0);
      rest_fits = of_sub.rest_fits;
    })

pub three_again : (with_sub : Bool) (at : Three) (front rest : List ℕ) → SpellsThree with_sub at front → three_front with_sub (front ++ rest) ≡ Some (at, rest)
unfolding three_front
three_again with_sub at front rest s =
    let regrouped : front ++ rest ≡ s.file ++ (at.kind ∷ (s.element ++ (s.sub ++ rest))) = ap (λ (xs : List ℕ). xs ++ rest) s.whole ∙ three_parts s.file s.element s.sub rest at.kind in
    ap (three_front with_sub) regrouped ∙ rw (value_again s.of_file (at.kind ∷ (s.element ++ (s.sub ++ rest))), value_again s.of_element (s.sub ++ rest), optional_again s.of_sub rest) refl

pub three_spelled : (with_sub : Bool) (at : Three) → (with_sub ≡ false → at.sub ≡ 0) → SpellsThree with_sub at (shortest_three with_sub at)
three_spelled true at _ =
    record { file = shortest_value at.file; element = shortest_value at.element; sub = shortest_value at.sub; of_file = value_spelled at.file; of_element = value_spelled at.element; of_sub = given (value_spelled at.sub); whole = refl }
three_spelled false at none =
    let P : ℕ → Type 0 = λ n. SpellsOptional false n [] in
    record { file = shortest_value at.file; element = shortest_value at.element; sub = []; of_file = value_spelled at.file; of_element = value_spelled at.element; of_sub = subst P (sym (none refl)) left_out; whole = refl }

three_length : (file element sub : List ℕ) (kind : ℕ) → length (file ++ kind ∷ element ++ sub) ≡ length file + length element + length sub + 1
three_length file element sub kind = simp length-append (omega arith)

optional_length : (is_given : Bool) (n : ℕ) (bytes : List ℕ) → SpellsOptional is_given n bytes → length (cond is_given (shortest_value n) []) ≤ length bytes
optional_length is_given n bytes (given s) = value_length n bytes s
optional_length is_given n bytes left_out = omega arith

pub three_shortest : (with_sub : Bool) (at : Three) → (with_sub ≡ false → at.sub ≡ 0) → IsShortest (SpellsThree with_sub at) (shortest_three with_sub at)
three_shortest with_sub at none = record {
  spelled = three_spelled with_sub at none;
  none_shorter = λ other s.
      let mine = three_length (shortest_value at.file) (shortest_value at.element) (cond with_sub (shortest_value at.sub) []) at.kind in
      let theirs : length other ≡ length s.file + length s.element + length s.sub + 1 = ap length s.whole ∙ three_length s.file s.element s.sub at.kind in
      let file = value_length at.file s.file s.of_file in
      let element = value_length at.element s.element s.of_element in
      let sub = optional_length with_sub at.sub s.sub s.of_sub in
      omega arith;
}

pub three_at_spelled : (with_sub : Bool) (bytes : List ℕ) (found : Three × ℕ) → IsBytes bytes → Some found ≡ three_at with_sub bytes → IsFront (SpellsThree with_sub found.0) found.1 bytes
three_at_spelled with_sub bytes found fits e = used_spelled (SpellsThree with_sub) bytes (three_front with_sub bytes) found (λ at rest h. three_takes with_sub bytes at rest fits h) e

pub three_at_known : (with_sub : Bool) (at : Three) (bytes front rest : List ℕ) → SpellsThree with_sub at front → bytes ≡ front ++ rest → three_at with_sub bytes ≡ Some (at, length front)
three_at_known with_sub at bytes front rest s parts =
    ap (option_map (used bytes)) (ap (three_front with_sub) parts ∙ three_again with_sub at front rest s) ∙ ap (λ (p : Three × ℕ). Some p) (used_is bytes front rest at parts)

-- ---- levels

levels_parts : (mask : ℕ) (area file element sub rest : List ℕ) → (mask ∷ area ++ file ++ element ++ sub) ++ rest ≡ mask ∷ (area ++ (file ++ (element ++ (sub ++ rest))))
levels_parts mask area file element sub rest = simp append_assoc

-- the levels of a mask at the front
record TakesLevels (mask : ℕ) (at : Levels) (bytes rest : List ℕ) : Type 0 where
  area : List ℕ
  file : List ℕ
  element : List ℕ
  sub : List ℕ
  of_area : SpellsOptional (has_level mask 0) at.area area
  of_file : SpellsValue at.file file
  of_element : SpellsValue at.element element
  of_sub : SpellsOptional (has_level mask 3) at.sub sub
  parts : bytes ≡ area ++ (file ++ (element ++ (sub ++ rest)))
  rest_fits : IsBytes rest

named_takes : (mask : ℕ) (bytes : List ℕ) (at : Levels) (rest : List ℕ) → IsBytes bytes → named_front mask bytes ≡ Some (at, rest) → TakesLevels mask at bytes rest
unfolding named_front
named_takes mask bytes at rest fits e =
    let a = bind_some (optional_front (has_level mask 0) bytes) _ (at, rest) e in
    let f = bind_some (value_front a.0.1) _ (at, rest) a.2 in
    let l = bind_some (value_front f.0.1) _ (at, rest) f.2 in
    let s = bind_some (optional_front (has_level mask 3) l.0.1) _ (at, rest) l.2 in
    let of_area = optional_takes (has_level mask 0) bytes a.0.0 a.0.1 fits a.1 in
    let of_file = value_takes a.0.1 f.0.0 f.0.1 of_area.rest_fits f.1 in
    let of_element = value_takes f.0.1 l.0.0 l.0.1 of_file.rest_fits l.1 in
    let of_sub = optional_takes (has_level mask 3) l.0.1 s.0.0 s.0.1 of_element.rest_fits s.1 in
    let found : Levels × List ℕ = (record { area = a.0.0; file = f.0.0; element = l.0.0; sub = s.0.0 }, s.0.1) in
    let P : Levels × List ℕ → Type 0 = λ p. TakesLevels mask p.0 bytes p.1 in
    subst P (some_is found (at, rest) s.2)
    (record {
      area = of_area.front;
      file = of_file.front;
      element = of_element.front;
      sub = of_sub.front;
      of_area = of_area.spelled;
      of_file = of_file.spelled;
      of_element = of_element.spelled;
      of_sub = of_sub.spelled;
      parts = of_area.parts ∙ ap (λ (xs : List ℕ). of_area.front ++ xs) (of_file.parts ∙ ap (λ (xs : List ℕ). of_file.front ++ xs) (of_element.parts ∙ ap (λ (xs : List ℕ). of_element.front ++ xs) of_sub.parts));
      rest_fits = of_sub.rest_fits;
    })

pub levels_takes : (bytes : List ℕ) (at : Levels) (rest : List ℕ) → IsBytes bytes → levels_front bytes ≡ Ok (at, rest) → Takes (SpellsLevels at) bytes rest
levels_takes [] at rest fits e = absurd cc
levels_takes (mask ∷ bytes) at rest fits e =
    let few = guard_ok (leb 16 mask) level.TooMany _ (at, rest) e in
    let enough = guard_ok (not (has_level mask 1 && has_level mask 2)) level.TooFew _ (at, rest) few.1 in
    let named = ok_or_ok (named_front mask bytes) level.Truncated (at, rest) enough.1 in
    let both = and_parts (has_level mask 1) (has_level mask 2) (not-false (has_level mask 1 && has_level mask 2) enough.0) in
    let t = named_takes mask bytes at rest (IsBytes-rest mask bytes fits) named in
    record {
      front = mask ∷ t.area ++ t.file ++ t.element ++ t.sub;
      spelled = record {
        mask = mask;
        area = t.area;
        file = t.file;
        element = t.element;
        sub = t.sub;
        is_mask = record { no_more = leb-false 16 mask few.0; has_file = both.0; has_element = both.1 };
        of_area = t.of_area;
        of_file = t.of_file;
        of_element = t.of_element;
        of_sub = t.of_sub;
        whole = refl;
      };
      parts = ap (λ (xs : List ℕ). mask ∷ xs) t.parts ∙ sym (levels_parts mask t.area t.file t.element t.sub rest);
      rest_fits = t.rest_fits;
    }

named_again : (mask : ℕ) (at : Levels) (area file element sub rest : List ℕ) → SpellsOptional (has_level mask 0) at.area area → SpellsValue at.file file → SpellsValue at.element element → SpellsOptional (has_level mask 3) at.sub sub
    → named_front mask (area ++ (file ++ (element ++ (sub ++ rest)))) ≡ Some (at, rest)
unfolding named_front
named_again mask at area file element sub rest of_area of_file of_element of_sub =
    rw (optional_again of_area (file ++ (element ++ (sub ++ rest))), value_again of_file (element ++ (sub ++ rest)), value_again of_element (sub ++ rest), optional_again of_sub rest) refl

checked_again : (mask : ℕ) (at : Levels) (bytes rest : List ℕ) → IsMask mask → named_front mask bytes ≡ Some (at, rest) → levels_front (mask ∷ bytes) ≡ Ok (at, rest)
checked_again mask at bytes rest is named =
    let few : leb 16 mask ≡ false = lt-leb 16 mask is.no_more in
    let file : has_level mask 1 ≡ true = is.has_file in
    let element : has_level mask 2 ≡ true = is.has_element in
    rw (few, file, element, named) refl

pub levels_again : (at : Levels) (front rest : List ℕ) → SpellsLevels at front → levels_front (front ++ rest) ≡ Ok (at, rest)
levels_again at front rest s =
    let tail = s.area ++ (s.file ++ (s.element ++ (s.sub ++ rest))) in
    let regrouped : front ++ rest ≡ s.mask ∷ tail = ap (λ (xs : List ℕ). xs ++ rest) s.whole ∙ levels_parts s.mask s.area s.file s.element s.sub rest in
    ap levels_front regrouped ∙ checked_again s.mask at tail rest s.is_mask (named_again s.mask at s.area s.file s.element s.sub rest s.of_area s.of_file s.of_element s.of_sub)

-- the four masks that are written: without and with the area, without and with the sub-element
record IsMaskOf (no_area no_sub : Bool) (mask : ℕ) : Type 0 where
  is_mask : IsMask mask
  area : has_level mask 0 ≡ not no_area
  sub : has_level mask 3 ≡ not no_sub

mask_is : (no_area no_sub : Bool) → IsMaskOf no_area no_sub (6 + cond no_area 0 1 + cond no_sub 0 8)
mask_is true true = record { is_mask = record { no_more = omega arith; has_file = refl; has_element = refl }; area = refl; sub = refl }
mask_is true false = record { is_mask = record { no_more = omega arith; has_file = refl; has_element = refl }; area = refl; sub = refl }
mask_is false true = record { is_mask = record { no_more = omega arith; has_file = refl; has_element = refl }; area = refl; sub = refl }
mask_is false false = record { is_mask = record { no_more = omega arith; has_file = refl; has_element = refl }; area = refl; sub = refl }

by_test : (b : Bool) (P : Bool → Type 0) → (b ≡ true → P true) → (b ≡ false → P false) → P b
by_test true P at_true at_false = at_true refl
by_test false P at_true at_false = at_false refl

level_spelled : (n : ℕ) → SpellsOptional (not (eqb n 0)) n (shortest_level n)
level_spelled n =
    let zero_out : ℕ → Type 0 = λ m. SpellsOptional false m [] in
    by_test (eqb n 0) (λ is_zero. SpellsOptional (not is_zero) n (cond is_zero [] (shortest_value n))) (λ is. subst zero_out (sym (eqb-true n 0 is)) left_out) (λ _. given (value_spelled n))

pub levels_spelled : (at : Levels) → SpellsLevels at (shortest_levels at)
levels_spelled at =
    let m = mask_is (eqb at.area 0) (eqb at.sub 0) in
    let A : Bool → Type 0 = λ present. SpellsOptional present at.area (shortest_level at.area) in
    let S : Bool → Type 0 = λ present. SpellsOptional present at.sub (shortest_level at.sub) in
    record {
      mask = shortest_mask at;
      area = shortest_level at.area;
      file = shortest_value at.file;
      element = shortest_value at.element;
      sub = shortest_level at.sub;
      is_mask = m.is_mask;
      of_area = subst A (sym m.area) (level_spelled at.area);
      of_file = value_spelled at.file;
      of_element = value_spelled at.element;
      of_sub = subst S (sym m.sub) (level_spelled at.sub);
      whole = refl;
    }

levels_length : (mask : ℕ) (area file element sub : List ℕ) → length (mask ∷ area ++ file ++ element ++ sub) ≡ length area + length file + length element + length sub + 1
levels_length mask area file element sub = simp length-append (omega arith)

level_length : (is_given : Bool) (n : ℕ) (bytes : List ℕ) → SpellsOptional is_given n bytes → length (shortest_level n) ≤ length bytes
level_length is_given n bytes (given s) = cond_both (eqb n 0) [] (shortest_value n) (λ front. length front ≤ length bytes) (λ _. omega arith) (λ _. value_length n bytes s)
level_length is_given n bytes left_out = omega arith

pub levels_shortest : (at : Levels) → IsShortest (SpellsLevels at) (shortest_levels at)
levels_shortest at = record {
  spelled = levels_spelled at;
  none_shorter = λ other s.
      let mine = levels_length (shortest_mask at) (shortest_level at.area) (shortest_value at.file) (shortest_value at.element) (shortest_level at.sub) in
      let theirs : length other ≡ length s.area + length s.file + length s.element + length s.sub + 1 = ap length s.whole ∙ levels_length s.mask s.area s.file s.element s.sub in
      let area = level_length (has_level s.mask 0) at.area s.area s.of_area in
      let file = value_length at.file s.file s.of_file in
      let element = value_length at.element s.element s.of_element in
      let sub = level_length (has_level s.mask 3) at.sub s.sub s.of_sub in
      omega arith;
}

pub levels_at_spelled : (bytes : List ℕ) (found : Levels × ℕ) → IsBytes bytes → Ok found ≡ levels_at bytes → IsFront (SpellsLevels found.0) found.1 bytes
levels_at_spelled bytes found fits e = used_or_fault_spelled SpellsLevels bytes (levels_front bytes) found (λ at rest h. levels_takes bytes at rest fits h) e

pub levels_at_known : (at : Levels) (bytes front rest : List ℕ) → SpellsLevels at front → bytes ≡ front ++ rest → levels_at bytes ≡ Ok (at, length front)
levels_at_known at bytes front rest s parts =
    ap (used_or_fault bytes) (ap levels_front parts ∙ levels_again at front rest s) ∙ ap (λ (p : Levels × ℕ). Ok p) (used_is bytes front rest at parts)

-- ---- what is written is read

pub three_read_back : (with_sub : Bool) (at : Three) (rest : List ℕ) → (with_sub ≡ false → at.sub ≡ 0) → three_at with_sub (shortest_three with_sub at ++ rest) ≡ Some (at, length (shortest_three with_sub at))
three_read_back with_sub at rest none =
    three_at_known with_sub at (shortest_three with_sub at ++ rest) (shortest_three with_sub at) rest (three_spelled with_sub at none) refl

pub levels_read_back : (at : Levels) (rest : List ℕ) → levels_at (shortest_levels at ++ rest) ≡ Ok (at, length (shortest_levels at))
levels_read_back at rest =
    levels_at_known at (shortest_levels at ++ rest) (shortest_levels at) rest (levels_spelled at) refl
