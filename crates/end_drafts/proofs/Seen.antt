-- Tables of places with one mark more.
use Rattle.std.proofs.Common.{◌≡◌, ◌∙◌, ℕ, ◌<◌, Bool, true, false, eqb, List, [], Vec, Global, length, map, get_or, set, refl, sym, ap, inl, inr, arith, get_or-set_same, get_or-set_other}
use Rattle.std.specs.Prelude.{◌&&◌, ◌||◌}
use Rattle.std.proofs.lemmas.Bool.{cases_eq, eq-eqb, ne_eqb}
use Rattle.std.proofs.lemmas.List.{get_or-map, length-map, map-set}
use Rattle.end_drafts.specs.Places.{is_marked, AreSame, HasMore}

abbrev pub marks_of : Vec Bool Global → List Bool
marks_of row = row.items

pub same_then : (a b c : List (List Bool)) → AreSame a b → AreSame b c → AreSame a c
same_then a b c first second = record { same = λ file index. second.same file index ∙ first.same file index }

or_nothing : (a b : Bool) → (a || (false && b)) ≡ a
or_nothing true b = refl
or_nothing false b = refl

pub mark_more : (rows : List (Vec Bool Global)) (old row : Vec Bool Global) (file index : ℕ) → file < length rows → old ≡ get_or rows file old
    → ((i : ℕ) → get_or row.items i false ≡ (get_or old.items i false || eqb index i)) → HasMore (map marks_of rows) (map marks_of (set rows file row)) file index
mark_more rows old row file index within is marked = record {
  more = λ f i.
      let all = map marks_of rows in
      let here : old.items ≡ get_or all file [] = ap marks_of is ∙ sym (get_or-map marks_of rows file old [] within) in
      let within' : file < length all = omega (arith, length-map rows marks_of) in
      ap (λ (r : List (List Bool)). is_marked r f i) (map-set marks_of rows file row)
      ∙ elim (cases_eq f file) [
        | inl same ↦
            let test : eqb file f ≡ true = eq-eqb file f (sym same) in
            rw (same, get_or-set_same all file row.items [] within', ← here) (marked i ∙ ap (λ (b : Bool). get_or old.items i false || (b && eqb index i)) (let test' : true ≡ eqb file file = sym (eq-eqb file file refl) in test'))
        | inr other ↦
            let test : eqb file f ≡ false = ne_eqb file f (λ e. other (sym e)) in
            rw (get_or-set_other all file f row.items [] other, test) (sym (or_nothing (is_marked all f i) (eqb index i)))
      ];
}

-- where the mark isn't set, the table is as it was
pub mark_same : (rows : List (Vec Bool Global)) (old row : Vec Bool Global) (file : ℕ) → file < length rows → old ≡ get_or rows file old → row.items ≡ old.items → AreSame (map marks_of rows) (map marks_of (set rows file row))
mark_same rows old row file within is same = record {
  same = λ f i.
      let all = map marks_of rows in
      let here : old.items ≡ get_or all file [] = ap marks_of is ∙ sym (get_or-map marks_of rows file old [] within) in
      let within' : file < length all = omega (arith, length-map rows marks_of) in
      ap (λ (r : List (List Bool)). is_marked r f i) (map-set marks_of rows file row)
      ∙ elim (cases_eq f file) [
        | inl equal ↦ rw (equal, get_or-set_same all file row.items [] within', same, ← here) refl
        | inr other ↦ rw (get_or-set_other all file f row.items [] other) refl
      ];
}

pub more_then : (a b c : List (List Bool)) (file index : ℕ) → AreSame a b → HasMore b c file index → HasMore a c file index
more_then a b c file index same more = record { more = λ f i. more.more f i ∙ ap (λ (m : Bool). m || (eqb file f && eqb index i)) (same.same f i) }
