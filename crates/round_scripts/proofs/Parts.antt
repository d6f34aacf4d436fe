-- Parts of a script, one after another.
use Rattle.std.proofs.Common.{◌≡◌, ◌∙◌, ℕ, ◌+◌, ◌-◌, ◌≤◌, List, [], ◌∷◌, ◌++◌, map, ap, sym, arith, append-nil}
use Rattle.std.specs.List.{flat_map, range_with_len}
use Rattle.std.proofs.lemmas.List.Concat.{flat_map-append}
use Rattle.std.proofs.lemmas.List.Folds.{flat_map-map}
use Rattle.std.proofs.lemmas.List.FromFn.{map-range_with_len_more}
use Rattle.script_parts.specs.declared.script.Event.{Event}
use Rattle.round_scripts.specs.Rounds.{parts}

-- one part more
pub parts-more : (f : ℕ → List Event) (n : ℕ) → parts f (n + 1) ≡ parts f n ++ f (n + 1)
parts-more f n =
    let same = λ (events : List Event). events in
    let next : 1 + n ≡ n + 1 = omega arith in
    sym (flat_map-map same f (range_with_len 1 (n + 1)))
    ∙ ap (flat_map same) (map-range_with_len_more f 1 n (n + 1) next)
    ∙ flat_map-append same (map f (range_with_len 1 n)) (f (n + 1) ∷ [])
    ∙ ap (λ l. l ++ (f (n + 1) ++ [])) (flat_map-map same f (range_with_len 1 n))
    ∙ ap (λ l. parts f n ++ l) (append-nil (f (n + 1)))

-- the same, where the parts are counted from 1
pub parts-next : (f : ℕ → List Event) (part : ℕ) → 1 ≤ part → parts f (part + 1 - 1) ≡ parts f (part - 1) ++ f part
parts-next f part some =
    let n = part - 1 in
    let now : n + 1 ≡ part = omega (arith, some) in
    let next : part + 1 - 1 ≡ n + 1 = omega (arith, some) in
    ap (parts f) next ∙ parts-more f n ∙ ap (λ r. parts f n ++ f r) now
