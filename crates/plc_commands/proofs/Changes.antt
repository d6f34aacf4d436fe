-- The tests of sets.
use Rattle.std.proofs.Common.{◌≡◌, ℕ, suc, ◌+◌, ◌<◌, true, false, List, [], ◌∷◌, ◌++◌, length, get_or, drop, Option, None, Some, refl, sym, ap, ◌∙◌, arith}
use Rattle.std.specs.Option.{is_some}
use Rattle.std.proofs.Math.Seq.{drop-cons}
use Rattle.df1_base.specs.declared.code.Code.{Code}
use Rattle.data_files.specs.declared.file_spec.FileSpec.{FileSpec}
use Rattle.data_files.specs.Effect.{Test, refusal}
use Rattle.plc_commands.specs.declared.order.Set.{Set}
use Rattle.plc_commands.specs.Tests.{set_tests, change_tests}

refused_before : (first : List Test) (more : List Test) (code : Code) → refusal first ≡ Some code → refusal (first ++ more) ≡ Some code
refused_before [] more code e = absurd cc
refused_before ((true, other) ∷ first) more code e = refused_before first more code e
refused_before ((false, other) ∷ first) more code e = e

some_of : {A : Type 0} (o : Option A) → true ≡ is_some o → (x : A) × (o ≡ Some x)
some_of None e = absurd cc
some_of (Some x) e = (x, refl)

-- the tests from a set on
tests_at : (specs : List FileSpec) (sets : List Set) (i : ℕ) (d : Set) → i < length sets → change_tests specs (drop i sets) ≡ set_tests specs (get_or sets i d) ++ change_tests specs (drop (i + 1) sets)
tests_at specs sets i d lt =
    let next : i + 1 ≡ suc i = omega arith in
    rw next (ap (change_tests specs) (drop-cons sets i d lt))

-- the first set that is refused refuses all of them
pub refused_here : (specs : List FileSpec) (sets : List Set) (i : ℕ) (d : Set) (code : Option Code) → i < length sets → code ≡ refusal (set_tests specs (get_or sets i d)) → true ≡ is_some code
    → refusal (change_tests specs (drop i sets)) ≡ refusal (change_tests specs sets) → code ≡ refusal (change_tests specs sets)
refused_here specs sets i d code lt is some so_far =
    let found = some_of code some in
    let here : refusal (set_tests specs (get_or sets i d) ++ change_tests specs (drop (i + 1) sets)) ≡ Some found.0 =
    refused_before (set_tests specs (get_or sets i d)) (change_tests specs (drop (i + 1) sets)) found.0 (sym is ∙ found.1) in
    found.1 ∙ sym here ∙ sym (ap refusal (tests_at specs sets i d lt)) ∙ so_far
