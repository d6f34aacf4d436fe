-- A list of files with one file more.
use Rattle.std.proofs.Common.{◌≡◌, ℕ, ◌<◌, ◌≤◌, Bool, not, true, false, cond, List, [], ◌∷◌, ◌++◌, length, find, Option, Some, None, refl, arith, nat_le, nat_lt, eqb, append_assoc, append-nil, length-append, ◌+◌}
use Rattle.std.specs.List.{list_any}
use Rattle.std.specs.Option.{option_or, option_map_or}
use Rattle.std.proofs.lemmas.Bool.Decides.{nat_tests}
use Rattle.std.proofs.lemmas.List.Folds.{find-append}
use Rattle.data_files.specs.declared.file_spec.FileSpec.{FileSpec}
use Rattle.data_files.specs.declared.make_fault.MakeFault.{MakeFault}
use Rattle.data_files.specs.declared.make_fault.MakeFault.TheVariants.{TooMany}
use Rattle.data_files.specs.Tables.{faults, first_fault, fault_of, fits_compat, has_word, word_count}
use Rattle.data_files.specs.Words.{holds_words}
use Rattle.script_parts.specs.Playable.{IsBetween}

none_or : {X : Type 0} (a b : Option X) → a ≡ None → b ≡ None → option_or a b ≡ None
none_or None b e f = f
none_or (Some x) b e f = cc

both_none : {X : Type 0} (a b : Option X) → option_or a b ≡ None → (a ≡ None) × (b ≡ None)
both_none None b h = (refl, h)
both_none (Some x) b h = cc

first_fault-push : (before specs : List FileSpec) (x : FileSpec) → first_fault before specs ≡ None → fault_of (before ++ specs) x ≡ None → first_fault before (specs ++ x ∷ []) ≡ None
first_fault-push before [] x none fine = none_or _ None (rw append-nil at fine) refl
first_fault-push before (s ∷ specs) x none fine =
    let parts = both_none _ _ none in
    none_or _ _ parts.0 (first_fault-push (before ++ s ∷ []) specs x parts.1 (rw append_assoc fine))

fault_of-none : (specs : List FileSpec) (x : FileSpec) → IsBetween 1 1000 x.count → list_any (λ other. eqb other.number x.number) specs ≡ false → fault_of specs x ≡ None
fault_of-none specs x within new =
    let filled : eqb x.count 0 ≡ false = grind (arith, nat_tests, within.0) in
    let small : nat_lt 1000 x.count ≡ false = grind (arith, nat_tests, within.1) in
    rw (filled, small, new) refl

few : (many : Bool) (o : Option MakeFault) → cond many (Some TooMany) o ≡ None → o ≡ None
few true o h = cc
few false o h = h

pub faults-push : (specs : List FileSpec) (x : FileSpec) → faults specs ≡ None → length specs < 256 → IsBetween 1 1000 x.count → list_any (λ other. eqb other.number x.number) specs ≡ false → faults (specs ++ x ∷ []) ≡ None
faults-push specs x none room within new =
    let first : first_fault [] specs ≡ None = few (nat_lt 256 (length specs)) (first_fault [] specs) none in
    let size : length (specs ++ x ∷ []) ≡ length specs + 1 = length-append specs (x ∷ []) in
    let fits : nat_lt 256 (length (specs ++ x ∷ [])) ≡ false = grind (arith, nat_tests, size, room) in
    rw fits (first_fault-push [] specs x first (fault_of-none specs x within new))

found-push : (test : FileSpec → Bool) (a b : Option FileSpec) → option_map_or test a false ≡ true → option_map_or test (option_or a b) false ≡ true
found-push test None b h = cc
found-push test (Some x) b h = h

pub has_word-push : (specs : List FileSpec) (x : FileSpec) (number index : ℕ) → has_word specs number index ≡ true → has_word (specs ++ x ∷ []) number index ≡ true
has_word-push specs x number index h =
    rw (find-append (λ spec. eqb spec.number number) specs (x ∷ [])) (found-push (λ spec. nat_lt index (word_count spec)) (find (λ spec. eqb spec.number number) specs) _ h)

pub fits_compat-push : (specs : List FileSpec) (x : FileSpec) (compat : Option ℕ) → fits_compat specs compat ≡ true → fits_compat (specs ++ x ∷ []) compat ≡ true
fits_compat-push specs x None h = refl
fits_compat-push specs x (Some number) h =
    rw (find-append (λ spec. eqb spec.number number) specs (x ∷ [])) (found-push (λ spec. holds_words spec.kind) (find (λ spec. eqb spec.number number) specs) _ h)
