-- The words of the files of tables, one file after the other.
use Rattle.std.proofs.Common.{◌≡◌, ℕ, ◌+◌, ◌≤◌, List, ◌∷◌, ◌++◌, ◌∙◌, Some, ap, sym, subst, length, take, drop, drop-cons, get_or, arith}
use Rattle.std.proofs.Math.Numerals.{suc-eq-add-one}
use Rattle.std.proofs.Math.Seq.{take-append_seam, drop-append_seam}
use Rattle.std.proofs.lemmas.List.{length-append}
use Rattle.std.proofs.lemmas.List.FromFn.{length-map-range_with_len}
use Rattle.std.proofs.lemmas.Option.{slice_get_within, get_or_from_slice_get}
use Rattle.std.specs.Prelude.{slice_get, unwrap_or}
use Rattle.std.specs.List.{flat_map}
use Rattle.data_files.specs.declared.file_spec.FileSpec.{FileSpec}
use Rattle.data_files.specs.Tables.{DataTables, word_at, word_count, words_at}

-- the words of a file
abbrev pub values_of : DataTables → FileSpec → List ℕ
values_of tables spec = words_at tables spec.number 0 (word_count spec)

length-values : (tables : DataTables) (spec : FileSpec) → length (values_of tables spec) ≡ word_count spec
length-values tables spec = length-map-range_with_len (λ index. unwrap_or (word_at tables spec.number index) 0) 0 (word_count spec)

-- words that are left, of a file and of the files behind it, fall apart after that file's
pub record FallApart (values : List ℕ) (more : List ℕ) (count : ℕ) (rest : List ℕ) : Type 0 where
  pub room : count ≤ length rest
  pub front : take count rest ≡ values
  pub back : drop count rest ≡ more

seam : (values more : List ℕ) → FallApart values more (length values) (values ++ more)
seam values more =
    let total = length-append values more in
    record { room = omega (arith, total); front = take-append_seam values more; back = drop-append_seam values more }

-- the words that are left at a place are those of the file there and of the files behind it
pub file-next : (tables : DataTables) (specs : List FileSpec) (place : ℕ) (spec : FileSpec) (rest : List ℕ) → slice_get specs place ≡ Some spec
    → rest ≡ flat_map (values_of tables) (drop place specs)
    → FallApart (values_of tables spec) (flat_map (values_of tables) (drop (place + 1) specs)) (word_count spec) rest
file-next tables specs place spec rest found is =
    let within = slice_get_within specs place spec found in
    let same = get_or_from_slice_get specs place spec spec found in
    let next : drop place specs ≡ spec ∷ drop (place + 1) specs =
    drop-cons specs place spec within ∙ ap (λ (j : ℕ). get_or specs place spec ∷ drop j specs) (suc-eq-add-one place) ∙ ap (λ (s : FileSpec). s ∷ drop (place + 1) specs) same in
    let whole : rest ≡ values_of tables spec ++ flat_map (values_of tables) (drop (place + 1) specs) = is ∙ ap (flat_map (values_of tables)) next in
    subst (λ (n : ℕ). FallApart (values_of tables spec) (flat_map (values_of tables) (drop (place + 1) specs)) n rest) (length-values tables spec)
    (subst (λ (all : List ℕ). FallApart (values_of tables spec) (flat_map (values_of tables) (drop (place + 1) specs)) (length (values_of tables spec)) all) (sym whole)
    (seam (values_of tables spec) (flat_map (values_of tables) (drop (place + 1) specs))))
