-- What the entries of a plan's files leave: files that data tables may have, and first words within them.
use Rattle.std.proofs.Common.{◌≡◌, ℕ, ◌+◌, ◌*◌, ◌%◌, ◌&&◌, ◌<◌, ◌≤◌, Bool, not, true, false, cond, List, [], ◌∷◌, ◌++◌, length, find, Option, Some, None, Result, Ok, Err, refl, ap, ◌∙◌, arith, nat_le, nat_lt, eqb, append-nil}
use Rattle.std.specs.Prelude.{IsTrue, All, codes}
use Rattle.std.specs.List.{list_any}
use Rattle.std.specs.Option.{option_and_then, option_or, option_map_or}
use Rattle.std.proofs.lemmas.Bool.{and_parts, or_parts, not-true}
use Rattle.std.proofs.lemmas.Bool.Decides.{nat_tests}
use Rattle.std.proofs.lemmas.Grind.{flat_map-append}
use Rattle.std.proofs.lemmas.List.{map-append, length-map}
use Rattle.std.proofs.lemmas.List.Elements.{All-nil, All-cons, All-push, All-append, All-weaker}
use Rattle.std.proofs.lemmas.List.Folds.{find-append}
use Rattle.df1_base.specs.declared.file_type.FileType.{FileType}
use Rattle.data_files.specs.declared.file_spec.FileSpec.{FileSpec}
use Rattle.data_files.specs.Tables.{faults, file_of, has_word, word_count}
use Rattle.data_files.specs.WordBytes.{words_of}
use Rattle.script_statement.specs.Statements.{file_spec}
use Rattle.script_statement.specs.declared.who.Who.TheVariants.{A}
use Rattle.script_parts.specs.declared.script.WordOf.{WordOf}
use Rattle.script_parts.specs.Playable.{IsBetween}
use Rattle.script_parts.proofs.MoreFiles.{faults-push}
use Rattle.toml.specs.Data.{Data, string, integer, float, boolean, datetime, array, table, Items, no_items, item, Members, get_member, as_array}
use Rattle.df1_plan.specs.declared.files.PlannedFile.{PlannedFile}
use Rattle.df1_plan.specs.declared.fault.PlanFault.{PlanFault}
use Rattle.df1_plan.specs.declared.fault.PlanFault.TheVariants as fault
use Rattle.df1_plan.specs.Keys.{has_other}
use Rattle.df1_plan.specs.Values.{integer_in, kind_in, hex_in}
use Rattle.df1_plan.specs.Files.{HoldsItsWords, are_words, field, file_in, file_with, files_after, files_in, files_of_array, first_words, following, is_field, may_follow, next_file, numbered, spec_in, specs_of, with_words, words_in, words_of_all}
use Rattle.df1_plan.proofs.Told.{integer-between}

-- ---- one entry

some-same : {T : Type 0} (x y : T) → Some x ≡ Some y → x ≡ y
some-same x y e = grind (arith, e)

unless : {T : Type 0} (b : Bool) (o : Option T) (x : T) → cond b None o ≡ Some x → o ≡ Some x
unless true o x h = cc
unless false o x h = h

count-is : (number : Option ℕ) (kind : Option FileType) (count : Option ℕ) (spec : FileSpec) → file_spec number kind count ≡ Some spec → count ≡ Some spec.count
count-is None kind count spec h = cc
count-is (Some n) None count spec h = cc
count-is (Some n) (Some k) None spec h = cc
count-is (Some n) (Some k) (Some c) spec h = grind (arith, h)

read-between : (o : Option Data) (n : ℕ) → option_and_then (integer_in 1 1000) o ≡ Some n → IsBetween 1 1000 n
read-between None n h = cc
read-between (Some value) n h = integer-between 1 1000 value n h

words-half : (bytes : List ℕ) → 2 * length (words_of bytes) ≤ length bytes
words-half [] = omega arith
words-half (low ∷ []) = omega arith
words-half (low ∷ high ∷ bytes) = let more = words-half bytes in omega (arith, more)

fits-if : (b : Bool) (spec : FileSpec) (bytes words : List ℕ) → are_words spec bytes ≡ b → cond b (Some (words_of bytes)) None ≡ Some words → length words ≤ word_count spec
fits-if false spec bytes words e h = cc
fits-if true spec bytes words e h =
    let parts = and_parts (nat_le 1 (length bytes)) (nat_le (length bytes) (2 * word_count spec)) (and_parts (eqb (length bytes % 2) 0) (nat_le 1 (length bytes) && nat_le (length bytes) (2 * word_count spec)) e).1 in
    let most : length bytes ≤ 2 * word_count spec = grind (arith, nat_tests, parts.1) in
    let half : 2 * length (words_of bytes) ≤ length bytes = words-half bytes in
    rw (← some-same (words_of bytes) words h) (omega (arith, half, most))

-- what the words of a file leave
given-fit : (spec : FileSpec) (value : Option (List ℕ)) (words : List ℕ) → option_and_then (words_in spec) value ≡ Some words → length words ≤ word_count spec
given-fit spec None words h = cc
given-fit spec (Some bytes) words h = fits-if (are_words spec bytes) spec bytes words refl h

first-fit : (spec : FileSpec) (value : Option Data) (words : List ℕ) → first_words spec value ≡ Some words → length words ≤ word_count spec
first-fit spec None words h = rw (← some-same [] words h) (omega arith)
first-fit spec (Some value) words h = given-fit spec (hex_in value) words h

with-words : (spec : FileSpec) (words : Option (List ℕ)) (file : PlannedFile) → with_words spec words ≡ Some file → (file.spec ≡ spec) × (words ≡ Some file.words)
with-words spec None file h = cc
with-words spec (Some words) file h = (grind (arith, h), grind (arith, h))

file-holds : (fields : Members) (spec : Option FileSpec) (file : PlannedFile) → spec_in fields ≡ spec → option_and_then (file_with fields) spec ≡ Some file → HoldsItsWords file
file-holds fields None file e h = cc
file-holds fields (Some spec) file e h =
    let words : Option (List ℕ) = first_words spec (get_member (codes "words") fields) in
    let both = with-words spec words file h in
    let count = count-is (field (integer_in 0 999) (codes "number") fields) (field kind_in (codes "type") fields) (field (integer_in 1 1000) (codes "count") fields) spec e in
    record {
      count = rw both.0 (read-between (get_member (codes "count") fields) spec.count count);
      words = rw both.0 (first-fit spec (get_member (codes "words") fields) file.words both.1);
    }

holds : (value : Data) (file : PlannedFile) → file_in value ≡ Some file → HoldsItsWords file
holds (string s) file h = cc
holds (integer z) file h = cc
holds (float x) file h = cc
holds (boolean b) file h = cc
holds (datetime d) file h = cc
holds (array ds) file h = cc
holds (table fields) file h = file-holds fields (spec_in fields) file refl (unless (has_other is_field fields) _ file h)

-- ---- one file more

pub record AreRight (files : List PlannedFile) : Type 0 where
  pub holding : All HoldsItsWords files
  pub none : faults (specs_of files) ≡ None
  pub words : All (λ w. IsTrue (has_word (specs_of files) w.file w.index)) (words_of_all files)

pub right_at_first : AreRight []
right_at_first = record { holding = All-nil _; none = refl; words = All-nil _ }

is-new : (n : ℕ) (files : List PlannedFile) → list_any (λ other. eqb other.spec.number n) files ≡ false → (list_any (λ other. eqb other.number n) (specs_of files) ≡ false) × (file_of (specs_of files) n ≡ None)
is-new n [] h = (refl, refl)
is-new n (file ∷ files) h =
    let parts = or_parts (eqb file.spec.number n) _ h in
    rw parts.0 (is-new n files parts.1)

found-more : (test : FileSpec → Bool) (a b : Option FileSpec) → option_map_or test a false ≡ true → option_map_or test (option_or a b) false ≡ true
found-more test None b h = cc
found-more test (Some x) b h = h

has_word-more : (specs : List FileSpec) (x : FileSpec) (number index : ℕ) → has_word specs number index ≡ true → has_word (specs ++ x ∷ []) number index ≡ true
has_word-more specs x number index h =
    rw (find-append (λ spec. eqb spec.number number) specs (x ∷ [])) (found-more (λ spec. nat_lt index (word_count spec)) (find (λ spec. eqb spec.number number) specs) _ h)

numbered-within : (specs : List FileSpec) (spec : FileSpec) (index : ℕ) (values : List ℕ) → file_of specs spec.number ≡ Some spec → index + length values ≤ word_count spec → All (λ w. IsTrue (has_word specs w.file w.index)) (numbered spec.number index values)
numbered-within specs spec index [] there h = All-nil _
numbered-within specs spec index (value ∷ values) there h =
    let below : nat_lt index (word_count spec) ≡ true = grind (arith, nat_tests, h) in
    All-cons (λ (w : WordOf). IsTrue (has_word specs w.file w.index)) (record { who = A; file = spec.number; index = index; value = value }) (numbered spec.number (index + 1) values) (rw (there, below) refl) (numbered-within specs spec (index + 1) values there (omega (arith, h)))

at-the-end : (specs : List FileSpec) (spec : FileSpec) → file_of specs spec.number ≡ None → file_of (specs ++ spec ∷ []) spec.number ≡ Some spec
at-the-end specs spec none =
    let same : eqb spec.number spec.number ≡ true = grind (arith, nat_tests) in
    rw (find-append (λ other. eqb other.number spec.number) specs (spec ∷ []), none, same) refl

pub right_with : (files : List PlannedFile) (file : PlannedFile) → AreRight files → may_follow files file ≡ true → HoldsItsWords file → AreRight (files ++ file ∷ [])
right_with files file h may held =
    let parts = and_parts (nat_lt (length files) 256) (not (list_any (λ (other : PlannedFile). eqb other.spec.number file.spec.number) files)) may in
    let new = is-new file.spec.number files (not-true _ parts.1) in
    let specs : specs_of (files ++ file ∷ []) ≡ specs_of files ++ file.spec ∷ [] = map-append (λ (f : PlannedFile). f.spec) files (file ∷ []) in
    let words : words_of_all (files ++ file ∷ []) ≡ words_of_all files ++ numbered file.spec.number 0 file.words = flat_map-append (λ (f : PlannedFile). numbered f.spec.number 0 f.words) files (file ∷ []) ∙ ap (λ ws. words_of_all files ++ ws) (append-nil (numbered file.spec.number 0 file.words)) in
    let within : WordOf → Type 0 = λ w. IsTrue (has_word (specs_of files ++ file.spec ∷ []) w.file w.index) in
    let room : length (specs_of files) < 256 = rw (length-map files (λ (f : PlannedFile). f.spec)) (grind (arith, nat_tests, parts.0)) in
    record {
      holding = All-push HoldsItsWords files file h.holding held;
      none = rw specs (faults-push (specs_of files) file.spec h.none room held.count new.0);
      words = rw (specs, words) (All-append within (words_of_all files) (numbered file.spec.number 0 file.words)
          (All-weaker (λ (w : WordOf). IsTrue (has_word (specs_of files) w.file w.index)) within (λ w ok. has_word-more (specs_of files) file.spec w.file w.index ok) (words_of_all files) h.words)
          (numbered-within (specs_of files ++ file.spec ∷ []) file.spec 0 file.words (at-the-end (specs_of files) file.spec new.1) (omega (arith, held.words))));
    }

-- ---- all entries

follows-if : (b : Bool) (before : List PlannedFile) (file next : PlannedFile) → may_follow before file ≡ b → cond b (Some file) None ≡ Some next → (file ≡ next) × (may_follow before next ≡ true)
follows-if false before file next e h = cc
follows-if true before file next e h = let same = some-same file next h in (same, rw (← same) e)

pub follows : (before : List PlannedFile) (o : Option PlannedFile) (next : PlannedFile) → following before o ≡ Some next → (o ≡ Some next) × (may_follow before next ≡ true)
follows before None next h = cc
follows before (Some file) next h = let both = follows-if (may_follow before file) before file next refl h in (ap Some both.0, both.1)

pub right_next : (before : List PlannedFile) (value : Data) (next : PlannedFile) → AreRight before → next_file before value ≡ Some next → AreRight (before ++ next ∷ [])
right_next before value next h e =
    let both = follows before (file_in value) next e in
    right_with before next h both.1 (holds value next both.0)

ok-same : {T : Type 0} (r : Result T PlanFault) (x y : T) → r ≡ Ok x → r ≡ Ok y → x ≡ y
ok-same r x y e f = grind (arith, e, f)

pub right_after : (before : List PlannedFile) (values : Items) (files : List PlannedFile) → AreRight before → files_after before values ≡ Ok files → AreRight files
right_after before no_items files h e = rw (← ok-same (Ok before) before files refl e) h
right_after before (item value values) files h e =
    elim (next_file before value) as (λ (o : Option PlannedFile). next_file before value ≡ o → ◌≡◌ {A = Result (List PlannedFile) PlanFault} (elim o [ None ↦ Err (fault.File (length before + 1)) | Some file ↦ files_after (before ++ file ∷ []) values ]) (Ok files) → AreRight files)
    [ None ↦ λ n g. cc | Some next ↦ λ n g. right_after (before ++ next ∷ []) values files (right_next before value next h n) g ] refl e

of-array : (o : Option Items) (files : List PlannedFile) → files_of_array o ≡ Ok files → AreRight files
of-array None files e = cc
of-array (Some entries) files e = right_after [] entries files right_at_first e

pub planned_right : (o : Option Data) (files : List PlannedFile) → files_in o ≡ Ok files → AreRight files
planned_right None files e = rw (← ok-same (Ok []) [] files refl e) right_at_first
planned_right (Some value) files e = of-array (as_array value) files e
