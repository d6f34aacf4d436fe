-- What tables hold of a file that the directory finds, and of one that it does not.
use Rattle.std.proofs.Common.{◌≡◌, ◌<◌, ◌≤◌, ℕ, ◌+◌, ◌∙◌, true, false, List, length, Some, None, refl, sym, subst, arith, get_or, take, drop, set, nat_lt, nat_le}
use Rattle.std.specs.Ordering.{nat_cmp}
use Rattle.std.specs.BTreeMap.{BTreeMap, get}
use Rattle.std.proofs.lemmas.Bool.Decides.{nat_tests}
use Rattle.data_files.specs.declared.tables.File.{File}
use Rattle.data_files.specs.declared.file_spec.FileSpec.{FileSpec}
use Rattle.data_files.specs.Tables.{file_of, has_word, has_words, word_count, total_words, start_of, faults, word_at, words_at, with_word, with_words}
use Rattle.data_files.specs.Directory.{tables_of, AreTables, overwritten}
use Rattle.data_files.proofs.Files.{IsAt, Lacks, is_at, lacks, file_of-at, start_of-at, within, word-inside, word-past, has_word-at, has_words-at, tables-set, tables-overwritten, words_at-part}

-- the file of a number, whose words are there
pub record Held (specs : List FileSpec) (words : List ℕ) (n : ℕ) (f : File) : Type 0 where
  pub place : ℕ
  pub at : IsAt n specs place f.spec f.start
  pub valid : faults specs ≡ None
  pub all : length words ≡ total_words specs

pub held : {specs : List FileSpec} {directory : BTreeMap ℕ File} {words : List ℕ} → AreTables specs directory words → (n : ℕ) (f : File) → get nat_cmp directory n ≡ Some f → Held specs words n f
held {specs} {directory} {words} are n f found_there =
    let at = is_at 0 specs n f (sym (are.finds n) ∙ found_there) in
    let start : f.start ≡ 0 + at.1 = at.3 in
    let same : at.1 ≡ f.start = omega arith in
    record { place = at.0; at = subst (λ s. IsAt n specs at.0 f.spec s) same at.2; valid = are.valid; all = are.all }

pub missing : {specs : List FileSpec} {directory : BTreeMap ℕ File} {words : List ℕ} → AreTables specs directory words → (n : ℕ) → get nat_cmp directory n ≡ None → Lacks n specs
missing {specs} {directory} {words} are n none = lacks 0 specs n (sym (are.finds n) ∙ none)

pub held-file : (specs : List FileSpec) (words : List ℕ) (n : ℕ) (f : File) → Held specs words n f → file_of specs n ≡ Some f.spec
held-file specs words n f h = file_of-at n specs h.place f.spec f.start h.at

pub held-start : (specs : List FileSpec) (words : List ℕ) (n : ℕ) (f : File) → Held specs words n f → start_of specs n ≡ Some f.start
held-start specs words n f h = start_of-at n specs h.place f.spec f.start h.at

pub held-ends : (specs : List FileSpec) (words : List ℕ) (n : ℕ) (f : File) → Held specs words n f → f.start + word_count f.spec ≤ length words
held-ends specs words n f h =
    let ends : f.start + word_count f.spec ≤ total_words specs = within n specs h.place f.spec f.start h.at in
    let all : length words ≡ total_words specs = h.all in
    omega arith

is_below : (i n : ℕ) → i < n → true ≡ nat_lt i n
is_below i n h = grind (arith, nat_tests)

is_past : (i n : ℕ) → n ≤ i → false ≡ nat_lt i n
is_past i n h = grind (arith, nat_tests)

is_within : (i n : ℕ) → i ≤ n → true ≡ nat_le i n
is_within i n h = grind (arith, nat_tests)

is_over : (i n : ℕ) → n < i → false ≡ nat_le i n
is_over i n h = grind (arith, nat_tests)

pub held-word : (specs : List FileSpec) (words : List ℕ) (n : ℕ) (f : File) (i d : ℕ) → Held specs words n f → i < word_count f.spec → word_at (tables_of specs words) n i ≡ Some (get_or words (f.start + i) d)
held-word specs words n f i d h inside = word-inside n specs h.place f.spec f.start i d words h.valid h.all h.at inside

pub held-past : (specs : List FileSpec) (words : List ℕ) (n : ℕ) (f : File) (i : ℕ) → Held specs words n f → word_count f.spec ≤ i → word_at (tables_of specs words) n i ≡ None
held-past specs words n f i h past = word-past n specs h.place f.spec f.start i words h.valid h.at past

pub held-has : (specs : List FileSpec) (words : List ℕ) (n : ℕ) (f : File) (i : ℕ) → Held specs words n f → i < word_count f.spec → true ≡ has_word specs n i
held-has specs words n f i h inside = is_below i (word_count f.spec) inside ∙ sym (has_word-at n specs h.place f.spec f.start i h.at)

pub held-has_not : (specs : List FileSpec) (words : List ℕ) (n : ℕ) (f : File) (i : ℕ) → Held specs words n f → word_count f.spec ≤ i → false ≡ has_word specs n i
held-has_not specs words n f i h past = is_past i (word_count f.spec) past ∙ sym (has_word-at n specs h.place f.spec f.start i h.at)

pub held-has_all : (specs : List FileSpec) (words : List ℕ) (n : ℕ) (f : File) (first count : ℕ) → Held specs words n f → first + count ≤ word_count f.spec → true ≡ has_words specs n first count
held-has_all specs words n f first count h inside = is_within (first + count) (word_count f.spec) inside ∙ sym (has_words-at n specs h.place f.spec f.start first count h.at)

pub held-has_not_all : (specs : List FileSpec) (words : List ℕ) (n : ℕ) (f : File) (first count : ℕ) → Held specs words n f → word_count f.spec < first + count → false ≡ has_words specs n first count
held-has_not_all specs words n f first count h over = is_over (first + count) (word_count f.spec) over ∙ sym (has_words-at n specs h.place f.spec f.start first count h.at)

pub held-part : (specs : List FileSpec) (words : List ℕ) (n : ℕ) (f : File) (first count : ℕ) → Held specs words n f → first + count ≤ word_count f.spec → words_at (tables_of specs words) n first count ≡ take count (drop (f.start + first) words)
held-part specs words n f first count h inside = words_at-part n specs h.place f.spec f.start first count words h.valid h.all h.at inside

pub held-set : (specs : List FileSpec) (words : List ℕ) (n : ℕ) (f : File) (i v : ℕ) → Held specs words n f → i < word_count f.spec → tables_of specs (set words (f.start + i) v) ≡ with_word (tables_of specs words) n i v
held-set specs words n f i v h inside = tables-set n specs h.place f.spec f.start i v words h.all h.at inside

pub held-overwritten : (specs : List FileSpec) (words : List ℕ) (n : ℕ) (f : File) (first : ℕ) (new : List ℕ) → Held specs words n f → first + length new ≤ word_count f.spec →
    tables_of specs (overwritten words (f.start + first) new) ≡ with_words (tables_of specs words) n first new
held-overwritten specs words n f first new h inside = tables-overwritten n specs h.place f.spec f.start first (f.start + first) words new h.all h.at refl inside
