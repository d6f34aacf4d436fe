-- Words that are set. Assumes nothing.
use Rattle.std.proofs.Common.{◌≡◌, ◌∙◌, ℕ, suc, ◌+◌, ◌-◌, Bool, true, false, ◌&&◌, nat_le, nat_lt, List, [], ◌∷◌, length, slice_get, Option, Some, None, refl, sym, ap, subst, arith}
use Rattle.std.specs.Prelude.{◌==◌, if◌then◌else◌}
use Rattle.std.specs.Option.{option_map_or, unwrap_or}
use Rattle.std.proofs.lemmas.Bool.Decides.{nat_tests}
use Rattle.data_files.specs.declared.file_spec.FileSpec.{FileSpec}
use Rattle.data_files.specs.Tables.{DataTables, file_of, has_words, with_word, with_words, word_at, word_count, words_at}
use Rattle.data_files.proofs.Files.{specs-with_words}
use Rattle.data_files.proofs.Words.{word_at-with_word, word_at-with_words}
use Rattle.df1_node.specs.Node.{NodeState, with_node_word}
use Rattle.c_calls.specs.Words.{is_range, is_word, node_words_set, range_told, with_tables, word_set, word_told, words_set}

chosen : {A : Type 0} (test : Bool) (one other : A) → test ≡ true → (if test then one else other) ≡ one
chosen test one other is = subst (λ (t : Bool). (if t then one else other) ≡ one) (sym is) refl

passed : {A : Type 0} (test : Bool) (one other : A) → test ≡ false → (if test then one else other) ≡ other
passed test one other is = subst (λ (t : Bool). (if t then one else other) ≡ other) (sym is) refl

-- ---- of a run that a file has, it has the first word, and the others

first-in : (first more words : ℕ) → nat_le (first + suc more) words ≡ true → nat_lt first words ≡ true
first-in first more words all = grind (arith, nat_tests)

others-in : (first more words : ℕ) → nat_le (first + suc more) words ≡ true → nat_le (first + 1 + more) words ≡ true
others-in first more words all = grind (arith, nat_tests)

has-first : (found : Option FileSpec) (first more : ℕ) → option_map_or (λ spec. nat_le (first + suc more) (word_count spec)) found false ≡ true
    → option_map_or (λ spec. nat_lt first (word_count spec)) found false ≡ true
has-first None first more all = absurd cc
has-first (Some spec) first more all = first-in first more (word_count spec) all

has-others : (found : Option FileSpec) (first more : ℕ) → option_map_or (λ spec. nat_le (first + suc more) (word_count spec)) found false ≡ true
    → option_map_or (λ spec. nat_le (first + 1 + more) (word_count spec)) found false ≡ true
has-others None first more all = absurd cc
has-others (Some spec) first more all = others-in first more (word_count spec) all

-- ---- the tables after a run

node-words : (values : List ℕ) (node : NodeState) (file first : ℕ) → is_range node file first (length values) ≡ true
    → node_words_set file first values node ≡ with_tables node (with_words node.station.tables file first values)
node-words [] node file first all = refl
node-words (value ∷ values) node file first all =
    let found = file_of node.station.tables.specs file in
    let one : word_set file first value node ≡ with_node_word node file first value = chosen (is_word node file first) (with_node_word node file first value) node (has-first found first (length values) all) in
    ap (node_words_set file (first + 1) values) one ∙ node-words values (with_node_word node file first value) file (first + 1) (has-others found first (length values) all)

pub tables : (node : NodeState) (file first : ℕ) (values : List ℕ) → is_range node file first (length values) ≡ true
    → words_set file first values node ≡ with_tables node (with_words node.station.tables file first values)
tables node file first values all =
    chosen (is_range node file first (length values)) (node_words_set file first values node) node all ∙ node-words values node file first all

pub each : (node : NodeState) (file first : ℕ) (values : List ℕ) (other place : ℕ) → is_range node file first (length values) ≡ true
    → word_told (words_set file first values node) other place
    ≡ (if (other == file) && (nat_le first place && nat_lt place (first + length values)) then slice_get values (place - first) else word_told node other place)
each node file first values other place all =
    ap (λ (after : NodeState). word_told after other place) (tables node file first values all) ∙ word_at-with_words node.station.tables file first values other place

-- ---- the run, as it is told then

itself : (n : ℕ) → (n == n) ≡ true
itself n = grind (arith, nat_tests)

not-behind : (first count : ℕ) → (nat_le (first + 1) first && nat_lt first (first + 1 + count)) ≡ false
not-behind first count = grind (arith, nat_tests)

-- the word in front of others that are set
front-word : (at : DataTables) (file first value : ℕ) (values : List ℕ) → word_at (with_words (with_word at file first value) file (first + 1) values) file first ≡ Some value
front-word at file first value values =
    word_at-with_words (with_word at file first value) file (first + 1) values file first
    ∙ ap (λ (is : Bool). if (file == file) && is then slice_get values (first - (first + 1)) else word_at (with_word at file first value) file first) (not-behind first (length values))
    ∙ ap (λ (is : Bool). if is && false then slice_get values (first - (first + 1)) else word_at (with_word at file first value) file first) (itself file)
    ∙ word_at-with_word at file first value file first
    ∙ ap (λ (is : Bool). if is && (first == first) then Some value else word_at at file first) (itself file)
    ∙ ap (λ (is : Bool). if is then Some value else word_at at file first) (itself first)

words-are : (values : List ℕ) (at : DataTables) (file first : ℕ) → words_at (with_words at file first values) file first (length values) ≡ values
words-are [] at file first = refl
words-are (value ∷ values) at file first =
    ap (λ (word : Option ℕ). unwrap_or word 0 ∷ words_at (with_words (with_word at file first value) file (first + 1) values) file (first + 1) (length values)) (front-word at file first value values)
    ∙ ap (λ (xs : List ℕ). value ∷ xs) (words-are values (with_word at file first value) file (first + 1))

pub run : (node : NodeState) (file first : ℕ) (values : List ℕ) → is_range node file first (length values) ≡ true
    → range_told (words_set file first values node) file first (length values) ≡ Some values
run node file first values all =
    let after = with_words node.station.tables file first values in
    ap (λ (held : NodeState). range_told held file first (length values)) (tables node file first values all)
    ∙ chosen (has_words after.specs file first (length values)) (Some (words_at after file first (length values))) None (ap (λ (specs : List FileSpec). has_words specs file first (length values)) (specs-with_words node.station.tables file first values) ∙ all)
    ∙ ap (λ (xs : List ℕ). Some xs) (words-are values node.station.tables file first)

pub none : (node : NodeState) (file first : ℕ) (values : List ℕ) → is_range node file first (length values) ≡ false → words_set file first values node ≡ node
none node file first values is = passed (is_range node file first (length values)) (node_words_set file first values node) node is
