-- What orders that a station executes do to the words of their addresses.
use Rattle.std.proofs.Common.{◌≡◌, ℕ, ◌+◌, ◌*◌, ◌/◌, ◌<◌, Bool, true, false, List, [], ◌∷◌, length, get_or, Option, Some, None, refl, sym, ap, ◌∙◌, arith}
use Rattle.std.specs.Option.{option_map_or}
use Rattle.std.proofs.lemmas.Bool.{cond_both, true≢false}
use Rattle.std.proofs.lemmas.List.FromFn.{length-map-range_with_len}
use Rattle.df1_base.specs.declared.code.Code.{Code}
use Rattle.df1_base.specs.declared.code.Code.TheVariants.{Done}
use Rattle.logical_address.proofs.Fronts.{some_is}
use Rattle.data_files.specs.declared.file_spec.FileSpec.{FileSpec}
use Rattle.data_files.specs.declared.place.Place.{Place}
use Rattle.data_files.specs.Effect.{Effect, Test, is_refusal, refusal, tested, unless_refused}
use Rattle.data_files.specs.Place.{first_of}
use Rattle.data_files.specs.Tables.{DataTables, file_of, with_words, words_at}
use Rattle.data_files.specs.WordBytes.{bytes_of, words_of}
use Rattle.data_files.specs.Words.{words_per_element}
use Rattle.data_files.proofs.WordLists.{words_of-bytes_of}
use Rattle.data_addresses.specs.declared.address.Address.{Address}
use Rattle.data_addresses.specs.Fields.{levels_of}
use Rattle.plc_commands.specs.Order.{window}
use Rattle.plc_commands.specs.Tests.{range_place, range_read_tests, range_write_tests}
use Rattle.plc_commands.specs.Meaning as plc
use Rattle.slc_commands.specs.Meaning as slc
use Rattle.slc_commands.specs.Words.{masked}
use Rattle.slc_commands.proofs.WordLists.{all_bits}
use Rattle.command_payloads.specs.Orders.{logical_read_order, logical_write_order, word_range_read_order, word_range_write_order}
use Rattle.command_payloads.specs.Words.{index_of}

-- ---- tests refuse with codes that aren't Done

AreRefusals : List Test → Type 0
AreRefusals [] = Unit {0}
AreRefusals (test ∷ tests) = (is_refusal test.1 ≡ true) × AreRefusals tests

never_done : (tests : List Test) → AreRefusals tests → refusal tests ≡ Some Done → ⊥
unfolding AreRefusals
never_done [] are e = absurd cc
never_done (test ∷ tests) are e =
    cond_both test.0 (refusal tests) (Some test.1) (λ (o : Option Code). o ≡ Some Done → ⊥)
    (λ _ h. never_done tests are.1 h)
    (λ _ h. true≢false (sym are.0 ∙ ap is_refusal (some_is test.1 Done h)))
    e

-- ---- the index of an address

index_is : (place : Place) (at : Address) (file : Option FileSpec) → place.element ≡ at.element → place.sub ≡ at.sub → place.offset ≡ 0 → first_of file place ≡ option_map_or (λ (f : FileSpec). at.element * words_per_element f.kind + at.sub) file 0
index_is place at None element sub offset = refl
index_is place at (Some file) element sub offset =
    let width = words_per_element file.kind in
    ap (λ (n : ℕ). n * width + place.sub + place.offset) element ∙ (let whole : at.element * width + place.sub + place.offset ≡ at.element * width + at.sub = omega arith in whole)

half : (count : ℕ) → 2 * count / 2 ≡ count
half count = omega arith

-- ---- word ranges

read_where : (o : Option Code) (tables : DataTables) (at : Address) (total count : ℕ) → (o ≡ Some Done → ⊥)
    → (plc.read_after tables [] (unless_refused o (plc.range_span tables.specs (window 0 total (levels_of at)) count false))).code ≡ Done
    → words_of (plc.read_after tables [] (unless_refused o (plc.range_span tables.specs (window 0 total (levels_of at)) count false))).reply ≡ words_at tables at.file (index_of tables.specs at) count
read_where None tables at total count never e =
    words_of-bytes_of (words_at tables at.file (first_of (file_of tables.specs at.file) (range_place (window 0 total (levels_of at)) count false)) count)
    ∙ ap (λ (n : ℕ). words_at tables at.file n count) (index_is (range_place (window 0 total (levels_of at)) count false) at (file_of tables.specs at.file) refl refl refl)
read_where (Some code) tables at total count never e = let same : Code → Option Code = λ c. Some c in absurd (never (ap same e))

pub range_read_gives : (tables : DataTables) (compat : Option ℕ) (block : List ℕ) (at : Address) (count : ℕ) → (plc.meaning tables compat block (word_range_read_order at count)).code ≡ Done
    → words_of (plc.meaning tables compat block (word_range_read_order at count)).reply ≡ words_at tables at.file (index_of tables.specs at) count
unfolding AreRefusals
range_read_gives tables compat block at count e =
    let tests = range_read_tests tables.specs (window 0 count (levels_of at)) (2 * count) in
    let are : AreRefusals tests = (refl, (refl, (refl, (refl, (refl, (refl, (refl, (refl, (refl, tt))))))))) in
    read_where (refusal tests) tables at count (2 * count / 2) (never_done tests are) e
    ∙ ap (words_at tables at.file (index_of tables.specs at)) (half count)

write_where : (o : Option Code) (tables : DataTables) (at : Address) (total count : ℕ) (words : List ℕ) → (o ≡ Some Done → ⊥)
    → (plc.written tables (bytes_of words) (unless_refused o (plc.range_span tables.specs (window 0 total (levels_of at)) count true))).code ≡ Done
    → (plc.written tables (bytes_of words) (unless_refused o (plc.range_span tables.specs (window 0 total (levels_of at)) count true))).tables ≡ with_words tables at.file (index_of tables.specs at) words
write_where None tables at total count words never e =
    ap (with_words tables at.file (first_of (file_of tables.specs at.file) (range_place (window 0 total (levels_of at)) count true))) (words_of-bytes_of words)
    ∙ ap (λ (n : ℕ). with_words tables at.file n words) (index_is (range_place (window 0 total (levels_of at)) count true) at (file_of tables.specs at.file) refl refl refl)
write_where (Some code) tables at total count words never e = let same : Code → Option Code = λ c. Some c in absurd (never (ap same e))

pub range_write_gives : (tables : DataTables) (compat : Option ℕ) (block : List ℕ) (at : Address) (words : List ℕ) → (plc.meaning tables compat block (word_range_write_order at words)).code ≡ Done
    → (plc.meaning tables compat block (word_range_write_order at words)).tables ≡ with_words tables at.file (index_of tables.specs at) words
unfolding AreRefusals
range_write_gives tables compat block at words e =
    let tests = range_write_tests tables.specs (window 0 (length words) (levels_of at)) (bytes_of words) in
    let are : AreRefusals tests = (refl, (refl, (refl, (refl, (refl, (refl, (refl, tt))))))) in
    write_where (refusal tests) tables at (length words) (length (bytes_of words) / 2) words (never_done tests are) e

-- ---- logical reads

tested_done : (o : Option Code) (tables : DataTables) (effect : Effect) → (o ≡ Some Done → ⊥) → (tested tables o effect).code ≡ Done → tested tables o effect ≡ effect
tested_done None tables effect never e = refl
tested_done (Some code) tables effect never e = let same : Code → Option Code = λ c. Some c in absurd (never (ap same e))

pub logical_read_gives : (tables : DataTables) (with_sub : Bool) (at : Address) (count : ℕ) → (slc.meaning tables (logical_read_order with_sub at count)).code ≡ Done
    → words_of (slc.meaning tables (logical_read_order with_sub at count)).reply ≡ words_at tables at.file (index_of tables.specs at) count
unfolding AreRefusals
logical_read_gives tables true at count e =
    let order = logical_read_order true at count in
    let tests = slc.tests tables.specs order in
    let are : AreRefusals tests = (refl, (refl, (refl, (refl, (refl, (refl, (refl, tt))))))) in
    let done = tested_done (refusal tests) tables (slc.effect_of tables order) (never_done tests are) e in
    ap (λ (effect : Effect). words_of effect.reply) done ∙ words_of-bytes_of (slc.words_before tables order)
    ∙ ap (λ (n : ℕ). words_at tables at.file n (2 * count / 2)) (index_is (slc.place_of order) at (file_of tables.specs at.file) refl refl refl)
    ∙ ap (words_at tables at.file (index_of tables.specs at)) (half count)
logical_read_gives tables false at count e =
    let order = logical_read_order false at count in
    let tests = slc.tests tables.specs order in
    let are : AreRefusals tests = (refl, (refl, (refl, (refl, (refl, (refl, (refl, tt))))))) in
    let done = tested_done (refusal tests) tables (slc.effect_of tables order) (never_done tests are) e in
    ap (λ (effect : Effect). words_of effect.reply) done ∙ words_of-bytes_of (slc.words_before tables order)
    ∙ ap (λ (n : ℕ). words_at tables at.file n (2 * count / 2)) (index_is (slc.place_of order) at (file_of tables.specs at.file) refl refl refl)
    ∙ ap (words_at tables at.file (index_of tables.specs at)) (half count)

-- ---- logical writes

-- all words of an order that has no mask are replaced
replaced : (tables : DataTables) (file first count : ℕ) (words : List ℕ) → count ≡ length words → ((k d : ℕ) → k < length words → get_or words k d < 65536) → masked 65535 (words_at tables file first count) (words_of (bytes_of words)) ≡ words
replaced tables file first count words size fit =
    ap (masked 65535 (words_at tables file first count)) (words_of-bytes_of words)
    ∙ all_bits (words_at tables file first count) words (length-map-range_with_len _ first count ∙ size) fit

pub logical_write_gives : (tables : DataTables) (with_sub : Bool) (at : Address) (words : List ℕ) → ((k d : ℕ) → k < length words → get_or words k d < 65536) → (slc.meaning tables (logical_write_order with_sub at words)).code ≡ Done
    → (slc.meaning tables (logical_write_order with_sub at words)).tables ≡ with_words tables at.file (index_of tables.specs at) words
unfolding AreRefusals
logical_write_gives tables true at words fit e =
    let order = logical_write_order true at words in
    let tests = slc.tests tables.specs order in
    let are : AreRefusals tests = (refl, (refl, (refl, (refl, (refl, (refl, (refl, tt))))))) in
    let done = tested_done (refusal tests) tables (slc.effect_of tables order) (never_done tests are) e in
    let first = slc.first_word tables.specs order in
    ap (λ (effect : Effect). effect.tables) done
    ∙ ap (with_words tables at.file first) (replaced tables at.file first (2 * length words / 2) words (half (length words)) fit)
    ∙ ap (λ (n : ℕ). with_words tables at.file n words) (index_is (slc.place_of order) at (file_of tables.specs at.file) refl refl refl)
logical_write_gives tables false at words fit e =
    let order = logical_write_order false at words in
    let tests = slc.tests tables.specs order in
    let are : AreRefusals tests = (refl, (refl, (refl, (refl, (refl, (refl, (refl, tt))))))) in
    let done = tested_done (refusal tests) tables (slc.effect_of tables order) (never_done tests are) e in
    let first = slc.first_word tables.specs order in
    ap (λ (effect : Effect). effect.tables) done
    ∙ ap (with_words tables at.file first) (replaced tables at.file first (2 * length words / 2) words (half (length words)) fit)
    ∙ ap (λ (n : ℕ). with_words tables at.file n words) (index_is (slc.place_of order) at (file_of tables.specs at.file) refl refl refl)
