-- A command writes no word of a file that is locked.
use Rattle.std.proofs.Common.{◌≡◌, ◌∙◌, ℕ, ◌/◌, Bool, true, false, ◌&&◌, cond, List, [], ◌∷◌, length, Option, Some, None, Result, Ok, Err, refl, sym, ap, subst}
use Rattle.std.specs.Prelude.{◌==◌, ◌||◌, drop, slice_index, ◌+◌, ◌-◌, nat_le, nat_lt, slice_get, if◌then◌else◌}
use Rattle.std.specs.List.{list_any}
use Rattle.std.specs.Option.{unwrap_or}
use Rattle.std.proofs.lemmas.Bool.{eqb-true}
use Rattle.df1_base.specs.declared.code.Code.{Code}
use Rattle.df1_base.specs.declared.code.Code.TheVariants.{Done, Ext}
use Rattle.data_files.specs.Effect.{Test, Effect, refusal, refused, tested, unless_refused}
use Rattle.data_files.specs.Tables.{DataTables, with_word, with_words, word_at}
use Rattle.data_files.specs.WordBytes.{words_of}
use Rattle.data_files.proofs.Words.{word_at-with_word, word_at-with_words}
use Rattle.slc_commands.specs.Meaning.{meaning as slc_meaning, effect_of as slc_does, tests as slc_tests, first_word, words_after}
use Rattle.slc_commands.specs.Order as slc
use Rattle.plc_commands.specs.declared.order.Set.{Set}
use Rattle.plc_commands.specs.Meaning.{meaning as plc_meaning, array_param, byte_span, changed_word, element_span, range_span, read_after, set_index, with_set, with_sets, written}
use Rattle.plc_commands.specs.Order as plc
use Rattle.plc_commands.specs.Tests.{change_tests, range_read_tests, range_write_tests, typed_read_tests, typed_write_tests, unprotected_read_tests, unprotected_write_tests}
use Rattle.df1_node.specs.Answer.{StationState, Asked, Logical, Other, after_answer, asked_of, effect_of, is_locked, plc_effect, plc_writes, slc_effect, slc_writes}

-- the words of a file are in these tables as in others
abbrev Same : DataTables → (file : ℕ) → DataTables → Type 0
Same tables file after = (index : ℕ) → word_at after file index ≡ word_at tables file index

module _ (tables : DataTables) (locked : List ℕ) (file : ℕ) (is : is_locked locked file ≡ true) where
  -- a file that isn't locked is another
  apart : (other : ℕ) → is_locked locked other ≡ false → (file == other) ≡ false
  apart other free = by (file == other) refl
    where
      by : (b : Bool) → (file == other) ≡ b → b ≡ false
      by true same = absurd (let no : true ≡ false = sym is ∙ ap (is_locked locked) (eqb-true file other same) ∙ free in cc)
      by false same = refl

  set-other : (t : DataTables) (other index value : ℕ) → is_locked locked other ≡ false → Same t file (with_word t other index value)
  set-other t other index value free place = word_at-with_word t other index value file place ∙ ap (λ (b : Bool). cond (b && (place == index)) (Some value) (word_at t file place)) (apart other free)

  words-other : (other first : ℕ) (words : List ℕ) → is_locked locked other ≡ false → Same tables file (with_words tables other first words)
  words-other other first words free place =
      word_at-with_words tables other first words file place
      ∙ ap (λ (b : Bool). cond (b && (nat_le first place && nat_lt place (first + length words))) (slice_get words (place - first)) (word_at tables file place)) (apart other free)

  -- an order that is refused writes nothing
  unless : (denied : Bool) (code : Code) (effect : Effect) → (denied ≡ false → Same tables file effect.tables) → Same tables file (if denied then refused tables code else effect).tables
  unless true code effect does index = refl
  unless false code effect does index = does refl index

  after-tests : (refuses : Option Code) (effect : Effect) → Same tables file effect.tables → Same tables file (tested tables refuses effect).tables
  after-tests None effect does index = does index
  after-tests (Some code) effect does index = refl

  -- ---- the logical commands

  does-slc : (order : slc.Order) (writes_now : Bool) → slc.writes order.fnc ≡ writes_now → slc_writes (is_locked locked) order ≡ false → Same tables file (slc_does tables order).tables
  does-slc order true w free =
      rw w (words-other order.at.file (first_word tables.specs order) (words_after tables order) (sym (ap (λ (b : Bool). b && is_locked locked order.at.file) w) ∙ free))
  does-slc order false w free = rw w (λ index. refl)

  slc-stays : (order : slc.Order) → Same tables file (slc_effect tables locked order).tables
  slc-stays order = unless (slc_writes (is_locked locked) order) (Ext 0x0B) (slc_meaning tables order) (λ free. after-tests (refusal (slc_tests tables.specs order)) (slc_does tables order) (does-slc order (slc.writes order.fnc) refl free))

  -- ---- the others

  either : (a b : Bool) → (a || b) ≡ false → (a ≡ false) × (b ≡ false)
  either true b none = absurd cc
  either false b none = (refl, none)

  sets-other : (sets : List Set) (t : DataTables) → list_any (λ (set : Set). is_locked locked set.at.file) sets ≡ false → Same t file (with_sets t sets)
  sets-other [] t free index = refl
  sets-other (set ∷ sets) t free index =
      let parts = either (is_locked locked set.at.file) (list_any (λ (s : Set). is_locked locked s.at.file) sets) free in
      sets-other sets (with_set t set) parts.1 index
      ∙ set-other t set.at.file (set_index t.specs set) (changed_word set (unwrap_or (word_at t set.at.file (set_index t.specs set)) 0)) parts.0 index

  does-plc : (compat : Option ℕ) (block : List ℕ) (order : plc.Order) → plc_writes (is_locked locked) compat order ≡ false → Same tables file (plc_meaning tables compat block order).tables
  does-plc compat block (plc.Echo bytes) free index = refl
  does-plc compat block plc.Status free index = refl
  does-plc compat block (plc.Peek address size) free index = by (refusal (unprotected_read_tests tables.specs compat address size))
    where
      by : (refuses : Option Code) → word_at (read_after tables [] (unless_refused refuses (byte_span compat address size))).tables file index ≡ word_at tables file index
      by None = refl
      by (Some code) = refl
  does-plc None block (plc.Poke address bytes) free index = refl
  does-plc (Some number) block (plc.Poke address bytes) free index = by (refusal (unprotected_write_tests tables.specs (Some number) address bytes))
    where
      by : (refuses : Option Code) → word_at (written tables bytes (unless_refused refuses (byte_span (Some number) address (length bytes)))).tables file index ≡ word_at tables file index
      by None = words-other number (byte_span (Some number) address (length bytes)).first (words_of bytes) free index
      by (Some code) = refl
  does-plc compat block (plc.RangeWrite window bytes) free index = by (refusal (range_write_tests tables.specs window bytes))
    where
      by : (refuses : Option Code) → word_at (written tables bytes (unless_refused refuses (range_span tables.specs window (length bytes / 2) true))).tables file index ≡ word_at tables file index
      by None = words-other window.at.file (range_span tables.specs window (length bytes / 2) true).first (words_of bytes) free index
      by (Some code) = refl
  does-plc compat block (plc.RangeRead window size) free index = by (refusal (range_read_tests tables.specs window size))
    where
      by : (refuses : Option Code) → word_at (read_after tables [] (unless_refused refuses (range_span tables.specs window (size / 2) false))).tables file index ≡ word_at tables file index
      by None = refl
      by (Some code) = refl
  does-plc compat block (plc.Change sets) free index = after-tests (refusal (change_tests tables.specs sets)) (record { tables = with_sets tables sets; code = Done; reply = [] }) (sets-other sets tables free) index
  does-plc compat block (plc.TypedWrite window element array bytes) free index = by (refusal (typed_write_tests tables.specs window element array bytes))
    where
      by : (refuses : Option Code) → word_at (written tables bytes (unless_refused refuses (element_span tables.specs window (length bytes / element.size)))).tables file index ≡ word_at tables file index
      by None = words-other window.at.file (element_span tables.specs window (length bytes / element.size)).first (words_of bytes) free index
      by (Some code) = refl
  does-plc compat block (plc.TypedRead window count) free index = by (refusal (typed_read_tests tables.specs window count))
    where
      by : (refuses : Option Code) → word_at (read_after tables (array_param tables.specs window.at count) (unless_refused refuses (element_span tables.specs window count))).tables file index ≡ word_at tables file index
      by None = refl
      by (Some code) = refl

does-asked : (station : StationState) (file : ℕ) → is_locked station.locked file ≡ true → (asked : Result Asked Code) → Same station.tables file (effect_of station asked).tables
does-asked station file is (Ok (Logical order)) index = slc-stays station.tables station.locked file is order index
does-asked station file is (Ok (Other order)) index =
    unless station.tables station.locked file is (plc_writes (is_locked station.locked) station.compat order) _ (plc_meaning station.tables station.compat station.block order)
    (does-plc station.tables station.locked file is station.compat station.block order) index
does-asked station file is (Err code) index = refl

pub locked-stays : (station : StationState) (body : List ℕ) (file index : ℕ) → is_locked station.locked file ≡ true → word_at (after_answer station body).tables file index ≡ word_at station.tables file index
locked-stays station body file index is = does-asked station file is (asked_of (slice_index body 2) (drop 6 body)) index
