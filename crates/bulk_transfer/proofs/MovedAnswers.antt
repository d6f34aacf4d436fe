-- How a station answers the orders of a transfer: it refuses one with STS F0 and stays as it is, or does it.
use Rattle.std.proofs.Common.{◌≡◌, ◌∙◌, ◌⊎◌, ℕ, ◌+◌, ◌*◌, ◌/◌, ◌-◌, ◌%◌, ◌<◌, ◌≤◌, Bool, true, false, not, ◌&&◌, List, [], ◌∷◌, length, Option, Some, None, refl, sym, ap, ap₂, subst, inl, inr, arith, Result, Ok}
use Rattle.std.specs.Prelude.{◌==◌, nat_le, nat_lt, if◌then◌else◌, IsTrue}
use Rattle.std.specs.Option.{is_some, option_map_or}
use Rattle.std.proofs.lemmas.Bool.{le-leb, leb-true}
use Rattle.std.proofs.lemmas.Bool.Decides.{nat_tests}
use Rattle.df1_base.specs.declared.code.Code.{Code}
use Rattle.df1_base.specs.declared.code.Code.TheVariants.{Done, Ext}
use Rattle.df1_base.specs.declared.file_type.FileType.{FileType}
use Rattle.df1_base.specs.declared.file_type.FileType.TheVariants.{Status, Bit, Timer, Counter, Control, Integer, Float}
use Rattle.data_files.specs.declared.file_spec.FileSpec.{FileSpec}
use Rattle.data_files.specs.declared.place.Place.{Place}
use Rattle.data_files.specs.Effect.{Test, Effect, refusal, unless_refused, refused}
use Rattle.data_files.specs.Place.{first_in, first_of, holds_of, is_status, place_tests}
use Rattle.data_files.specs.Tables.{DataTables, file_of, has_words, with_words, words_at, word_count}
use Rattle.data_files.specs.Words.{words_per_element}
use Rattle.data_files.specs.WordBytes.{bytes_of, words_of}
use Rattle.slc_commands.specs.Order as slc
use Rattle.plc_commands.specs.Meaning.{answered, checked, meaning, range_span, read_after, written}
use Rattle.plc_commands.specs.Order.{Order, RangeRead, RangeWrite, window}
use Rattle.plc_commands.specs.Reading.{order_of}
use Rattle.plc_commands.specs.Tests.{range_read_tests, range_write_tests}
use Rattle.df1_node.specs.Answer.{Other, StationState, after_answer, asked_by, asked_of, done, effect_of, is_locked, logical_order, reply_body, reply_to, status_of as status_of_code}
use Rattle.each_once.specs.Commands.{command_body}
use Rattle.bulk_orders.specs.Orders.{data_of_order, first_word, is_order, orders_of, pull_payload, push_payload, start_of, words_of_order}
use Rattle.bulk_orders.specs.Outcomes.{data_of, status_of}
use Rattle.bulk_orders.proofs.Ranges.{data-size, reads, writes}

-- ---- what is asked: no logical command begins with 00 or 01

no-logical-read : (bytes : List ℕ) → logical_order 0x0F (0x01 ∷ bytes) ≡ None
unfolding slc.spelled_order
no-logical-read bytes = refl

no-logical-write : (bytes : List ℕ) → logical_order 0x0F (0x00 ∷ bytes) ≡ None
unfolding slc.spelled_order
no-logical-write bytes = refl

asked-other : (cmd : ℕ) (payload : List ℕ) (order : Order) → logical_order cmd payload ≡ None → order_of cmd payload ≡ Ok order → asked_of cmd payload ≡ Ok (Other order)
asked-other cmd payload order none is = ap₂ (λ (logical : Option slc.Order) (other : Result Order Code). asked_by logical other) none is

-- an order as command of this number, in the name of a source
abbrev pub body_of : ℕ → ℕ → ℕ → List ℕ → List ℕ
body_of number src dst payload = command_body number (record { src = src; dst = dst; payload = payload })

asks-read : (station : StationState) (number src dst file words j : ℕ) → done station (body_of number src dst (pull_payload file words j))
    ≡ meaning station.tables station.compat station.block (RangeRead (window (first_word j) words (start_of file)) (2 * words_of_order words j))
asks-read station number src dst file words j =
    ap (effect_of station) (asked-other 0x0F _ _ (no-logical-read _) (reads file words j))

-- one that writes, unless no command may write the file
abbrev unless_locked : StationState → Bool → Order → Effect
unless_locked station locked order = if locked then refused station.tables (Ext 0x0B) else meaning station.tables station.compat station.block order

asks-write : (station : StationState) (number src dst file : ℕ) (bytes : List ℕ) (j : ℕ) → length bytes ≡ 2 * (length bytes / 2) → IsTrue (is_order (length bytes / 2) j) → done station (body_of number src dst (push_payload file bytes j))
    ≡ unless_locked station (is_locked station.locked file) (RangeWrite (window (first_word j) (length bytes / 2) (start_of file)) (data_of_order bytes j))
asks-write station number src dst file bytes j whole is = ap (effect_of station) (asked-other 0x0F _ _ (no-logical-write _) (writes file bytes j whole is))

-- ---- tests

-- each refuses with an extended status
abbrev AreExtended : List Test → Type 0
AreExtended [] = Unit {0}
AreExtended (test ∷ tests) = ((extension : ℕ) × (test.1 ≡ Ext extension)) × AreExtended tests

abbrev AllHold : List Test → Type 0
AllHold [] = Unit {0}
AllHold (test ∷ tests) = (test.0 ≡ true) × AllHold tests

same-code : (a b : Code) → Some a ≡ Some b → a ≡ b
same-code a b same = cc

refused-by : (tests : List Test) → AreExtended tests → (code : Code) → refusal tests ≡ Some code → (extension : ℕ) × (code ≡ Ext extension)
refused-by [] are code is = absurd cc
refused-by (test ∷ tests) are code is = by test.0 (refused-by tests are.1 code) is
  where
    by : (holds : Bool) → (refusal tests ≡ Some code → (extension : ℕ) × (code ≡ Ext extension)) → (if holds then refusal tests else Some test.1) ≡ Some code → (extension : ℕ) × (code ≡ Ext extension)
    by true later is = later is
    by false later is = (are.0.0, sym (same-code test.1 code is) ∙ are.0.1)

hold-where-none : (tests : List Test) → refusal tests ≡ None → AllHold tests
hold-where-none [] none = tt
hold-where-none (test ∷ tests) none = by test.0 refl (hold-where-none tests) none
  where
    by : (holds : Bool) → test.0 ≡ holds → (refusal tests ≡ None → AllHold tests) → (if holds then refusal tests else Some test.1) ≡ None → AllHold (test ∷ tests)
    by true is later none = (is, later none)
    by false is later none = absurd cc

none-where-hold : (tests : List Test) → AllHold tests → refusal tests ≡ None
none-where-hold [] hold = refl
none-where-hold (test ∷ tests) hold = rw hold.0 (none-where-hold tests hold.1)

-- ---- a reply

-- it refuses, with the code in EXT STS
abbrev pub IsRefused : List ℕ → Type 0
IsRefused reply = status_of reply ≡ 0xF0

-- it has no status but these data
abbrev pub HasData : List ℕ → List ℕ → Type 0
HasData reply bytes = (status_of reply ≡ 0) × (data_of reply ≡ bytes)

refused-reply : (body : List ℕ) (effect : Effect) (tables : DataTables) (code : Code) (extension : ℕ) → effect ≡ refused tables code → code ≡ Ext extension → IsRefused (reply_body body effect)
refused-reply body effect tables code extension is ext = ap (λ (e : Effect). status_of (reply_body body e)) is ∙ ap status_of_code ext

done-reply : (body : List ℕ) (effect : Effect) (tables : DataTables) (bytes : List ℕ) → effect ≡ record { tables = tables; code = Done; reply = bytes } → HasData (reply_body body effect) bytes
done-reply body effect tables bytes is = (ap (λ (e : Effect). status_of (reply_body body e)) is, ap (λ (e : Effect). data_of (reply_body body e)) is)

left-as : (station : StationState) (body : List ℕ) (effect : Effect) → done station body ≡ effect → after_answer station body ≡ record station { tables = effect.tables }
left-as station body effect is = ap (λ (e : Effect). let after : StationState = record station { tables = e.tables } in after) is

-- the place of so many words of a file from an index on
abbrev pub place_at : ℕ → ℕ → ℕ → Bool → Place
place_at file first count writes = record { file = file; kind = None; element = 0; sub = 0; offset = first; count = count; writes = writes }

-- the index of its first word, as a station's tables have it
abbrev pub index_in : StationState → ℕ → ℕ → ℕ → Bool → ℕ
index_in station file first count writes = first_of (file_of station.tables.specs file) (place_at file first count writes)

-- a station has so many words of a file, from an index on
abbrev pub HasPart : StationState → ℕ → ℕ → ℕ → Type 0
HasPart station file first count = IsTrue (has_words station.tables.specs file first count)

-- and the file may be written
abbrev pub MayWrite : StationState → ℕ → Type 0
MayWrite station file = IsTrue (holds_of (λ f. not (is_status f.kind)) (file_of station.tables.specs file))

-- what an order that reads does, by the code that refuses it
abbrev read_by : StationState → ℕ → ℕ → ℕ → ℕ → Option Code → Effect
read_by station file first total count refused = read_after station.tables [] (unless_refused refused (range_span station.tables.specs (window first total (start_of file)) count false))

-- a station leaves an order that reads as it is, and refuses it or tells the words, which it has
pub record Read (station : StationState) (body : List ℕ) (file first count : ℕ) : Type 0 where
  pub stays : after_answer station body ≡ station
  pub answers : IsRefused (reply_to station body) ⊎ (HasData (reply_to station body) (bytes_of (words_at station.tables file first count)) × HasPart station file first count)

reads-as : (station : StationState) (body : List ℕ) (tests : List Test) (file first total count : ℕ) → AreExtended tests →
    done station body ≡ read_after station.tables [] (checked tests (range_span station.tables.specs (window first total (start_of file)) count false)) →
    (AllHold tests → (index_in station file first count false ≡ first) × HasPart station file first count) → Read station body file first count
reads-as station body tests file first total count codes is place = by (refusal tests) refl
  where
    by : (o : Option Code) → refusal tests ≡ o → Read station body file first count
    by None none =
        let shown = place (hold-where-none tests none) in
        let bytes : List ℕ = bytes_of (words_at station.tables file first count) in
        let effect : done station body ≡ answered station.tables bytes =
        is ∙ ap (read_by station file first total count) none ∙ ap (λ (at : ℕ). answered station.tables (bytes_of (words_at station.tables file at count))) shown.0 in
        record { stays = left-as station body (answered station.tables bytes) effect; answers = inr (done-reply body (done station body) station.tables bytes effect, shown.1) }
    by (Some code) some =
        let ext = refused-by tests codes code some in
        let effect : done station body ≡ refused station.tables code = is ∙ ap (read_by station file first total count) some in
        record { stays = left-as station body (refused station.tables code) effect; answers = inl (refused-reply body (done station body) station.tables code ext.0 effect ext.1) }

-- and where none does
reads-whole : (station : StationState) (body : List ℕ) (tests : List Test) (file first total count : ℕ) → AllHold tests →
    done station body ≡ read_after station.tables [] (checked tests (range_span station.tables.specs (window first total (start_of file)) count false)) →
    index_in station file first count false ≡ first → HasData (reply_to station body) (bytes_of (words_at station.tables file first count))
reads-whole station body tests file first total count hold is place =
    done-reply body (done station body) station.tables (bytes_of (words_at station.tables file first count))
    (is ∙ ap (read_by station file first total count) (none-where-hold tests hold)
    ∙ ap (λ (at : ℕ). answered station.tables (bytes_of (words_at station.tables file at count))) place)

-- a station in whose tables the words of a file from an index on are others
abbrev pub with_words_of : StationState → ℕ → ℕ → List ℕ → StationState
with_words_of station file first words = record station { tables = with_words station.tables file first words }

-- a station refuses an order that writes and stays as it is; or it has the words, and they are replaced
pub data Wrote (station : StationState) (body : List ℕ) (file first count : ℕ) (bytes : List ℕ) : Type 0 where
  Left : after_answer station body ≡ station → IsRefused (reply_to station body) → Wrote station body file first count bytes
  Written : after_answer station body ≡ with_words_of station file first (words_of bytes) → HasData (reply_to station body) [] → HasPart station file first count → MayWrite station file → Wrote station body file first count bytes

-- what it does, by the code that refuses it
abbrev written_by : StationState → List ℕ → ℕ → ℕ → ℕ → ℕ → Option Code → Effect
written_by station bytes file first total count refused = written station.tables bytes (unless_refused refused (range_span station.tables.specs (window first total (start_of file)) count true))

written-effect : (station : StationState) (body bytes : List ℕ) (tests : List Test) (file first total count : ℕ) → refusal tests ≡ None →
    done station body ≡ written station.tables bytes (checked tests (range_span station.tables.specs (window first total (start_of file)) count true)) →
    index_in station file first count true ≡ first → done station body ≡ record { tables = with_words station.tables file first (words_of bytes); code = Done; reply = [] }
written-effect station body bytes tests file first total count none is place =
    is ∙ ap (written_by station bytes file first total count) none
    ∙ ap (λ (at : ℕ). let effect : Effect = record { tables = with_words station.tables file at (words_of bytes); code = Done; reply = [] } in effect) place

writes-as : (station : StationState) (body bytes : List ℕ) (tests : List Test) (file first total count : ℕ) → AreExtended tests →
    done station body ≡ written station.tables bytes (checked tests (range_span station.tables.specs (window first total (start_of file)) count true)) →
    (AllHold tests → (index_in station file first count true ≡ first) × HasPart station file first count × MayWrite station file) → Wrote station body file first count bytes
writes-as station body bytes tests file first total count codes is place = by (refusal tests) refl
  where
    by : (o : Option Code) → refusal tests ≡ o → Wrote station body file first count bytes
    by None none =
        let shown = place (hold-where-none tests none) in
        let effect = written-effect station body bytes tests file first total count none is shown.0 in
        Written (left-as station body _ effect) (done-reply body (done station body) _ [] effect) shown.1 shown.2
    by (Some code) some =
        let ext = refused-by tests codes code some in
        let effect : done station body ≡ refused station.tables code =
        is ∙ ap (written_by station bytes file first total count) some in
        Left (left-as station body (refused station.tables code) effect) (refused-reply body (done station body) station.tables code ext.0 effect ext.1)

-- ---- the words of an order

index-is : (found : Option FileSpec) (file first count : ℕ) (writes : Bool) → is_some found ≡ true → first_of found (place_at file first count writes) ≡ first
index-is None file first count writes there = absurd cc
index-is (Some f) file first count writes there = omega arith

part-is : (found : Option FileSpec) (file first count size : ℕ) (writes : Bool) → size ≡ count → holds_of (λ f. nat_le (first_in (place_at file first size writes) f + size) (word_count f)) found ≡ true
    → option_map_or (λ f. nat_le (first + count) (word_count f)) found false ≡ true
part-is None file first count size writes same held = absurd cc
part-is (Some f) file first count size writes same held =
    let inside = leb-true (0 * words_per_element f.kind + 0 + first + size) (word_count f) held in
    le-leb (first + count) (word_count f) (omega (arith, inside, same))

half-is : (n : ℕ) → 2 * n / 2 ≡ n
half-is n = omega arith

-- ---- an order that reads

does-read : (station : StationState) (number src dst file words j : ℕ) → done station (body_of number src dst (pull_payload file words j))
    ≡ read_after station.tables [] (checked (range_read_tests station.tables.specs (window (first_word j) words (start_of file)) (2 * words_of_order words j))
    (range_span station.tables.specs (window (first_word j) words (start_of file)) (words_of_order words j) false))
does-read station number src dst file words j =
    asks-read station number src dst file words j
    ∙ ap (λ (count : ℕ). read_after station.tables [] (checked (range_read_tests station.tables.specs (window (first_word j) words (start_of file)) (2 * words_of_order words j))
    (range_span station.tables.specs (window (first_word j) words (start_of file)) count false))) (half-is (words_of_order words j))

-- how a station answers order j
pub reads-order : (station : StationState) (number src dst file words j : ℕ) → Read station (body_of number src dst (pull_payload file words j)) file (first_word j) (words_of_order words j)
reads-order station number src dst file words j =
    let count : ℕ = words_of_order words j in
    let found = file_of station.tables.specs file in
    reads-as station (body_of number src dst (pull_payload file words j)) (range_read_tests station.tables.specs (window (first_word j) words (start_of file)) (2 * count)) file (first_word j) words count
    ((1, refl), ((9, refl), ((6, refl), ((10, refl), ((6, refl), ((17, refl), ((11, refl), ((6, refl), ((10, refl), tt)))))))))
    (does-read station number src dst file words j)
    (λ hold. (index-is found file (first_word j) count false hold.1.1.1.1.0, part-is found file (first_word j) count (2 * count / 2) false (half-is count) hold.1.1.1.1.1.1.1.1.0))

-- ---- an order that writes

pub is-order : (words j : ℕ) → 1 ≤ j → j ≤ orders_of words → IsTrue (is_order words j)
is-order words j some within = rw (le-leb 1 j some, le-leb j (orders_of words) within) refl

-- how many words its data are
size-is : (bytes : List ℕ) (j : ℕ) → length bytes ≡ 2 * (length bytes / 2) → IsTrue (is_order (length bytes / 2) j) → length (data_of_order bytes j) / 2 ≡ words_of_order (length bytes / 2) j
size-is bytes j whole is = let size = (data-size bytes j whole is).0 in omega (arith, size)

does-write : (station : StationState) (number src dst file : ℕ) (bytes : List ℕ) (j : ℕ) → is_locked station.locked file ≡ false → length bytes ≡ 2 * (length bytes / 2) → IsTrue (is_order (length bytes / 2) j) → done station (body_of number src dst (push_payload file bytes j))
    ≡ written station.tables (data_of_order bytes j) (checked (range_write_tests station.tables.specs (window (first_word j) (length bytes / 2) (start_of file)) (data_of_order bytes j))
    (range_span station.tables.specs (window (first_word j) (length bytes / 2) (start_of file)) (words_of_order (length bytes / 2) j) true))
does-write station number src dst file bytes j free whole is =
    asks-write station number src dst file bytes j whole is
    ∙ ap (λ (locked : Bool). unless_locked station locked (RangeWrite (window (first_word j) (length bytes / 2) (start_of file)) (data_of_order bytes j))) free
    ∙ ap (λ (count : ℕ). written station.tables (data_of_order bytes j) (checked (range_write_tests station.tables.specs (window (first_word j) (length bytes / 2) (start_of file)) (data_of_order bytes j))
    (range_span station.tables.specs (window (first_word j) (length bytes / 2) (start_of file)) count true))) (size-is bytes j whole is)

pub writes-order : (station : StationState) (number src dst file : ℕ) (bytes : List ℕ) (j : ℕ) → length bytes ≡ 2 * (length bytes / 2) → IsTrue (is_order (length bytes / 2) j) →
    Wrote station (body_of number src dst (push_payload file bytes j)) file (first_word j) (words_of_order (length bytes / 2) j) (data_of_order bytes j)
writes-order station number src dst file bytes j whole is = by (is_locked station.locked file) refl
  where
    words : ℕ
    words = length bytes / 2

    body : List ℕ
    body = body_of number src dst (push_payload file bytes j)

    by : (locked : Bool) → is_locked station.locked file ≡ locked → Wrote station body file (first_word j) (words_of_order words j) (data_of_order bytes j)
    by true locked =
        let effect : done station body ≡ refused station.tables (Ext 0x0B) =
        asks-write station number src dst file bytes j whole is ∙ ap (λ (l : Bool). unless_locked station l (RangeWrite (window (first_word j) words (start_of file)) (data_of_order bytes j))) locked in
        Left (left-as station body (refused station.tables (Ext 0x0B)) effect) (refused-reply body (done station body) station.tables (Ext 0x0B) 0x0B effect refl)
    by false free =
        let count : ℕ = words_of_order words j in
        let found = file_of station.tables.specs file in
        writes-as station body (data_of_order bytes j) (range_write_tests station.tables.specs (window (first_word j) words (start_of file)) (data_of_order bytes j)) file (first_word j) words count
        ((6, refl), ((10, refl), ((6, refl), ((17, refl), ((11, refl), ((6, refl), ((10, refl), tt)))))))
        (does-write station number src dst file bytes j free whole is)
        (λ hold. (index-is found file (first_word j) count true hold.1.1.0, part-is found file (first_word j) count (length (data_of_order bytes j) / 2) true (size-is bytes j whole is) hold.1.1.1.1.1.1.0, hold.1.1.1.1.0))

-- ---- a file that has the words

-- there is such a file, with at least so many words
abbrev pub HasFileOf : List FileSpec → ℕ → ℕ → Type 0
HasFileOf specs file words = (f : FileSpec) × (file_of specs file ≡ Some f) × (words ≤ word_count f)

some-words : (kind : FileType) → nat_lt 0 (words_per_element kind) ≡ true
some-words Status = refl
some-words Bit = refl
some-words Timer = refl
some-words Counter = refl
some-words Control = refl
some-words Integer = refl
some-words Float = refl

fits-within : (kind : FileType) (first count words size : ℕ) → first + count ≤ words → words ≤ size → nat_le (0 * words_per_element kind + 0 + first + count) size ≡ true
fits-within kind first count words size within few = le-leb (0 * words_per_element kind + 0 + first + count) size (omega (arith, within, few))

place-holds : (f : FileSpec) (file first count words : ℕ) (writes : Bool) → first + count ≤ words → words ≤ word_count f → not (writes && is_status f.kind) ≡ true → AllHold (place_tests (Some f) (place_at file first count writes))
place-holds f file first count words writes within few may = (refl, (refl, (may, (some-words f.kind, (fits-within f.kind first count words (word_count f) within few, tt)))))

place-found : (specs : List FileSpec) (file first count words : ℕ) (writes : Bool) (has : HasFileOf specs file words) → first + count ≤ words → not (writes && is_status has.0.kind) ≡ true → AllHold (place_tests (file_of specs file) (place_at file first count writes))
place-found specs file first count words writes has within may =
    subst (λ (found : Option FileSpec). AllHold (place_tests found (place_at file first count writes))) (sym has.1) (place-holds has.0 file first count words writes within has.2 may)

-- the words of an order
pub order-within : (words j : ℕ) → 1 ≤ j → j ≤ orders_of words → (1 ≤ words_of_order words j) × (words_of_order words j ≤ 100) × (first_word j + words_of_order words j ≤ words)
order-within words j some within = let below : 100 * (j - 1) < words = omega (arith, some, within) in (omega (arith, below), omega arith, omega (arith, below))

even-size : (n : ℕ) → 1 ≤ n → (not (2 * n == 0) && (2 * n % 2 == 0)) ≡ true
even-size n some = grind (arith, nat_tests)

-- where the file has the words, order j is done
pub reads-all : (station : StationState) (number src dst file words j : ℕ) → 1 ≤ j → j ≤ orders_of words → HasFileOf station.tables.specs file words →
    HasData (reply_to station (body_of number src dst (pull_payload file words j))) (bytes_of (words_at station.tables file (first_word j) (words_of_order words j)))
reads-all station number src dst file words j some within has =
    let count : ℕ = words_of_order words j in
    let size = order-within words j some within in
    let half : 2 * count / 2 ≡ count = half-is count in
    let inside : first_word j + 2 * count / 2 ≤ words = omega (arith, half, size.2) in
    reads-whole station (body_of number src dst (pull_payload file words j)) (range_read_tests station.tables.specs (window (first_word j) words (start_of file)) (2 * count)) file (first_word j) words count (
      even-size count size.0,
      (
        le-leb (2 * count) 244 (omega (arith, size.1)),
        (
          refl,
          (
            le-leb (first_word j + 2 * count / 2) words inside,
            place-found station.tables.specs file (first_word j) (2 * count / 2) words false has inside refl,
          ),
        ),
      ),
    )
    (does-read station number src dst file words j)
    (index-is (file_of station.tables.specs file) file (first_word j) count false (ap is_some has.1))

pub writes-all : (station : StationState) (number src dst file : ℕ) (bytes : List ℕ) (j : ℕ) → is_locked station.locked file ≡ false → length bytes ≡ 2 * (length bytes / 2) → 1 ≤ j → j ≤ orders_of (length bytes / 2) →
    (has : HasFileOf station.tables.specs file (length bytes / 2)) → is_status has.0.kind ≡ false → HasData (reply_to station (body_of number src dst (push_payload file bytes j))) []
writes-all station number src dst file bytes j free whole some within has may =
    let words : ℕ = length bytes / 2 in
    let count : ℕ = words_of_order words j in
    let bytes_now : List ℕ = data_of_order bytes j in
    let tests : List Test = range_write_tests station.tables.specs (window (first_word j) words (start_of file)) bytes_now in
    let body = body_of number src dst (push_payload file bytes j) in
    let is = is-order words j some within in
    let half = size-is bytes j whole is in
    let size = order-within words j some within in
    let inside : first_word j + length bytes_now / 2 ≤ words = omega (arith, half, size.2) in
    let hold : AllHold tests =
    (refl, (le-leb (first_word j + length bytes_now / 2) words inside, place-found station.tables.specs file (first_word j) (length bytes_now / 2) words true has inside (ap not may))) in
    done-reply body (done station body) _ [] (written-effect station body bytes_now tests file (first_word j) words count
    (none-where-hold tests hold) (does-write station number src dst file bytes j free whole is) (index-is (file_of station.tables.specs file) file (first_word j) count true (ap is_some has.1)))
