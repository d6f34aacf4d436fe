-- That the reply to an order fits a message.
use Rattle.std.proofs.Common.{◌≡◌, ℕ, ◌+◌, ◌≤◌, ◌*◌, ◌/◌, Bool, true, false, not, ◌&&◌, List, [], ◌∷◌, ◌++◌, length, Option, Some, None, refl, arith, length-append, Result, Ok, Err}
use Rattle.std.specs.Prelude.{◌==◌, ◌%◌, nat_le, if◌then◌else◌}
use Rattle.std.specs.Option.{option_map_or, unwrap_or, is_some}
use Rattle.std.proofs.lemmas.Bool.{leb-true}
use Rattle.std.proofs.lemmas.List.FromFn.{length-map-range_with_len}
use Rattle.df1_base.specs.declared.code.Code.{Code}
use Rattle.df1_base.specs.declared.code.Code.TheVariants.{Done, Sts, Ext}
use Rattle.df1_base.specs.declared.file_type.FileType.{FileType}
use Rattle.df1_base.specs.declared.file_type.FileType.TheVariants as kind
use Rattle.logical_address.specs.Parameter.{written_array, written_element, array_size, element_param}
use Rattle.data_files.specs.declared.file_spec.FileSpec.{FileSpec}
use Rattle.data_files.specs.Effect.{Test, Effect, refusal, unless_refused, tested, FitsReply}
use Rattle.data_files.specs.Place.{holds_of}
use Rattle.data_files.specs.Words.{words_per_element}
use Rattle.data_files.specs.WordBytes.{bytes_of}
use Rattle.data_files.specs.Tables.{DataTables, file_of, words_at}
use Rattle.data_files.proofs.WordLists.{length-bytes_of}
use Rattle.plc_commands.specs.declared.span.Span.{Span}
use Rattle.plc_commands.specs.Meaning.{answered, read_after, written, checked, array_param, byte_span, range_span, element_span, with_sets, meaning}
use Rattle.plc_commands.specs.Order.{Order, Echo, Status, Peek, Poke, RangeWrite, RangeRead, Change, TypedWrite, TypedRead}
use Rattle.plc_commands.specs.Fields.{◌>>=◌, word, levels, parameter, nothing, last_byte, last_word, words, sets}
use Rattle.plc_commands.specs.Reading.{unprotected_read, unprotected_write, range_write, range_read, change, typed_write, typed_read, basic, extended, order_of}
use Rattle.plc_commands.specs.Tests.{compat_file, has_bytes, unprotected_read_tests, unprotected_write_tests, range_tests, range_read_tests, range_write_tests, change_tests, has_elements, array_len, typed_write_tests, typed_read_tests}

-- ---- the parts of a reply

answered-fits : (tables : DataTables) (bytes : List ℕ) → length bytes ≤ 244 → FitsReply (answered tables bytes)
answered-fits tables bytes few = record { short = few; alone = λ no. absurd (let is : false ≡ true = no in cc) }

written-fits : (tables : DataTables) (bytes : List ℕ) (span : Result Span Code) → FitsReply (written tables bytes span)
written-fits tables bytes (Ok span) = record { short = omega arith; alone = λ no. absurd (let is : false ≡ true = no in cc) }
written-fits tables bytes (Err code) = record { short = omega arith; alone = λ refuses. refl }

read-fits : (tables : DataTables) (front : List ℕ) (span : Span) (refused : Option Code) → (refused ≡ None → length front + 2 * span.count ≤ 244) → FitsReply (read_after tables front (unless_refused refused span))
read-fits tables front span (Some code) few = record { short = omega arith; alone = λ refuses. refl }
read-fits tables front span None few =
    let words = words_at tables span.file span.first span.count in
    let bytes = length-bytes_of words in
    let count : length words ≡ span.count = length-map-range_with_len _ span.first span.count in
    answered-fits tables (front ++ bytes_of words) (omega (arith, length-append front (bytes_of words), bytes, count, few refl))

-- ---- what the tests show where none refuses

second : (a b : Bool) (x y : Code) (rest : List Test) → refusal ((a, x) ∷ (b, y) ∷ rest) ≡ None → b ≡ true
second true true x y rest none = refl
second true false x y rest none = absurd cc
second false b x y rest none = absurd cc

and-last : (a b c : Bool) → (a && b && c) ≡ true → c ≡ true
and-last true true true is = refl
and-last true true false is = absurd cc
and-last true false c is = absurd cc
and-last false b c is = absurd cc

sixth : (a b c d e f : Bool) (u v w x y z : Code) (rest : List Test) → refusal ((a, u) ∷ (b, v) ∷ (c, w) ∷ (d, x) ∷ (e, y) ∷ (f, z) ∷ rest) ≡ None → f ≡ true
sixth true true true true true true u v w x y z rest none = refl
sixth true true true true true false u v w x y z rest none = absurd cc
sixth true true true true false f u v w x y z rest none = absurd cc
sixth true true true false e f u v w x y z rest none = absurd cc
sixth true true false d e f u v w x y z rest none = absurd cc
sixth true false c d e f u v w x y z rest none = absurd cc
sixth false b c d e f u v w x y z rest none = absurd cc

half : (size : ℕ) → size ≤ 244 → 0 + 2 * (size / 2) ≤ 244
half size few = omega (arith, few)

-- an array's parameter has no more bytes than are counted for it
param-len : (kind : FileType) (count : ℕ) → length (unwrap_or (written_array kind count) []) ≤ 3 + length (written_element kind)
param-len kind.Status count = at (nat_le (array_size kind.Status count (record { kind = 4; size = 2 })) 255)
  where
    at : (fits : Bool) → length (unwrap_or (if fits then Some (0x99 ∷ 9 ∷ array_size kind.Status count (record { kind = 4; size = 2 }) ∷ written_element kind.Status) else None) []) ≤ 4
    at true = omega arith
    at false = omega arith
param-len kind.Bit count = at (nat_le (array_size kind.Bit count (record { kind = 2; size = 2 })) 255)
  where
    at : (fits : Bool) → length (unwrap_or (if fits then Some (0x99 ∷ 9 ∷ array_size kind.Bit count (record { kind = 2; size = 2 }) ∷ written_element kind.Bit) else None) []) ≤ 4
    at true = omega arith
    at false = omega arith
param-len kind.Timer count = omega arith
param-len kind.Counter count = omega arith
param-len kind.Control count = omega arith
param-len kind.Integer count = at (nat_le (array_size kind.Integer count (record { kind = 4; size = 2 })) 255)
  where
    at : (fits : Bool) → length (unwrap_or (if fits then Some (0x99 ∷ 9 ∷ array_size kind.Integer count (record { kind = 4; size = 2 }) ∷ written_element kind.Integer) else None) []) ≤ 4
    at true = omega arith
    at false = omega arith
param-len kind.Float count = at (nat_le (array_size kind.Float count (record { kind = 8; size = 4 })) 255)
  where
    at : (fits : Bool) → length (unwrap_or (if fits then Some (0x99 ∷ 9 ∷ array_size kind.Float count (record { kind = 8; size = 4 }) ∷ written_element kind.Float) else None) []) ≤ 5
    at true = omega arith
    at false = omega arith

-- elements of a file whose parameter and data fit
elements-fit : (file : Option FileSpec) (count : ℕ) → holds_of (λ f. nat_le (array_len f.kind count) 244) file ≡ true
    → length (option_map_or (λ f. unwrap_or (written_array f.kind count) []) file []) + 2 * (count * option_map_or (λ f. words_per_element f.kind) file 0) ≤ 244
elements-fit None count held = absurd cc
elements-fit (Some f) count held = let few = leb-true (array_len f.kind count) 244 held in let front = param-len f.kind count in omega (arith, few, front)

-- ---- every order

-- where the bytes of an echo fit, and the station's status does
abbrev pub IsShortEcho : Order → Type 0
IsShortEcho (Echo bytes) = length bytes ≤ 244
IsShortEcho other = Unit {0}

change-fits : (tables : DataTables) (refused : Option Code) (effect : Effect) → FitsReply effect → FitsReply (tested tables refused effect)
change-fits tables (Some code) effect fits = record { short = omega arith; alone = λ refuses. refl }
change-fits tables None effect fits = fits

pub reply-fits : (tables : DataTables) (compat : Option ℕ) (status : List ℕ) (order : Order) → length status ≤ 244 → IsShortEcho order → FitsReply (meaning tables compat status order)
reply-fits tables compat status (Echo bytes) few echo = answered-fits tables bytes echo
reply-fits tables compat status Status few echo = answered-fits tables status few
reply-fits tables compat status (Peek address size) few echo =
    read-fits tables [] (byte_span compat address size) (refusal (unprotected_read_tests tables.specs compat address size))
    (λ none. half size (leb-true size 244 (and-last (not (size == 0)) (size % 2 == 0) (nat_le size 244)
    (second (is_some compat) (not (size == 0) && (size % 2 == 0) && nat_le size 244) (Sts 0x80) (Sts 0x10) ((holds_of (has_bytes address size) (compat_file tables.specs compat), Sts 0x50) ∷ []) none))))
reply-fits tables compat status (Poke address bytes) few echo = written-fits tables bytes (checked (unprotected_write_tests tables.specs compat address bytes) (byte_span compat address (length bytes)))
reply-fits tables compat status (RangeWrite window bytes) few echo = written-fits tables bytes (checked (range_write_tests tables.specs window bytes) (range_span tables.specs window (length bytes / 2) true))
reply-fits tables compat status (RangeRead window size) few echo =
    read-fits tables [] (range_span tables.specs window (size / 2) false) (refusal (range_read_tests tables.specs window size))
    (λ none. half size (leb-true size 244 (second (not (size == 0) && (size % 2 == 0)) (nat_le size 244) (Ext 0x01) (Ext 0x09) (range_tests tables.specs window (size / 2) false) none)))
reply-fits tables compat status (Change sets) few echo = change-fits tables (refusal (change_tests tables.specs sets)) (record { tables = with_sets tables sets; code = Done; reply = [] }) (record { short = omega arith; alone = λ no. absurd (let is : false ≡ true = no in cc) })
reply-fits tables compat status (TypedWrite window element array bytes) few echo = written-fits tables bytes (checked (typed_write_tests tables.specs window element array bytes) (element_span tables.specs window (length bytes / element.size)))
reply-fits tables compat status (TypedRead window count) few echo =
    read-fits tables (array_param tables.specs window.at count) (element_span tables.specs window count) (refusal (typed_read_tests tables.specs window count))
    (λ none. elements-fit (file_of tables.specs window.at.file) count (let file = file_of tables.specs window.at.file in
    sixth (not (count == 0)) (window.at.area == 0) (is_some file) (holds_of (λ f. is_some (element_param f.kind)) file) (window.at.sub == 0) (holds_of (λ f. nat_le (array_len f.kind count) 244) file)
    (Ext 0x01) (Ext 0x06) (Ext 0x06) (Ext 0x11) (Ext 0x06) (Ext 0x09) ((holds_of (has_elements window count) file, Ext 0x0A) ∷ []) none))

-- ---- an echo that is read is as long as its payload at most

abbrev pub IfShortEcho : Result Order Code → Type 0
IfShortEcho (Ok order) = IsShortEcho order
IfShortEcho (Err code) = Unit {0}

bind-short : {A : Type 0} (r : Result A Code) (f : A → Result Order Code) → ((x : A) → IfShortEcho (f x)) → IfShortEcho (r >>= f)
bind-short (Ok x) f short = short x
bind-short (Err code) f short = tt

either-short : (b : Bool) (x y : Result Order Code) → IfShortEcho x → IfShortEcho y → IfShortEcho (if b then x else y)
either-short true x y first other = first
either-short false x y first other = other

read-short : (bytes : List ℕ) → IfShortEcho (unprotected_read bytes)
unfolding unprotected_read
read-short bytes = bind-short (word bytes) _ (λ address. bind-short (last_byte address.1) _ (λ size. tt))

write-short : (bytes : List ℕ) → IfShortEcho (unprotected_write bytes)
unfolding unprotected_write
write-short bytes = bind-short (word bytes) _ (λ address. bind-short (words address.1) _ (λ found. tt))

range_write-short : (bytes : List ℕ) → IfShortEcho (range_write bytes)
unfolding range_write
range_write-short bytes = bind-short (word bytes) _ (λ offset. bind-short (word offset.1) _ (λ total. bind-short (levels total.1) _ (λ at. bind-short (words at.1) _ (λ found. tt))))

range_read-short : (bytes : List ℕ) → IfShortEcho (range_read bytes)
unfolding range_read
range_read-short bytes = bind-short (word bytes) _ (λ offset. bind-short (word offset.1) _ (λ total. bind-short (levels total.1) _ (λ at. bind-short (last_byte at.1) _ (λ size. tt))))

change-short : (bytes : List ℕ) → IfShortEcho (change bytes)
unfolding change
change-short bytes = bind-short (sets bytes) _ (λ all. tt)

typed_write-short : (bytes : List ℕ) → IfShortEcho (typed_write bytes)
unfolding typed_write
typed_write-short bytes = bind-short (word bytes) _ (λ offset. bind-short (word offset.1) _ (λ total. bind-short (levels total.1) _ (λ at. bind-short (parameter at.1) _ (λ element. tt))))

typed_read-short : (bytes : List ℕ) → IfShortEcho (typed_read bytes)
unfolding typed_read
typed_read-short bytes = bind-short (word bytes) _ (λ offset. bind-short (word offset.1) _ (λ total. bind-short (levels total.1) _ (λ at. bind-short (last_word at.1) _ (λ count. tt))))

basic-short : (payload : List ℕ) → length payload ≤ 244 → IfShortEcho (basic payload)
basic-short [] few = tt
basic-short (fnc ∷ bytes) few = either-short (fnc == 0x00) _ _ (omega (arith, few)) (either-short (fnc == 0x03) _ _ (bind-short (nothing bytes) _ (λ none. tt)) tt)

extended-short : (payload : List ℕ) → IfShortEcho (extended payload)
extended-short [] = tt
extended-short (fnc ∷ bytes) =
    either-short (fnc == 0x00) (range_write bytes) _ (range_write-short bytes) (either-short (fnc == 0x01) (range_read bytes) _ (range_read-short bytes) (either-short (fnc == 0x26) (change bytes) _ (change-short bytes)
    (either-short (fnc == 0x67) (typed_write bytes) _ (typed_write-short bytes) (either-short (fnc == 0x68) (typed_read bytes) _ (typed_read-short bytes) tt))))

pub echo-fits : (cmd : ℕ) (payload : List ℕ) → length payload ≤ 244 → IfShortEcho (order_of cmd payload)
echo-fits cmd payload few =
    either-short (cmd == 0x06) (basic payload) _ (basic-short payload few) (either-short (cmd == 0x01) (unprotected_read payload) _ (read-short payload)
    (either-short (cmd == 0x08) (unprotected_write payload) _ (write-short payload) (either-short (cmd == 0x0F) (extended payload) _ (extended-short payload) tt)))
