-- The tests of the orders, each command's in the order in which they are made: the first that fails refuses the order
-- with its code. Offset, total and count are numbers without a bound, so no sum of them wraps.
use Rattle.std.specs.Prelude.{ℕ, ◌+◌, ◌*◌, ◌/◌, ◌%◌, Bool, false, true, not, ◌&&◌, ◌||◌, ◌==◌, nat_le, List, [], ◌∷◌, length, Option, None, Some}
use Rattle.std.specs.Option.{option_and_then, is_some}
use Rattle.std.specs.List.{flat_map}
use Rattle.df1_base.specs.declared.file_type.FileType.{FileType}
use Rattle.df1_base.specs.declared.code.Code.TheVariants.{Sts, Ext}
use Rattle.logical_address.specs.declared.param.Param.{Param}
use Rattle.logical_address.specs.Parameter.{element_param, written_element}
use Rattle.data_files.specs.declared.file_spec.FileSpec.{FileSpec}
use Rattle.data_files.specs.declared.place.Place.{Place}
use Rattle.data_files.specs.Words.{words_per_element}
use Rattle.data_files.specs.Tables.{file_of, word_count}
use Rattle.data_files.specs.Effect.{Test}
use Rattle.data_files.specs.Place.{holds_of, is_status, place_tests}
use Rattle.plc_commands.specs.declared.order.Set.{Set}
use Rattle.plc_commands.specs.declared.order.Window.{Window}

-- ---- unprotected read and write

-- the compatibility file, whose words these commands count by bytes
abbrev pub compat_file : List FileSpec → Option ℕ → Option FileSpec
compat_file specs compat = option_and_then (file_of specs) compat

-- the address is of a word, and so many bytes from it on are in the file
abbrev pub has_bytes : ℕ → ℕ → FileSpec → Bool
has_bytes address size file = (address % 2 == 0) && nat_le (address + size) (2 * word_count file)

abbrev pub unprotected_read_tests : List FileSpec → Option ℕ → ℕ → ℕ → List Test
unprotected_read_tests specs compat address size =
    (is_some compat, Sts 0x80)
    ∷ (not (size == 0) && (size % 2 == 0) && nat_le size 244, Sts 0x10)
    ∷ (holds_of (has_bytes address size) (compat_file specs compat), Sts 0x50)
    ∷ []

abbrev pub unprotected_write_tests : List FileSpec → Option ℕ → ℕ → List ℕ → List Test
unprotected_write_tests specs compat address bytes =
    (is_some compat, Sts 0x80)
    ∷ (holds_of (has_bytes address (length bytes)) (compat_file specs compat), Sts 0x50)
    ∷ []

-- ---- word range write and read

-- so many words of a range
abbrev pub range_place : Window → ℕ → Bool → Place
range_place window count writes =
    record { file = window.at.file; kind = None; element = window.at.element; sub = window.at.sub; offset = window.offset; count = count; writes = writes }

abbrev pub range_tests : List FileSpec → Window → ℕ → Bool → List Test
range_tests specs window count writes =
    (window.at.area == 0, Ext 0x06)
    ∷ (nat_le (window.offset + count) window.total, Ext 0x0A)
    ∷ place_tests (file_of specs window.at.file) (range_place window count writes)

abbrev pub range_write_tests : List FileSpec → Window → List ℕ → List Test
range_write_tests specs window bytes = range_tests specs window (length bytes / 2) true

abbrev pub range_read_tests : List FileSpec → Window → ℕ → List Test
range_read_tests specs window size =
    (not (size == 0) && (size % 2 == 0), Ext 0x01)
    ∷ (nat_le size 244, Ext 0x09)
    ∷ range_tests specs window (size / 2) false

-- ---- read-modify-write

-- the word of a set
abbrev pub set_place : Set → Place
set_place set =
    record { file = set.at.file; kind = None; element = set.at.element; sub = set.at.sub; offset = 0; count = 1; writes = true }

abbrev pub set_tests : List FileSpec → Set → List Test
set_tests specs set = (set.at.area == 0, Ext 0x06) ∷ place_tests (file_of specs set.at.file) (set_place set)

-- of each set in order
abbrev pub change_tests : List FileSpec → List Set → List Test
change_tests specs sets = flat_map (set_tests specs) sets

-- ---- typed write and read

-- the parameter is the one of an element, where elements have one
abbrev pub is_param : Param → Option Param → Bool
is_param param None = false
is_param param (Some other) = (param.kind == other.kind) && (param.size == other.size)

-- so many elements of a range are within it, and in the file
abbrev pub has_elements : Window → ℕ → FileSpec → Bool
has_elements window count file =
    nat_le (window.offset + count) window.total && nat_le (window.at.element + window.offset + count) file.count

-- the data is of whole elements, at least one, and without an array one
abbrev pub is_elements : Param → Bool → List ℕ → Bool
is_elements element array bytes =
    not (length bytes == 0) && (length bytes % element.size == 0) && (array || (length bytes == element.size))

abbrev pub typed_write_tests : List FileSpec → Window → Param → Bool → List ℕ → List Test
typed_write_tests specs window element array bytes =
    let file = file_of specs window.at.file in
    (window.at.area == 0, Ext 0x06)
    ∷ (is_some file, Ext 0x06)
    ∷ (holds_of (λ f. is_param element (element_param f.kind)) file, Ext 0x11)
    ∷ (is_elements element array bytes, Sts 0x10)
    ∷ (holds_of (λ f. not (is_status f.kind)) file, Ext 0x0B)
    ∷ (window.at.sub == 0, Ext 0x06)
    ∷ (holds_of (has_elements window (length bytes / element.size)) file, Ext 0x0A)
    ∷ []

-- how many bytes a read of elements gives: an array's parameter, its element's, and the data
abbrev pub array_len : FileType → ℕ → ℕ
array_len kind count = 3 + length (written_element kind) + 2 * (count * words_per_element kind)

abbrev pub typed_read_tests : List FileSpec → Window → ℕ → List Test
typed_read_tests specs window count =
    let file = file_of specs window.at.file in
    (not (count == 0), Ext 0x01)
    ∷ (window.at.area == 0, Ext 0x06)
    ∷ (is_some file, Ext 0x06)
    ∷ (holds_of (λ f. is_some (element_param f.kind)) file, Ext 0x11)
    ∷ (window.at.sub == 0, Ext 0x06)
    ∷ (holds_of (λ f. nat_le (array_len f.kind count) 244) file, Ext 0x09)
    ∷ (holds_of (has_elements window count) file, Ext 0x0A)
    ∷ []
