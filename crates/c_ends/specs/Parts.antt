-- What stands behind an end, as C gives it: which part is out of range, and the node that the parts make.
use Rattle.std.specs.Prelude.{ℕ, ◌==◌, not, List, [], ◌∷◌, length, map, find, nat_lt, Option, None, Some, is_none, if◌then◌else◌}
use Rattle.std.specs.Option.{option_map, option_or, unwrap_or}
use Rattle.std.specs.List.{list_any}
use Rattle.df1_base.specs.declared.file_type.FileType.{FileType}
use Rattle.df1_base.specs.declared.file_type.FileType.TheVariants.{Status, Bit, Timer, Counter, Control, Integer, Float}
use Rattle.data_files.specs.Place.{type_byte}
use Rattle.data_files.specs.Tables.{DataTables, faults, fits_compat, fresh, has_word, with_word}
use Rattle.data_files.specs.declared.file_spec.FileSpec.{FileSpec}
use Rattle.data_files.specs.declared.make_fault.MakeFault.{MakeFault}
use Rattle.data_files.specs.declared.make_fault.MakeFault.TheVariants as fault
use Rattle.df1_node.specs.Node.{NodeState}
use Rattle.df1_node.specs.declared.handed.Handed.TheVariants as handed
use Rattle.end_settings.specs.declared.key.EndKey.TheVariants.{PerSource, ReplyTicks, Room, Window}
use Rattle.c_ends.specs.declared.code.Code.{Code}
use Rattle.c_ends.specs.declared.code.Code.TheVariants as code
use Rattle.c_ends.specs.declared.parts.NodeParts.{NodeParts}
use Rattle.c_ends.specs.declared.parts.FileParts.{FileParts}
use Rattle.c_ends.specs.declared.parts.WordParts.{WordParts}
use Rattle.c_ends.specs.Values.{given_or_first, reserved_fault, value_fault}

-- the first that there is
abbrev pub first_of : List (Option Code) → Option Code
first_of [] = None
first_of (fault ∷ faults) = option_or fault (first_of faults)

abbrev pub kinds : List FileType
kinds = Status ∷ Bit ∷ Timer ∷ Counter ∷ Control ∷ Integer ∷ Float ∷ []

-- the type of a type byte
unfoldable pub kind_of : ℕ → Option FileType
kind_of byte = find (λ kind. type_byte kind == byte) kinds

-- a data file; of a byte that is no type's nothing is asked
abbrev pub spec_of : FileParts → FileSpec
spec_of file = record { number = file.number; kind = unwrap_or (kind_of file.kind) Status; count = file.elements }

abbrev pub specs_of : List FileParts → List FileSpec
specs_of files = map spec_of files

-- ---- which part is out of range

abbrev pub count_fault : List FileParts → Option Code
count_fault files = if nat_lt 256 (length files) then Some code.TooManyFiles else None

abbrev pub type_fault : List FileParts → Option Code
type_fault files = if list_any (λ file. is_none (kind_of file.kind)) files then Some code.BadType else None

abbrev pub make_code : MakeFault → Code
make_code fault.TooMany = code.TooManyFiles
make_code (fault.Empty number) = code.EmptyFile
make_code (fault.Large number) = code.LargeFile
make_code (fault.Twice number) = code.FileTwice
make_code fault.NoMemory = code.NoMemory

-- the first file that is empty, large, or there twice
abbrev pub each_fault : List FileParts → Option Code
each_fault files = option_map make_code (faults (specs_of files))

abbrev pub compat_of : NodeParts → Option ℕ
compat_of node = if node.has_compat then Some node.compat else None

abbrev pub compat_fault : NodeParts → List FileParts → Option Code
compat_fault node files = if fits_compat (specs_of files) (compat_of node) then None else Some code.BadCompat

abbrev pub word_fault : List FileParts → List WordParts → Option Code
word_fault files words = if list_any (λ word. not (has_word (specs_of files) word.file word.index)) words then Some code.NoWord else None

abbrev pub block_fault : List ℕ → Option Code
block_fault block = if nat_lt 244 (length block) then Some code.LongBlock else None

-- what is out of range of the files of an end, of the compatibility file, of the first words and of the block: the first of these
abbrev pub files_fault : NodeParts → List FileParts → List WordParts → List ℕ → Option Code
files_fault node files words block = first_of (
    count_fault files ∷
    type_fault files ∷
    each_fault files ∷
    compat_fault node files ∷
    word_fault files words ∷
    block_fault block ∷ [])

-- what is out of range of what stands behind an end: the first of these
abbrev pub node_fault : NodeParts → List FileParts → List WordParts → List ℕ → Option Code
node_fault node files words block = first_of (
    value_fault ReplyTicks code.BadReplyTicks node.reply_ticks ∷
    value_fault Room code.BadRoom node.room ∷
    value_fault Window code.BadWindow (given_or_first Window node.window) ∷
    value_fault PerSource code.BadPerSource (given_or_first PerSource node.per_source) ∷
    reserved_fault node.reserved ∷
    files_fault node files words block ∷ [])

-- ---- the node

-- words have their first values, one after another
abbrev pub with_first : DataTables → WordParts → DataTables
with_first tables word = if has_word tables.specs word.file word.index then with_word tables word.file word.index word.value else tables

abbrev pub with_all : DataTables → List WordParts → DataTables
with_all tables [] = tables
with_all tables (word ∷ words) = with_all (with_first tables word) words

abbrev pub first_tables : List FileParts → List WordParts → DataTables
first_tables files words = with_all (fresh (specs_of files)) words

-- the node of an end, with no command issued and no reply kept
abbrev pub first_node : NodeParts → List FileParts → List WordParts → List ℕ → NodeState
first_node node files words block = record {
  room = node.room;
  station = record { tables = first_tables files words; compat = compat_of node; block = block; locked = [] };
  replies = [];
  initiator = record { node = node.address; tns = node.tns; reply_ticks = node.reply_ticks; window = given_or_first Window node.window; per_source = given_or_first PerSource node.per_source; issued = [] };
  last = handed.Nothing;
}
