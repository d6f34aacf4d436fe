-- What is out of range of an end is never told as the code of what was done. Assumes nothing.
use Rattle.std.proofs.Common.{◌≡◌, ℕ, Bool, true, false, List, [], ◌∷◌, ◌++◌, length, nat_lt, Option, Some, None, refl}
use Rattle.std.specs.Prelude.{◌==◌, ◌||◌, not, is_none, is_some, if◌then◌else◌}
use Rattle.std.specs.Option.{option_map, option_or}
use Rattle.std.specs.List.{list_any}
use Rattle.data_files.specs.Tables.{faults, fits_compat, has_word}
use Rattle.data_files.specs.declared.make_fault.MakeFault.{MakeFault}
use Rattle.data_files.specs.declared.make_fault.MakeFault.TheVariants as make
use Rattle.end_settings.specs.declared.key.EndKey.{EndKey}
use Rattle.end_settings.specs.declared.key.EndKey.TheVariants.{AckTicks, MaxEnqs, MaxNaks, MaxResends, MaxSends, PerSource, PollTicks, ReplyTicks, Room, Window}
use Rattle.end_settings.specs.Rows.{fitting}
use Rattle.c_ends.specs.declared.code.Code.{Code}
use Rattle.c_ends.specs.declared.code.Code.TheVariants as code
use Rattle.c_ends.specs.declared.held.Held.{Held}
use Rattle.c_ends.specs.declared.parts.DuplexLink.{DuplexLink}
use Rattle.c_ends.specs.declared.parts.MasterLink.{MasterLink}
use Rattle.c_ends.specs.declared.parts.SlaveLink.{SlaveLink}
use Rattle.c_ends.specs.declared.parts.NodeParts.{NodeParts}
use Rattle.c_ends.specs.declared.parts.FileParts.{FileParts}
use Rattle.c_ends.specs.declared.parts.WordParts.{WordParts}
use Rattle.c_ends.specs.Code.{code_number}
use Rattle.c_ends.specs.Links.{number_fault, station_fault, duplex_fault, master_fault, slave_fault}
use Rattle.c_ends.specs.Parts.{kind_of, specs_of, make_code, compat_of, files_fault, node_fault}
use Rattle.c_ends.specs.Values.{given_or_first, reserved_fault, value_fault, values_of}
use Rattle.c_lines.specs.Sides.{side_of}
use Rattle.df1_c.specs.Decoders.{side_fault}
use Rattle.df1_c.specs.Held.{taken_fault}

abbrev pub NeverDone : Option Code → Type 0
NeverDone None = Unit {0}
NeverDone (Some fault) = (code_number fault == 0) ≡ false

-- ---- of the parts of a choice

one-if : (bad : Bool) (fault : Code) → NeverDone (Some fault) → NeverDone (if bad then Some fault else None)
one-if true fault never = never
one-if false fault never = tt

one-unless : (right : Bool) (fault : Code) → NeverDone (Some fault) → NeverDone (if right then None else Some fault)
one-unless true fault never = tt
one-unless false fault never = never

pub first-or : (first second : Option Code) → NeverDone first → NeverDone second → NeverDone (option_or first second)
first-or None second never other = other
first-or (Some fault) second never other = never

value-never : (key : EndKey) (fault : Code) (number : ℕ) → NeverDone (Some fault) → NeverDone (value_fault key fault number)
value-never key fault number never = one-unless (is_some (fitting (values_of key) (Some number))) fault never

reserved-never : (reserved : List ℕ) → NeverDone (reserved_fault reserved)
reserved-never reserved = one-if (list_any (λ member. not (member == 0)) reserved) code.NotReserved refl

-- ---- of what is made

made-never : (fault : Option MakeFault) → NeverDone (option_map make_code fault)
made-never None = tt
made-never (Some make.TooMany) = refl
made-never (Some (make.Empty number)) = refl
made-never (Some (make.Large number)) = refl
made-never (Some (make.Twice number)) = refl
made-never (Some make.NoMemory) = refl

files-never : (node : NodeParts) (files : List FileParts) (words : List WordParts) (block : List ℕ) → NeverDone (files_fault node files words block)
files-never node files words block =
    first-or _ _ (one-if (nat_lt 256 (length files)) code.TooManyFiles refl)
    (first-or _ _ (one-if (list_any (λ (file : FileParts). is_none (kind_of file.kind)) files) code.BadType refl)
    (first-or _ _ (made-never (faults (specs_of files)))
    (first-or _ _ (one-unless (fits_compat (specs_of files) (compat_of node)) code.BadCompat refl)
    (first-or _ _ (one-if (list_any (λ (word : WordParts). not (has_word (specs_of files) word.file word.index)) words) code.NoWord refl)
    (first-or _ _ (one-if (nat_lt 244 (length block)) code.LongBlock refl) tt)))))

node-never : (node : NodeParts) (files : List FileParts) (words : List WordParts) (block : List ℕ) → NeverDone (node_fault node files words block)
node-never node files words block =
    first-or _ _ (value-never ReplyTicks code.BadReplyTicks node.reply_ticks refl)
    (first-or _ _ (value-never Room code.BadRoom node.room refl)
    (first-or _ _ (value-never Window code.BadWindow (given_or_first Window node.window) refl)
    (first-or _ _ (value-never PerSource code.BadPerSource (given_or_first PerSource node.per_source) refl)
    (first-or _ _ (reserved-never node.reserved)
    (first-or _ _ (files-never node files words block) tt)))))

number-never : (number : ℕ) → NeverDone (number_fault number)
number-never number = one-if (number == 16 || number == 255) code.BadStation refl

stations-never : (before numbers : List ℕ) → NeverDone (station_fault before numbers)
stations-never before [] = tt
stations-never before (number ∷ numbers) =
    first-or _ _ (first-or _ _ (number-never number) (one-if (list_any (λ other. number == other) before) code.StationTwice refl)) (stations-never (before ++ number ∷ []) numbers)

-- ---- of an end behind a handle that may be taken

pub duplex-never : (link : DuplexLink) (node : NodeParts) (files : List FileParts) (words : List WordParts) (block : List ℕ) → NeverDone (duplex_fault link node files words block)
duplex-never link node files words block =
    first-or _ _ (value-never AckTicks code.BadAckTicks link.ack_ticks refl)
    (first-or _ _ (value-never MaxNaks code.BadMaxNaks link.max_naks refl)
    (first-or _ _ (value-never MaxEnqs code.BadMaxEnqs link.max_enqs refl)
    (first-or _ _ (reserved-never link.reserved)
    (first-or _ _ (node-never node files words block) tt))))

pub master-never : (link : MasterLink) (stations : List ℕ) (node : NodeParts) (files : List FileParts) (words : List WordParts) (block : List ℕ)
    → NeverDone (master_fault link stations node files words block)
master-never link stations node files words block =
    first-or _ _ (value-never AckTicks code.BadAckTicks link.ack_ticks refl)
    (first-or _ _ (value-never MaxResends code.BadMaxResends link.max_resends refl)
    (first-or _ _ (value-never PollTicks code.BadPollTicks link.poll_ticks refl)
    (first-or _ _ (one-if (nat_lt 1 link.routes) code.BadRoutes refl)
    (first-or _ _ (reserved-never link.reserved)
    (first-or _ _ (one-if (nat_lt 32 (length stations)) code.TooManyStations refl)
    (first-or _ _ (stations-never [] stations)
    (first-or _ _ (node-never node files words block) tt)))))))

pub slave-never : (link : SlaveLink) (node : NodeParts) (files : List FileParts) (words : List WordParts) (block : List ℕ) → NeverDone (slave_fault link node files words block)
slave-never link node files words block =
    first-or _ _ (value-never MaxSends code.BadMaxSends link.max_sends refl)
    (first-or _ _ (reserved-never link.reserved)
    (first-or _ _ (number-never node.address)
    (first-or _ _ (node-never node files words block) tt)))

pub side-never : (number : ℕ) → NeverDone (side_fault number)
side-never number = one-if (is_none (side_of number)) code.BadSide refl

pub taken-never : (old : Option Held) → NeverDone (taken_fault old)
taken-never None = tt
taken-never (Some held) = refl
