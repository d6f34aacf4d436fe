-- What is in range where nothing is out of range. Assumes nothing.
use Rattle.std.proofs.Common.{◌≡◌, ◌≤◌, ℕ, Bool, true, false, cond, List, [], ◌∷◌, length, refl, arith}
use Rattle.std.specs.Prelude.{Option, Some, None, ◌&&◌, is_some, nat_le, nat_lt}
use Rattle.std.specs.Option.{option_map}
use Rattle.std.proofs.lemmas.Bool.Decides.{nat_tests}
use Rattle.data_files.specs.Tables.{faults, fits_compat}
use Rattle.data_files.specs.declared.make_fault.MakeFault.{MakeFault}
use Rattle.end_settings.specs.declared.key.EndKey.{EndKey}
use Rattle.end_settings.specs.declared.key.EndKey.TheVariants.{PerSource, ReplyTicks, Room, Window}
use Rattle.end_settings.specs.declared.row.Values.{Values}
use Rattle.end_settings.specs.Rows.{Fits, fitting, least_of, most_of}
use Rattle.c_ends.specs.declared.code.Code.{Code}
use Rattle.c_ends.specs.declared.code.Code.TheVariants as code
use Rattle.c_ends.specs.declared.parts.NodeParts.{NodeParts}
use Rattle.c_ends.specs.declared.parts.FileParts.{FileParts}
use Rattle.c_ends.specs.declared.parts.WordParts.{WordParts}
use Rattle.c_ends.specs.Parts.{first_of, node_fault, count_fault, type_fault, each_fault, compat_fault, files_fault, word_fault, block_fault, compat_of, make_code, specs_of}
use Rattle.c_ends.specs.Values.{given_or_first, reserved_fault, value_fault, values_of}

pub first_of-none : (fault : Option Code) (faults : List (Option Code)) → first_of (fault ∷ faults) ≡ None → (fault ≡ None) × (first_of faults ≡ None)
first_of-none None faults e = (refl, e)
first_of-none (Some answer) faults e = cc

-- a test that finds nothing failed
pub test-none : (test : Bool) (answer : Code) → cond test (Some answer) None ≡ None → test ≡ false
test-none true answer e = cc
test-none false answer e = refl

pub map-none : (fault : Option MakeFault) → option_map make_code fault ≡ None → fault ≡ None
map-none None e = refl
map-none (Some fault) e = cc

pub fits-none : (fits : Bool) (answer : Code) → cond fits None (Some answer) ≡ None → fits ≡ true
fits-none true answer e = refl
fits-none false answer e = cc

-- a number that is told by no code is one of these values
fits-if : (values : Values) (n : ℕ) (test : Bool) → (nat_le (least_of values) n && nat_le n (most_of values)) ≡ test → is_some (cond test (Some n) None) ≡ true → Fits values n
fits-if values n true e some = (grind (arith, nat_tests), grind (arith, nat_tests))
fits-if values n false e some = cc

pub value-fits : (key : EndKey) (answer : Code) (n : ℕ) → value_fault key answer n ≡ None → Fits (values_of key) n
value-fits key answer n e =
    fits-if (values_of key) n (nat_le (least_of (values_of key)) n && nat_le n (most_of (values_of key))) refl (fits-none (is_some (fitting (values_of key) (Some n))) answer e)

pub at_most : (n high : ℕ) → nat_lt high n ≡ false → n ≤ high
at_most n high e = grind arith

pub record InRange (node : NodeParts) (files : List FileParts) (block : List ℕ) : Type 0 where
  pub reply_ticks : 1 ≤ node.reply_ticks
  pub room : (2 ≤ node.room) × (node.room ≤ 64)
  pub window : (1 ≤ given_or_first Window node.window) × (given_or_first Window node.window ≤ 16)
  pub per_source : (1 ≤ given_or_first PerSource node.per_source) × (given_or_first PerSource node.per_source ≤ 16)
  pub sound : faults (specs_of files) ≡ None
  pub compat : fits_compat (specs_of files) (compat_of node) ≡ true
  pub short : length block ≤ 244

pub in_range : (node : NodeParts) (files : List FileParts) (words : List WordParts) (block : List ℕ)
    → node_fault node files words block ≡ None → InRange node files block
in_range node files words block e =
    let after_words : List (Option Code) = block_fault block ∷ [] in
    let after_compat : List (Option Code) = word_fault files words ∷ after_words in
    let after_each : List (Option Code) = compat_fault node files ∷ after_compat in
    let after_types : List (Option Code) = each_fault files ∷ after_each in
    let after_count : List (Option Code) = type_fault files ∷ after_types in
    let after_reserved : List (Option Code) = files_fault node files words block ∷ [] in
    let after_source : List (Option Code) = reserved_fault node.reserved ∷ after_reserved in
    let after_window : List (Option Code) = value_fault PerSource code.BadPerSource (given_or_first PerSource node.per_source) ∷ after_source in
    let after_room : List (Option Code) = value_fault Window code.BadWindow (given_or_first Window node.window) ∷ after_window in
    let after_ticks : List (Option Code) = value_fault Room code.BadRoom node.room ∷ after_room in
    let ticks = first_of-none (value_fault ReplyTicks code.BadReplyTicks node.reply_ticks) after_ticks e in
    let room = first_of-none (value_fault Room code.BadRoom node.room) after_room ticks.1 in
    let window = first_of-none (value_fault Window code.BadWindow (given_or_first Window node.window)) after_window room.1 in
    let source = first_of-none (value_fault PerSource code.BadPerSource (given_or_first PerSource node.per_source)) after_source window.1 in
    let reserved = first_of-none (reserved_fault node.reserved) after_reserved source.1 in
    let all = first_of-none (files_fault node files words block) [] reserved.1 in
    let count = first_of-none (count_fault files) after_count all.0 in
    let types = first_of-none (type_fault files) after_types count.1 in
    let each = first_of-none (each_fault files) after_each types.1 in
    let compat = first_of-none (compat_fault node files) after_compat each.1 in
    let known = first_of-none (word_fault files words) after_words compat.1 in
    let short = first_of-none (block_fault block) [] known.1 in
    record {
      reply_ticks = (value-fits ReplyTicks code.BadReplyTicks node.reply_ticks ticks.0).0;
      room = value-fits Room code.BadRoom node.room room.0;
      window = value-fits Window code.BadWindow (given_or_first Window node.window) window.0;
      per_source = value-fits PerSource code.BadPerSource (given_or_first PerSource node.per_source) source.0;
      sound = map-none (faults (specs_of files)) each.0;
      compat = fits-none (fits_compat (specs_of files) (compat_of node)) code.BadCompat compat.0;
      short = at_most (length block) 244 (test-none (nat_lt 244 (length block)) code.LongBlock short.0);
    }
