-- The value in a handle's box: one that is not dropped by itself.
use denote.RattleType.{RattleType}
use Rattle.std.specs.contracts.mem.ManuallyDrop as lasting
use Rattle.c_ends.specs.contracts.held.Held as held

abbrev pub kept_row : RattleType
kept_row = lasting.the_row held.the_row

abbrev pub Kept : Type 0
Kept = kept_row.Denot
