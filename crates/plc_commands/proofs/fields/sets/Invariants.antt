use Rattle.std.proofs.Common.{◌≡◌, ◌≤◌, length, ◌+◌, ◌*◌}
use Rattle.plc_commands.specs.Fields.{sets, sets_within}
use Rattle.plc_commands.proofs.SetLists.{after}
use Rattle.plc_commands.proofs.fields.sets.Given as goal

abbrev pub invariant-loop-rest : goal.invariant-loop-rest
invariant-loop-rest l = record {
  so_far : after l.sets (sets_within (length l.rest) l.rest) ≡ sets l.bytes;
  room : 7 * length l.sets + length l.rest ≤ length l.bytes;
}

abbrev pub decreases-loop-rest : goal.decreases-loop-rest
decreases-loop-rest l = length l.rest
