use Rattle.std.proofs.Common.{◌≡◌, ◌+◌, ◌*◌, ◌++◌, take}
use Rattle.std.specs.List.{flat_map}
use Rattle.arrayvec.specs.ArrayVec.{array_vec_len}
use Rattle.replay_report.proofs.Pairs.{pair_of}
use Rattle.df1_service.proofs.outcomes.append_hex.Given as goal

abbrev pub invariant-loop-byte : goal.invariant-loop-byte
invariant-loop-byte l = record {
  text : l.line.items ≡ l.fn.line.items ++ flat_map pair_of (take l.byte-index l.bytes);
  size : array_vec_len l.line ≡ array_vec_len l.fn.line + 2 * l.byte-index;
}
