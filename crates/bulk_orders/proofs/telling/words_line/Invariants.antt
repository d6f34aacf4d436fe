use Rattle.std.proofs.Common.{◌≡◌, ◌+◌, ◌*◌, ◌++◌, take, codes}
use Rattle.std.specs.List.{flat_map}
use Rattle.arrayvec.specs.ArrayVec.{array_vec_len}
use Rattle.replay_report.proofs.Pairs.{pair_of}
use Rattle.bulk_orders.proofs.telling.words_line.Given as goal

abbrev pub invariant-loop-byte : goal.invariant-loop-byte
invariant-loop-byte l = record {
  text : l.line.items ≡ codes "pulled " ++ flat_map pair_of (take l.byte-index l.words);
  size : array_vec_len l.line ≡ 7 + 2 * l.byte-index;
}
