-- The digits of the bytes so far.
use Rattle.std.proofs.Common.{◌≡◌, ◌+◌, ◌*◌, ◌++◌, take}
use Rattle.arrayvec.specs.ArrayVec.{array_vec_len}
use Rattle.hex.specs.Hex.{encode_upper}
use Rattle.df1_dissect.proofs.line.append_hex.Given as goal

abbrev pub invariant-loop-byte : goal.invariant-loop-byte
invariant-loop-byte g l = record {
  text : l.text.items ≡ l.initial.text.items ++ encode_upper (take l.byte-index l.bytes);
  size : array_vec_len l.text ≡ array_vec_len l.initial.text + 2 * l.byte-index;
}
