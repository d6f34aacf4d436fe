-- The lines of the bytes so far, and the line in the array.
use Rattle.std.proofs.Common.{◌≡◌, ◌≤◌, ◌+◌, ◌*◌, ◌/◌, ◌%◌, ◌++◌, take}
use Rattle.std.specs.Prelude.{decimal}
use Rattle.arrayvec.specs.ArrayVec.{array_vec_len}
use Rattle.df1_dissect.specs.Dissection.{stray_lines}
use Rattle.df1_dissect.proofs.StrayLine.{IsStray}
use Rattle.df1_dissect.proofs.line.append_strays.Given as goal

abbrev pub invariant-loop-byte : goal.invariant-loop-byte
invariant-loop-byte g l = record {
  text : l.text.items ≡ l.initial.text.items ++ stray_lines l.at (take l.byte-index l.bytes);
  one : l.one ≡ 48 + l.at % 10 + l.byte-index;
  line : IsStray l.line l.start (decimal (l.at / 10));
  size : array_vec_len l.text ≤ array_vec_len l.initial.text + 29 * l.byte-index;
}
