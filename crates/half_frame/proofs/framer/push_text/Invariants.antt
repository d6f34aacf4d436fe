use Rattle.std.proofs.Common.{◌≡◌, ◌≤◌, ◌+◌, ◌*◌, ℕ, List, ◌++◌, length, take}
use Rattle.std.specs.List.{flat_map}
use Rattle.df1_check.specs.Checks.{taken}
use Rattle.df1_frame.specs.Spelling.{pieces_of}
use Rattle.half_frame.specs.Spelling.{piece_sent}
use Rattle.half_frame.proofs.framer.push_text.Given as goal

abbrev pub invariant-loop-b : goal.invariant-loop-b
invariant-loop-b l = record {
  items : l.bytes.items ≡ l.initial.bytes.items ++ flat_map piece_sent (pieces_of (take l.b-index l.body));
  taken : (head : List ℕ) → l.initial.running ≡ taken l.check head → l.running ≡ taken l.check (head ++ take l.b-index l.body);
  room : length l.bytes.items ≤ 5 + 2 * l.b-index;
}
