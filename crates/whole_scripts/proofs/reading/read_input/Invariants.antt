use Rattle.std.proofs.Common.{◌≡◌, ◌-◌, ◌≤◌, length}
use Rattle.df1_base.specs.Outside.{Took}
use Rattle.whole_scripts.proofs.reading.read_input.Given as goal

-- the text is what was taken, and no read has failed
abbrev pub invariant-loop-piece : goal.invariant-loop-piece
invariant-loop-piece g l = record {
  took : Took (g.S.Source.left l.fn.input) (g.S.Source.left l.input) l.text;
  calm : g.S.Source.faults l.input ≡ g.S.Source.faults l.fn.input;
  few : length l.text ≤ 16781312;
}

abbrev pub decreases-loop-piece : goal.decreases-loop-piece
decreases-loop-piece g l = 16777217 - length l.text
