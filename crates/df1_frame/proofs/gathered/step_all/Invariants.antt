use Rattle.std.proofs.Common.{◌≡◌, take}
use Rattle.std.specs.List.{fold}
use Rattle.df1_check.specs.Checks.{take_byte}
use Rattle.df1_frame.proofs.gathered.step_all.Given as goal

abbrev pub invariant-loop-b : goal.invariant-loop-b
invariant-loop-b l = l.running ≡ fold take_byte l.fn.running (take l.b-index l.bytes)
