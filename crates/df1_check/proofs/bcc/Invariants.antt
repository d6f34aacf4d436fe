use Rattle.std.proofs.Common.{◌≡◌, take}
use Rattle.df1_check.specs.Checks.{bcc}
use Rattle.df1_check.proofs.bcc.Given as goal

abbrev pub invariant-loop-b : goal.invariant-loop-b
invariant-loop-b l = l.check ≡ bcc (take l.b-index l.bytes)
