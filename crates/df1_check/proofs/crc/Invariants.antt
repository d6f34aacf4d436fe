use Rattle.std.proofs.Common.{◌≡◌, take}
use Rattle.df1_check.specs.Checks.{crc}
use Rattle.df1_check.proofs.crc.Given as goal

abbrev pub invariant-loop-b : goal.invariant-loop-b
invariant-loop-b l = l.register ≡ crc (take l.b-index l.bytes)
