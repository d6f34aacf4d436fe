-- The line of one byte.
use Rattle.hex.specs.Hex.{encode_with}
use Rattle.replay_report.proofs.printing.put_byte.Goals as goal

pub returns-clause-missing : goal.returns-clause-missing
unfolding encode_with
returns-clause-missing g c = rw c.pair.ensures at c.write_all.ensures.missing
