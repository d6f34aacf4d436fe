-- A reader that has taken no byte.
use Rattle.df1_dissect.proofs.Sides.{stands-none}
use Rattle.df1_dissect.proofs.reader.Reader.new.Goals as goal

pub returns-clause-stands : goal.returns-clause-stands
returns-clause-stands c = rw c.new.ensures (stands-none c.args.side c.args.check)
