use Rattle.half_frame.specs.SlaveGrammar.{slave_hears}
use Rattle.df1_frame.proofs.LineLemmas.{stands-start}
use Rattle.half_frame.proofs.SlaveLemmas.{machine, works}
use Rattle.half_frame.proofs.slave_ear.SlaveEar.new.Goals as goal

pub returns-clause-stands : goal.returns-clause-stands
returns-clause-stands g c = let check = c.args.check in stands-start (slave_hears check g.row.N) (machine check g.row.N) (works check g.row.N)
