use Rattle.half_frame.specs.MasterGrammar.{master_hears}
use Rattle.df1_frame.proofs.LineLemmas.{stands-start}
use Rattle.half_frame.proofs.MasterLemmas.{machine, works}
use Rattle.half_frame.proofs.master_ear.MasterEar.new.Goals as goal

pub returns-clause-stands : goal.returns-clause-stands
returns-clause-stands g c = let check = c.args.check in stands-start (master_hears check g.row.N) (machine check g.row.N) (works check g.row.N)
