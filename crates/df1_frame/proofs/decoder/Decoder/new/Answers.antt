use Rattle.df1_frame.specs.Grammar.{full_duplex}
use Rattle.df1_frame.proofs.LineLemmas.{stands-start}
use Rattle.df1_frame.proofs.GrammarLemmas.{machine, works}
use Rattle.df1_frame.proofs.decoder.Decoder.new.Goals as goal

pub returns-clause-stands : goal.returns-clause-stands
returns-clause-stands g c = let check = c.args.check in stands-start (full_duplex check g.row.N) (machine check g.row.N) (works check g.row.N)
