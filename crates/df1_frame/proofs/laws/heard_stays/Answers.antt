use Rattle.df1_frame.specs.Grammar.{full_duplex}
use Rattle.df1_frame.proofs.LineLemmas.{answered-on}
use Rattle.df1_frame.proofs.GrammarLemmas.{machine, works}
use Rattle.df1_frame.proofs.laws.heard_stays.Goals as goal

pub returns : goal.returns
returns c = λ N bytes more so_far r. answered-on (full_duplex c.args.check N) (machine c.args.check N) (works c.args.check N) more bytes so_far r
