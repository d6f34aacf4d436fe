use Rattle.std.proofs.Common.{refl}
use Rattle.half_frame.specs.MasterGrammar.{Pair, master_hears, pair_answers}
use Rattle.half_frame.proofs.WholeItems.{heard-whole, heard-later}
use Rattle.half_frame.proofs.MasterLemmas.{machine, works}
use Rattle.half_frame.proofs.master_laws.pair_round_trip_at_the_master.Goals as goal

pub returns-clause-heard : goal.returns-clause-heard
returns-clause-heard c = λ N code before items s h2. heard-whole (master_hears c.args.check N) (machine c.args.check N) (works c.args.check N) before items (Pair code) (pair_answers code) s h2 refl

pub returns-clause-later : goal.returns-clause-later
returns-clause-later c = λ N code before more items s h2. heard-later (master_hears c.args.check N) (machine c.args.check N) (works c.args.check N) before more items (Pair code) (pair_answers code) s h2 refl
