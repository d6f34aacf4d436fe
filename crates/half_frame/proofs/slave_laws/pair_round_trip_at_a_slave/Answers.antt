use Rattle.std.proofs.Common.{refl}
use Rattle.half_frame.specs.SlaveGrammar.{Pair, slave_hears, pair_answers}
use Rattle.half_frame.proofs.WholeItems.{heard-whole, heard-later}
use Rattle.half_frame.proofs.SlaveLemmas.{machine, works}
use Rattle.half_frame.proofs.slave_laws.pair_round_trip_at_a_slave.Goals as goal

pub returns-clause-heard : goal.returns-clause-heard
returns-clause-heard c = λ N code before items s h1 h5. heard-whole (slave_hears c.args.check N) (machine c.args.check N) (works c.args.check N) before items (Pair code) (pair_answers code) s (h1, h5) refl

pub returns-clause-later : goal.returns-clause-later
returns-clause-later c = λ N code before more items s h1 h5. heard-later (slave_hears c.args.check N) (machine c.args.check N) (works c.args.check N) before more items (Pair code) (pair_answers code) s (h1, h5) refl
