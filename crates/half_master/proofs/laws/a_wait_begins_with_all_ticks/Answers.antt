use Rattle.half_master.proofs.WaitLemmas.{reached-whole}
use Rattle.half_master.proofs.laws.a_wait_begins_with_all_ticks.Goals as goal

pub returns : goal.returns
returns g c = reached-whole g.H.Host
