use Rattle.run_laws.proofs.LateWitness.{all_lost-gives-up, all_lost_to_a_station-gives-up}
use Rattle.run_laws.proofs.late.a_command_is_over.Goals as goal

pub returns-clause-full_duplex : goal.returns-clause-full_duplex
returns-clause-full_duplex c = all_lost-gives-up

pub returns-clause-half_duplex : goal.returns-clause-half_duplex
returns-clause-half_duplex c = all_lost_to_a_station-gives-up
