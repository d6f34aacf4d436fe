use Rattle.half_slave.specs.Arrived as slave
use Rattle.half_slave.proofs.Arriving as ear
use Rattle.half_master.specs.Arrived as master
use Rattle.half_master.proofs.EarLemmas as master_ear
use Rattle.half_line.specs.Run.{start, last_state}
use Rattle.half_line.specs.Arrivals.{station_arrivals_in, master_arrivals_in}
use Rattle.half_line.proofs.Once.Hearing.{run-hears}
use Rattle.half_line.proofs.laws.all_is_heard_by_the_grammar.Goals as goal

pub returns-clause-at_stations : goal.returns-clause-at_stations
returns-clause-at_stations c script place side b is =
    ear.byte-hears side.slave b script.check (slave.bytes_arrived (station_arrivals_in place (start script) script.events)) ((run-hears script).stands place side is)

pub returns-clause-at_master : goal.returns-clause-at_master
returns-clause-at_master c script b =
    master_ear.byte-hears (last_state script).master b script.check (master.bytes_arrived (master_arrivals_in (start script) script.events)) (run-hears script).of_master.stands
