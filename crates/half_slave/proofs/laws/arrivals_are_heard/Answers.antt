use Rattle.half_slave.proofs.Arriving.{stands-new, stands-signal, byte-hears, byte-tells, heard-none, heard-more}
use Rattle.half_slave.proofs.laws.arrivals_are_heard.Goals as goal

pub returns-clause-none : goal.returns-clause-none
returns-clause-none g c = heard-none

pub returns-clause-more : goal.returns-clause-more
returns-clause-more g c = λ check arrivals s b stands so_far. heard-more check arrivals _ so_far (byte-tells g.H.Host s b check _ stands)

pub returns-clause-hears : goal.returns-clause-hears
returns-clause-hears g c = λ check bytes s b stands. byte-hears s b check bytes stands

pub returns-clause-start : goal.returns-clause-start
returns-clause-start g c = stands-new

pub returns-clause-goes_on : goal.returns-clause-goes_on
returns-clause-goes_on g c = stands-signal g.H.Host

pub returns-clause-changes : goal.returns-clause-changes
returns-clause-changes g c = λ check bytes s host stands. stands
