use Rattle.half_master.proofs.EarLemmas.{stands-new, stands-signal, byte-hears, whole-byte, heard-none, heard-more}
use Rattle.half_master.proofs.laws.arrivals_are_heard.Goals as goal

pub returns-clause-none : goal.returns-clause-none
returns-clause-none g c = heard-none

pub returns-clause-more : goal.returns-clause-more
returns-clause-more g c = λ check arrivals e b stands so_far. heard-more check arrivals _ so_far (whole-byte g.H.Host e b check _ stands)

pub returns-clause-hears : goal.returns-clause-hears
returns-clause-hears g c = λ check bytes e b stands. byte-hears e b check bytes stands

pub returns-clause-start : goal.returns-clause-start
returns-clause-start g c = stands-new

pub returns-clause-goes_on : goal.returns-clause-goes_on
returns-clause-goes_on g c = stands-signal g.H.Host

pub returns-clause-changes : goal.returns-clause-changes
returns-clause-changes g c = λ check bytes e host stands. stands
