use Rattle.duplex_end.specs.End.{new_end}
use Rattle.duplex_end.proofs.Responses.{last-is}
use Rattle.duplex_end.proofs.laws.last_response_is_by_the_acts.Goals as goal

pub returns-clause-start : goal.returns-clause-start
returns-clause-start g c = λ setup host signals. last-is g.H.Host (new_end setup host) signals

pub returns-clause-goes_on : goal.returns-clause-goes_on
returns-clause-goes_on g c = last-is g.H.Host
