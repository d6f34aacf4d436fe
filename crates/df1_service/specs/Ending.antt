-- How a service ends, by how the serving of its end ended.
use Rattle.std.specs.Prelude.{ℕ, ◌==◌, if◌then◌else◌, Result, Ok, Err}
use Rattle.df1_node.specs.Node.{NodeState}
use Rattle.duplex_end.specs.End.{EndState}
use Rattle.duplex_end.specs.declared.serving.Served.{Served}
use Rattle.duplex_end.specs.declared.serving.Served.TheVariants as served
use Rattle.df1_service.specs.declared.fault.ServiceFault.{ServiceFault}
use Rattle.df1_service.specs.declared.fault.ServiceFault.TheVariants as fault

-- a record that is refused is cut where a single byte of it was held
abbrev pub ended_of : Served → EndState NodeState → ℕ → Result (EndState NodeState) ServiceFault
ended_of served.Ended end held = Ok end
ended_of served.InFailed end held = Err fault.Input
ended_of served.OutFailed end held = Err fault.Output
ended_of (served.Bad at) end held = Err (if held == 1 then fault.Cut at else fault.Form at)
ended_of served.Long end held = Err fault.TooLong
