-- What holds at each point of an undisturbed run, from where on it is looked at: what is awaited, the dealings with all stations, and that no end was deceived.
use Rattle.std.proofs.Common.{◌≡◌, ℕ, List}
use Rattle.half_master.specs.Master.{MasterState}
use Rattle.df1_node.specs.Node.{NodeState}
use Rattle.replay_report.specs.declared.record.Line.{Line}
use Rattle.half_line.specs.Acts.{LineStationState, HalfState}
use Rattle.half_line.proofs.Complete.Ledger.{Ledger}
use Rattle.half_line.proofs.Complete.Origin.{Origin}
use Rattle.half_line.proofs.Complete.Stages.{Now, Stage}

-- of a master and its stations, where so many ticks were late
pub record Course (origin : Origin) (m : MasterState NodeState) (stations : List LineStationState) (late : ℕ) (lines : List Line) : Type 0 where
  pub now : Now
  pub stage : Stage late m stations now
  pub ledger : Ledger origin m.host.initiator m.stations stations lines now m.next

-- the whole line
pub record Flow (origin : Origin) (s : HalfState NodeState) (late : ℕ) (lines : List Line) : Type 0 where
  pub course : Course origin s.master s.stations late lines
  pub check : s.master.setup.check ≡ s.master.ear.check
  pub honest : s.deceived ≡ 0
