-- The masters that signals reach, from new ones over hosts that hold bodies, also where the host is changed.
use Rattle.std.specs.Prelude.{ℕ, List}
use Rattle.df1_base.specs.declared.host.Host.{Ghosts}
use Rattle.half_master.specs.declared.MasterSetup.{MasterSetup}
use Rattle.half_master.specs.Stations.{AreStations}
use Rattle.half_master.specs.Master.{MasterState, new_master, with_host}
use Rattle.half_master.specs.Emission.{Letter, master_after}

-- a new master, and a master after a signal or a change of its host
pub data Reached {H : Type 0} (m : Ghosts H) : MasterState H → Type 0 where
  begins : (setup : MasterSetup) (numbers : List ℕ) (host : H) → AreStations numbers → m.holds_bodies host → Reached m (new_master setup numbers host)
  goes_on : (e : MasterState H) (signal : Letter) → Reached m e → Reached m (master_after m e signal)
  changes : (e : MasterState H) (host : H) → m.holds_bodies host → Reached m e → Reached m (with_host e host)
