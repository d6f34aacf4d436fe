-- The slaves that signals reach, from new ones over hosts that hold bodies, also where the host is changed.
use Rattle.std.specs.Prelude.{ℕ, ◌≤◌, List, Option, Some, None}
use Rattle.df1_base.specs.Host.{IsBody}
use Rattle.df1_base.specs.declared.host.Host.{Ghosts}
use Rattle.half_mouth.specs.Giving.{bytes_left}
use Rattle.half_slave.specs.declared.SlaveSetup.{SlaveSetup}
use Rattle.half_slave.specs.declared.held.Held.{Held}
use Rattle.half_slave.specs.Slave.{SlaveState, new_slave, with_host}
use Rattle.half_slave.specs.Emission.{Letter, slave_after}

-- a new slave, and a slave after a signal or a change of its host
pub data Reached {H : Type 0} (m : Ghosts H) : SlaveState H → Type 0 where
  begins : (setup : SlaveSetup) (host : H) → m.holds_bodies host → Reached m (new_slave setup host)
  goes_on : (s : SlaveState H) (signal : Letter) → Reached m s → Reached m (slave_after m s signal)
  changes : (s : SlaveState H) (host : H) → m.holds_bodies host → Reached m s → Reached m (with_host s host)

-- a message that is held has 6 to 250 bytes
abbrev pub HoldsBody : Option Held → List ℕ → Type 0
HoldsBody None body = Unit {0}
HoldsBody (Some message) body = IsBody body

-- what is being given is short, a message that is held is a body, and the host holds bodies
pub record Fits {H : Type 0} (m : Ghosts H) (s : SlaveState H) : Type 0 where
  pub is_short : bytes_left s.mouth ≤ 509
  pub held_fits : HoldsBody s.held s.sending
  pub host_holds : m.holds_bodies s.host
