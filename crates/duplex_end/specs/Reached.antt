-- The ends that signals reach, from new ones over hosts that hold bodies, also where the host is changed.
use Rattle.std.specs.Prelude.{◌≡◌, ◌≤◌, length, IfSome}
use Rattle.df1_base.specs.declared.host.Host.{Ghosts}
use Rattle.duplex_sender.specs.declared.Phase.TheVariants as phase
use Rattle.duplex_sender.specs.Sender.{phase_of, body_of}
use Rattle.duplex_end.specs.declared.Setup.{Setup}
use Rattle.duplex_end.specs.End.{EndState, new_end, with_host}
use Rattle.duplex_end.specs.Emission.{Letter, end_after}

-- a new end, and an end after a signal or a change of its host
pub data Reached {H : Type 0} (m : Ghosts H) : EndState H → Type 0 where
  begins : (setup : Setup) (host : H) → m.holds_bodies host → Reached m (new_end setup host)
  goes_on : (e : EndState H) (signal : Letter) → Reached m e → Reached m (end_after m e signal)
  changes : (e : EndState H) (host : H) → m.holds_bodies host → Reached m e → Reached m (with_host e host)

-- the message of the sender, and the one that an idle sender is given next, have at most 250 bytes
pub record BodiesFit {H : Type 0} (m : Ghosts H) (e : EndState H) : Type 0 where
  pub sender_fits : length (body_of e.sender) ≤ 250
  pub next_fits : phase_of e.sender ≡ phase.Idle → IfSome (m.next_body e.host) (λ body. length body ≤ 250)
