-- What came before at a slave: what happened to its host's messages, and what it gave.
use Rattle.std.specs.Prelude.{List, [], ◌∷◌, ◌++◌, ℕ}
use Rattle.std.specs.List.{fold, flat_map}
use Rattle.df1_base.specs.declared.host.Host.{Ghosts}
use Rattle.df1_base.specs.declared.link.Out.{Out}
use Rattle.half_mouth.specs.Transmissions.{with_again}
use Rattle.half_slave.specs.declared.SlaveSetup.{SlaveSetup}
use Rattle.half_slave.specs.Slave.{SlaveState, new_slave, with_host}
use Rattle.half_slave.specs.Emission.{Letter, slave_after, given_at}
use Rattle.half_slave.specs.Fates.{Event, HandedOut, SentAgain, Told, events_at}

-- what happened to the host's messages, and the bytes that were given, in order
pub record Past : Type 0 where
  pub events : List Event
  pub gave : List Out

abbrev pub no_past : Past
no_past = record { events = []; gave = [] }

-- with a signal more
abbrev pub with_signal : {H : Type 0} → Ghosts H → Past → SlaveState H → Letter → Past
with_signal m past s signal = record { events = past.events ++ events_at m s signal; gave = past.gave ++ given_at s signal }

-- a slave and its past, from a new one over a host that holds bodies on; a change of the host adds nothing
pub data Came {H : Type 0} (m : Ghosts H) : Past → SlaveState H → Type 0 where
  begins : (setup : SlaveSetup) (host : H) → m.holds_bodies host → Came m no_past (new_slave setup host)
  goes_on : (past : Past) (s : SlaveState H) (signal : Letter) → Came m past s → Came m (with_signal m past s signal) (slave_after m s signal)
  changes : (past : Past) (s : SlaveState H) (host : H) → m.holds_bodies host → Came m past s → Came m past (with_host s host)

-- the messages that the host handed out
abbrev pub handed_at : Event → List (List ℕ)
handed_at (HandedOut body) = body ∷ []
handed_at SentAgain = []
handed_at (Told fate) = []

abbrev pub handed_out : List Event → List (List ℕ)
handed_out events = flat_map handed_at events

-- the bodies of the transmissions, with one more where this begins one
abbrev pub with_event : List (List ℕ) → Event → List (List ℕ)
with_event bodies (HandedOut body) = bodies ++ body ∷ []
with_event bodies SentAgain = with_again bodies
with_event bodies (Told fate) = bodies

-- the bodies of all transmissions, in the order in which these begin
abbrev pub transmissions : List Event → List (List ℕ)
transmissions events = fold with_event [] events
