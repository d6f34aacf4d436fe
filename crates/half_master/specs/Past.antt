-- What came before at a master: what happened to its host's messages, what it gave, and how its message stands by the signals.
use Rattle.std.specs.Prelude.{◌≤◌, ℕ, List, [], ◌∷◌, ◌++◌}
use Rattle.std.specs.List.{fold, flat_map}
use Rattle.df1_base.specs.declared.host.Host.{Ghosts}
use Rattle.df1_base.specs.declared.link.Out.{Out}
use Rattle.half_mouth.specs.Transmissions.{with_again}
use Rattle.half_master.specs.declared.MasterSetup.{MasterSetup}
use Rattle.half_master.specs.Stations.{AreStations}
use Rattle.half_master.specs.Master.{MasterState, new_master, with_host}
use Rattle.half_master.specs.Emission.{Letter, master_after, given_at}
use Rattle.half_master.specs.Fates.{Event, HandedOut, GivenAgain, Told, ForNoStation, events_at}
use Rattle.half_master.specs.Course.{Course, no_course, course_at}

-- what happened to the host's messages, and the bytes that were given, in order; and the course of the message
pub record Past : Type 0 where
  pub events : List Event
  pub gave : List Out
  pub course : Course

abbrev pub no_past : Past
no_past = record { events = []; gave = []; course = no_course }

-- with a signal more
abbrev pub with_signal : {H : Type 0} → Ghosts H → Past → MasterState H → Letter → Past
with_signal m past e signal = record { events = past.events ++ events_at m e signal; gave = past.gave ++ given_at m e signal; course = course_at m e signal past.course }

-- a master may be set up so: its waits have a tick at least
pub record HasTicks (setup : MasterSetup) : Type 0 where
  pub ack_ticks : 1 ≤ setup.ack_ticks
  pub poll_ticks : 1 ≤ setup.poll_ticks

-- a master and its past, from a new one over a host that holds bodies on; a change of the host adds nothing
pub data Came {H : Type 0} (m : Ghosts H) : Past → MasterState H → Type 0 where
  begins : (setup : MasterSetup) (numbers : List ℕ) (host : H) → HasTicks setup → AreStations numbers → m.holds_bodies host → Came m no_past (new_master setup numbers host)
  goes_on : (past : Past) (e : MasterState H) (signal : Letter) → Came m past e → Came m (with_signal m past e signal) (master_after m e signal)
  changes : (past : Past) (e : MasterState H) (host : H) → m.holds_bodies host → Came m past e → Came m past (with_host e host)

-- the messages to stations of the list that the host handed out
abbrev pub handed_at : Event → List (List ℕ)
handed_at (HandedOut body) = body ∷ []
handed_at GivenAgain = []
handed_at (Told fate) = []
handed_at (ForNoStation body) = []

abbrev pub handed_out : List Event → List (List ℕ)
handed_out events = flat_map handed_at events

-- the bodies of the transmissions, with one more where this begins one
abbrev pub with_event : List (List ℕ) → Event → List (List ℕ)
with_event bodies (HandedOut body) = bodies ++ body ∷ []
with_event bodies GivenAgain = with_again bodies
with_event bodies (Told fate) = bodies
with_event bodies (ForNoStation body) = bodies

-- the bodies of all transmissions, in the order in which these begin
abbrev pub transmissions : List Event → List (List ℕ)
transmissions events = fold with_event [] events
