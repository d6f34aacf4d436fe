-- What holds of each master, and how many bytes it has to give.
use Rattle.std.specs.Prelude.{◌≡◌, ◌<◌, ◌≤◌, ◌+◌, ℕ, Bool, true, List, length, slice_index, is_some, if◌then◌else◌}
use Rattle.df1_base.specs.declared.host.Host.{Ghosts}
use Rattle.df1_base.specs.Host.{IsBody}
use Rattle.half_mouth.specs.Giving.{Giving, is_done, bytes_left}
use Rattle.half_master.specs.declared.stations.Station.{Station}
use Rattle.half_master.specs.declared.table.Phase.{Phase}
use Rattle.half_master.specs.declared.table.Phase.TheVariants as phase
use Rattle.half_master.specs.declared.table.Effect.{Effect}
use Rattle.half_master.specs.declared.table.Effect.TheVariants as effect
use Rattle.half_master.specs.Stations.{IsNumber, AreStations, numbers_of}
use Rattle.half_master.specs.Master.{MasterState}

-- a message to a station
abbrev pub IsMessage : List ℕ → Type 0
IsMessage body = IsBody body × IsNumber (slice_index body 0)

-- by the phase: before an idle one at most an ACK is left to be given; a message that waits for its ACK is one to a station; and a station that was polled has a place in the list
abbrev pub PhaseFits : List Station → Giving → List ℕ → Phase → Type 0
PhaseFits stations mouth sending phase.Idle = bytes_left mouth ≤ 2
PhaseFits stations mouth sending (phase.WaitsForAck left resent) = IsMessage sending
PhaseFits stations mouth sending (phase.WaitsAfterPoll left place) = place < length stations

-- the numbers are those of a list, the station that is polled next has a place in it, if there is one, and the phase fits
pub record Fits (stations : List Station) (next : ℕ) (phase : Phase) (mouth : Giving) (sending : List ℕ) : Type 0 where
  pub are_stations : AreStations (numbers_of stations)
  pub next_in : 1 ≤ length stations → next < length stations
  pub phase_fits : PhaseFits stations mouth sending phase

-- what holds of a master where an effect comes about
abbrev pub Suits : List Station → Giving → List ℕ → List ℕ → Effect → Type 0
Suits stations mouth sending body effect.Nothing = Unit {0}
Suits stations mouth sending body (effect.Waits left) = Unit {0}
Suits stations mouth sending body effect.Delivered = is_done mouth ≡ true
Suits stations mouth sending body (effect.Again resent) = IsMessage sending
Suits stations mouth sending body effect.GivenUp = is_done mouth ≡ true
Suits stations mouth sending body effect.PollOver = is_done mouth ≡ true
Suits stations mouth sending body (effect.Accepted place) = (place < length stations) × IsBody body
Suits stations mouth sending body effect.Repeated = Unit {0}
Suits stations mouth sending body effect.Refused = Unit {0}
Suits stations mouth sending body effect.Damaged = Unit {0}
Suits stations mouth sending body effect.Polls = Unit {0}

-- at most so many bytes of a message that isn't begun: one of a host that is ready, before an idle phase
abbrev pub message_to_come : Bool → Phase → ℕ
message_to_come ready phase.Idle = if ready then 509 else 0
message_to_come ready (phase.WaitsForAck left resent) = 0
message_to_come ready (phase.WaitsAfterPoll left place) = 0

-- at most so many bytes are given by takes alone
abbrev pub most_left : {H : Type 0} → Ghosts H → MasterState H → ℕ
most_left m e = bytes_left e.mouth + message_to_come (is_some (m.next_body e.host)) e.phase
