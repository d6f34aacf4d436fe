-- The messages of each station over a list of signals: the keys that are kept, what is offered, and what the host was handed.
use Rattle.std.specs.Prelude.{ℕ, Bool, false, List, [], ◌∷◌, ◌++◌, Option, Some, None, slice_get, slice_index, ◌==◌, ◌&&◌, if◌then◌else◌}
use Rattle.std.specs.Option.{option_and_then}
use Rattle.df1_base.specs.declared.host.Host.{Ghosts}
use Rattle.df1_base.specs.declared.host.Did.{Did}
use Rattle.pccc_envelope.specs.declared.key.Key.{Key}
use Rattle.pccc_envelope.specs.Accepted.{Offer}
use Rattle.half_mouth.specs.Giving.{is_done}
use Rattle.half_master.specs.declared.stations.Station.{Station}
use Rattle.half_master.specs.declared.table.Phase.{Phase}
use Rattle.half_master.specs.declared.table.Phase.TheVariants as phase
use Rattle.half_master.specs.Master.{MasterState, body_of, with_byte, heard_at, is_good, step_at_byte}
use Rattle.half_master.specs.Emission.{Letter, Byte, Tick, Take, master_after}

-- the key that is kept for the station at a place, if there is such a station and a key is kept
abbrev pub kept_at : List Station → ℕ → Option Key
kept_at stations place = option_and_then {T = Station} (λ station. station.kept) (slice_get stations place)

-- the station at this place was polled, and its answer is waited for
abbrev pub is_polled : Phase → ℕ → Bool
is_polled phase.Idle place = false
is_polled (phase.WaitsForAck left resent) place = false
is_polled (phase.WaitsAfterPoll left at) place = at == place

-- the body is from the station at this place
abbrev pub is_from : Option Station → List ℕ → Bool
is_from None body = false
is_from (Some station) body = slice_index body 1 == station.number

-- a message is offered by the station at this place: it is heard whole after the poll of that station, and is from it
abbrev pub is_offered : {H : Type 0} → MasterState H → ℕ → ℕ → Bool
is_offered e b place =
    is_done e.mouth && is_polled e.phase place && is_good (heard_at e b) && is_from (slice_get e.stations place) (body_of (with_byte e b))

-- what the station at this place offers at a signal
abbrev pub offers_at : {H : Type 0} → Ghosts H → MasterState H → ℕ → Letter → List Offer
offers_at m e place (Byte b) =
    let body = body_of (with_byte e b) in
    if is_offered e b place then record { body = body; has_room = m.room_for e.host body } ∷ [] else []
offers_at m e place Tick = []
offers_at m e place Take = []

-- what it offers over these signals, in order
abbrev pub offers : {H : Type 0} → Ghosts H → MasterState H → ℕ → List Letter → List Offer
offers m e place [] = []
offers m e place (signal ∷ signals) = offers_at m e place signal ++ offers m (master_after m e signal) place signals

-- the body that the host took, where it did something with one
abbrev pub body_taken : Option Did → List ℕ → List (List ℕ)
body_taken None body = []
body_taken (Some did) body = body ∷ []

-- what the host is handed of the station at this place at a signal
abbrev pub handed_at : {H : Type 0} → Ghosts H → MasterState H → ℕ → Letter → List (List ℕ)
handed_at m e place (Byte b) = if is_polled e.phase place then body_taken (step_at_byte m e b).did (body_of (with_byte e b)) else []
handed_at m e place Tick = []
handed_at m e place Take = []

-- what it was handed of that station over these signals, in order
abbrev pub handed_over : {H : Type 0} → Ghosts H → MasterState H → ℕ → List Letter → List (List ℕ)
handed_over m e place [] = []
handed_over m e place (signal ∷ signals) = handed_at m e place signal ++ handed_over m (master_after m e signal) place signals
