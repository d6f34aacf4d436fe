-- The messages that a master's host hands out, how often each is given again, and their fates, over a list of signals.
use Rattle.std.specs.Prelude.{◌<◌, ◌≤◌, ℕ, ◌+◌, List, [], ◌∷◌, ◌++◌, Option, Some, None, slice_index, if◌then◌else◌}
use Rattle.df1_base.specs.declared.host.Host.{Ghosts}
use Rattle.df1_base.specs.declared.host.Fate.{Fate}
use Rattle.df1_base.specs.declared.host.Fate.TheVariants as fate
use Rattle.half_master.specs.declared.table.Phase.{Phase}
use Rattle.half_master.specs.declared.table.Phase.TheVariants as phase
use Rattle.half_master.specs.declared.table.Effect.{Effect}
use Rattle.half_master.specs.declared.table.Effect.TheVariants as effect
use Rattle.half_master.specs.Stations.{is_listed}
use Rattle.half_master.specs.Master.{MasterState, effect_of_byte, effect_at_tick, message_next}
use Rattle.half_master.specs.Emission.{Letter, Byte, Tick, Take, master_after}

-- a message is handed out and given; it is given again; its fate is told; or one for no station is handed out and told as undelivered
pub data Event : Type 0 where
  HandedOut : (body : List ℕ) → Event
  GivenAgain : Event
  Told : (fate : Fate) → Event
  ForNoStation : (body : List ℕ) → Event

-- what an effect does to the message that is out
abbrev pub events_of : Effect → List Event
events_of (effect.Again resent) = GivenAgain ∷ []
events_of effect.Delivered = Told fate.Delivered ∷ []
events_of effect.GivenUp = Told fate.Undelivered ∷ []
events_of _ = []

-- a new message at a take
abbrev pub handed_out : {H : Type 0} → MasterState H → Option (List ℕ) → List Event
handed_out e None = []
handed_out e (Some body) = if is_listed e.stations (slice_index body 0) then HandedOut body ∷ [] else ForNoStation body ∷ []

-- what happens to the host's messages at a signal
abbrev pub events_at : {H : Type 0} → Ghosts H → MasterState H → Letter → List Event
events_at m e (Byte b) = events_of (effect_of_byte m e b)
events_at m e Tick = events_of (effect_at_tick m e)
events_at m e Take = handed_out e (message_next m e)

-- what happens to them over these signals, in order
abbrev pub events : {H : Type 0} → Ghosts H → MasterState H → List Letter → List Event
events m e [] = []
events m e (signal ∷ signals) = events_at m e signal ++ events m (master_after m e signal) signals

-- each message is handed out where none is out. It is given again at most so many times, and is out until its fate is told, once: undelivered exactly after all these times
pub data InTurn (most : ℕ) : Option ℕ → List Event → Type 0 where
  ends : (out : Option ℕ) → InTurn most out []
  hands_out : (body : List ℕ) (later : List Event) → InTurn most (Some 0) later → InTurn most None (HandedOut body ∷ later)
  gives_again : (resent : ℕ) (later : List Event) → resent < most → InTurn most (Some (resent + 1)) later → InTurn most (Some resent) (GivenAgain ∷ later)
  delivers : (resent : ℕ) (later : List Event) → InTurn most None later → InTurn most (Some resent) (Told fate.Delivered ∷ later)
  gives_up : (later : List Event) → InTurn most None later → InTurn most (Some most) (Told fate.Undelivered ∷ later)
  passes_over : (body : List ℕ) (later : List Event) → InTurn most None later → InTurn most None (ForNoStation body ∷ later)

-- how often the message that is out was given again, if one is out
abbrev pub out_of : Phase → Option ℕ
out_of phase.Idle = None
out_of (phase.WaitsForAck left resent) = Some resent
out_of (phase.WaitsAfterPoll left place) = None

-- it was given again at most so many times
abbrev pub IsWithin : ℕ → Phase → Type 0
IsWithin most phase.Idle = Unit {0}
IsWithin most (phase.WaitsForAck left resent) = resent ≤ most
IsWithin most (phase.WaitsAfterPoll left place) = Unit {0}
