-- The messages that an end's host hands out, and their fates, over a list of signals.
use Rattle.std.specs.Prelude.{ℕ, Bool, true, false, List, [], ◌∷◌, ◌++◌, Option, Some, None}
use Rattle.df1_base.specs.declared.host.Host.{Ghosts}
use Rattle.df1_base.specs.declared.host.Fate.{Fate}
use Rattle.duplex_sender.specs.declared.Phase.TheVariants as phase
use Rattle.duplex_sender.specs.Sender.{SenderState, phase_of, tick_turn}
use Rattle.duplex_end.specs.End.{EndState, Place, OfMouth, FrameAgain, FrameOfNew, next_place, act_of_byte, fate_at, fate_of_tick}
use Rattle.duplex_end.specs.Emission.{Letter, Byte, Tick, Take, end_after}

-- a message is handed out, or the fate of one is told
pub data Event : Type 0 where
  HandedOut : (body : List ℕ) → Event
  Told : (fate : Fate) → Event

abbrev pub told : Option Fate → List Event
told None = []
told (Some fate) = Told fate ∷ []

-- a new message is handed out where its frame is next
abbrev pub handed_out : Option Place → List Event
handed_out None = []
handed_out (Some (OfMouth choice)) = []
handed_out (Some (FrameAgain body)) = []
handed_out (Some (FrameOfNew body)) = HandedOut body ∷ []

-- what happens to the host's messages at a signal
abbrev pub events_at : {H : Type 0} → Ghosts H → EndState H → Letter → List Event
events_at m e (Byte b) = told (fate_at (act_of_byte m e b) e.sender)
events_at m e Tick = told (fate_of_tick (tick_turn e.sender))
events_at m e Take = handed_out (next_place m e)

-- what happens to them over these signals, in order
abbrev pub events : {H : Type 0} → Ghosts H → EndState H → List Letter → List Event
events m e [] = []
events m e (signal ∷ signals) = events_at m e signal ++ events m (end_after m e signal) signals

-- each message is handed out where none is out, and is out until its fate is told, once
pub data InTurn : Bool → List Event → Type 0 where
  ends : (is_out : Bool) → InTurn is_out []
  hands_out : (body : List ℕ) (later : List Event) → InTurn true later → InTurn false (HandedOut body ∷ later)
  tells : (fate : Fate) (later : List Event) → InTurn false later → InTurn true (Told fate ∷ later)

-- the sender has a message
abbrev pub has_message : SenderState → Bool
has_message s = elim (phase_of s) [ phase.Idle ↦ false | phase.Sending ↦ true | phase.Waiting ↦ true ]
