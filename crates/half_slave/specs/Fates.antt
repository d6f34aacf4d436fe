-- The messages that a slave's host hands out, how often each is sent, and their fates, over a list of signals.
use Rattle.std.specs.Prelude.{ℕ, ◌+◌, ◌^◌, ◌<◌, ◌≤◌, ◌≡◌, IfSome, IsSome, Bool, true, List, [], ◌∷◌, ◌++◌, Option, Some, None, is_some, not, ◌&&◌, if◌then◌else◌}
use Rattle.std.specs.Option.{option_map}
use Rattle.df1_base.specs.declared.host.Host.{Ghosts}
use Rattle.df1_base.specs.declared.host.Fate.{Fate}
use Rattle.half_frame.specs.declared.heard.SlaveHeard.{SlaveHeard}
use Rattle.half_frame.specs.declared.heard.SlaveHeard.TheVariants as heard
use Rattle.half_mouth.specs.Giving.{Giving, is_done}
use Rattle.half_slave.specs.declared.held.Held.{Held}
use Rattle.half_slave.specs.Slave.{SlaveState, heard_at, listened, told, is_answered, fate_at, fate_at_poll}
use Rattle.half_slave.specs.Emission.{Letter, Byte, Take, slave_after}

-- a message is handed out, and its first sending begins; the message that is held is sent again; its fate is told
pub data Event : Type 0 where
  HandedOut : (body : List ℕ) → Event
  SentAgain : Event
  Told : (fate : Fate) → Event

-- a fate that is told, if there is one
abbrev pub telling : Option Fate → List Event
telling None = []
telling (Some fate) = Told fate ∷ []

-- a sending that a poll begins: of the message that is held, or of the host's next, if there is one
abbrev pub sending_begun : Option Held → Option (List ℕ) → List Event
sending_begun (Some message) next = SentAgain ∷ []
sending_begun None None = []
sending_begun None (Some body) = HandedOut body ∷ []

-- what happens to the host's messages at a poll that is answered
abbrev pub events_of_poll : {H : Type 0} → Ghosts H → SlaveState H → List Event
events_of_poll m s =
    let fate = fate_at_poll s.setup.max_sends s.held in
    let after = told m s fate in
    telling fate ++ sending_begun after.held (m.next_body after.host)

-- at what is heard
abbrev pub events_at_heard : {H : Type 0} → Ghosts H → SlaveState H → Option SlaveHeard → List Event
events_at_heard m s (Some (heard.Poll stn)) = if is_answered s stn then events_of_poll m s else []
events_at_heard m s what = telling (fate_at s what)

-- at a signal
abbrev pub events_at : {H : Type 0} → Ghosts H → SlaveState H → Letter → List Event
events_at m s (Byte b) = events_at_heard m (listened s b) (heard_at s b)
events_at m s Take = []

-- over these signals, in order
abbrev pub events : {H : Type 0} → Ghosts H → SlaveState H → List Letter → List Event
events m s [] = []
events m s (signal ∷ signals) = events_at m s signal ++ events m (slave_after m s signal) signals

-- each message is handed out where none is out, is sent at most so often, and is out until its fate is told, once; of one that is out, so many sendings have begun
pub data InTurn (most : ℕ) : Option ℕ → List Event → Type 0 where
  ends : (begun : Option ℕ) → InTurn most begun []
  hands_out : (body : List ℕ) (later : List Event) → InTurn most (Some 1) later → InTurn most None (HandedOut body ∷ later)
  sends_again : (begun : ℕ) (later : List Event) → begun < most → InTurn most (Some (begun + 1)) later → InTurn most (Some begun) (SentAgain ∷ later)
  tells : (begun : ℕ) (fate : Fate) (later : List Event) → InTurn most None later → InTurn most (Some begun) (Told fate ∷ later)

-- bytes of a transmission are left to be given
abbrev pub is_transmitting : Giving → Bool
is_transmitting g = is_some g.number && not (is_done g)

-- how many sendings of the message that is held have begun: those that came to their end, and one that is under way
abbrev pub begun_of : Bool → Held → ℕ
begun_of transmits message = message.sent + (if transmits then 1 else 0)

-- none where no message is held
abbrev pub sendings_begun : {H : Type 0} → SlaveState H → Option ℕ
sendings_begun s = option_map (begun_of (is_transmitting s.mouth)) s.held

-- the limit is a number of at least 1 that a u32 holds, and no more sendings have begun
pub record Counted {H : Type 0} (s : SlaveState H) : Type 0 where
  pub sends : 1 ≤ s.setup.max_sends
  pub fits : s.setup.max_sends < 2 ^ 32
  pub at_most : IfSome (sendings_begun s) (λ begun. begun ≤ s.setup.max_sends)

-- a message is held that was sent at least so often
abbrev pub WasSent : ℕ → Option Held → Type 0
WasSent most None = ⊥
WasSent most (Some message) = most ≤ message.sent

-- a message is given up at a poll that is answered, where it was sent so often as it may be, and at a reset
abbrev pub IsGivenUp : {H : Type 0} → SlaveState H → Option SlaveHeard → Type 0
IsGivenUp s (Some (heard.Poll stn)) = (is_answered s stn ≡ true) × WasSent s.setup.max_sends s.held
IsGivenUp s (Some heard.Reset) = IsSome s.held
IsGivenUp s _ = ⊥
