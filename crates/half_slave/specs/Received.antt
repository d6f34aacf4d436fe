-- The messages to a slave's station over a list of signals, and those that its host was handed.
use Rattle.std.specs.Prelude.{ℕ, List, [], ◌∷◌, ◌++◌, Option, Some, if◌then◌else◌}
use Rattle.df1_base.specs.declared.host.Host.{Ghosts}
use Rattle.half_frame.specs.declared.heard.SlaveHeard.{SlaveHeard}
use Rattle.half_frame.specs.declared.heard.SlaveHeard.TheVariants as heard
use Rattle.df1_base.specs.declared.link.Act.{Act}
use Rattle.df1_base.specs.declared.link.Act.TheVariants as act
use Rattle.pccc_envelope.specs.Accepted.{Offer}
use Rattle.half_slave.specs.Slave.{SlaveState, body_of, is_own, heard_at, listened, act_at, slave_after_byte, slave_after_take}
use Rattle.half_slave.specs.Emission.{Letter, Byte, Take}

-- a whole message to this station, with the room that the host has for it
abbrev pub offer_at : {H : Type 0} → Ghosts H → SlaveState H → Option SlaveHeard → List Offer
offer_at m s (Some (heard.Addressed stn)) = if is_own s stn then record { body = body_of s; has_room = m.room_for s.host (body_of s) } ∷ [] else []
offer_at m s _ = []

-- the messages to this station, in order
abbrev pub offers : {H : Type 0} → Ghosts H → SlaveState H → List Letter → List Offer
offers m s [] = []
offers m s (Byte b ∷ signals) = offer_at m (listened s b) (heard_at s b) ++ offers m (slave_after_byte m s b) signals
offers m s (Take ∷ signals) = offers m (slave_after_take s) signals

-- the body is the host's where the act is Accept
abbrev pub handed : Act → List ℕ → List (List ℕ)
handed act.Accept body = body ∷ []
handed _ body = []

-- the bodies that the host was handed, in order
abbrev pub handed_over : {H : Type 0} → Ghosts H → SlaveState H → List Letter → List (List ℕ)
handed_over m s [] = []
handed_over m s (Byte b ∷ signals) = handed (act_at m (listened s b) (heard_at s b)) (body_of (listened s b)) ++ handed_over m (slave_after_byte m s b) signals
handed_over m s (Take ∷ signals) = handed_over m (slave_after_take s) signals
