-- How the parts of an end hang together, and how many bytes it has to give.
use Rattle.std.specs.Prelude.{◌≡◌, ◌≤◌, ◌+◌, ℕ, true, false, List, [], ◌∷◌, length, None, is_some, if◌then◌else◌}
use Rattle.std.specs.Option.{ForSome}
use Rattle.df1_base.specs.declared.host.Host.{Ghosts}
use Rattle.df1_frame.specs.declared.framer.Unit.{Unit as Given}
use Rattle.df1_frame.specs.Units.{bytes_of}
use Rattle.duplex_sender.specs.declared.Phase.TheVariants as phase
use Rattle.duplex_sender.specs.Sender.{SenderState, phase_of}
use Rattle.embedded_response.specs.Giving.{Giving, is_begun, bytes_left}
use Rattle.duplex_end.specs.End.{EndState}

-- the last of the units, and no other, is marked as a frame's last, and it is one byte
abbrev pub LastEnds : List Given → Type 0
LastEnds [] = Unit {0}
LastEnds (unit ∷ []) = (unit.last ≡ true) × (unit.second ≡ None)
LastEnds (unit ∷ next ∷ more) = (unit.last ≡ false) × LastEnds (next ∷ more)

-- what is to be given, beside the sender: a pair's second byte ends no transmission; a frame that is begun ends with its last byte, and is the sender's
pub record Joined (g : Giving) (s : SenderState) : Type 0 where
  pub second_is_plain : ForSome g.second (λ out. out.last_of ≡ None)
  pub last_ends : LastEnds g.left
  pub sends : is_begun g ≡ true → phase_of s ≡ phase.Sending

-- what is left of a frame has at most 506 bytes
abbrev pub IsShort : Giving → Type 0
IsShort g = length (bytes_of g.left) ≤ 506

-- at most so many bytes of a frame that isn't begun: one of a sender that sends, or of a host that is ready
abbrev pub frame_to_come : {H : Type 0} → Ghosts H → EndState H → ℕ
frame_to_come m e = if is_begun e.mouth then 0 else elim (phase_of e.sender) [ phase.Idle ↦ if is_some (m.next_body e.host) then 506 else 0 | phase.Sending ↦ 506 | phase.Waiting ↦ 0 ]

-- at most so many bytes are given by takes alone
abbrev pub most_left : {H : Type 0} → Ghosts H → EndState H → ℕ
most_left m e = bytes_left e.mouth + frame_to_come m e
