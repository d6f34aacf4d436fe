-- An end over signals and changes of its host: what it hears, gives and hands out.
use Rattle.std.specs.Prelude.{ℕ, List, [], ◌∷◌, ◌++◌, map}
use Rattle.df1_base.specs.declared.host.Host.{Ghosts}
use Rattle.df1_base.specs.declared.link.Out.{Out}
use Rattle.duplex_receiver.specs.Receiver.{Hearing}
use Rattle.duplex_end.specs.End.{EndState, with_host}
use Rattle.duplex_end.specs.Emission.{Letter, end_after, given_at, bytes_among, hearings}
use Rattle.duplex_end.specs.Fates.{Event, HandedOut, Told, events_at}

-- a signal comes, or the host is changed
pub data Move (H : Type 0) : Type 0 where
  Signal : (signal : Letter) → Move H
  Change : (host : H) → Move H

-- an end after a move
abbrev pub end_moved : {H : Type 0} → Ghosts H → EndState H → Move H → EndState H
end_moved m e (Signal signal) = end_after m e signal
end_moved m e (Change host) = with_host e host

-- an end after these moves
abbrev pub end_after_moves : {H : Type 0} → Ghosts H → EndState H → List (Move H) → EndState H
end_after_moves m e [] = e
end_after_moves m e (move ∷ moves) = end_after_moves m (end_moved m e move) moves

-- each host to which it is changed holds bodies
abbrev pub HoldBodies : {H : Type 0} → Ghosts H → List (Move H) → Type 0
HoldBodies m [] = Unit {0}
HoldBodies m (Signal signal ∷ moves) = HoldBodies m moves
HoldBodies m (Change host ∷ moves) = m.holds_bodies host × HoldBodies m moves

-- ---- what is heard

-- the bytes that come
abbrev pub bytes_come : {H : Type 0} → List (Move H) → List ℕ
bytes_come [] = []
bytes_come (Signal signal ∷ moves) = bytes_among (signal ∷ []) ++ bytes_come moves
bytes_come (Change host ∷ moves) = bytes_come moves

-- what is heard at each of these bytes
abbrev pub hearings_over : {H : Type 0} → Ghosts H → EndState H → List (Move H) → List Hearing
hearings_over m e [] = []
hearings_over m e (Signal signal ∷ moves) = hearings m e (signal ∷ []) ++ hearings_over m (end_after m e signal) moves
hearings_over m e (Change host ∷ moves) = hearings_over m (with_host e host) moves

-- ---- what is given

-- the bytes that are given at a signal
abbrev pub bytes_at : {H : Type 0} → Ghosts H → EndState H → Letter → List ℕ
bytes_at m e signal = map {A = Out} (λ out. out.byte) (given_at m e signal)

-- the bytes that are given, in order
abbrev pub bytes_given : {H : Type 0} → Ghosts H → EndState H → List (Move H) → List ℕ
bytes_given m e [] = []
bytes_given m e (Signal signal ∷ moves) = bytes_at m e signal ++ bytes_given m (end_after m e signal) moves
bytes_given m e (Change host ∷ moves) = bytes_given m (with_host e host) moves

-- the messages that are handed out among these events
abbrev pub messages_of : List Event → List (List ℕ)
messages_of [] = []
messages_of (HandedOut body ∷ events) = body ∷ messages_of events
messages_of (Told fate ∷ events) = messages_of events

-- the messages that the host hands out, in order
abbrev pub messages_over : {H : Type 0} → Ghosts H → EndState H → List (Move H) → List (List ℕ)
messages_over m e [] = []
messages_over m e (Signal signal ∷ moves) = messages_of (events_at m e signal) ++ messages_over m (end_after m e signal) moves
messages_over m e (Change host ∷ moves) = messages_over m (with_host e host) moves
