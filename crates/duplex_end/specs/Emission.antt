-- What an end hears and gives over a list of signals.
use Rattle.std.specs.Prelude.{◌≡◌, ℕ, List, [], ◌∷◌, ◌++◌, Some, None, option_to_list, replicate}
use Rattle.df1_base.specs.declared.host.Host.{Ghosts}
use Rattle.df1_base.specs.declared.link.Act.{Act}
use Rattle.df1_base.specs.declared.link.Out.{Out}
use Rattle.duplex_receiver.specs.Receiver.{Hearing, hearing}
use Rattle.duplex_end.specs.End.{EndState, act_of_byte, end_after_byte, end_after_tick, end_after_take, out_at_take}

-- what comes to an end: a byte, a unit of time, or the wish for a byte
pub data Letter : Type 0 where
  Byte : (b : ℕ) → Letter
  Tick : Letter
  Take : Letter

-- an end after a signal
abbrev pub end_after : {H : Type 0} → Ghosts H → EndState H → Letter → EndState H
end_after m e (Byte b) = end_after_byte m e b
end_after m e Tick = end_after_tick m e
end_after m e Take = end_after_take m e

-- what is given at a signal: a byte at most, and that at a take
abbrev pub given_at : {H : Type 0} → Ghosts H → EndState H → Letter → List Out
given_at m e (Byte b) = []
given_at m e Tick = []
given_at m e Take = option_to_list (out_at_take m e)

-- an end after these signals
abbrev pub end_after_all : {H : Type 0} → Ghosts H → EndState H → List Letter → EndState H
end_after_all m e [] = e
end_after_all m e (signal ∷ signals) = end_after_all m (end_after m e signal) signals

-- what is given over these signals, in order
abbrev pub emission : {H : Type 0} → Ghosts H → EndState H → List Letter → List Out
emission m e [] = []
emission m e (signal ∷ signals) = given_at m e signal ++ emission m (end_after m e signal) signals

-- the bytes among these signals
abbrev pub bytes_among : List Letter → List ℕ
bytes_among [] = []
bytes_among (Byte b ∷ signals) = b ∷ bytes_among signals
bytes_among (Tick ∷ signals) = bytes_among signals
bytes_among (Take ∷ signals) = bytes_among signals

-- what is heard at each of these bytes
abbrev pub hearings : {H : Type 0} → Ghosts H → EndState H → List Letter → List Hearing
hearings m e [] = []
hearings m e (Byte b ∷ signals) = hearing (m.room_for e.host) 250 e.receiver b ∷ hearings m (end_after_byte m e b) signals
hearings m e (Tick ∷ signals) = hearings m (end_after_tick m e) signals
hearings m e (Take ∷ signals) = hearings m (end_after_take m e) signals

-- the acts at each of these bytes
abbrev pub acts : {H : Type 0} → Ghosts H → EndState H → List Letter → List Act
acts m e [] = []
acts m e (Byte b ∷ signals) = act_of_byte m e b ∷ acts m (end_after_byte m e b) signals
acts m e (Tick ∷ signals) = acts m (end_after_tick m e) signals
acts m e (Take ∷ signals) = acts m (end_after_take m e) signals

-- so many takes
abbrev pub takes : ℕ → List Letter
takes n = replicate n Take

-- takes until one gives nothing: what they give, and the end after them
pub data Drains {H : Type 0} (m : Ghosts H) : EndState H → List Out → EndState H → Type 0 where
  gives_none : (e : EndState H) → out_at_take m e ≡ None → Drains m e [] (end_after_take m e)
  gives_one : (e : EndState H) (out : Out) (others : List Out) (last : EndState H) → out_at_take m e ≡ Some out → Drains m (end_after_take m e) others last → Drains m e (out ∷ others) last
