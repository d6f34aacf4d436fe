-- What a master gives over a list of signals.
use Rattle.std.specs.Prelude.{◌≡◌, ℕ, List, [], ◌∷◌, ◌++◌, Some, None, option_to_list, replicate}
use Rattle.df1_base.specs.declared.host.Host.{Ghosts}
use Rattle.df1_base.specs.declared.link.Out.{Out}
use Rattle.half_master.specs.Master.{MasterState, master_after_byte, master_after_tick, master_after_take, out_at_take}

-- what comes to a master: a byte, a unit of time, or the wish for a byte
pub data Letter : Type 0 where
  Byte : (b : ℕ) → Letter
  Tick : Letter
  Take : Letter

-- a master after a signal
abbrev pub master_after : {H : Type 0} → Ghosts H → MasterState H → Letter → MasterState H
master_after m e (Byte b) = master_after_byte m e b
master_after m e Tick = master_after_tick m e
master_after m e Take = master_after_take m e

-- what is given at a signal: a byte at most, and that at a take
abbrev pub given_at : {H : Type 0} → Ghosts H → MasterState H → Letter → List Out
given_at m e (Byte b) = []
given_at m e Tick = []
given_at m e Take = option_to_list (out_at_take m e)

-- a master after these signals
abbrev pub master_after_all : {H : Type 0} → Ghosts H → MasterState H → List Letter → MasterState H
master_after_all m e [] = e
master_after_all m e (signal ∷ signals) = master_after_all m (master_after m e signal) signals

-- what is given over these signals, in order
abbrev pub emission : {H : Type 0} → Ghosts H → MasterState H → List Letter → List Out
emission m e [] = []
emission m e (signal ∷ signals) = given_at m e signal ++ emission m (master_after m e signal) signals

-- the bytes among these signals
abbrev pub bytes_among : List Letter → List ℕ
bytes_among [] = []
bytes_among (Byte b ∷ signals) = b ∷ bytes_among signals
bytes_among (Tick ∷ signals) = bytes_among signals
bytes_among (Take ∷ signals) = bytes_among signals

-- so many takes
abbrev pub takes : ℕ → List Letter
takes n = replicate n Take

-- takes until one gives nothing: what they give, and the master after them
pub data Drains {H : Type 0} (m : Ghosts H) : MasterState H → List Out → MasterState H → Type 0 where
  gives_none : (e : MasterState H) → out_at_take m e ≡ None → Drains m e [] (master_after_take m e)
  gives_one : (e : MasterState H) (out : Out) (others : List Out) (last : MasterState H) → out_at_take m e ≡ Some out → Drains m (master_after_take m e) others last → Drains m e (out ∷ others) last
