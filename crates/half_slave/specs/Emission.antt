-- What a slave hears and gives over a list of signals.
use Rattle.std.specs.Prelude.{◌≡◌, ℕ, List, [], ◌∷◌, ◌++◌, Some, None, option_to_list, replicate}
use Rattle.df1_base.specs.declared.host.Host.{Ghosts}
use Rattle.df1_base.specs.declared.link.Out.{Out}
use Rattle.half_slave.specs.Slave.{SlaveState, slave_after_byte, slave_after_take, out_at_take}

-- what comes to a slave: a byte, or the wish for a byte
pub data Letter : Type 0 where
  Byte : (b : ℕ) → Letter
  Take : Letter

-- a slave after a signal
abbrev pub slave_after : {H : Type 0} → Ghosts H → SlaveState H → Letter → SlaveState H
slave_after m s (Byte b) = slave_after_byte m s b
slave_after m s Take = slave_after_take s

-- what is given at a signal: a byte at most, and that at a take
abbrev pub given_at : {H : Type 0} → SlaveState H → Letter → List Out
given_at s (Byte b) = []
given_at s Take = option_to_list (out_at_take s)

-- a slave after these signals
abbrev pub slave_after_all : {H : Type 0} → Ghosts H → SlaveState H → List Letter → SlaveState H
slave_after_all m s [] = s
slave_after_all m s (signal ∷ signals) = slave_after_all m (slave_after m s signal) signals

-- what is given over these signals, in order
abbrev pub emission : {H : Type 0} → Ghosts H → SlaveState H → List Letter → List Out
emission m s [] = []
emission m s (signal ∷ signals) = given_at s signal ++ emission m (slave_after m s signal) signals

-- the bytes among these signals
abbrev pub bytes_among : List Letter → List ℕ
bytes_among [] = []
bytes_among (Byte b ∷ signals) = b ∷ bytes_among signals
bytes_among (Take ∷ signals) = bytes_among signals

-- so many takes
abbrev pub takes : ℕ → List Letter
takes n = replicate n Take

-- takes until one gives nothing: what they give, and the slave after them
pub data Drains {H : Type 0} : SlaveState H → List Out → SlaveState H → Type 0 where
  gives_none : (s : SlaveState H) → out_at_take s ≡ None → Drains s [] (slave_after_take s)
  gives_one : (s : SlaveState H) (out : Out) (others : List Out) (last : SlaveState H) → out_at_take s ≡ Some out → Drains (slave_after_take s) others last → Drains s (out ∷ others) last
