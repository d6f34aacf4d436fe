-- A source and a sink in memory: what they know, and what one call does to them.
use Rattle.std.specs.Prelude.{ℕ, ◌+◌, ◌-◌, ◌^◌, List, [], ◌∷◌, ◌++◌, Bool, min, length, take, drop, nat_lt, ◌==◌, ◌&&◌, ◌||◌, if◌then◌else◌}
use Rattle.std.specs.List.{list_any}
use Rattle.df1_base.specs.declared.signal.Signal.{Signal}
use Rattle.df1_base.specs.declared.signal.Signal.TheVariants.{End}
use Rattle.df1_base.specs.Signals.{goes_on}

-- a source: the bytes that are left, how many of them it gives at a call at most, how many calls were made, the numbers of the
-- calls that fail, and how often one has
pub record Giver : Type 0 where
  pub left : List ℕ
  pub piece : ℕ
  pub calls : ℕ
  pub fail : List ℕ
  pub faults : ℕ

-- a sink: the bytes that it took, how many it has room for in all, and the same
pub record Taker : Type 0 where
  pub held : List ℕ
  pub room : ℕ
  pub piece : ℕ
  pub calls : ℕ
  pub fail : List ℕ
  pub faults : ℕ

-- a sink that grows: the bytes that it holds, and how often a growth was refused
pub record Collection : Type 0 where
  pub held : List ℕ
  pub faults : ℕ

-- a source that gives one byte so many times more
pub record Repeated : Type 0 where
  pub byte : ℕ
  pub left : ℕ

-- one more, of a count that stops at the last value of u64
abbrev pub counted : ℕ → ℕ
counted n = min (n + 1) (2 ^ 64 - 1)

-- the next call is told to fail
abbrev pub fails_next : Giver → Bool
fails_next s = list_any (λ call. call == counted s.calls) s.fail

-- how many bytes a call gives to a buffer of this length
abbrev pub given : Giver → ℕ → ℕ
given s size = min (min (length s.left) size) s.piece

abbrev pub after_read : Giver → ℕ → Giver
after_read s size =
    if fails_next s
    then record s { calls = counted s.calls; faults = counted s.faults }
    else record s { calls = counted s.calls; left = drop (given s size) s.left }

-- the next call is told to fail, or finds no room
abbrev pub refuses_next : Taker → List ℕ → Bool
refuses_next s from =
    list_any (λ call. call == counted s.calls) s.fail || ((s.room - length s.held == 0) && nat_lt 0 (length from))

-- how many bytes a call takes of so many
abbrev pub taken : Taker → ℕ → ℕ
taken s size = min (min size (s.room - length s.held)) s.piece

abbrev pub after_write : Taker → List ℕ → Taker
after_write s from =
    if refuses_next s from
    then record s { calls = counted s.calls; faults = counted s.faults }
    else record s { calls = counted s.calls; held = s.held ++ take (taken s (length from)) from }

-- a port: the signals that it gives before End, its sink, how many calls of `next` were made, the numbers of those that fail, and
-- how often one has
pub record Exchange : Type 0 where
  pub signals : List Signal
  pub sink : Taker
  pub calls : ℕ
  pub fail : List ℕ
  pub faults : ℕ

-- these signals up to and with the first that none follow, or else End after them
abbrev pub up_to_last : List Signal → List Signal
up_to_last [] = End ∷ []
up_to_last (signal ∷ signals) = if goes_on signal then signal ∷ up_to_last signals else signal ∷ []

-- the next call of `next` is told to fail
abbrev pub next_fails : Exchange → Bool
next_fails p = list_any (λ call. call == counted p.calls) p.fail

-- the signal that comes next
abbrev pub next_signal : List Signal → Signal
next_signal [] = End
next_signal (signal ∷ signals) = signal

-- the signals after it is given: a last one stays
abbrev pub later_signals : List Signal → List Signal
later_signals [] = []
later_signals (signal ∷ signals) = if goes_on signal then signals else signal ∷ signals

abbrev pub after_next : Exchange → Exchange
after_next p =
    if next_fails p
    then record p { calls = counted p.calls; faults = counted p.faults }
    else record p { calls = counted p.calls; signals = later_signals p.signals }
