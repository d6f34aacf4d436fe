-- A port over a source and a sink.
use Rattle.std.specs.Prelude.{◌≡◌, ℕ, ◌+◌, ◌-◌, ◌*◌, ◌⊎◌, Bool, true, List, [], ◌∷◌, ◌++◌, length, Option, if◌then◌else◌, nat_lt, ◌&&◌, ◌||◌}
use Rattle.std.specs.Io.KnownBytes.{IsAtEnd}
use Rattle.df1_base.specs.declared.signal.Signal.{Signal}
use Rattle.df1_base.specs.declared.signal.Signal.TheVariants.{Drain}
use Rattle.df1_base.specs.Outside.{Took}
use Rattle.df1_base.specs.Signals.{input_limit, input_signals}

-- the source and the sink, whether the input has records, how many of its bytes have had their signals given, those that were
-- taken and have not, and whether a Drain is due
pub record Feed (S K : Type 0) : Type 0 where
  pub source : S
  pub sink : K
  pub timed : Bool
  pub used : ℕ
  pub waiting : List ℕ
  pub drains : Bool

-- a Drain, where one is due
abbrev pub due : Bool → List Signal
due drains = if drains then Drain ∷ [] else []

-- the signals that are to come, where these bytes are left in the source
abbrev pub signals_to_come : {S K : Type 0} → Feed S K → List ℕ → List Signal
signals_to_come f left = due f.drains ++ input_signals f.timed f.used (f.waiting ++ left)

-- between these states the port gave these signals: it took some bytes more; of those that waited and these, the first are gone;
-- and whatever is left after them, what was to come is these signals, and then what is to come now
pub record Came {S K : Type 0} (left : S → Option (List ℕ)) (old : Feed S K) (signals : List Signal) (new : Feed S K) : Type 0 where
  pub more : List ℕ
  pub took : Took (left old.source) (left new.source) more
  pub gone : List ℕ
  pub goes : old.waiting ++ more ≡ gone ++ new.waiting
  pub count : new.used ≡ old.used + length gone
  pub timed_is : new.timed ≡ old.timed
  pub gives : (later : List ℕ) → signals_to_come old (more ++ later) ≡ signals ++ signals_to_come new later

-- the bytes taken hold a further signal: one byte of a raw input, two of a record, and one past the limit
abbrev pub holds_signal : {S K : Type 0} → Feed S K → Bool
holds_signal f = f.drains || nat_lt (if f.timed && nat_lt f.used input_limit then 1 else 0) (length f.waiting)

-- this signal alone is to come: the bytes taken hold it, whatever is left, or nothing is left
abbrev pub EndsWith : {S K : Type 0} → (S → Option (List ℕ)) → Feed S K → Signal → Type 0
EndsWith left f signal =
    ((holds_signal f ≡ true) × ((later : List ℕ) → signals_to_come f later ≡ signal ∷ []))
    ⊎ (IsAtEnd (left f.source) × (signals_to_come f [] ≡ signal ∷ []))

-- at most so many signals may still come
abbrev pub most_to_come : {S K : Type 0} → Feed S K → ℕ
most_to_come f = 2 * (input_limit - f.used) + (if f.drains then 1 else 0)
