-- The signals of a port, and those that the bytes of an input stand for.
use Rattle.std.specs.Prelude.{ℕ, ◌+◌, Bool, true, false, List, [], ◌∷◌, Option, Some, None, nat_lt, ◌==◌, ◌&&◌, if◌then◌else◌}
use Rattle.df1_base.specs.declared.signal.Signal.{Signal}
use Rattle.df1_base.specs.declared.signal.Signal.TheVariants.{Byte, Tick, Take, Drain, End, Bad, Long}

-- other signals may follow this one
abbrev pub goes_on : Signal → Bool
goes_on (Byte b) = true
goes_on Tick = true
goes_on Take = true
goes_on Drain = true
goes_on End = false
goes_on (Bad at) = false
goes_on Long = false

-- a signal was given: one that others may follow came, or none did and this one is the last
abbrev pub GaveOne : {P : Type 0} → (P → List Signal → P → Type 0) → (P → Signal → Type 0) → Bool → P → P → Signal → Type 0
GaveOne came ends_with true old new signal = came old (signal ∷ []) new
GaveOne came ends_with false old new signal = came old [] new × ends_with new signal

-- a port gave this signal
abbrev pub Gave : {P : Type 0} → (P → List Signal → P → Type 0) → (P → Signal → Type 0) → P → P → Signal → Type 0
Gave came ends_with old new signal = GaveOne came ends_with (goes_on signal) old new signal

-- the most bytes of an input that are taken
abbrev pub input_limit : ℕ
input_limit = 268435456

-- the signals of a raw input from this offset on: of each byte Byte, and then Drain
abbrev pub raw_signals : ℕ → List ℕ → List Signal
raw_signals at [] = End ∷ []
raw_signals at (b ∷ bytes) = if nat_lt at input_limit then Byte b ∷ Drain ∷ raw_signals (at + 1) bytes else Long ∷ []

-- what a record of two bytes stands for: 00 b, 01 00, 02 00, 03 00
abbrev pub signal_of : ℕ → ℕ → Option Signal
signal_of form b =
    if form == 0 then Some (Byte b)
    else if (form == 1) && (b == 0) then Some Tick
    else if (form == 2) && (b == 0) then Some Take
    else if (form == 3) && (b == 0) then Some Drain
    else None

-- a record's signal, and then others; or the record has none of the forms
abbrev pub record_signals : ℕ → Option Signal → List Signal → List Signal
record_signals at (Some signal) others = signal ∷ others
record_signals at None others = Bad at ∷ []

-- the signals of a timed input from this offset on: one of each record of two bytes
abbrev pub timed_signals : ℕ → List ℕ → List Signal
timed_signals at [] = End ∷ []
timed_signals at (form ∷ []) = (if nat_lt at input_limit then Bad at else Long) ∷ []
timed_signals at (form ∷ b ∷ bytes) =
    if nat_lt at input_limit then record_signals at (signal_of form b) (timed_signals (at + 2) bytes) else Long ∷ []

-- the signals of an input from this offset on
abbrev pub input_signals : Bool → ℕ → List ℕ → List Signal
input_signals timed at bytes = if timed then timed_signals at bytes else raw_signals at bytes
