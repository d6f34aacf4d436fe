-- Runs of bytes: those that an end hears up to the first after which there is something to do, and those that it gives up to the
-- first that ends a message. Each byte is one as of the calls for a byte.
use Rattle.std.specs.Prelude.{◌≡◌, ◌<◌, ◌≤◌, ℕ, zero, suc, ◌+◌, length, Bool, true, false, not, ◌||◌, List, [], ◌∷◌, ◌++◌, ◌==◌, if◌then◌else◌}
use Rattle.std.specs.declared.option.Option.{Option}
use Rattle.std.specs.declared.option.Option.TheVariants.{Some, None}
use Rattle.std.specs.Option.{unwrap_or}
use Rattle.c_ends.specs.Held.{is_end}
use Rattle.c_ends.specs.declared.held.Held.{Held}
use Rattle.c_ends.specs.declared.told.StepTold.{StepTold}
use Rattle.c_ends.specs.declared.told.OutTold.{OutTold}
use Rattle.c_calls.specs.Ends.{after_byte, after_take, out_of, quiet_of, step_of}

-- ---- bytes that are heard

-- a step of which nothing is told
abbrev pub still : StepTold
still = record { act = 0; did = 0; did_command = 0; news = 0; news_command = 0; whole = false; station = 0 }

-- something is told of a step
abbrev pub is_told : StepTold → Bool
is_told step = not (step.act == 0) || (not (step.did == 0) || (not (step.did_command == 0) || (not (step.news == 0) || (not (step.news_command == 0) || (step.whole || not (step.station == 0))))))

-- what a byte did
abbrev pub step_at : Held → ℕ → StepTold
step_at held byte = unwrap_or (step_of held byte) still

-- nothing is to be given
abbrev pub is_quiet : Held → Bool
is_quiet held = unwrap_or (quiet_of held) true

-- after a byte there is something to do: something is told of it, or the end has something to give
abbrev pub is_due : Held → ℕ → Bool
is_due held byte = is_told (step_at held byte) || not (is_quiet (after_byte held byte))

-- how many bytes were heard, what the last of them did, and what is held then
pub record Heard : Type 0 where
  pub used : ℕ
  pub step : StepTold
  pub after : Held

-- the bytes up to the first after which there is something to do, or all, behind so many others, the last of which did this
abbrev pub heard_behind : ℕ → StepTold → Held → List ℕ → Heard
heard_behind used step held [] = record { used = used; step = step; after = held }
heard_behind used step held (byte ∷ bytes) =
    if is_due held byte then record { used = used + 1; step = step_at held byte; after = after_byte held byte }
    else heard_behind (used + 1) (step_at held byte) (after_byte held byte) bytes

-- after bytes that are heard one after another
abbrev pub after_bytes : Held → List ℕ → Held
after_bytes held [] = held
after_bytes held (byte ∷ bytes) = after_bytes (after_byte held byte) bytes

-- there is nothing to do after any of these bytes
abbrev pub AreIdle : Held → List ℕ → Type 0
AreIdle held [] = Unit {0}
AreIdle held (byte ∷ bytes) = (is_due held byte ≡ false) × AreIdle (after_byte held byte) bytes

-- all bytes were heard, behind so many others, with nothing to do after any
pub record HeardAll (before : ℕ) (held : Held) (bytes : List ℕ) (run : Heard) : Type 0 where
  pub used : run.used ≡ before + length bytes
  pub idle : AreIdle held bytes
  pub step : is_told run.step ≡ false
  pub after : run.after ≡ after_bytes held bytes

-- they were heard up to the first after which there is something to do
pub record HeardSome (before : ℕ) (held : Held) (bytes : List ℕ) (run : Heard) : Type 0 where
  pub front : List ℕ
  pub last : ℕ
  pub rest : List ℕ
  pub are : bytes ≡ front ++ last ∷ rest
  pub used : run.used ≡ before + length front + 1
  pub idle : AreIdle held front
  pub due : is_due (after_bytes held front) last ≡ true
  pub step : run.step ≡ step_at (after_bytes held front) last
  pub after : run.after ≡ after_byte (after_bytes held front) last

-- those of a run
abbrev pub heard_of : Held → List ℕ → Heard
heard_of held bytes = heard_behind 0 still held bytes

-- what an end tells of a run; a decoder tells nothing
abbrev pub heard_told : Held → List ℕ → Option Heard
heard_told held bytes = if is_end held then Some (heard_of held bytes) else None

-- what is held after a run
abbrev pub after_heard : Held → List ℕ → Held
after_heard held bytes = if is_end held then (heard_of held bytes).after else held

-- ---- bytes that are given

-- the most of one run
abbrev pub most_given : ℕ
most_given = 512

-- the bytes, whether the last of them ends a message, and what is held then
pub record Given : Type 0 where
  pub bytes : List ℕ
  pub last : Bool
  pub after : Held

-- a take that gives nothing
abbrev pub nothing : OutTold
nothing = record { there = false; byte = 0; last = false }

-- what is given next
abbrev pub out_at : Held → OutTold
out_at held = unwrap_or (out_of held) nothing

-- at most so many bytes behind others: up to the first that ends a message, or to a take that gives none
abbrev pub given_behind : List ℕ → ℕ → Held → Given
given_behind bytes zero held = record { bytes = bytes; last = false; after = held }
given_behind bytes (suc room) held =
    if not (out_at held).there then record { bytes = bytes; last = false; after = after_take held }
    else if (out_at held).last then record { bytes = bytes ++ (out_at held).byte ∷ []; last = true; after = after_take held }
    else given_behind (bytes ++ (out_at held).byte ∷ []) room (after_take held)

-- those of a run
abbrev pub given_of : ℕ → Held → Given
given_of room held = given_behind [] room held

-- after so many takes
abbrev pub after_takes : ℕ → Held → Held
after_takes zero held = held
after_takes (suc count) held = after_takes count (after_take held)

-- takes give these bytes one after another, and none of them ends a message
abbrev pub AreGiven : Held → List ℕ → Type 0
AreGiven held [] = Unit {0}
AreGiven held (byte ∷ bytes) = (out_at held ≡ record { there = true; byte = byte; last = false }) × AreGiven (after_take held) bytes

-- as many bytes were given as there is room for, and none of them ends a message
pub record GivenFull (room : ℕ) (held : Held) (run : Given) : Type 0 where
  pub count : length run.bytes ≡ room
  pub are : AreGiven held run.bytes
  pub last : run.last ≡ false
  pub after : run.after ≡ after_takes (length run.bytes) held

-- fewer were given, none of which ends a message, and the take behind them gives nothing
pub record GivenShort (room : ℕ) (held : Held) (run : Given) : Type 0 where
  pub count : length run.bytes < room
  pub are : AreGiven held run.bytes
  pub none : (out_at (after_takes (length run.bytes) held)).there ≡ false
  pub last : run.last ≡ false
  pub after : run.after ≡ after_takes (suc (length run.bytes)) held

-- they were given up to the first that ends a message
pub record GivenMessage (room : ℕ) (held : Held) (run : Given) : Type 0 where
  pub front : List ℕ
  pub end : ℕ
  pub bytes : run.bytes ≡ front ++ end ∷ []
  pub count : length run.bytes ≤ room
  pub are : AreGiven held front
  pub ends : out_at (after_takes (length front) held) ≡ record { there = true; byte = end; last = true }
  pub last : run.last ≡ true
  pub after : run.after ≡ after_takes (length run.bytes) held

-- what an end tells of a run; a decoder tells nothing
abbrev pub given_told : ℕ → Held → Option Given
given_told room held = if is_end held then Some (given_of room held) else None

-- what is held after a run
abbrev pub after_given : ℕ → Held → Held
after_given room held = if is_end held then (given_of room held).after else held
