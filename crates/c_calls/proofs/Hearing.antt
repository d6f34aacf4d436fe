-- Where a run of bytes that are heard ends. Assumes nothing.
use Rattle.std.proofs.Common.{◌≡◌, ◌⊎◌, inl, inr, ℕ, ◌+◌, Bool, true, false, ◌||◌, List, [], ◌∷◌, ◌++◌, length, refl, ap, arith}
use Rattle.std.specs.Prelude.{if◌then◌else◌, not}
use Rattle.c_ends.specs.declared.held.Held.{Held}
use Rattle.c_ends.specs.declared.told.StepTold.{StepTold}
use Rattle.c_calls.specs.Ends.{after_byte}
use Rattle.c_calls.specs.Runs.{Heard, HeardAll, HeardSome, heard_behind, heard_of, is_due, is_quiet, is_told, step_at, still}

abbrev Ends : ℕ → Held → List ℕ → Heard → Type 0
Ends before held bytes run = HeardAll before held bytes run ⊎ HeardSome before held bytes run

left-false : (a b : Bool) → (a || b) ≡ false → a ≡ false
left-false true b e = absurd cc
left-false false b e = refl

-- a byte more in front, after which there is nothing to do
longer : (before : ℕ) (held : Held) (byte : ℕ) (bytes : List ℕ) (run : Heard) → is_due held byte ≡ false
    → Ends (before + 1) (after_byte held byte) bytes run → Ends before held (byte ∷ bytes) run
longer before held byte bytes run idle (inl all) = inl (record {
  used = (let used = all.used in omega (arith, used));
  idle = (idle, all.idle);
  step = all.step;
  after = all.after;
})
longer before held byte bytes run idle (inr some) = inr (record {
  front = byte ∷ some.front;
  last = some.last;
  rest = some.rest;
  are = ap (λ (xs : List ℕ). byte ∷ xs) some.are;
  used = (let used = some.used in omega (arith, used));
  idle = (idle, some.idle);
  due = some.due;
  step = some.step;
  after = some.after;
})

ends-behind : (bytes : List ℕ) (before : ℕ) (step : StepTold) (held : Held) → is_told step ≡ false → Ends before held bytes (heard_behind before step held bytes)
ends-behind [] before step held untold = inl (record { used = omega arith; idle = tt; step = untold; after = refl })
ends-behind (byte ∷ bytes) before step held untold = at (is_due held byte) refl (ends-behind bytes (before + 1) (step_at held byte) (after_byte held byte))
  where
    at : (due : Bool) → is_due held byte ≡ due
        → (is_told (step_at held byte) ≡ false → Ends (before + 1) (after_byte held byte) bytes (heard_behind (before + 1) (step_at held byte) (after_byte held byte) bytes))
        → Ends before held (byte ∷ bytes)
        (if due then record { used = before + 1; step = step_at held byte; after = after_byte held byte } else heard_behind (before + 1) (step_at held byte) (after_byte held byte) bytes)
    at true is rest = inr (record { front = []; last = byte; rest = bytes; are = refl; used = omega arith; idle = tt; due = is; step = refl; after = refl })
    at false is rest =
        longer before held byte bytes (heard_behind (before + 1) (step_at held byte) (after_byte held byte) bytes) is
        (rest (left-false (is_told (step_at held byte)) (not (is_quiet (after_byte held byte))) is))

pub run-ends : (held : Held) (bytes : List ℕ) → Ends 0 held bytes (heard_of held bytes)
run-ends held bytes = ends-behind bytes 0 still held refl
