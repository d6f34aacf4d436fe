-- Scripts of rounds that can be played.
use Rattle.std.proofs.Common.{◌≡◌, ℕ, ◌+◌, ◌≤◌, zero, suc, cond, None, List, [], ◌∷◌, ◌++◌, refl, subst, arith, lit≤}
use Rattle.std.proofs.Math.Dec.{T, leb}
use Rattle.std.specs.Prelude.{All, count_by, sum_by, IsTrue}
use Rattle.std.proofs.lemmas.Bool.{false≢true}
use Rattle.std.proofs.lemmas.List.Elements.{All-nil, All-cons, All-append}
use Rattle.std.proofs.lemmas.List.Sums.{sum_by-append}
use Rattle.script_statement.specs.declared.who.Who.TheVariants.{A, B}
use Rattle.script_parts.specs.declared.script.Event.{Event}
use Rattle.script_parts.proofs.PlanSettings.{Fits-first_plan}
use Rattle.script_parts.specs.Playable.{IsBetween, IsPossible, IsPlayable, issues, count_of}
use Rattle.script_parts.specs.HalfPlayable.{CanBePlayed}
use Rattle.round_scripts.specs.Rounds.{command_of, parts, parts_from, script_of}

-- ---- events that may happen

abbrev pub ArePossible : List Event → Type 0
ArePossible [] = Unit {0}
ArePossible (e ∷ events) = IsPossible e × ArePossible events

pub all-possible : (events : List Event) → ArePossible events → All IsPossible events
all-possible [] possible = All-nil IsPossible
all-possible (e ∷ events) possible = All-cons IsPossible e events possible.0 (all-possible events possible.1)

-- so many bytes or ticks
pub counts : (n : ℕ) → T (leb 1 n) → T (leb n 4000000) → IsBetween 1 4000000 n
counts n some few = (lit≤ some, lit≤ few)

-- ---- a part of a script

-- so many commands of end a, and none of end b, among events that may happen
pub record HasCommands (events : List Event) (commands : ℕ) : Type 0 where
  pub possible : All IsPossible events
  pub of_a : count_by (issues A) events ≡ commands
  pub of_b : count_by (issues B) events ≡ 0

pub no-commands : HasCommands [] 0
no-commands = record { possible = All-nil IsPossible; of_a = refl; of_b = refl }

pub both : (xs ys : List Event) (m n : ℕ) → HasCommands xs m → HasCommands ys n → HasCommands (xs ++ ys) (m + n)
both xs ys m n x y = record {
  possible = All-append IsPossible xs ys x.possible y.possible;
  of_a = let parts = sum_by-append (λ e. cond (issues A e) 1 0) xs ys in let a = x.of_a in let b = y.of_a in omega (arith, parts, a, b);
  of_b = let parts = sum_by-append (λ e. cond (issues B e) 1 0) xs ys in let a = x.of_b in let b = y.of_b in omega (arith, parts, a, b);
}

-- the command of a round, and what happens behind it
pub one-command : (seed round : ℕ) (course : List Event) → HasCommands course 0 → HasCommands (command_of seed round ∷ course) 1
one-command seed round course h =
    let alone : HasCommands (command_of seed round ∷ []) 1 = record { possible = all-possible (command_of seed round ∷ []) ((refl, refl), tt); of_a = refl; of_b = refl } in
    both (command_of seed round ∷ []) course 1 0 alone h

-- parts without a command
pub parts-none : (part : ℕ → List Event) (first count : ℕ) → ((i : ℕ) → HasCommands (part i) 0) → HasCommands (parts_from part first count) 0
parts-none part first zero each = no-commands
parts-none part first (suc count) each = both (part first) (parts_from part (first + 1) count) 0 0 (each first) (parts-none part (first + 1) count each)

-- rounds, each with its command
pub rounds-commands : (round : ℕ → List Event) (first count : ℕ) → ((i : ℕ) → HasCommands (round i) 1) → HasCommands (parts_from round first count) count
rounds-commands round first zero each = no-commands
rounds-commands round first (suc count) each =
    let next : 1 + count ≡ suc count = omega arith in
    subst (HasCommands (parts_from round first (suc count))) next (both (round first) (parts_from round (first + 1) count) 1 count (each first) (rounds-commands round (first + 1) count each))

-- what parts count, where each step down from a bound pays for its part
pub parts-sum : (part : ℕ → List Event) (bound : ℕ → ℕ → ℕ) → ((n i : ℕ) → sum_by count_of (part i) + bound n (i + 1) ≤ bound (suc n) i) → (first count : ℕ) → sum_by count_of (parts_from part first count) ≤ bound count first
parts-sum part bound pays first zero = omega arith
parts-sum part bound pays first (suc count) =
    let more = parts-sum part bound pays (first + 1) count in
    let here = pays count first in
    let split = sum_by-append count_of (part first) (parts_from part (first + 1) count) in
    omega (arith, more, here, split)

-- ---- a script

rounds-play : (round : ℕ → List Event) (count : ℕ) → ((i : ℕ) → HasCommands (round i) 1) → count ≤ 20000 → sum_by count_of (parts round count) ≤ 5000000 → IsPlayable (script_of round count)
rounds-play round count each most sum =
    let commands = rounds-commands round 1 count each in
    let a = commands.of_a in
    let b = commands.of_b in
    record {
      mode = refl;
      ends = (
        record { end = refl; files = refl; words = All-nil _; settings = Fits-first_plan A 0 (omega arith); compat = refl; block = omega arith },
        record { end = refl; files = refl; words = All-nil _; settings = Fits-first_plan B 1 (omega arith); compat = refl; block = omega arith },
      );
      events = commands.possible;
      commands_of_a = omega (arith, a, most);
      commands_of_b = omega (arith, b);
      sum = sum;
    }

pub rounds-playable : (round : ℕ → List Event) (count : ℕ) → ((i : ℕ) → HasCommands (round i) 1) → count ≤ 20000 → sum_by count_of (parts round count) ≤ 5000000 → CanBePlayed (script_of round count)
rounds-playable round count each most sum = record { full = λ mode. rounds-play round count each most sum; half = λ mode. absurd (false≢true mode) }
