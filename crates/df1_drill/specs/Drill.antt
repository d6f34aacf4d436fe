-- The drill's script: in each round end a writes a word of end b's file, and things happen to the bytes by a pattern.
use Rattle.std.specs.Prelude.{ℕ, ◌+◌, ◌%◌, List, [], ◌∷◌, slice_index_or}
use Rattle.script_statement.specs.declared.who.Who.TheVariants.{A, B}
use Rattle.script_parts.specs.declared.script.Event.{Event}
use Rattle.script_parts.specs.declared.script.Event.TheVariants.{Take, Deliver, Lose, Alter, Foreign, Tick}
use Rattle.script_parts.specs.declared.script.Script.{Script}
use Rattle.round_scripts.specs.Rounds.{command_of, script_of, to_a, to_b, undisturbed}
use Rattle.df1_drill.specs.declared.course.Pattern.{Pattern}
use Rattle.df1_drill.specs.declared.course.Pattern.TheVariants.{Plain, DamagedFrame, LostAck, FalseNak}

-- ---- the patterns

-- the pattern of a round: one of four in turn
abbrev pub pattern_of : ℕ → ℕ → Pattern
pattern_of seed round = slice_index_or (Plain ∷ DamagedFrame ∷ LostAck ∷ FalseNak ∷ []) ((seed + round) % 4) Plain

-- what happens behind the command of a round
abbrev pub course_of : Pattern → List Event
course_of Plain = undisturbed
course_of DamagedFrame =
    Take A 23 ∷ Deliver to_b 2 ∷ Alter to_b 0x01 ∷ Deliver to_b 21
    ∷ Take B 2 ∷ Deliver to_a 2
    ∷ Take A 23 ∷ Deliver to_b 23
    ∷ Take B 15 ∷ Deliver to_a 15
    ∷ Take A 2 ∷ Deliver to_b 2
    ∷ []
course_of LostAck =
    Take A 23 ∷ Deliver to_b 23
    ∷ Take B 2 ∷ Lose to_a 2
    ∷ Tick A 10
    ∷ Take A 2 ∷ Deliver to_b 2
    ∷ Take B 15 ∷ Deliver to_a 15
    ∷ Take A 2 ∷ Deliver to_b 2
    ∷ []
course_of FalseNak =
    Take A 23 ∷ Deliver to_b 23
    ∷ Take B 2 ∷ Lose to_a 2
    ∷ Foreign to_a (0x10 ∷ 0x15 ∷ [])
    ∷ Take A 23 ∷ Deliver to_b 23
    ∷ Take B 15 ∷ Deliver to_a 15
    ∷ Take A 2 ∷ Deliver to_b 2
    ∷ []

-- ---- the rounds

-- the events of a round
abbrev pub round_of : ℕ → ℕ → List Event
round_of seed round = command_of seed round ∷ course_of (pattern_of seed round)

unfoldable pub drill_script : ℕ → ℕ → Script
drill_script seed count = script_of (round_of seed) count
