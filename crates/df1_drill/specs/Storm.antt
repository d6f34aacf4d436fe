-- The storm's script: in each round end a writes a word of end b's file, and bytes of the command's body are altered in up to three of its sendings.
use Rattle.std.specs.Prelude.{ℕ, ◌+◌, ◌%◌, List, [], ◌∷◌, ◌++◌}
use Rattle.script_statement.specs.declared.who.Who.TheVariants.{A, B}
use Rattle.script_parts.specs.declared.script.Event.{Event}
use Rattle.script_parts.specs.declared.script.Event.TheVariants.{Take, Deliver, Alter}
use Rattle.script_parts.specs.declared.script.Script.{Script}
use Rattle.round_scripts.specs.Rounds.{command_of, parts, script_of, to_a, to_b, undisturbed}

-- a sending that is hit, and its NAK: the first bytes of the frame arrive, one of DST, SRC, CMD and STS is altered, and the rest arrives
abbrev pub hit_of : ℕ → ℕ → List Event
hit_of turn hit =
    Take A 23 ∷ Deliver to_b (2 + (turn + hit) % 4) ∷ Alter to_b 0x01 ∷ Deliver to_b 23
    ∷ Take B 2 ∷ Deliver to_a 2
    ∷ []

-- the hits of a round, by its turn: none to three
abbrev pub hits_of : ℕ → List Event
hits_of turn = parts (hit_of turn) (turn % 4)

-- the events of a round: its command, the hits, and then the command and its reply arrive
abbrev pub round_of : ℕ → ℕ → List Event
round_of seed round = command_of seed round ∷ (hits_of (seed + round) ++ undisturbed)

unfoldable pub storm_script : ℕ → ℕ → Script
storm_script seed count = script_of (round_of seed) count
