-- A reader after one byte more, and what is told at it.
use Rattle.std.specs.Prelude.{ℕ, ◌+◌, ◌-◌, List, [], ◌∷◌, Option, Some, None, if◌then◌else◌}
use Rattle.df1_dissect.specs.declared.kind.Kind.{Kind}
use Rattle.df1_dissect.specs.declared.ear.Turn.{Turn}
use Rattle.df1_dissect.specs.declared.ear.Turn.TheVariants as turn
use Rattle.df1_dissect.specs.declared.reader.Thing.{Thing}
use Rattle.df1_dissect.specs.Kinds.{is_bad}
use Rattle.df1_dissect.specs.Hearing.{ear_next, lent_by}
use Rattle.df1_dissect.specs.Telling.{Told}
use Rattle.df1_dissect.specs.Reading.{Reading}

-- from its first byte to its last
abbrev pub thing : ℕ → ℕ → Kind → Thing
thing first last kind = record { first = first; last = last; kind = kind }

-- what has a line, where an item began at one offset and the byte is at another; a response has two bytes
abbrev pub thing_of : Turn → ℕ → ℕ → Option Thing
thing_of turn.Goes start at = None
thing_of (turn.Ends kind) start at = Some (thing start at kind)
thing_of (turn.CutsOff kind) start at = Some (thing start at kind)
thing_of (turn.Within kind) start at = Some (thing (at - 1) at kind)

-- where the item that is under way afterwards begins
abbrev pub start_after : Turn → ℕ → ℕ → ℕ
start_after turn.Goes start at = start
start_after (turn.Ends kind) start at = at + 1
start_after (turn.CutsOff kind) start at = at - 1
start_after (turn.Within kind) start at = start

-- how many things have a line, and how many of these are faults, with one more or none
abbrev pub heard_with : ℕ → Option Thing → ℕ
heard_with count None = count
heard_with count (Some one) = count + 1

abbrev pub bad_with : ℕ → Option Thing → ℕ
bad_with count None = count
bad_with count (Some one) = if is_bad one.kind then count + 1 else count

abbrev pub next : Reading → ℕ → Reading × Option Thing
next r b =
    let to = ear_next r.ear b in
    let heard = thing_of to.1 r.start r.fed in
    (record { ear = to.0; start = start_after to.1 r.start r.fed; fed = r.fed + 1; heard = heard_with r.heard heard; bad = bad_with r.bad heard }, heard)

-- a thing with a body
abbrev pub with_body : Thing → List ℕ → Told
with_body one body = record { first = one.first; last = one.last; kind = one.kind; body = body }

-- what is told of a thing that has just been heard, if one has, with the body that is lent
abbrev pub telling_at : Option Thing → List ℕ → List Told
telling_at None body = []
telling_at (Some one) body = with_body one body ∷ []

-- what is told at a byte
abbrev pub told_at : Reading → ℕ → List Told
told_at r b = let to = next r b in telling_at to.1 (lent_by to.0.ear)
