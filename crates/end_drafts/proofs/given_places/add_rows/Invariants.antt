-- The rows that are added have no marks.
use Rattle.std.proofs.Common.{◌-◌, map, vec_len}
use Rattle.end_drafts.specs.Places.{AreSame}
use Rattle.end_drafts.proofs.given_places.add_rows.Given as goal

abbrev pub invariant-loop-alloc : goal.invariant-loop-alloc
invariant-loop-alloc l = AreSame (map (λ row. row.items) l.initial.rows.items) (map (λ row. row.items) l.rows.items)

abbrev pub decreases-loop-alloc : goal.decreases-loop-alloc
decreases-loop-alloc l = l.count - vec_len l.rows
