-- Where the mark is set, the place is given beside the others; where it isn't, the places are as they were.
use Rattle.std.proofs.Common.{◌≡◌, ◌<◌, ◌||◌, slice_set, ℕ, Bool, eqb, false, map, slice_index_or, length, List, subst, arith}
use Rattle.std.proofs.lemmas.Grind.{common_steps}
use Rattle.std.proofs.lemmas.Result.{on_ok_weaker, on_err_weaker}
use Rattle.end_drafts.specs.Places.{AreSame, HasMore}
use Rattle.end_drafts.proofs.Seen.{mark_more, mark_same, marks_of, more_then, same_then}
use Rattle.end_drafts.proofs.given_places.GivenPlaces.give.Goals as goal

pub returns-clause-ok : goal.returns-clause-ok
returns-clause-ok c =
    let rows = c.add_rows.new.rows in
    let reached = c.in_ok-add_rows.ensures.reached in
    let within : c.from-file.result < length rows.items = grind (arith, common_steps) in
    let before : AreSame c.args.self.now (map marks_of rows.items) = subst (λ (r : List (List Bool)). AreSame r (map marks_of rows.items)) c.self.view_is c.in_ok-add_rows.ensures.same in
    let after : List (List Bool) = map marks_of (slice_set rows.items c.from-file.result c.set.new.row) in
    on_ok_weaker c.set.result
    (λ (marked : (i : ℕ) → slice_index_or c.set.new.row.items i false ≡ (slice_index_or c.index_mut-row.result.now.items i false || eqb c.args.index i)).
    subst (λ (file : ℕ). HasMore c.args.self.now after file c.args.index) c.from-file.ensures
    (more_then c.args.self.now (map marks_of rows.items) after c.from-file.result c.args.index before
    (mark_more rows.items c.index_mut-row.result.now c.set.new.row c.from-file.result c.args.index within c.index_mut-row.ensures.value marked)))
    c.set.ensures.ok

pub returns-clause-err : goal.returns-clause-err
returns-clause-err c =
    let rows = c.add_rows.new.rows in
    let reached = c.in_ok-add_rows.ensures.reached in
    let within : c.from-file.result < length rows.items = grind (arith, common_steps) in
    let before : AreSame c.args.self.now (map marks_of rows.items) = subst (λ (r : List (List Bool)). AreSame r (map marks_of rows.items)) c.self.view_is c.in_ok-add_rows.ensures.same in
    on_err_weaker c.set.result
    (λ (same : c.set.new.row.items ≡ c.index_mut-row.result.now.items).
    same_then c.args.self.now (map marks_of rows.items) _ before
    (mark_same rows.items c.index_mut-row.result.now c.set.new.row c.from-file.result within c.index_mut-row.ensures.value same))
    c.set.ensures.err
