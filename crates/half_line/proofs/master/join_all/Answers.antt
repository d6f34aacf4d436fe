-- A cell joins the queue to one station more.
use Rattle.std.proofs.Common.{◌∙◌, ◌<◌, [], ◌∷◌, ◌++◌, ℕ, map, take, drop, length, ap}
use Rattle.std.proofs.Math.Numerals.{suc-eq-add-one}
use Rattle.lane_cells.specs.Cells.{cell_of}
use Rattle.half_line.specs.Acts.{joined}
use Rattle.half_line.proofs.Steps.WholeLine.{set-next}
use Rattle.half_line.proofs.master.join_all.Goals as goal

pub loop-side-preserved : goal.loop-side-preserved
loop-side-preserved c =
    let stations = c.args.stations.now.items in
    let i = c.loop-side.side-index in
    let f = joined (cell_of c.args.sending.now c.args.out.now ∷ []) in
    let lt : i < length stations = rw c.deref_mut-side-items.ensures.value at c.loop-side-test.true in
    rw (c.in_ok-join.ensures, c.loop-side.invariant)
    (set-next f stations i c.side-item.result lt ∙ ap (λ (j : ℕ). map f (take j stations) ++ drop j stations) (suc-eq-add-one i))
