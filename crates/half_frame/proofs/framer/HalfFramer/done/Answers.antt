use Rattle.std.proofs.Common.{◌≤◌, length, sym, ap, ◌∙◌, arith, length-drop}
use Rattle.std.proofs.lemmas.Bool.{leb-true, le-leb}
use Rattle.std.proofs.lemmas.List.{drop_all}
use Rattle.half_frame.proofs.framer.HalfFramer.done.Goals as goal

pub returns-clause-done : goal.returns-clause-done
returns-clause-done c =
    let bytes = c.self.inside.bytes.items in
    let given = c.self.inside.given in (
      λ yes. let spent : length bytes ≤ given = omega (arith, leb-true c.len.result given yes, c.len.ensures.value) in sym c.self.view_is ∙ drop_all given bytes spent,
      λ none. le-leb c.len.result given (omega (arith, length-drop given bytes, ap length (c.self.view_is ∙ none), c.len.ensures.value)),
    )
