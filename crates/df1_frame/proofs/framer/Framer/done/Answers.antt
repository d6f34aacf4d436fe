use Rattle.std.proofs.Common.{◌≤◌, length, sym, ◌∙◌, arith}
use Rattle.std.proofs.lemmas.Bool.{false≢true, leb-true, le-leb}
use Rattle.df1_frame.proofs.FrameLemmas.{check_units-left, check_units-spent, closing-some, left-length}
use Rattle.df1_frame.proofs.framer.Framer.done.Goals as goal

pub returns-in-Body-clause-done : goal.returns-in-Body-clause-done
returns-in-Body-clause-done c =
    let view = rw c.in-Body.is at c.self.view_is in
    (λ no. absurd (false≢true no), λ none. absurd (closing-some _ _ (view ∙ none)))

pub returns-in-Check-clause-done : goal.returns-in-Check-clause-done
returns-in-Check-clause-done c =
    let at = c.in-Check.at in
    let bytes = c.self.inside.check.items in
    let view = rw c.in-Check.is at c.self.view_is in
    (λ yes. let spent : length bytes ≤ at = omega (arith, leb-true c.len.result at yes, c.len.ensures.value) in sym view ∙ check_units-spent bytes at spent, λ none. le-leb c.len.result at (omega (arith, check_units-left bytes at (view ∙ none), c.len.ensures.value)))

pub returns-in-Opening-clause-most : goal.returns-in-Opening-clause-most
returns-in-Opening-clause-most c = let f = c.self.inside in rw (← c.self.view_is) (left-length f.part f.body.items f.check.items c.self.invariant.0 c.self.invariant.1)

pub returns-in-Body-clause-most : goal.returns-in-Body-clause-most
returns-in-Body-clause-most c = let f = c.self.inside in rw (← c.self.view_is) (left-length f.part f.body.items f.check.items c.self.invariant.0 c.self.invariant.1)

pub returns-in-Check-clause-most : goal.returns-in-Check-clause-most
returns-in-Check-clause-most c = let f = c.self.inside in rw (← c.self.view_is) (left-length f.part f.body.items f.check.items c.self.invariant.0 c.self.invariant.1)
