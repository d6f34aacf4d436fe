-- A list has one split, and so one text.
use Rattle.std.proofs.Common.{◌∙◌, sym, refl}
use Rattle.df1_dissect.specs.Dissection.{dissection}
use Rattle.df1_dissect.proofs.Sides.{has-split, same-side}
use Rattle.df1_dissect.proofs.laws.one_dissection.Goals as goal

pub returns-clause-exists : goal.returns-clause-exists
returns-clause-exists c = λ bytes.
    let side = c.args.side in
    let check = c.args.check in
    let s = has-split side check bytes in
    (dissection side check s.0 s.1, record { items = s.0; front = s.1; splits = s.2; is = refl })

pub returns-clause-only : goal.returns-clause-only
returns-clause-only c = λ bytes text other r q.
    let all = dissection c.args.side c.args.check in
    r.is ∙ sym (same-side c.args.side c.args.check bytes all all text other r q)
