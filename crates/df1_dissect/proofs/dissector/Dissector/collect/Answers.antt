-- The line of what ends at a byte, or none.
use Rattle.std.proofs.Common.{◌≡◌, ◌∙◌, sym, ap, append-nil}
use Rattle.df1_dissect.specs.Hearing.{lent_by}
use Rattle.df1_dissect.specs.Reading.{Reading}
use Rattle.df1_dissect.specs.Step.{next}
use Rattle.df1_dissect.proofs.Sides.{lines-next, lines-none, lines-some}
use Rattle.df1_dissect.proofs.dissector.Dissector.collect.Goals as goal
use Rattle.df1_dissect.proofs.dissector.Dissector.collect.Goals.{in-None, in-Some}

pub returns-clause-lines : goal.returns-clause-lines
returns-clause-lines c = λ side check bytes so_far r q. lines-next side check c.args.b bytes c.args.self.now so_far r q

pub returns-clause-added : goal.returns-clause-added
returns-clause-added c =
    let v = c.args.self.now in
    let b = c.args.b in
    let answer : (next v b).1 ≡ c.hear.result = ap (λ (r : Reading). (next r b).1) (sym c.self.view_is) ∙ sym c.hear.ensures.answer in
    let ear : lent_by c.hear.new.self.ear ≡ lent_by (next v b).0.ear = ap (λ (r : Reading). lent_by r.ear) (c.hear.ensures.value ∙ ap (λ (r : Reading). (next r b).0) c.self.view_is) in
    elim c.match-hear.branch [
      | in-None w ↦ rw (w.lines-is, lines-none v b (answer ∙ w.in-None.is)) (sym (append-nil _))
      | in-Some w ↦ rw (w.lines-is, lines-some v b w.in-Some.thing (answer ∙ w.in-Some.is)) (rw (w.body.ensures.value ∙ ear) at w.append_line.ensures)
    ]
