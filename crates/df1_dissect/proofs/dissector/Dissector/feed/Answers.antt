-- The line of what ends at a byte, or none.
use Rattle.std.proofs.Common.{◌≡◌, ◌∙◌, sym, ap, []}
use Rattle.df1_base.proofs.Laws.{wrote_none}
use Rattle.df1_dissect.specs.Hearing.{lent_by}
use Rattle.df1_dissect.specs.Reading.{Reading}
use Rattle.df1_dissect.specs.Step.{next}
use Rattle.df1_dissect.proofs.Sides.{lines-next, lines-none, lines-some}
use Rattle.df1_dissect.proofs.dissector.Dissector.feed.Goals as goal
use Rattle.df1_dissect.proofs.dissector.Dissector.feed.Goals.{in-None, in-Some}

pub returns-clause-lines : goal.returns-clause-lines
returns-clause-lines g c = λ side check bytes so_far r q. lines-next side check c.args.b bytes c.args.self.now so_far r q

pub returns-clause-missing : goal.returns-clause-missing
returns-clause-missing g c =
    let v = c.args.self.now in
    let b = c.args.b in
    let answer : (next v b).1 ≡ c.hear.result = ap (λ (r : Reading). (next r b).1) (sym c.self.view_is) ∙ sym c.hear.ensures.answer in
    let ear : lent_by c.hear.new.self.ear ≡ lent_by (next v b).0.ear = ap (λ (r : Reading). lent_by r.ear) (c.hear.ensures.value ∙ ap (λ (r : Reading). (next r b).0) c.self.view_is) in
    elim c.match-hear.branch [
      | in-None w ↦ rw w.result-is tt
      | in-Some w ↦ rw (w.result-is, w.sink-is, lines-some v b w.in-Some.thing (answer ∙ w.in-Some.is)) (rw (w.body.ensures.value ∙ ear) at w.put_thing.ensures.missing)
    ]

pub returns-clause-part : goal.returns-clause-part
returns-clause-part g c =
    let v = c.args.self.now in
    let b = c.args.b in
    let answer : (next v b).1 ≡ c.hear.result = ap (λ (r : Reading). (next r b).1) (sym c.self.view_is) ∙ sym c.hear.ensures.answer in
    let ear : lent_by c.hear.new.self.ear ≡ lent_by (next v b).0.ear = ap (λ (r : Reading). lent_by r.ear) (c.hear.ensures.value ∙ ap (λ (r : Reading). (next r b).0) c.self.view_is) in
    elim c.match-hear.branch [
      | in-None w ↦ rw (w.sink-is, lines-none v b (answer ∙ w.in-None.is)) ([], wrote_none _ [])
      | in-Some w ↦ rw (w.sink-is, lines-some v b w.in-Some.thing (answer ∙ w.in-Some.is)) (rw (w.body.ensures.value ∙ ear) at w.put_thing.ensures.part)
    ]
