use Rattle.std.proofs.Common.{◌≡◌, ◌≤◌, ℕ, List, length, Option, Some, sym, subst, ◌∙◌, ap, is_some}
use Rattle.half_mouth.specs.Giving.{bytes_left}
use Rattle.half_master.specs.Master.{MasterState, begun, begun_of, begun_with, with_host, message_next}
use Rattle.half_master.specs.Fitting.{most_left}
use Rattle.half_master.proofs.Draining.{NextFits, begins-no-more, most-of, some-same}
use Rattle.half_master.proofs.Master.prepare.Goals as goal

pub returns-then-may_begin-clause-no_more : goal.returns-then-may_begin-clause-no_more
returns-then-may_begin-clause-no_more g c =
    let next = c.may_begin.ensures.next c.if-may_begin.true in
    let before : MasterState g.row.H.Denot = record { setup = c.self.inside.setup; stations = c.self.inside.stations.items; next = c.self.inside.next; ear = c.self.inside.ear; phase = c.self.inside.phase; mouth = c.self.inside.mouth; sending = c.self.inside.sending.items; host = c.self.inside.host } in
    let fits : NextFits g.H.Host before = λ body is. subst (λ (b : List ℕ). length b ≤ 250) (some-same (sym c.hand_out-body.ensures.next ∙ is)) c.hand_out-body.ensures.fits.1 in
    let message : message_next g.H.Host before ≡ Some c.hand_out-body.result.items =
    subst (λ (e : MasterState g.row.H.Denot). message_next g.H.Host e ≡ g.H.Host.next_body e.host) (sym c.self.view_is) next ∙ c.hand_out-body.ensures.next in
    let state : c.begin_message.new.self ≡ begun g.H.Host before =
    c.begin_message.ensures
    ∙ ap (λ (host : g.row.H.Denot). begun_with g.H.Host (with_host before host) c.hand_out-body.result.items) c.hand_out-body.ensures.after
    ∙ sym (ap (λ (o : Option (List ℕ)). begun_of g.H.Host before o) message) in
    subst (λ (e : MasterState g.row.H.Denot). most_left g.H.Host c.begin_message.new.self ≤ most_left g.H.Host e) c.self.view_is
    (subst (λ (e : MasterState g.row.H.Denot). most_left g.H.Host e ≤ most_left g.H.Host before) (sym state) (begins-no-more g.H.Host before fits))

pub returns-else-may_begin-clause-most : goal.returns-else-may_begin-clause-most
returns-else-may_begin-clause-most g c =
    let before : MasterState g.row.H.Denot = record { setup = c.self.inside.setup; stations = c.self.inside.stations.items; next = c.self.inside.next; ear = c.self.inside.ear; phase = c.self.inside.phase; mouth = c.self.inside.mouth; sending = c.self.inside.sending.items; host = c.self.inside.host } in
    let left : bytes_left before.mouth ≤ 509 = subst (λ (e : MasterState g.row.H.Denot). bytes_left e.mouth ≤ 509) (sym c.self.view_is) c.may_begin.ensures.left in
    subst (λ (e : MasterState g.row.H.Denot). most_left g.H.Host e ≤ 511) c.self.view_is
    (most-of before.stations before.mouth before.sending (is_some (g.H.Host.next_body before.host)) before.phase c.self.invariant.phase_fits left)
