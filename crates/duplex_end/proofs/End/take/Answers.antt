use Rattle.std.proofs.Common.{◌≡◌, ◌≤◌, ◌+◌, None, IsSome, ap, sym, subst, ◌∙◌}
use Rattle.embedded_response.specs.Giving.{chosen, take}
use Rattle.duplex_end.specs.End.{EndState, begun_next, given_next}
use Rattle.duplex_end.specs.Joined.{most_left}
use Rattle.duplex_end.specs.Arrived.{StandsFor}
use Rattle.duplex_end.proofs.Order.{nothing-given, end-given, end-begun, out-begun}
use Rattle.duplex_end.proofs.Arriving.{stands-take}
use Rattle.duplex_end.proofs.End.take.Goals as goal

pub begin_and_give-requires : goal.begin_and_give-requires
begin_and_give-requires g c =
    let given = nothing-given c.args.self.now c.give.new.self c.give.result c.give.ensures.state c.give.ensures.out c.in-None.is in
    subst (λ (e : EndState g.row.H.Denot). chosen e.mouth ≡ None) (sym given.0) given.1

pub returns-in-Some-clause-state : goal.returns-in-Some-clause-state
returns-in-Some-clause-state g c = c.give.ensures.state ∙ sym (end-given g.H.Host c.args.self.now c.in-Some.out (sym c.give.ensures.out ∙ c.in-Some.is))

pub returns-in-None-clause-state : goal.returns-in-None-clause-state
returns-in-None-clause-state g c =
    let given = nothing-given c.args.self.now c.give.new.self c.give.result c.give.ensures.state c.give.ensures.out c.in-None.is in
    c.begin_and_give.ensures.state ∙ ap (λ (e : EndState g.row.H.Denot). given_next (begun_next g.H.Host e)) given.0 ∙ sym (end-begun g.H.Host c.args.self.now given.1)

pub returns-in-None-clause-out : goal.returns-in-None-clause-out
returns-in-None-clause-out g c =
    let given = nothing-given c.args.self.now c.give.new.self c.give.result c.give.ensures.state c.give.ensures.out c.in-None.is in
    c.begin_and_give.ensures.out ∙ ap (λ (e : EndState g.row.H.Denot). (take (begun_next g.H.Host e).mouth).1) given.0 ∙ sym (out-begun g.H.Host c.args.self.now given.1)

pub returns-in-None-clause-stands : goal.returns-in-None-clause-stands
returns-in-None-clause-stands g c =
    let given = nothing-given c.args.self.now c.give.new.self c.give.result c.give.ensures.state c.give.ensures.out c.in-None.is in
    let state = c.begin_and_give.ensures.state ∙ ap (λ (e : EndState g.row.H.Denot). given_next (begun_next g.H.Host e)) given.0 ∙ sym (end-begun g.H.Host c.args.self.now given.1) in
    λ check bytes stands. subst (λ (e : EndState g.row.H.Denot). StandsFor check bytes e) (sym state) (stands-take g.H.Host c.args.self.now check bytes stands)

pub returns-in-None-clause-fewer : goal.returns-in-None-clause-fewer
returns-in-None-clause-fewer g c =
    let given = nothing-given c.args.self.now c.give.new.self c.give.result c.give.ensures.state c.give.ensures.out c.in-None.is in
    subst (λ (e : EndState g.row.H.Denot). IsSome c.begin_and_give.result → most_left g.H.Host c.begin_and_give.new.self + 1 ≤ most_left g.H.Host e) given.0 c.begin_and_give.ensures.fewer
