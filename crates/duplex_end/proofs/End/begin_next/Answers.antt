use Rattle.std.proofs.Common.{◌≡◌, ◌≤◌, is_some, subst, sym, refl, rules}
use Rattle.std.specs.Prelude.{None, true}
use Rattle.duplex_sender.specs.declared.Phase.TheVariants as phase
use Rattle.duplex_sender.specs.Sender.{phase_of}
use Rattle.embedded_response.specs.Giving.{chosen}
use Rattle.duplex_end.specs.End.{EndState}
use Rattle.duplex_end.specs.Joined.{most_left}
use Rattle.duplex_end.proofs.Joining.{none-left, begin-joined, begin-short, begin-fewer}
use Rattle.duplex_end.proofs.End.begin_next.Goals as goal

pub frame-requires-in-Sending-clause-none_begun : goal.frame-requires-in-Sending-clause-none_begun
frame-requires-in-Sending-clause-none_begun g c = none-left c.self.inside.mouth (subst (λ (e : EndState g.row.H.Denot). chosen e.mouth ≡ None) (sym c.self.view_is) c.requires)

pub invariant_of-self-in-Sending : goal.invariant_of-self-in-Sending
invariant_of-self-in-Sending g c = rw c.frame-in-Sending.ensures (begin-joined c.self.inside.mouth c.self.inside.sender c.self.inside.sender _ c.self.invariant.0 (search rules), begin-short c.self.inside.mouth _ (search rules))

pub invariant_of-self : goal.invariant_of-self
invariant_of-self g c = rw c.frame.ensures (begin-joined c.self.inside.mouth c.self.inside.sender _ _ c.self.invariant.0 (search rules), begin-short c.self.inside.mouth _ (search rules))

pub returns-then-ready-clause-no_more : goal.returns-then-ready-clause-no_more
returns-then-ready-clause-no_more g c =
    let after : EndState g.row.H.Denot = record { receiver = c.self.inside.receiver; sender = c.load.new.self; mouth = c.frame.new.self; sending = c.next.new.into.items; host = c.next.new.self } in
    let before : EndState g.row.H.Denot = record { receiver = c.self.inside.receiver; sender = c.self.inside.sender; mouth = c.self.inside.mouth; sending = c.self.inside.sending.items; host = c.self.inside.host } in
    let none : chosen c.self.inside.mouth ≡ None = subst (λ (e : EndState g.row.H.Denot). chosen e.mouth ≡ None) (sym c.self.view_is) c.requires in
    let idle : phase_of c.self.inside.sender ≡ phase.Idle = search rules in
    let ready : is_some (g.H.Host.next_body c.self.inside.host) ≡ true = search rules in
    let no_more : most_left g.H.Host after ≤ most_left g.H.Host before =
    rw c.frame.ensures (begin-fewer c.self.inside.mouth c.deref-then-ready.result.now (phase_of c.self.inside.sender) (phase_of c.load.new.self) (is_some (g.H.Host.next_body c.self.inside.host)) (is_some (g.H.Host.next_body c.next.new.self)) none (search rules) (rw (idle, ready) refl)) in
    subst (λ (e : EndState g.row.H.Denot). most_left g.H.Host after ≤ most_left g.H.Host e) c.self.view_is no_more

pub returns-in-Sending-clause-no_more : goal.returns-in-Sending-clause-no_more
returns-in-Sending-clause-no_more g c =
    let after : EndState g.row.H.Denot = record { receiver = c.self.inside.receiver; sender = c.self.inside.sender; mouth = c.frame-in-Sending.new.self; sending = c.fill.new.into.items; host = c.self.inside.host } in
    let before : EndState g.row.H.Denot = record { receiver = c.self.inside.receiver; sender = c.self.inside.sender; mouth = c.self.inside.mouth; sending = c.self.inside.sending.items; host = c.self.inside.host } in
    let none : chosen c.self.inside.mouth ≡ None = subst (λ (e : EndState g.row.H.Denot). chosen e.mouth ≡ None) (sym c.self.view_is) c.requires in
    let sends : phase_of c.self.inside.sender ≡ phase.Sending = search rules in
    let ready = is_some (g.H.Host.next_body c.self.inside.host) in
    let no_more : most_left g.H.Host after ≤ most_left g.H.Host before =
    rw c.frame-in-Sending.ensures (begin-fewer c.self.inside.mouth c.body-in-Sending.result.now (phase_of c.self.inside.sender) (phase_of c.self.inside.sender) ready ready none (search rules) (rw sends refl)) in
    subst (λ (e : EndState g.row.H.Denot). most_left g.H.Host after ≤ most_left g.H.Host e) c.self.view_is no_more
