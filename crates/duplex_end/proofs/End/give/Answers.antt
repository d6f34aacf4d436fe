use Rattle.std.proofs.Common.{◌+◌, ◌≤◌, IsSome, is_some, subst}
use Rattle.duplex_end.specs.End.{EndState}
use Rattle.duplex_end.specs.Joined.{most_left}
use Rattle.duplex_end.proofs.Joining.{take-sends, take-joined, take-short, take-fewer}
use Rattle.duplex_end.proofs.End.give.Goals as goal

pub note_out-requires : goal.note_out-requires
note_out-requires g c = rw c.take-out.ensures.out (take-sends c.self.inside.mouth c.self.inside.sender c.self.invariant.0)

pub invariant_of-self : goal.invariant_of-self
invariant_of-self g c =
    rw (c.note_out.ensures, c.take-out.ensures.after, c.take-out.ensures.out)
    (take-joined c.self.inside.mouth c.self.inside.sender c.self.invariant.0, take-short c.self.inside.mouth c.self.invariant.1)

pub returns-clause-fewer : goal.returns-clause-fewer
returns-clause-fewer g c =
    let after : EndState g.row.H.Denot = record { receiver = c.self.inside.receiver; sender = c.note_out.new.sender; mouth = c.take-out.new.self; sending = c.self.inside.sending.items; host = c.self.inside.host } in
    let before : EndState g.row.H.Denot = record { receiver = c.self.inside.receiver; sender = c.self.inside.sender; mouth = c.self.inside.mouth; sending = c.self.inside.sending.items; host = c.self.inside.host } in
    let fewer : (IsSome c.take-out.result → most_left g.H.Host after + 1 ≤ most_left g.H.Host before) =
    rw (c.note_out.ensures, c.take-out.ensures.after, c.take-out.ensures.out) (take-fewer c.self.inside.mouth c.self.inside.sender (is_some (g.H.Host.next_body c.self.inside.host)) c.self.invariant.0) in
    subst (λ (e : EndState g.row.H.Denot). IsSome c.take-out.result → most_left g.H.Host after + 1 ≤ most_left g.H.Host e) c.self.view_is fewer
