use Rattle.std.proofs.Common.{List, ℕ, ◌∷◌, [], ◌++◌, subst}
use Rattle.df1_check.specs.declared.Check.{Check}
use Rattle.duplex_receiver.specs.Receiver.{Hearing, ReceiverState, hearing}
use Rattle.duplex_receiver.specs.Hearing.{Stands}
use Rattle.duplex_receiver.proofs.Keeping.{stands-byte}
use Rattle.duplex_receiver.proofs.Receiver.on_byte.Goals as goal

pub returns-clause-stands : goal.returns-clause-stands
returns-clause-stands g c =
    let N = g.row.N in
    let room : List ℕ → _ = g.H.Host.room_for c.args.host.now in
    let after : ReceiverState = record { decoding = c.feed-heard.new.self; kept = c.act_on.new.filter } in
    let Goes : ReceiverState → Type 0 = λ s. (check : Check) (bytes : List ℕ) (before : List Hearing) → Stands check N bytes before s
    → Stands check N (bytes ++ c.args.b ∷ []) (before ++ hearing room N s c.args.b ∷ []) after in
    let goes : Goes (record { decoding = c.self.inside.decoder; kept = c.self.inside.filter }) = λ check bytes before stands.
    stands-byte room check N bytes before (record { decoding = c.self.inside.decoder; kept = c.self.inside.filter }) c.args.b
    c.feed-heard.new.self c.feed-heard.result c.body.result.now c.act_on.result c.act_on.new.filter
    c.feed-heard.ensures.value c.feed-heard.ensures.answer c.body.ensures.value c.act_on.ensures.act c.act_on.ensures.kept stands
    (c.feed-heard.ensures.stands check bytes stands.decodes) (c.feed-heard.ensures.heard check bytes stands.decodes) in
    subst Goes c.self.view_is goes
