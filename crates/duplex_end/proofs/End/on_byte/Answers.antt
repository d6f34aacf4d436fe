use Rattle.std.proofs.Common.{◌≡◌, ℕ, ◌∷◌, [], ◌++◌, List, ap, sym, subst, ◌∙◌}
use Rattle.std.specs.Prelude.{◌↔◌, IsTrue, false}
use Rattle.df1_base.specs.declared.link.Step.{Step}
use Rattle.df1_check.specs.declared.Check.{Check}
use Rattle.df1_frame.specs.Line.{ReadOff}
use Rattle.df1_frame.specs.Grammar.{full_duplex}
use Rattle.df1_frame.specs.Standing.{decoding}
use Rattle.duplex_receiver.specs.Receiver.{ReceiverState, is_whole}
use Rattle.duplex_end.specs.End.{EndState}
use Rattle.duplex_end.specs.Arrived.{StandsFor, HearsWhole}
use Rattle.duplex_end.proofs.Arriving.{receiver-byte, receiver-whole}
use Rattle.duplex_end.proofs.End.on_byte.Goals as goal

pub returns-in-Nothing-clause-stands : goal.returns-in-Nothing-clause-stands
returns-in-Nothing-clause-stands g c =
    let Goes : EndState g.row.H.Denot → Type 0 = λ e. (check : Check) (bytes : List ℕ) → StandsFor check bytes e → ReadOff (full_duplex check 250) (bytes ++ c.args.b ∷ []) (decoding check 250) c.on_byte.new.self.decoding in
    subst Goes c.self.view_is (λ check bytes stands.
    subst (λ (s : ReceiverState). ReadOff (full_duplex check 250) (bytes ++ c.args.b ∷ []) (decoding check 250) s.decoding) (sym c.on_byte.ensures.state)
    (receiver-byte (g.H.Host.room_for c.self.inside.host) c.self.inside.receiver c.args.b check bytes stands))

pub returns-in-Nothing-clause-whole : goal.returns-in-Nothing-clause-whole
returns-in-Nothing-clause-whole g c =
    let Tells : EndState g.row.H.Denot → Type 0 = λ e. (check : Check) (bytes : List ℕ) → StandsFor check bytes e → IsTrue false ↔ HearsWhole check (bytes ++ c.args.b ∷ []) in
    subst Tells c.self.view_is (λ check bytes stands.
    receiver-whole (g.H.Host.room_for c.self.inside.host) c.self.inside.receiver c.args.b check bytes false c.in-Nothing.ensures.whole stands)

pub returns-in_default-clause-stands : goal.returns-in_default-clause-stands
returns-in_default-clause-stands g c =
    let Goes : EndState g.row.H.Denot → Type 0 = λ e. (check : Check) (bytes : List ℕ) → StandsFor check bytes e → ReadOff (full_duplex check 250) (bytes ++ c.args.b ∷ []) (decoding check 250) c.answer_to.new.self.receiver.decoding in
    let same : c.answer_to.new.self.receiver ≡ c.on_byte.new.self = ap (λ (e : EndState g.row.H.Denot). e.receiver) c.answer_to.ensures.state in
    subst Goes c.self.view_is (λ check bytes stands.
    subst (λ (s : ReceiverState). ReadOff (full_duplex check 250) (bytes ++ c.args.b ∷ []) (decoding check 250) s.decoding) (sym (same ∙ c.on_byte.ensures.state))
    (receiver-byte (g.H.Host.room_for c.self.inside.host) c.self.inside.receiver c.args.b check bytes stands))

pub returns-in_default-clause-whole : goal.returns-in_default-clause-whole
returns-in_default-clause-whole g c =
    let Tells : EndState g.row.H.Denot → Type 0 = λ e. (check : Check) (bytes : List ℕ) → StandsFor check bytes e → IsTrue c.answer_to.result.whole ↔ HearsWhole check (bytes ++ c.args.b ∷ []) in
    let same : c.answer_to.result.whole ≡ is_whole c.on_byte.result = ap (λ (s : Step). s.whole) c.answer_to.ensures.step in
    subst Tells c.self.view_is (λ check bytes stands.
    receiver-whole (g.H.Host.room_for c.self.inside.host) c.self.inside.receiver c.args.b check bytes c.answer_to.result.whole (same ∙ c.on_byte.ensures.whole) stands)
