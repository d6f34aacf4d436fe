use Rattle.std.proofs.Common.{◌≡◌, [], ◌∷◌, ◌++◌, true, Some, sym, subst, ◌∙◌}
use Rattle.std.specs.Prelude.{◌↔◌}
use Rattle.df1_base.specs.Host.{IsBody}
use Rattle.df1_base.specs.declared.link.Step.{Step}
use Rattle.half_frame.specs.declared.heard.MasterHeard.TheVariants as heard
use Rattle.half_master.specs.Master.{MasterState, body_of, master_after_byte, step_at_byte}
use Rattle.half_master.specs.Arrived.{StandsFor, HearsWhole}
use Rattle.half_master.proofs.GoodMessages.{good-6}
use Rattle.half_master.proofs.FittingLemmas.{heard-suits, heard-room}
use Rattle.half_master.proofs.EarLemmas.{stands-byte, whole-byte}
use Rattle.half_master.proofs.Reading.{Parts, after-byte, step-byte}
use Rattle.half_master.proofs.Master.on_byte.Goals as goal

pub take_in-did-requires : goal.take_in-did-requires
take_in-did-requires g c =
    let e : MasterState g.row.H.Denot = record { setup = c.self.inside.setup; stations = c.self.inside.stations.items; next = c.self.inside.next; ear = c.feed-heard.new.self; phase = c.self.inside.phase; mouth = c.self.inside.mouth; sending = c.self.inside.sending.items; host = c.self.inside.host } in
    let good : (c.feed-heard.result ≡ Some heard.Good → IsBody (body_of e)) = λ is.
    (rw c.feed-heard.ensures.value (good-6 c.self.inside.ear c.args.b (sym c.feed-heard.ensures.answer ∙ is)), rw (sym c.body.ensures.value) c.body.ensures.fits) in
    λ place is. rw c.body.ensures.value (heard-room g.H.Host e c.feed-heard.result good place (sym c.effect_heard-effect.ensures ∙ is))

pub perform-requires : goal.perform-requires
perform-requires g c =
    let e : MasterState g.row.H.Denot = record { setup = c.self.inside.setup; stations = c.self.inside.stations.items; next = c.self.inside.next; ear = c.feed-heard.new.self; phase = c.self.inside.phase; mouth = c.self.inside.mouth; sending = c.self.inside.sending.items; host = c.self.inside.host } in
    let good : (c.feed-heard.result ≡ Some heard.Good → IsBody (body_of e)) = λ is.
    (rw c.feed-heard.ensures.value (good-6 c.self.inside.ear c.args.b (sym c.feed-heard.ensures.answer ∙ is)), rw (sym c.body.ensures.value) c.body.ensures.fits) in
    rw c.effect_heard-effect.ensures (heard-suits g.H.Host e c.feed-heard.result c.self.invariant.phase_fits good)

pub returns-clause-state : goal.returns-clause-state
returns-clause-state g c =
    let e : MasterState g.row.H.Denot = record { setup = c.self.inside.setup; stations = c.self.inside.stations.items; next = c.self.inside.next; ear = c.self.inside.ear; phase = c.self.inside.phase; mouth = c.self.inside.mouth; sending = c.self.inside.sending.items; host = c.self.inside.host } in
    let parts : Parts g.H.Host e c.args.b c.feed-heard.new.self c.feed-heard.result c.effect_heard-effect.result c.body.result.now c.take_in-did.new.host c.tell-news.new.host = record {
      ear_is = c.feed-heard.ensures.value;
      what_is = c.feed-heard.ensures.answer;
      effect_is = c.effect_heard-effect.ensures;
      body_is = c.body.ensures.value;
      took_is = c.take_in-did.ensures.after;
      told_is = c.tell-news.ensures.after;
    } in
    subst (λ (x : MasterState g.row.H.Denot). c.perform.new.self ≡ master_after_byte g.H.Host x c.args.b) c.self.view_is
    (c.perform.ensures ∙ after-byte g.H.Host e c.args.b c.feed-heard.new.self c.feed-heard.result c.effect_heard-effect.result c.body.result.now c.take_in-did.new.host c.tell-news.new.host parts)

pub returns-clause-step : goal.returns-clause-step
returns-clause-step g c =
    let e : MasterState g.row.H.Denot = record { setup = c.self.inside.setup; stations = c.self.inside.stations.items; next = c.self.inside.next; ear = c.self.inside.ear; phase = c.self.inside.phase; mouth = c.self.inside.mouth; sending = c.self.inside.sending.items; host = c.self.inside.host } in
    let parts : Parts g.H.Host e c.args.b c.feed-heard.new.self c.feed-heard.result c.effect_heard-effect.result c.body.result.now c.take_in-did.new.host c.tell-news.new.host = record {
      ear_is = c.feed-heard.ensures.value;
      what_is = c.feed-heard.ensures.answer;
      effect_is = c.effect_heard-effect.ensures;
      body_is = c.body.ensures.value;
      took_is = c.take_in-did.ensures.after;
      told_is = c.tell-news.ensures.after;
    } in
    let told : Step = record { act = c.act_of.result; did = c.take_in-did.result; news = c.tell-news.result; whole = c.is_whole.result; station = 0 } in
    subst (λ (x : MasterState g.row.H.Denot). told ≡ step_at_byte g.H.Host x c.args.b) c.self.view_is
    (rw (c.act_of.ensures, c.take_in-did.ensures.did, c.tell-news.ensures.news, c.is_whole.ensures)
    (step-byte g.H.Host e c.args.b c.feed-heard.new.self c.feed-heard.result c.effect_heard-effect.result c.body.result.now c.take_in-did.new.host c.tell-news.new.host parts))

pub returns-clause-stands : goal.returns-clause-stands
returns-clause-stands g c =
    λ check bytes stands. subst (λ (x : MasterState g.row.H.Denot). StandsFor check (bytes ++ c.args.b ∷ []) x) (sym (returns-clause-state g c)) (stands-byte g.H.Host c.args.self.now c.args.b check bytes stands)

pub returns-clause-whole : goal.returns-clause-whole
returns-clause-whole g c =
    λ check bytes stands. subst (λ (t : Step). (t.whole ≡ true) ↔ HearsWhole check (bytes ++ c.args.b ∷ [])) (sym (returns-clause-step g c)) (whole-byte g.H.Host c.args.self.now c.args.b check bytes stands)
