use Rattle.std.proofs.Common.{◌≡◌, ◌≤◌, ◌++◌, ◌∷◌, [], length, ap, sym, subst, ◌∙◌}
use Rattle.df1_base.specs.declared.link.Step.{Step}
use Rattle.half_frame.specs.SlaveStanding.{Listening, lent_at}
use Rattle.half_slave.specs.Slave.{SlaveState, station_of, heard_at, slave_after_byte, step_at_byte}
use Rattle.half_slave.specs.Arrived.{StandsFor, TellsMessage}
use Rattle.half_slave.proofs.Rows.{byte-ear}
use Rattle.half_slave.proofs.Lent.{lent-6}
use Rattle.half_slave.proofs.Arriving.{whole-is, stands-byte, byte-tells}
use Rattle.half_slave.proofs.Slave.on_byte.Goals as goal

pub returns-clause-lends : goal.returns-clause-lends
returns-clause-lends g c =
    let s = c.args.self.now in
    let b = c.args.b in
    let state : c.on_heard.new.self ≡ slave_after_byte g.H.Host s b = cc (c.listen-heard.ensures.state, c.listen-heard.ensures.heard, c.on_heard.ensures.state) in
    let step : c.on_heard.result ≡ step_at_byte g.H.Host s b = cc (c.listen-heard.ensures.state, c.listen-heard.ensures.heard, c.on_heard.ensures.step) in
    let ear : c.on_heard.new.self.ear ≡ _ = ap (λ (after : SlaveState g.row.H.Denot). after.ear) state ∙ byte-ear g.H.Host s b in
    λ whole.
    subst (λ (e : Listening). 6 ≤ length (lent_at e.standing)) (sym ear)
    (lent-6 s.ear b (station_of (heard_at s b)) (whole-is (heard_at s b) (sym (ap (λ (told : Step). told.whole) step) ∙ whole)))

pub returns-clause-stands : goal.returns-clause-stands
returns-clause-stands g c =
    let s = c.args.self.now in
    let state : c.on_heard.new.self ≡ slave_after_byte g.H.Host s c.args.b = cc (c.listen-heard.ensures.state, c.listen-heard.ensures.heard, c.on_heard.ensures.state) in
    λ check bytes stands. subst (λ (after : SlaveState g.row.H.Denot). StandsFor check (bytes ++ c.args.b ∷ []) after) (sym state) (stands-byte g.H.Host s c.args.b check bytes stands)

pub returns-clause-whole : goal.returns-clause-whole
returns-clause-whole g c =
    let s = c.args.self.now in
    let step : c.on_heard.result ≡ step_at_byte g.H.Host s c.args.b = cc (c.listen-heard.ensures.state, c.listen-heard.ensures.heard, c.on_heard.ensures.step) in
    λ check bytes stands. subst (λ (told : Step). TellsMessage check (bytes ++ c.args.b ∷ []) told.whole told.station) (sym step) (byte-tells g.H.Host s c.args.b check bytes stands)
