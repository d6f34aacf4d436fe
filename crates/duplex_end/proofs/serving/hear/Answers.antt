use Rattle.std.proofs.Common.{◌∷◌, [], ◌++◌, List, ℕ, Some, None, sym, ap, subst, ◌∙◌}
use Rattle.df1_base.specs.declared.signal.Signal.{Signal}
use Rattle.duplex_end.proofs.Signals.{Gives, gives-byte, gives-tick, gives-take}
use Rattle.duplex_end.proofs.serving.hear.Goals as goal

pub returns-in-Byte : goal.returns-in-Byte
returns-in-Byte g c =
    let e = c.args.end.now in
    subst (λ (s : Signal). Gives g.H.Host e (s ∷ []) c.on_byte.new.self c.clear.new.self.items) (sym c.in-Byte.is)
    (gives-byte g.H.Host e c.on_byte.new.self c.in-Byte.b c.clear.new.self.items c.on_byte.ensures.state c.clear.ensures)

pub returns-in-Tick : goal.returns-in-Tick
returns-in-Tick g c =
    let e = c.args.end.now in
    subst (λ (s : Signal). Gives g.H.Host e (s ∷ []) c.on_tick.new.self c.clear.new.self.items) (sym c.in-Tick.is)
    (gives-tick g.H.Host e c.on_tick.new.self c.clear.new.self.items c.on_tick.ensures.state c.clear.ensures)

pub returns-in-Some : goal.returns-in-Some
returns-in-Some g c =
    let e = c.args.end.now in
    let pushed = c.push.ensures.items ∙ ap (λ (bytes : List ℕ). bytes ++ c.in-Some.out.byte ∷ []) c.clear.ensures in
    subst (λ (s : Signal). Gives g.H.Host e (s ∷ []) c.take.new.self c.push.new.self.items) (sym c.in-Take.is)
    (gives-take g.H.Host e c.take.new.self (Some c.in-Some.out) c.push.new.self.items c.take.ensures.state (sym c.in-Some.is ∙ c.take.ensures.out) pushed)

pub returns-in_default : goal.returns-in_default
returns-in_default g c =
    let e = c.args.end.now in
    subst (λ (s : Signal). Gives g.H.Host e (s ∷ []) c.take.new.self c.clear.new.self.items) (sym c.in-Take.is)
    (gives-take g.H.Host e c.take.new.self None c.clear.new.self.items c.take.ensures.state (sym c.in_default.is ∙ c.take.ensures.out) c.clear.ensures)

pub returns-in-Drain : goal.returns-in-Drain
returns-in-Drain g c =
    subst (λ (s : Signal). Gives g.H.Host c.args.end.now (s ∷ []) c.drain.new.end c.drain.new.given.items) (sym c.in-Drain.is) c.drain.ensures
