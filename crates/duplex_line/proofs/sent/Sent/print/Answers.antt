use Rattle.std.proofs.Common.{◌≡◌, ◌<◌, ap, arith, length, sym, subst}
use Rattle.std.proofs.KnownBytes.{Appends-nil}
use Rattle.std.proofs.lemmas.Bool.Decides.{nat_tests}
use Rattle.std.proofs.lemmas.Grind.{common_steps}
use Rattle.df1_base.specs.Outside.{Put, WroteLess}
use Rattle.df1_base.proofs.Feeding.{on-err}
use Rattle.duplex_line.proofs.Told.{no-text, one-text}
use Rattle.duplex_line.proofs.sent.Sent.print.Goals as goal

pub returns-then-is_empty-clause-ok : goal.returns-then-is_empty-clause-ok
returns-then-is_empty-clause-ok g c =
    let none : length c.args.self.now.bytes ≡ 0 = grind (arith, nat_tests, common_steps) in
    subst (Put (g.K.Sink.held c.args.sink.now) (g.K.Sink.held c.args.sink.now)) (sym (no-text c.args.self.now.who c.args.self.now.bytes none)) (Appends-nil (g.K.Sink.held c.args.sink.now))

pub returns-in_err-put_sent-clause-missing : goal.returns-in_err-put_sent-clause-missing
returns-in_err-put_sent-clause-missing g c =
    let some : 0 < length c.args.self.now.bytes = grind (arith, nat_tests, common_steps) in
    on-err c.from_residual.result
    (subst (WroteLess (g.K.Sink.held c.args.sink.now) (g.K.Sink.held c.put_sent.new.sink)) (sym (one-text c.args.self.now.who c.args.self.now.bytes some)) (rw c.as_slice-bytes.ensures at c.in_err-put_sent.ensures.missing))

pub returns-in_err-put_sent-clause-untouched : goal.returns-in_err-put_sent-clause-untouched
returns-in_err-put_sent-clause-untouched g c none =
    let some : 0 < length c.args.self.now.bytes = grind (arith, nat_tests, common_steps) in
    absurd (omega (arith, some, ap length none))

pub returns-clause-ok : goal.returns-clause-ok
returns-clause-ok g c =
    let some : 0 < length c.args.self.now.bytes = grind (arith, nat_tests, common_steps) in
    subst (Put (g.K.Sink.held c.args.sink.now) (g.K.Sink.held c.put_sent.new.sink)) (sym (one-text c.args.self.now.who c.args.self.now.bytes some)) (rw c.as_slice-bytes.ensures at c.in_ok-put_sent.ensures.ok)

pub returns-clause-untouched : goal.returns-clause-untouched
returns-clause-untouched g c none =
    let some : 0 < length c.args.self.now.bytes = grind (arith, nat_tests, common_steps) in
    absurd (omega (arith, some, ap length none))
