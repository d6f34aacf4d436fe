use Rattle.std.proofs.Common.{◌∙◌, ap, subst}
use Rattle.std.specs.List.{flat_map}
use Rattle.std.proofs.lemmas.Result.{on_err_weaker, on_ok_weaker}
use Rattle.df1_base.specs.Outside.{Put, WroteLess}
use Rattle.df1_base.proofs.Feeding.{on-err}
use Rattle.replay_report.specs.Report.{line_text}
use Rattle.duplex_line.specs.Plays.{Played}
use Rattle.duplex_line.proofs.Told.{all-put, less-of-lines, less-of-sent, none-stands}
use Rattle.duplex_line.proofs.world.DuplexWorld.print_lines.Goals as goal

pub returns-in_err-print-clause-missing : goal.returns-in_err-print-clause-missing
returns-in_err-print-clause-missing g c =
    let inside = c.self.inside in
    on-err c.from_residual.result (subst (WroteLess (g.K.Sink.held c.args.sink.now) (g.K.Sink.held c.print.new.sink)) (ap (λ (p : Played). flat_map line_text p.lines) c.self.view_is)
    (less-of-lines _ _ inside.reported.lines inside.sent c.in_err-print.ensures.missing))

pub returns-in_err-print-clause-untouched : goal.returns-in_err-print-clause-untouched
returns-in_err-print-clause-untouched g c none =
    let inside = c.self.inside in
    c.print.ensures.untouched (none-stands inside.reported.lines inside.sent (ap (λ (p : Played). p.lines) c.self.view_is ∙ none)).0

pub returns-clause-ok : goal.returns-clause-ok
returns-clause-ok g c =
    let inside = c.self.inside in
    on_ok_weaker c.print-2.result (λ put. subst (Put (g.K.Sink.held c.args.sink.now) (g.K.Sink.held c.print-2.new.sink)) (ap (λ (p : Played). flat_map line_text p.lines) c.self.view_is)
    (all-put _ _ _ inside.reported.lines inside.sent c.in_ok-print.ensures.ok put)) c.print-2.ensures.ok

pub returns-clause-missing : goal.returns-clause-missing
returns-clause-missing g c =
    let inside = c.self.inside in
    on_err_weaker c.print-2.result (λ less. subst (WroteLess (g.K.Sink.held c.args.sink.now) (g.K.Sink.held c.print-2.new.sink)) (ap (λ (p : Played). flat_map line_text p.lines) c.self.view_is)
    (less-of-sent _ _ _ inside.reported.lines inside.sent c.in_ok-print.ensures.ok less)) c.print-2.ensures.missing

pub returns-clause-untouched : goal.returns-clause-untouched
returns-clause-untouched g c none =
    let inside = c.self.inside in
    let both = none-stands inside.reported.lines inside.sent (ap (λ (p : Played). p.lines) c.self.view_is ∙ none) in
    c.print-2.ensures.untouched both.1 ∙ c.in_ok-print.ensures.untouched both.0
