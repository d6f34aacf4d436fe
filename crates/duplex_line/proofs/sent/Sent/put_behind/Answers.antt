use Rattle.std.proofs.Common.{◌∙◌, ◌++◌, List, ap, sym}
use Rattle.replay_report.specs.declared.record.Line.{Line}
use Rattle.duplex_line.proofs.Steps.EventSteps.{on_ok}
use Rattle.duplex_line.proofs.Told.{one-sent}
use Rattle.duplex_line.proofs.sent.Sent.put_behind.Goals as goal

pub returns-clause-lines : goal.returns-clause-lines
returns-clause-lines c =
    on_ok c.push.result (λ is. rw (c.no_bytes.ensures.lines, c.replace-bytes.ensures.value) at is ∙ ap (λ (more : List Line). c.args.lines.now ++ more) (sym (one-sent c.args.self.now.who c.args.self.now.bytes c.requires))) c.push.ensures.ok
