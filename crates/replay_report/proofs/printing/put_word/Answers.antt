use Rattle.std.proofs.Common.{◌≡◌, ◌∙◌}
use Rattle.replay_report.specs.Report.{word_text}
use Rattle.replay_report.proofs.printing.put_word.Goals as goal

pub returns-clause-missing : goal.returns-clause-missing
returns-clause-missing g c =
    let same : c.deref.result.now ≡ word_text c.args.word = c.deref.ensures.0 ∙ c.word_line.ensures in
    rw same at c.write_all.ensures.missing
