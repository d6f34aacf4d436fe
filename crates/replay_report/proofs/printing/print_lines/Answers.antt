use Rattle.std.proofs.Common.{◌∙◌, ap, arith, length}
use Rattle.df1_base.proofs.Feeding.{on-err}
use Rattle.df1_base.proofs.Laws.{later_then}
use Rattle.replay_report.specs.Report.{line_text}
use Rattle.replay_report.proofs.Writing.{put_item, put_items, less_item}
use Rattle.replay_report.proofs.printing.print_lines.Goals as goal

pub loop-line-preserved : goal.loop-line-preserved
loop-line-preserved g c = record {
  put = put_item line_text _ _ _ c.args.lines.now c.loop-line.line-index c.line-item.result c.loop-line-test.true c.loop-line.invariant.put (rw c.line-item.is at c.in_ok-put_line.ensures.ok);
  untouched = λ none. absurd (omega (arith, c.loop-line-test.true, ap length none));
  calm = c.in_ok-put_line.ensures.calm ∙ c.loop-line.invariant.calm;
  later = later_then _ _ _ _ _ _ c.loop-line.invariant.later c.in_ok-put_line.ensures.later;
}

pub returns-in_err-put_line-clause-missing : goal.returns-in_err-put_line-clause-missing
returns-in_err-put_line-clause-missing g c =
    on-err c.from_residual.result
    (less_item line_text _ _ _ c.args.lines.now c.loop-line.line-index c.line-item.result c.loop-line-test.true c.loop-line.invariant.put (rw c.line-item.is at c.in_err-put_line.ensures.missing))

pub returns-in_err-put_line-clause-untouched : goal.returns-in_err-put_line-clause-untouched
returns-in_err-put_line-clause-untouched g c none = absurd (omega (arith, c.loop-line-test.true, ap length none))

pub returns-clause-ok : goal.returns-clause-ok
returns-clause-ok g c = put_items line_text _ _ c.args.lines.now c.loop-line.line-index c.loop-line-test.false c.loop-line.invariant.put
