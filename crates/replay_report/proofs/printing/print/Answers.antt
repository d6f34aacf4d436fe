use Rattle.std.proofs.Common.{◌≡◌, ◌∙◌}
use Rattle.std.specs.List.{flat_map}
use Rattle.std.proofs.lemmas.Result.{on_err_weaker, on_ok_weaker}
use Rattle.df1_base.proofs.Feeding.{on-err}
use Rattle.replay_report.specs.Report.{report, line_text, word_text, deceived_text}
use Rattle.replay_report.proofs.Writing.{put_three, less_first, less_second, less_third}
use Rattle.replay_report.proofs.printing.print.Goals as goal

pub returns-in_err-print_lines-clause-missing : goal.returns-in_err-print_lines-clause-missing
unfolding report
returns-in_err-print_lines-clause-missing g c =
    let r = c.args.record_of.now in
    on-err c.from_residual.result (less_first _ _ (flat_map line_text r.lines) (flat_map word_text r.words) (deceived_text r.deceived) (rw c.as_slice.ensures at c.in_err-print_lines.ensures.missing))

pub returns-in_err-put_words-clause-missing : goal.returns-in_err-put_words-clause-missing
unfolding report
returns-in_err-put_words-clause-missing g c =
    let r = c.args.record_of.now in
    on-err c.from_residual-in_err-put_words.result
    (less_second _ _ _ (flat_map line_text r.lines) (flat_map word_text r.words) (deceived_text r.deceived) (rw c.as_slice.ensures at c.in_ok-print_lines.ensures.ok) (rw c.as_slice-2.ensures at c.in_err-put_words.ensures.missing))

pub returns-clause-ok : goal.returns-clause-ok
unfolding report
returns-clause-ok g c =
    let r = c.args.record_of.now in
    let same : c.deref.result.now ≡ deceived_text r.deceived = c.deref.ensures.0 ∙ c.deceived_line.ensures in
    on_ok_weaker c.write_all.result
    (λ put. put_three _ _ _ _ (flat_map line_text r.lines) (flat_map word_text r.words) (deceived_text r.deceived) (rw c.as_slice.ensures at c.in_ok-print_lines.ensures.ok) (rw c.as_slice-2.ensures at c.in_ok-put_words.ensures.ok) (rw same at put)) c.write_all.ensures.ok

pub returns-clause-missing : goal.returns-clause-missing
unfolding report
returns-clause-missing g c =
    let r = c.args.record_of.now in
    let same : c.deref.result.now ≡ deceived_text r.deceived = c.deref.ensures.0 ∙ c.deceived_line.ensures in
    on_err_weaker c.write_all.result
    (λ less. less_third _ _ _ _ (flat_map line_text r.lines) (flat_map word_text r.words) (deceived_text r.deceived) (rw c.as_slice.ensures at c.in_ok-print_lines.ensures.ok) (rw c.as_slice-2.ensures at c.in_ok-put_words.ensures.ok) (rw same at less)) c.write_all.ensures.missing
