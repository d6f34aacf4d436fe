-- A report, and what stands behind it.
use Rattle.std.proofs.lemmas.Result.{on_err_weaker}
use Rattle.bulk_orders.specs.Telling.{pull_line, push_line}
use Rattle.df1_base.proofs.Feeding.{on-err}
use Rattle.replay_report.specs.Report.{report}
use Rattle.replay_report.proofs.Writing.{less_behind, less_of_more}
use Rattle.whole_scripts.proofs.printing.tell.Goals as goal

pub returns-in_err-print-in-Pulled-clause-missing : goal.returns-in_err-print-in-Pulled-clause-missing
returns-in_err-print-in-Pulled-clause-missing g c =
    let told = c.in-Pulled.rehearsal.now in
    rw c.in-Pulled.is (on-err c.from_residual.result (less_of_more _ _ (report told.report) (pull_line told.bulk told.words) c.in_err-print-in-Pulled.ensures.missing))

pub returns-in_err-print-in-Pushed-clause-missing : goal.returns-in_err-print-in-Pushed-clause-missing
returns-in_err-print-in-Pushed-clause-missing g c =
    let told = c.in-Pushed.rehearsal.now in
    rw c.in-Pushed.is (on-err c.from_residual-in_err-print-in-Pushed.result (less_of_more _ _ (report told.report) (push_line told.bulk c.in-Pushed.orders) c.in_err-print-in-Pushed.ensures.missing))

pub returns-in_ok-print-in-Pulled-clause-missing : goal.returns-in_ok-print-in-Pulled-clause-missing
returns-in_ok-print-in-Pulled-clause-missing g c =
    let told = c.in-Pulled.rehearsal.now in
    rw c.in-Pulled.is
    (on_err_weaker c.put_pull_result.result
    (λ less. less_behind _ _ _ (report told.report) (pull_line told.bulk told.words) c.in_ok-print-in-Pulled.ensures.ok less) (rw c.as_slice.ensures at c.put_pull_result.ensures.missing))

pub returns-in_ok-print-in-Pushed-clause-missing : goal.returns-in_ok-print-in-Pushed-clause-missing
returns-in_ok-print-in-Pushed-clause-missing g c =
    let told = c.in-Pushed.rehearsal.now in
    rw c.in-Pushed.is
    (on_err_weaker c.put_push_result.result
    (λ less. less_behind _ _ _ (report told.report) (push_line told.bulk c.in-Pushed.orders) c.in_ok-print-in-Pushed.ensures.ok less) c.put_push_result.ensures.missing)
