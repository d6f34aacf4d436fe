-- The status of a replay in which nothing failed.
use Rattle.std.proofs.Common.{Ok, Err}
use Rattle.df1_tool.proofs.Statuses.{exact_status}
use Rattle.df1_tool.proofs.replaying.run.Goals as goal

pub returns-in-Ok-clause-exact : goal.returns-in-Ok-clause-exact
returns-in-Ok-clause-exact g c =
    let e = c.in-Ok.ensures in
    λ no_input no_output all told. exact_status all _ _ _ _ _ _ _ _ (Ok tt) (record { done = e.done; refusal = e.refusal; failed_input = e.input; failed_output = e.output }) no_input no_output told

pub returns-in-Err-clause-exact : goal.returns-in-Err-clause-exact
returns-in-Err-clause-exact g c =
    let e = c.in-Err.ensures in
    λ no_input no_output all told. rw c.refuse.ensures.status (exact_status all _ _ _ _ _ _ _ _ (Err c.in-Err.fault)
    (record { done = e.done; refusal = e.refusal; failed_input = e.input; failed_output = e.output }) no_input no_output told)
