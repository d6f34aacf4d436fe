-- How a run ended, by how its script was read and its text written.
use Rattle.std.proofs.Common.{Ok, Err, refl, ap}
use Rattle.line_script.specs.declared.profile.Profile.TheVariants.{Rehearse}
use Rattle.whole_scripts.specs.Rehearsals.{HasPulled, pulled_text}
use Rattle.df1_tool.proofs.ScriptRuns.{not-output, run-ended}
use Rattle.df1_tool.proofs.scripts.pull.Goals as goal

pub returns-in-Ok-clause-run : goal.returns-in-Ok-clause-run
returns-in-Ok-clause-run g c =
    let e = c.in-Ok.ensures in
    run-ended Rehearse (pulled_text c.args.file c.args.count) (HasPulled c.args.file c.args.count) _ _ 0 (Ok tt) (refl, (refl, refl))
    (record { done = e.pulled; calm = e.calm; refusal = tt; input = e.input; output = e.output; taken = e.taken; unwritten = tt; steady = e.steady })

pub returns-in-Err-clause-run : goal.returns-in-Err-clause-run
returns-in-Err-clause-run g c =
    let e = c.in-Err.ensures in
    run-ended Rehearse (pulled_text c.args.file c.args.count) (HasPulled c.args.file c.args.count) _ _ c.refuse.result (Err c.in-Err.fault) (c.refuse.ensures.status, c.refuse.ensures.note)
    (record { done = tt; calm = tt; refusal = e.refusal; input = e.input; output = e.output; taken = e.taken; unwritten = λ other. ap g.K.Sink.faults (e.unwritten other); steady = tt })

pub returns-in-Err-clause-unwritten : goal.returns-in-Err-clause-unwritten
returns-in-Err-clause-unwritten g c = λ some other. c.in-Err.ensures.unwritten (not-output c.in-Err.fault c.refuse.result c.refuse.ensures.status other)
