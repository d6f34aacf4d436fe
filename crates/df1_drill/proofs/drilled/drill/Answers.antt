use Rattle.std.proofs.Common.{◌≡◌, subst}
use Rattle.std.specs.Prelude.{IfOk}
use Rattle.script_parts.specs.declared.script.Script.{Script}
use Rattle.df1_drill.specs.Tally.{drilled, run_tally}
use Rattle.df1_drill.proofs.drilled.drill.Goals as goal

pub returns : goal.returns
unfolding drilled
returns c = subst (λ (s : Script). IfOk c.run_tally.result (λ d. d ≡ run_tally s)) c.in_ok-drill_script.ensures.script c.run_tally.ensures
