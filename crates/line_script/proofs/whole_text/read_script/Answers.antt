use Rattle.line_script.specs.declared.profile.Profile.TheVariants.{Replay}
use Rattle.line_script.specs.ScriptText.{script_of}
use Rattle.line_script.proofs.Profiles.{IfOk-playable-lines}
use Rattle.line_script.proofs.whole_text.read_script.Goals as goal

pub returns-clause-exact : goal.returns-clause-exact
unfolding script_of
returns-clause-exact c = c.read_lines.ensures

pub returns-clause-playable : goal.returns-clause-playable
returns-clause-playable c = IfOk-playable-lines Replay c.args.text.now c.read_lines.result (λ is. cc) c.read_lines.ensures
