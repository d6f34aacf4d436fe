use Rattle.std.proofs.Common.{◌≡◌, Ok, subst}
use Rattle.std.specs.Prelude.{MatchResult}
use Rattle.line_script.specs.declared.profile.Profile.{Profile}
use Rattle.line_script.specs.Refusal.{IsRefused}
use Rattle.line_script.specs.ScriptText.{text_for}
use Rattle.line_script.proofs.LongTexts.{by-lines}
use Rattle.line_script.proofs.Profiles.{IfOk-playable-lines, IfOk-rehearsed, IfOk-routed}
use Rattle.line_script.proofs.whole_text.read_profile.Goals as goal

pub returns-clause-exact : goal.returns-clause-exact
returns-clause-exact c = rw (by-lines c.args.profile c.args.text.now) c.read_lines.ensures

pub returns-clause-playable : goal.returns-clause-playable
returns-clause-playable c other = IfOk-playable-lines c.args.profile c.args.text.now c.read_lines.result other c.read_lines.ensures

pub returns-clause-routed : goal.returns-clause-routed
returns-clause-routed c route =
    IfOk-routed c.args.text.now c.read_lines.result
    (subst (λ (p : Profile). MatchResult c.read_lines.result (λ script. text_for p c.args.text.now ≡ Ok script) (λ fault. IsRefused fault (text_for p c.args.text.now))) route c.read_lines.ensures)

pub returns-clause-rehearsed : goal.returns-clause-rehearsed
returns-clause-rehearsed c rehearse =
    IfOk-rehearsed c.args.text.now c.read_lines.result
    (subst (λ (p : Profile). MatchResult c.read_lines.result (λ script. text_for p c.args.text.now ≡ Ok script) (λ fault. IsRefused fault (text_for p c.args.text.now))) rehearse c.read_lines.ensures)
