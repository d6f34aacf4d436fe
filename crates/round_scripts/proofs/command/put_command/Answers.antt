use Rattle.std.proofs.Common.{◌∙◌, refl}
use Rattle.std.proofs.lemmas.Result.{on_ok_weaker}
use Rattle.round_scripts.proofs.command.put_command.Goals as goal

pub returns : goal.returns
returns c = on_ok_weaker c.push.result (λ put. put ∙ rw c.in_ok-payload.ensures refl) c.push.ensures.ok
