use Rattle.std.proofs.Common.{◌∙◌, sym}
use Rattle.line_script.proofs.GivenCommands.{payload-found}
use Rattle.line_script.proofs.given_command.payload_in.Goals as goal

pub returns-in-Ok-Some : goal.returns-in-Ok-Some
returns-in-Ok-Some c = payload-found c.args.digits.now c.in-Ok-Some.bytes c.payload_of.result (sym c.in-Ok-Some.field-0-is ∙ c.in-Ok-Some.ensures.value) c.payload_of.ensures
