use Rattle.command_payloads.proofs.Read.{plc_command, slc_command}
use Rattle.command_payloads.proofs.laws.payloads_are_commands.Goals as goal

pub returns-clause-plc : goal.returns-clause-plc
returns-clause-plc c = plc_command

pub returns-clause-slc : goal.returns-clause-slc
returns-clause-slc c = slc_command
