use Rattle.command_payloads.proofs.Read.{plc_read, slc_read}
use Rattle.command_payloads.proofs.laws.payloads_are_read.Goals as goal

pub returns-clause-plc : goal.returns-clause-plc
returns-clause-plc c = plc_read

pub returns-clause-slc : goal.returns-clause-slc
returns-clause-slc c = slc_read
