use Rattle.plc_commands.proofs.Known.{order_known}
use Rattle.plc_commands.proofs.Spelled.{order_spelled}
use Rattle.plc_commands.proofs.laws.spelled_orders_are_read.Goals as goal

pub returns-clause-read : goal.returns-clause-read
returns-clause-read c = order_known

pub returns-clause-spelled : goal.returns-clause-spelled
returns-clause-spelled c order cmd payload bytes read = order_spelled cmd payload order bytes read
