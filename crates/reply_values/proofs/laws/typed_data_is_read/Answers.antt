use Rattle.reply_values.proofs.Known.{data_known}
use Rattle.reply_values.proofs.laws.typed_data_is_read.Goals as goal

pub returns : goal.returns
returns c = data_known
