use Rattle.reply_values.proofs.FloatWords.{float_again}
use Rattle.reply_values.proofs.laws.words_are_the_float.Goals as goal

pub returns : goal.returns
returns c = float_again
