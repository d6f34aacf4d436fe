use Rattle.data_files.proofs.Words.{word_at-with_word}
use Rattle.data_files.proofs.laws.one_word_is_set.Goals as goal

pub returns : goal.returns
returns c = word_at-with_word
