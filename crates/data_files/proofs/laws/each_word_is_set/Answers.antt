use Rattle.data_files.proofs.Words.{word_at-with_words}
use Rattle.data_files.proofs.laws.each_word_is_set.Goals as goal

pub returns : goal.returns
returns c = word_at-with_words
