use Rattle.data_files.proofs.WordLists.{words_of-bytes_of}
use Rattle.slc_commands.proofs.laws.bytes_are_words.Goals as goal

pub returns : goal.returns
returns c = words_of-bytes_of
