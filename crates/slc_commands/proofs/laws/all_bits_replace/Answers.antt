use Rattle.slc_commands.proofs.WordLists.{all_bits}
use Rattle.slc_commands.proofs.laws.all_bits_replace.Goals as goal

pub returns : goal.returns
returns c = all_bits
