use Rattle.bulk_transfer.proofs.MovedRuns.{pulled, pulled-whole}
use Rattle.bulk_transfer.proofs.laws.pulled_words_are_those_of_the_file.Goals as goal

pub returns-clause-moved : goal.returns-clause-moved
returns-clause-moved c = pulled

pub returns-clause-whole : goal.returns-clause-whole
returns-clause-whole c = pulled-whole
