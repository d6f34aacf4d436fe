use Rattle.bulk_transfer.proofs.MovedRuns.{pushed, pushed-whole}
use Rattle.bulk_transfer.proofs.laws.pushed_data_are_in_the_file.Goals as goal

pub returns-clause-moved : goal.returns-clause-moved
returns-clause-moved c = pushed

pub returns-clause-whole : goal.returns-clause-whole
returns-clause-whole c = pushed-whole
