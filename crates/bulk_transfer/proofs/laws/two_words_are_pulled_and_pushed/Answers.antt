use Rattle.bulk_transfer.proofs.MovedWitness.{pull-undisturbed, push-undisturbed, two_words-file, two_words-pulled, two_words-pushed, two_words-rehearsable, two_words-writable}
use Rattle.bulk_transfer.proofs.laws.two_words_are_pulled_and_pushed.Goals as goal

pub returns-clause-rehearsable : goal.returns-clause-rehearsable
returns-clause-rehearsable c = two_words-rehearsable

pub returns-clause-file : goal.returns-clause-file
returns-clause-file c = two_words-file

pub returns-clause-writable : goal.returns-clause-writable
returns-clause-writable c = two_words-writable

pub returns-clause-pull_undisturbed : goal.returns-clause-pull_undisturbed
returns-clause-pull_undisturbed c = pull-undisturbed

pub returns-clause-pulled : goal.returns-clause-pulled
returns-clause-pulled c = two_words-pulled

pub returns-clause-push_undisturbed : goal.returns-clause-push_undisturbed
returns-clause-push_undisturbed c = push-undisturbed

pub returns-clause-pushed : goal.returns-clause-pushed
returns-clause-pushed c = two_words-pushed
