-- How the code keeps a sender's activity: the message beside its progress.
use Rattle.std.specs.Prelude.{List, ℕ}
use Rattle.duplex_sender.specs.declared.Progress.{Progress}
use Rattle.duplex_sender.specs.declared.Progress.TheVariants as progress
use Rattle.duplex_sender.specs.Sender.{Activity, Idle, Sending, Waiting}

-- the activity of a sender that holds this body at this progress
abbrev pub activity_of : Progress → List ℕ → Activity
activity_of progress.Idle body = Idle
activity_of (progress.Sending naks enqs) body = Sending body naks enqs
activity_of (progress.Waiting naks enqs left) body = Waiting body naks enqs left
