-- What the lines so far allow.
use Rattle.std.specs.Prelude.{Bool, true, false}
use Rattle.script_statement.specs.declared.statement.Statement.{Statement}
use Rattle.script_statement.specs.declared.statement.Statement.TheVariants.{Mode, Check, Station, Setup, Issue, IssueFrom, Times, Alter, Foreign, Half, End}
use Rattle.end_drafts.specs.declared.stage.Stage.{Stage}
use Rattle.end_drafts.specs.declared.stage.Stage.TheVariants.{Fresh, Settings, Events, Ended}

-- no line of a form was there
abbrev pub is_fresh : Stage → Bool
is_fresh Fresh = true
is_fresh stage = false

-- an event was there, or `end`: no setting, station, file or word may follow
abbrev pub is_set_up : Stage → Bool
is_set_up Fresh = false
is_set_up Settings = false
is_set_up Events = true
is_set_up Ended = true

abbrev pub stage_after : Statement → Stage
stage_after (Mode half) = Settings
stage_after (Check check) = Settings
stage_after (Station number) = Settings
stage_after (Setup end line) = Settings
stage_after (Issue side payload) = Events
stage_after (IssueFrom side src payload) = Events
stage_after (Times side verb n) = Events
stage_after (Alter side mask) = Events
stage_after (Foreign side bytes) = Events
stage_after (Half event) = Events
stage_after End = Ended
