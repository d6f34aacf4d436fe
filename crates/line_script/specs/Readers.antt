-- What the lines so far say, in the mode that the first of them chooses, and a statement that follows them.
use Rattle.std.specs.Prelude.{Bool, true, false, ◌&&◌, Option, None, Result, Ok, Err, if◌then◌else◌}
use Rattle.duplex_script.specs.declared.reader.DuplexReader.{DuplexReader}
use Rattle.duplex_script.specs.Drafts as duplex
use Rattle.end_drafts.specs.declared.flaw.Flaw.{Flaw}
use Rattle.end_drafts.specs.declared.stage.Stage.{Stage}
use Rattle.end_drafts.specs.Stages.{is_fresh}
use Rattle.half_script.specs.declared.reader.HalfReader.{HalfReader}
use Rattle.half_script.specs.Drafts as half
use Rattle.script_statement.specs.declared.statement.Statement.{Statement}
use Rattle.script_statement.specs.declared.statement.Statement.TheVariants.{Mode}
use Rattle.script_parts.specs.declared.script.Event.{Event}
use Rattle.line_script.specs.declared.profile.Profile.{Profile}
use Rattle.line_script.specs.declared.profile.Profile.TheVariants.{Replay, Route, Rehearse}
use Rattle.line_script.specs.declared.reader.Reader.{Reader}
use Rattle.line_script.specs.declared.reader.Reader.TheVariants.{Full, Half}

-- before any line: full duplex
abbrev pub fresh : Reader
fresh = Full duplex.fresh

-- the same by what is read: for a route a half-duplex line whose master carries messages
abbrev pub fresh_for : Profile → Reader
fresh_for Replay = fresh
fresh_for Route = Half (half.fresh_reader true)
fresh_for Rehearse = fresh

abbrev pub stage_of : Reader → Stage
stage_of (Full d) = d.stage
stage_of (Half d) = d.stage

-- a statement chooses half duplex, as the first one
abbrev pub begins_half : Reader → Statement → Bool
begins_half (Full d) (Mode half) = half && is_fresh d.stage
begins_half d statement = false

abbrev pub in_full : Result (DuplexReader × Option Event) Flaw → Result (Reader × Option Event) Flaw
in_full (Err flaw) = Err flaw
in_full (Ok step) = Ok (Full step.0, step.1)

abbrev pub in_half : Result (HalfReader × Option Event) Flaw → Result (Reader × Option Event) Flaw
in_half (Err flaw) = Err flaw
in_half (Ok step) = Ok (Half step.0, step.1)

-- a statement in the mode of the lines so far
abbrev pub in_mode : Reader → Statement → Result (Reader × Option Event) Flaw
in_mode (Full d) statement = in_full (duplex.after_statement d statement)
in_mode (Half d) statement = in_half (half.after_statement d statement)

-- a statement after the lines so far
abbrev pub after_statement : Reader → Statement → Result (Reader × Option Event) Flaw
after_statement d statement = if begins_half d statement then Ok (Half (half.fresh_reader false), None) else in_mode d statement
