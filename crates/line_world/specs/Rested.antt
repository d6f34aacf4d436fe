-- When a line is at rest, as an answer shows it too, and each command that is handed out from there on executed and answered, in the record of
-- a script.
use Rattle.std.specs.Prelude.{ℕ, Bool, true, false, List, ◌++◌}
use Rattle.script_statement.specs.declared.who.Who.TheVariants.{A, B}
use Rattle.script_parts.specs.declared.script.Event.{Event}
use Rattle.script_parts.specs.declared.script.Script.{Script}
use Rattle.replay_report.specs.declared.record.Record.{Record}
use Rattle.duplex_line.specs.Certified.{IsAnsweredAfter, IsCertified, GoesOnCalmly}
use Rattle.duplex_line.specs.Rest.{IsSoundAfter, IsWellAfter}
use Rattle.duplex_line.specs.Run as duplex
use Rattle.half_line.specs.Behind.{plain_node}
use Rattle.half_line.specs.Certified as certified
use Rattle.half_line.specs.Rest as polled
use Rattle.half_line.specs.Run as polled_run

-- On a full-duplex line it is so where the line is at rest after some events, no end was deceived so far, and nothing disturbs it from
-- there on, or it recovers. Take a state at which nothing was under way. Where a command of either end that was still to come there was
-- answered since, no byte was lost, altered or foreign since, and no end was deceived so far, the answer certifies the line: it is at rest
-- where nothing is under way and no sender has a message. So from such a state on it goes well too, if nothing disturbs it from there on.
pub record GoesWell (script : Script) (r : Record) : Type 0 where
  pub after_rest : (front rest : List Event) → IsSoundAfter script front rest → IsWellAfter script front r
  pub certified_by_a : (front middle more rest : List Event) (n : ℕ) → IsAnsweredAfter A script front middle more rest n → IsCertified (duplex.state_after (duplex.start script) (front ++ (middle ++ more)))
  pub certified_by_b : (front middle more rest : List Event) (n : ℕ) → IsAnsweredAfter B script front middle more rest n → IsCertified (duplex.state_after (duplex.start script) (front ++ (middle ++ more)))
  pub after_answer_of_a : (front middle more rest : List Event) (n : ℕ) → IsAnsweredAfter A script front middle more rest n → GoesOnCalmly script (front ++ (middle ++ more)) rest → IsWellAfter script (front ++ (middle ++ more)) r
  pub after_answer_of_b : (front middle more rest : List Event) (n : ℕ) → IsAnsweredAfter B script front middle more rest n → GoesOnCalmly script (front ++ (middle ++ more)) rest → IsWellAfter script (front ++ (middle ++ more)) r

-- On a half-duplex line it is so, of the commands of its master, where the line is at rest after some events, no end was deceived so far,
-- and nothing disturbs it from there on. Where a command that was still to come at some state was answered, and no byte on its way to a
-- station was lost, altered or foreign since that state, the answer certifies all stations: their ears are in step where nothing is under
-- way. With one station, where nothing was under way at that state, nothing was lost, altered or foreign since, and no end was deceived so
-- far, it certifies the line: it is at rest where nothing is under way, the master waits for nothing and no reply is left. From such a
-- state on it goes well too, with several stations if the master's own ear is in step, if no end was deceived so far and nothing disturbs
-- it from there on.
pub record PolledGoesWell (script : Script) (r : Record) : Type 0 where
  pub after_rest : (front rest : List Event) → polled.IsCalmAfter script front rest → polled.IsWellAfter script front r
  pub certified_stations : (front middle more rest : List Event) (n : ℕ) → certified.IsAnsweredAfter script front middle more rest n → certified.AreCertified (polled_run.state_after plain_node (polled_run.start script) (front ++ (middle ++ more)))
  pub certified_alone : (front middle more rest : List Event) (n : ℕ) → certified.IsAnsweredAlone script front middle more rest n → certified.IsCertified (polled_run.state_after plain_node (polled_run.start script) (front ++ (middle ++ more)))
  pub after_answer : (front middle more rest : List Event) (n : ℕ) → certified.IsAnsweredAfter script front middle more rest n → certified.IsMasterInStep script (front ++ (middle ++ more)) → certified.GoesOnCalmly script (front ++ (middle ++ more)) rest
      → polled.IsWellAfter script (front ++ (middle ++ more)) r
  pub after_answer_alone : (front middle more rest : List Event) (n : ℕ) → certified.IsAnsweredAlone script front middle more rest n → certified.GoesOnCalmly script (front ++ (middle ++ more)) rest → polled.IsWellAfter script (front ++ (middle ++ more)) r

abbrev pub GoesWellIn : Bool → Script → Record → Type 0
GoesWellIn true script r = PolledGoesWell script r
GoesWellIn false script r = GoesWell script r

-- of a script, in its mode
abbrev pub GoesWellAfterRest : Script → Record → Type 0
GoesWellAfterRest script r = GoesWellIn script.half script r
