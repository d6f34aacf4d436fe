-- What is left, after some lines, of the commands that an end may issue and of the events that a script may have.
use Rattle.std.specs.Prelude.{◌≡◌, ◌-◌, List, count_by, sum_by}
use Rattle.script_statement.specs.declared.who.Who.TheVariants.{A, B}
use Rattle.script_parts.specs.declared.script.Event.{Event}
use Rattle.script_parts.specs.Playable.{issues, count_of}
use Rattle.duplex_script.specs.declared.reader.DuplexReader.{DuplexReader}

-- 65,535 commands of each end and 4,000,000 events, less those of the lines so far
pub record IsLeft (d : DuplexReader) (events : List Event) : Type 0 where
  pub commands_of_a : d.a.commands_left ≡ 65535 - count_by (issues A) events
  pub commands_of_b : d.b.commands_left ≡ 65535 - count_by (issues B) events
  pub events_are : d.events_left ≡ 4000000 - sum_by count_of events
