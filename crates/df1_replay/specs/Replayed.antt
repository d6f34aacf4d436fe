-- What a run of `replay` shows that ended well: its script, the report, each command once, none overtaken and none late, all of them where
-- nothing disturbs the line or it recovers, how soon each has its outcome, and what is on the wire.
use Rattle.std.specs.Prelude.{◌≡◌, ℕ, List, Option, Ok}
use Rattle.std.specs.Io.KnownBytes.{IsAtEnd}
use Rattle.df1_base.specs.Outside.{Took, Put}
use Rattle.script_parts.specs.declared.script.Script.{Script}
use Rattle.line_script.specs.ScriptText.{script_of}
use Rattle.replay_report.specs.Report.{report}
use Rattle.run_laws.specs.GivenUp.{NothingComesLate}
use Rattle.line_world.specs.Complete.{IsUndisturbed, IsComplete}
use Rattle.line_world.specs.Once.{EachCommandOnce}
use Rattle.line_world.specs.Recovery.{Recovers}
use Rattle.line_world.specs.Rested.{GoesWellAfterRest}
use Rattle.line_world.specs.Runs.{record_of}
use Rattle.line_world.specs.Wire.{AreDf1Wires}
use Rattle.run_laws.specs.Bounds.{OutcomesCome}
use Rattle.run_laws.specs.Idle.{EndsComeToIdle}
use Rattle.run_laws.specs.Overtaking.{NothingIsOvertaken}

-- The input was read to its end and is a script. The report of its run is written, and nothing else. Where no end was deceived, each
-- station executed commands that were issued to it, each once, those of each source in their order, and each accepted reply is what it
-- answered to that very command; once a command is executed, or a reply to it is told, none of its source with a lower number is executed
-- any more; nor is one that was given up, once nothing is on its way, by the lines and the events so far. Where nothing disturbs the line
-- and nothing is under way in the end, where each end, or each station, has room for what the other end, or the master, may have out, where
-- a master waits long enough for the turns of all stations, and no reply is left at a station, no end was deceived, and all commands were
-- executed and answered. They were too on a full-duplex line that altered bytes of bodies alone, in few transmissions of each message, and
-- deceived no end. Where the line is at rest again, whatever happened before, and no end was deceived, each command that an end hands out
-- from there on was executed and answered, if nothing disturbs the line from there on, or a full-duplex line recovers so. An answer
-- to a command that was still to come certifies a full-duplex line, and a polled one with one station: while nothing disturbs it, it is at
-- rest wherever nothing is under way and no end waits. Of several stations it shows that they are in step. Whatever was heard, and deceived
-- or not: where enough ticks came at an end since its last command at which it had nothing to give, the outcome of each of its
-- commands is told; where so many came since its last command and the last that its station executed, an end of a full-duplex line has no
-- message and no reply left to send; and what each end sent is DF1, and carries its own commands and replies.
pub record Replayed (left left' held held' : Option (List ℕ)) : Type 0 where
  pub input : List ℕ
  pub script : Script
  pub took : Took left left' input
  pub end : IsAtEnd left'
  pub reads : script_of input ≡ Ok script
  pub put : Put held held' (report (record_of script))
  pub once : (record_of script).deceived ≡ 0 → EachCommandOnce script (record_of script)
  pub settled : (record_of script).deceived ≡ 0 → NothingIsOvertaken script (record_of script)
  pub late : (record_of script).deceived ≡ 0 → NothingComesLate script (record_of script)
  pub complete : IsUndisturbed script → IsComplete script (record_of script)
  pub recovered : Recovers script (record_of script)
  pub rested : GoesWellAfterRest script (record_of script)
  pub outcomes : OutcomesCome script (record_of script)
  pub idle : EndsComeToIdle script (record_of script)
  pub wires : AreDf1Wires script (record_of script)
