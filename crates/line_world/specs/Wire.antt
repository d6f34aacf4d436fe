-- What the ends of a line sent is DF1, in the record of a script of either mode.
use Rattle.std.specs.Prelude.{Bool, true, false}
use Rattle.script_parts.specs.declared.script.Script.{Script}
use Rattle.replay_report.specs.declared.record.Record.{Record}
use Rattle.duplex_line.specs.Wire as duplex
use Rattle.half_line.specs.Wire as polled

abbrev pub AreDf1WiresIn : Bool → Script → Record → Type 0
AreDf1WiresIn true script r = polled.AreDf1Wires script r
AreDf1WiresIn false script r = duplex.AreDf1Wires script r

-- of every end of the script: of both ends, or of the master and each of its stations
abbrev pub AreDf1Wires : Script → Record → Type 0
AreDf1Wires script r = AreDf1WiresIn script.half script r
