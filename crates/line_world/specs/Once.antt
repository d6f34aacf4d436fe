-- Each command once, in the record of a script of either mode.
use Rattle.std.specs.Prelude.{Bool, true, false}
use Rattle.script_parts.specs.declared.script.Script.{Script}
use Rattle.replay_report.specs.declared.record.Record.{Record}
use Rattle.duplex_line.specs.Once as duplex
use Rattle.half_line.specs.Once as polled

abbrev pub EachOnceIn : Bool → Script → Record → Type 0
EachOnceIn true script r = polled.EachOnce script r
EachOnceIn false script r = duplex.EachOnce script r

-- for every initiator and every station of the script: from end a to end b and from end b to end a, or from the master to each
-- of its stations
abbrev pub EachCommandOnce : Script → Record → Type 0
EachCommandOnce script r = EachOnceIn script.half script r
