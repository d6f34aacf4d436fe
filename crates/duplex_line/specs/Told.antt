-- The lines of the report, with that of the bytes which an end gave last.
use Rattle.std.specs.Prelude.{List, ◌++◌}
use Rattle.replay_report.specs.declared.record.Line.{Line}
use Rattle.replay_report.specs.Report.{sent_lines}
use Rattle.duplex_line.specs.declared.sent.Sent.{Sent}

-- the lines that stand, and then that of the bytes which are kept
abbrev pub with_sent : List Line → Sent → List Line
with_sent lines sent = lines ++ sent_lines sent.who sent.bytes
