-- The bytes that an end gave, as the lines of a report tell them.
use Rattle.std.specs.Prelude.{ℕ, List, [], if◌then◌else◌}
use Rattle.std.specs.List.{flat_map}
use Rattle.script_statement.specs.declared.who.Who.{Who}
use Rattle.replay_report.specs.declared.record.Line.{Line}
use Rattle.replay_report.specs.declared.record.Line.TheVariants as line
use Rattle.report_lines.specs.Whose.{is_who}

-- the bytes that a line tells this end gave
abbrev pub sent_at : Who → Line → List ℕ
sent_at who (line.Sent by bytes) = if is_who who by then bytes else []
sent_at who other = []

-- the bytes of all lines that tell this end gave bytes, joined in their order
abbrev pub sent_by : Who → List Line → List ℕ
sent_by who lines = flat_map (sent_at who) lines
