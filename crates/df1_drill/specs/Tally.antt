-- What a drill or a storm came to: counts over the record of its run, and the line that tells them.
use Rattle.std.specs.Prelude.{ℕ, Bool, true, false, List, ◌++◌, codes, count_by, decimal}
use Rattle.df1_check.specs.Checks.{crc}
use Rattle.script_parts.specs.declared.script.Script.{Script}
use Rattle.script_parts.specs.HalfPlayable.{is_issue}
use Rattle.replay_report.specs.declared.record.Line.{Line}
use Rattle.replay_report.specs.declared.record.Line.TheVariants.{Exec, Answered, Damaged, Repeat, Enquiry}
use Rattle.replay_report.specs.declared.record.Record.{Record}
use Rattle.replay_report.specs.Report.{report, word_digits}
use Rattle.line_world.specs.Runs.{record_of}
use Rattle.df1_drill.specs.declared.drilled.Drilled.{Drilled}
use Rattle.df1_drill.specs.Drill.{drill_script}

-- ---- the kinds of lines that are counted

abbrev pub is_exec : Line → Bool
is_exec (Exec who body) = true
is_exec other = false

abbrev pub is_answered : Line → Bool
is_answered (Answered who n body) = true
is_answered other = false

abbrev pub is_damaged : Line → Bool
is_damaged (Damaged who) = true
is_damaged other = false

abbrev pub is_repeat : Line → Bool
is_repeat (Repeat who) = true
is_repeat other = false

abbrev pub is_enquiry : Line → Bool
is_enquiry (Enquiry who) = true
is_enquiry other = false

-- ---- the counts

-- the commands of a script, what its record tells, and the CRC-16 of the whole text of its report
abbrev pub tally_of : Script → Record → Drilled
tally_of script r = record {
  issued = count_by is_issue script.events;
  executed = count_by is_exec r.lines;
  answered = count_by is_answered r.lines;
  damaged = count_by is_damaged r.lines;
  repeats = count_by is_repeat r.lines;
  enquiries = count_by is_enquiry r.lines;
  deceived = r.deceived;
  report = crc (report r);
}

-- those of the run of a script
abbrev pub run_tally : Script → Drilled
run_tally script = tally_of script (record_of script)

-- and of that of the drill's script
unfoldable pub drilled : ℕ → ℕ → Drilled
drilled seed count = run_tally (drill_script seed count)

-- ---- the line

abbrev pub line_of : Drilled → List ℕ
line_of d =
    codes "issued " ++ decimal d.issued ++ codes " executed " ++ decimal d.executed ++ codes " answered " ++ decimal d.answered
    ++ codes " damaged " ++ decimal d.damaged ++ codes " repeats " ++ decimal d.repeats ++ codes " enquiries " ++ decimal d.enquiries
    ++ codes " deceived " ++ decimal d.deceived ++ codes " report " ++ word_digits d.report ++ codes "\n"
