use Rattle.std.proofs.Common.{◌≡◌, ◌∙◌, ◌+◌, ◌≤◌, true, length, sym, arith, Ok}
use Rattle.line_script.specs.Lines.{line_for, text_line}
use Rattle.line_script.specs.ScriptText.{with_event}
use Rattle.line_script.proofs.Reading.{goes_on, refused_at, stays_within}
use Rattle.line_script.proofs.whole_text.read_lines.Goals as goal

pub returns-in-Err : goal.returns-in-Err
returns-in-Err c =
    let l = c.loop-line in
    rw (c.at.ensures, ← l.invariant.same, c.in-Some.ensures.0)
    (refused_at c.args.profile c.in-Err.fault l.reader l.events l.number l.start c.in-Some.line.now c.in-Some.more.now c.in-Err.ensures)

pub loop-line-preserved : goal.loop-line-preserved
loop-line-preserved c =
    let l = c.loop-line in
    let line = c.in-Some.line.now in
    let read : with_event l.events (line_for c.args.profile l.reader (text_line l.start line true)) ≡ Ok (c.read_line.new.reader, c.read_line.new.events) = c.in_default-read_line.ensures in
    let within : l.start + (length line + 1) ≤ 16777216 = stays_within c.args.profile l.reader l.events (c.read_line.new.reader, c.read_line.new.events) l.start line read l.invariant.within in
    record {
      same = sym (goes_on c.args.profile l.reader c.read_line.new.reader l.events c.read_line.new.events l.number l.start line c.in-Some.more.now read) ∙ rw (← c.in-Some.ensures.0) l.invariant.same;
      numbered = omega arith;
      within = within;
    }
