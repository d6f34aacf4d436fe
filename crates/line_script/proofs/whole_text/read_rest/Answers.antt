use Rattle.std.proofs.Common.{◌≡◌, ◌==◌, length, false, Ok}
use Rattle.line_script.specs.Lines.{line_for, text_line}
use Rattle.line_script.specs.ScriptText.{with_event}
use Rattle.line_script.proofs.Reading.{one_line, refused_at_last}
use Rattle.line_script.proofs.whole_text.read_rest.Goals as goal

pub returns-in-Ok : goal.returns-in-Ok
returns-in-Ok c =
    let some : (length c.args.rest.now == 0) ≡ false = rw (← c.is_empty.ensures) c.if-is_empty.false in
    let read : with_event c.args.events (line_for c.args.profile c.args.reader (text_line c.args.start c.args.rest.now false)) ≡ Ok (c.read_line.new.reader, c.read_line.new.events) = c.in-Ok.ensures in
    rw (one_line c.args.start c.args.rest.now some, read) c.finish-in-Ok.ensures

pub returns-in-Err : goal.returns-in-Err
returns-in-Err c =
    let some : (length c.args.rest.now == 0) ≡ false = rw (← c.is_empty.ensures) c.if-is_empty.false in
    rw c.at.ensures (refused_at_last c.args.profile c.in-Err.fault c.args.reader c.args.events c.args.number c.args.start c.args.rest.now some c.in-Err.ensures)
