use Rattle.std.proofs.Common.{◌≡◌, Option, Result, Ok, Err, subst, arith}
use Rattle.end_drafts.specs.declared.flaw.Flaw.{Flaw}
use Rattle.half_script.specs.declared.reader.HalfReader.{HalfReader}
use Rattle.half_script.specs.Drafts.{after_statement}
use Rattle.script_parts.specs.declared.script.Event.{Event}
use Rattle.line_script.specs.declared.reader.Reader.{Reader}
use Rattle.line_script.specs.Readers.{in_half, in_mode}
use Rattle.line_script.proofs.reader.Reader.take_in_mode.Goals as goal

-- what is refused in half duplex is refused by its reader
refused-by : (read : Result (HalfReader × Option Event) Flaw) (flaw : Flaw) → in_half read ≡ Err flaw → read ≡ Err flaw
refused-by (Err found) flaw is = grind (arith, is)
refused-by (Ok step) flaw is = cc

pub returns-in-Half-clause-refused : goal.returns-in-Half-clause-refused
returns-in-Half-clause-refused c = λ flaw is.
    let half_is : in_half (after_statement c.in-Half.half c.args.statement) ≡ Err flaw = subst (λ (d : Reader). in_mode d c.args.statement ≡ Err flaw) c.in-Half.is is in
    c.take-in-Half.ensures.refused flaw (refused-by (after_statement c.in-Half.half c.args.statement) flaw half_is)
