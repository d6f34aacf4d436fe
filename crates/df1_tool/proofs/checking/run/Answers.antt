-- The run shows how the count ended.
use Rattle.std.proofs.Common.{◌≡◌, ◌∙◌, Bool, true, false, Ok, Err, refl}
use mir.Val.{bool_byte}
use Rattle.df1_tool.specs.Captures.{status_of_counts}
use Rattle.df1_tool.proofs.CaptureRuns.{checked}
use Rattle.df1_tool.proofs.checking.run.Goals as goal

byte-is : (faulty : Bool) → bool_byte faulty ≡ status_of_counts faulty
byte-is true = refl
byte-is false = refl

pub returns-in-Ok : goal.returns-in-Ok
returns-in-Ok g c = checked c.args.capture.side c.args.capture.check _ _ c.from.result (Ok c.in-Ok.faulty) (c.from.ensures ∙ byte-is c.in-Ok.faulty, (refl, refl)) c.in-Ok.ensures

pub returns-in-Err : goal.returns-in-Err
returns-in-Err g c = checked c.args.capture.side c.args.capture.check _ _ c.refuse.result (Err c.in-Err.fault) (c.refuse.ensures.status, c.refuse.ensures.note) c.in-Err.ensures
