-- The run shows how the dissection ended.
use Rattle.std.proofs.Common.{Ok, Err, refl}
use Rattle.df1_tool.proofs.CaptureRuns.{dissected}
use Rattle.df1_tool.proofs.dissecting.run.Goals as goal

pub returns-in-Ok : goal.returns-in-Ok
returns-in-Ok g c = dissected c.args.capture.side c.args.capture.check _ _ 0 (Ok tt) (refl, (refl, refl)) c.in-Ok.ensures

pub returns-in-Err : goal.returns-in-Err
returns-in-Err g c = dissected c.args.capture.side c.args.capture.check _ _ c.refuse.result (Err c.in-Err.fault) (c.refuse.ensures.status, c.refuse.ensures.note) c.in-Err.ensures
