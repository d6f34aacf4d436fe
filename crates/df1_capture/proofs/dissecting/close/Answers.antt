-- The line of the unfinished item, or a first part of it.
use Rattle.df1_dissect.specs.Dissection.{open_text}
use Rattle.df1_capture.proofs.dissecting.close.Goals as goal

pub returns-in-Ok : goal.returns-in-Ok
returns-in-Ok g c = λ side check bytes text h.
    let v = c.args.dissector.now in
    ((open_text v.start v.fed, c.finish.ensures.whole side check bytes text h.stands h.lines, c.in-Ok.ensures.ok), c.in-Ok.ensures.calm)

pub returns-in-Err : goal.returns-in-Err
returns-in-Err g c = λ side check bytes text h.
    let v = c.args.dissector.now in
    ((open_text v.start v.fed, c.finish.ensures.whole side check bytes text h.stands h.lines, c.in-Err.ensures.missing), c.in-Err.ensures.cause)
