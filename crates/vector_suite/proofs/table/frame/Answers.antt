-- What was given is a part of the frame, which has at most 506 bytes.
use Rattle.std.proofs.Common.{lit<, arith}
use Rattle.df1_frame.specs.Units.{bytes_of, units}
use Rattle.vector_suite.proofs.Frames.{frame-few, given-few}
use Rattle.vector_suite.proofs.table.frame.Goals as goal

pub push-requires : goal.push-requires
push-requires c =
    let few = given-few c.loop-unit.bytes.items c.loop-unit.framer (bytes_of (units c.args.check c.args.body.now)) c.loop-unit.invariant (frame-few c.args.check c.args.body.now c.requires) in
    (lit< tt, omega (arith, few))

pub push-requires-in-Some-second : goal.push-requires-in-Some-second
push-requires-in-Some-second c =
    let few = given-few c.loop-unit.bytes.items c.loop-unit.framer (bytes_of (units c.args.check c.args.body.now)) c.loop-unit.invariant (frame-few c.args.check c.args.body.now c.requires) in
    (lit< tt, omega (arith, few, c.push.ensures.len))
