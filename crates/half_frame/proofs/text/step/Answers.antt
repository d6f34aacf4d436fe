use Rattle.half_frame.proofs.text.step.Goals as goal

pub returns-in-Inside : goal.returns-in-Inside
returns-in-Inside g c = rw c.in-Inside.is (c.inside.ensures c.args.check)
