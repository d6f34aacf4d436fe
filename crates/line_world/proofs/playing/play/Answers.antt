-- The events of a script that can be played may happen.
use Rattle.line_world.proofs.Standing.{all-next}
use Rattle.line_world.proofs.playing.play.Goals as goal

pub step_all-requires : goal.step_all-requires
step_all-requires c = rw (c.as_slice.ensures, c.in_ok-world.ensures) (all-next c.args.script.now c.requires)
