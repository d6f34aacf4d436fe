use Rattle.each_once.specs.Direction.{new_direction, direction_after}
use Rattle.each_once.proofs.OneDirection.{way-start, way-always, way-within}
use Rattle.each_once.proofs.RisingPlaces.{some-of}
use Rattle.each_once.proofs.laws.accepted_messages_were_taken_up.Goals as goal

pub returns : goal.returns
returns c happenings =
    let d = direction_after happenings in
    some-of d.accepted d.taken_up (way-within d.taken_up d.lane d.kept d.accepted (way-always new_direction happenings way-start))
