-- The first state of a script.
use Rattle.std.proofs.Common.{◌∙◌, subst, sym}
use Rattle.end_settings.specs.declared.key.EndKey.TheVariants.{AckTicks, PollTicks}
use Rattle.half_master.specs.Stations.{AreStations}
use Rattle.half_line.proofs.Steps.FirstState.{rest-is, half-master, half-stations, half-numbers, half-listed, begins}
use Rattle.half_line.proofs.world.HalfWorld.over.Goals as goal

pub new-requires-clause-ack_ticks : goal.new-requires-clause-ack_ticks
new-requires-clause-ack_ticks g c =
    let first = rw c.as_slice.ensures at c.plan-item.is in
    rw c.master_setup.ensures ((half-master c.args.script.now.ends c.plan-item.result c.plan-item.result c.requires first).settings AckTicks).0

pub new-requires-clause-poll_ticks : goal.new-requires-clause-poll_ticks
new-requires-clause-poll_ticks g c =
    let first = rw c.as_slice.ensures at c.plan-item.is in
    rw c.master_setup.ensures ((half-master c.args.script.now.ends c.plan-item.result c.plan-item.result c.requires first).settings PollTicks).0

pub new-requires-clause-stations : goal.new-requires-clause-stations
new-requires-clause-stations g c =
    let script = c.args.script.now in
    let numbers = c.deref.ensures.0 ∙ (rw (c.as_slice.ensures, rest-is script.ends) at c.numbers_of.ensures) in
    subst AreStations (sym numbers) (half-listed script.ends c.requires)

pub sides_of-requires-clause-plans : goal.sides_of-requires-clause-plans
sides_of-requires-clause-plans g c = rw (c.as_slice.ensures, rest-is c.args.script.now.ends) (half-stations c.args.script.now.ends c.requires)

pub sides_of-requires-clause-numbers : goal.sides_of-requires-clause-numbers
sides_of-requires-clause-numbers g c = rw (c.as_slice.ensures, rest-is c.args.script.now.ends) (half-numbers c.args.script.now.ends c.requires)

pub returns : goal.returns
returns g c =
    let script = c.args.script.now in
    let plan = c.plan-item.result in
    let first = rw c.as_slice.ensures at c.plan-item.is in
    let numbers = c.deref.ensures.0 ∙ (rw (c.as_slice.ensures, rest-is script.ends) at c.numbers_of.ensures) in
    let sides = rw (c.as_slice.ensures, rest-is script.ends) at c.in_ok-sides_of.ensures in
    begins script plan plan c.new.result c.master_setup.result c.args.host c.deref.result.now c.in_ok-sides_of.field-0.items c.new-2.result c.requires
    first c.new.ensures.value c.master_setup.ensures numbers sides c.new-2.ensures
