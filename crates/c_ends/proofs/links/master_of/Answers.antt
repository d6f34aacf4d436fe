use Rattle.std.proofs.Common.{◌≡◌, arith}
use Rattle.std.specs.Prelude.{None}
use Rattle.c_ends.specs.Links.{master_fault}
use Rattle.c_ends.proofs.LinksInRange.{master_in_range}
use Rattle.c_ends.proofs.links.master_of.Goals as goal

pub new-requires-clause-ack_ticks : goal.new-requires-clause-ack_ticks
new-requires-clause-ack_ticks c =
    let none : master_fault c.args.link.now c.args.stations.now c.args.node.now c.args.files.now c.args.words.now c.args.block.now ≡ None = grind (arith, c.master_fault.ensures) in
    rw c.master_setup.ensures (master_in_range c.args.node.now c.args.files.now c.args.words.now c.args.block.now c.args.link.now c.args.stations.now none).ack_ticks

pub new-requires-clause-poll_ticks : goal.new-requires-clause-poll_ticks
new-requires-clause-poll_ticks c =
    let none : master_fault c.args.link.now c.args.stations.now c.args.node.now c.args.files.now c.args.words.now c.args.block.now ≡ None = grind (arith, c.master_fault.ensures) in
    rw c.master_setup.ensures (master_in_range c.args.node.now c.args.files.now c.args.words.now c.args.block.now c.args.link.now c.args.stations.now none).poll_ticks

pub new-requires-clause-stations : goal.new-requires-clause-stations
new-requires-clause-stations c =
    let none : master_fault c.args.link.now c.args.stations.now c.args.node.now c.args.files.now c.args.words.now c.args.block.now ≡ None = grind (arith, c.master_fault.ensures) in
    (master_in_range c.args.node.now c.args.files.now c.args.words.now c.args.block.now c.args.link.now c.args.stations.now none).are

pub node_of-requires : goal.node_of-requires
node_of-requires c =
    let none : master_fault c.args.link.now c.args.stations.now c.args.node.now c.args.files.now c.args.words.now c.args.block.now ≡ None = grind (arith, c.master_fault.ensures) in
    (master_in_range c.args.node.now c.args.files.now c.args.words.now c.args.block.now c.args.link.now c.args.stations.now none).behind_it

pub new-router-requires : goal.new-router-requires
new-router-requires c =
    let none : master_fault c.args.link.now c.args.stations.now c.args.node.now c.args.files.now c.args.words.now c.args.block.now ≡ None = grind (arith, c.master_fault.ensures) in
    let few = (master_in_range c.args.node.now c.args.files.now c.args.words.now c.args.block.now c.args.link.now c.args.stations.now none).are.at_most in
    omega (arith, few, c.carried_by.ensures.few)
