use Rattle.std.proofs.Common.{◌≡◌, arith}
use Rattle.std.specs.Prelude.{None}
use Rattle.c_ends.specs.Links.{slave_fault}
use Rattle.c_ends.proofs.LinksInRange.{slave_in_range}
use Rattle.c_ends.proofs.links.slave_of.Goals as goal

pub new-requires-clause-sends : goal.new-requires-clause-sends
new-requires-clause-sends c =
    let none : slave_fault c.args.link.now c.args.node.now c.args.files.now c.args.words.now c.args.block.now ≡ None = grind (arith, c.slave_fault.ensures) in
    rw c.slave_setup-setup.ensures (slave_in_range c.args.node.now c.args.files.now c.args.words.now c.args.block.now c.args.link.now none).sends

pub node_of-requires : goal.node_of-requires
node_of-requires c =
    let none : slave_fault c.args.link.now c.args.node.now c.args.files.now c.args.words.now c.args.block.now ≡ None = grind (arith, c.slave_fault.ensures) in
    (slave_in_range c.args.node.now c.args.files.now c.args.words.now c.args.block.now c.args.link.now none).behind_it
