use Rattle.std.proofs.Common.{◌≡◌, arith}
use Rattle.std.specs.Prelude.{None}
use Rattle.c_ends.specs.Links.{duplex_fault}
use Rattle.c_ends.proofs.LinksInRange.{duplex_ticks}
use Rattle.c_ends.proofs.links.duplex_of.Goals as goal

pub new-requires : goal.new-requires
new-requires c =
    let none : duplex_fault c.args.link.now c.args.node.now c.args.files.now c.args.words.now c.args.block.now ≡ None = grind (arith, c.duplex_fault.ensures) in
    rw c.duplex_setup.ensures (duplex_ticks c.args.node.now c.args.files.now c.args.words.now c.args.block.now c.args.link.now none)
