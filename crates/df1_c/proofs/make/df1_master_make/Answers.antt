use Rattle.std.proofs.Common.{◌≡◌, true, arith}
use Rattle.std.specs.Prelude.{is_none}
use Rattle.c_ends.specs.Links.{master_fault, first_master}
use Rattle.df1_c.specs.Held.{holding}
use Rattle.df1_c.proofs.Making.{made_end, none_of, master-stands}
use Rattle.df1_c.proofs.make.df1_master_make.Goals as goal

pub returns : goal.returns
returns c =
    let empty : is_none (holding c.args.end.now) ≡ true = grind (arith, c.is_empty.ensures, c.if-not-is_empty.false) in
    let made = made_end (master_fault c.args.link.now c.args.stations.now c.args.node.now c.args.files.now c.args.words.now c.args.block.now)
    (first_master c.args.link.now c.args.stations.now c.args.node.now c.args.files.now c.args.words.now c.args.block.now)
    c.master_of-made.result c.fill.result c.number-2.result (holding c.args.end.now) (holding c.fill.new.self)
    (none_of (holding c.args.end.now) empty) c.master_of-made.ensures.ok c.master_of-made.ensures.fault c.fill.ensures c.number-2.ensures in
    record {
      made = made;
      stands = master-stands c.args.link.now c.args.stations.now c.args.node.now c.args.files.now c.args.words.now c.args.block.now c.number-2.result (holding c.args.end.now) (holding c.fill.new.self) made;
    }
