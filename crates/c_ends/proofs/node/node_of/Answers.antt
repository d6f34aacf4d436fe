use Rattle.data_files.specs.Tables.{fresh}
use Rattle.c_ends.specs.Parts.{specs_of}
use Rattle.c_ends.proofs.FileLemmas.{with_all-specs}
use Rattle.c_ends.proofs.InRange.{in_range}
use Rattle.c_ends.proofs.node.node_of.Goals as goal

pub new-station-requires-clause-compat : goal.new-station-requires-clause-compat
new-station-requires-clause-compat c =
    rw (c.in_ok-tables.ensures, c.compat_of.ensures, with_all-specs (fresh (specs_of c.args.files.now)) c.args.words.now)
    (in_range c.args.node.now c.args.files.now c.args.words.now c.args.block.now c.requires).compat
