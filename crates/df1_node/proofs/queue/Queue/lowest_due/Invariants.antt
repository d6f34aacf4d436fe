use Rattle.std.proofs.Common.{◌≡◌, take}
use Rattle.df1_node.specs.Queue.{lowest_due}
use Rattle.df1_node.proofs.queue.Queue.lowest_due.Given as goal

abbrev pub invariant-loop-source : goal.invariant-loop-source
invariant-loop-source l = l.lowest ≡ lowest_due l.per_source l.self.sources.items (take l.source-index l.self.used.items)
