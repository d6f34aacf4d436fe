use Rattle.std.proofs.Common.{◌≡◌, ℕ, ◌-◌, vec_len}
use Rattle.df1_node.specs.Queue.{out_at, waiting_at}
use Rattle.df1_node.proofs.queue.make_sources.Given as goal

-- the sources that are made have no commands
abbrev pub invariant-sources : goal.invariant-sources
invariant-sources l =
    record {
      waits : (b : ℕ) → waiting_at l.sources.items b ≡ waiting_at l.initial.sources.items b;
      outs : (b : ℕ) → out_at l.sources.items b ≡ out_at l.initial.sources.items b;
    }

abbrev pub decreases-sources : goal.decreases-sources
decreases-sources l = 256 - vec_len l.sources
