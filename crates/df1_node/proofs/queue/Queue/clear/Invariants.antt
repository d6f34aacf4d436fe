use Rattle.std.proofs.Common.{◌≡◌, ◌<◌, ℕ, []}
use Rattle.df1_node.specs.Queue.{out_at, waiting_at}
use Rattle.df1_node.proofs.queue.Queue.clear.Given as goal

abbrev pub invariant-loop-source : goal.invariant-loop-source
invariant-loop-source l =
    record {
      waits : (b : ℕ) → b < l.source-index → waiting_at l.source-items b ≡ [];
      outs : (b : ℕ) → out_at l.source-items b ≡ out_at l.initial.source-items b;
    }
