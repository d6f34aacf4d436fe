use Rattle.std.proofs.Common.{ap, refl, ◌∙◌}
use Rattle.df1_node.specs.Queue.{out_at, waiting_at}
use Rattle.df1_node.proofs.Ordered.{waits-grown, outs-grown}
use Rattle.df1_node.proofs.queue.make_sources.Goals as goal

pub sources-preserved : goal.sources-preserved
sources-preserved c =
    record {
      waits = λ b. ap (λ xs. waiting_at xs b) c.in_ok-push.ensures.items ∙ waits-grown c.sources.sources.items _ b c.new.ensures.items ∙ c.sources.invariant.waits b;
      outs = λ b. ap (λ xs. out_at xs b) c.in_ok-push.ensures.items ∙ outs-grown c.sources.sources.items _ b refl ∙ c.sources.invariant.outs b;
    }
