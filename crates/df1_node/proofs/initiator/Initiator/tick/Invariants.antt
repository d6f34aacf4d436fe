use Rattle.std.proofs.Common.{◌≡◌, ◌-◌, length, drop}
use Rattle.df1_node.specs.Initiator.{all_ticked}
use Rattle.df1_node.specs.Queue.{places, out_now}
use Rattle.df1_node.proofs.Ticks.{tick_places}
use Rattle.df1_node.proofs.initiator.Initiator.tick.Given as goal

-- what is left to be ticked leads to the same
abbrev pub invariant-loop-at : goal.invariant-loop-at
invariant-loop-at l =
    record {
      same : tick_places (drop l.at (places out_now l.self.issued)) l.self.issued ≡ all_ticked l.initial.self.issued;
      rest : l.self ≡ record l.initial.self { issued = l.self.issued };
    }

abbrev pub decreases-loop-at : goal.decreases-loop-at
decreases-loop-at l = length (places out_now l.self.issued) - l.at
