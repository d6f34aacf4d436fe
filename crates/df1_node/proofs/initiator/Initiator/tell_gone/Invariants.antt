use Rattle.std.proofs.Common.{◌≡◌, ◌+◌, ◌≤◌, map, filter, take, length}
use Rattle.df1_node.proofs.Ticks.{last_at}
use Rattle.df1_node.proofs.initiator.Initiator.tell_gone.Given as goal

abbrev pub invariant-loop-place : goal.invariant-loop-place
invariant-loop-place l =
    record {
      gone : l.gone.items ≡ map (λ p. p + 1) (filter (last_at l.self.issued) (take l.place-index l.out));
      few : length l.gone.items ≤ l.place-index;
    }
