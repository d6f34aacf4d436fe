use Rattle.std.proofs.Common.{◌≡◌, ◌-◌}
use Rattle.std.specs.Prelude.{replicate}
use Rattle.duplex_line.specs.Acts.{Lose}
use Rattle.duplex_line.specs.Steps.{near_over}
use Rattle.duplex_line.proofs.deal.lose.Given as goal

-- what is done and what is still to be done
abbrev pub invariant-loop : goal.invariant-loop
invariant-loop l = near_over l.near (replicate (l.n - l.counter) Lose) ≡ near_over l.fn.near (replicate l.n Lose)
