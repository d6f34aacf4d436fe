use Rattle.std.proofs.Common.{◌≡◌, ◌++◌, ◌-◌}
use Rattle.std.specs.Prelude.{replicate}
use Rattle.duplex_line.specs.Acts.{Take, given_over}
use Rattle.duplex_line.specs.Steps.{near_over}
use Rattle.duplex_line.proofs.deal.take_all.Given as goal

-- what is done and what is still to be done
abbrev pub invariant-loop : goal.invariant-loop
invariant-loop l = record {
  near : near_over l.near (replicate (l.n - l.counter) Take) ≡ near_over l.fn.near (replicate l.n Take);
  bytes : l.bytes ++ given_over l.near (replicate (l.n - l.counter) Take) ≡ l.fn.bytes ++ given_over l.fn.near (replicate l.n Take);
}
