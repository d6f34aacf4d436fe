use Rattle.std.proofs.Common.{◌≡◌, ◌++◌, ◌-◌}
use Rattle.std.specs.Prelude.{replicate}
use Rattle.duplex_line.specs.Acts.{Tick}
use Rattle.duplex_line.specs.Steps.{near_over, near_lines_over}
use Rattle.duplex_line.proofs.deal.pass.Given as goal

-- what is done and what is still to be done
abbrev pub invariant-loop : goal.invariant-loop
invariant-loop l = record {
  near : near_over l.near (replicate (l.n - l.counter) Tick) ≡ near_over l.fn.near (replicate l.n Tick);
  lines : l.lines ++ near_lines_over l.who l.near (replicate (l.n - l.counter) Tick) ≡ l.fn.lines ++ near_lines_over l.who l.fn.near (replicate l.n Tick);
}
