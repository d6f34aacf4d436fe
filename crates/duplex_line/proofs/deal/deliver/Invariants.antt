use Rattle.std.proofs.Common.{◌≡◌, ◌≤◌, ◌+◌, ◌++◌, ◌-◌}
use Rattle.std.specs.Prelude.{replicate}
use Rattle.script_statement.specs.declared.who.Who.{Who}
use Rattle.duplex_line.specs.Acts.{LineState, Deliver, after_deeds, lines_over}
use Rattle.duplex_line.proofs.deal.deliver.Given as goal

-- what is done and what is still to be done
abbrev pub invariant-loop : goal.invariant-loop
invariant-loop l =
    let now : LineState = record { a = l.near; b = l.far; deceived = l.reported.deceived } in
    let first : LineState = record { a = l.fn.near; b = l.fn.far; deceived = l.fn.reported.deceived } in
    record {
      state : after_deeds now (replicate (l.n - l.counter) Deliver) ≡ after_deeds first (replicate l.n Deliver);
      lines : (from : Who) → l.reported.lines ++ lines_over from l.to now (replicate (l.n - l.counter) Deliver) ≡ l.fn.reported.lines ++ lines_over from l.to first (replicate l.n Deliver);
      few : l.reported.deceived ≤ l.fn.reported.deceived + l.counter;
    }
