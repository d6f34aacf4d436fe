-- What is done and what is still to be done.
use Rattle.std.proofs.Common.{◌≡◌, ◌≤◌, ◌+◌, ◌++◌, ◌-◌}
use Rattle.std.specs.Prelude.{replicate}
use Rattle.half_line.specs.Behind.{behind}
use Rattle.half_line.specs.Acts.{OnLane, Deliver, link_state}
use Rattle.half_line.specs.Steps.{after_link_deeds, link_lines_over}
use Rattle.half_line.proofs.link.deliver.Given as goal

abbrev pub invariant-loop : goal.invariant-loop
invariant-loop g l =
    let now = link_state l.master l.side l.reported.deceived in
    let first = link_state l.fn.master l.fn.side l.fn.reported.deceived in
    record {
      state : after_link_deeds (behind g.H.Host g.H.MasterHost) now (replicate (l.n - l.counter) (OnLane l.way Deliver)) ≡ after_link_deeds (behind g.H.Host g.H.MasterHost) first (replicate l.n (OnLane l.way Deliver));
      lines : l.reported.lines ++ link_lines_over (behind g.H.Host g.H.MasterHost) now (replicate (l.n - l.counter) (OnLane l.way Deliver)) ≡ l.fn.reported.lines ++ link_lines_over (behind g.H.Host g.H.MasterHost) first (replicate l.n (OnLane l.way Deliver));
      few : l.reported.deceived ≤ l.fn.reported.deceived + l.counter;
    }
