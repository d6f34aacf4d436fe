-- What is done and what is still to be done.
use Rattle.std.proofs.Common.{◌≡◌, ◌≤◌, ◌+◌, ◌++◌, drop, map}
use Rattle.half_line.specs.Behind.{behind}
use Rattle.half_line.specs.Acts.{OnLane, Foreign, link_state}
use Rattle.half_line.specs.Steps.{after_link_deeds, link_lines_over}
use Rattle.half_line.proofs.link.intrude.Given as goal

abbrev pub invariant-loop-byte : goal.invariant-loop-byte
invariant-loop-byte g l =
    let now = link_state l.master l.side l.reported.deceived in
    let first = link_state l.fn.master l.fn.side l.fn.reported.deceived in
    record {
      state : after_link_deeds (behind g.H.Host g.H.MasterHost) now (map (λ byte. OnLane l.way (Foreign byte)) (drop l.byte-index l.bytes)) ≡ after_link_deeds (behind g.H.Host g.H.MasterHost) first (map (λ byte. OnLane l.way (Foreign byte)) l.bytes);
      lines : l.reported.lines ++ link_lines_over (behind g.H.Host g.H.MasterHost) now (map (λ byte. OnLane l.way (Foreign byte)) (drop l.byte-index l.bytes))
          ≡ l.fn.reported.lines ++ link_lines_over (behind g.H.Host g.H.MasterHost) first (map (λ byte. OnLane l.way (Foreign byte)) l.bytes);
      few : l.reported.deceived ≤ l.fn.reported.deceived + l.byte-index;
    }
