use Rattle.std.proofs.Common.{◌≡◌}
use Rattle.duplex_end.proofs.Signals.{ServedSoFar}
use Rattle.duplex_end.proofs.serving.serve.Given as goal

abbrev pub invariant-loop-at : goal.invariant-loop-at
invariant-loop-at g l = record {
  served : ServedSoFar g.P.Port.came g.P.Port.sent g.H.Host l.initial.port l.initial.end l.port l.end;
  in_calm : g.P.Port.next_faults l.port ≡ g.P.Port.next_faults l.initial.port;
  out_calm : g.P.Port.put_faults l.port ≡ g.P.Port.put_faults l.initial.port;
}

abbrev pub decreases-loop-at : goal.decreases-loop-at
decreases-loop-at g l = g.P.Port.most l.port
