use Rattle.std.proofs.Common.{◌≡◌, ◌≤◌, ◌+◌, ◌++◌, drop, map}
use Rattle.script_statement.specs.declared.who.Who.{Who}
use Rattle.duplex_line.specs.Acts.{LineEndState, Foreign, after_deeds, lines_over}
use Rattle.duplex_line.proofs.deal.intrude.Given as goal

-- what is done and what is still to be done
abbrev pub invariant-loop-byte : goal.invariant-loop-byte
invariant-loop-byte l = record {
  state : (near : LineEndState) → after_deeds (record { a = near; b = l.far; deceived = l.reported.deceived }) (map Foreign (drop l.byte-index l.bytes))
      ≡ after_deeds (record { a = near; b = l.fn.far; deceived = l.fn.reported.deceived }) (map Foreign l.bytes);
  lines : (from : Who) (near : LineEndState) → l.reported.lines ++ lines_over from l.to (record { a = near; b = l.far; deceived = l.reported.deceived }) (map Foreign (drop l.byte-index l.bytes))
      ≡ l.fn.reported.lines ++ lines_over from l.to (record { a = near; b = l.fn.far; deceived = l.fn.reported.deceived }) (map Foreign l.bytes);
  few : l.reported.deceived ≤ l.fn.reported.deceived + l.byte-index;
}
