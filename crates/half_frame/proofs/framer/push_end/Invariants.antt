use Rattle.std.proofs.Common.{◌≡◌, ◌++◌, take}
use Rattle.half_frame.specs.Spelling.{unmarked}
use Rattle.half_frame.proofs.framer.push_end.Given as goal

abbrev pub invariant-loop-b : goal.invariant-loop-b
invariant-loop-b l = record { items : l.bytes.items ≡ l.initial.bytes.items ++ unmarked (take l.b-index l.check) }
