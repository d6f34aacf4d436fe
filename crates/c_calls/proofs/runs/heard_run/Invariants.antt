use Rattle.std.proofs.Common.{◌≡◌, drop}
use Rattle.c_calls.specs.Runs.{heard_behind, heard_of}
use Rattle.c_calls.proofs.runs.heard_run.Given as goal

-- what is heard behind the bytes so far is what is heard of all
abbrev pub invariant-loop-at : goal.invariant-loop-at
invariant-loop-at l = heard_behind l.at l.step l.held (drop l.at l.bytes) ≡ heard_of l.fn.held l.bytes
