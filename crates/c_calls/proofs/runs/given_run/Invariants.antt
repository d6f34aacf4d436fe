use Rattle.std.proofs.Common.{◌≡◌, ◌-◌, length}
use Rattle.c_calls.specs.Runs.{given_behind, given_of}
use Rattle.c_calls.proofs.runs.given_run.Given as goal

-- what is given behind the bytes so far is what is given of all
abbrev pub invariant-loop : goal.invariant-loop
invariant-loop l = record {
  given : given_behind l.bytes.items (l.room - l.counter) l.held ≡ given_of l.room l.fn.held;
  few : length l.bytes.items ≡ l.counter;
}
