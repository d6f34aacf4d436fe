use Rattle.std.proofs.Common.{◌≡◌, ◌-◌, ◌+◌, ◌∙◌, ◌++◌, List, ℕ, None, Some, sym, ap, append_assoc, append-nil}
use Rattle.std.specs.Prelude.{replicate}
use Rattle.duplex_line.specs.Acts.{Take, byte_taken}
use Rattle.each_once.proofs.CountedUp.{repeat-next}
use Rattle.duplex_line.proofs.Steps.NothingToGive.{take-none, takes-none, gives-nothing, gives-byte}
use Rattle.duplex_line.proofs.deal.take_all.Goals as goal

pub loop-preserved : goal.loop-preserved
loop-preserved c =
    let next = repeat-next Take c.args.n c.loop.counter c.loop-test.true in
    let given : byte_taken c.loop.near ≡ Some c.in-Some.byte = sym c.in_ok-byte.ensures.byte ∙ c.in-Some.is in
    let more = gives-byte c.loop.near c.in-Some.byte (replicate (c.args.n - (c.loop.counter + 1)) Take) given in
    record {
      near = rw c.in_ok-byte.ensures.state (rw next at c.loop.invariant.near);
      bytes = rw (c.in_ok-push.ensures.ok, c.in_ok-byte.ensures.state, append_assoc) (ap (λ (bytes : List ℕ). c.loop.bytes ++ bytes) (sym more) ∙ (rw next at c.loop.invariant.bytes));
    }

pub returns-in_default-clause-near : goal.returns-in_default-clause-near
returns-in_default-clause-near c =
    let nothing : byte_taken c.loop.near ≡ None = sym c.in_ok-byte.ensures.byte ∙ c.in_default.is in
    c.in_ok-byte.ensures.state ∙ take-none c.loop.near nothing ∙ sym (takes-none c.loop.near nothing (c.args.n - c.loop.counter)) ∙ c.loop.invariant.near

pub returns-in_default-clause-bytes : goal.returns-in_default-clause-bytes
returns-in_default-clause-bytes c =
    let nothing : byte_taken c.loop.near ≡ None = sym c.in_ok-byte.ensures.byte ∙ c.in_default.is in
    sym (append-nil c.loop.bytes) ∙ ap (λ (bytes : List ℕ). c.loop.bytes ++ bytes) (sym (gives-nothing c.loop.near nothing (c.args.n - c.loop.counter))) ∙ c.loop.invariant.bytes
