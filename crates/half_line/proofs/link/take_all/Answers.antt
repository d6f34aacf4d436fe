-- Takes at a station, one after another.
use Rattle.std.proofs.Common.{◌≡◌, ◌-◌, ◌+◌, ◌∙◌, ◌++◌, List, ℕ, None, Some, sym, ap, append_assoc, append-nil}
use Rattle.std.specs.Prelude.{replicate}
use Rattle.half_line.specs.Behind.{behind}
use Rattle.half_line.specs.Acts.{LineStationState, StationGives, byte_taken, link_state}
use Rattle.each_once.proofs.CountedUp.{repeat-next}
use Rattle.half_line.proofs.Steps.LinkSteps.{take-none, takes-none, gives-nothing, gives-byte}
use Rattle.half_line.proofs.link.take_all.Goals as goal

pub loop-preserved : goal.loop-preserved
loop-preserved g c =
    let next = repeat-next StationGives c.args.n c.loop.counter c.loop-test.true in
    let given : byte_taken c.loop.side ≡ Some c.in-Some.byte = sym c.in_ok-byte.ensures.byte ∙ c.in-Some.is in
    let rest = replicate (c.args.n - (c.loop.counter + 1)) StationGives in
    record {
      state = λ master deceived. rw c.in_ok-byte.ensures.state (rw next at (c.loop.invariant.state master deceived));
      bytes = λ master deceived. rw (c.in_ok-push.ensures.ok, c.in_ok-byte.ensures.state, append_assoc)
          (ap (λ (bytes : List ℕ). c.loop.bytes ++ bytes) (sym (gives-byte (behind g.H.Host g.H.MasterHost) (link_state master c.loop.side deceived) c.in-Some.byte rest given)) ∙ (rw next at (c.loop.invariant.bytes master deceived)));
    }

pub returns-in_default-clause-state : goal.returns-in_default-clause-state
returns-in_default-clause-state g c master deceived =
    let nothing : byte_taken c.loop.side ≡ None = sym c.in_ok-byte.ensures.byte ∙ c.in_default.is in
    ap (λ (side : LineStationState). link_state master side deceived) (c.in_ok-byte.ensures.state ∙ take-none c.loop.side nothing)
    ∙ sym (takes-none (behind g.H.Host g.H.MasterHost) (c.args.n - c.loop.counter) (link_state master c.loop.side deceived) nothing)
    ∙ c.loop.invariant.state master deceived

pub returns-in_default-clause-bytes : goal.returns-in_default-clause-bytes
returns-in_default-clause-bytes g c master deceived =
    let nothing : byte_taken c.loop.side ≡ None = sym c.in_ok-byte.ensures.byte ∙ c.in_default.is in
    sym (append-nil c.loop.bytes)
    ∙ ap (λ (bytes : List ℕ). c.loop.bytes ++ bytes) (sym (gives-nothing (behind g.H.Host g.H.MasterHost) (c.args.n - c.loop.counter) (link_state master c.loop.side deceived) nothing))
    ∙ c.loop.invariant.bytes master deceived
