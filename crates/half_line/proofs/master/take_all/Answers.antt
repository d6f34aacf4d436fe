-- Takes at the master, one after another.
use Rattle.std.proofs.Common.{◌≡◌, ◌-◌, ◌+◌, ◌∙◌, ◌++◌, List, ℕ, refl, sym, ap, append-nil, arith}
use Rattle.std.specs.Prelude.{replicate, true}
use Rattle.std.specs.Option.{option_to_list}
use Rattle.half_master.specs.Master.{is_quiet}
use Rattle.half_line.specs.Behind.{behind}
use Rattle.half_line.specs.Acts.{Give, half_state, byte_given}
use Rattle.each_once.proofs.CountedUp.{repeat-next}
use Rattle.half_line.proofs.Steps.MasterSteps.{quiet-deeds, quiet-bytes, bytes-next}
use Rattle.half_line.proofs.master.take_all.Goals.{in-Some+in_ok-push, in_default}
use Rattle.half_line.proofs.master.take_all.Goals as goal

pub returns-then-quiet-clause-state : goal.returns-then-quiet-clause-state
returns-then-quiet-clause-state g c deceived =
    let quiet : is_quiet g.H.Host c.loop.master ≡ true = sym c.quiet.ensures.value ∙ c.if-quiet.true in
    sym (quiet-deeds (behind g.H.Host g.H.MasterHost) (c.args.n - c.loop.counter) (half_state c.loop.master c.loop.stations.items deceived) quiet) ∙ c.loop.invariant.state deceived

pub returns-then-quiet-clause-bytes : goal.returns-then-quiet-clause-bytes
returns-then-quiet-clause-bytes g c =
    let quiet : is_quiet g.H.Host c.loop.master ≡ true = sym c.quiet.ensures.value ∙ c.if-quiet.true in
    sym (append-nil c.loop.bytes) ∙ ap (λ (bytes : List ℕ). c.loop.bytes ++ bytes) (sym (quiet-bytes (behind g.H.Host g.H.MasterHost) (c.args.n - c.loop.counter) c.loop.master quiet)) ∙ c.loop.invariant.bytes

pub returns-clause-bytes : goal.returns-clause-bytes
returns-clause-bytes g c =
    let none : c.args.n - c.loop.counter ≡ 0 = omega (arith, c.loop-test.false) in
    sym (append-nil c.loop.bytes) ∙ (rw none at c.loop.invariant.bytes)

pub loop-preserved : goal.loop-preserved
loop-preserved g c =
    let m = c.loop.master in
    let next = repeat-next Give c.args.n c.loop.counter c.loop-test.true in
    let byte : byte_given (behind g.H.Host g.H.MasterHost) m ≡ c.in_ok-byte.field-0 = sym c.in_ok-byte.ensures.byte in
    let after : c.match-branch-2.bytes ≡ c.loop.bytes ++ option_to_list (byte_given (behind g.H.Host g.H.MasterHost) m) = elim c.match-branch-2.branch [
      | in-Some+in_ok-push w ↦ w.bytes-is ∙ w.in_ok-push.ensures.ok ∙ (rw (byte, w.in-Some.is) refl)
      | in_default w ↦ w.bytes-is ∙ (rw (byte, w.in_default.is) (sym (append-nil c.loop.bytes)))
    ] in
    record {
      state = λ deceived. rw (c.in_ok-byte.ensures.master, c.in_ok-byte.ensures.stations) (rw next at (c.loop.invariant.state deceived));
      bytes = rw c.in_ok-byte.ensures.master (bytes-next (behind g.H.Host g.H.MasterHost) m (replicate (c.args.n - (c.loop.counter + 1)) Give) c.loop.bytes c.match-branch-2.bytes after ∙ (rw next at c.loop.invariant.bytes));
    }
