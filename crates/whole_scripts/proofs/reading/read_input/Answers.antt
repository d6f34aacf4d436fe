use Rattle.std.proofs.Common.{◌≡◌, ◌<◌, ◌≤◌, length, ap, subst, arith}
use Rattle.whole_scripts.specs.Whole.{BreaksOff}
use Rattle.whole_scripts.specs.declared.fault.RunFault.{RunFault}
use Rattle.whole_scripts.specs.declared.fault.RunFault.TheVariants.{Input}
use Rattle.whole_scripts.proofs.Taken.{broken-off, over-judged, refused-before, took-few}
use Rattle.whole_scripts.proofs.reading.read_input.Goals as goal

pub returns-in-Err-clause-refusal : goal.returns-in-Err-clause-refusal
returns-in-Err-clause-refusal g c =
    let l = c.loop-piece in
    refused-before c.args.profile l.text c.broken_off.result (g.S.Source.left c.args.input.now) (g.S.Source.left l.input) (g.S.Source.left c.read.new.self) l.invariant.took c.in-Err.ensures.failed (rw c.as_slice-in-Err.ensures at c.broken_off.ensures)

pub returns-clause-read : goal.returns-clause-read
returns-clause-read g c =
    let l = c.loop-piece in
    let size = ap length c.as_slice.ensures in
    let over = c.loop-piece-test.false in
    let long : 16777216 < length l.text = omega (arith, over, size) in
    (over-judged c.args.profile l.text c.judged-2.result (g.S.Source.left c.args.input.now) (g.S.Source.left l.input) long l.invariant.took (rw c.as_slice-2.ensures at c.judged-2.ensures.exact)).0

pub returns-clause-refusal : goal.returns-clause-refusal
returns-clause-refusal g c =
    let l = c.loop-piece in
    let size = ap length c.as_slice.ensures in
    let over = c.loop-piece-test.false in
    let long : 16777216 < length l.text = omega (arith, over, size) in
    (over-judged c.args.profile l.text c.judged-2.result (g.S.Source.left c.args.input.now) (g.S.Source.left l.input) long l.invariant.took (rw c.as_slice-2.ensures at c.judged-2.ensures.exact)).1

pub returns-in-Err-clause-input : goal.returns-in-Err-clause-input
returns-in-Err-clause-input g c is =
    let l = c.loop-piece in
    let size = ap length c.as_slice.ensures in
    let less = c.loop-piece-test.true in
    let few : length l.text ≤ 16777216 = omega (arith, less, size) in
    let rose = rw l.invariant.calm at c.in-Err.ensures.cause in
    let same : c.broken_off.result ≡ Input = cc in
    broken-off c.args.profile l.text (g.S.Source.left c.args.input.now) (g.S.Source.left l.input) (g.S.Source.left c.read.new.self) (g.S.Source.faults c.args.input.now) (g.S.Source.faults c.read.new.self) few l.invariant.took c.in-Err.ensures.failed rose
    (subst (λ (fault : RunFault). BreaksOff c.args.profile l.text fault) same (rw c.as_slice-in-Err.ensures at c.broken_off.ensures))

pub returns-in_err-extend-in-Ok-clause-taken : goal.returns-in_err-extend-in-Ok-clause-taken
returns-in_err-extend-in-Ok-clause-taken g c =
    let l = c.loop-piece in
    let size = ap length c.as_slice.ensures in
    let less = c.loop-piece-test.true in
    let few : length l.text ≤ 16777216 = omega (arith, less, size) in
    let room : length c.read.new.into ≤ 4096 = omega arith in
    took-few l.text c.in-Ok.count c.read.new.into (g.S.Source.left c.args.input.now) (g.S.Source.left l.input) (g.S.Source.left c.read.new.self) few room l.invariant.took c.in-Ok.ensures.took
