use Rattle.std.proofs.Common.{◌∙◌, ◌+◌, cond, take, ap, sym, arith}
use Rattle.std.proofs.lemmas.Bool.{eq-eqb, ne_eqb}
use Rattle.line_script.specs.Unfinished.{unfinished}
use Rattle.whole_scripts.proofs.WholeLines.{counted-next}
use Rattle.whole_scripts.proofs.settled.unfinished.Goals as goal
use Rattle.whole_scripts.proofs.settled.unfinished.Goals.{then-byte-eq10, else-byte-eq10}

pub loop-byte-preserved : goal.loop-byte-preserved
loop-byte-preserved c =
    let l = c.loop-byte in
    let next = counted-next c.args.text.now l.byte-index c.loop-byte-test.true in
    let so_far = unfinished (take l.byte-index c.args.text.now) in
    let most = l.invariant.most in
    elim c.if-byte-eq10.branch [
      | then-byte-eq10 w ↦ record {
        counts = w.begun-is ∙ sym (next ∙ ap (λ b. cond b 0 (so_far + 1)) (eq-eqb _ 10 w.if-byte-eq10.true));
        most = omega (arith, w.begun-is);
      }
      | else-byte-eq10 w ↦ record {
        counts = w.begun-is ∙ ap (λ n. n + 1) l.invariant.counts ∙ sym (next ∙ ap (λ b. cond b 0 (so_far + 1)) (ne_eqb _ 10 w.if-byte-eq10.false));
        most = omega (arith, w.begun-is, most);
      }
    ]
