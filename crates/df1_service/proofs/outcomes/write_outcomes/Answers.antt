use Rattle.std.proofs.Common.{◌≡◌, ◌∙◌, ◌+◌, ◌-◌, None, drop, sym, ap, arith}
use Rattle.df1_base.proofs.Feeding.{on-err}
use Rattle.df1_base.proofs.Laws.{later_then, wrote_all}
use Rattle.df1_node.specs.Initiator.{outcome_of, reply_of}
use Rattle.df1_service.specs.Service.{outcome_line, outcome_lines, outcomes_text}
use Rattle.df1_service.proofs.OutcomeLines.{next_line, last_line, line_put, line_less}
use Rattle.df1_service.proofs.outcomes.write_outcomes.Goals as goal

pub returns-in_err-write_all-clause-missing : goal.returns-in_err-write_all-clause-missing
returns-in_err-write_all-clause-missing g c =
    let s = c.args.initiator.now in
    let n = c.loop-outcome.n in
    let o = c.in-Some.outcome in
    let line = outcome_line n o (reply_of s n) in
    let text : c.deref.result.now ≡ line = c.deref.ensures.0 ∙ c.line_of.ensures ∙ ap (outcome_line n o) c.reply.ensures.reply in
    let wrote = rw (next_line s n o c.loop-outcome.invariant.some (sym c.outcome.ensures.outcome ∙ c.in-Some.is)) at c.loop-outcome.invariant.wrote in
    on-err c.from_residual.result (line_less _ _ _ (outcomes_text s) line (outcome_lines (n + 1) (drop (n + 1 - 1) s.issued)) wrote (rw text at c.in_err-write_all.ensures.missing))

pub loop-outcome-preserved : goal.loop-outcome-preserved
loop-outcome-preserved g c =
    let s = c.args.initiator.now in
    let n = c.loop-outcome.n in
    let o = c.in-Some.outcome in
    let line = outcome_line n o (reply_of s n) in
    let text : c.deref.result.now ≡ line = c.deref.ensures.0 ∙ c.line_of.ensures ∙ ap (outcome_line n o) c.reply.ensures.reply in
    let wrote = rw (next_line s n o c.loop-outcome.invariant.some (sym c.outcome.ensures.outcome ∙ c.in-Some.is)) at c.loop-outcome.invariant.wrote in
    record {
      some = omega arith;
      wrote = line_put _ _ _ (outcomes_text s) line (outcome_lines (n + 1) (drop (n + 1 - 1) s.issued)) wrote (rw text at c.in_ok-write_all.ensures.ok);
      calm = c.in_ok-write_all.ensures.calm ∙ c.loop-outcome.invariant.calm;
      later = later_then _ _ _ _ _ _ c.loop-outcome.invariant.later c.in_ok-write_all.ensures.later;
    }

pub returns-clause-ok : goal.returns-clause-ok
returns-clause-ok g c =
    let s = c.args.initiator.now in
    let n = c.loop-outcome.n in
    let none : outcome_of s n ≡ None = sym c.in_default.ensures.outcome in
    wrote_all _ _ (outcomes_text s) (rw (last_line s n c.loop-outcome.invariant.some none) at c.loop-outcome.invariant.wrote)
