use Rattle.std.proofs.Common.{◌∙◌}
use Rattle.df1_base.proofs.Feeding.{on-err}
use Rattle.df1_base.proofs.Laws.{later_then}
use Rattle.replay_report.specs.Report.{word_text}
use Rattle.replay_report.proofs.Writing.{put_item, put_items, less_item}
use Rattle.replay_report.proofs.printing.put_words.Goals as goal

pub loop-word-preserved : goal.loop-word-preserved
loop-word-preserved g c = record {
  put = put_item word_text _ _ _ c.args.words.now c.loop-word.word-index _ c.loop-word-test.true c.loop-word.invariant.put c.in_ok-put_word.ensures.ok;
  calm = c.in_ok-put_word.ensures.calm ∙ c.loop-word.invariant.calm;
  later = later_then _ _ _ _ _ _ c.loop-word.invariant.later c.in_ok-put_word.ensures.later;
}

pub returns-in_err-put_word-clause-missing : goal.returns-in_err-put_word-clause-missing
returns-in_err-put_word-clause-missing g c =
    on-err c.from_residual.result (less_item word_text _ _ _ c.args.words.now c.loop-word.word-index _ c.loop-word-test.true c.loop-word.invariant.put c.in_err-put_word.ensures.missing)

pub returns-clause-ok : goal.returns-clause-ok
returns-clause-ok g c = put_items word_text _ _ c.args.words.now c.loop-word.word-index c.loop-word-test.false c.loop-word.invariant.put
