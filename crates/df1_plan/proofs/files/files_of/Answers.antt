use Rattle.std.proofs.Common.{◌≡◌, ◌∙◌, Some, sym, rules}
use Rattle.toml.specs.View.{view}
use Rattle.df1_plan.specs.Files.{next_file}
use Rattle.df1_plan.proofs.Entries.{files-few, files-next}
use Rattle.df1_plan.proofs.files.files_of.Goals as goal

pub loop-entry-preserved : goal.loop-entry-preserved
loop-entry-preserved c =
    let l = c.loop-entry in
    let file = c.in-Some.file in
    let next : next_file l.files (view c.entry-item.result) ≡ Some file = search rules in
    record {
      same = rw c.in_ok-push-in-Some.ensures.ok (sym (files-next l.files c.args.entries.now l.entry-index c.entry-item.result file c.loop-entry-test.true (rw c.entry-item.is at next)) ∙ l.invariant.same);
      few = rw c.in_ok-push-in-Some.ensures.ok (files-few l.files c.entry-item.result file next);
    }
