use Rattle.std.proofs.Common.{[], rules}
use Rattle.std.proofs.lemmas.Result.{IfOk-weaker, on_err_weaker}
use Rattle.df1_base.specs.PortLaws.{came-more}
use Rattle.df1_base.proofs.Feeding.{came-taken, came-kept, on-err, gave-after, gave-end}
use Rattle.df1_base.proofs.feed_port.FeedPort.next_of_input.Goals as goal

pub returns-in_err-first-clause-failed : goal.returns-in_err-first-clause-failed
returns-in_err-first-clause-failed g c =
    on-err c.from_residual.result (came-kept g.S.Source.left _ c.args.self.now c.peek.new.source c.peek.new.self c.self.view_is c.in_err-first.ensures.failed)

pub returns-in_default-clause-gave : goal.returns-in_default-clause-gave
returns-in_default-clause-gave g c =
    let ended = c.in_ok-first.ensures.end (search rules) in
    gave-end g.S.Source.left _ c.args.self.now c.peek.new.source c.peek.new.self c.self.view_is c.in_ok-first.ensures.took ended.0 ended.1 c.requires.none_due

pub returns-then-self-clause-gave : goal.returns-then-self-clause-gave
returns-then-self-clause-gave g c =
    let came = came-taken g.S.Source.left _ c.args.self.now c.peek.new.source c.peek.new.self c.self.view_is c.in_ok-first.ensures.took in
    IfOk-weaker c.next_of_record.result _ _ (λ signal gave. gave-after g.S.Source.left c.args.self.now _ _ signal came gave) c.next_of_record.ensures.gave

pub returns-then-self-clause-failed : goal.returns-then-self-clause-failed
returns-then-self-clause-failed g c =
    let came = came-taken g.S.Source.left _ c.args.self.now c.peek.new.source c.peek.new.self c.self.view_is c.in_ok-first.ensures.took in
    on_err_weaker c.next_of_record.result (λ later. came-more g.S.Source.left c.args.self.now _ _ [] [] came later) c.next_of_record.ensures.failed

pub returns-else-self-clause-gave : goal.returns-else-self-clause-gave
returns-else-self-clause-gave g c =
    let came = came-taken g.S.Source.left _ c.args.self.now c.peek.new.source c.peek.new.self c.self.view_is c.in_ok-first.ensures.took in
    gave-after g.S.Source.left c.args.self.now _ _ c.next_of_byte.result came c.next_of_byte.ensures.gave
