use Rattle.std.proofs.Common.{rules, arith}
use Rattle.std.proofs.lemmas.Option.{slice_get_within}
use Rattle.df1_base.proofs.Feeding.{came-kept, on-err, gave-cut, gave-bad, gave-record}
use Rattle.df1_base.proofs.feed_port.FeedPort.next_of_record.Goals as goal

pub returns-in_err-second-clause-failed : goal.returns-in_err-second-clause-failed
returns-in_err-second-clause-failed g c =
    on-err c.from_residual.result (came-kept g.S.Source.left _ c.args.self.now c.peek.new.source c.peek.new.self c.self.view_is c.in_err-second.ensures.failed)

pub returns-in_default-clause-gave : goal.returns-in_default-clause-gave
returns-in_default-clause-gave g c =
    let ended = c.in_ok-second.ensures.end (search rules) in
    gave-cut g.S.Source.left _ c.args.self.now c.peek.new.source c.peek.new.self c.self.view_is c.in_ok-second.ensures.took ended.0 ended.1 c.requires.room c.requires.timed c.requires.none_due

pub returns-in_default-signal_of-clause-gave : goal.returns-in_default-signal_of-clause-gave
returns-in_default-signal_of-clause-gave g c =
    gave-bad g.S.Source.left _ c.args.self.now c.peek.new.source c.peek.new.self c.args.first c.in-Some.second c.self.view_is c.in_ok-second.ensures.took c.requires.first (search rules) (search rules) c.requires.room c.requires.timed c.requires.none_due

pub skip-requires : goal.skip-requires
skip-requires g c = omega (arith, slice_get_within c.peek.new.self 1 c.in-Some.second (search rules))

pub returns-clause-gave : goal.returns-clause-gave
returns-clause-gave g c =
    gave-record g.S.Source.left _ c.args.self.now c.peek.new.source c.peek.new.self c.skip.new.self c.args.first c.in-Some.second c.in-Some-signal_of.signal c.self.view_is c.in_ok-second.ensures.took c.skip.ensures c.requires.first (search rules) (search rules) c.requires.room c.requires.timed c.requires.none_due
