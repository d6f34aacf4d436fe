-- The input was counted to its end, and then its counts are told.
use Rattle.df1_capture.proofs.Counting.{told-counts}
use Rattle.df1_capture.proofs.checking.check.Goals as goal

pub returns-in-Ok : goal.returns-in-Ok
returns-in-Ok g c =
    let side = c.args.capture.side in
    let check = c.args.capture.check in
    let end = c.in-Ok.ensures side check c.new-reader.ensures.stands in
    let all = end.0 in
    told-counts side check (g.S.Source.left c.args.input.now) (g.S.Source.left c.count_all.new.input) (g.S.Source.faults c.args.input.now) (g.S.Source.faults c.count_all.new.input)
    (g.K.Sink.held c.args.out.now) (g.K.Sink.held c.put_counts.new.out) (g.K.Sink.faults c.args.out.now) (g.K.Sink.faults c.put_counts.new.out) all.0 c.put_counts.result all.1 end.1 (c.put_counts.ensures side check all.0 all.2)
