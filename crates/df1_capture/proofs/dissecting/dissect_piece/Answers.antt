-- All of a piece, or what of it is within the limit, or a front of that.
use Rattle.std.proofs.Common.{◌≡◌, ◌+◌, length, drop, arith}
use Rattle.df1_capture.proofs.HeardSoFar.{piece-all, piece-front, piece-of}
use Rattle.df1_capture.proofs.dissecting.dissect_piece.Goals as goal

pub returns-in-Ok-clause-ends : goal.returns-in-Ok-clause-ends
returns-in-Ok-clause-ends g c = λ side check bytes text h.
    let piece = c.args.piece.now in
    let heard = c.within_limit-heard.result.now in
    let less = c.if-heard-piece.true in
    let fed = c.fed.ensures.value in
    let end = c.within_limit-heard.ensures.full less in
    let full : c.args.dissector.now.fed + length heard ≡ 268435456 = omega (arith, end, fed) in
    piece-front side check bytes piece heard (drop (length heard) piece) text c.args.dissector.now c.put_lines.new.dissector (g.K.Sink.held c.args.out.now) (g.K.Sink.held c.put_lines.new.out) (g.K.Sink.faults c.args.out.now) (g.K.Sink.faults c.put_lines.new.out)
    c.within_limit-heard.ensures.front less h.stands full (c.in-Ok.ensures.ends side check bytes text h)

pub returns-in-Ok-2-clause-ends : goal.returns-in-Ok-2-clause-ends
returns-in-Ok-2-clause-ends g c = λ side check bytes text h.
    let piece = c.args.piece.now in
    let heard = c.within_limit-heard.result.now in
    piece-all side check bytes piece heard (drop (length heard) piece) text c.put_lines.new.dissector (g.K.Sink.held c.args.out.now) (g.K.Sink.held c.put_lines.new.out) (g.K.Sink.faults c.args.out.now) (g.K.Sink.faults c.put_lines.new.out)
    c.within_limit-heard.ensures.front c.if-heard-piece.false (c.in-Ok.ensures.ends side check bytes text h)

pub returns-in-Err-clause-ends : goal.returns-in-Err-clause-ends
returns-in-Err-clause-ends g c = λ side check bytes text h.
    let piece = c.args.piece.now in
    let heard = c.within_limit-heard.result.now in
    let end = c.in-Err.ensures.ends side check bytes text h in
    (piece-of side check bytes piece heard (drop (length heard) piece) text (g.K.Sink.held c.args.out.now) (g.K.Sink.held c.put_lines.new.out) c.within_limit-heard.ensures.front end.0, end.1)
