-- One piece more, and how the input ends.
use Rattle.std.proofs.Common.{◌∙◌, ◌≤◌, ◌<◌, [], length, take, refl, subst, arith}
use Rattle.std.proofs.lemmas.Grind.{common_steps}
use Rattle.std.proofs.lemmas.List.{length-take-le}
use Rattle.df1_base.specs.Outside.{Took}
use Rattle.df1_capture.proofs.Counting.{all-counted, none-so-far, piece-ended, piece-so-far, read-failed}
use Rattle.df1_capture.proofs.checking.count_all.Goals as goal

pub pieces-init : goal.pieces-init
pieces-init g c =
    let new = c.requires in
    record { few = omega (arith, new); so_far = λ side check stands. none-so-far side check (g.S.Source.left c.args.input.now) c.args.reader.now stands; calm = refl }

pub returns-in-Ok-eq0 : goal.returns-in-Ok-eq0
returns-in-Ok-eq0 g c = λ side check stands.
    let l = c.pieces in
    let left' = g.S.Source.left l.input in
    let left'' = g.S.Source.left c.read.new.self in
    let e = c.in-Ok-eq0.ensures in
    let took : Took left' left'' [] = subst (λ n. Took left' left'' (take n c.read.new.into)) c.in-Ok-eq0.field-0-test e.took in
    let some : 0 < length c.read.new.into = grind (arith, common_steps) in
    all-counted side check (g.S.Source.left c.args.input.now) left' left'' (g.S.Source.faults c.args.input.now) (g.S.Source.faults l.input) (g.S.Source.faults c.read.new.self)
    l.reader (l.invariant.so_far side check stands) l.invariant.few took (e.end c.in-Ok-eq0.field-0-test some) l.invariant.calm e.calm

pub pieces-preserved : goal.pieces-preserved
pieces-preserved g c =
    let l = c.pieces in
    let e = c.in-Ok.ensures in
    let p = c.in-Ok-count_piece.ensures in
    record {
      few = p.few;
      so_far = λ side check stands.
          let s = l.invariant.so_far side check stands in
          piece-so-far side check (g.S.Source.left c.args.input.now) (g.S.Source.left l.input) (g.S.Source.left c.read.new.self) l.reader c.count_piece.new.reader (take c.in-Ok.count c.read.new.into) s e.took (p.ends side check s.bytes s.stands);
      calm = e.calm ∙ l.invariant.calm;
    }

pub returns-in-Err-count_piece : goal.returns-in-Err-count_piece
returns-in-Err-count_piece g c = λ side check stands.
    let l = c.pieces in
    let s = l.invariant.so_far side check stands in
    let e = c.in-Ok.ensures in
    let piece = take c.in-Ok.count c.read.new.into in
    let few : length piece ≤ 4096 = grind (arith, length-take-le) in
    piece-ended side check (g.S.Source.left c.args.input.now) (g.S.Source.left l.input) (g.S.Source.left c.read.new.self) (g.S.Source.faults c.args.input.now) (g.S.Source.faults l.input) (g.S.Source.faults c.read.new.self)
    l.reader c.count_piece.new.reader piece c.in-Err-count_piece.fault s e.took few l.invariant.calm e.calm (c.in-Err-count_piece.ensures.ends side check s.bytes s.stands)

pub returns-in-Err : goal.returns-in-Err
returns-in-Err g c = λ side check stands.
    let l = c.pieces in
    read-failed side check (g.S.Source.left c.args.input.now) (g.S.Source.left l.input) (g.S.Source.left c.read.new.self) (g.S.Source.faults c.args.input.now) (g.S.Source.faults l.input) (g.S.Source.faults c.read.new.self)
    l.reader (l.invariant.so_far side check stands) l.invariant.few c.in-Err.ensures.failed l.invariant.calm c.in-Err.ensures.cause
