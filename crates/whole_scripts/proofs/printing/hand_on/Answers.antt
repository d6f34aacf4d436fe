use Rattle.std.proofs.lemmas.Result.{on_err_weaker}
use Rattle.df1_base.proofs.Feeding.{on-err}
use Rattle.std.proofs.Math.Nat.{le_trans}
use Rattle.df1_buffer.specs.Buffered.{buffer_out, buffer_waiting}
use Rattle.whole_scripts.proofs.Printed.{keeps-itself, less-inside, less-waiting, some-text}
use Rattle.whole_scripts.specs.Texts.{text_of}
use Rattle.whole_scripts.proofs.printing.hand_on.Goals as goal

pub returns-in_err-tell-clause-missing : goal.returns-in_err-tell-clause-missing
returns-in_err-tell-clause-missing g c =
    let held = g.K.Sink.held (buffer_out c.args.pieces.now) in
    let held' = g.K.Sink.held (buffer_out c.tell.new.sink) in
    on-err c.from_residual.result
    (less-inside held held' _ (buffer_waiting c.args.pieces.now) (buffer_waiting c.tell.new.sink) (text_of c.args.telling) c.requires.none c.tell.ensures.later.1 c.in_err-tell.ensures.missing (keeps-itself _))

pub returns-clause-missing : goal.returns-clause-missing
returns-clause-missing g c =
    let held = g.K.Sink.held (buffer_out c.args.pieces.now) in
    let held' = g.K.Sink.held (buffer_out c.flush.new.self) in
    let grown = le_trans c.tell.ensures.later.1 c.flush.ensures.later.1 in
    on_err_weaker c.flush.result
    (λ some. less-waiting held held' _ (buffer_waiting c.args.pieces.now) (buffer_waiting c.flush.new.self) (text_of c.args.telling) c.requires.none some (some-text c.args.telling) grown c.in_ok-tell.ensures.ok c.flush.ensures.kept)
    c.flush.ensures.waits
