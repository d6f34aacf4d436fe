use Rattle.std.proofs.Common.{◌≡◌, ◌∙◌, Err, ap}
use Rattle.line_script.specs.ScriptText.{script_of}
use Rattle.line_replay.specs.Fed.{ShowsMore, shown, told}
use Rattle.df1_buffer.specs.Buffered.{buffer_out, buffer_waiting, buffer_held}
use Rattle.df1_buffer.proofs.Handed.{same_borrow}
use Rattle.df1_replay.proofs.Written.{le_then, all-is-front, front-on, less-on, ok-on, output-rose, refused-as-on, steady-on, waiting-less, written-less, written-more}
use Rattle.df1_replay.proofs.replaying.close.Goals as goal

pub returns-clause-same_reference : goal.returns-clause-same_reference
returns-clause-same_reference g c = same_borrow _ _ _ _ (c.hand_on.ensures.later.0 ∙ c.finish-ended.ensures.later.0)

pub returns-clause-ok : goal.returns-clause-ok
returns-clause-ok g c text h =
    let b = c.args.report.now in
    let b' = c.hand_on.new.report in
    ok-on c.finish-ended.result c.hand_on.result c.hand_on.ensures.ends (c.finish-ended.ensures.ok text h)
    (λ ended fed. (fed.0, written-more (shown text) (told text) (buffer_waiting b) (buffer_waiting b') (g.K.Sink.held (buffer_out b)) (g.K.Sink.held (buffer_out b')) (buffer_held g.K.Sink.held c.finish-ended.new.sink) c.requires.none ended.0 fed.1 c.hand_on.ensures.kept))

pub returns-clause-refused : goal.returns-clause-refused
returns-clause-refused g c text h =
    let b = c.args.report.now in
    let b' = c.hand_on.new.report in
    let held = g.K.Sink.held (buffer_out b) in
    let held' = g.K.Sink.held (buffer_out b') in
    refused-as-on (λ line cause. (script_of text ≡ Err (line, cause)) × ShowsMore (shown text) (told text) held held') text
    c.finish-ended.result c.hand_on.result c.hand_on.ensures.ends (c.finish-ended.ensures.refused text h)
    (λ ended line cause refused. (refused.0, written-more (shown text) (told text) (buffer_waiting b) (buffer_waiting b') held held' (buffer_held g.K.Sink.held c.finish-ended.new.sink) c.requires.none ended.0 refused.1 c.hand_on.ensures.kept))

pub returns-clause-front : goal.returns-clause-front
returns-clause-front g c text h =
    let b = c.args.report.now in
    let b' = c.hand_on.new.report in
    let between = buffer_held g.K.Sink.held c.finish-ended.new.sink in
    let grown = le_then _ _ _ c.finish-ended.ensures.later.1 c.hand_on.ensures.later.1 in
    front-on c.finish-ended.result c.hand_on.result (shown text) (told text) (buffer_waiting b) (buffer_waiting b') (g.K.Sink.held (buffer_out b)) (g.K.Sink.held (buffer_out b')) between c.requires.none grown c.hand_on.ensures.kept
    (c.finish-ended.ensures.ok text h) (λ fed. all-is-front (shown text) (told text) (buffer_held g.K.Sink.held b) between fed.1) (c.finish-ended.ensures.front text h)

pub returns-clause-missing : goal.returns-clause-missing
returns-clause-missing g c text h =
    let b = c.args.report.now in
    let b' = c.hand_on.new.report in
    let held = g.K.Sink.held (buffer_out b) in
    let held' = g.K.Sink.held (buffer_out b') in
    let between = buffer_held g.K.Sink.held c.finish-ended.new.sink in
    let grown = le_then _ _ _ c.finish-ended.ensures.later.1 c.hand_on.ensures.later.1 in
    less-on c.finish-ended.result c.hand_on.result _ _ _ _ c.hand_on.ensures.ends (c.finish-ended.ensures.ok text h) (λ fed. all-is-front (shown text) (told text) (buffer_held g.K.Sink.held b) between fed.1) (c.finish-ended.ensures.front text h)
    (λ failed. written-less (shown text) (told text) (buffer_waiting b) (buffer_waiting b') held held' between c.requires.none grown (c.finish-ended.ensures.missing text h failed) c.hand_on.ensures.kept)
    (λ waited waits front. waiting-less (shown text) (told text) (buffer_waiting b) (buffer_waiting b') held held' between c.requires.none waits
    (λ same. waited (ap buffer_waiting (c.finish-ended.ensures.untouched text h same) ∙ c.requires.none)) grown front c.hand_on.ensures.kept)

pub returns-clause-output : goal.returns-clause-output
returns-clause-output g c is = output-rose c.finish-ended.result c.hand_on.result _ _ _ _ _ c.hand_on.ensures.ends c.finish-ended.ensures.cause c.finish-ended.ensures.later.2 c.hand_on.ensures.later.2 is

pub returns-clause-steady_else : goal.returns-clause-steady_else
returns-clause-steady_else g c = steady-on c.finish-ended.result c.hand_on.result _ _ _ c.hand_on.ensures.ends c.finish-ended.ensures.steady
