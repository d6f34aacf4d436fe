use Rattle.std.proofs.Common.{◌∙◌, ℕ, List, Option, Err, ap}
use Rattle.std.proofs.lemmas.Result.{on_err_weaker, on_ok_weaker}
use Rattle.line_script.specs.Fed.{accepted_script}
use Rattle.line_replay.specs.Fed.{IsScript, ShowsFront, ShowsMore, events_text, shown, told}
use Rattle.line_replay.proofs.Fed.{front-as-shown, front-behind, front-on-err, front-open, less-behind, shows-behind, still-open, unchanged}
use Rattle.line_replay.proofs.replayer.Replayer.finish.Goals as goal

-- what is written at the end stands behind what the last line's event wrote
behind : (text : List ℕ) (a b c : Option (List ℕ)) → ShowsMore (shown text) (events_text (accepted_script text)) a b
    → IsScript text × ShowsMore (events_text (accepted_script text)) (told text) b c → IsScript text × ShowsMore (shown text) (told text) a c
behind text a b c first last = (last.0, shows-behind (shown text) (events_text (accepted_script text)) (told text) a b c first last.1)

pub returns-in-Ok-clause-ok : goal.returns-in-Ok-clause-ok
returns-in-Ok-clause-ok g c text h =
    let first = c.in-Ok.ensures.ok text h in
    on_ok_weaker c.close.result (behind text (g.K.Sink.held c.args.sink.now) (g.K.Sink.held c.end_lines.new.sink) (g.K.Sink.held c.close.new.sink) first.1) (c.close.ensures.ok text first.0)

pub returns-in-Ok-clause-missing : goal.returns-in-Ok-clause-missing
returns-in-Ok-clause-missing g c text h failed =
    let first = c.in-Ok.ensures.ok text h in
    less-behind (shown text) (events_text (accepted_script text)) (told text) (g.K.Sink.held c.args.sink.now) (g.K.Sink.held c.end_lines.new.sink) (g.K.Sink.held c.close.new.sink) first.1
    (c.close.ensures.missing text first.0 failed)

pub returns-in-Ok-clause-front : goal.returns-in-Ok-clause-front
returns-in-Ok-clause-front g c text h =
    let first = c.in-Ok.ensures.ok text h in
    on_err_weaker c.close.result
    (front-behind (shown text) (events_text (accepted_script text)) (told text) (g.K.Sink.held c.args.sink.now) (g.K.Sink.held c.end_lines.new.sink) (g.K.Sink.held c.close.new.sink) first.1)
    (front-on-err c.close.result c.end_lines.new.sink c.close.new.sink g.K.Sink.held (events_text (accepted_script text)) (told text) c.close.ensures.silent (c.close.ensures.missing text first.0)
    (front-open text c.end_lines.new.self (g.K.Sink.held c.end_lines.new.sink) first.0))

pub returns-in-Ok-clause-untouched : goal.returns-in-Ok-clause-untouched
returns-in-Ok-clause-untouched g c text h same =
    let first = c.in-Ok.ensures.ok text h in
    c.close.ensures.untouched text first.0 (still-open text c.end_lines.new.self (g.K.Sink.held c.args.sink.now) (g.K.Sink.held c.end_lines.new.sink) first same) ∙ c.in-Ok.ensures.untouched text h same

pub returns-in-Err-clause-front : goal.returns-in-Err-clause-front
returns-in-Err-clause-front g c text h =
    let held = g.K.Sink.held in
    unchanged c.args.sink.now c.end_lines.new.sink c.in-Err.fault held (λ now. ShowsFront (shown text) (told text) (held c.args.sink.now) now) c.in-Err.ensures.silent
    (λ is. (c.in-Err.ensures.missing text h (ap Err is)).0) (front-as-shown text c.args.self.now (held c.args.sink.now) h)
