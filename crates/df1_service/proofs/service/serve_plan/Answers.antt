use Rattle.std.proofs.lemmas.Result.{IfOk-weaker}
use Rattle.df1_base.specs.declared.signal.Signal.TheVariants.{Long}
use Rattle.df1_service.specs.Wire.{StoppedByInput, StoppedByOutput, HasNoForm, IsCut, IsServed, Reached}
use Rattle.df1_service.specs.Service.{seen}
use Rattle.df1_service.proofs.Wires.{of-plan, err-tells-so}
use Rattle.df1_service.proofs.service.serve_plan.Goals as goal

pub returns-in-Ok-clause-done : goal.returns-in-Ok-clause-done
returns-in-Ok-clause-done g c =
    IfOk-weaker c.serve_end.result.end _ _ (λ after served. of-plan (λ before. IsServed c.args.service.timed before after (g.S.Source.left c.args.input) (g.S.Source.left c.serve_end.result.input) (g.K.Sink.held c.args.out) (g.K.Sink.held c.serve_end.result.out)) _ (seen c.args.service.issues) c.in-Ok.end c.in-Ok.ensures.of_plan served) c.serve_end.ensures.done

pub returns-in-Ok-clause-record : goal.returns-in-Ok-clause-record
returns-in-Ok-clause-record g c =
    err-tells-so _ _ _ _ c.serve_end.result.end
    (λ at told. of-plan (λ before. HasNoForm c.args.service.timed before at (g.S.Source.left c.args.input) (g.S.Source.left c.serve_end.result.input) (g.K.Sink.held c.args.out) (g.K.Sink.held c.serve_end.result.out)) _ (seen c.args.service.issues) c.in-Ok.end c.in-Ok.ensures.of_plan told)
    (λ at told. of-plan (λ before. IsCut c.args.service.timed before at (g.S.Source.left c.args.input) (g.S.Source.left c.serve_end.result.input) (g.K.Sink.held c.args.out) (g.K.Sink.held c.serve_end.result.out)) _ (seen c.args.service.issues) c.in-Ok.end c.in-Ok.ensures.of_plan told)
    c.serve_end.ensures.record

pub returns-in-Ok-clause-long : goal.returns-in-Ok-clause-long
returns-in-Ok-clause-long g c = λ is. of-plan (λ before. Reached c.args.service.timed before Long (g.S.Source.left c.args.input) (g.S.Source.left c.serve_end.result.input) (g.K.Sink.held c.args.out) (g.K.Sink.held c.serve_end.result.out)) _ (seen c.args.service.issues) c.in-Ok.end c.in-Ok.ensures.of_plan (c.serve_end.ensures.long is)

pub returns-in-Ok-clause-broken : goal.returns-in-Ok-clause-broken
returns-in-Ok-clause-broken g c = λ is.
    let told = c.serve_end.ensures.broken is in
    (told.0, of-plan (λ before. StoppedByInput c.args.service.timed before (g.S.Source.left c.args.input) (g.S.Source.left c.serve_end.result.input) (g.K.Sink.held c.args.out) (g.K.Sink.held c.serve_end.result.out)) _ (seen c.args.service.issues) c.in-Ok.end c.in-Ok.ensures.of_plan told.1)

pub returns-in-Ok-clause-cut : goal.returns-in-Ok-clause-cut
returns-in-Ok-clause-cut g c = λ is.
    let told = c.serve_end.ensures.cut is in
    (told.0, of-plan (λ before. StoppedByOutput c.args.service.timed before (g.S.Source.left c.args.input) (g.S.Source.left c.serve_end.result.input) (g.K.Sink.held c.args.out) (g.K.Sink.held c.serve_end.result.out)) _ (seen c.args.service.issues) c.in-Ok.end c.in-Ok.ensures.of_plan told.1)
