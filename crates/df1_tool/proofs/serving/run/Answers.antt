use Rattle.std.proofs.Common.{ap}
use Rattle.df1_service.specs.Service.{serving_of}
use Rattle.df1_tool.proofs.Services.{run-of, err-so}
use Rattle.df1_tool.proofs.serving.run.Goals as goal

pub returns-clause-serves : goal.returns-clause-serves
returns-clause-serves g c =
    let s = c.serve_plan-ended.ensures in
    run-of (serving_of c.args.service) c.args.name.now _ _ c.serve_plan-ended.result.end c.tell-status.result (record {
      done = s.done;
      none = s.none;
      too_long = s.too_long;
      failed = s.failed;
      sound = s.sound;
      untouched = err-so _ _ c.serve_plan-ended.result.end (λ why kept of_plan. (ap g.S.Source.left (kept of_plan).0, ap g.K.Sink.held (kept of_plan).1)) s.untouched;
      record_is = s.record;
      long = s.long;
      broken = s.broken;
      cut = s.cut;
      calm = s.calm;
      steady = s.steady;
      shelf_calm = s.shelf_calm;
      same_files = s.shelf;
      finish = c.tell-status.ensures.finished;
      refuse = c.tell-status.ensures.refused;
    })
