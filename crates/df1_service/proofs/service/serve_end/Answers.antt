use Rattle.df1_service.proofs.Wires.{Facts, done-of, record-of, long-of, broken-of, cut-of, failed-input, failed-output, input-rose, output-rose}
use Rattle.df1_service.proofs.service.serve_end.Goals as goal

pub returns-clause-done : goal.returns-clause-done
returns-clause-done g c =
    let parts = c.into_parts-input.ensures in
    let told = c.serve-served.ensures in
    let facts : Facts g.S.Source.left g.K.Sink.held c.new-port.result c.serve-served.new.port c.args.end c.serve-served.new.end c.serve-served.result =
    record { served = told.served; stopped = told.stopped; breaks_off = told.breaks_off; dry = told.dry } in
    rw (c.ended_with.ensures, parts.source, parts.sink) (done-of g.S.Source.left g.K.Sink.held _ _ _ _ _ _ _ _ c.held-held.result c.new-port.ensures facts)

pub returns-clause-record : goal.returns-clause-record
returns-clause-record g c =
    let parts = c.into_parts-input.ensures in
    let told = c.serve-served.ensures in
    let facts : Facts g.S.Source.left g.K.Sink.held c.new-port.result c.serve-served.new.port c.args.end c.serve-served.new.end c.serve-served.result =
    record { served = told.served; stopped = told.stopped; breaks_off = told.breaks_off; dry = told.dry } in
    rw (c.ended_with.ensures, parts.source, parts.sink) (record-of g.S.Source.left g.K.Sink.held _ _ _ _ _ _ _ _ c.held-held.result c.new-port.ensures facts c.held-held.ensures)

pub returns-clause-long : goal.returns-clause-long
returns-clause-long g c =
    let parts = c.into_parts-input.ensures in
    let told = c.serve-served.ensures in
    let facts : Facts g.S.Source.left g.K.Sink.held c.new-port.result c.serve-served.new.port c.args.end c.serve-served.new.end c.serve-served.result =
    record { served = told.served; stopped = told.stopped; breaks_off = told.breaks_off; dry = told.dry } in
    rw (c.ended_with.ensures, parts.source, parts.sink) (long-of g.S.Source.left g.K.Sink.held _ _ _ _ _ _ _ _ c.held-held.result c.new-port.ensures facts)

pub returns-clause-broken : goal.returns-clause-broken
returns-clause-broken g c =
    let parts = c.into_parts-input.ensures in
    let told = c.serve-served.ensures in
    let facts : Facts g.S.Source.left g.K.Sink.held c.new-port.result c.serve-served.new.port c.args.end c.serve-served.new.end c.serve-served.result =
    record { served = told.served; stopped = told.stopped; breaks_off = told.breaks_off; dry = told.dry } in
    rw (c.ended_with.ensures, parts.source, parts.sink) (λ is. (input-rose g.S.Source.faults _ _ _ _ _ c.new-port.ensures (told.in_failed (failed-input _ _ _ is)), broken-of g.S.Source.left g.K.Sink.held _ _ _ _ _ _ _ _ c.held-held.result c.new-port.ensures facts is))

pub returns-clause-cut : goal.returns-clause-cut
returns-clause-cut g c =
    let parts = c.into_parts-input.ensures in
    let told = c.serve-served.ensures in
    let facts : Facts g.S.Source.left g.K.Sink.held c.new-port.result c.serve-served.new.port c.args.end c.serve-served.new.end c.serve-served.result =
    record { served = told.served; stopped = told.stopped; breaks_off = told.breaks_off; dry = told.dry } in
    rw (c.ended_with.ensures, parts.source, parts.sink) (λ is. (output-rose g.K.Sink.faults _ _ _ _ _ c.new-port.ensures (told.out_failed (failed-output _ _ _ is)), cut-of g.S.Source.left g.K.Sink.held _ _ _ _ _ _ _ _ c.held-held.result c.new-port.ensures facts parts.few is))
