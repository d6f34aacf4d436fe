-- What is told of the transfer is what the report tells of its orders; where the output failed, a first part of it is written.
use Rattle.std.proofs.Common.{◌∙◌, refl}
use Rattle.whole_scripts.proofs.ToldTransfers.{pushed-bulk, rehearsable}
use Rattle.whole_scripts.proofs.rehearsing.push_input.Goals as goal

pub returns-clause-pushed : goal.returns-clause-pushed
returns-clause-pushed g c =
    let s = c.in_ok-script in
    let r = c.in_ok-rehearsal.ensures in
    let may = rehearsable s.script (s.ensures.playable (λ same. cc)) (s.ensures.rehearsed refl) in
    let bulk = r.bulk ∙ pushed-bulk s.script c.args.file c.args.bytes.now may c.requires.words.1 in
    record {
      script = s.script;
      read = s.ensures.read;
      put = rw (r.report, bulk, c.order_count-orders.ensures.count) at c.in_ok-write_by_pieces.ensures.ok;
      holds = record {
        pushed = rw (r.report, bulk) at r.pushed;
        whole = rw bulk at r.whole;
        complete = rw r.report at r.complete;
        recovered = rw r.report at r.recovered;
        once = rw r.report at r.once;
        wires = rw r.report at r.wires;
      };
    }

pub returns-in_err-write_by_pieces-clause-output : goal.returns-in_err-write_by_pieces-clause-output
returns-in_err-write_by_pieces-clause-output g c same =
    let s = c.in_ok-script in
    let r = c.in_ok-rehearsal.ensures in
    let may = rehearsable s.script (s.ensures.playable (λ same. cc)) (s.ensures.rehearsed refl) in
    let bulk = r.bulk ∙ pushed-bulk s.script c.args.file c.args.bytes.now may c.requires.words.1 in (
      c.in_err-write_by_pieces.ensures.cause,
      s.ensures.calm,
      record { script = s.script; read = s.ensures.read; less = rw (r.report, bulk, c.order_count-orders.ensures.count) at c.in_err-write_by_pieces.ensures.missing },
    )
