-- What is told of the transfer is what the report tells of its orders; where the output failed, a first part of it is written.
use Rattle.std.proofs.Common.{◌∙◌, refl}
use Rattle.whole_scripts.proofs.ToldTransfers.{pulled-bulk, pulled-words, rehearsable}
use Rattle.whole_scripts.proofs.rehearsing.pull_input.Goals as goal

pub returns-clause-pulled : goal.returns-clause-pulled
returns-clause-pulled g c =
    let s = c.in_ok-script in
    let r = c.in_ok-rehearsal.ensures in
    let may = rehearsable s.script (s.ensures.playable (λ same. cc)) (s.ensures.rehearsed refl) in
    let bulk = r.bulk ∙ pulled-bulk s.script c.args.file c.args.words may c.requires.words.1 in
    let words = r.words ∙ pulled-words s.script c.args.file c.args.words may c.requires.words.1 in
    record {
      script = s.script;
      read = s.ensures.read;
      put = rw (r.report, bulk, words) at c.in_ok-write_by_pieces.ensures.ok;
      holds = record {
        pulled = rw (r.report, bulk, words) at r.pulled;
        whole = rw bulk at r.whole;
        complete = rw r.report at r.complete;
        recovered = rw r.report at r.recovered;
        once = rw r.report at r.once;
        wires = rw r.report at r.wires;
      };
    }

pub returns-in_err-write_by_pieces-clause-output : goal.returns-in_err-write_by_pieces-clause-output
returns-in_err-write_by_pieces-clause-output g c same =
    let s = c.in_ok-script in
    let r = c.in_ok-rehearsal.ensures in
    let may = rehearsable s.script (s.ensures.playable (λ same. cc)) (s.ensures.rehearsed refl) in
    let bulk = r.bulk ∙ pulled-bulk s.script c.args.file c.args.words may c.requires.words.1 in
    let words = r.words ∙ pulled-words s.script c.args.file c.args.words may c.requires.words.1 in (
      c.in_err-write_by_pieces.ensures.cause,
      s.ensures.calm,
      record { script = s.script; read = s.ensures.read; less = rw (r.report, bulk, words) at c.in_err-write_by_pieces.ensures.missing },
    )
