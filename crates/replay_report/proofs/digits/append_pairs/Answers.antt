-- After the loop all bytes are there.
use Rattle.std.proofs.Common.{◌∙◌, ◌++◌, List, ℕ, ap, sym}
use Rattle.std.specs.List.{flat_map}
use Rattle.std.proofs.lemmas.List.{take_all}
use Rattle.replay_report.proofs.Pairs.{by_bytes, pair_of}
use Rattle.replay_report.proofs.digits.append_pairs.Goals as goal

pub returns-clause-text : goal.returns-clause-text
returns-clause-text c =
    let all = ap (flat_map pair_of) (take_all c.loop-byte.byte-index c.args.bytes.now c.loop-byte-test.false) ∙ sym (by_bytes c.args.bytes.now) in
    c.loop-byte.invariant.digits ∙ ap (λ (digits : List ℕ). c.args.line.now.items ++ digits) all
