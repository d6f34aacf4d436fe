use Rattle.std.proofs.Common.{◌/◌, ◌%◌, ◌∷◌, [], append_assoc}
use Rattle.hex.specs.Hex.{encode_upper}
use Rattle.replay_report.proofs.Pairs.{two_bytes}
use Rattle.df1_drill.proofs.drilled.append_digits.Goals as goal

pub returns-clause-text : goal.returns-clause-text
returns-clause-text c =
    let high = c.args.n / 256 in
    let low = c.args.n % 256 in
    rw (c.append-2.ensures, c.append.ensures, c.pair.ensures, c.pair-2.ensures, two_bytes high low)
    (append_assoc c.args.line.now.items (encode_upper (high ∷ [])) (encode_upper (low ∷ [])))
