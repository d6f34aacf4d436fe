-- A word, and then the two digits.
use Rattle.std.proofs.Common.{append_assoc}
use Rattle.hex.specs.Hex.{encode_with}
use Rattle.df1_dissect.proofs.line.append_code.Goals as goal

pub returns-clause-text : goal.returns-clause-text
unfolding encode_with
returns-clause-text g c = rw (c.append-2.ensures, c.append.ensures, c.high_digit.ensures, c.low_digit.ensures) (simp append_assoc)
