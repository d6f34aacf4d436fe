use Rattle.std.proofs.Common.{refl}
use Rattle.df1_drill.proofs.drilled.Drilled.line.Goals as goal

pub returns : goal.returns
returns c =
    rw (c.append-2.ensures, c.append_digits.ensures.text, c.append.ensures, c.append_count-7.ensures.text, c.append_count-6.ensures.text, c.append_count-5.ensures.text, c.append_count-4.ensures.text, c.append_count-3.ensures.text, c.append_count-2.ensures.text, c.append_count.ensures.text, c.new-line.ensures) refl
