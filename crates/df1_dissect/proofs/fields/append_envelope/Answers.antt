-- The fields one after another.
use Rattle.std.proofs.Common.{append_assoc}
use Rattle.df1_dissect.proofs.fields.append_envelope.Goals as goal

pub returns-clause-text : goal.returns-clause-text
returns-clause-text g c =
    rw (c.append.ensures, c.append_code-2.ensures.text, c.append_code.ensures.text, c.append_field-4.ensures.text, c.append_field-3.ensures.text, c.append_field-2.ensures.text, c.append_field.ensures.text)
    (simp append_assoc)
