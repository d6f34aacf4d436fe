-- The last of the kinds.
use Rattle.std.proofs.Common.{◌∙◌, append_assoc}
use Rattle.std.specs.Prelude.{codes}
use Rattle.df1_dissect.specs.Lines.{kind_text, byte_digits}
use Rattle.df1_dissect.proofs.line.append_kind.Goals as goal

pub returns-in-StrayPair-clause-text : goal.returns-in-StrayPair-clause-text
unfolding kind_text
returns-in-StrayPair-clause-text g c = rw c.in-StrayPair.is (c.append_code-in-StrayPair.ensures.text ∙ append_assoc c.args.text.now.items (codes "stray-pair ") (byte_digits c.in-StrayPair.code))
