-- A case differs where what it shows does, and none of the forty does.
use Rattle.std.proofs.Common.{◌∙◌, ap}
use Rattle.std.specs.Prelude.{position}
use Rattle.vector_suite.specs.Vectors.{is_other, shown}
use Rattle.vector_suite.proofs.Cases.{none-differs}
use Rattle.vector_suite.proofs.Places.{position-mapped}
use Rattle.vector_suite.proofs.forty.each_case_holds.Goals as goal

pub returns : goal.returns
returns c = λ longest cases are. position-mapped is_other shown cases ∙ ap (position is_other) are ∙ none-differs
