-- What a run has to tell, as a text.
use Rattle.std.specs.Prelude.{ℕ, ◌≤◌, List, ◌++◌, length}
use Rattle.bulk_orders.specs.Telling.{pull_line, push_line}
use Rattle.replay_report.specs.Report.{report}
use Rattle.whole_scripts.specs.declared.printing.Telling.{Telling}
use Rattle.whole_scripts.specs.declared.printing.Telling.TheVariants.{Report, Pulled, Pushed}

abbrev pub text_of : Telling → List ℕ
text_of (Report record_of) = report record_of.now
text_of (Pulled rehearsal) = report rehearsal.now.report ++ pull_line rehearsal.now.bulk rehearsal.now.words
text_of (Pushed rehearsal orders) = report rehearsal.now.report ++ push_line rehearsal.now.bulk orders

-- a transfer that reads has at most 3,000 words
abbrev pub IsTold : Telling → Type 0
IsTold (Report record_of) = Unit {0}
IsTold (Pulled rehearsal) = length rehearsal.now.words ≤ 6000
IsTold (Pushed rehearsal orders) = Unit {0}
