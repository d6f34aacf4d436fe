use Rattle.std.proofs.Common.{ap}
use Rattle.pccc_envelope.specs.Accepted.{judged}
use Rattle.pccc_envelope.proofs.LastAccepted.{kept-is_last, accepted-append}
use Rattle.pccc_envelope.proofs.duplicate_filter.keeps_the_last_accepted.Goals as goal

pub returns : goal.returns
returns c = record {
  key = kept-is_last;
  verdict = λ offers next. ap (λ kept. judged kept next) (kept-is_last offers);
  one_more = accepted-append;
}
