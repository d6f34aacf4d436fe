use Rattle.std.proofs.Common.{◌∷◌, []}
use Rattle.std.proofs.lemmas.Grind.{fold-append}
use Rattle.df1_base.specs.declared.link.Resp.TheVariants.{Nak}
use Rattle.duplex_receiver.specs.Receiver.{response_after}
use Rattle.duplex_receiver.proofs.laws.last_response_goes_on.Goals as goal

pub returns : goal.returns
returns c = λ acts more. fold-append response_after Nak acts (more ∷ [])
