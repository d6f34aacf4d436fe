-- The last response is the last that an act offered or set.
use Rattle.std.proofs.Common.{◌≡◌, ℕ, Bool, true, false, List, [], ◌∷◌, Option, Some, None, ap, ◌∙◌, refl}
use Rattle.std.specs.Prelude.{not, ◌&&◌, if◌then◌else◌}
use Rattle.std.specs.List.{fold}
use Rattle.df1_base.specs.declared.host.Host.{Ghosts}
use Rattle.df1_base.specs.declared.link.Resp.{Resp}
use Rattle.duplex_sender.specs.declared.SendTurn.{SendTurn}
use Rattle.duplex_sender.specs.declared.SendTurn.TheVariants as sends
use Rattle.duplex_sender.specs.Sender.{phase_of, on_tick, tick_turn}
use Rattle.duplex_receiver.specs.Receiver.{Response, Offers, Forgets, Again, Silent, response_for, response_after}
use Rattle.embedded_response.specs.Giving.{Giving, Choice, Second, Respond, Give, Enquire, offer, forget, answer_enq, unask, begin, chosen, given}
use Rattle.duplex_end.specs.End.{EndState, Place, OfMouth, FrameAgain, FrameOfNew, next_place, taken, responded, asked, is_waiting, act_of_byte, sender_after, end_after_byte, end_after_tick, end_after_take}
use Rattle.duplex_end.specs.Emission.{Letter, Byte, Tick, Take, end_after_all, acts}

dropped-last : (leaves : Bool) (g : Giving) → (if leaves then unask g else g).last ≡ g.last
dropped-last true g = refl
dropped-last false g = refl

by-response : (r : Response) (g : Giving) → (elim r as (λ _. Giving) [ Offers x ↦ offer g x | Forgets ↦ forget g | Again ↦ answer_enq g | Silent ↦ g ]).last
    ≡ (elim r as (λ _. Resp) [ Offers x ↦ x | Forgets ↦ (forget g).last | Again ↦ g.last | Silent ↦ g.last ])
by-response (Offers x) g = refl
by-response Forgets g = refl
by-response Again g = refl
by-response Silent g = refl

byte-last : {H : Type 0} (m : Ghosts H) (e : EndState H) (b : ℕ) → (end_after_byte m e b).mouth.last ≡ response_after e.mouth.last (act_of_byte m e b)
byte-last m e b =
    dropped-last (is_waiting (phase_of e.sender) && not (is_waiting (phase_of (sender_after (act_of_byte m e b) e.sender)))) (responded (act_of_byte m e b) e.mouth)
    ∙ by-response (response_for (act_of_byte m e b)) e.mouth

asked-last : (turn : SendTurn) (g : Giving) → (asked turn g).last ≡ g.last
asked-last sends.Still g = refl
asked-last sends.Ask g = refl
asked-last sends.Failed g = refl

tick-last : {H : Type 0} (m : Ghosts H) (e : EndState H) → (end_after_tick m e).mouth.last ≡ e.mouth.last
tick-last m e = dropped-last (is_waiting (phase_of e.sender) && not (is_waiting (phase_of (on_tick e.sender)))) (asked (tick_turn e.sender) e.mouth) ∙ asked-last (tick_turn e.sender) e.mouth

given-last : (g : Giving) (c : Option Choice) → (given g c).0.last ≡ g.last
given-last g None = refl
given-last g (Some (Second out)) = refl
given-last g (Some (Respond r)) = refl
given-last g (Some (Give unit)) = refl
given-last g (Some Enquire) = refl

taken-last : {H : Type 0} (m : Ghosts H) (e : EndState H) (p : Option Place) → (taken m e p).0.mouth.last ≡ e.mouth.last
taken-last m e None = refl
taken-last m e (Some (OfMouth choice)) = given-last e.mouth (Some choice)
taken-last m e (Some (FrameAgain body)) = given-last (begin e.mouth body) (chosen (begin e.mouth body))
taken-last m e (Some (FrameOfNew body)) = given-last (begin e.mouth body) (chosen (begin e.mouth body))

pub last-is : {H : Type 0} (m : Ghosts H) (e : EndState H) (signals : List Letter) → (end_after_all m e signals).mouth.last ≡ fold response_after e.mouth.last (acts m e signals)
last-is m e [] = refl
last-is m e (Byte b ∷ signals) = last-is m (end_after_byte m e b) signals ∙ ap (λ (last : Resp). fold response_after last (acts m (end_after_byte m e b) signals)) (byte-last m e b)
last-is m e (Tick ∷ signals) = last-is m (end_after_tick m e) signals ∙ ap (λ (last : Resp). fold response_after last (acts m (end_after_tick m e) signals)) (tick-last m e)
last-is m e (Take ∷ signals) = last-is m (end_after_take m e) signals ∙ ap (λ (last : Resp). fold response_after last (acts m (end_after_take m e) signals)) (taken-last m e (next_place m e))
