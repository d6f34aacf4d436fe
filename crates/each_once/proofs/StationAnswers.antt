-- A reply that is accepted from a station is what that station answered to one of the commands.
use Rattle.std.proofs.Common.{◌≡◌, ℕ, suc, ◌+◌, ◌≤◌, true, List, [], ◌∷◌, ◌++◌, length, map, Option, Some, None, ap, sym, subst}
use Rattle.std.specs.Prelude.{Contains}
use Rattle.pccc_envelope.specs.declared.key.Key.{Key}
use Rattle.pccc_envelope.specs.Envelope.{tns_of}
use Rattle.df1_node.specs.Answer.{StationState}
use Rattle.df1_node.specs.Initiator.{Issued, InitiatorState, is_reply_to, answered_place}
use Rattle.each_once.specs.Exchanges.{exchanges}
use Rattle.each_once.proofs.AnsweringStation.{replies_to, Replies}
use Rattle.each_once.proofs.AcceptedReplies.{IsFound, handed-differ, is-answer, given-up}
use Rattle.each_once.proofs.CommandBodies.{answered-none}
use Rattle.each_once.proofs.HandedOut.{Initiates, handed-at, settled-at}
use Rattle.each_once.proofs.KeptCommands.{IsReplyOf, IsOfLost}
use Rattle.each_once.proofs.StationReplies.{exchanges-tns, fits-key}
use Rattle.each_once.proofs.Sublists.{Has, IsWithin, within-has, Differ, differ-within, differ-last, contains-at}

-- ---- the command that a reply is of

-- the station executed some of the commands that were handed out
pub found-of : (first : StationState) (executed : List (List ℕ)) (s : InitiatorState) (commands heard : List (List ℕ)) (reply : List ℕ) → Initiates s commands heard → IsWithin executed commands → Replies first executed reply
    → IsFound (exchanges first executed) executed s.issued reply
found-of first executed s commands heard reply i within r =
    let handed = within-has executed commands r.body within (r.place, r.is_executed) in
    let c = handed-at s.issued commands handed.0 r.body i.in_order handed.1 in
    record {
      command = c.1;
      place = c.0;
      is_at = c.2;
      is_out_of_hand = c.4;
      answer = subst (λ b. Contains (exchanges first executed) (b, reply)) (sym c.3) (contains-at (exchanges first executed) r.place (r.body, reply) r.exchanged);
      fits = subst (λ b. is_reply_to b reply ≡ true) (sym c.3) r.fits;
    }

-- ---- where the command was given up

pub executed-differ : (executed : List (List ℕ)) (s : InitiatorState) (commands heard : List (List ℕ)) → Initiates s commands heard → length s.issued ≤ 65535 → IsWithin executed commands → Differ (map tns_of executed)
executed-differ executed s commands heard i few within =
    differ-within tns_of executed commands within (handed-differ s commands heard i few)

-- a command that was answered before was answered by an earlier reply of the station; but its replies to one command are one
other-answer : (first : StationState) (executed told : List (List ℕ)) (body reply earlier : List ℕ) → Differ (map tns_of executed) → IsWithin (told ++ reply ∷ []) (replies_to first executed)
    → is_reply_to body reply ≡ true → Has told earlier → is_reply_to body earlier ≡ true → ⊥
other-answer first executed told body reply earlier differ within fits has fitted =
    let same = fits-key body earlier reply fitted fits in
    let numbers : Differ (map tns_of (replies_to first executed)) = subst Differ (sym (exchanges-tns first executed)) differ in
    differ-last tns_of told has.0 earlier reply (differ-within tns_of (told ++ reply ∷ []) (replies_to first executed) within numbers) has.1 (ap (λ (key : Key). key.tns) same)

-- ---- what is told of a reply that is accepted

-- the reply answers the command at this place, or none that is out
abbrev pub IsToldReply : List Issued → List (List ℕ × List ℕ) → List ℕ → Option ℕ → Type 0
IsToldReply issued answered body (Some place) = IsReplyOf issued answered (place + 1) body
IsToldReply issued answered body None = IsOfLost issued answered body

-- the replies that were accepted from the station before are these, and each that answered a command of the station is among them
pub reply-told : (first : StationState) (executed told : List (List ℕ)) (s : InitiatorState) (commands heard : List (List ℕ)) (reply : List ℕ) → Initiates s commands heard → length s.issued ≤ 65535 → IsWithin executed commands
    → Replies first executed reply → IsWithin (told ++ reply ∷ []) (replies_to first executed)
    → ((body earlier : List ℕ) → is_reply_to body reply ≡ true → is_reply_to body earlier ≡ true → Has heard earlier → Has told earlier)
    → (place : Option ℕ) → answered_place s.issued reply ≡ place → IsToldReply s.issued (exchanges first executed) reply place
reply-told first executed told s commands heard reply i few executes replies within theirs (Some place) is =
    is-answer first executed s.tns s.issued reply place i.numbered few (found-of first executed s commands heard reply i executes replies) is
reply-told first executed told s commands heard reply i few executes replies within theirs None is =
    let f = found-of first executed s commands heard reply i executes replies in
    let differ = executed-differ executed s commands heard i few executes in
    record {
      number = suc f.place;
      replies = record { command = f.command; is_command = f.is_at; is_answer = f.answer };
      given_up = given-up heard f.command.body f.command.standing f.is_out_of_hand (answered-none s.issued reply f.place f.command is f.is_at f.fits) (settled-at heard s.issued f.place f.command i.settled f.is_at)
          (λ earlier has fitted. other-answer first executed told f.command.body reply earlier differ within f.fits (theirs f.command.body earlier f.fits fitted has) fitted);
    }
