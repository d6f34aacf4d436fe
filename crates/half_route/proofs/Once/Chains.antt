-- What goes from end to end through the master: what an end accepted in the name of another is some of what that one handed out.
use Rattle.std.proofs.Common.{◌≡◌, ◌∙◌, ℕ, suc, Bool, true, false, cond, not, List, [], ◌∷◌, Some, refl, ap, sym, subst}
use Rattle.std.specs.Prelude.{slice_get, slice_index, ◌==◌, ◌||◌}
use Rattle.std.specs.List.{filter}
use Rattle.std.proofs.lemmas.Bool.{eqb-true, false_from_ne_true}
use Rattle.pccc_envelope.specs.Envelope.{is_reply}
use Rattle.df1_node.specs.Node.{NodeState}
use Rattle.station_router.specs.Router.{RouterState, is_carried}
use Rattle.script_parts.specs.HalfPlayable.{is_declared}
use Rattle.replay_report.specs.declared.record.Line.{Line}
use Rattle.each_once.specs.Commands.{is_command}
use Rattle.each_once.specs.OfStation.{is_from}
use Rattle.each_once.specs.Exchanges.{replies_to}
use Rattle.each_once.proofs.AnsweringStation.{reply-of, within-through}
use Rattle.each_once.proofs.HandedOut.{handed-at}
use Rattle.each_once.proofs.StationReplies.{fits-fields}
use Rattle.each_once.proofs.Sublists.{Has, IsWithin, within-has, within-filter, has-filter}
use Rattle.std.specs.Option.{option_map}
use Rattle.std.proofs.lemmas.Option.{slice_get-map}
use Rattle.df1_node.specs.Initiator.{Issued}
use Rattle.half_route.proofs.Once.EndSteps.{End, EndHolds, IsOwn, IsFrom}
use Rattle.half_route.proofs.Once.FoundCommands.{filter-has, filter-within}
use Rattle.half_route.proofs.Once.Partaking.{handed-replies}
use Rattle.half_route.proofs.Once.RouterSteps.{Routes, IsFromOne, is_own, is_passed, carried-within}

-- ---- two tests of which one passes all that the other does

narrow-one : {A : Type 0} (a b : Bool) (p q : A → Bool) (x : A) (xs : List A) → p x ≡ a → q x ≡ b → (p x ≡ true → q x ≡ true) → filter p xs ≡ filter p (filter q xs) → cond a (x ∷ filter p xs) (filter p xs) ≡ filter p (cond b (x ∷ filter q xs) (filter q xs))
narrow-one true true p q x xs is-p is-q implies same = rw is-p (ap (λ ys. x ∷ ys) same)
narrow-one true false p q x xs is-p is-q implies same = let no : false ≡ true = sym is-q ∙ implies is-p in absurd cc
narrow-one false true p q x xs is-p is-q implies same = rw is-p same
narrow-one false false p q x xs is-p is-q implies same = same

narrow : {A : Type 0} (p q : A → Bool) (xs : List A) → ((x : A) → p x ≡ true → q x ≡ true) → filter p xs ≡ filter p (filter q xs)
narrow p q [] implies = refl
narrow p q (x ∷ xs) implies = narrow-one (p x) (q x) p q x xs refl refl (implies x) (narrow p q xs implies)

-- ---- from a station to a station

-- a message from a station isn't in the master's own name
station-passed : (numbers : List ℕ) (address number : ℕ) → is_declared numbers address ≡ false → is_declared numbers number ≡ true → (body : List ℕ) → is_from number body ≡ true → is_passed address body ≡ true
station-passed numbers address number apart declared body from =
    ap not (false_from_ne_true (is_from address body) (λ own. let no : true ≡ false = sym declared ∙ ap (is_declared numbers) (sym (eqb-true _ _ from) ∙ eqb-true _ _ own) ∙ apart in absurd cc))

-- what the master handed out in the name of a station is some of what it accepted from it
passed-through : {end : End} {numbers : List ℕ} {r : RouterState NodeState} {sent heard : List (List ℕ)} {lines : List Line} (number : ℕ) → is_declared numbers end.address ≡ false → is_declared numbers number ≡ true → Routes end numbers r sent heard lines
    → IsWithin (filter (is_from number) sent) (filter (is_from number) heard)
passed-through {end} {numbers} {r} {sent} {heard} number apart declared h =
    let carried = filter (is_carried numbers) heard in
    let passed = filter (is_passed end.address) sent in
    let first = within-filter (is_from number) passed carried (carried-within h) in
    let same : filter (is_from number) sent ≡ filter (is_from number) passed = narrow (is_from number) (is_passed end.address) sent (station-passed numbers end.address number apart declared) in
    subst (λ (l : List (List ℕ)). IsWithin l (filter (is_from number) heard)) (sym same)
    (within-through (filter (is_from number) passed) (filter (is_from number) carried) (filter (is_from number) heard) first (within-filter (is_from number) carried heard (filter-within (is_carried numbers) heard)))

-- so what an end accepted in the name of a station is some of what that one handed out
pub station-chain : {end : End} {numbers : List ℕ} {r : RouterState NodeState} {sent heard : List (List ℕ)} {lines : List Line} (number : ℕ) (accepted handed : List (List ℕ)) → is_declared numbers end.address ≡ false → is_declared numbers number ≡ true
    → Routes end numbers r sent heard lines → IsWithin accepted sent → IsWithin (filter (is_from number) heard) handed → IsWithin (filter (is_from number) accepted) handed
station-chain {sent = sent} {heard = heard} number accepted handed apart declared h within back =
    within-through (filter (is_from number) accepted) (filter (is_from number) sent) handed (within-filter (is_from number) accepted sent within)
    (within-through (filter (is_from number) sent) (filter (is_from number) heard) handed (passed-through number apart declared h) back)

-- and what the master's node accepted
pub own-chain : (numbers : List ℕ) (number : ℕ) (heard handed : List (List ℕ)) → IsWithin (filter (is_from number) heard) handed → IsWithin (filter (is_from number) (filter (is_own numbers) heard)) handed
own-chain numbers number heard handed back =
    within-through (filter (is_from number) (filter (is_own numbers) heard)) (filter (is_from number) heard) handed (within-filter (is_from number) (filter (is_own numbers) heard) heard (filter-within (is_own numbers) heard)) back

-- ---- a message that was handed out by the master is in its own name, or from a station

pub data IsSentBy (address : ℕ) (numbers : List ℕ) (body : List ℕ) : Type 0 where
  master : IsFrom address body → IsSentBy address numbers body
  station : IsFromOne numbers body → IsSentBy address numbers body

sent-by : {end : End} {numbers : List ℕ} {r : RouterState NodeState} {sent heard : List (List ℕ)} {lines : List Line} (body : List ℕ) (own : Bool) → is_from end.address body ≡ own → Routes end numbers r sent heard lines → Has sent body → IsSentBy end.address numbers body
sent-by {end} body true is h has = master (eqb-true _ _ is)
sent-by {end} {numbers} {r} {sent} {heard} body false is h has =
    let passed = has-filter (is_passed end.address) sent has.0 body (ap not is) has.1 in
    let was = filter-has (is_carried numbers) heard body (within-has (filter (is_passed end.address) sent) (filter (is_carried numbers) heard) body (carried-within h) passed) in
    station (h.from_one was.0.0 body was.0.1)

pub is-sent-by : {end : End} {numbers : List ℕ} {r : RouterState NodeState} {sent heard : List (List ℕ)} {lines : List Line} (body : List ℕ) → Routes end numbers r sent heard lines → Has sent body → IsSentBy end.address numbers body
is-sent-by {end} body h has = sent-by body (is_from end.address body) refl h has

-- ---- what an end handed out: a command that it issued, or a reply to a command that it accepted

pub sent-own : {end : End} {accepted : List (List ℕ)} {lines : List Line} (node : NodeState) (sent : List (List ℕ)) (body : List ℕ) → EndHolds end accepted node sent lines → Has sent body → is_reply body ≡ false → IsOwn end body
sent-own {end} node sent body e has plain =
    let command = has-filter is_command sent has.0 body (ap not plain) has.1 in
    let c = handed-at node.initiator.issued (filter is_command sent) command.0 body e.partakes.initiates.in_order command.1 in
    subst (IsOwn end) c.3 (e.own c.0 c.1.body (slice_get-map (λ (x : Issued). x.body) node.initiator.issued c.0 ∙ ap (option_map (λ (x : Issued). x.body)) c.2))

-- a reply is for the end whose command it is to
pub record IsReplyFor (accepted : List (List ℕ)) (reply : List ℕ) : Type 0 where
  pub body : List ℕ
  pub was_accepted : Has accepted body
  pub fits : slice_index reply 0 ≡ slice_index body 1

pub sent-reply : {end : End} {accepted : List (List ℕ)} {lines : List Line} (node : NodeState) (sent : List (List ℕ)) (reply : List ℕ) → EndHolds end accepted node sent lines → Has sent reply → is_reply reply ≡ true → IsReplyFor accepted reply
sent-reply {end} {accepted} node sent reply e has is =
    let executed = filter is_command accepted in
    let in_replies = has-filter is_reply sent has.0 reply is has.1 in
    let r = reply-of end.first executed reply (within-has (filter is_reply sent) (replies_to end.first executed) reply (handed-replies e.partakes) in_replies) in
    let was = filter-has is_command accepted r.body (r.place, r.is_executed) in
    record { body = r.body; was_accepted = was.0; fits = (fits-fields r.body reply r.fits).3 }

-- ---- a number that is declared stands somewhere

declared-more : (here : Bool) (first number : ℕ) (numbers : List ℕ) → (first == number) ≡ here → (here || is_declared numbers number) ≡ true → (is_declared numbers number ≡ true → (p : ℕ) × (slice_get numbers p ≡ Some number)) → (p : ℕ) × (slice_get (first ∷ numbers) p ≡ Some number)
declared-more true first number numbers is declared later = (0, ap Some (eqb-true first number is))
declared-more false first number numbers is declared later = let rest = later declared in (suc rest.0, rest.1)

pub declared-place : (numbers : List ℕ) (number : ℕ) → is_declared numbers number ≡ true → (p : ℕ) × (slice_get numbers p ≡ Some number)
declared-place [] number declared = absurd cc
declared-place (first ∷ numbers) number declared = declared-more (first == number) first number numbers refl declared (declared-place numbers number)
