-- In every run: each command that wasn't handed out waits, and no more are out than may be.
use Rattle.std.proofs.Common.{◌≡◌, ◌∙◌, ℕ, suc, ◌≤◌, Bool, true, false, not, List, [], ◌∷◌, ◌++◌, Option, Some, None, refl, sym, ap, subst, arith, length}
use Rattle.std.specs.Prelude.{slice_get, if◌then◌else◌}
use Rattle.std.specs.List.{filter}
use Rattle.std.specs.Option.{option_map_or, option_or}
use Rattle.std.specs.Str.{bytes_eq}
use Rattle.std.proofs.lemmas.Slice.Eq.{bytes_eq-Decides}
use Rattle.df1_base.specs.declared.host.Fate.{Fate}
use Rattle.df1_base.specs.declared.host.Fate.TheVariants as fate
use Rattle.pccc_envelope.specs.Envelope.{is_reply, tns_of}
use Rattle.df1_node.specs.Answer.{StationState}
use Rattle.df1_node.specs.declared.handed.Handed.{Handed}
use Rattle.df1_node.specs.declared.handed.Handed.TheVariants as handed
use Rattle.df1_node.specs.Initiator.{Issued, Standing, Waiting, Out, Answered, Undelivered, Unanswered, InitiatorState, is_waiting, is_out, is_out_at, restated, answered_place, next_command, count_out, all_ticked, after_issue, after_reply, after_hand_out}
use Rattle.df1_node.specs.Node.{NodeState, next_body, after_next, after_accept, after_told, initiator_after}
use Rattle.each_once.proofs.AcceptedReplies.{tns-place}
use Rattle.each_once.proofs.HandedOrder.{AreAt}
use Rattle.each_once.proofs.HandedOut.{is_command, bodies_of, Hosts, handed-at}
use Rattle.each_once.proofs.InitiatorSteps.{next-is-command}
use Rattle.each_once.proofs.NodeSteps.{waiting-reply}
use Rattle.each_once.proofs.Sublists.{Has, same-some, filter-keeps, filter-drops}
use Rattle.each_once.proofs.CommandBodies.{answered-some}
use Rattle.each_once.proofs.CommandCounts.{one_if, out_now, count-restated}
use Rattle.each_once.proofs.CommandsUnderWay.{AreUnderWay, under-way-new, under-way-start, under-way-issue, under-way-hand_out-other, under-way-rests, other-restated, hands-out}

-- ---- a body among others

abbrev pub is_one_of : List (List ℕ) → List ℕ → Bool
is_one_of [] body = false
is_one_of (x ∷ xs) body = if bytes_eq x body then true else is_one_of xs body

-- a test that those pass which are not among these
abbrev pub is_other : List (List ℕ) → List ℕ → Bool
is_other xs body = not (is_one_of xs body)

pub one-of : (xs : List (List ℕ)) (body : List ℕ) → is_one_of xs body ≡ true → Has xs body
one-of [] body is = absurd cc
one-of (x ∷ xs) body is = by-test (bytes_eq x body) refl is (one-of xs body)
  where
    by-test : (same : Bool) → bytes_eq x body ≡ same → (if same then true else is_one_of xs body) ≡ true → (is_one_of xs body ≡ true → Has xs body) → Has (x ∷ xs) body
    by-test true e is more = (0, ap Some ((bytes_eq-Decides x body).0 e))
    by-test false e is more = let later = more is in (suc later.0, later.1)

one-before : (xs : List (List ℕ)) (x body : List ℕ) → is_one_of (xs ++ x ∷ []) body ≡ false → is_one_of xs body ≡ false
one-before [] x body is = refl
one-before (y ∷ xs) x body is = by-test (bytes_eq y body) is (one-before xs x body)
  where
    by-test : (same : Bool) → (if same then true else is_one_of (xs ++ x ∷ []) body) ≡ false → (is_one_of (xs ++ x ∷ []) body ≡ false → is_one_of xs body ≡ false) → (if same then true else is_one_of xs body) ≡ false
    by-test true is more = is
    by-test false is more = more is

one-last : (xs : List (List ℕ)) (x : List ℕ) → is_one_of (xs ++ x ∷ []) x ≡ true
one-last [] x = let itself : bytes_eq x x ≡ true = (bytes_eq-Decides x x).1 refl in rw itself refl
one-last (y ∷ xs) x = by-test (bytes_eq y x) (one-last xs x)
  where
    by-test : (same : Bool) → is_one_of (xs ++ x ∷ []) x ≡ true → (if same then true else is_one_of (xs ++ x ∷ []) x) ≡ true
    by-test true more = refl
    by-test false more = more

pub other-is : (b : Bool) → not b ≡ true → b ≡ false
other-is true is = absurd cc
other-is false is = refl

-- ---- all others wait

-- an initiator that handed out these commands
pub record OthersWait (s : InitiatorState) (handed : List (List ℕ)) : Type 0 where
  pub wait : (p : ℕ) (c : Issued) → slice_get s.issued p ≡ Some c → is_one_of handed c.body ≡ false → is_waiting c.standing ≡ true
  pub few : count_out s.issued ≤ s.window

-- none but these is under way
others-under-way : (s : InitiatorState) (handed : List (List ℕ)) → OthersWait s handed → AreUnderWay (is_other handed) s [] 0 (λ j. 0)
others-under-way s handed o = under-way-new (is_other handed) s (λ j. 0) (λ p c at of. o.wait p c at (other-is (is_one_of handed c.body) of)) o.few

none-has : (bodies : List (List ℕ)) (order : List ℕ) (p : ℕ) → AreAt bodies order [] → Has order p → ⊥
none-has bodies [] p at has = let no = has.1 in cc
none-has bodies (q ∷ order) p at has = absurd at

under-way-others : (s : InitiatorState) (handed : List (List ℕ)) → AreUnderWay (is_other handed) s [] 0 (λ j. 0) → OthersWait s handed
under-way-others s handed u = record { wait = λ p c at none. u.wait p c at (ap not none) (none-has (bodies_of s.issued) u.order p u.are_at); few = u.few }

-- ---- each step

pub others-start : (s : InitiatorState) → s.issued ≡ [] → OthersWait s []
others-start s none = under-way-others s [] (under-way-start (is_other []) s (λ j. 0) none)

pub others-issue : (s : InitiatorState) (src dst : ℕ) (payload : List ℕ) (handed : List (List ℕ)) → OthersWait s handed → OthersWait (after_issue s src dst payload) handed
others-issue s src dst payload handed o = under-way-others (after_issue s src dst payload) handed (under-way-issue (is_other handed) s src dst payload [] 0 (λ j. 0) (others-under-way s handed o))

pub others-hand_out : (s : InitiatorState) (body : List ℕ) (handed : List (List ℕ)) → next_command s ≡ Some body → OthersWait s handed → OthersWait (after_hand_out s) (handed ++ body ∷ [])
others-hand_out s body handed next o =
    let fewer : OthersWait s (handed ++ body ∷ []) = record { wait = λ p c at none. o.wait p c at (one-before handed body c.body none); few = o.few } in
    under-way-others (after_hand_out s) (handed ++ body ∷ [])
    (under-way-hand_out-other (is_other (handed ++ body ∷ [])) s body [] 0 (λ j. 0) (ap not (one-last handed body)) next (others-under-way s (handed ++ body ∷ []) fewer))

-- one of those that were handed out stands otherwise
not-waiting : (x : Standing) → is_out x ≡ true → is_waiting x ≡ false
not-waiting Waiting out = absurd cc
not-waiting (Out left) out = refl
not-waiting (Answered reply) out = absurd cc
not-waiting Undelivered out = absurd cc
not-waiting Unanswered out = absurd cc

others-restated : (s : InitiatorState) (q : ℕ) (c : Issued) (x : Standing) (handed : List (List ℕ)) → slice_get s.issued q ≡ Some c → is_out c.standing ≡ true → is_out x ≡ false → OthersWait s handed → OthersWait (record s { issued = restated s.issued q x }) handed
others-restated s q c x handed at out ends o =
    let fewer = count-restated out_now s.issued q c x at in
    let none : one_if (is_out x) ≡ 0 = ap one_if ends in
    under-way-others (record s { issued = restated s.issued q x }) handed
    (other-restated (is_other handed) s q c x [] 0 (λ j. 0) at (by-test (is_one_of handed c.body) refl) (omega (arith, fewer, none, o.few)) (others-under-way s handed o))
  where
    by-test : (one : Bool) → is_one_of handed c.body ≡ one → is_other handed c.body ≡ false
    by-test true is = ap not is
    by-test false is = absurd (let clash : true ≡ false = sym (o.wait q c at is) ∙ not-waiting c.standing out in cc)

pub others-reply : (s : InitiatorState) (reply : List ℕ) (handed : List (List ℕ)) → OthersWait s handed → OthersWait (after_reply s reply) handed
others-reply s reply handed o = by-place (answered_place s.issued reply) refl
  where
    by-place : (place : Option ℕ) → answered_place s.issued reply ≡ place → OthersWait (record s { issued = option_map_or (λ p. restated s.issued p (Answered reply)) place s.issued }) handed
    by-place None is = record { wait = o.wait; few = o.few }
    by-place (Some p) is = let c = answered-some s.issued reply p is in others-restated s p c.0 (Answered reply) handed c.1 c.2 refl o

pub others-told : (s : InitiatorState) (last : Handed) (handed : List (List ℕ)) → OthersWait s handed → OthersWait (initiator_after s last) handed
others-told s handed.Nothing list o = o
others-told s handed.Reply list o = o
others-told s (handed.Command place) list o = by-command (slice_get s.issued place) refl
  where
    by-out : (c : Issued) → slice_get s.issued place ≡ Some c → (out : Bool) → is_out c.standing ≡ out → OthersWait (record s { issued = if out then restated s.issued place Undelivered else s.issued }) list
    by-out c at true out = others-restated s place c Undelivered list at out refl o
    by-out c at false out = record { wait = o.wait; few = o.few }

    by-command : (found : Option Issued) → slice_get s.issued place ≡ found → OthersWait (record s { issued = if is_out_at s.issued place then restated s.issued place Undelivered else s.issued }) list
    by-command None at = rw at (record { wait = o.wait; few = o.few })
    by-command (Some c) at = rw at (by-out c at (is_out c.standing) refl)

pub others-tick : (s : InitiatorState) (handed : List (List ℕ)) → OthersWait s handed → OthersWait (record s { issued = all_ticked s.issued }) handed
others-tick s handed o = under-way-others (record s { issued = all_ticked s.issued }) handed (under-way-rests (is_other handed) s [] 0 (λ j. 0) (λ j. 0) refl (others-under-way s handed o))

-- ---- each step of a node

-- a message is handed out
pub others-next : {first : StationState} {node : NodeState} {messages heard : List (List ℕ)} → Hosts first node messages heard → (body : List ℕ) → next_body node ≡ Some body → OthersWait node.initiator (filter is_command messages)
    → OthersWait (after_next node).initiator (filter is_command (messages ++ body ∷ []))
others-next {first} {node} {messages} {heard} h body next o = by-replies node.replies refl
  where
    by-replies : (replies : List (List ℕ)) → node.replies ≡ replies → OthersWait (after_next node).initiator (filter is_command (messages ++ body ∷ []))
    by-replies (r ∷ rs) is =
        let same : r ≡ body = same-some r body (sym (ap (λ (xs : List (List ℕ)). option_or (slice_get xs 0) (next_command node.initiator)) is) ∙ next) in
        let reply : is_reply body ≡ true = ap is_reply (sym same) ∙ waiting-reply h r rs is in
        rw is (subst (OthersWait node.initiator) (sym (filter-drops is_command messages body (ap not reply))) o)
    by-replies [] is =
        let command : next_command node.initiator ≡ Some body = sym (ap (λ (xs : List (List ℕ)). option_or (slice_get xs 0) (next_command node.initiator)) is) ∙ next in
        let plain : is_reply body ≡ false = next-is-command command h.initiates in
        rw is (subst (OthersWait (after_hand_out node.initiator)) (sym (filter-keeps is_command messages body (ap not plain))) (others-hand_out node.initiator body (filter is_command messages) command o))

-- a message is accepted
pub others-accept : (node : NodeState) (body : List ℕ) (handed : List (List ℕ)) → OthersWait node.initiator handed → OthersWait (after_accept node body).initiator handed
others-accept node body list o = by-kind (is_reply body)
  where
    by-kind : (reply : Bool) → OthersWait (if reply then after_reply node.initiator body else node.initiator) list
    by-kind true = others-reply node.initiator body list o
    by-kind false = o

-- the fate of a message is told
pub others-fate : (node : NodeState) (what : Fate) (handed : List (List ℕ)) → OthersWait node.initiator handed → OthersWait (after_told node what).initiator handed
others-fate node fate.Delivered list o = o
others-fate node fate.Undelivered list o = others-told node.initiator node.last list o

-- ---- a command that is handed out

-- it isn't among those that were handed out before
pub next-is-other : {first : StationState} {node : NodeState} {messages heard : List (List ℕ)} → Hosts first node messages heard → length node.initiator.issued ≤ 65535 → (body : List ℕ) → next_command node.initiator ≡ Some body → (before : List (List ℕ)) → ((x : List ℕ) → Has before x → Has (filter is_command messages) x)
    → is_other before body ≡ true
next-is-other {first} {node} {messages} {heard} h few body next before within = by-test (is_one_of before body) refl
  where
    by-test : (one : Bool) → is_one_of before body ≡ one → not one ≡ true
    by-test false is = refl
    by-test true is =
        let issued = node.initiator.issued in
        let has = within body (one-of before body is) in
        let c = handed-at issued (filter is_command messages) has.0 body h.initiates.in_order has.1 in
        let n = hands-out node.initiator body next in
        let place : c.0 ≡ n.place = tns-place node.initiator.tns issued c.0 n.place c.1 n.command h.initiates.numbered few c.2 n.is_at (ap tns_of (c.3 ∙ sym n.has_body)) in
        let same : c.1 ≡ n.command = same-some c.1 n.command (sym c.2 ∙ ap (slice_get issued) place ∙ n.is_at) in
        absurd (let clash : true ≡ false = sym n.waits ∙ ap (λ (x : Issued). is_waiting x.standing) (sym same) ∙ c.4 in cc)
