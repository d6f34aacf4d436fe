-- A command whose outcome is known stays as it is.
use Rattle.std.proofs.Common.{◌≡◌, ℕ, suc, zero, ◌∙◌, Bool, Option, true, false, ◌&&◌, cond, List, [], ◌∷◌, ◌++◌, map, Some, None, refl, sym, ap, get_or, slice_get, is_some, position, nat_lt}
use Rattle.std.specs.Option.{option_map, option_map_or}
use Rattle.std.specs.List.{fold}
use Rattle.std.proofs.lemmas.List.Quantifiers.{position-Some}
use Rattle.df1_base.specs.declared.host.Fate.TheVariants as fate
use Rattle.pccc_envelope.specs.Envelope.{is_reply}
use Rattle.df1_node.specs.declared.handed.Handed.{Handed}
use Rattle.df1_node.specs.declared.handed.Handed.TheVariants as handed
use Rattle.df1_node.specs.Initiator.{InitiatorState, Standing, Waiting, Out, Answered, Undelivered, Unanswered, Issued, command, is_waiting, is_out, is_settled, restated, source_of, count_out, count_out_of, answered_place, is_reply_to, is_out_at, ticked, cleared, after_hand_out, after_reply}
use Rattle.df1_node.specs.Node.{NodeState, Step, Issue, Accept, Next, Told, Tick, Clear, after, initiator_after}

not_waiting : (s : Standing) → is_settled s ≡ true → is_waiting s ≡ false
not_waiting Waiting e = cc
not_waiting (Out left) e = refl
not_waiting (Answered reply) e = refl
not_waiting Undelivered e = refl
not_waiting Unanswered e = refl

pub not_out : (s : Standing) → is_settled s ≡ true → is_out s ≡ false
not_out Waiting e = refl
not_out (Out left) e = cc
not_out (Answered reply) e = refl
not_out Undelivered e = refl
not_out Unanswered e = refl

ticked_settled : (s : Standing) → is_settled s ≡ true → ticked s ≡ s
ticked_settled Waiting e = refl
ticked_settled (Out left) e = cc
ticked_settled (Answered reply) e = refl
ticked_settled Undelivered e = refl
ticked_settled Unanswered e = refl

cleared_settled : (s : Standing) → is_settled s ≡ true → cleared s ≡ s
cleared_settled Waiting e = cc
cleared_settled (Out left) e = refl
cleared_settled (Answered reply) e = refl
cleared_settled Undelivered e = refl
cleared_settled Unanswered e = refl

get-append : (cs ds : List Issued) (k : ℕ) (c : Issued) → slice_get cs k ≡ Some c → slice_get (cs ++ ds) k ≡ Some c
get-append [] ds k c e = cc
get-append (x ∷ cs) ds zero c e = e
get-append (x ∷ cs) ds (suc k) c e = get-append cs ds k c e

pub get-map : (f : Issued → Issued) (cs : List Issued) (k : ℕ) → slice_get (map f cs) k ≡ option_map f (slice_get cs k)
get-map f [] k = refl
get-map f (x ∷ cs) zero = refl
get-map f (x ∷ cs) (suc k) = get-map f cs k

pub get-restated : (cs : List Issued) (p k : ℕ) (s : Standing) → (p ≡ k → ⊥) → slice_get (restated cs p s) k ≡ slice_get cs k
get-restated [] p k s apart = refl
get-restated (x ∷ cs) zero zero s apart = absurd (apart refl)
get-restated (x ∷ cs) zero (suc k) s apart = refl
get-restated (x ∷ cs) (suc p) zero s apart = refl
get-restated (x ∷ cs) (suc p) (suc k) s apart = get-restated cs p k s (λ e. apart (ap suc e))

get_or-slice_get : (cs : List Issued) (k : ℕ) (c : Issued) → slice_get cs k ≡ Some c → get_or cs k c ≡ c
get_or-slice_get [] k c e = refl
get_or-slice_get (x ∷ cs) zero c e = let f : x ≡ c = cc in f
get_or-slice_get (x ∷ cs) (suc k) c e = get_or-slice_get cs k c e

-- the place of the first command that passes is not that of one that does not
elsewhere : (t : Issued → Bool) (cs : List Issued) (p k : ℕ) (c : Issued) → position t cs ≡ Some p → slice_get cs k ≡ Some c → t c ≡ false → p ≡ k → ⊥
elsewhere t cs p k c found e fails same =
    let passes : t (get_or cs p c) ≡ true = (position-Some t cs p c found).1 in
    let is : get_or cs p c ≡ c = ap (λ m. get_or cs m c) same ∙ get_or-slice_get cs k c e in
    let clash : false ≡ true = sym fails ∙ sym (ap t is) ∙ passes in
    let f : ⊥ = cc in f

-- a step at a place that was found, or at none
at_found : (t : Issued → Bool) (cs : List Issued) (k : ℕ) (c : Issued) (s : Standing) (o : Option ℕ) → position t cs ≡ o → slice_get cs k ≡ Some c → t c ≡ false →
    slice_get (option_map_or (λ p. restated cs p s) o cs) k ≡ Some c
at_found t cs k c s None found e fails = e
at_found t cs k c s (Some p) found e fails = get-restated cs p k s (elsewhere t cs p k c found e fails) ∙ e

after_take : (cs : List Issued) (k : ℕ) (c : Issued) (reply : List ℕ) → slice_get cs k ≡ Some c → is_settled c.standing ≡ true →
    slice_get (option_map_or (λ p. restated cs p (Answered reply)) (answered_place cs reply) cs) k ≡ Some c
after_take cs k c reply e settled =
    at_found (λ x. is_out x.standing && is_reply_to x.body reply) cs k c (Answered reply) (answered_place cs reply) refl e (ap (λ b. b && is_reply_to c.body reply) (not_out c.standing settled))

after_hand : (cs : List Issued) (k : ℕ) (c : Issued) (within : Issued → Bool) (left : ℕ) (b : Bool) → slice_get cs k ≡ Some c → is_settled c.standing ≡ true →
    slice_get (option_map_or (λ p. restated cs p (Out left)) (cond b (position (λ x. is_waiting x.standing && within x) cs) None) cs) k ≡ Some c
after_hand cs k c within left false e settled = e
after_hand cs k c within left true e settled =
    at_found (λ x. is_waiting x.standing && within x) cs k c (Out left) (position (λ x. is_waiting x.standing && within x) cs) refl e (ap (λ w. w && within c) (not_waiting c.standing settled))

given_up : (cs : List Issued) (k p : ℕ) (c : Issued) (b : Bool) → is_out_at cs p ≡ b → slice_get cs k ≡ Some c → is_settled c.standing ≡ true → slice_get (cond b (restated cs p Undelivered) cs) k ≡ Some c
given_up cs k p c false out e settled = e
given_up cs k p c true out e settled =
    get-restated cs p k Undelivered (λ same.
    let here : slice_get cs p ≡ Some c = ap (slice_get cs) same ∙ e in
    let clash : true ≡ false = sym out ∙ ap (λ o. option_map_or (λ x. is_out x.standing) o false) here ∙ not_out c.standing settled in
    let f : ⊥ = cc in f)
    ∙ e

mapped : (f : Standing → Standing) (cs : List Issued) (k : ℕ) (c : Issued) → slice_get cs k ≡ Some c → f c.standing ≡ c.standing → slice_get (map {A = Issued} (λ x. record x { standing = f x.standing }) cs) k ≡ Some c
mapped f cs k c e same =
    get-map (λ x. record x { standing = f x.standing }) cs k
    ∙ ap (option_map {U = Issued} (λ x. record x { standing = f x.standing })) e
    ∙ ap (λ s. Some (record c { standing = s })) same

no_command : {P : Type 0} (c : Issued) → None ≡ Some c → P
no_command c e = absurd (let f : ⊥ = cc in f)

handed_out : (s : InitiatorState) (k : ℕ) (c : Issued) (b : Bool) → slice_get s.issued k ≡ Some c → is_settled c.standing ≡ true → slice_get (cond b s (after_hand_out s)).issued k ≡ Some c
handed_out s k c true e settled = e
handed_out s k c false e settled =
    after_hand s.issued k c (λ x. nat_lt (count_out_of (source_of x) s.issued) s.per_source) s.reply_ticks (nat_lt (count_out s.issued) s.window) e settled

accepted : (s : InitiatorState) (body : List ℕ) (k : ℕ) (c : Issued) (b : Bool) → slice_get s.issued k ≡ Some c → is_settled c.standing ≡ true → slice_get (cond b (after_reply s body) s).issued k ≡ Some c
accepted s body k c true e settled = after_take s.issued k c body e settled
accepted s body k c false e settled = e

told : (s : InitiatorState) (last : Handed) (k : ℕ) (c : Issued) → slice_get s.issued k ≡ Some c → is_settled c.standing ≡ true → slice_get (initiator_after s last).issued k ≡ Some c
told s handed.Nothing k c e settled = e
told s handed.Reply k c e settled = e
told s (handed.Command p) k c e settled = given_up s.issued k p c (is_out_at s.issued p) refl e settled

at_place : (node : NodeState) (step : Step) (k : ℕ) (c : Issued) → slice_get node.initiator.issued k ≡ Some c → is_settled c.standing ≡ true → slice_get (after node step).initiator.issued k ≡ Some c
at_place node (Issue src dst payload) k c e settled = get-append node.initiator.issued _ k c e
at_place node (Accept body) k c e settled = accepted node.initiator body k c (is_reply body) e settled
at_place node Next k c e settled = handed_out node.initiator k c (is_some (slice_get node.replies 0)) e settled
at_place node (Told fate.Delivered) k c e settled = e
at_place node (Told fate.Undelivered) k c e settled = told node.initiator node.last k c e settled
at_place node Tick k c e settled = mapped ticked node.initiator.issued k c e (ticked_settled c.standing settled)
at_place node Clear k c e settled = mapped cleared node.initiator.issued k c e (cleared_settled c.standing settled)

pub final_step : (node : NodeState) (step : Step) (n : ℕ) (c : Issued) → command node.initiator n ≡ Some c → is_settled c.standing ≡ true → command (after node step).initiator n ≡ Some c
final_step node step zero c e settled = no_command c e
final_step node step (suc k) c e settled = at_place node step k c e settled

pub final_run : (node : NodeState) (steps : List Step) (n : ℕ) (c : Issued) → command node.initiator n ≡ Some c → is_settled c.standing ≡ true → command (fold after node steps).initiator n ≡ Some c
final_run node [] n c e settled = e
final_run node (step ∷ steps) n c e settled = final_run (after node step) steps n c (final_step node step n c e settled) settled
