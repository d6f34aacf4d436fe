-- How one command of a node stands after something happened at it: it is out only where it was, or is handed out; and it is answered only where it was, or where it was out and its reply is accepted.
use Rattle.std.proofs.Common.{◌≡◌, ◌∙◌, ℕ, zero, suc, Bool, true, false, List, [], ◌∷◌, ◌++◌, Option, Some, None, refl, ap, sym, subst, arith, inl, inr}
use Rattle.std.specs.Prelude.{◌⊎◌, ◌-◌, nat_lt, slice_get, is_some, if◌then◌else◌}
use Rattle.std.specs.Option.{option_map_or}
use Rattle.std.proofs.lemmas.Bool.{cond_both}
use Rattle.df1_base.specs.declared.host.Fate.{Fate}
use Rattle.df1_base.specs.declared.host.Fate.TheVariants as fate
use Rattle.df1_base.specs.HostAnswers.{host_told}
use Rattle.df1_node.specs.declared.handed.Handed.{Handed}
use Rattle.df1_node.specs.declared.handed.Handed.TheVariants as handed
use Rattle.df1_node.specs.Initiator.{Standing, Waiting, Out, Answered, Undelivered, Unanswered, Issued, InitiatorState, is_out, is_out_at, restated, ticked, all_ticked, answered_place, next_place, after_give_up}
use Rattle.df1_node.specs.Node.{NodeState, after_accept, after_next, after_tick, after_told, initiator_after}
use Rattle.pccc_envelope.specs.Envelope.{is_reply}
use Rattle.each_once.specs.NodeHost.{node_host}
use Rattle.each_once.proofs.CommandBodies.{answered-some}

abbrev pub is_answered : Standing → Bool
is_answered Waiting = false
is_answered (Out left) = false
is_answered (Answered reply) = true
is_answered Undelivered = false
is_answered Unanswered = false

-- the command at a place, counted from 0, stands so
abbrev pub Stands : (Standing → Bool) → List Issued → ℕ → Type 0
Stands how issued k = option_map_or (λ c. how c.standing) (slice_get issued k) false ≡ true

-- at each place where it stands so, it did before
abbrev pub StoodSo : (Standing → Bool) → List Issued → List Issued → Type 0
StoodSo how before issued = (k : ℕ) → Stands how issued k → Stands how before k

-- ---- one command stands otherwise

-- at its place it is as said, and elsewhere as before
abbrev SaidOrStood : (Standing → Bool) → List Issued → ℕ → ℕ → Standing → Type 0
SaidOrStood how issued p k standing = ((p ≡ k) × (how standing ≡ true)) ⊎ ((p ≡ k → ⊥) × Stands how issued k)

restated-stands : (how : Standing → Bool) (issued : List Issued) (p k : ℕ) (standing : Standing) → Stands how (restated issued p standing) k → SaidOrStood how issued p k standing
restated-stands how [] p k standing h = absurd (let no : false ≡ true = h in cc)
restated-stands how (c ∷ cs) zero zero standing h = inl (refl, h)
restated-stands how (c ∷ cs) zero (suc k) standing h = inr (λ e. omega (arith, e), h)
restated-stands how (c ∷ cs) (suc p) zero standing h = inr (λ e. omega (arith, e), h)
restated-stands how (c ∷ cs) (suc p) (suc k) standing h = by-rest (restated-stands how cs p k standing h)
  where
    by-rest : SaidOrStood how cs p k standing → SaidOrStood how (c ∷ cs) (suc p) (suc k) standing
    by-rest (inl said) = inl (ap suc said.0, said.1)
    by-rest (inr stood) = inr (λ e. stood.0 (omega (arith, e)), stood.1)

-- another standing put at a place makes no command stand so that didn't
restated-stood : (how : Standing → Bool) (issued : List Issued) (p : ℕ) (standing : Standing) → how standing ≡ false → StoodSo how issued (restated issued p standing)
restated-stood how issued p standing not k h = by-either (restated-stands how issued p k standing h)
  where
    by-either : SaidOrStood how issued p k standing → Stands how issued k
    by-either (inl said) = absurd (let no : false ≡ true = sym not ∙ said.1 in cc)
    by-either (inr stood) = stood.1

-- ---- a command more

pub issue-stood : (how : Standing → Bool) → how Waiting ≡ false → (issued : List Issued) (body : List ℕ) → StoodSo how issued (issued ++ record { body = body; standing = Waiting } ∷ [])
issue-stood how not [] body zero h = absurd (let no : false ≡ true = sym not ∙ h in cc)
issue-stood how not [] body (suc k) h = h
issue-stood how not (c ∷ cs) body zero h = h
issue-stood how not (c ∷ cs) body (suc k) h = issue-stood how not cs body k h

-- ---- a tick

tick-each : (how : Standing → Bool) → ((standing : Standing) → how (ticked standing) ≡ true → how standing ≡ true) → (issued : List Issued) → StoodSo how issued (all_ticked issued)
tick-each how goes [] k h = h
tick-each how goes (c ∷ cs) zero h = goes c.standing h
tick-each how goes (c ∷ cs) (suc k) h = tick-each how goes cs k h

out-ticked : (standing : Standing) → is_out (ticked standing) ≡ true → is_out standing ≡ true
out-ticked Waiting h = h
out-ticked (Out left) h = refl
out-ticked (Answered reply) h = h
out-ticked Undelivered h = h
out-ticked Unanswered h = h

answered-ticked : (standing : Standing) → is_answered (ticked standing) ≡ true → is_answered standing ≡ true
answered-ticked Waiting h = h
answered-ticked (Out left) h = absurd (let no : false ≡ true = sym (by-last (nat_lt 1 left)) ∙ h in cc)
  where
    by-last : (more : Bool) → is_answered (if more then Out (left - 1) else Unanswered) ≡ false
    by-last true = refl
    by-last false = refl
answered-ticked (Answered reply) h = h
answered-ticked Undelivered h = h
answered-ticked Unanswered h = h

-- a way to stand that no command has that waits or was given up, and that no tick brings about
pub record IsOfUse (how : Standing → Bool) : Type 0 where
  pub waits : how Waiting ≡ false
  pub given_up : how Undelivered ≡ false
  pub ticks : (standing : Standing) → how (ticked standing) ≡ true → how standing ≡ true

pub of-out : IsOfUse is_out
of-out = record { waits = refl; given_up = refl; ticks = out-ticked }

pub of-answered : IsOfUse is_answered
of-answered = record { waits = refl; given_up = refl; ticks = answered-ticked }

abbrev issued_by : NodeState → List Issued
issued_by node = node.initiator.issued

pub tick-stood : (how : Standing → Bool) → IsOfUse how → (node : NodeState) → StoodSo how (issued_by node) (issued_by (after_tick node))
tick-stood how u node = tick-each how u.ticks (issued_by node)

-- ---- a fate

give-up-stood : (how : Standing → Bool) → how Undelivered ≡ false → (s : InitiatorState) (p : ℕ) → StoodSo how s.issued (after_give_up s p).issued
give-up-stood how not s p = cond_both (is_out_at s.issued p) _ _ (λ (issued : List Issued). StoodSo how s.issued issued) (λ out. restated-stood how s.issued p Undelivered not) (λ other k h. h)

handed-stood : (how : Standing → Bool) → how Undelivered ≡ false → (s : InitiatorState) (last : Handed) → StoodSo how s.issued (initiator_after s last).issued
handed-stood how not s handed.Nothing k h = h
handed-stood how not s handed.Reply k h = h
handed-stood how not s (handed.Command p) k h = give-up-stood how not s p k h

pub told-stood : (how : Standing → Bool) → IsOfUse how → (what : Option Fate) (node : NodeState) → StoodSo how (issued_by node) (issued_by (host_told node_host what node))
told-stood how u None node k h = h
told-stood how u (Some fate.Delivered) node k h = h
told-stood how u (Some fate.Undelivered) node k h = handed-stood how u.given_up node.initiator node.last k h

-- ---- an accepted body

reply-out : (s : InitiatorState) (reply : List ℕ) (place : Option ℕ) → StoodSo is_out s.issued (option_map_or (λ p. restated s.issued p (Answered reply)) place s.issued)
reply-out s reply None k h = h
reply-out s reply (Some p) k h = restated-stood is_out s.issued p (Answered reply) refl k h

pub accept-out : (node : NodeState) (body : List ℕ) → StoodSo is_out (issued_by node) (issued_by (after_accept node body))
accept-out node body =
    cond_both (is_reply body) _ _ (λ (s : InitiatorState). StoodSo is_out (issued_by node) s.issued) (λ reply. reply-out node.initiator body (answered_place node.initiator.issued body)) (λ command k h. h)

-- it was answered, or out
abbrev pub WasOutOr : List Issued → ℕ → Type 0
WasOutOr issued k = Stands is_answered issued k ⊎ Stands is_out issued k

reply-answers : (s : InitiatorState) (reply : List ℕ) (place : Option ℕ) → answered_place s.issued reply ≡ place → (k : ℕ) → Stands is_answered (option_map_or (λ p. restated s.issued p (Answered reply)) place s.issued) k → WasOutOr s.issued k
reply-answers s reply None is k h = inl h
reply-answers s reply (Some p) is k h = by-either (restated-stands is_answered s.issued p k (Answered reply) h)
  where
    by-either : SaidOrStood is_answered s.issued p k (Answered reply) → WasOutOr s.issued k
    by-either (inl said) =
        let found = answered-some s.issued reply p is in
        inr (subst (λ (q : ℕ). Stands is_out s.issued q) said.0 (ap (λ (o : Option Issued). option_map_or (λ c. is_out c.standing) o false) found.1 ∙ found.2))
    by-either (inr stood) = inl stood.1

pub accept-answers : (node : NodeState) (body : List ℕ) (k : ℕ) → Stands is_answered (issued_by (after_accept node body)) k → WasOutOr (issued_by node) k
accept-answers node body =
    cond_both (is_reply body) _ _ (λ (s : InitiatorState). (k : ℕ) → Stands is_answered s.issued k → WasOutOr (issued_by node) k)
    (λ reply. reply-answers node.initiator body (answered_place node.initiator.issued body) refl) (λ command k h. inl h)

-- ---- a body that is handed out

hand-answered : (s : InitiatorState) (place : Option ℕ) → StoodSo is_answered s.issued (option_map_or (λ p. restated s.issued p (Out s.reply_ticks)) place s.issued)
hand-answered s None k h = h
hand-answered s (Some p) k h = restated-stood is_answered s.issued p (Out s.reply_ticks) refl k h

pub next-answered : (node : NodeState) → StoodSo is_answered (issued_by node) (issued_by (after_next node))
next-answered node =
    cond_both (is_some (slice_get node.replies 0)) _ _ (λ (s : InitiatorState). StoodSo is_answered (issued_by node) s.issued) (λ reply k h. h) (λ command. hand-answered node.initiator (next_place node.initiator))

-- one that was handed out at a place, and is given up at once
both-restated : (issued : List Issued) (p ticks : ℕ) (out : Bool) → is_out_at (restated issued p (Out ticks)) p ≡ out → StoodSo is_out issued (if out then restated (restated issued p (Out ticks)) p Undelivered else restated issued p (Out ticks))
both-restated issued p ticks true is k h = by-either (restated-stands is_out (restated issued p (Out ticks)) p k Undelivered h)
  where
    by-first : (p ≡ k → ⊥) → SaidOrStood is_out issued p k (Out ticks) → Stands is_out issued k
    by-first apart (inl said) = absurd (apart said.0)
    by-first apart (inr stood) = stood.1

    by-either : SaidOrStood is_out (restated issued p (Out ticks)) p k Undelivered → Stands is_out issued k
    by-either (inl said) = absurd (let no : false ≡ true = said.1 in cc)
    by-either (inr stood) = by-first stood.0 (restated-stands is_out issued p k (Out ticks) stood.1)
both-restated issued p ticks false is k h = by-either (restated-stands is_out issued p k (Out ticks) h)
  where
    by-either : SaidOrStood is_out issued p k (Out ticks) → Stands is_out issued k
    by-either (inl said) = absurd (let here : is_out_at (restated issued p (Out ticks)) p ≡ true = subst (λ (q : ℕ). Stands is_out (restated issued p (Out ticks)) q) (sym said.0) h in let no : false ≡ true = sym is ∙ here in cc)
    by-either (inr stood) = stood.1

refused-hand : (s : InitiatorState) (place : Option ℕ) (last : Handed) → StoodSo is_out s.issued
    (initiator_after (record s { issued = option_map_or (λ p. restated s.issued p (Out s.reply_ticks)) place s.issued }) (option_map_or handed.Command place last)).issued
refused-hand s None last k h = handed-stood is_out refl s last k h
refused-hand s (Some p) last k h = both-restated s.issued p s.reply_ticks (is_out_at (restated s.issued p (Out s.reply_ticks)) p) refl k h

-- a reply that is handed out leaves the commands as they are
refused-by : (node : NodeState) (reply : Bool) → StoodSo is_out (issued_by node)
    (initiator_after (if reply then node.initiator else record node.initiator { issued = option_map_or (λ p. restated node.initiator.issued p (Out node.initiator.reply_ticks)) (next_place node.initiator) node.initiator.issued })
    (if reply then handed.Reply else option_map_or handed.Command (next_place node.initiator) node.last)).issued
refused-by node true k h = h
refused-by node false k h = refused-hand node.initiator (next_place node.initiator) node.last k h

pub refused-out : (node : NodeState) → StoodSo is_out (issued_by node) (issued_by (after_told (after_next node) fate.Undelivered))
refused-out node = refused-by node (is_some (slice_get node.replies 0))
