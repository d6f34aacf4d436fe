-- The commands that didn't wait at some point of a run, where they had been handed out: each stays at its place, with its body, and doesn't wait; and the next command that is handed out has another body and another TNS.
use Rattle.std.proofs.Common.{◌≡◌, ◌∙◌, ℕ, zero, suc, ◌-◌, ◌≤◌, Bool, true, false, cond, nat_lt, List, [], ◌∷◌, length, Option, Some, None, refl, ap, sym, subst}
use Rattle.std.specs.Prelude.{slice_get, if◌then◌else◌}
use Rattle.std.specs.Option.{option_map_or}
use Rattle.std.specs.Str.{bytes_eq}
use Rattle.std.proofs.lemmas.Slice.Eq.{bytes_eq-Decides}
use Rattle.pccc_envelope.specs.Envelope.{tns_of}
use Rattle.df1_node.specs.Initiator.{Issued, Standing, Waiting, Out, Answered, Undelivered, Unanswered, InitiatorState, is_waiting, restated, ticked, all_ticked, next_place, answered_place, next_command, after_issue, after_hand_out, after_reply}
use Rattle.each_once.proofs.AcceptedReplies.{tns-place}
use Rattle.each_once.proofs.CommandsUnderWay.{hands-out}
use Rattle.each_once.proofs.HandedOut.{AreNumbered, bodies_of}
use Rattle.each_once.proofs.Sublists.{get-more, from-map, same-some}

-- ---- a body among theirs

-- none of these commands that doesn't wait has this body
abbrev pub is_new : List Issued → List ℕ → Bool
is_new [] body = true
is_new (c ∷ cs) body = if is_waiting c.standing then is_new cs body else (if bytes_eq c.body body then false else is_new cs body)

-- the command at a place has this body, and doesn't wait
pub record IsHandedAt (issued : List Issued) (place : ℕ) (body : List ℕ) : Type 0 where
  pub command : Issued
  pub is_at : slice_get issued place ≡ Some command
  pub has_body : command.body ≡ body
  pub handed : is_waiting command.standing ≡ false

-- one of them has
abbrev pub WasHanded : List Issued → List ℕ → Type 0
WasHanded issued body = (place : ℕ) × IsHandedAt issued place body

handed-later : (c : Issued) (cs : List Issued) (place : ℕ) (body : List ℕ) → IsHandedAt cs place body → IsHandedAt (c ∷ cs) (suc place) body
handed-later c cs place body h = record { command = h.command; is_at = h.is_at; has_body = h.has_body; handed = h.handed }

pub old-handed : (issued : List Issued) (body : List ℕ) → is_new issued body ≡ false → WasHanded issued body
old-handed [] body is = absurd cc
old-handed (c ∷ cs) body is = by-tests (is_waiting c.standing) (bytes_eq c.body body) refl refl is (old-handed cs body)
  where
    later : WasHanded cs body → WasHanded (c ∷ cs) body
    later h = (suc h.0, handed-later c cs h.0 body h.1)

    by-tests : (waits same : Bool) → is_waiting c.standing ≡ waits → bytes_eq c.body body ≡ same → (if waits then is_new cs body else (if same then false else is_new cs body)) ≡ false → (is_new cs body ≡ false → WasHanded cs body) → WasHanded (c ∷ cs) body
    by-tests true same waits equal is more = later (more is)
    by-tests false true waits equal is more = (0, record { command = c; is_at = refl; has_body = (bytes_eq-Decides c.body body).0 equal; handed = waits })
    by-tests false false waits equal is more = later (more is)

pub new-none : (issued : List Issued) (body : List ℕ) → is_new issued body ≡ true → (p : ℕ) → IsHandedAt issued p body → ⊥
new-none [] body is p h = let no = h.is_at in cc
new-none (c ∷ cs) body is zero h =
    let same = same-some c h.command h.is_at in
    let goes : is_waiting c.standing ≡ false = ap (λ (x : Issued). is_waiting x.standing) same ∙ h.handed in
    let equal : bytes_eq c.body body ≡ true = (bytes_eq-Decides c.body body).1 (ap (λ (x : Issued). x.body) same ∙ h.has_body) in
    let no : is_new (c ∷ cs) body ≡ false = rw (goes, equal) refl in
    let clash : false ≡ true = sym no ∙ is in
    cc
new-none (c ∷ cs) body is (suc p) h = by-tests (is_waiting c.standing) (bytes_eq c.body body) is (λ later. new-none cs body later p (record { command = h.command; is_at = h.is_at; has_body = h.has_body; handed = h.handed }))
  where
    by-tests : (waits same : Bool) → (if waits then is_new cs body else (if same then false else is_new cs body)) ≡ true → (is_new cs body ≡ true → ⊥) → ⊥
    by-tests true same is later = later is
    by-tests false true is later = cc
    by-tests false false is later = later is

-- a command of another body waits
pub new-waits : (issued : List Issued) (p : ℕ) (c : Issued) → slice_get issued p ≡ Some c → is_new issued c.body ≡ true → is_waiting c.standing ≡ true
new-waits issued p c at new = by-test (is_waiting c.standing) refl
  where
    by-test : (waits : Bool) → is_waiting c.standing ≡ waits → waits ≡ true
    by-test true is = refl
    by-test false is = absurd (new-none issued c.body new p (record { command = c; is_at = at; has_body = refl; handed = is }))

-- ---- they stay

-- each of these that doesn't wait stands at its place among those, and doesn't wait there
abbrev pub AreStillHanded : List Issued → List Issued → Type 0
AreStillHanded before issued = (p : ℕ) (body : List ℕ) → IsHandedAt before p body → IsHandedAt issued p body

pub still-itself : (issued : List Issued) → AreStillHanded issued issued
still-itself issued p body h = h

still-both : (a b c : List Issued) → AreStillHanded a b → AreStillHanded b c → AreStillHanded a c
still-both a b c first second p body h = second p body (first p body h)

-- a command is issued
pub still-issue : (before : List Issued) (i : InitiatorState) (src dst : ℕ) (payload : List ℕ) → AreStillHanded before i.issued → AreStillHanded before (after_issue i src dst payload).issued
still-issue before i src dst payload still p body h =
    let was = still p body h in
    record { command = was.command; is_at = get-more i.issued _ p was.command was.is_at; has_body = was.has_body; handed = was.handed }

-- one stands otherwise
restated-handed : (issued : List Issued) (q : ℕ) (x : Standing) → is_waiting x ≡ false → (p : ℕ) (c : Issued) → slice_get issued p ≡ Some c → is_waiting c.standing ≡ false → IsHandedAt (restated issued q x) p c.body
restated-handed [] q x goes p c at handed = absurd cc
restated-handed (d ∷ ds) zero x goes zero c at handed = record { command = record d { standing = x }; is_at = refl; has_body = ap (λ (y : Issued). y.body) (same-some d c at); handed = goes }
restated-handed (d ∷ ds) zero x goes (suc p) c at handed = record { command = c; is_at = at; has_body = refl; handed = handed }
restated-handed (d ∷ ds) (suc q) x goes zero c at handed = record { command = c; is_at = at; has_body = refl; handed = handed }
restated-handed (d ∷ ds) (suc q) x goes (suc p) c at handed = handed-later d (restated ds q x) p c.body (restated-handed ds q x goes p c at handed)

still-restated : (issued : List Issued) (o : Option ℕ) (x : Standing) → is_waiting x ≡ false → AreStillHanded issued (option_map_or (λ q. restated issued q x) o issued)
still-restated issued None x goes p body h = h
still-restated issued (Some q) x goes p body h = subst (IsHandedAt (restated issued q x) p) h.has_body (restated-handed issued q x goes p h.command h.is_at h.handed)

-- the next is handed out, and one is answered
pub still-hand_out : (before : List Issued) (i : InitiatorState) → AreStillHanded before i.issued → AreStillHanded before (after_hand_out i).issued
still-hand_out before i still = still-both before i.issued (after_hand_out i).issued still (still-restated i.issued (next_place i) (Out i.reply_ticks) refl)

pub still-reply : (before : List Issued) (i : InitiatorState) (reply : List ℕ) → AreStillHanded before i.issued → AreStillHanded before (after_reply i reply).issued
still-reply before i reply still = still-both before i.issued (after_reply i reply).issued still (still-restated i.issued (answered_place i.issued reply) (Answered reply) refl)

-- a unit of time passes
ticked-goes : (x : Standing) → is_waiting x ≡ false → is_waiting (ticked x) ≡ false
ticked-goes Waiting goes = absurd cc
ticked-goes (Out left) goes = elim (nat_lt 1 left) as (λ b. is_waiting (cond b (Out (left - 1)) Unanswered) ≡ false) [ true ↦ refl | false ↦ refl ]
ticked-goes (Answered reply) goes = refl
ticked-goes Undelivered goes = refl
ticked-goes Unanswered goes = refl

ticked-handed : (issued : List Issued) (p : ℕ) (body : List ℕ) → IsHandedAt issued p body → IsHandedAt (all_ticked issued) p body
ticked-handed [] p body h = absurd (let no = h.is_at in cc)
ticked-handed (c ∷ cs) zero body h =
    let same = same-some c h.command h.is_at in
    record {
      command = record c { standing = ticked c.standing };
      is_at = refl;
      has_body = ap (λ (x : Issued). x.body) same ∙ h.has_body;
      handed = ticked-goes c.standing (ap (λ (x : Issued). is_waiting x.standing) same ∙ h.handed);
    }
ticked-handed (c ∷ cs) (suc p) body h =
    let later = ticked-handed cs p body (record { command = h.command; is_at = h.is_at; has_body = h.has_body; handed = h.handed }) in
    record { command = later.command; is_at = later.is_at; has_body = later.has_body; handed = later.handed }

pub still-tick : (before issued : List Issued) → AreStillHanded before issued → AreStillHanded before (all_ticked issued)
still-tick before issued still = still-both before issued (all_ticked issued) still (ticked-handed issued)

-- ---- a command of another body

-- it has another TNS than each of them
pub handed-apart : (before : List Issued) (i : InitiatorState) → length i.issued ≤ 65535 → AreNumbered i.tns 0 i.issued → AreStillHanded before i.issued → (x body : List ℕ) → WasHanded before x → is_new before body ≡ true → (q : ℕ) → slice_get (bodies_of i.issued) q ≡ Some body → tns_of x ≡ tns_of body → ⊥
handed-apart before i few numbered still x body old new q at same =
    let there = still old.0 x old.1 in
    let c = from-map (λ (c : Issued). c.body) i.issued q body at in
    let place : old.0 ≡ q = tns-place i.tns i.issued old.0 q there.command c.0 numbered few there.is_at c.1 (ap tns_of there.has_body ∙ same ∙ ap tns_of (sym c.2)) in
    let equal : there.command ≡ c.0 = same-some there.command c.0 (sym there.is_at ∙ ap (slice_get i.issued) place ∙ c.1) in
    let is : x ≡ body = sym there.has_body ∙ ap (λ (y : Issued). y.body) equal ∙ c.2 in
    new-none before body new old.0 (subst (IsHandedAt before old.0) is old.1)

-- the next one is such
pub next-new : (before : List Issued) (i : InitiatorState) (body : List ℕ) → length i.issued ≤ 65535 → AreNumbered i.tns 0 i.issued → AreStillHanded before i.issued → next_command i ≡ Some body → is_new before body ≡ true
next-new before i body few numbered still next = by-test (is_new before body) refl
  where
    by-test : (new : Bool) → is_new before body ≡ new → new ≡ true
    by-test true is = refl
    by-test false is =
        let old = old-handed before body is in
        let there = still old.0 body old.1 in
        let n = hands-out i body next in
        let place : old.0 ≡ n.place = tns-place i.tns i.issued old.0 n.place there.command n.command numbered few there.is_at n.is_at (ap tns_of (there.has_body ∙ sym n.has_body)) in
        let equal : there.command ≡ n.command = same-some there.command n.command (sym there.is_at ∙ ap (slice_get i.issued) place ∙ n.is_at) in
        absurd (let clash : true ≡ false = sym n.waits ∙ ap (λ (y : Issued). is_waiting y.standing) (sym equal) ∙ there.handed in cc)
