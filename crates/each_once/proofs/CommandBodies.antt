-- Which command a step finds, and that each step leaves the commands' bodies as they are.
use Rattle.std.proofs.Common.{◌≡◌, ◌∙◌, ℕ, zero, suc, ◌+◌, ◌<◌, Bool, true, false, ◌&&◌, cond, nat_lt, List, [], ◌∷◌, map, Option, Some, None, is_some, get_or, slice_get, find, position, option_map, refl, sym, ap, arith, suc-add}
use Rattle.std.specs.List.{position_from}
use Rattle.std.specs.Option.{option_map_or}
use Rattle.std.proofs.lemmas.Iterator.Adapters.{position_from-zero}
use Rattle.std.proofs.lemmas.List.Quantifiers.{position-Some}
use Rattle.std.proofs.lemmas.Bool.{and_parts}
use Rattle.std.proofs.lemmas.Option.{same_Some, slice_get-get_or}
use Rattle.df1_base.specs.declared.host.Fate.{Fate}
use Rattle.df1_base.specs.declared.host.Fate.TheVariants as fate
use Rattle.pccc_envelope.specs.Envelope.{is_reply}
use Rattle.df1_node.specs.declared.handed.Handed.{Handed}
use Rattle.df1_node.specs.declared.handed.Handed.TheVariants as handed
use Rattle.df1_node.specs.Initiator.{Issued, Standing, Waiting, Out, Answered, Undelivered, InitiatorState, is_out, is_waiting, is_reply_to, restated, answered_place, after_reply, is_out_at, after_hand_out, count_out, is_due, next_place, next_command, all_ticked, all_cleared}
use Rattle.df1_node.specs.Node.{NodeState, after_accept, after_next, after_told, after_tick, initiator_after}
use Rattle.df1_node.specs.HostLaws.{command-found}

-- ---- the first place that passes a test

from-suc : (t : Issued → Bool) (i : ℕ) (cs : List Issued) → position_from t (suc i) cs ≡ option_map suc (position_from t i cs)
from-suc t i [] = refl
from-suc t i (c ∷ cs) =
    elim (t c) as (λ b. cond b (Some (suc i)) (position_from t (suc i + 1) cs) ≡ option_map suc (cond b (Some i) (position_from t (i + 1) cs))) [
      | true ↦ refl
      | false ↦ ap (λ n. position_from t n cs) (suc-add i 1) ∙ from-suc t (i + 1) cs
    ]

pub position-cons : (t : Issued → Bool) (c : Issued) (cs : List Issued) → position t (c ∷ cs) ≡ cond (t c) (Some 0) (option_map suc (position t cs))
position-cons t c cs = position_from-zero t (c ∷ cs) ∙ ap (cond (t c) (Some 0)) (from-suc t 0 cs ∙ ap (option_map suc) (sym (position_from-zero t cs)))

passed-over : (b : Bool) (i : ℕ) (o : Option ℕ) → cond b (Some i) o ≡ None → (b ≡ false) × (o ≡ None)
passed-over true i o e = absurd cc
passed-over false i o e = (refl, e)

none-from : (t : Issued → Bool) (i : ℕ) (cs : List Issued) (k : ℕ) (c : Issued) → position_from t i cs ≡ None → slice_get cs k ≡ Some c → t c ≡ false
none-from t i [] k c none e = cc
none-from t i (x ∷ cs) zero c none e = sym (ap t (same_Some x c e)) ∙ (passed-over (t x) i _ none).0
none-from t i (x ∷ cs) (suc k) c none e = none-from t (i + 1) cs k c (passed-over (t x) i _ none).1 e

-- ---- the command that a reply answers

left-false : (a b : Bool) → (a && b) ≡ false → b ≡ true → a ≡ false
left-false true b h e = cc
left-false false b h e = refl

pub answered-some : (issued : List Issued) (reply : List ℕ) (p : ℕ) → answered_place issued reply ≡ Some p →
    (c : Issued) × (slice_get issued p ≡ Some c) × (is_out c.standing ≡ true) × (is_reply_to c.body reply ≡ true)
answered-some issued reply p e =
    let none : Issued = record { body = []; standing = Waiting } in
    let at = position-Some (λ c. is_out c.standing && is_reply_to c.body reply) issued p none e in
    let parts = and_parts _ _ at.1 in
    (get_or issued p none, slice_get-get_or issued p none at.0, parts.0, parts.1)

pub answered-none : (issued : List Issued) (reply : List ℕ) (k : ℕ) (c : Issued) → answered_place issued reply ≡ None → slice_get issued k ≡ Some c → is_reply_to c.body reply ≡ true → is_out c.standing ≡ false
answered-none issued reply k c none e fits =
    let test : Issued → Bool = λ x. is_out x.standing && is_reply_to x.body reply in
    left-false _ _ (none-from test 0 issued k c (sym (position_from-zero test issued) ∙ none) e) fits

-- ---- the command that is handed out

-- the first command that passes a test
pub record IsFirst (t : Issued → Bool) (cs : List Issued) (body : List ℕ) : Type 0 where
  pub place : ℕ
  pub command : Issued
  pub is_position : position t cs ≡ Some place
  pub is_at : slice_get cs place ≡ Some command
  pub has_body : command.body ≡ body
  pub passes : t command ≡ true
  pub others : (r : ℕ) (d : Issued) → r < place → slice_get cs r ≡ Some d → t d ≡ false

first-others : (t : Issued → Bool) (c : Issued) (cs : List Issued) (body : List ℕ) → t c ≡ false → (later : IsFirst t cs body) → (r : ℕ) (d : Issued) → r < suc later.place → slice_get (c ∷ cs) r ≡ Some d → t d ≡ false
first-others t c cs body fails later zero d below is = sym (ap t (same_Some c d is)) ∙ fails
first-others t c cs body fails later (suc r) d below is = later.others r d (omega arith) is

first-cons : (t : Issued → Bool) (c : Issued) (cs : List Issued) (body : List ℕ) (b : Bool) → t c ≡ b → option_map (λ x. x.body) (cond b (Some c) (find t cs)) ≡ Some body
    → (option_map (λ x. x.body) (find t cs) ≡ Some body → IsFirst t cs body) → IsFirst t (c ∷ cs) body
first-cons t c cs body true is e rest = record {
  place = 0;
  command = c;
  is_position = position-cons t c cs ∙ rw is refl;
  is_at = refl;
  has_body = same_Some c.body body e;
  passes = is;
  others = λ r d below. absurd (omega arith);
}
first-cons t c cs body false is e rest = let later = rest e in record {
  place = suc later.place;
  command = later.command;
  is_position = position-cons t c cs ∙ rw (is, later.is_position) refl;
  is_at = later.is_at;
  has_body = later.has_body;
  passes = later.passes;
  others = first-others t c cs body is later;
}

first-of : (t : Issued → Bool) (cs : List Issued) (body : List ℕ) → option_map (λ c. c.body) (find t cs) ≡ Some body → IsFirst t cs body
first-of t [] body e = absurd cc
first-of t (c ∷ cs) body e = first-cons t c cs body (t c) refl e (first-of t cs body)

-- what is found where it may be found
where-may : {A : Type 0} (may : Bool) (o : Option A) (x : A) → cond may o None ≡ Some x → (may ≡ true) × (o ≡ Some x)
where-may true o x e = (refl, e)
where-may false o x e = absurd cc

-- the next command is the first that is due
pub next-first : (s : InitiatorState) (body : List ℕ) → next_command s ≡ Some body → (first : IsFirst (is_due s) s.issued body) × (next_place s ≡ Some first.place)
next-first s body e =
    let found = where-may (nat_lt (count_out s.issued) s.window) (option_map (λ c. c.body) (find (is_due s) s.issued)) body (sym (command-found s) ∙ e) in
    let first = first-of (is_due s) s.issued body found.1 in
    (first, ap (λ may. cond may (position (is_due s) s.issued) None) found.0 ∙ first.is_position)

pub first-waiting : (s : InitiatorState) (p : ℕ) → next_place s ≡ Some p → (c : Issued) × (slice_get s.issued p ≡ Some c) × (is_waiting c.standing ≡ true)
first-waiting s p e =
    let none : Issued = record { body = []; standing = Waiting } in
    let found = where-may (nat_lt (count_out s.issued) s.window) (position (is_due s) s.issued) p e in
    let at = position-Some (is_due s) s.issued p none found.1 in
    (get_or s.issued p none, slice_get-get_or s.issued p none at.0, (and_parts _ _ at.1).0)

-- ---- the bodies stay, at the initiator

pub bodies-restated : (cs : List Issued) (p : ℕ) (standing : Standing) → map (λ c. c.body) (restated cs p standing) ≡ map (λ c. c.body) cs
bodies-restated [] p standing = refl
bodies-restated (c ∷ cs) zero standing = refl
bodies-restated (c ∷ cs) (suc p) standing = ap (λ bs. c.body ∷ bs) (bodies-restated cs p standing)

bodies-at : (cs : List Issued) (place : Option ℕ) (standing : Standing) → map (λ c. c.body) (option_map_or (λ p. restated cs p standing) place cs) ≡ map (λ c. c.body) cs
bodies-at cs None standing = refl
bodies-at cs (Some p) standing = bodies-restated cs p standing

bodies-given_up : (out : Bool) (cs : List Issued) (p : ℕ) → map (λ c. c.body) (cond out (restated cs p Undelivered) cs) ≡ map (λ c. c.body) cs
bodies-given_up true cs p = bodies-restated cs p Undelivered
bodies-given_up false cs p = refl

bodies-ticked : (cs : List Issued) → map (λ c. c.body) (all_ticked cs) ≡ map (λ c. c.body) cs
bodies-ticked [] = refl
bodies-ticked (c ∷ cs) = ap (λ bs. c.body ∷ bs) (bodies-ticked cs)

pub bodies-reply : (s : InitiatorState) (r : List ℕ) → map (λ c. c.body) (after_reply s r).issued ≡ map (λ c. c.body) s.issued
bodies-reply s r = bodies-at s.issued (answered_place s.issued r) (Answered r)

pub bodies-told : (s : InitiatorState) (last : Handed) → map (λ c. c.body) (initiator_after s last).issued ≡ map (λ c. c.body) s.issued
bodies-told s handed.Nothing = refl
bodies-told s handed.Reply = refl
bodies-told s (handed.Command p) = bodies-given_up (is_out_at s.issued p) s.issued p

pub bodies-tick : (s : InitiatorState) → map (λ c. c.body) (all_ticked s.issued) ≡ map (λ c. c.body) s.issued
bodies-tick s = bodies-ticked s.issued

pub bodies-clear : (cs : List Issued) → map (λ c. c.body) (all_cleared cs) ≡ map (λ c. c.body) cs
bodies-clear [] = refl
bodies-clear (c ∷ cs) = ap (λ bs. c.body ∷ bs) (bodies-clear cs)

pub bodies-hand_out : (s : InitiatorState) → map (λ c. c.body) (after_hand_out s).issued ≡ map (λ c. c.body) s.issued
bodies-hand_out s = bodies-at s.issued (next_place s) (Out s.reply_ticks)

-- ---- the bodies stay, at the node

accepted : (reply : Bool) (s : InitiatorState) (body : List ℕ) → map (λ c. c.body) (cond reply (after_reply s body) s).issued ≡ map (λ c. c.body) s.issued
accepted true s body = bodies-reply s body
accepted false s body = refl

handed-out : (reply : Bool) (s : InitiatorState) → map (λ c. c.body) (cond reply s (after_hand_out s)).issued ≡ map (λ c. c.body) s.issued
handed-out true s = refl
handed-out false s = bodies-hand_out s

pub bodies-accept : (node : NodeState) (body : List ℕ) → map (λ c. c.body) (after_accept node body).initiator.issued ≡ map (λ c. c.body) node.initiator.issued
bodies-accept node body = accepted (is_reply body) node.initiator body

pub bodies-after_told : (node : NodeState) (what : Fate) → map (λ c. c.body) (after_told node what).initiator.issued ≡ map (λ c. c.body) node.initiator.issued
bodies-after_told node fate.Delivered = refl
bodies-after_told node fate.Undelivered = bodies-told node.initiator node.last

pub bodies-after_tick : (node : NodeState) → map (λ c. c.body) (after_tick node).initiator.issued ≡ map (λ c. c.body) node.initiator.issued
bodies-after_tick node = bodies-tick node.initiator

pub bodies-next : (node : NodeState) → map (λ c. c.body) (after_next node).initiator.issued ≡ map (λ c. c.body) node.initiator.issued
bodies-next node = handed-out (is_some (slice_get node.replies 0)) node.initiator
