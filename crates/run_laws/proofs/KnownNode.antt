-- A node's commands that stand so: which step brings such a one about, and that none of their bodies is handed out again.
use Rattle.std.proofs.Common.{◌≡◌, ◌∙◌, ℕ, zero, suc, Bool, true, false, cond, List, [], ◌∷◌, ◌++◌, map, Option, Some, None, is_some, slice_get, refl, sym, ap, subst}
use Rattle.std.specs.Option.{option_map, option_map_or}
use Rattle.std.proofs.lemmas.Option.{same_Some, slice_get-map}
use Rattle.df1_base.specs.declared.host.Fate.{Fate}
use Rattle.df1_base.specs.declared.host.Fate.TheVariants as fate
use Rattle.df1_base.specs.HostAnswers.{host_told}
use Rattle.df1_node.specs.Answer.{reply_to}
use Rattle.df1_node.specs.Initiator.{Issued, Standing, Out as IsOutWith, Answered, InitiatorState, is_waiting, restated, answered_place, after_hand_out, after_reply, next_place, ticked, all_ticked}
use Rattle.df1_node.specs.Node.{NodeState, after_accept, after_next, after_told, after_tick}
use Rattle.each_once.specs.NodeHost.{node_host}
use Rattle.each_once.specs.Once.{AreApart}
use Rattle.each_once.proofs.IssuedCommands.{SameCommands, same-accept, same-told, same-tick, same-next}
use Rattle.pccc_envelope.specs.Envelope.{is_reply}
use Rattle.run_laws.proofs.OverAtCut.{one-waits-not}
use Rattle.run_laws.proofs.OverNode.{AreReplies, GivesNot, replies-push, reply-is, rest-replies}

-- ---- what is known of a node

-- its commands have different bodies and are no replies, and what else waits to be handed out are replies
pub record Known (host : NodeState) : Type 0 where
  pub apart : AreApart (map (λ c. c.body) host.initiator.issued)
  pub plain : (p : ℕ) (body : List ℕ) → slice_get (map (λ c. c.body) host.initiator.issued) p ≡ Some body → is_reply body ≡ false
  pub replies : AreReplies host.replies

known-same : (host later : NodeState) → SameCommands host.initiator later.initiator → AreReplies later.replies → Known host → Known later
known-same host later same replies k = record {
  apart = subst AreApart (sym same.bodies) k.apart;
  plain = λ p body at. k.plain p body (ap (λ (l : List (List ℕ)). slice_get l p) (sym same.bodies) ∙ at);
  replies = replies;
}

accepted-replies : (reply : Bool) (node : NodeState) (what : List ℕ) → AreReplies node.replies → AreReplies (cond reply node.replies (node.replies ++ reply_to node.station what ∷ []))
accepted-replies true node what all = all
accepted-replies false node what all = replies-push node.replies (reply_to node.station what) all (reply-is node.station what)

pub known-accept : (host : NodeState) (what : List ℕ) → Known host → Known (after_accept host what)
known-accept host what k = known-same host (after_accept host what) (same-accept host what) (accepted-replies (is_reply what) host what k.replies) k

pub known-told : (what : Option Fate) (host : NodeState) → Known host → Known (host_told node_host what host)
known-told None host k = k
known-told (Some fate.Delivered) host k = known-same host (after_told host fate.Delivered) (same-told fate.Delivered host) k.replies k
known-told (Some fate.Undelivered) host k = known-same host (after_told host fate.Undelivered) (same-told fate.Undelivered host) k.replies k

pub known-tick : (host : NodeState) → Known host → Known (after_tick host)
known-tick host k = known-same host (after_tick host) (same-tick host) k.replies k

pub known-next : (host : NodeState) → Known host → Known (after_next host)
known-next host k = known-same host (after_next host) (same-next host) (rest-replies host.replies k.replies) k

-- ---- a command of this body stands so

pub record StandsSo (is_so : Standing → Bool) (cs : List Issued) (body : List ℕ) : Type 0 where
  pub place : ℕ
  pub command : Issued
  pub is_at : slice_get cs place ≡ Some command
  pub stands : is_so command.standing ≡ true
  pub has_body : command.body ≡ body

pub gives-not : (is_so : Standing → Bool) → ((s : Standing) → is_so s ≡ true → is_waiting s ≡ false) → (host : NodeState) (body : List ℕ) → Known host → StandsSo is_so host.initiator.issued body → GivesNot body host
gives-not is_so out host body k so = record { waits = one-waits-not host.initiator.issued so.place so.command body k.apart so.is_at so.has_body (out so.command.standing so.stands); replies = k.replies }

pub so-plain : (is_so : Standing → Bool) (host : NodeState) (body : List ℕ) → Known host → StandsSo is_so host.initiator.issued body → is_reply body ≡ false
so-plain is_so host body k so = k.plain so.place body (slice_get-map (λ (x : Issued). x.body) host.initiator.issued so.place ∙ ap (option_map (λ (x : Issued). x.body)) so.is_at ∙ ap Some so.has_body)

-- ---- it stood so before

so-more : (is_so : Standing → Bool) (d : Issued) (cs : List Issued) (body : List ℕ) → StandsSo is_so cs body → StandsSo is_so (d ∷ cs) body
so-more is_so d cs body so = record { place = suc so.place; command = so.command; is_at = so.is_at; stands = so.stands; has_body = so.has_body }

pub restated-so : (is_so : Standing → Bool) (cs : List Issued) (q : ℕ) (s : Standing) (body : List ℕ) → is_so s ≡ false → StandsSo is_so (restated cs q s) body → StandsSo is_so cs body
restated-so is_so cs q s body not so = by cs q so.place so.command so.is_at so.stands so.has_body
  where
    by : (cs : List Issued) (q p : ℕ) (c : Issued) → slice_get (restated cs q s) p ≡ Some c → is_so c.standing ≡ true → c.body ≡ body → StandsSo is_so cs body
    by [] q p c at stands same = absurd cc
    by (d ∷ cs) zero zero c at stands same = absurd (let clash : true ≡ false = sym stands ∙ ap (λ (x : Issued). is_so x.standing) (sym (same_Some _ c at)) ∙ not in cc)
    by (d ∷ cs) zero (suc p) c at stands same = record { place = suc p; command = c; is_at = at; stands = stands; has_body = same }
    by (d ∷ cs) (suc q) zero c at stands same = record { place = zero; command = c; is_at = at; stands = stands; has_body = same }
    by (d ∷ cs) (suc q) (suc p) c at stands same = so-more is_so d cs body (by cs q p c at stands same)

answered-so : (is_so : Standing → Bool) (cs : List Issued) (reply body : List ℕ) (place : Option ℕ) → is_so (Answered reply) ≡ false → StandsSo is_so (option_map_or (λ (p : ℕ). restated cs p (Answered reply)) place cs) body → StandsSo is_so cs body
answered-so is_so cs reply body None not so = so
answered-so is_so cs reply body (Some p) not so = restated-so is_so cs p (Answered reply) body not so

replied-so : (is_so : Standing → Bool) (reply : Bool) (i : InitiatorState) (what body : List ℕ) → is_so (Answered what) ≡ false → StandsSo is_so (cond reply (after_reply i what) i).issued body → StandsSo is_so i.issued body
replied-so is_so true i what body not so = answered-so is_so i.issued what body (answered_place i.issued what) not so
replied-so is_so false i what body not so = so

pub accept-so : (is_so : Standing → Bool) (host : NodeState) (what body : List ℕ) → is_so (Answered what) ≡ false → StandsSo is_so (after_accept host what).initiator.issued body → StandsSo is_so host.initiator.issued body
accept-so is_so host what body not so = replied-so is_so (is_reply what) host.initiator what body not so

handed-so : (is_so : Standing → Bool) (i : InitiatorState) (body : List ℕ) (place : Option ℕ) → is_so (IsOutWith i.reply_ticks) ≡ false → StandsSo is_so (option_map_or (λ (p : ℕ). restated i.issued p (IsOutWith i.reply_ticks)) place i.issued) body → StandsSo is_so i.issued body
handed-so is_so i body None not so = so
handed-so is_so i body (Some p) not so = restated-so is_so i.issued p (IsOutWith i.reply_ticks) body not so

next-so-by : (is_so : Standing → Bool) (reply : Bool) (i : InitiatorState) (body : List ℕ) → is_so (IsOutWith i.reply_ticks) ≡ false → StandsSo is_so (cond reply i (after_hand_out i)).issued body → StandsSo is_so i.issued body
next-so-by is_so true i body not so = so
next-so-by is_so false i body not so = handed-so is_so i body (next_place i) not so

pub next-so : (is_so : Standing → Bool) (host : NodeState) (body : List ℕ) → is_so (IsOutWith host.initiator.reply_ticks) ≡ false → StandsSo is_so (after_next host).initiator.issued body → StandsSo is_so host.initiator.issued body
next-so is_so host body not so = next-so-by is_so (is_some (slice_get host.replies 0)) host.initiator body not so

pub told-so : (is_so : Standing → Bool) (what : Option Fate) (host : NodeState) (body : List ℕ) → (what ≡ Some fate.Undelivered → ⊥) → StandsSo is_so (host_told node_host what host).initiator.issued body → StandsSo is_so host.initiator.issued body
told-so is_so None host body not so = so
told-so is_so (Some fate.Delivered) host body not so = so
told-so is_so (Some fate.Undelivered) host body not so = absurd (not refl)

-- at a tick, where each stood otherwise before
pub tick-so : (is_so was_so : Standing → Bool) → ((s : Standing) → is_so (ticked s) ≡ true → was_so s ≡ true) → (cs : List Issued) (body : List ℕ) → StandsSo is_so (all_ticked cs) body → StandsSo was_so cs body
tick-so is_so was_so was cs body so = by cs so.place so.command so.is_at so.stands so.has_body
  where
    by : (cs : List Issued) (p : ℕ) (c : Issued) → slice_get (all_ticked cs) p ≡ Some c → is_so c.standing ≡ true → c.body ≡ body → StandsSo was_so cs body
    by [] p c at stands same = absurd cc
    by (d ∷ cs) zero c at stands same =
        let is : record d { standing = ticked d.standing } ≡ c = same_Some _ c at in
        record { place = zero; command = d; is_at = refl; stands = was d.standing (ap (λ (x : Issued). is_so x.standing) is ∙ stands); has_body = ap (λ (x : Issued). x.body) is ∙ same }
    by (d ∷ cs) (suc p) c at stands same = so-more was_so d cs body (by cs p c at stands same)

-- with one more that waits
pub push-so : (is_so : Standing → Bool) (cs : List Issued) (new : Issued) (body : List ℕ) → is_so new.standing ≡ false → StandsSo is_so (cs ++ new ∷ []) body → StandsSo is_so cs body
push-so is_so cs new body not so = by cs so.place so.command so.is_at so.stands so.has_body
  where
    by : (cs : List Issued) (p : ℕ) (c : Issued) → slice_get (cs ++ new ∷ []) p ≡ Some c → is_so c.standing ≡ true → c.body ≡ body → StandsSo is_so cs body
    by [] zero c at stands same = absurd (let clash : true ≡ false = sym stands ∙ ap (λ (x : Issued). is_so x.standing) (sym (same_Some new c at)) ∙ not in cc)
    by [] (suc p) c at stands same = absurd cc
    by (d ∷ cs) zero c at stands same = record { place = zero; command = c; is_at = at; stands = stands; has_body = same }
    by (d ∷ cs) (suc p) c at stands same = so-more is_so d cs body (by cs p c at stands same)
