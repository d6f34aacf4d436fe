-- How far an initiator is with the commands that pass a test, as those to one station, where these are answered in the order in which
-- they are handed out: the first so many are answered, the others are out, each with ticks left, and all that weren't handed out wait.
use Rattle.std.proofs.Common.{◌≡◌, ◌∙◌, ◌⊎◌, ℕ, zero, suc, ◌+◌, ◌-◌, ◌<◌, ◌≤◌, Bool, true, false, ◌&&◌, eqb, nat_lt, List, [], ◌∷◌, ◌++◌, length, map, Option, Some, None, find, position, option_map, refl, sym, ap, ap₂, subst, inl, inr, arith, length-append}
use Rattle.std.specs.Prelude.{slice_get, ◌==◌, count_by, if◌then◌else◌}
use Rattle.std.specs.List.{filter}
use Rattle.std.specs.Option.{option_map_or}
use Rattle.std.proofs.lemmas.Bool.{and_parts, lt-ltb, eq-eqb, eqb-true, false_from_ne_true}
use borrow.Author.Tests.{ltb-true}
use Rattle.std.proofs.lemmas.List.{map-append, length-map}
use Rattle.std.proofs.lemmas.Option.{same_Some, slice_get_within, slice_get-map}
use Rattle.pccc_envelope.specs.Envelope.{tns_of}
use Rattle.df1_node.specs.Initiator.{Issued, Standing, Waiting, Out, Answered, Undelivered, Unanswered, InitiatorState, is_waiting, is_out, is_reply_to, is_due, restated, ticked, all_ticked, source_of, count_out, count_out_of, next_issued, next_place, next_command, answered_place, after_issue, after_reply, after_hand_out}
use Rattle.df1_node.specs.HostLaws.{command-found}
use Rattle.df1_node.proofs.Final.{get-restated}
use Rattle.each_once.proofs.Sublists.{Has, IsOther, Differ, differ-at, get-more, from-map}
use Rattle.each_once.proofs.AcceptedReplies.{numbers-differ}
use Rattle.each_once.proofs.HandedOrder.{AreAt, at-more, at-push, push-cases}
use Rattle.each_once.proofs.HandedOut.{AreNumbered, numbered-at, numbered-apart, bodies_of}
use Rattle.each_once.proofs.CommandBodies.{next-first, position-cons, bodies-restated, bodies-tick}
use Rattle.each_once.proofs.CommandCounts.{count_mine, one_if, none-if, same-if, other-if, and-same, both_of, out_now, count-restated, count-more, count-same, count-none, count-fewer, mine-out, count-bodies}

-- where each passes a test, all of them do
pub filter-all : (p : List ℕ → Bool) → ((x : List ℕ) → p x ≡ true) → (xs : List (List ℕ)) → filter p xs ≡ xs
filter-all p each [] = refl
filter-all p each (x ∷ xs) = rw (each x) (ap (λ (ys : List (List ℕ)). x ∷ ys) (filter-all p each xs))

-- a command is answered
abbrev pub IsDone : Standing → Type 0
IsDone (Answered reply) = Unit {0}
IsDone other = ⊥

-- a command is out, and so many ticks at least are left to it
abbrev pub IsOutFor : ℕ → Standing → Type 0
IsOutFor least (Out left) = least ≤ left
IsOutFor least other = ⊥

-- how the command at a place stands
pub record StandsAs (issued : List Issued) (P : Standing → Type 0) (place : ℕ) : Type 0 where
  pub command : Issued
  pub is_at : slice_get issued place ≡ Some command
  pub stands : P command.standing

-- of the commands at these places the first so many are answered, and the others are out: the first of these, the next, and so on have at least
-- so many ticks left
abbrev pub StandInTurn : List Issued → (ℕ → ℕ) → List ℕ → ℕ → Type 0
StandInTurn issued least [] zero = Unit {0}
StandInTurn issued least [] (suc done) = ⊥
StandInTurn issued least (p ∷ ps) zero = StandsAs issued (IsOutFor (least 0)) p × StandInTurn issued (λ j. least (suc j)) ps zero
StandInTurn issued least (p ∷ ps) (suc done) = StandsAs issued IsDone p × StandInTurn issued least ps done

-- of those that pass the test these bodies were handed out; the first so many of their commands are answered
pub record AreUnderWay (mine : List ℕ → Bool) (s : InitiatorState) (handed : List (List ℕ)) (done : ℕ) (least : ℕ → ℕ) : Type 0 where
  pub order : List ℕ
  pub are_at : AreAt (bodies_of s.issued) order handed
  pub are_mine : (k : ℕ) (body : List ℕ) → slice_get handed k ≡ Some body → mine body ≡ true
  pub differ : Differ order
  pub stand : StandInTurn s.issued least order done
  pub wait : (p : ℕ) (c : Issued) → slice_get s.issued p ≡ Some c → mine c.body ≡ true → (Has order p → ⊥) → is_waiting c.standing ≡ true
  pub counted : done + count_mine mine is_out s.issued ≡ length order
  pub few : count_out s.issued ≤ s.window
  pub others : length order + count_mine mine is_waiting s.issued ≡ count_by (λ c. mine c.body) s.issued

-- ---- how a command stands that is answered, or out

done-waits : (s : Standing) → IsDone s → is_waiting s ≡ false
done-waits (Answered reply) d = refl
done-waits other d = absurd d

done-out : (s : Standing) → IsDone s → is_out s ≡ false
done-out (Answered reply) d = refl
done-out other d = absurd d

done-ticked : (s : Standing) → IsDone s → IsDone (ticked s)
done-ticked (Answered reply) d = tt
done-ticked other d = absurd d

out-out : (least : ℕ) (s : Standing) → IsOutFor least s → is_out s ≡ true
out-out least (Out left) o = refl
out-out least other o = absurd o

out-waits : (least : ℕ) (s : Standing) → IsOutFor least s → is_waiting s ≡ false
out-waits least (Out left) o = refl
out-waits least other o = absurd o

-- one that waits isn't out
waits-out : (s : Standing) → is_waiting s ≡ true → is_out s ≡ false
waits-out Waiting w = refl
waits-out (Out left) w = absurd cc
waits-out (Answered reply) w = refl
waits-out Undelivered w = refl
waits-out Unanswered w = refl

-- a tick fewer is left, and at least one
abbrev pub IsTickFewer : ℕ → ℕ → Type 0
IsTickFewer least later = (1 ≤ later) × (later + 1 ≤ least)

out-ticked : (least later : ℕ) (s : Standing) → IsTickFewer least later → IsOutFor least s → IsOutFor later (ticked s)
out-ticked least later (Out left) few o = let some = few.0 in let less = few.1 in rw (lt-ltb 1 left (omega (arith, some, less, o))) (omega (arith, less, o))
out-ticked least later other few o = absurd o

-- ---- places of an order

differ-push : (ps : List ℕ) (q : ℕ) → Differ ps → (Has ps q → ⊥) → Differ (ps ++ q ∷ [])
differ-push [] q differ new = (tt, tt)
differ-push (p ∷ ps) q differ new = (other-push p ps q differ.0 (λ same. new (0, ap Some same)), differ-push ps q differ.1 (λ has. new (suc has.0, has.1)))
  where
    other-push : (p : ℕ) (ps : List ℕ) (q : ℕ) → IsOther p ps → (p ≡ q → ⊥) → IsOther p (ps ++ q ∷ [])
    other-push p [] q others apart = (apart, tt)
    other-push p (r ∷ ps) q others apart = (others.0, other-push p ps q others.1 apart)

other-at : (p : ℕ) (ps : List ℕ) (k q : ℕ) → IsOther p ps → slice_get ps k ≡ Some q → p ≡ q → ⊥
other-at p [] k q others at same = absurd cc
other-at p (r ∷ ps) zero q others at same = others.0 (same ∙ sym (same_Some r q at))
other-at p (r ∷ ps) (suc k) q others at same = other-at p ps k q others.1 at same

has-push : (ps : List ℕ) (q p : ℕ) → Has ps p → Has (ps ++ q ∷ []) p
has-push ps q p has = (has.0, get-more ps (q ∷ []) has.0 p has.1)

has-last : (ps : List ℕ) (q : ℕ) → Has (ps ++ q ∷ []) q
has-last [] q = (0, refl)
has-last (p ∷ ps) q = let later = has-last ps q in (suc later.0, later.1)

-- the body at a place of the order
at-body : (bodies : List (List ℕ)) (ps : List ℕ) (xs : List (List ℕ)) (k p : ℕ) → AreAt bodies ps xs → slice_get ps k ≡ Some p → (x : List ℕ) × (slice_get xs k ≡ Some x) × (slice_get bodies p ≡ Some x)
at-body bodies [] xs k p at is = absurd cc
at-body bodies (q ∷ ps) [] k p at is = absurd at
at-body bodies (q ∷ ps) (x ∷ xs) zero p at is = (x, refl, ap (slice_get bodies) (sym (same_Some q p is)) ∙ at.0)
at-body bodies (q ∷ ps) (x ∷ xs) (suc k) p at is = at-body bodies ps xs k p at.1 is

-- the place of a body of the order
at-place : (bodies : List (List ℕ)) (ps : List ℕ) (xs : List (List ℕ)) (k : ℕ) (x : List ℕ) → AreAt bodies ps xs → slice_get xs k ≡ Some x → (p : ℕ) × (slice_get ps k ≡ Some p) × (slice_get bodies p ≡ Some x)
at-place bodies [] [] k x at is = absurd cc
at-place bodies [] (y ∷ xs) k x at is = absurd at
at-place bodies (p ∷ ps) [] k x at is = absurd at
at-place bodies (p ∷ ps) (y ∷ xs) zero x at is = (p, refl, at.0 ∙ is)
at-place bodies (p ∷ ps) (y ∷ xs) (suc k) x at is = at-place bodies ps xs k x at.1 is

-- ---- one command stands otherwise

restated-at : (cs : List Issued) (p : ℕ) (c : Issued) (s : Standing) → slice_get cs p ≡ Some c → slice_get (restated cs p s) p ≡ Some (record c { standing = s })
restated-at [] p c s at = absurd cc
restated-at (d ∷ cs) zero c s at = ap (λ (x : Issued). let y : Issued = record x { standing = s } in Some y) (same_Some d c at)
restated-at (d ∷ cs) (suc p) c s at = restated-at cs p c s at

stands-there : (cs : List Issued) (q : ℕ) (s : Standing) (P : Standing → Type 0) (p : ℕ) → (p ≡ q → ⊥) → StandsAs cs P p → StandsAs (restated cs q s) P p
stands-there cs q s P p apart h = record { command = h.command; is_at = get-restated cs q p s (λ same. apart (sym same)) ∙ h.is_at; stands = h.stands }

stand-there : (cs : List Issued) (least : ℕ → ℕ) (q : ℕ) (s : Standing) (ps : List ℕ) (done : ℕ) → ((k p : ℕ) → slice_get ps k ≡ Some p → p ≡ q → ⊥) → StandInTurn cs least ps done → StandInTurn (restated cs q s) least ps done
stand-there cs least q s [] zero apart h = tt
stand-there cs least q s [] (suc done) apart h = absurd h
stand-there cs least q s (p ∷ ps) zero apart h = (stands-there cs q s (IsOutFor (least 0)) p (apart 0 p refl) h.0, stand-there cs (λ j. least (suc j)) q s ps zero (λ k r at. apart (suc k) r at) h.1)
stand-there cs least q s (p ∷ ps) (suc done) apart h = (stands-there cs q s IsDone p (apart 0 p refl) h.0, stand-there cs least q s ps done (λ k r at. apart (suc k) r at) h.1)

-- the order, where its commands stand as they stood, or otherwise
stand-so : (cs ds : List Issued) (least later : ℕ → ℕ) (ps : List ℕ) (done : ℕ) → ((p : ℕ) → StandsAs cs IsDone p → StandsAs ds IsDone p) → ((j p : ℕ) → StandsAs cs (IsOutFor (least j)) p → StandsAs ds (IsOutFor (later j)) p)
    → StandInTurn cs least ps done → StandInTurn ds later ps done
stand-so cs ds least later [] zero answered out h = tt
stand-so cs ds least later [] (suc done) answered out h = absurd h
stand-so cs ds least later (p ∷ ps) zero answered out h = (out 0 p h.0, stand-so cs ds (λ j. least (suc j)) (λ j. later (suc j)) ps zero answered (λ j. out (suc j)) h.1)
stand-so cs ds least later (p ∷ ps) (suc done) answered out h = (answered p h.0, stand-so cs ds least later ps done answered out h.1)

stands-so : (cs : List Issued) (P Q : Standing → Type 0) (p : ℕ) → ((x : Standing) → P x → Q x) → StandsAs cs P p → StandsAs cs Q p
stands-so cs P Q p so h = record { command = h.command; is_at = h.is_at; stands = so h.command.standing h.stands }

-- ---- the start

-- none of those that pass the test was handed out
pub under-way-new : (mine : List ℕ → Bool) (s : InitiatorState) (least : ℕ → ℕ) → ((p : ℕ) (c : Issued) → slice_get s.issued p ≡ Some c → mine c.body ≡ true → is_waiting c.standing ≡ true) → count_out s.issued ≤ s.window → AreUnderWay mine s [] 0 least
under-way-new mine s least waits few =
    let none = count-none (both_of mine is_out) s.issued (λ p c at. out-none c (mine c.body) refl (waits p c at)) in
    let most = count-fewer (both_of mine is_waiting) (λ (c : Issued). mine c.body) s.issued s.issued refl (λ p c d at-c at-d both. ap (λ (x : Issued). mine x.body) (same_Some c d (sym at-c ∙ at-d)) ∙ (and_parts (mine d.body) (is_waiting d.standing) both).0) in
    let all = count-fewer (λ (c : Issued). mine c.body) (both_of mine is_waiting) s.issued s.issued refl (λ p c d at-c at-d of. let same = same_Some c d (sym at-c ∙ at-d) in let own : mine c.body ≡ true = ap (λ (x : Issued). mine x.body) same ∙ of in rw (own, waits p c at-c own) refl) in
    record {
      order = [];
      are_at = tt;
      are_mine = λ k body at. absurd cc;
      differ = tt;
      stand = tt;
      wait = λ p c at of has. waits p c at of;
      counted = omega (arith, none);
      few = few;
      others = omega (arith, most, all);
    }
  where
    out-none : (c : Issued) (own : Bool) → mine c.body ≡ own → (mine c.body ≡ true → is_waiting c.standing ≡ true) → (mine c.body && is_out c.standing) ≡ false
    out-none c true own waits = rw (own, waits-out c.standing (waits own)) refl
    out-none c false own waits = rw own refl

pub under-way-start : (mine : List ℕ → Bool) (s : InitiatorState) (least : ℕ → ℕ) → s.issued ≡ [] → AreUnderWay mine s [] 0 least
under-way-start mine s least none =
    under-way-new mine s least (λ p c at of. let no = subst (λ (cs : List Issued). slice_get cs p ≡ Some c) none at in absurd cc)
    (let zero : count_out s.issued ≡ 0 = ap count_out none in omega (arith, zero))

-- ---- a command is issued

stands-more : (cs more : List Issued) (P : Standing → Type 0) (p : ℕ) → StandsAs cs P p → StandsAs (cs ++ more) P p
stands-more cs more P p h = record { command = h.command; is_at = get-more cs more p h.command h.is_at; stands = h.stands }

pub under-way-issue : (mine : List ℕ → Bool) (s : InitiatorState) (src dst : ℕ) (payload : List ℕ) (handed : List (List ℕ)) (done : ℕ) (least : ℕ → ℕ) → AreUnderWay mine s handed done least → AreUnderWay mine (after_issue s src dst payload) handed done least
under-way-issue mine s src dst payload handed done least u =
    let new : Issued = record { body = next_issued s src dst payload; standing = Waiting } in
    let all = count-more out_now s.issued new in
    let count = count-more (both_of mine is_out) s.issued new in
    let waits = count-more (both_of mine is_waiting) s.issued new in
    let own = count-more (λ (c : Issued). mine c.body) s.issued new in
    let none = none-if (mine new.body) false refl in
    let one = same-if (mine new.body) true refl in
    record {
      order = u.order;
      are_at = subst (λ (bodies : List (List ℕ)). AreAt bodies u.order handed) (sym (map-append (λ (c : Issued). c.body) s.issued (new ∷ []))) (at-more (bodies_of s.issued) (new.body ∷ []) u.order handed u.are_at);
      are_mine = u.are_mine;
      differ = u.differ;
      stand = stand-so s.issued (s.issued ++ new ∷ []) least least u.order done (λ p. stands-more s.issued (new ∷ []) IsDone p) (λ j p. stands-more s.issued (new ∷ []) (IsOutFor (least j)) p) u.stand;
      wait = λ p c is of none. elim (push-cases s.issued new p c is) [ inl old ↦ u.wait p c old of none | inr last ↦ ap (λ (x : Issued). is_waiting x.standing) last.1 ];
      counted = omega (arith, count, none, u.counted);
      few = omega (arith, all, u.few);
      others = omega (arith, waits, own, one, u.others);
    }

-- ---- a command that doesn't pass the test stands otherwise

-- it isn't of the order
other-order : (mine : List ℕ → Bool) (s : InitiatorState) (q : ℕ) (body : List ℕ) (handed : List (List ℕ)) (done : ℕ) (least : ℕ → ℕ) → slice_get (bodies_of s.issued) q ≡ Some body → mine body ≡ false → (u : AreUnderWay mine s handed done least) → (k p : ℕ) → slice_get u.order k ≡ Some p → p ≡ q → ⊥
other-order mine s q body handed done least at other u k p found same =
    let x = at-body (bodies_of s.issued) u.order handed k p u.are_at found in
    let is : x.0 ≡ body = same_Some x.0 body (sym x.2 ∙ ap (slice_get (bodies_of s.issued)) same ∙ at) in
    let clash : true ≡ false = sym (u.are_mine k x.0 x.1) ∙ ap mine is ∙ other in cc

-- the body of a command
pub body-of : (cs : List Issued) (p : ℕ) (c : Issued) → slice_get cs p ≡ Some c → slice_get (bodies_of cs) p ≡ Some c.body
body-of cs p c at = slice_get-map (λ (x : Issued). x.body) cs p ∙ ap (option_map (λ (x : Issued). x.body)) at

pub other-restated : (mine : List ℕ → Bool) (s : InitiatorState) (q : ℕ) (c : Issued) (standing : Standing) (handed : List (List ℕ)) (done : ℕ) (least : ℕ → ℕ) → slice_get s.issued q ≡ Some c → mine c.body ≡ false → count_out (restated s.issued q standing) ≤ s.window → AreUnderWay mine s handed done least
    → AreUnderWay mine (record s { issued = restated s.issued q standing }) handed done least
other-restated mine s q c standing handed done least at other few u =
    let now : Issued = record c { standing = standing } in
    let out = count-restated (both_of mine is_out) s.issued q c standing at in
    let waits = count-restated (both_of mine is_waiting) s.issued q c standing at in
    let own = count-restated (λ (x : Issued). mine x.body) s.issued q c standing at in
    let out_none = other-if (mine c.body) (is_out c.standing) other in
    let out_now_none = other-if (mine c.body) (is_out standing) other in
    let waits_none = other-if (mine c.body) (is_waiting c.standing) other in
    let waits_now_none = other-if (mine c.body) (is_waiting standing) other in
    record {
      order = u.order;
      are_at = subst (λ (bodies : List (List ℕ)). AreAt bodies u.order handed) (sym (bodies-restated s.issued q standing)) u.are_at;
      are_mine = u.are_mine;
      differ = u.differ;
      stand = stand-there s.issued least q standing u.order done (other-order mine s q c.body handed done least (body-of s.issued q c at) other u) u.stand;
      wait = λ p d found of none. u.wait p d (sym (get-restated s.issued q p standing (λ same.
          let is : d ≡ now = same_Some d now (sym found ∙ ap (slice_get (restated s.issued q standing)) (sym same) ∙ restated-at s.issued q c standing at) in
          let clash : true ≡ false = sym of ∙ ap (λ (x : Issued). mine x.body) is ∙ other in cc)) ∙ found) of none;
      counted = omega (arith, out, out_none, out_now_none, u.counted);
      few = few;
      others = omega (arith, waits, waits_none, waits_now_none, own, u.others);
    }

-- ---- the next command is handed out

stand-push : (cs : List Issued) (least : ℕ → ℕ) (ps : List ℕ) (done q : ℕ) → StandInTurn cs least ps done → ((j : ℕ) → done + j ≡ length ps → StandsAs cs (IsOutFor (least j)) q) → StandInTurn cs least (ps ++ q ∷ []) done
stand-push cs least [] zero q h new = (new 0 refl, tt)
stand-push cs least [] (suc done) q h new = absurd h
stand-push cs least (p ∷ ps) zero q h new = (h.0, stand-push cs (λ j. least (suc j)) ps zero q h.1 (λ j is. new (suc j) (omega (arith, is))))
stand-push cs least (p ∷ ps) (suc done) q h new = (h.0, stand-push cs least ps done q h.1 (λ j is. new j (omega (arith, is))))

-- the command at a place of the order is answered or out
turn-stands : (cs : List Issued) (least : ℕ → ℕ) (ps : List ℕ) (done k p : ℕ) → StandInTurn cs least ps done → slice_get ps k ≡ Some p → StandsAs cs IsDone p ⊎ ((j : ℕ) × StandsAs cs (IsOutFor (least j)) p)
turn-stands cs least [] done k p h at = absurd cc
turn-stands cs least (q ∷ ps) zero zero p h at = inr (0, subst (StandsAs cs (IsOutFor (least 0))) (same_Some q p at) h.0)
turn-stands cs least (q ∷ ps) zero (suc k) p h at = elim (turn-stands cs (λ j. least (suc j)) ps zero k p h.1 at) [ inl answered ↦ inl answered | inr out ↦ inr (suc out.0, out.1) ]
turn-stands cs least (q ∷ ps) (suc done) zero p h at = inl (subst (StandsAs cs IsDone) (same_Some q p at) h.0)
turn-stands cs least (q ∷ ps) (suc done) (suc k) p h at = turn-stands cs least ps done k p h.1 at

-- so it doesn't wait
turn-waits : (cs : List Issued) (least : ℕ → ℕ) (ps : List ℕ) (done k p : ℕ) (c : Issued) → StandInTurn cs least ps done → slice_get ps k ≡ Some p → slice_get cs p ≡ Some c → is_waiting c.standing ≡ false
turn-waits cs least ps done k p c h at is = elim (turn-stands cs least ps done k p h at) [
  | inl answered ↦ let same : answered.command ≡ c = same_Some _ _ (sym answered.is_at ∙ is) in ap (λ (x : Issued). is_waiting x.standing) (sym same) ∙ done-waits answered.command.standing answered.stands
  | inr (j, out) ↦ let same : out.command ≡ c = same_Some _ _ (sym out.is_at ∙ is) in ap (λ (x : Issued). is_waiting x.standing) (sym same) ∙ out-waits (least j) out.command.standing out.stands
]

-- what is found only where it may be
some-next : (may : Bool) (o : Option (List ℕ)) (body : List ℕ) → (if may then o else None) ≡ Some body → may ≡ true
some-next true o body is = refl
some-next false o body is = absurd cc

-- the command that is handed out next: it waits, and fewer are out than may be
pub record HandsOut (s : InitiatorState) (body : List ℕ) : Type 0 where
  pub place : ℕ
  pub command : Issued
  pub is_at : slice_get s.issued place ≡ Some command
  pub has_body : command.body ≡ body
  pub waits : is_waiting command.standing ≡ true
  pub room : count_out s.issued < s.window
  pub is_next : next_place s ≡ Some place

pub hands-out : (s : InitiatorState) (body : List ℕ) → next_command s ≡ Some body → HandsOut s body
hands-out s body next =
    let n = next-first s body next in
    let first = n.0 in
    let may = some-next (nat_lt (count_out s.issued) s.window) (option_map (λ c. c.body) (find (is_due s) s.issued)) body (sym (command-found s) ∙ next) in
    record {
      place = first.place;
      command = first.command;
      is_at = first.is_at;
      has_body = first.has_body;
      waits = (and_parts (is_waiting first.command.standing) (nat_lt (count_out_of (source_of first.command) s.issued) s.per_source) first.passes).0;
      room = ltb-true (count_out s.issued) s.window may;
      is_next = n.1;
    }

-- then fewer are out than one more
handed-few : (s : InitiatorState) (q : ℕ) (c : Issued) → slice_get s.issued q ≡ Some c → is_waiting c.standing ≡ true → count_out s.issued < s.window → count_out (restated s.issued q (Out s.reply_ticks)) ≤ s.window
handed-few s q c at waits room =
    let now = count-restated out_now s.issued q c (Out s.reply_ticks) at in
    let was : one_if (is_out c.standing) ≡ 0 = ap one_if (waits-out c.standing waits) in
    omega (arith, now, was, room)

handed-to : (mine : List ℕ → Bool) (s : InitiatorState) (q : ℕ) (handed : List (List ℕ)) (body : List ℕ) (done : ℕ) (least : ℕ → ℕ) (c : Issued) → slice_get s.issued q ≡ Some c → is_waiting c.standing ≡ true → c.body ≡ body → mine body ≡ true → count_out s.issued < s.window → ((j : ℕ) → j < s.window → least j ≤ s.reply_ticks) → AreUnderWay mine s handed done least
    → AreUnderWay mine (record s { issued = restated s.issued q (Out s.reply_ticks) }) (handed ++ body ∷ []) done least
handed-to mine s q handed body done least c at waits is own room enough u =
    let out : Standing = Out s.reply_ticks in
    let few_out = mine-out mine s.issued in
    let here : (j : ℕ) → done + j ≡ length u.order → StandsAs (restated s.issued q out) (IsOutFor (least j)) q = λ j is. record { command = record c { standing = out }; is_at = restated-at s.issued q c out at; stands = enough j (omega (arith, is, few_out, room, u.counted)) } in
    let own_here : mine c.body ≡ true = ap mine is ∙ own in
    let now = count-restated (both_of mine is_out) s.issued q c out at in
    let was = none-if (mine c.body) (is_out c.standing) (waits-out c.standing waits) in
    let goes = same-if (mine c.body) true refl in
    let mine_one : one_if (mine c.body) ≡ 1 = ap one_if own_here in
    let fewer = count-restated (both_of mine is_waiting) s.issued q c out at in
    let waited = same-if (mine c.body) (is_waiting c.standing) waits in
    let none = none-if (mine c.body) false refl in
    let all = count-restated (λ (x : Issued). mine x.body) s.issued q c out at in
    let one = length-append u.order (q ∷ []) in
    record {
      order = u.order ++ q ∷ [];
      are_at = at-push (bodies_of (restated s.issued q out)) u.order handed q body (body-of (restated s.issued q out) q (record c { standing = out }) (restated-at s.issued q c out at) ∙ ap Some is)
          (subst (λ (bodies : List (List ℕ)). AreAt bodies u.order handed) (sym (bodies-restated s.issued q out)) u.are_at);
      are_mine = λ k x found. elim (push-cases handed body k x found) [ inl old ↦ u.are_mine k x old | inr last ↦ ap mine last.1 ∙ own ];
      differ = differ-push u.order q u.differ (λ has. new has.0 q has.1 refl);
      stand = stand-push (restated s.issued q out) least u.order done q (stand-there s.issued least q out u.order done new u.stand) here;
      wait = λ p d found of none. u.wait p d (sym (get-restated s.issued q p out (λ same. none (subst (Has (u.order ++ q ∷ [])) same (has-last u.order q)))) ∙ found) of (λ has. none (has-push u.order q p has));
      counted = omega (arith, now, was, goes, mine_one, one, u.counted);
      few = handed-few s q c at waits room;
      others = omega (arith, fewer, waited, none, mine_one, all, one, u.others);
    }
  where
    new : (k p : ℕ) → slice_get u.order k ≡ Some p → p ≡ q → ⊥
    new k p found same =
        let no = turn-waits s.issued least u.order done k p c u.stand found (ap (slice_get s.issued) same ∙ at) in
        let clash : true ≡ false = sym waits ∙ no in cc

pub under-way-hand_out : (mine : List ℕ → Bool) (s : InitiatorState) (body : List ℕ) (handed : List (List ℕ)) (done : ℕ) (least : ℕ → ℕ) → mine body ≡ true → next_command s ≡ Some body → ((j : ℕ) → j < s.window → least j ≤ s.reply_ticks) → AreUnderWay mine s handed done least → AreUnderWay mine (after_hand_out s) (handed ++ body ∷ []) done least
under-way-hand_out mine s body handed done least own next enough u =
    let n = hands-out s body next in
    subst (λ (place : Option ℕ). AreUnderWay mine (record s { issued = option_map_or (λ p. restated s.issued p (Out s.reply_ticks)) place s.issued }) (handed ++ body ∷ []) done least) (sym n.is_next)
    (handed-to mine s n.place handed body done least n.command n.is_at n.waits n.has_body own n.room enough u)

-- one that doesn't pass the test
pub under-way-hand_out-other : (mine : List ℕ → Bool) (s : InitiatorState) (body : List ℕ) (handed : List (List ℕ)) (done : ℕ) (least : ℕ → ℕ) → mine body ≡ false → next_command s ≡ Some body → AreUnderWay mine s handed done least → AreUnderWay mine (after_hand_out s) handed done least
under-way-hand_out-other mine s body handed done least other next u =
    let n = hands-out s body next in
    subst (λ (place : Option ℕ). AreUnderWay mine (record s { issued = option_map_or (λ p. restated s.issued p (Out s.reply_ticks)) place s.issued }) handed done least) (sym n.is_next)
    (other-restated mine s n.place n.command (Out s.reply_ticks) handed done least n.is_at (ap mine n.has_body ∙ other) (handed-few s n.place n.command n.is_at n.waits n.room) u)

-- ---- the reply to the first command that is out

-- the place in the list of the command at a place of the order
turn-place : (cs : List Issued) (least : ℕ → ℕ) (ps : List ℕ) (done : ℕ) (xs : List (List ℕ)) (x : List ℕ) → AreAt (bodies_of cs) ps xs → StandInTurn cs least ps done → slice_get xs done ≡ Some x
    → (p : ℕ) × (slice_get ps done ≡ Some p) × StandsAs cs (IsOutFor (least 0)) p × (slice_get (bodies_of cs) p ≡ Some x)
turn-place cs least [] done [] x at h is = absurd cc
turn-place cs least [] done (y ∷ ys) x at h is = absurd at
turn-place cs least (p ∷ ps) done [] x at h is = absurd at
turn-place cs least (p ∷ ps) zero (y ∷ ys) x at h is = (p, refl, h.0, at.0 ∙ is)
turn-place cs least (p ∷ ps) (suc done) (y ∷ ys) x at h is = turn-place cs least ps done ys x at.1 h.1 is

-- the first place at which a test passes, where it passes at one alone
position-only : (t : Issued → Bool) (cs : List Issued) (p : ℕ) (c : Issued) → slice_get cs p ≡ Some c → t c ≡ true → ((q : ℕ) (d : Issued) → slice_get cs q ≡ Some d → t d ≡ true → q ≡ p) → position t cs ≡ Some p
position-only t [] p c at passes only = absurd cc
position-only t (d ∷ cs) zero c at passes only = position-cons t d cs ∙ rw (ap t (same_Some d c at) ∙ passes) refl
position-only t (d ∷ cs) (suc p) c at passes only =
    let fails : t d ≡ false = false_from_ne_true (t d) (λ yes. let same = only 0 d refl yes in absurd (omega (arith, same))) in
    position-cons t d cs ∙ rw (fails, position-only t cs p c at passes (λ q e is yes. let same = only (suc q) e is yes in omega (arith, same))) refl

reply-tns : (body reply : List ℕ) → is_reply_to body reply ≡ true → tns_of reply ≡ tns_of body
reply-tns body reply fits = eqb-true _ _ (and_parts _ _ (and_parts _ _ (and_parts _ _ fits).0).0).0

-- one command at most has the TNS of a reply
one-place : (s : InitiatorState) (reply : List ℕ) → length s.issued ≤ 65535 → AreNumbered s.tns 0 s.issued → (p q : ℕ) (c d : Issued) → slice_get s.issued p ≡ Some c → slice_get s.issued q ≡ Some d → is_reply_to c.body reply ≡ true → is_reply_to d.body reply ≡ true → q ≡ p
one-place s reply few numbered p q c d at-p at-q fits-c fits-d =
    let inside_p = slice_get_within s.issued p c at-p in
    let inside_q = slice_get_within s.issued q d at-q in
    let number_p = (numbered-at s.tns 0 s.issued p c numbered at-p).0 in
    let number_q = (numbered-at s.tns 0 s.issued q d numbered at-q).0 in
    let same : 0 + q ≡ 0 + p = numbered-apart s.tns (0 + q) (0 + p) (omega (arith, inside_q)) (omega (arith, inside_p)) (sym number_q ∙ sym (reply-tns d.body reply fits-d) ∙ reply-tns c.body reply fits-c ∙ number_p) in
    omega (arith, same)

stand-answered : (cs : List Issued) (least : ℕ → ℕ) (r : List ℕ) (ps : List ℕ) (done p : ℕ) (c : Issued) → slice_get cs p ≡ Some c → Differ ps → slice_get ps done ≡ Some p → StandInTurn cs least ps done → StandInTurn (restated cs p (Answered r)) (λ j. least (suc j)) ps (suc done)
stand-answered cs least r [] done p c at differ is h = absurd cc
stand-answered cs least r (q ∷ ps) zero p c at differ is h =
    let same : q ≡ p = same_Some q p is in
    let here : StandsAs (restated cs p (Answered r)) IsDone p = record { command = record c { standing = Answered r }; is_at = restated-at cs p c (Answered r) at; stands = tt } in
    (subst (StandsAs (restated cs p (Answered r)) IsDone) (sym same) here, stand-there cs (λ j. least (suc j)) p (Answered r) ps zero (λ k x found equal. other-at q ps k x differ.0 found (same ∙ sym equal)) h.1)
stand-answered cs least r (q ∷ ps) (suc done) p c at differ is h =
    (stands-there cs p (Answered r) IsDone q (λ same. other-at q ps done p differ.0 is same) h.0, stand-answered cs least r ps done p c at differ.1 is h.1)

-- a reply that answers this command
abbrev answered_at : InitiatorState → ℕ → List ℕ → InitiatorState
answered_at s p r = record s { issued = restated s.issued p (Answered r) }

answered-mine : (mine : List ℕ → Bool) (s : InitiatorState) (handed : List (List ℕ)) (done : ℕ) (least : ℕ → ℕ) (r : List ℕ) (p : ℕ) (c : Issued) → (u : AreUnderWay mine s handed done least) → slice_get u.order done ≡ Some p → slice_get s.issued p ≡ Some c → mine c.body ≡ true → IsOutFor (least 0) c.standing
    → AreUnderWay mine (answered_at s p r) handed (suc done) (λ j. least (suc j))
answered-mine mine s handed done least r p c u found at own out =
    let now = count-restated (both_of mine is_out) s.issued p c (Answered r) at in
    let was = same-if (mine c.body) (is_out c.standing) (out-out (least 0) c.standing out) in
    let goes = none-if (mine c.body) false refl in
    let one : one_if (mine c.body) ≡ 1 = ap one_if own in
    let others = count-restated (both_of mine is_waiting) s.issued p c (Answered r) at in
    let waited = none-if (mine c.body) (is_waiting c.standing) (out-waits (least 0) c.standing out) in
    let all = count-restated (λ (x : Issued). mine x.body) s.issued p c (Answered r) at in
    record {
      order = u.order;
      are_at = subst (λ (bs : List (List ℕ)). AreAt bs u.order handed) (sym (bodies-restated s.issued p (Answered r))) u.are_at;
      are_mine = u.are_mine;
      differ = u.differ;
      stand = stand-answered s.issued least r u.order done p c at u.differ found u.stand;
      wait = λ q d is of none. u.wait q d (sym (get-restated s.issued p q (Answered r) (λ same. none (done, found ∙ ap Some same))) ∙ is) of none;
      counted = omega (arith, now, was, goes, one, u.counted);
      few = let fewer = count-restated out_now s.issued p c (Answered r) at in omega (arith, fewer, u.few);
      others = omega (arith, others, waited, goes, all, u.others);
    }

-- what is answered: the command at a place that has this body
pub record Answers (s : InitiatorState) (r body : List ℕ) : Type 0 where
  pub place : ℕ
  pub is_place : answered_place s.issued r ≡ Some place
  pub is_at : slice_get (bodies_of s.issued) place ≡ Some body

pub under-way-reply : (mine : List ℕ → Bool) (s : InitiatorState) (handed : List (List ℕ)) (done : ℕ) (least : ℕ → ℕ) (body r : List ℕ) → length s.issued ≤ 65535 → AreNumbered s.tns 0 s.issued → slice_get handed done ≡ Some body → is_reply_to body r ≡ true → AreUnderWay mine s handed done least
    → Answers s r body × AreUnderWay mine (after_reply s r) handed (suc done) (λ j. least (suc j))
under-way-reply mine s handed done least body r few numbered next fits u =
    let found = turn-place s.issued least u.order done handed body u.are_at u.stand next in
    let p = found.0 in
    let c = found.2.command in
    let is_body : c.body ≡ body = same_Some _ _ (sym (body-of s.issued p c found.2.is_at) ∙ found.3) in
    let fits-c : is_reply_to c.body r ≡ true = ap (λ b. is_reply_to b r) is_body ∙ fits in
    let out = out-out (least 0) c.standing found.2.stands in
    let passes : (is_out c.standing && is_reply_to c.body r) ≡ true = rw (out, fits-c) refl in
    let is_place : answered_place s.issued r ≡ Some p = position-only (λ x. is_out x.standing && is_reply_to x.body r) s.issued p c found.2.is_at passes
    (λ q d at yes. one-place s r few numbered p q c d found.2.is_at at fits-c (and_parts _ _ yes).1) in
    let after = answered-mine mine s handed done least r p c u found.1 found.2.is_at (ap mine is_body ∙ u.are_mine done body next) found.2.stands in
    (record { place = p; is_place = is_place; is_at = found.3 }, subst (λ (place : Option ℕ). AreUnderWay mine (record s { issued = option_map_or (λ x. restated s.issued x (Answered r)) place s.issued }) handed (suc done) (λ j. least (suc j))) (sym is_place) after)

-- the reply answers a command that doesn't pass the test
pub under-way-reply-other : (mine : List ℕ → Bool) (s : InitiatorState) (handed : List (List ℕ)) (done : ℕ) (least : ℕ → ℕ) (body r : List ℕ) → mine body ≡ false → Answers s r body → AreUnderWay mine s handed done least → AreUnderWay mine (after_reply s r) handed done least
under-way-reply-other mine s handed done least body r other a u =
    let c = from-map (λ (x : Issued). x.body) s.issued a.place body a.is_at in
    let fewer = count-restated out_now s.issued a.place c.0 (Answered r) c.1 in
    subst (λ (place : Option ℕ). AreUnderWay mine (record s { issued = option_map_or (λ x. restated s.issued x (Answered r)) place s.issued }) handed done least) (sym a.is_place)
    (other-restated mine s a.place c.0 (Answered r) handed done least c.1 (ap mine c.2 ∙ other) (omega (arith, fewer, u.few)) u)

-- ---- a tick

stands-ticked : (cs : List Issued) (P Q : Standing → Type 0) (p : ℕ) → ((x : Standing) → P x → Q (ticked x)) → StandsAs cs P p → StandsAs (all_ticked cs) Q p
stands-ticked cs P Q p still h = record {
  command = record h.command { standing = ticked h.command.standing };
  is_at = slice_get-map {A = Issued} (λ c. record c { standing = ticked c.standing }) cs p ∙ ap (option_map {U = Issued} (λ c. record c { standing = ticked c.standing })) h.is_at;
  stands = still h.command.standing h.stands;
}

-- a place is of the order, or not
has-or-not : (ps : List ℕ) (p : ℕ) → Has ps p ⊎ (Has ps p → ⊥)
has-or-not [] p = inr (λ has. let no = has.1 in absurd cc)
has-or-not (q ∷ ps) p = by-test (eqb q p) refl (has-or-not ps p)
  where
    by-test : (b : Bool) → eqb q p ≡ b → Has ps p ⊎ (Has ps p → ⊥) → Has (q ∷ ps) p ⊎ (Has (q ∷ ps) p → ⊥)
    by-test true is later = inl (0, ap Some (eqb-true q p is))
    by-test false is (inl has) = inl (suc has.0, has.1)
    by-test false is (inr none) = inr (λ (k, at). not-at k at)
      where
        not-at : (k : ℕ) → slice_get (q ∷ ps) k ≡ Some p → ⊥
        not-at zero at = let yes = eq-eqb q p (same_Some q p at) in let clash : true ≡ false = sym yes ∙ is in cc
        not-at (suc k) at = none (k, at)

ticked-out : (least later : ℕ) (x : Standing) → IsTickFewer least later → IsOutFor least x → is_out (ticked x) ≡ is_out x
ticked-out least later (Out left) few o = let some = few.0 in let less = few.1 in rw (lt-ltb 1 left (omega (arith, some, less, o))) refl
ticked-out least later other few o = absurd o

ticked-done : (x : Standing) → IsDone x → is_out (ticked x) ≡ is_out x
ticked-done (Answered reply) d = refl
ticked-done other d = absurd d

ticked-waits : (x : Standing) → is_waiting x ≡ true → is_out (ticked x) ≡ is_out x
ticked-waits Waiting w = refl
ticked-waits (Out left) w = absurd cc
ticked-waits (Answered reply) w = refl
ticked-waits Undelivered w = refl
ticked-waits Unanswered w = refl

waits-ticked : (x : Standing) → is_waiting (ticked x) ≡ is_waiting x
waits-ticked Waiting = refl
waits-ticked (Out left) = by-more (nat_lt 1 left)
  where
    by-more : (more : Bool) → is_waiting (if more then Out (left - 1) else Unanswered) ≡ false
    by-more true = refl
    by-more false = refl
waits-ticked (Answered reply) = refl
waits-ticked Undelivered = refl
waits-ticked Unanswered = refl

-- the command at a place before the tick
from-tick : (cs : List Issued) (p : ℕ) (d : Issued) → slice_get (all_ticked cs) p ≡ Some d → (c : Issued) × (slice_get cs p ≡ Some c) × (d.standing ≡ ticked c.standing) × (d.body ≡ c.body)
from-tick cs p d at =
    let c = from-map {A = Issued} (λ x. record x { standing = ticked x.standing }) cs p d at in
    (c.0, c.1, ap (λ (x : Issued). x.standing) (sym c.2), ap (λ (x : Issued). x.body) (sym c.2))

-- how a command stands after it
same-tick : (cs : List Issued) (p : ℕ) (c d : Issued) → slice_get cs p ≡ Some c → slice_get (all_ticked cs) p ≡ Some d → (d.standing ≡ ticked c.standing) × (d.body ≡ c.body)
same-tick cs p c d at-c at-d =
    let was = from-tick cs p d at-d in
    let same : was.0 ≡ c = same_Some _ _ (sym was.1 ∙ at-c) in
    (was.2 ∙ ap (λ (x : Issued). ticked x.standing) same, was.3 ∙ ap (λ (x : Issued). x.body) same)

-- none is out that wasn't
out-before : (x : Standing) → is_out (ticked x) ≡ true → is_out x ≡ true
out-before (Out left) out = refl
out-before Waiting out = absurd cc
out-before (Answered reply) out = absurd cc
out-before Undelivered out = absurd cc
out-before Unanswered out = absurd cc

-- how as many stand so as did
count-ticked : (mine : List ℕ → Bool) (stands : Standing → Bool) (cs : List Issued) → ((p : ℕ) (c : Issued) → slice_get cs p ≡ Some c → mine c.body ≡ true → stands (ticked c.standing) ≡ stands c.standing) → count_mine mine stands (all_ticked cs) ≡ count_mine mine stands cs
count-ticked mine stands cs each = count-same (both_of mine stands) cs (all_ticked cs) (length-map {A = Issued} cs (λ c. record c { standing = ticked c.standing }))
    (λ p c d at-c at-d. let same = same-tick cs p c d at-c at-d in
    ap₂ (λ (b : List ℕ) (x : Standing). mine b && stands x) same.1 same.0 ∙ and-same (mine c.body) (stands (ticked c.standing)) (stands c.standing) (λ of. each p c at-c of))

ticked-to : (mine : List ℕ → Bool) (s : InitiatorState) (handed : List (List ℕ)) (done : ℕ) (least later : ℕ → ℕ) → (u : AreUnderWay mine s handed done least) → StandInTurn (all_ticked s.issued) later u.order done
    → ((p : ℕ) (c : Issued) → slice_get s.issued p ≡ Some c → mine c.body ≡ true → is_out (ticked c.standing) ≡ is_out c.standing) → AreUnderWay mine (record s { issued = all_ticked s.issued }) handed done later
ticked-to mine s handed done least later u stand each =
    let size : length (all_ticked s.issued) ≡ length s.issued = length-map {A = Issued} s.issued (λ c. record c { standing = ticked c.standing }) in
    let count = count-ticked mine is_out s.issued each in
    let waits = count-ticked mine is_waiting s.issued (λ p c at of. waits-ticked c.standing) in
    let own : count_by (λ c. mine c.body) (all_ticked s.issued) ≡ count_by (λ c. mine c.body) s.issued = count-same (λ (c : Issued). mine c.body) s.issued (all_ticked s.issued) size (λ p c d at-c at-d. ap mine (same-tick s.issued p c d at-c at-d).1) in
    let fewer : count_out (all_ticked s.issued) ≤ count_out s.issued = count-fewer out_now out_now s.issued (all_ticked s.issued) size (λ p c d at-c at-d out. out-before c.standing (sym (ap is_out (same-tick s.issued p c d at-c at-d).0) ∙ out)) in
    record {
      order = u.order;
      are_at = subst (λ (bs : List (List ℕ)). AreAt bs u.order handed) (sym (bodies-tick s)) u.are_at;
      are_mine = u.are_mine;
      differ = u.differ;
      stand = stand;
      wait = λ p d at of none. let was = from-tick s.issued p d at in ap is_waiting was.2 ∙ waits-ticked was.0.standing ∙ u.wait p was.0 was.1 (sym (ap mine was.3) ∙ of) none;
      counted = omega (arith, count, u.counted);
      few = omega (arith, fewer, u.few);
      others = omega (arith, waits, own, u.others);
    }

-- what holds of commands that stand so as those of an order, and of those that wait, holds of each
each-command : (mine : List ℕ → Bool) (s : InitiatorState) (handed : List (List ℕ)) (done : ℕ) (least : ℕ → ℕ) (P : Standing → Type 0) → (u : AreUnderWay mine s handed done least) → ((k p : ℕ) → slice_get u.order k ≡ Some p → StandsAs s.issued P p) → ((x : Standing) → is_waiting x ≡ true → P x)
    → (p : ℕ) (c : Issued) → slice_get s.issued p ≡ Some c → mine c.body ≡ true → P c.standing
each-command mine s handed done least P u turn waits p c at of = elim (has-or-not u.order p) [
  | inl has ↦
      let stands = turn has.0 p has.1 in
      let same : stands.command ≡ c = same_Some _ _ (sym stands.is_at ∙ at) in
      subst (λ (x : Issued). P x.standing) same stands.stands
  | inr none ↦ waits c.standing (u.wait p c at of none)
]

-- enough ticks are left to each that is out
pub under-way-tick : (mine : List ℕ → Bool) (s : InitiatorState) (handed : List (List ℕ)) (done : ℕ) (least later : ℕ → ℕ) → ((j : ℕ) → IsTickFewer (least j) (later j)) → AreUnderWay mine s handed done least → AreUnderWay mine (record s { issued = all_ticked s.issued }) handed done later
under-way-tick mine s handed done least later few u =
    ticked-to mine s handed done least later u
    (stand-so s.issued (all_ticked s.issued) least later u.order done (λ p. stands-ticked s.issued IsDone IsDone p done-ticked)
    (λ j p. stands-ticked s.issued (IsOutFor (least j)) (IsOutFor (later j)) p (λ x o. out-ticked (least j) (later j) x (few j) o)) u.stand)
    (each-command mine s handed done least (λ x. is_out (ticked x) ≡ is_out x) u
    (λ k p at. elim (turn-stands s.issued least u.order done k p u.stand at) [
      | inl answered ↦ stands-so s.issued IsDone (λ x. is_out (ticked x) ≡ is_out x) p ticked-done answered
      | inr (j, out) ↦ stands-so s.issued (IsOutFor (least j)) (λ x. is_out (ticked x) ≡ is_out x) p (λ x o. ticked-out (least j) (later j) x (few j) o) out
    ])
    ticked-waits)

-- ---- no fewer ticks are known to be left

restood : (mine : List ℕ → Bool) (s : InitiatorState) (handed : List (List ℕ)) (done : ℕ) (least later : ℕ → ℕ) → (u : AreUnderWay mine s handed done least) → StandInTurn s.issued later u.order done → AreUnderWay mine s handed done later
restood mine s handed done least later u stand = record {
  order = u.order;
  are_at = u.are_at;
  are_mine = u.are_mine;
  differ = u.differ;
  stand = stand;
  wait = u.wait;
  counted = u.counted;
  few = u.few;
  others = u.others;
}

fewer-out : (least later : ℕ) (x : Standing) → later ≤ least → IsOutFor least x → IsOutFor later x
fewer-out least later (Out left) less o = omega (arith, less, o)
fewer-out least later other less o = absurd o

pub under-way-fewer : (mine : List ℕ → Bool) (s : InitiatorState) (handed : List (List ℕ)) (done : ℕ) (least later : ℕ → ℕ) → ((j : ℕ) → later j ≤ least j) → AreUnderWay mine s handed done least → AreUnderWay mine s handed done later
under-way-fewer mine s handed done least later less u =
    restood mine s handed done least later u
    (stand-so s.issued s.issued least later u.order done (λ p h. h) (λ j p. stands-so s.issued (IsOutFor (least j)) (IsOutFor (later j)) p (λ x o. fewer-out (least j) (later j) x (less j) o)) u.stand)

-- ---- none is out

-- where all that were handed out are answered, each is
turn-done : (cs : List Issued) (least : ℕ → ℕ) (ps : List ℕ) (done k p : ℕ) → done ≡ length ps → StandInTurn cs least ps done → slice_get ps k ≡ Some p → StandsAs cs IsDone p
turn-done cs least [] done k p all h at = absurd cc
turn-done cs least (q ∷ ps) zero k p all h at = absurd (omega (arith, all))
turn-done cs least (q ∷ ps) (suc done) zero p all h at = subst (StandsAs cs IsDone) (same_Some q p at) h.0
turn-done cs least (q ∷ ps) (suc done) (suc k) p all h at = turn-done cs least ps done k p (omega (arith, all)) h.1 at

-- and any ticks may have passed
turn-later : (cs ds : List Issued) (least later : ℕ → ℕ) (ps : List ℕ) (done : ℕ) → ((p : ℕ) → StandsAs cs IsDone p → StandsAs ds IsDone p) → done ≡ length ps → StandInTurn cs least ps done → StandInTurn ds later ps done
turn-later cs ds least later [] zero answered all h = tt
turn-later cs ds least later [] (suc done) answered all h = absurd h
turn-later cs ds least later (q ∷ ps) zero answered all h = absurd (omega (arith, all))
turn-later cs ds least later (q ∷ ps) (suc done) answered all h = (answered q h.0, turn-later cs ds least later ps done answered (omega (arith, all)) h.1)

-- as many bodies as places
at-count : (bodies : List (List ℕ)) (ps : List ℕ) (xs : List (List ℕ)) → AreAt bodies ps xs → length ps ≡ length xs
at-count bodies [] [] at = refl
at-count bodies [] (x ∷ xs) at = absurd at
at-count bodies (p ∷ ps) [] at = absurd at
at-count bodies (p ∷ ps) (x ∷ xs) at = ap suc (at-count bodies ps xs at.1)

full-order : (mine : List ℕ → Bool) (s : InitiatorState) (handed : List (List ℕ)) (done : ℕ) (least : ℕ → ℕ) → done ≡ length handed → (u : AreUnderWay mine s handed done least) → done ≡ length u.order
full-order mine s handed done least all u = let count = at-count (bodies_of s.issued) u.order handed u.are_at in omega (arith, count, all)

pub under-way-later : (mine : List ℕ → Bool) (s : InitiatorState) (handed : List (List ℕ)) (done : ℕ) (least later : ℕ → ℕ) → done ≡ length handed → AreUnderWay mine s handed done least → AreUnderWay mine s handed done later
under-way-later mine s handed done least later all u =
    restood mine s handed done least later u (turn-later s.issued s.issued least later u.order done (λ p h. h) (full-order mine s handed done least all u) u.stand)

-- and so at a tick
pub under-way-rests : (mine : List ℕ → Bool) (s : InitiatorState) (handed : List (List ℕ)) (done : ℕ) (least later : ℕ → ℕ) → done ≡ length handed → AreUnderWay mine s handed done least → AreUnderWay mine (record s { issued = all_ticked s.issued }) handed done later
under-way-rests mine s handed done least later all u =
    let full = full-order mine s handed done least all u in
    ticked-to mine s handed done least later u (turn-later s.issued (all_ticked s.issued) least later u.order done (λ p. stands-ticked s.issued IsDone IsDone p done-ticked) full u.stand)
    (each-command mine s handed done least (λ x. is_out (ticked x) ≡ is_out x) u
    (λ k p at. stands-so s.issued IsDone (λ x. is_out (ticked x) ≡ is_out x) p ticked-done (turn-done s.issued least u.order done k p full u.stand at))
    ticked-waits)

-- ---- what was handed out

-- no more than are answered, and may be out
pub under-way-few : (mine : List ℕ → Bool) (s : InitiatorState) (handed : List (List ℕ)) (done : ℕ) (least : ℕ → ℕ) → AreUnderWay mine s handed done least → length handed ≤ done + s.window
under-way-few mine s handed done least u =
    let count = at-count (bodies_of s.issued) u.order handed u.are_at in
    let out = mine-out mine s.issued in
    omega (arith, count, out, u.counted, u.few)

-- each is the body of a command
pub under-way-at : (mine : List ℕ → Bool) (s : InitiatorState) (handed : List (List ℕ)) (done : ℕ) (least : ℕ → ℕ) (k : ℕ) (body : List ℕ) → slice_get handed k ≡ Some body → AreUnderWay mine s handed done least → (place : ℕ) × (slice_get (bodies_of s.issued) place ≡ Some body)
under-way-at mine s handed done least k body is u = let p = at-place (bodies_of s.issued) u.order handed k body u.are_at is in (p.0, p.2)

-- their TNS differ
others-differ : (bodies : List (List ℕ)) (p : ℕ) (x : List ℕ) (ps : List ℕ) (xs : List (List ℕ)) → Differ (map tns_of bodies) → slice_get bodies p ≡ Some x → AreAt bodies ps xs → IsOther p ps → IsOther (tns_of x) (map tns_of xs)
others-differ bodies p x [] [] differ is at others = tt
others-differ bodies p x [] (y ∷ ys) differ is at others = absurd at
others-differ bodies p x (q ∷ ps) [] differ is at others = absurd at
others-differ bodies p x (q ∷ ps) (y ∷ ys) differ is at others = (λ same. others.0 (differ-at tns_of bodies p q x y differ is at.0 same), others-differ bodies p x ps ys differ is at.1 others.1)

order-differ : (bodies : List (List ℕ)) (ps : List ℕ) (xs : List (List ℕ)) → Differ (map tns_of bodies) → AreAt bodies ps xs → Differ ps → Differ (map tns_of xs)
order-differ bodies [] [] differ at apart = tt
order-differ bodies [] (x ∷ xs) differ at apart = absurd at
order-differ bodies (p ∷ ps) [] differ at apart = absurd at
order-differ bodies (p ∷ ps) (x ∷ xs) differ at apart = (others-differ bodies p x ps xs differ at.0 at.1 apart.0, order-differ bodies ps xs differ at.1 apart.1)

pub under-way-differ : (mine : List ℕ → Bool) (s : InitiatorState) (handed : List (List ℕ)) (done : ℕ) (least : ℕ → ℕ) → length s.issued ≤ 65535 → AreNumbered s.tns 0 s.issued → AreUnderWay mine s handed done least → Differ (map tns_of handed)
under-way-differ mine s handed done least few numbered u = order-differ (bodies_of s.issued) u.order handed (numbers-differ s.tns 0 s.issued (omega (arith, few)) numbered) u.are_at u.differ

-- ---- nothing waits

-- none of a source is out where none is
none-of : (cs : List Issued) (source : ℕ) → count_out_of source cs ≤ count_out cs
none-of cs source = count-fewer (λ c. is_out c.standing && (source_of c == source)) out_now cs cs refl
    (λ p c d at-c at-d both. let same : d ≡ c = same_Some d c (sym at-d ∙ at-c) in sym (ap (λ (x : Issued). is_out x.standing) same) ∙ (and_parts (is_out d.standing) (source_of d == source) both).0)

none-at : (t : Issued → Bool) (d : Issued) (cs : List Issued) (c : Issued) (b : Bool) → t d ≡ b → option_map (λ x. x.body) (find t (d ∷ cs)) ≡ None → (option_map (λ x. x.body) (find t cs) ≡ None → (k : ℕ) → slice_get cs k ≡ Some c → t c ≡ false)
    → (k : ℕ) → slice_get (d ∷ cs) k ≡ Some c → t c ≡ false
none-at t d cs c true is none later k at = let no : Some d.body ≡ None = rw is at none in absurd cc
none-at t d cs c false is none later zero at = ap t (sym (same_Some d c at)) ∙ is
none-at t d cs c false is none later (suc k) at = later (rw is at none) k at

none-found : (t : Issued → Bool) (cs : List Issued) (k : ℕ) (c : Issued) → option_map (λ x. x.body) (find t cs) ≡ None → slice_get cs k ≡ Some c → t c ≡ false
none-found t [] k c none at = absurd cc
none-found t (d ∷ cs) k c none at = none-at t d cs c (t d) refl none (λ nothing n is. none-found t cs n c nothing is) k at

left-false : (a b : Bool) → (a && b) ≡ false → b ≡ true → a ≡ false
left-false true b h e = cc
left-false false b h e = refl

-- a command is answered, or waits
abbrev pub IsDoneOrWaits : Standing → Type 0
IsDoneOrWaits x = IsDone x ⊎ (is_waiting x ≡ true)

-- once all that were handed out are answered, each that passes the test is, or waits
pub under-way-rested : (mine : List ℕ → Bool) (s : InitiatorState) (handed : List (List ℕ)) (done : ℕ) (least : ℕ → ℕ) → done ≡ length handed → AreUnderWay mine s handed done least → (k : ℕ) (c : Issued) → slice_get s.issued k ≡ Some c → mine c.body ≡ true → IsDoneOrWaits c.standing
under-way-rested mine s handed done least all u =
    each-command mine s handed done least IsDoneOrWaits u
    (λ k p at. stands-so s.issued IsDone IsDoneOrWaits p (λ x h. inl h) (turn-done s.issued least u.order done k p (full-order mine s handed done least all u) u.stand at))
    (λ x waits. inr waits)

-- where that is so of all commands, and none is handed out next, each is answered
pub all-done : (s : InitiatorState) → 1 ≤ s.window → 1 ≤ s.per_source → next_command s ≡ None → ((k : ℕ) (c : Issued) → slice_get s.issued k ≡ Some c → IsDoneOrWaits c.standing) → (k : ℕ) (c : Issued) → slice_get s.issued k ≡ Some c → IsDone c.standing
all-done s some some-of none each k c at =
    let no-out : count_out s.issued ≡ 0 = count-none out_now s.issued (λ p d is. elim (each p d is) [ inl done ↦ done-out d.standing done | inr waits ↦ waits-out d.standing waits ]) in
    let may : nat_lt (count_out s.issued) s.window ≡ true = lt-ltb (count_out s.issued) s.window (omega (arith, no-out, some)) in
    let nothing : option_map (λ x. x.body) (find (is_due s) s.issued) ≡ None = rw may at (sym (command-found s) ∙ none) in
    let fails = none-found (is_due s) s.issued k c nothing at in
    let fewer = none-of s.issued (source_of c) in
    let due : nat_lt (count_out_of (source_of c) s.issued) s.per_source ≡ true = lt-ltb _ s.per_source (omega (arith, fewer, no-out, some-of)) in
    let waits : is_waiting c.standing ≡ false = left-false (is_waiting c.standing) _ fails due in
    elim (each k c at) [ inl done ↦ done | inr idle ↦ absurd (let clash : true ≡ false = sym idle ∙ waits in cc) ]

-- so as many were handed out as pass the test
pub under-way-full : (mine : List ℕ → Bool) (s : InitiatorState) (handed : List (List ℕ)) (done : ℕ) (least : ℕ → ℕ) → AreUnderWay mine s handed done least → ((k : ℕ) (c : Issued) → slice_get s.issued k ≡ Some c → IsDone c.standing) → length handed ≡ length (filter mine (bodies_of s.issued))
under-way-full mine s handed done least u all =
    let none : count_mine mine is_waiting s.issued ≡ 0 = count-none (both_of mine is_waiting) s.issued (λ p c at. ap (λ (w : Bool). mine c.body && w) (done-waits c.standing (all p c at)) ∙ and-false (mine c.body)) in
    let count = at-count (bodies_of s.issued) u.order handed u.are_at in
    let bodies = count-bodies mine s.issued in
    omega (arith, none, count, bodies, u.others)
  where
    and-false : (b : Bool) → (b && false) ≡ false
    and-false true = refl
    and-false false = refl
