-- The commands of a node as they are told: one that was given up before it was handed out is told as one that waits.
use Rattle.std.proofs.Common.{◌≡◌, ◌∙◌, ◌⊎◌, ℕ, zero, suc, ◌+◌, Bool, true, cond, ◌&&◌, List, [], ◌∷◌, ◌++◌, map, Option, Some, option_map, refl, ap, ap₂, sym, subst, inl, inr}
use Rattle.std.specs.Prelude.{slice_get}
use Rattle.df1_node.specs.Initiator.{Issued, Standing, Waiting, Out, Answered, Undelivered, Unanswered, is_waiting, is_out, is_reply_to, restated, answered_place, is_out_at, ticked, is_last_tick, all_ticked, cleared, all_cleared, unanswered_from}
use Rattle.each_once.proofs.CommandBodies.{position-cons}
use Rattle.each_once.proofs.HandedOrder.{push-cases}
use Rattle.each_once.proofs.Sublists.{Has, same-some}

-- it was given up, and never handed out
abbrev pub IsDropped : List (List ℕ) → Issued → Issued → Type 0
IsDropped handed c shown = (shown.standing ≡ Waiting) × (c.standing ≡ Undelivered) × (Has handed c.body → ⊥)

-- how a command is told, over the commands that were handed out
abbrev pub IsShown : List (List ℕ) → Issued → Issued → Type 0
IsShown handed c shown = (shown.body ≡ c.body) × ((shown.standing ≡ c.standing) ⊎ IsDropped handed c shown)

abbrev pub AreShown : List (List ℕ) → List Issued → List Issued → Type 0
AreShown handed [] [] = Unit {0}
AreShown handed [] (d ∷ ds) = ⊥
AreShown handed (c ∷ cs) [] = ⊥
AreShown handed (c ∷ cs) (d ∷ ds) = IsShown handed c d × AreShown handed cs ds

-- ---- one place

pub shown-at : (handed : List (List ℕ)) (cs ds : List Issued) (k : ℕ) (c : Issued) → AreShown handed cs ds → slice_get cs k ≡ Some c → (d : Issued) × (slice_get ds k ≡ Some d) × IsShown handed c d
shown-at handed [] ds k c all at = absurd cc
shown-at handed (x ∷ cs) [] k c all at = absurd all
shown-at handed (x ∷ cs) (y ∷ ds) zero c all at = (y, refl, subst (λ (z : Issued). IsShown handed z y) (same-some x c at) all.0)
shown-at handed (x ∷ cs) (y ∷ ds) (suc k) c all at = shown-at handed cs ds k c all.1 at

-- what was handed out stands as it is told
pub shown-handed : (handed : List (List ℕ)) (c d : Issued) → IsShown handed c d → Has handed c.body → d.standing ≡ c.standing
shown-handed handed c d (same, inl alike) has = alike
shown-handed handed c d (same, inr dropped) has = absurd (dropped.2 has)

-- and so does what waits
pub shown-waiting : (handed : List (List ℕ)) (c d : Issued) → IsShown handed c d → is_waiting c.standing ≡ true → is_waiting d.standing ≡ true
shown-waiting handed c d (same, inl alike) waits = ap is_waiting alike ∙ waits
shown-waiting handed c d (same, inr dropped) waits = ap is_waiting dropped.0

-- ---- what is the same of both

pub shown-bodies : (handed : List (List ℕ)) (cs ds : List Issued) → AreShown handed cs ds → map (λ (d : Issued). d.body) ds ≡ map (λ (c : Issued). c.body) cs
shown-bodies handed [] [] all = refl
shown-bodies handed [] (d ∷ ds) all = absurd all
shown-bodies handed (c ∷ cs) [] all = absurd all
shown-bodies handed (c ∷ cs) (d ∷ ds) all = ap₂ (λ (b : List ℕ) (bs : List (List ℕ)). b ∷ bs) all.0.0 (shown-bodies handed cs ds all.1)

same-out : (handed : List (List ℕ)) (c d : Issued) → IsShown handed c d → is_out d.standing ≡ is_out c.standing
same-out handed c d (same, inl alike) = ap is_out alike
same-out handed c d (same, inr dropped) = ap is_out dropped.0 ∙ sym (ap is_out dropped.1)

same-last : (handed : List (List ℕ)) (c d : Issued) → IsShown handed c d → is_last_tick d.standing ≡ is_last_tick c.standing
same-last handed c d (same, inl alike) = ap is_last_tick alike
same-last handed c d (same, inr dropped) = ap is_last_tick dropped.0 ∙ sym (ap is_last_tick dropped.1)

pub answered-same : (handed : List (List ℕ)) (cs ds : List Issued) (reply : List ℕ) → AreShown handed cs ds → answered_place ds reply ≡ answered_place cs reply
answered-same handed [] [] reply all = refl
answered-same handed [] (d ∷ ds) reply all = absurd all
answered-same handed (c ∷ cs) [] reply all = absurd all
answered-same handed (c ∷ cs) (d ∷ ds) reply all =
    let test : Issued → Bool = λ x. is_out x.standing && is_reply_to x.body reply in
    let here : test d ≡ test c = ap₂ (λ (a : Bool) (body : List ℕ). a && is_reply_to body reply) (same-out handed c d all.0) all.0.0 in
    position-cons test d ds ∙ ap₂ (λ (b : Bool) (o : Option ℕ). cond b (Some 0) (option_map suc o)) here (answered-same handed cs ds reply all.1) ∙ sym (position-cons test c cs)

pub out-at-same : (handed : List (List ℕ)) (cs ds : List Issued) (place : ℕ) → AreShown handed cs ds → is_out_at ds place ≡ is_out_at cs place
out-at-same handed [] [] place all = refl
out-at-same handed [] (d ∷ ds) place all = absurd all
out-at-same handed (c ∷ cs) [] place all = absurd all
out-at-same handed (c ∷ cs) (d ∷ ds) zero all = same-out handed c d all.0
out-at-same handed (c ∷ cs) (d ∷ ds) (suc place) all = out-at-same handed cs ds place all.1

pub gone-same : (handed : List (List ℕ)) (number : ℕ) (cs ds : List Issued) → AreShown handed cs ds → unanswered_from number ds ≡ unanswered_from number cs
gone-same handed number [] [] all = refl
gone-same handed number [] (d ∷ ds) all = absurd all
gone-same handed number (c ∷ cs) [] all = absurd all
gone-same handed number (c ∷ cs) (d ∷ ds) all =
    ap₂ (λ (b : Bool) (ns : List ℕ). cond b (number ∷ ns) ns) (same-last handed c d all.0) (gone-same handed (number + 1) cs ds all.1)

-- ---- steps

pub shown-none : (handed : List (List ℕ)) → AreShown handed [] []
shown-none handed = tt

pub shown-push : (handed : List (List ℕ)) (cs ds : List Issued) (new : Issued) → AreShown handed cs ds → AreShown handed (cs ++ new ∷ []) (ds ++ new ∷ [])
shown-push handed [] [] new all = ((refl, inl refl), tt)
shown-push handed [] (d ∷ ds) new all = absurd all
shown-push handed (c ∷ cs) [] new all = absurd all
shown-push handed (c ∷ cs) (d ∷ ds) new all = (all.0, shown-push handed cs ds new all.1)

pub shown-restated : (handed : List (List ℕ)) (cs ds : List Issued) (place : ℕ) (standing : Standing) → AreShown handed cs ds → AreShown handed (restated cs place standing) (restated ds place standing)
shown-restated handed [] [] place standing all = tt
shown-restated handed [] (d ∷ ds) place standing all = absurd all
shown-restated handed (c ∷ cs) [] place standing all = absurd all
shown-restated handed (c ∷ cs) (d ∷ ds) zero standing all = ((all.0.0, inl refl), all.1)
shown-restated handed (c ∷ cs) (d ∷ ds) (suc place) standing all = (all.0, shown-restated handed cs ds place standing all.1)

ticked-shown : (handed : List (List ℕ)) (c d : Issued) → IsShown handed c d → IsShown handed (record c { standing = ticked c.standing }) (record d { standing = ticked d.standing })
ticked-shown handed c d (same, inl alike) = (same, inl (ap ticked alike))
ticked-shown handed c d (same, inr dropped) = (same, inr (ap ticked dropped.0, ap ticked dropped.1, dropped.2))

pub shown-ticked : (handed : List (List ℕ)) (cs ds : List Issued) → AreShown handed cs ds → AreShown handed (all_ticked cs) (all_ticked ds)
shown-ticked handed [] [] all = tt
shown-ticked handed [] (d ∷ ds) all = absurd all
shown-ticked handed (c ∷ cs) [] all = absurd all
shown-ticked handed (c ∷ cs) (d ∷ ds) all = (ticked-shown handed c d all.0, shown-ticked handed cs ds all.1)

-- what waits is given up, and was not handed out
cleared-shown : (handed : List (List ℕ)) (body : List ℕ) (standing : Standing) (d : Issued) → (is_waiting standing ≡ true → Has handed body → ⊥) → IsShown handed (record { body = body; standing = standing }) d
    → IsShown handed (record { body = body; standing = cleared standing }) d
cleared-shown handed body Waiting d not (same, inl alike) = (same, inr (alike, refl, not refl))
cleared-shown handed body Waiting d not (same, inr dropped) = (same, inr (dropped.0, refl, dropped.2))
cleared-shown handed body (Out left) d not shown = shown
cleared-shown handed body (Answered reply) d not shown = shown
cleared-shown handed body Undelivered d not shown = shown
cleared-shown handed body Unanswered d not shown = shown

pub shown-cleared : (handed : List (List ℕ)) (cs ds : List Issued) → ((k : ℕ) (c : Issued) → slice_get cs k ≡ Some c → is_waiting c.standing ≡ true → Has handed c.body → ⊥) → AreShown handed cs ds → AreShown handed (all_cleared cs) ds
shown-cleared handed [] [] not all = tt
shown-cleared handed [] (d ∷ ds) not all = absurd all
shown-cleared handed (c ∷ cs) [] not all = absurd all
shown-cleared handed (c ∷ cs) (d ∷ ds) not all = (cleared-shown handed c.body c.standing d (not 0 c refl) all.0, shown-cleared handed cs ds (λ k x at. not (suc k) x at) all.1)

-- one more is handed out, which is none of those that were given up
more-dropped : (handed : List (List ℕ)) (body : List ℕ) (c d : Issued) → (c.standing ≡ Undelivered → c.body ≡ body → ⊥) → IsShown handed c d → IsShown (handed ++ body ∷ []) c d
more-dropped handed body c d other (same, inl alike) = (same, inl alike)
more-dropped handed body c d other (same, inr dropped) =
    (same, inr (dropped.0, dropped.1, λ has. elim (push-cases handed body has.0 c.body has.1) [ inl old ↦ dropped.2 (has.0, old) | inr new ↦ other dropped.1 new.1 ]))

pub shown-more : (handed : List (List ℕ)) (body : List ℕ) (cs ds : List Issued) → ((k : ℕ) (c : Issued) → slice_get cs k ≡ Some c → c.standing ≡ Undelivered → c.body ≡ body → ⊥) → AreShown handed cs ds → AreShown (handed ++ body ∷ []) cs ds
shown-more handed body [] [] other all = tt
shown-more handed body [] (d ∷ ds) other all = absurd all
shown-more handed body (c ∷ cs) [] other all = absurd all
shown-more handed body (c ∷ cs) (d ∷ ds) other all = (more-dropped handed body c d (other 0 c refl) all.0, shown-more handed body cs ds (λ k x at. other (suc k) x at) all.1)
