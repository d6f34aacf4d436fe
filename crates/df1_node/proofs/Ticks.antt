-- A tick, for one command after another of those that are out.
use Rattle.std.proofs.Common.{◌≡◌, ◌<◌, ◌≤◌, ℕ, suc, zero, ◌+◌, ◌-◌, ◌∙◌, Bool, true, false, cond, List, [], ◌∷◌, ◌++◌, map, filter, length, take, drop, find, remove, Some, refl, sym, ap, arith, slice_get, nat_lt, not, ◌==◌}
use Rattle.std.proofs.lemmas.Bool.Decides.{nat_tests}
use Rattle.std.specs.Option.{option_map_or}
use Rattle.df1_node.specs.declared.queue.Queue.{Queue}
use Rattle.df1_node.specs.Initiator.{Standing, Waiting, Out, Answered, Undelivered, Unanswered, Issued, is_waiting, is_out, is_settled, restated, ticked, is_last_tick, unanswered_from, all_ticked}
use Rattle.df1_node.specs.Commands.{ticked_at}
use Rattle.df1_node.specs.Queue.{places, out_now, IsQueue}
use Rattle.df1_node.proofs.Places.{At-known, places-same, places-removed}
use Rattle.df1_node.proofs.Ordered.{queue-alike, out_not_waiting, out_not_settled}

-- ---- how a command stands after a tick

ticked_other : (s : Standing) → is_out s ≡ false → ticked s ≡ s
ticked_other Waiting o = refl
ticked_other (Out k) o = cc
ticked_other (Answered r) o = refl
ticked_other Undelivered o = refl
ticked_other Unanswered o = refl

not_last : (s : Standing) → is_out s ≡ false → is_last_tick s ≡ false
not_last Waiting o = refl
not_last (Out k) o = cc
not_last (Answered r) o = refl
not_last Undelivered o = refl
not_last Unanswered o = refl

pub ticked_still : (s : Standing) → is_out s ≡ true → is_last_tick s ≡ false → is_out (ticked s) ≡ true
ticked_still Waiting t l = cc
ticked_still (Out left) t l = elim (nat_lt 1 left) as (λ b. cond b false true ≡ false → is_out (cond b (Out (left - 1)) Unanswered) ≡ true) [ true ↦ λ h. refl | false ↦ λ h. cc ] l
ticked_still (Answered r) t l = cc
ticked_still Undelivered t l = cc
ticked_still Unanswered t l = cc

pub ticked_last : (s : Standing) → is_last_tick s ≡ true → is_settled (ticked s) ≡ true
ticked_last Waiting l = cc
ticked_last (Out left) l = elim (nat_lt 1 left) as (λ b. cond b false true ≡ true → is_settled (cond b (Out (left - 1)) Unanswered) ≡ true) [ true ↦ λ h. cc | false ↦ λ h. refl ] l
ticked_last (Answered r) l = cc
ticked_last Undelivered l = cc
ticked_last Unanswered l = cc

settled_not_out : (s : Standing) → is_settled s ≡ true → is_out s ≡ false
settled_not_out Waiting o = cc
settled_not_out (Out k) o = cc
settled_not_out (Answered r) o = refl
settled_not_out Undelivered o = refl
settled_not_out Unanswered o = refl

-- ---- one command

pub restated-ticked : (cs : List Issued) (p : ℕ) (r : Issued) → slice_get cs p ≡ Some r → restated cs p (ticked r.standing) ≡ ticked_at p cs
restated-ticked [] p r at = refl
restated-ticked (c ∷ cs) zero r at = let f : r ≡ c = cc in ap (λ x. record c { standing = ticked x.standing } ∷ cs) f
restated-ticked (c ∷ cs) (suc p) r at = ap (λ xs. c ∷ xs) (restated-ticked cs p r at)

pub queue-ticked : (cs : List Issued) (q : Queue) (p : ℕ) (r : Issued) → IsQueue cs q → slice_get cs p ≡ Some r → is_out r.standing ≡ true → is_last_tick r.standing ≡ false → IsQueue (restated cs p (ticked r.standing)) q
queue-ticked cs q p r is at out last =
    let still : is_out (ticked r.standing) ≡ true = ticked_still r.standing out last in
    queue-alike cs q p (ticked r.standing) is
    (At-known cs p r (λ c. is_out (ticked r.standing) ≡ is_out c.standing) at (still ∙ sym out))
    (At-known cs p r (λ c. is_waiting (ticked r.standing) ≡ is_waiting c.standing) at (out_not_waiting (ticked r.standing) still ∙ sym (out_not_waiting r.standing out)))
    (At-known cs p r (λ c. is_settled (ticked r.standing) ≡ is_settled c.standing) at (out_not_settled (ticked r.standing) still ∙ sym (out_not_settled r.standing out)))

pub places-ticked : (cs : List Issued) (p : ℕ) (r : Issued) → slice_get cs p ≡ Some r → is_out r.standing ≡ true → is_last_tick r.standing ≡ false → places out_now (restated cs p (ticked r.standing)) ≡ places out_now cs
places-ticked cs p r at out last =
    places-same out_now cs p (ticked r.standing) (At-known cs p r (λ c. is_out (ticked r.standing) ≡ is_out c.standing) at (ticked_still r.standing out last ∙ sym out))

pub places-gone : (cs : List Issued) (p k : ℕ) (r : Issued) → slice_get (places out_now cs) k ≡ Some p → is_last_tick r.standing ≡ true → places out_now (restated cs p (ticked r.standing)) ≡ remove (places out_now cs) k
places-gone cs p k r there last = places-removed out_now cs p k (ticked r.standing) there (λ c _. settled_not_out (ticked r.standing) (ticked_last r.standing last))

-- ---- all of them

-- a tick for the commands at some places
abbrev pub tick_places : List ℕ → List Issued → List Issued
tick_places [] cs = cs
tick_places (p ∷ ps) cs = tick_places ps (ticked_at p cs)

tick-sucs : (ps : List ℕ) (c : Issued) (cs : List Issued) → tick_places (map suc ps) (c ∷ cs) ≡ c ∷ tick_places ps cs
tick-sucs [] c cs = refl
tick-sucs (p ∷ ps) c cs = tick-sucs ps c (ticked_at p cs)

tick-either : (b : Bool) (c : Issued) (cs : List Issued) → is_out c.standing ≡ b →
    tick_places (cond b (0 ∷ map suc (places out_now cs)) (map suc (places out_now cs))) (c ∷ cs) ≡ record c { standing = ticked c.standing } ∷ tick_places (places out_now cs) cs
tick-either true c cs e = tick-sucs (places out_now cs) (record c { standing = ticked c.standing }) cs
tick-either false c cs e =
    tick-sucs (places out_now cs) c cs
    ∙ ap (λ (s : Standing). let k : Issued = record c { standing = s } in k ∷ tick_places (places out_now cs) cs) (sym (ticked_other c.standing e))

-- a tick for each that is out is one for each
pub tick_out : (cs : List Issued) → tick_places (places out_now cs) cs ≡ all_ticked cs
tick_out [] = refl
tick_out (c ∷ cs) = tick-either (is_out c.standing) c cs refl ∙ ap (λ xs. record c { standing = ticked c.standing } ∷ xs) (tick_out cs)

pub tick_next : (ps : List ℕ) (k p : ℕ) (cs : List Issued) → slice_get ps k ≡ Some p → tick_places (drop k ps) cs ≡ tick_places (drop (suc k) ps) (ticked_at p cs)
tick_next [] k p cs at = absurd (let f : ⊥ = cc in f)
tick_next (q ∷ ps) zero p cs at = let f : q ≡ p = cc in ap (λ x. tick_places ps (ticked_at x cs)) f
tick_next (q ∷ ps) (suc k) p cs at = tick_next ps k p cs at

pub drop-removed : (ps : List ℕ) (k : ℕ) → drop k (remove ps k) ≡ drop (suc k) ps
drop-removed [] zero = refl
drop-removed [] (suc k) = refl
drop-removed (p ∷ ps) zero = refl
drop-removed (p ∷ ps) (suc k) = drop-removed ps k

pub drop-past : (ps : List ℕ) (k : ℕ) → length ps ≤ k → drop k ps ≡ []
drop-past [] zero past = refl
drop-past [] (suc k) past = refl
drop-past (p ∷ ps) zero past = absurd (omega arith)
drop-past (p ∷ ps) (suc k) past = drop-past ps k (omega arith)

pub length-removed : (ps : List ℕ) (k : ℕ) → k < length ps → length (remove ps k) + 1 ≡ length ps
length-removed [] k within = absurd (omega arith)
length-removed (p ∷ ps) zero within = omega arith
length-removed (p ∷ ps) (suc k) within = let h : length (remove ps k) + 1 ≡ length ps = length-removed ps k (omega arith) in (let f : suc (length (remove ps k)) + 1 ≡ suc (length ps) = omega arith in f)

-- ---- those that no reply came for

-- the command at a place has its last tick next
abbrev pub last_at : List Issued → ℕ → Bool
last_at cs p = option_map_or (λ c. is_last_tick c.standing) (slice_get cs p) false

sucs-either : (b : Bool) (p : ℕ) (ps : List ℕ) → cond b (suc p ∷ map suc ps) (map suc ps) ≡ map suc (cond b (p ∷ ps) ps)
sucs-either true p ps = refl
sucs-either false p ps = refl

filter-sucs : (f : ℕ → Bool) (ps : List ℕ) → filter f (map suc ps) ≡ map suc (filter (λ p. f (suc p)) ps)
filter-sucs f [] = refl
filter-sucs f (p ∷ ps) = ap (λ xs. cond (f (suc p)) (suc p ∷ xs) xs) (filter-sucs f ps) ∙ sucs-either (f (suc p)) p (filter (λ q. f (suc q)) ps)

numbers-from : (n : ℕ) (ps : List ℕ) → map (λ p. n + 1 + p) ps ≡ map (λ p. n + p) (map suc ps)
numbers-from n [] = refl
numbers-from n (p ∷ ps) = (let f : n + 1 + p ≡ n + suc p = omega arith in ap (λ x. x ∷ map (λ q. n + 1 + q) ps) f) ∙ ap (λ xs. (n + suc p) ∷ xs) (numbers-from n ps)

gone-either : (last out : Bool) (f : ℕ → Bool) (n : ℕ) (ps : List ℕ) → (out ≡ false → last ≡ false) → f 0 ≡ last →
    cond last (n ∷ map (λ p. n + p) (map suc (filter (λ p. f (suc p)) ps))) (map (λ p. n + p) (map suc (filter (λ p. f (suc p)) ps))) ≡ map (λ p. n + p) (filter f (cond out (0 ∷ map suc ps) (map suc ps)))
gone-either true true f n ps only e =
    (let g : n ≡ n + 0 = omega arith in ap (λ x. x ∷ map (λ p. n + p) (map suc (filter (λ p. f (suc p)) ps))) g)
    ∙ ap (λ xs. (n + 0) ∷ map (λ p. n + p) xs) (sym (filter-sucs f ps))
    ∙ ap (λ (b : Bool). map (λ p. n + p) (cond b (0 ∷ filter f (map suc ps)) (filter f (map suc ps)))) (sym e)
gone-either false true f n ps only e =
    ap (map (λ p. n + p)) (sym (filter-sucs f ps)) ∙ ap (λ (b : Bool). map (λ p. n + p) (cond b (0 ∷ filter f (map suc ps)) (filter f (map suc ps)))) (sym e)
gone-either true false f n ps only e = absurd (let g : true ≡ false = only refl in let h : ⊥ = cc in h)
gone-either false false f n ps only e = ap (map (λ p. n + p)) (sym (filter-sucs f ps))

gone_from : (n : ℕ) (cs : List Issued) → unanswered_from n cs ≡ map (λ p. n + p) (filter (last_at cs) (places out_now cs))
gone_from n [] = refl
gone_from n (c ∷ cs) =
    ap (λ xs. cond (is_last_tick c.standing) (n ∷ xs) xs) (gone_from (n + 1) cs ∙ numbers-from n (filter (last_at cs) (places out_now cs)))
    ∙ gone-either (is_last_tick c.standing) (is_out c.standing) (last_at (c ∷ cs)) n (places out_now cs) (not_last c.standing) refl

one-more : (ps : List ℕ) → map (λ p. 1 + p) ps ≡ map (λ p. p + 1) ps
one-more [] = refl
one-more (p ∷ ps) = (let f : 1 + p ≡ p + 1 = omega arith in ap (λ x. x ∷ map (λ q. 1 + q) ps) f) ∙ ap (λ xs. (p + 1) ∷ xs) (one-more ps)

-- they are those of the commands that are out whose last tick is next
pub gone_out : (cs : List Issued) → unanswered_from 1 cs ≡ map (λ p. p + 1) (filter (last_at cs) (places out_now cs))
gone_out cs = gone_from 1 cs ∙ one-more (filter (last_at cs) (places out_now cs))

-- one place more that was looked at
more-first : (b : Bool) (p : ℕ) → map (λ x. x + 1) (cond b (p ∷ []) []) ≡ cond b ((p + 1) ∷ []) []
more-first true p = refl
more-first false p = refl

more-after : (d b : Bool) (q p : ℕ) (xs ys : List ℕ) → map (λ x. x + 1) ys ≡ cond b (map (λ x. x + 1) xs ++ (p + 1) ∷ []) (map (λ x. x + 1) xs) →
    map (λ x. x + 1) (cond d (q ∷ ys) ys) ≡ cond b (map (λ x. x + 1) (cond d (q ∷ xs) xs) ++ (p + 1) ∷ []) (map (λ x. x + 1) (cond d (q ∷ xs) xs))
more-after true true q p xs ys e = ap (λ zs. (q + 1) ∷ zs) e
more-after true false q p xs ys e = ap (λ zs. (q + 1) ∷ zs) e
more-after false b q p xs ys e = e

gone-next : (f : ℕ → Bool) (ps : List ℕ) (k p : ℕ) (b : Bool) → slice_get ps k ≡ Some p → f p ≡ b →
    map (λ x. x + 1) (filter f (take (suc k) ps)) ≡ cond b (map (λ x. x + 1) (filter f (take k ps)) ++ (p + 1) ∷ []) (map (λ x. x + 1) (filter f (take k ps)))
gone-next f [] k p b at e = absurd (let f : ⊥ = cc in f)
gone-next f (q ∷ ps) zero p b at e =
    let same : q ≡ p = cc in
    ap (λ x. map (λ y. y + 1) (cond (f x) (x ∷ []) [])) same ∙ ap (λ c. map (λ y. y + 1) (cond c (p ∷ []) [])) e ∙ more-first b p
gone-next f (q ∷ ps) (suc k) p b at e = more-after (f q) b q p (filter f (take k ps)) (filter f (take (suc k) ps)) (gone-next f ps k p b at e)

pub gone-more : (f : ℕ → Bool) (ps : List ℕ) (k p : ℕ) (b : Bool) → slice_get ps k ≡ Some p → f p ≡ b →
    map (λ x. x + 1) (filter f (take (k + 1) ps)) ≡ cond b (map (λ x. x + 1) (filter f (take k ps)) ++ (p + 1) ∷ []) (map (λ x. x + 1) (filter f (take k ps)))
gone-more f ps k p b at e = (let more : k + 1 ≡ suc k = omega arith in ap (λ n. map (λ x. x + 1) (filter f (take n ps))) more) ∙ gone-next f ps k p b at e

-- ---- the first of the places that passes, as more were looked at

pub find-next : (f : ℕ → Bool) (ps : List ℕ) (k p : ℕ) → slice_get ps k ≡ Some p → f p ≡ true → find f (drop k ps) ≡ Some p
find-next f [] k p at e = absurd (let g : ⊥ = cc in g)
find-next f (q ∷ ps) zero p at e = let same : q ≡ p = cc in ap (λ x. cond (f x) (Some x) (find f ps)) same ∙ ap (λ b. cond b (Some p) (find f ps)) e
find-next f (q ∷ ps) (suc k) p at e = find-next f ps k p at e

find-past : (f : ℕ → Bool) (ps : List ℕ) (k p : ℕ) → slice_get ps k ≡ Some p → f p ≡ false → find f (drop (suc k) ps) ≡ find f (drop k ps)
find-past f [] k p at e = absurd (let g : ⊥ = cc in g)
find-past f (q ∷ ps) zero p at e = let same : q ≡ p = cc in sym (ap (λ x. cond (f x) (Some q) (find f ps)) same ∙ ap (λ b. cond b (Some q) (find f ps)) e)
find-past f (q ∷ ps) (suc k) p at e = find-past f ps k p at e

pub find-skip : (f : ℕ → Bool) (ps : List ℕ) (k p : ℕ) → slice_get ps k ≡ Some p → f p ≡ false → find f (drop (k + 1) ps) ≡ find f (drop k ps)
find-skip f ps k p at e = (let more : k + 1 ≡ suc k = omega arith in ap (λ n. find f (drop n ps)) more) ∙ find-past f ps k p at e

-- ---- none is out

is-some : (n : ℕ) → (suc n == 0) ≡ false
is-some n = grind (arith, nat_tests)

first-below : (n : ℕ) → nat_lt 0 (suc n) ≡ true
first-below n = grind (arith, nat_tests)

pub some-left : (n : ℕ) → not (n == 0) ≡ nat_lt 0 n
some-left zero = refl
some-left (suc n) = ap not (is-some n) ∙ sym (first-below n)

none-left : (ps : List ℕ) → not (length ps == 0) ≡ false → ps ≡ []
none-left [] none = refl
none-left (p ∷ ps) none = absurd (let some : true ≡ false = sym (ap not (is-some (length ps))) ∙ none in let f : ⊥ = cc in f)

pub none-ticked : (cs : List Issued) (q : Queue) → IsQueue cs q → not (length q.out.items == 0) ≡ false → all_ticked cs ≡ cs
none-ticked cs q is none = sym (tick_out cs) ∙ ap (λ ps. tick_places ps cs) (sym is.out ∙ none-left q.out.items none)

pub none-gone : (cs : List Issued) (q : Queue) → IsQueue cs q → not (length q.out.items == 0) ≡ false → unanswered_from 1 cs ≡ []
none-gone cs q is none = gone_out cs ∙ ap (λ ps. map (λ p. p + 1) (filter (last_at cs) ps)) (sym is.out ∙ none-left q.out.items none)
