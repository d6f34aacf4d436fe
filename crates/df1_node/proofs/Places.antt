-- The places of the commands that pass a test, as commands are added and stand otherwise.
use Rattle.std.proofs.Common.{◌≡◌, ◌<◌, ℕ, suc, zero, ◌+◌, ◌∙◌, Bool, Option, true, false, ◌&&◌, cond, List, [], ◌∷◌, ◌++◌, map, length, find, count_by, position, remove, Some, None, refl, sym, ap, subst, arith, slice_get, nat_lt}
use Rattle.std.specs.Option.{option_map, option_map_or}
use Rattle.std.proofs.lemmas.List.{map_push}
use Rattle.std.proofs.lemmas.List.Sums.{sum_by-cons}
use Rattle.std.proofs.lemmas.Bool.Decides.{nat_tests}
use Rattle.df1_node.specs.Initiator.{Standing, Issued, restated}
use Rattle.df1_node.specs.Queue.{places, inserted}
use Rattle.df1_node.specs.HostLaws.{position-cons}

-- what holds of the command at a place, where there is one
abbrev pub At : List Issued → ℕ → (Issued → Type 0) → Type 0
At cs p P = (c : Issued) → slice_get cs p ≡ Some c → P c

pub At-known : (cs : List Issued) (p : ℕ) (r : Issued) (P : Issued → Type 0) → slice_get cs p ≡ Some r → P r → At cs p P
At-known cs p r P at is c e = subst P (let f : r ≡ c = cc in f) is

pub At-is : (cs : List Issued) (p : ℕ) (r : Issued) (P : Issued → Type 0) → slice_get cs p ≡ Some r → At cs p P → P r
At-is cs p r P at is = is r at

pub within-at : (cs : List Issued) (p : ℕ) (r : Issued) → slice_get cs p ≡ Some r → p < length cs
within-at [] p r at = absurd (let f : ⊥ = cc in f)
within-at (x ∷ cs) zero r at = omega arith
within-at (x ∷ cs) (suc p) r at = let h : p < length cs = within-at cs p r at in omega arith

-- ---- places moved up by one

get-sucs : (ps : List ℕ) (k : ℕ) → slice_get (map suc ps) k ≡ option_map suc (slice_get ps k)
get-sucs [] k = refl
get-sucs (p ∷ ps) zero = refl
get-sucs (p ∷ ps) (suc k) = get-sucs ps k

pub some-suc : (o : Option ℕ) (q : ℕ) → option_map suc o ≡ Some (suc q) → o ≡ Some q
some-suc None q e = absurd (let f : ⊥ = cc in f)
some-suc (Some p) q e = ap Some (let f : suc p ≡ suc q = cc in let g : p ≡ q = omega arith in g)

pub no-zero : {P : Type 0} (o : Option ℕ) → option_map suc o ≡ Some 0 → P
no-zero None e = absurd (let f : ⊥ = cc in f)
no-zero (Some p) e = absurd (let f : suc p ≡ 0 = cc in let g : ⊥ = omega arith in g)

sucs-get : (ps : List ℕ) (k q : ℕ) → slice_get (map suc ps) k ≡ Some (suc q) → slice_get ps k ≡ Some q
sucs-get ps k q e = some-suc (slice_get ps k) q (sym (get-sucs ps k) ∙ e)

sucs-zero : {P : Type 0} (ps : List ℕ) (k : ℕ) → slice_get (map suc ps) k ≡ Some 0 → P
sucs-zero ps k e = no-zero (slice_get ps k) (sym (get-sucs ps k) ∙ e)

sucs-remove : (ps : List ℕ) (k : ℕ) → map suc (remove ps k) ≡ remove (map suc ps) k
sucs-remove [] zero = refl
sucs-remove [] (suc k) = refl
sucs-remove (p ∷ ps) zero = refl
sucs-remove (p ∷ ps) (suc k) = ap (λ xs. suc p ∷ xs) (sucs-remove ps k)

pub sucs-length : (ps : List ℕ) → length (map suc ps) ≡ length ps
sucs-length [] = refl
sucs-length (p ∷ ps) = ap suc (sucs-length ps)

-- ---- a place among others

zero-below : (p : ℕ) → nat_lt 0 (suc p) ≡ true
zero-below p = grind (arith, nat_tests)

none-below : (p : ℕ) → nat_lt (suc p) 0 ≡ false
none-below p = grind (arith, nat_tests)

below-sucs : (p q : ℕ) → nat_lt (suc p) (suc q) ≡ nat_lt p q
below-sucs p q = grind (arith, nat_tests)

inserted-zero : (ps : List ℕ) → inserted 0 (map suc ps) ≡ 0 ∷ map suc ps
inserted-zero [] = refl
inserted-zero (p ∷ ps) = ap (λ (b : Bool). cond b (0 ∷ suc p ∷ map suc ps) (suc p ∷ inserted 0 (map suc ps))) (zero-below p)

sucs-either : (b : Bool) (p q : ℕ) (ps qs : List ℕ) → map suc (cond b (p ∷ q ∷ ps) (q ∷ qs)) ≡ cond b (suc p ∷ suc q ∷ map suc ps) (suc q ∷ map suc qs)
sucs-either true p q ps qs = refl
sucs-either false p q ps qs = refl

sucs-inserted : (p : ℕ) (ps : List ℕ) → map suc (inserted p ps) ≡ inserted (suc p) (map suc ps)
sucs-inserted p [] = refl
sucs-inserted p (q ∷ ps) =
    sucs-either (nat_lt p q) p q ps (inserted p ps)
    ∙ ap (λ xs. cond (nat_lt p q) (suc p ∷ suc q ∷ map suc ps) (suc q ∷ xs)) (sucs-inserted p ps)
    ∙ ap (λ (b : Bool). cond b (suc p ∷ suc q ∷ map suc ps) (suc q ∷ inserted (suc p) (map suc ps))) (sym (below-sucs p q))

length-either : (b : Bool) (p q : ℕ) (ps qs : List ℕ) → length qs ≡ length ps + 1 → length (cond b (p ∷ q ∷ ps) (q ∷ qs)) ≡ suc (length ps) + 1
length-either true p q ps qs e = omega arith
length-either false p q ps qs e = ap suc e ∙ (let f : suc (length ps + 1) ≡ suc (length ps) + 1 = omega arith in f)

pub length-inserted : (p : ℕ) (ps : List ℕ) → length (inserted p ps) ≡ length ps + 1
length-inserted p [] = refl
length-inserted p (q ∷ ps) = length-either (nat_lt p q) p q ps (inserted p ps) (length-inserted p ps)

inserted-after : (b : Bool) (p : ℕ) (ps : List ℕ) → cond b (0 ∷ map suc (inserted p ps)) (map suc (inserted p ps)) ≡ inserted (suc p) (cond b (0 ∷ map suc ps) (map suc ps))
inserted-after true p ps =
    ap (λ xs. 0 ∷ xs) (sucs-inserted p ps)
    ∙ sym (ap (λ (b : Bool). cond b (suc p ∷ 0 ∷ map suc ps) (0 ∷ inserted (suc p) (map suc ps))) (none-below p))
inserted-after false p ps = sucs-inserted p ps

-- ---- the places, step by step

either-count : (b : Bool) (ps : List ℕ) (n : ℕ) → n ≡ length ps → cond b 1 0 + n ≡ length (cond b (0 ∷ map suc ps) (map suc ps))
either-count true ps n e = ap (λ m. 1 + m) (e ∙ sym (sucs-length ps)) ∙ (let f : 1 + length (map suc ps) ≡ suc (length (map suc ps)) = omega arith in f)
either-count false ps n e = (let f : 0 + n ≡ n = omega arith in f) ∙ e ∙ sym (sucs-length ps)

pub count-places : (t : Issued → Bool) (cs : List Issued) → count_by t cs ≡ length (places t cs)
count-places t [] = refl
count-places t (c ∷ cs) = sum_by-cons (λ x. cond (t x) 1 0) c cs ∙ either-count (t c) (places t cs) (count_by t cs) (count-places t cs)

-- a command more
push-either : (b d : Bool) (ps : List ℕ) (n : ℕ) →
    cond b (0 ∷ map suc (cond d (ps ++ n ∷ []) ps)) (map suc (cond d (ps ++ n ∷ []) ps)) ≡ cond d (cond b (0 ∷ map suc ps) (map suc ps) ++ suc n ∷ []) (cond b (0 ∷ map suc ps) (map suc ps))
push-either true true ps n = ap (λ xs. 0 ∷ xs) (map_push suc ps n)
push-either true false ps n = refl
push-either false true ps n = map_push suc ps n
push-either false false ps n = refl

pub places-push : (t : Issued → Bool) (cs : List Issued) (c : Issued) → places t (cs ++ c ∷ []) ≡ cond (t c) (places t cs ++ length cs ∷ []) (places t cs)
places-push t [] c = refl
places-push t (x ∷ cs) c = ap (λ ps. cond (t x) (0 ∷ map suc ps) (map suc ps)) (places-push t cs c) ∙ push-either (t x) (t c) (places t cs) (length cs)

-- a command that stands otherwise, and passes as before
pub places-same : (t : Issued → Bool) (cs : List Issued) (p : ℕ) (s : Standing) → At cs p (λ c. t (record c { standing = s }) ≡ t c) → places t (restated cs p s) ≡ places t cs
places-same t [] p s same = refl
places-same t (x ∷ cs) zero s same = ap (λ b. cond b (0 ∷ map suc (places t cs)) (map suc (places t cs))) (same x refl)
places-same t (x ∷ cs) (suc p) s same = ap (λ ps. cond (t x) (0 ∷ map suc ps) (map suc ps)) (places-same t cs p s same)

-- one that passes from now on
pub places-inserted : (t : Issued → Bool) (cs : List Issued) (p : ℕ) (s : Standing) → p < length cs → At cs p (λ c. t c ≡ false) → At cs p (λ c. t (record c { standing = s }) ≡ true) → places t (restated cs p s) ≡ inserted p (places t cs)
places-inserted t [] p s within before after = absurd (omega arith)
places-inserted t (x ∷ cs) zero s within before after =
    ap (λ (b : Bool). cond b (0 ∷ map suc (places t cs)) (map suc (places t cs))) (after x refl)
    ∙ sym (inserted-zero (places t cs))
    ∙ sym (ap (λ (b : Bool). inserted 0 (cond b (0 ∷ map suc (places t cs)) (map suc (places t cs)))) (before x refl))
places-inserted t (x ∷ cs) (suc p) s within before after =
    ap (λ ps. cond (t x) (0 ∷ map suc ps) (map suc ps)) (places-inserted t cs p s (omega arith) before after) ∙ inserted-after (t x) p (places t cs)

removed-first : (b : Bool) (ps : List ℕ) (k : ℕ) → slice_get (cond b (0 ∷ map suc ps) (map suc ps)) k ≡ Some 0 → map suc ps ≡ remove (cond b (0 ∷ map suc ps) (map suc ps)) k
removed-first true ps zero at = refl
removed-first true ps (suc k) at = sucs-zero ps k at
removed-first false ps k at = sucs-zero ps k at

removed-after : (b : Bool) (ps qs : List ℕ) (q k : ℕ) → slice_get (cond b (0 ∷ map suc ps) (map suc ps)) k ≡ Some (suc q) → ((j : ℕ) → slice_get ps j ≡ Some q → qs ≡ remove ps j) →
    cond b (0 ∷ map suc qs) (map suc qs) ≡ remove (cond b (0 ∷ map suc ps) (map suc ps)) k
removed-after true ps qs q zero at rest = absurd (let f : 0 ≡ suc q = cc in let g : ⊥ = omega arith in g)
removed-after true ps qs q (suc k) at rest = ap (λ xs. 0 ∷ xs) (ap (map suc) (rest k (sucs-get ps k q at)) ∙ sucs-remove ps k)
removed-after false ps qs q k at rest = ap (map suc) (rest k (sucs-get ps k q at)) ∙ sucs-remove ps k

-- one that passes no more
pub places-removed : (t : Issued → Bool) (cs : List Issued) (p k : ℕ) (s : Standing) → slice_get (places t cs) k ≡ Some p → At cs p (λ c. t (record c { standing = s }) ≡ false) → places t (restated cs p s) ≡ remove (places t cs) k
places-removed t [] p k s at after = absurd (let f : ⊥ = cc in f)
places-removed t (x ∷ cs) zero k s at after =
    ap (λ (b : Bool). cond b (0 ∷ map suc (places t cs)) (map suc (places t cs))) (after x refl) ∙ removed-first (t x) (places t cs) k at
places-removed t (x ∷ cs) (suc p) k s at after =
    removed-after (t x) (places t cs) (places t (restated cs p s)) p k at (λ j there. places-removed t cs p j s there after)

-- ---- what is at a place

passes-first : (t : Issued → Bool) (x : Issued) (cs : List Issued) (b : Bool) (ps : List ℕ) (k : ℕ) → t x ≡ b → slice_get (cond b (0 ∷ map suc ps) (map suc ps)) k ≡ Some 0 → t x ≡ true
passes-first t x cs true ps k e at = e
passes-first t x cs false ps k e at = sucs-zero ps k at

passes-after : {P : Type 0} (b : Bool) (ps : List ℕ) (q k : ℕ) → slice_get (cond b (0 ∷ map suc ps) (map suc ps)) k ≡ Some (suc q) → ((j : ℕ) → slice_get ps j ≡ Some q → P) → P
passes-after true ps q zero at rest = absurd (let f : 0 ≡ suc q = cc in let g : ⊥ = omega arith in g)
passes-after true ps q (suc k) at rest = rest k (sucs-get ps k q at)
passes-after false ps q k at rest = rest k (sucs-get ps k q at)

-- the command at one of the places passes
pub places-pass : (t : Issued → Bool) (cs : List Issued) (p k : ℕ) → slice_get (places t cs) k ≡ Some p → At cs p (λ c. t c ≡ true)
places-pass t [] p k at = absurd (let f : ⊥ = cc in f)
places-pass t (x ∷ cs) zero k at = λ c e. subst (λ y. t y ≡ true) (let f : x ≡ c = cc in f) (passes-first t x cs (t x) (places t cs) k refl at)
places-pass t (x ∷ cs) (suc p) k at = passes-after (t x) (places t cs) p k at (λ j there. places-pass t cs p j there)

-- and there is one
pub places-within : (t : Issued → Bool) (cs : List Issued) (p k : ℕ) → slice_get (places t cs) k ≡ Some p → p < length cs
places-within t [] p k at = absurd (let f : ⊥ = cc in f)
places-within t (x ∷ cs) zero k at = omega arith
places-within t (x ∷ cs) (suc p) k at = passes-after {P = suc p < suc (length cs)} (t x) (places t cs) p k at (λ j there. let h : p < length cs = places-within t cs p j there in omega arith)

-- ---- the first place

get-either : (b : Bool) (ps : List ℕ) → cond b (Some 0) (option_map suc (slice_get ps 0)) ≡ slice_get (cond b (0 ∷ map suc ps) (map suc ps)) 0
get-either true ps = refl
get-either false ps = sym (get-sucs ps 0)

pub position-first : (t : Issued → Bool) (cs : List Issued) → position t cs ≡ slice_get (places t cs) 0
position-first t [] = refl
position-first t (c ∷ cs) =
    position-cons t c cs ∙ ap (λ o. cond (t c) (Some 0) (option_map suc o)) (position-first t cs) ∙ get-either (t c) (places t cs)

-- two tests that are passed alike have one first place
pub position-alike : (t u : Issued → Bool) (cs : List Issued) → ((k : ℕ) → At cs k (λ c. t c ≡ u c)) → position t cs ≡ position u cs
position-alike t u [] alike = refl
position-alike t u (c ∷ cs) alike =
    position-cons t c cs
    ∙ ap (λ b. cond b (Some 0) (option_map suc (position t cs))) (alike 0 c refl)
    ∙ ap (λ o. cond (u c) (Some 0) (option_map suc o)) (position-alike t u cs (λ k. alike (suc k)))
    ∙ sym (position-cons u c cs)

narrow-first : (t u : Bool) (p : ℕ) (o q : Option ℕ) → cond t (Some 0) (option_map suc o) ≡ Some 0 → u ≡ true → cond u (Some 0) (option_map suc q) ≡ Some 0
narrow-first t u p o q e passes = ap (λ b. cond b (Some 0) (option_map suc q)) passes

narrow-after : (t u : Bool) (p : ℕ) (o q : Option ℕ) → cond t (Some 0) (option_map suc o) ≡ Some (suc p) → (u ≡ true → t ≡ true) → (o ≡ Some p → q ≡ Some p) → cond u (Some 0) (option_map suc q) ≡ Some (suc p)
narrow-after true u p o q e narrower rest = absurd (let f : 0 ≡ suc p = cc in let g : ⊥ = omega arith in g)
narrow-after false true p o q e narrower rest = absurd (let f : true ≡ false = sym (narrower refl) in let g : ⊥ = cc in g)
narrow-after false false p o q e narrower rest = ap (option_map suc) (rest (some-suc o p e))

-- the first that passes a test is the first that passes a narrower one, if it does
pub position-narrower : (t u : Issued → Bool) (cs : List Issued) (p : ℕ) → position t cs ≡ Some p → ((c : Issued) → u c ≡ true → t c ≡ true) → At cs p (λ c. u c ≡ true) → position u cs ≡ Some p
position-narrower t u [] p e narrower passes = e
position-narrower t u (c ∷ cs) zero e narrower passes =
    position-cons u c cs ∙ narrow-first (t c) (u c) 0 (position t cs) (position u cs) (sym (position-cons t c cs) ∙ e) (passes c refl)
position-narrower t u (c ∷ cs) (suc p) e narrower passes =
    position-cons u c cs
    ∙ narrow-after (t c) (u c) p (position t cs) (position u cs) (sym (position-cons t c cs) ∙ e) (narrower c) (λ there. position-narrower t u cs p there narrower passes)

-- ---- the first of the places at which more holds

found-suc : (b : Bool) (p : ℕ) (o : Option ℕ) → cond b (Some (suc p)) (option_map suc o) ≡ option_map suc (cond b (Some p) o)
found-suc true p o = refl
found-suc false p o = refl

find-sucs : (f : ℕ → Bool) (ps : List ℕ) → find f (map suc ps) ≡ option_map suc (find (λ p. f (suc p)) ps)
find-sucs f [] = refl
find-sucs f (p ∷ ps) = ap (λ o. cond (f (suc p)) (Some (suc p)) o) (find-sucs f ps) ∙ found-suc (f (suc p)) p (find (λ q. f (suc q)) ps)

find-either : (b d : Bool) (f : ℕ → Bool) (ps : List ℕ) → f 0 ≡ d → cond (b && d) (Some 0) (option_map suc (find (λ p. f (suc p)) ps)) ≡ find f (cond b (0 ∷ map suc ps) (map suc ps))
find-either true d f ps e = ap (λ x. cond x (Some 0) (option_map suc (find (λ p. f (suc p)) ps))) (sym e) ∙ ap (λ o. cond (f 0) (Some 0) o) (sym (find-sucs f ps))
find-either false d f ps e = sym (find-sucs f ps)

pub position-find : (t u : Issued → Bool) (cs : List Issued) → position (λ c. t c && u c) cs ≡ find (λ p. option_map_or u (slice_get cs p) false) (places t cs)
position-find t u [] = refl
position-find t u (c ∷ cs) =
    position-cons (λ x. t x && u x) c cs
    ∙ ap (λ o. cond (t c && u c) (Some 0) (option_map suc o)) (position-find t u cs)
    ∙ find-either (t c) (u c) (λ p. option_map_or u (slice_get (c ∷ cs) p) false) (places t cs) refl

-- ---- all commands at once

pub places-map : (f : Issued → Issued) (t u : Issued → Bool) (cs : List Issued) → ((c : Issued) → t (f c) ≡ u c) → places t (map f cs) ≡ places u cs
places-map f t u [] same = refl
places-map f t u (c ∷ cs) same =
    ap (λ b. cond b (0 ∷ map suc (places t (map f cs))) (map suc (places t (map f cs)))) (same c) ∙ ap (λ ps. cond (u c) (0 ∷ map suc ps) (map suc ps)) (places-map f t u cs same)

pub places-none : (cs : List Issued) → places (λ c. false) cs ≡ []
places-none [] = refl
places-none (c ∷ cs) = ap (map suc) (places-none cs)

-- ---- counts

pub count-same : (t : Issued → Bool) (cs : List Issued) (p : ℕ) (s : Standing) → At cs p (λ c. t (record c { standing = s }) ≡ t c) → count_by t (restated cs p s) ≡ count_by t cs
count-same t cs p s same = count-places t (restated cs p s) ∙ ap length (places-same t cs p s same) ∙ sym (count-places t cs)

pub count-gains : (t : Issued → Bool) (cs : List Issued) (p : ℕ) (s : Standing) → p < length cs → At cs p (λ c. t c ≡ false) → At cs p (λ c. t (record c { standing = s }) ≡ true) → count_by t (restated cs p s) ≡ count_by t cs + 1
count-gains t cs p s within before after =
    count-places t (restated cs p s) ∙ ap length (places-inserted t cs p s within before after) ∙ length-inserted p (places t cs) ∙ ap (λ n. n + 1) (sym (count-places t cs))

pub count-loses : (t : Issued → Bool) (cs : List Issued) (p : ℕ) (s : Standing) → p < length cs → At cs p (λ c. t c ≡ true) → At cs p (λ c. t (record c { standing = s }) ≡ false) → count_by t (restated cs p s) + 1 ≡ count_by t cs
count-loses t [] p s within before after = absurd (omega arith)
count-loses t (x ∷ cs) zero s within before after =
    ap (λ n. n + 1) (sum_by-cons (λ c. cond (t c) 1 0) (record x { standing = s }) cs ∙ ap (λ (b : Bool). cond b 1 0 + count_by t cs) (after x refl))
    ∙ (let f : 0 + count_by t cs + 1 ≡ 1 + count_by t cs = omega arith in f)
    ∙ sym (sum_by-cons (λ c. cond (t c) 1 0) x cs ∙ ap (λ (b : Bool). cond b 1 0 + count_by t cs) (before x refl))
count-loses t (x ∷ cs) (suc p) s within before after =
    let rest : count_by t (restated cs p s) + 1 ≡ count_by t cs = count-loses t cs p s (omega arith) before after in
    ap (λ n. n + 1) (sum_by-cons (λ c. cond (t c) 1 0) x (restated cs p s))
    ∙ (let f : cond (t x) 1 0 + count_by t (restated cs p s) + 1 ≡ cond (t x) 1 0 + count_by t cs = omega arith in f)
    ∙ sym (sum_by-cons (λ c. cond (t c) 1 0) x cs)

pub count-map : (f : Issued → Issued) (t u : Issued → Bool) (cs : List Issued) → ((c : Issued) → t (f c) ≡ u c) → count_by t (map f cs) ≡ count_by u cs
count-map f t u cs same = count-places t (map f cs) ∙ ap length (places-map f t u cs same) ∙ sym (count-places u cs)

pub length-restated : (cs : List Issued) (p : ℕ) (s : Standing) → length (restated cs p s) ≡ length cs
length-restated [] p s = refl
length-restated (c ∷ cs) zero s = refl
length-restated (c ∷ cs) (suc p) s = ap suc (length-restated cs p s)
