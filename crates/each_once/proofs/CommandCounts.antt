-- Counting commands that pass a test: one command more, one that stands otherwise, and other commands in their places.
use Rattle.std.proofs.Common.{◌≡◌, ◌∙◌, ℕ, zero, suc, ◌+◌, ◌≤◌, Bool, true, false, ◌&&◌, cond, List, [], ◌∷◌, ◌++◌, length, Some, refl, sym, ap, arith}
use Rattle.std.specs.Prelude.{slice_get, count_by}
use Rattle.std.specs.List.{filter}
use Rattle.std.proofs.lemmas.Bool.{and_parts}
use Rattle.std.proofs.lemmas.List.Sums.{sum_by-cons, sum_by-append, length-filter}
use Rattle.std.proofs.lemmas.Option.{same_Some}
use Rattle.df1_node.specs.Initiator.{Issued, Standing, is_out, restated, count_out}
use Rattle.each_once.proofs.HandedOut.{bodies_of}

-- how many of the commands that pass a test stand so
abbrev pub count_mine : (List ℕ → Bool) → (Standing → Bool) → List Issued → ℕ
count_mine mine stands issued = count_by (λ c. mine c.body && stands c.standing) issued

abbrev pub one_if : Bool → ℕ
one_if b = cond b 1 0

pub none-if : (b t : Bool) → t ≡ false → one_if (b && t) ≡ 0
none-if true t is = ap one_if is
none-if false t is = refl

pub same-if : (b t : Bool) → t ≡ true → one_if (b && t) ≡ one_if b
same-if true t is = ap one_if is
same-if false t is = refl

pub other-if : (b t : Bool) → b ≡ false → one_if (b && t) ≡ 0
other-if true t is = absurd cc
other-if false t is = refl

pub and-same : (b x y : Bool) → (b ≡ true → x ≡ y) → (b && x) ≡ (b && y)
and-same true x y same = same refl
and-same false x y same = refl

-- a test of commands that pass another
abbrev pub both_of : (List ℕ → Bool) → (Standing → Bool) → Issued → Bool
both_of mine stands c = mine c.body && stands c.standing

abbrev pub out_now : Issued → Bool
out_now c = is_out c.standing

count-cons : (t : Issued → Bool) (c : Issued) (cs : List Issued) → count_by t (c ∷ cs) ≡ one_if (t c) + count_by t cs
count-cons t c cs = sum_by-cons (λ (x : Issued). cond (t x) 1 0) c cs

pub count-restated : (t : Issued → Bool) (cs : List Issued) (p : ℕ) (c : Issued) (s : Standing) → slice_get cs p ≡ Some c → let now : Issued = record c { standing = s } in count_by t (restated cs p s) + one_if (t c) ≡ count_by t cs + one_if (t now)
count-restated t [] p c s at = absurd cc
count-restated t (d ∷ cs) zero c s at =
    let now = count-cons t (record d { standing = s }) cs in
    let was = count-cons t d cs in
    let is = same_Some d c at in
    let same = ap (λ (x : Issued). one_if (t x)) is in
    let same_now = ap (λ (x : Issued). let y : Issued = record x { standing = s } in one_if (t y)) is in
    omega (arith, now, was, same, same_now)
count-restated t (d ∷ cs) (suc p) c s at =
    let now = count-cons t d (restated cs p s) in
    let was = count-cons t d cs in
    let later = count-restated t cs p c s at in
    omega (arith, now, was, later)

pub count-more : (t : Issued → Bool) (cs : List Issued) (c : Issued) → count_by t (cs ++ c ∷ []) ≡ count_by t cs + one_if (t c)
count-more t cs c = sum_by-append (λ (x : Issued). cond (t x) 1 0) cs (c ∷ []) ∙ omega arith

pub count-same : (t : Issued → Bool) (cs ds : List Issued) → length ds ≡ length cs → ((p : ℕ) (c d : Issued) → slice_get cs p ≡ Some c → slice_get ds p ≡ Some d → t d ≡ t c) → count_by t ds ≡ count_by t cs
count-same t [] [] same each = refl
count-same t [] (d ∷ ds) same each = absurd (omega arith)
count-same t (c ∷ cs) [] same each = absurd (omega arith)
count-same t (c ∷ cs) (d ∷ ds) same each =
    let now = count-cons t d ds in
    let was = count-cons t c cs in
    let here = ap one_if (each 0 c d refl refl) in
    let later = count-same t cs ds (omega (arith, same)) (λ p x y at-x at-y. each (suc p) x y at-x at-y) in
    omega (arith, now, was, here, later)

pub count-none : (t : Issued → Bool) (cs : List Issued) → ((p : ℕ) (c : Issued) → slice_get cs p ≡ Some c → t c ≡ false) → count_by t cs ≡ 0
count-none t [] none = refl
count-none t (c ∷ cs) none =
    let all = count-cons t c cs in
    let here = ap one_if (none 0 c refl) in
    let later = count-none t cs (λ p d at. none (suc p) d at) in
    omega (arith, all, here, later)

-- where each that passes one test passes another, no more pass the one
pub count-fewer : (t u : Issued → Bool) (cs ds : List Issued) → length ds ≡ length cs → ((p : ℕ) (c d : Issued) → slice_get cs p ≡ Some c → slice_get ds p ≡ Some d → t d ≡ true → u c ≡ true) → count_by t ds ≤ count_by u cs
count-fewer t u [] [] same each = omega arith
count-fewer t u [] (d ∷ ds) same each = absurd (omega arith)
count-fewer t u (c ∷ cs) [] same each = absurd (omega arith)
count-fewer t u (c ∷ cs) (d ∷ ds) same each =
    let now = count-cons t d ds in
    let was = count-cons u c cs in
    let here = at-most (t d) (u c) (each 0 c d refl refl) in
    let later = count-fewer t u cs ds (omega (arith, same)) (λ p x y at-x at-y. each (suc p) x y at-x at-y) in
    omega (arith, now, was, here, later)
  where
    at-most : (a b : Bool) → (a ≡ true → b ≡ true) → one_if a ≤ one_if b
    at-most true b so = let one = ap one_if (so refl) in omega (arith, one)
    at-most false b so = omega arith

-- of those that pass the test no more are out than in all
pub mine-out : (mine : List ℕ → Bool) (cs : List Issued) → count_mine mine is_out cs ≤ count_out cs
mine-out mine cs = count-fewer (both_of mine is_out) out_now cs cs refl (λ p c d at-c at-d both. let same : d ≡ c = same_Some d c (sym at-d ∙ at-c) in sym (ap (λ (x : Issued). is_out x.standing) same) ∙ (and_parts (mine d.body) (is_out d.standing) both).1)

-- as many pass the test as bodies do
pub count-bodies : (mine : List ℕ → Bool) (cs : List Issued) → count_by (λ c. mine c.body) cs ≡ length (filter mine (bodies_of cs))
count-bodies mine cs = counted-bodies mine cs ∙ sym (length-filter mine (bodies_of cs))
  where
    counted-bodies : (mine : List ℕ → Bool) (cs : List Issued) → count_by (λ c. mine c.body) cs ≡ count_by mine (bodies_of cs)
    counted-bodies mine [] = refl
    counted-bodies mine (c ∷ cs) =
        let now = count-cons (λ (x : Issued). mine x.body) c cs in
        let bodies = sum_by-cons (λ (b : List ℕ). cond (mine b) 1 0) c.body (bodies_of cs) in
        let later = counted-bodies mine cs in
        omega (arith, now, bodies, later)
