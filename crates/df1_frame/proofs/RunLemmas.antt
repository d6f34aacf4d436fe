-- What a run of bytes before a DLE leads to.
use Rattle.std.proofs.Common.{◌≡◌, ◌≢◌, ℕ, ◌+◌, ◌≤◌, ◌<◌, suc, true, List, [], ◌∷◌, ◌++◌, length, take, drop, map, refl, sym, ap, ◌∙◌, inl, inr, arith, append_assoc, length-append, eqb, not}
use Rattle.std.specs.List.{fold, AllByRecursion}
use Rattle.std.proofs.lemmas.List.{append-nil, take-append-drop, length-take-le, length-drop}
use Rattle.std.proofs.lemmas.List.Sums.{fold-append, prefix_len-le-length}
use Rattle.std.proofs.lemmas.Bool.{cases_Bool, eqb-false, lt-ltb, le-ltb}
use Rattle.df1_check.specs.Checks.{Taken, take_byte}
use Rattle.df1_frame.specs.Line.{Grammar, ReadOff}
use Rattle.df1_frame.specs.Gathered.{Gathered, gather}
use Rattle.df1_frame.specs.Runs.{steps, plain_len}
use Rattle.df1_frame.proofs.LineLemmas.{Machine, Works, stands-next}

-- none of the bytes is DLE
abbrev pub ArePlain : List ℕ → Type 0
ArePlain = AllByRecursion (λ b. b ≢ 16)

take-one-more : (n b : ℕ) (bytes : List ℕ) → take (1 + n) (b ∷ bytes) ≡ b ∷ take n bytes
take-one-more n b bytes = let e : 1 + n ≡ suc n = omega arith in ap (λ m. take m (b ∷ bytes)) e

pub plain-front : (bytes : List ℕ) → ArePlain (take (plain_len bytes) bytes)
plain-front [] = tt
plain-front (b ∷ bytes) = elim (cases_Bool (eqb b 16)) [
  | inl e ↦ rw e tt
  | inr e ↦ rw (e, take-one-more (plain_len bytes) b bytes) (eqb-false b 16 e, plain-front bytes)
]

-- ---- of any machine

pub stands-steps : (G : Grammar) (M : Machine G) (w : Works G M) (more l : List ℕ) (v : M.Value) → ReadOff G l M.value v → ReadOff G (l ++ more) M.value (steps M.next v more).0
stands-steps G M w [] l v r = rw append-nil r
stands-steps G M w (b ∷ more) l v r = rw (append_assoc l (b ∷ []) more) at (stands-steps G M w more (l ++ b ∷ []) (M.next v b).0 (stands-next G M w b l v r))

-- ---- a body

one-fits : (N : ℕ) (so_far : Gathered) (b : ℕ) → length so_far.bytes < N → gather N so_far b ≡ record { bytes = so_far.bytes ++ b ∷ []; long = so_far.long; running = take_byte so_far.running b }
one-fits N so_far b room = rw (lt-ltb (length so_far.bytes) N room) refl

pub gather-fits : (N : ℕ) (so_far : Gathered) (bytes : List ℕ) → length so_far.bytes + length bytes ≤ N
    → fold (gather N) so_far bytes ≡ record { bytes = so_far.bytes ++ bytes; long = so_far.long; running = fold take_byte so_far.running bytes }
gather-fits N so_far [] fits = rw (append-nil so_far.bytes) refl
gather-fits N so_far (b ∷ bytes) fits =
    let after : Gathered = record { bytes = so_far.bytes ++ b ∷ []; long = so_far.long; running = take_byte so_far.running b } in
    ap (λ (g : Gathered). fold (gather N) g bytes) (one-fits N so_far b (omega arith))
    ∙ gather-fits N after bytes (omega (arith, length-append so_far.bytes (b ∷ [])))
    ∙ ap (λ (l : List ℕ). let g : Gathered = record { bytes = l; long = so_far.long; running = fold take_byte (take_byte so_far.running b) bytes } in g) (append_assoc so_far.bytes (b ∷ []) bytes)

one-over : (N : ℕ) (so_far : Gathered) (b : ℕ) → N ≤ length so_far.bytes → gather N so_far b ≡ record { bytes = so_far.bytes; long = true; running = take_byte so_far.running b }
one-over N so_far b full = rw (le-ltb (length so_far.bytes) N full) refl

gather-full : (N : ℕ) (so_far : Gathered) (b : ℕ) (bytes : List ℕ) → N ≤ length so_far.bytes
    → fold (gather N) so_far (b ∷ bytes) ≡ record { bytes = so_far.bytes; long = true; running = fold take_byte so_far.running (b ∷ bytes) }
gather-full N so_far b [] full = one-over N so_far b full
gather-full N so_far b (c ∷ bytes) full =
    let after : Gathered = record { bytes = so_far.bytes; long = true; running = take_byte so_far.running b } in
    ap (λ (g : Gathered). fold (gather N) g (c ∷ bytes)) (one-over N so_far b full) ∙ gather-full N after c bytes full

gather-more : (N : ℕ) (so_far : Gathered) (bytes : List ℕ) → N ≤ length so_far.bytes → 0 < length bytes
    → fold (gather N) so_far bytes ≡ record { bytes = so_far.bytes; long = true; running = fold take_byte so_far.running bytes }
gather-more N so_far [] full some = absurd (omega arith)
gather-more N so_far (b ∷ bytes) full some = gather-full N so_far b bytes full

pub gather-over : (N room : ℕ) (so_far : Gathered) (bytes : List ℕ) → room + length so_far.bytes ≡ N → room < length bytes
    → fold (gather N) so_far bytes ≡ record { bytes = so_far.bytes ++ take room bytes; long = true; running = fold take_byte so_far.running bytes }
gather-over N room so_far bytes full over =
    let front = take room bytes in
    let rest = drop room bytes in
    let fits : length front ≡ room = length-take-le room bytes (omega arith) in
    let after : Gathered = record { bytes = so_far.bytes ++ front; long = so_far.long; running = fold take_byte so_far.running front } in
    let whole : front ++ rest ≡ bytes = take-append-drop room bytes in
    ap (λ (l : List ℕ). fold (gather N) so_far l) (sym whole)
    ∙ fold-append (gather N) so_far front rest
    ∙ ap (λ (g : Gathered). fold (gather N) g rest) (gather-fits N so_far front (omega arith))
    ∙ gather-more N after rest (omega (arith, length-append so_far.bytes front)) (omega (arith, length-drop room bytes))
    ∙ ap (λ (r : Taken). let g : Gathered = record { bytes = so_far.bytes ++ front; long = true; running = r } in g) (sym (fold-append take_byte so_far.running front rest) ∙ ap (λ (l : List ℕ). fold take_byte so_far.running l) whole)

-- ---- a run, where it is said of one byte more

-- one byte, and then the others
on : {D A : Type 0} (next : D → ℕ → D × A) (d d' : D) (a : A) (b : ℕ) (bytes : List ℕ) (last : D) (all : List A) → next d b ≡ (d', a) → steps next d' bytes ≡ (last, all) → steps next d (b ∷ bytes) ≡ (last, a ∷ all)
on {D} {A} next d d' a b bytes last all one rest =
    ap (λ (to : D × A). let whole : D × List A = ((steps next to.0 bytes).0, to.1 ∷ (steps next to.0 bytes).1) in whole) one
    ∙ ap (λ (to : D × List A). let whole : D × List A = (to.0, a ∷ to.1) in whole) rest

steps-inside : {D A : Type 0} (next : D → ℕ → D × A) (say : ℕ → A) (N : ℕ) (inside : Gathered → D) → ((so_far : Gathered) (b : ℕ) → b ≢ 16 → next (inside so_far) b ≡ (inside (gather N so_far b), say b))
    → (so_far : Gathered) (bytes : List ℕ) → ArePlain bytes → steps next (inside so_far) bytes ≡ (inside (fold (gather N) so_far bytes), map say bytes)
steps-inside next say N inside each so_far [] plain = refl
steps-inside next say N inside each so_far (b ∷ bytes) plain =
    on next (inside so_far) (inside (gather N so_far b)) (say b) b bytes _ _ (each so_far b plain.0) (steps-inside next say N inside each (gather N so_far b) bytes plain.1)

steps-outside : {D A : Type 0} (next : D → ℕ → D × A) (say : ℕ → A) (d : D) → ((b : ℕ) → b ≢ 16 → next d b ≡ (d, say b)) → (bytes : List ℕ) → ArePlain bytes → steps next d bytes ≡ (d, map say bytes)
steps-outside next say d each [] plain = refl
steps-outside next say d each (b ∷ bytes) plain = on next d d (say b) b bytes _ _ (each b plain.0) (steps-outside next say d each bytes plain.1)

steps-ended : {D A : Type 0} (next : D → ℕ → D × A) (say : ℕ → A) (e d : D) → ((b : ℕ) → b ≢ 16 → next e b ≡ (d, say b)) → ((b : ℕ) → b ≢ 16 → next d b ≡ (d, say b))
    → (bytes : List ℕ) → ArePlain bytes → 0 < length bytes → steps next e bytes ≡ (d, map say bytes)
steps-ended next say e d first each [] plain some = absurd (omega arith)
steps-ended next say e d first each (b ∷ bytes) plain some = on next e d (say b) b bytes _ _ (first b plain.0) (steps-outside next say d each bytes plain.1)

said-ended : {D A : Type 0} (next : D → ℕ → D × A) (say : ℕ → A) (e d : D) → ((b : ℕ) → b ≢ 16 → next e b ≡ (d, say b)) → ((b : ℕ) → b ≢ 16 → next d b ≡ (d, say b))
    → (bytes : List ℕ) → ArePlain bytes → (steps next e bytes).1 ≡ map say bytes
said-ended next say e d first each [] plain = refl
said-ended {D} {A} next say e d first each (b ∷ bytes) plain = ap (λ (a : D × List A). a.1) (steps-ended next say e d first each (b ∷ bytes) plain (omega arith))

-- the value after a run, and what comes of each of its bytes
pub record Ran {D A : Type 0} (next : D → ℕ → D × A) (say : ℕ → A) (d d' : D) (run : List ℕ) : Type 0 where
  pub value : d' ≡ (steps next d run).0
  pub said : (steps next d run).1 ≡ map say run

plain-run : (bytes : List ℕ) (n : ℕ) → n ≡ plain_len bytes → ArePlain (take n bytes)
plain-run bytes n count = rw count (plain-front bytes)

pub plain-most : (bytes : List ℕ) → plain_len bytes ≤ length bytes
plain-most bytes = prefix_len-le-length (λ (b : ℕ). not (eqb b 16)) bytes

ran-of : {D A : Type 0} (next : D → ℕ → D × A) (say : ℕ → A) (d d' : D) (run : List ℕ) → steps next d run ≡ (d', map say run) → Ran next say d d' run
ran-of {D} {A} next say d d' run all = record { value = sym (ap (λ (a : D × List A). a.0) all); said = ap (λ (a : D × List A). a.1) all }

pub ran-inside : {D A : Type 0} (next : D → ℕ → D × A) (say : ℕ → A) (N : ℕ) (inside : Gathered → D) → ((so_far : Gathered) (b : ℕ) → b ≢ 16 → next (inside so_far) b ≡ (inside (gather N so_far b), say b))
    → (so_far so_far' : Gathered) (n : ℕ) (bytes : List ℕ) → n ≡ plain_len bytes → so_far' ≡ fold (gather N) so_far (take n bytes) → Ran next say (inside so_far) (inside so_far') (take n bytes)
ran-inside next say N inside each so_far so_far' n bytes count gathered =
    rw gathered (ran-of next say (inside so_far) (inside (fold (gather N) so_far (take n bytes))) (take n bytes) (steps-inside next say N inside each so_far (take n bytes) (plain-run bytes n count)))

pub ran-outside : {D A : Type 0} (next : D → ℕ → D × A) (say : ℕ → A) (d : D) → ((b : ℕ) → b ≢ 16 → next d b ≡ (d, say b)) → (n : ℕ) (bytes : List ℕ) → n ≡ plain_len bytes → Ran next say d d (take n bytes)
ran-outside next say d each n bytes count = ran-of next say d d (take n bytes) (steps-outside next say d each (take n bytes) (plain-run bytes n count))

pub ran-ended : {D A : Type 0} (next : D → ℕ → D × A) (say : ℕ → A) (e d : D) → ((b : ℕ) → b ≢ 16 → next e b ≡ (d, say b)) → ((b : ℕ) → b ≢ 16 → next d b ≡ (d, say b))
    → (n : ℕ) (bytes : List ℕ) → n ≡ plain_len bytes → 0 < n → Ran next say e d (take n bytes)
ran-ended next say e d first each n bytes count some =
    let most : n ≤ length bytes = omega (arith, count, plain-most bytes) in
    ran-of next say e d (take n bytes) (steps-ended next say e d first each (take n bytes) (plain-run bytes n count) (omega (arith, length-take-le n bytes most)))

-- what comes of each byte of a run, of which there may be none
pub run-inside : {D A : Type 0} (next : D → ℕ → D × A) (say : ℕ → A) (N : ℕ) (inside : Gathered → D) → ((so_far : Gathered) (b : ℕ) → b ≢ 16 → next (inside so_far) b ≡ (inside (gather N so_far b), say b))
    → (so_far : Gathered) (n : ℕ) (bytes : List ℕ) → n ≡ plain_len bytes → (steps next (inside so_far) (take n bytes)).1 ≡ map say (take n bytes)
run-inside next say N inside each so_far n bytes count = (ran-inside next say N inside each so_far (fold (gather N) so_far (take n bytes)) n bytes count refl).said

pub run-outside : {D A : Type 0} (next : D → ℕ → D × A) (say : ℕ → A) (e d : D) → ((b : ℕ) → b ≢ 16 → next e b ≡ (d, say b)) → ((b : ℕ) → b ≢ 16 → next d b ≡ (d, say b))
    → (n : ℕ) (bytes : List ℕ) → n ≡ plain_len bytes → (steps next e (take n bytes)).1 ≡ map say (take n bytes)
run-outside next say e d first each n bytes count = said-ended next say e d first each (take n bytes) (plain-run bytes n count)
