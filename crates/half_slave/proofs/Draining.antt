-- Takes until nothing is given.
use Rattle.std.proofs.Common.{◌≡◌, ℕ, zero, suc, ◌+◌, ◌≤◌, true, List, length, Option, Some, None, IsSome, IsNone, [], ◌∷◌, ◌++◌, ap, sym, subst, ◌∙◌, refl, arith}
use Rattle.std.specs.Prelude.{option_to_list, is_some, is_none, ◌&&◌, if◌then◌else◌}
use Rattle.df1_base.specs.declared.host.Host.{Ghosts}
use Rattle.df1_base.specs.declared.link.Out.{Out}
use Rattle.df1_base.specs.declared.link.Resp.{Resp}
use Rattle.half_frame.specs.declared.framer.Sent.{Sent}
use Rattle.half_mouth.specs.Giving.{Giving, is_done, bytes_left, take}
use Rattle.half_slave.specs.Slave.{SlaveState, is_quiet, after_out, mouth_at_take, responds_at_take, out_at_take, slave_after_take, left_to_give}
use Rattle.half_slave.specs.Emission.{slave_after_all, emission, takes, Drains, gives_none, gives_one}
use Rattle.half_slave.proofs.Sizes.{some-left}

abbrev giving : List Sent → Option ℕ → ℕ → Giving
giving left number begun = record { left = left; number = number; begun = begun }

-- ---- quiet exactly where a take gives nothing

quiet-by : (left : List Sent) (number : Option ℕ) (begun : ℕ) (responds : Option Resp)
    → (is_done (giving left number begun) && is_none responds) ≡ is_none (take (mouth_at_take (giving left number begun) responds)).1
quiet-by [] number begun None = refl
quiet-by [] number begun (Some r) = refl
quiet-by (x ∷ more) number begun responds = rw (some-left x more) refl

pub quiet-is : {H : Type 0} (s : SlaveState H) → is_quiet s ≡ is_none (out_at_take s)
quiet-is s = quiet-by s.mouth.left s.mouth.number s.mouth.begun s.responds

none-test : {A : Type 0} (o : Option A) → IsNone o → is_none o ≡ true
none-test None none = refl
none-test (Some x) none = cc

pub none-quiet : {H : Type 0} (s : SlaveState H) → IsNone (out_at_take s) → is_quiet s ≡ true
none-quiet s none = quiet-is s ∙ none-test (out_at_take s) none

-- ---- where nothing is given, nothing changes

abbrev after_take : {H : Type 0} → SlaveState H → Giving → Option Resp → SlaveState H
after_take s g responds = record s {
  responds = responds_at_take g responds;
  mouth = (take (mouth_at_take g responds)).0;
  held = after_out (take (mouth_at_take g responds)).1 s.held;
}

same-by : {H : Type 0} (s : SlaveState H) (left : List Sent) (number : Option ℕ) (begun : ℕ) (responds : Option Resp) → IsNone (take (mouth_at_take (giving left number begun) responds)).1
    → after_take s (giving left number begun) responds ≡ record s { responds = responds; mouth = giving left number begun }
same-by s [] number begun None none = refl
same-by s [] number begun (Some r) none = absurd cc
same-by s (x ∷ more) number begun responds none = absurd (let no = rw (some-left x more) at none in cc)

pub quiet-same : {H : Type 0} (s : SlaveState H) → IsNone (out_at_take s) → slave_after_take s ≡ s
quiet-same s none = same-by s s.mouth.left s.mouth.number s.mouth.begun s.responds none

-- ---- fewer are left

fewer-by : (left : List Sent) (number : Option ℕ) (begun : ℕ) (responds : Option Resp)
    → let g = giving left number begun in
    IsSome (take (mouth_at_take g responds)).1
    → bytes_left (take (mouth_at_take g responds)).0 + (if is_some (responds_at_take g responds) then 2 else 0) + 1 ≡ bytes_left g + (if is_some responds then 2 else 0)
fewer-by [] number begun None some = cc
fewer-by [] number begun (Some r) some = refl
fewer-by (x ∷ more) number begun responds some = rw (some-left x more) (omega arith)

pub take-lowers : {H : Type 0} (s : SlaveState H) → IsSome (out_at_take s) → left_to_give (slave_after_take s) + 1 ≡ left_to_give s
take-lowers s some = fewer-by s.mouth.left s.mouth.number s.mouth.begun s.responds some

none-left-by : (left : List Sent) (number : Option ℕ) (begun : ℕ) (responds : Option Resp)
    → let g = giving left number begun in
    (take (mouth_at_take g responds)).1 ≡ None → bytes_left g + (if is_some responds then 2 else 0) ≡ 0
none-left-by [] number begun None none = refl
none-left-by [] number begun (Some r) none = cc
none-left-by (x ∷ more) number begun responds none = absurd (some-none (rw (some-left x more) at none))
  where
    some-none : {out : Out} → Some out ≡ None → ⊥
    some-none is = cc

none-left : {H : Type 0} (s : SlaveState H) → out_at_take s ≡ None → left_to_give s ≡ 0
none-left s none = none-left-by s.mouth.left s.mouth.number s.mouth.begun s.responds none

-- ---- takes until one gives nothing

drains-by : {H : Type 0} (n : ℕ) (s : SlaveState H) (out : Option Out) → out_at_take s ≡ out → left_to_give s ≡ n
    → (outs : List Out) × (last : SlaveState H) × Drains s outs last × (length outs ≡ n)
drains-by n s None is left = ([], slave_after_take s, gives_none s is, sym (none-left s is) ∙ left)
drains-by zero s (Some out) is left = absurd (let fewer = take-lowers s (rw is refl) in omega (arith, fewer))
drains-by (suc n) s (Some out) is left =
    let after = slave_after_take s in
    let fewer = take-lowers s (rw is refl) in
    let rest = drains-by n after (out_at_take after) refl (omega (arith, fewer, left)) in
    (out ∷ rest.0, rest.1, gives_one s out rest.0 rest.1 is rest.2, omega (arith, rest.3))

pub drains : {H : Type 0} (s : SlaveState H) → (outs : List Out) × (last : SlaveState H) × Drains s outs last × (length outs ≡ left_to_give s)
drains s = drains-by (left_to_give s) s (out_at_take s) refl refl

some-none : {A : Type 0} (o : Option A) (x : A) → o ≡ Some x → o ≡ None → ⊥
some-none None x some none = cc
some-none (Some y) x some none = cc

-- they come to one slave
pub drains-only : {H : Type 0} (s last other : SlaveState H) (outs others : List Out) → Drains s outs last → Drains s others other → (outs ≡ others) × (last ≡ other)
drains-only s last other outs others (gives_none s1 is) (gives_none s2 same) = (refl, refl)
drains-only s last other outs others (gives_none s1 none) (gives_one s2 out rest l some d) = absurd (some-none (out_at_take s) out some none)
drains-only s last other outs others (gives_one s1 out rest l some d) (gives_none s2 none) = absurd (some-none (out_at_take s) out some none)
drains-only s last other outs others (gives_one s1 out rest l some d) (gives_one s2 next more k same f) =
    let both = drains-only (slave_after_take s) last other rest more d f in
    let out_is : out ≡ next = cc in
    let rest_is : rest ≡ more = both.0 in
    (cc, both.1)

-- after them nothing is to be given
pub drained-quiet : {H : Type 0} (s last : SlaveState H) (outs : List Out) → Drains s outs last → is_quiet last ≡ true
drained-quiet {H} s last outs (gives_none s1 none) =
    let is_none : IsNone (out_at_take s) = rw none refl in
    subst (λ (x : SlaveState H). is_quiet x ≡ true) (sym (quiet-same s is_none)) (none-quiet s is_none)
drained-quiet s last outs (gives_one s1 out rest l some d) = drained-quiet (slave_after_take s) last rest d

-- ---- so many takes

quiet-takes : {H : Type 0} (m : Ghosts H) (s : SlaveState H) (n : ℕ) → IsNone (out_at_take s) → slave_after_all m s (takes n) ≡ s
quiet-takes m s zero none = refl
quiet-takes {H} m s (suc n) none = ap (λ (x : SlaveState H). slave_after_all m x (takes n)) (quiet-same s none) ∙ quiet-takes m s n none

none-gives : {A : Type 0} (o : Option A) → IsNone o → o ≡ None
none-gives None none = refl
none-gives (Some x) none = cc

quiet-gives : {H : Type 0} (m : Ghosts H) (s : SlaveState H) (n : ℕ) → IsNone (out_at_take s) → emission m s (takes n) ≡ []
quiet-gives m s zero none = refl
quiet-gives {H} m s (suc n) none =
    let none_given : option_to_list (out_at_take s) ≡ [] = rw (none-gives (out_at_take s) none) refl in
    ap (λ (x : List Out). x ++ emission m (slave_after_take s) (takes n)) none_given
    ∙ ap (λ (x : SlaveState H). emission m x (takes n)) (quiet-same s none) ∙ quiet-gives m s n none

-- as many takes as bytes are given, and more, come to the same
pub drained-takes : {H : Type 0} (m : Ghosts H) (s last : SlaveState H) (outs : List Out) (n : ℕ) → Drains s outs last → length outs ≤ n
    → (slave_after_all m s (takes n) ≡ last) × (emission m s (takes n) ≡ outs)
drained-takes m s last outs n (gives_none s1 none) few =
    let is_none : IsNone (out_at_take s) = rw none refl in
    (quiet-takes m s n is_none ∙ sym (quiet-same s is_none), quiet-gives m s n is_none)
drained-takes m s last outs zero (gives_one s1 out rest l some d) few = absurd (omega arith)
drained-takes m s last outs (suc n) (gives_one s1 out rest l some d) few =
    let later = drained-takes m (slave_after_take s) last rest n d (omega arith) in
    (later.0, ap (λ (o : Option Out). option_to_list o ++ emission m (slave_after_take s) (takes n)) some ∙ ap (λ (x : List Out). out ∷ x) later.1)
