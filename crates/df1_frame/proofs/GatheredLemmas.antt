-- What a decoder gathers of a body, at one byte more and at the end.
use Rattle.std.proofs.Common.{◌≡◌, ℕ, ◌≤◌, cond, ltb, List, [], ◌∷◌, ◌++◌, length, take, refl, arith, inl, inr, append_assoc}
use Rattle.std.proofs.lemmas.List.{take_all, take-append-le, length-take-le, length-append}
use Rattle.std.proofs.lemmas.Bool.{cases_lt, lt-ltb, le-ltb}
use Rattle.df1_check.specs.declared.Check.{Check}
use Rattle.df1_check.specs.declared.Check.TheVariants as kinds
use Rattle.df1_check.proofs.CheckLemmas.{check_value-push}
use Rattle.df1_frame.specs.Grammar.{frame_heard}
use Rattle.df1_frame.specs.Gathered.{gathered_after, gathered_whole_after, gathered, gathered_whole, nothing_gathered, gather, close, verdict}
use Rattle.df1_frame.specs.Standing.{Outside, Ended}
use Rattle.df1_frame.specs.Step.{left_by}

le_from_zero : (N : ℕ) → 0 ≤ N
le_from_zero N = omega arith

pub gathered-nothing : (kind : Check) (N : ℕ) → gathered kind N [] ≡ nothing_gathered kind
gathered-nothing kind N = let t : take N [] ≡ [] = take_all {A = ℕ} N [] (le_from_zero N) in rw (t, le-ltb N 0 (omega arith)) refl

pub gather-after : (kind : Check) (N : ℕ) (head body : List ℕ) (b : ℕ) → gather N (gathered_after kind N head body) b ≡ gathered_after kind N head (body ++ b ∷ [])
gather-after kind N head body b = elim (cases_lt (length body) N) [
  | inl lt ↦
      rw (take_all N body (omega arith), take_all N (body ++ b ∷ []) (omega (arith, length-append body (b ∷ []))), lt-ltb (length body) N lt, le-ltb N (length body) (omega arith), le-ltb N (length (body ++ b ∷ [])) (omega (arith, length-append body (b ∷ []))), ← append_assoc head body (b ∷ []), check_value-push kind (head ++ body) b) refl
  | inr le ↦
      rw (length-take-le N body le, take-append-le N body (b ∷ []) le, le-ltb N N (omega arith), lt-ltb N (length (body ++ b ∷ [])) (omega (arith, length-append body (b ∷ []))), ← append_assoc head body (b ∷ []), check_value-push kind (head ++ body) b) refl
]

pub close-after : (kind : Check) (N : ℕ) (head body : List ℕ) → close kind (gathered_after kind N head body) ≡ gathered_whole_after kind N head body
close-after kinds.Bcc N head body = refl
close-after kinds.Crc N head body = rw (check_value-push kinds.Crc (head ++ body) 3) refl

pub gather-gathered : (kind : Check) (N : ℕ) (body : List ℕ) (b : ℕ) → gather N (gathered kind N body) b ≡ gathered kind N (body ++ b ∷ [])
gather-gathered kind N body b = gather-after kind N [] body b

pub close-gathered : (kind : Check) (N : ℕ) (body : List ℕ) → close kind (gathered kind N body) ≡ gathered_whole kind N body
close-gathered kind N body = close-after kind N [] body

pub verdict-gathered : (kind : Check) (N : ℕ) (body check : List ℕ) → verdict kind (gathered_whole kind N body) check ≡ frame_heard kind N body check
verdict-gathered kind N body check = elim (cases_lt N (length body)) [
  | inl lt ↦ rw (lt-ltb N (length body) lt) refl
  | inr le ↦ rw (take_all N body le) refl
]

pub left_by-gathered : (kind : Check) (N : ℕ) (body : List ℕ) → left_by (gathered_whole kind N body) ≡ cond (ltb N (length body)) Outside (Ended body)
left_by-gathered kind N body = elim (cases_lt N (length body)) [
  | inl lt ↦ rw (lt-ltb N (length body) lt) refl
  | inr le ↦ rw (take_all N body le) refl
]
