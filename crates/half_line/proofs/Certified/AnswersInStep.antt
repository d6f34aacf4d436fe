-- What the master's ear is after bytes of a station: one in step stays so over whole messages and pairs, and a message that is heard whole leaves any ear so.
use Rattle.std.proofs.Common.{◌≡◌, ◌∙◌, ℕ, Bool, true, false, List, [], ◌∷◌, ◌++◌, Option, Some, None, refl, ap, sym, subst, inl, inr}
use Rattle.std.specs.Prelude.{◌==◌, ◌⊎◌, ◌/◌, ◌%◌, if◌then◌else◌}
use Rattle.std.specs.List.{flat_map}
use Rattle.df1_check.specs.declared.Check.{Check}
use Rattle.df1_check.specs.declared.Check.TheVariants as kind
use Rattle.df1_frame.specs.Gathered.{Gathered, gather, close, verdict}
use Rattle.df1_frame.specs.Spelling.{Plain, Doubled, piece_bytes, pieces_of, check_of, check_bytes}
use Rattle.half_frame.specs.declared.heard.MasterHeard.{MasterHeard}
use Rattle.half_frame.specs.declared.heard.MasterHeard.TheVariants as heard
use Rattle.half_frame.specs.MasterGrammar.{pair_heard}
use Rattle.half_frame.specs.MasterStanding.{Standing, Outside, Ended, AfterDle, AtText}
use Rattle.half_frame.specs.MasterStep.{text_next, step}
use Rattle.half_frame.specs.Spelling.{pair_bytes, reply_bytes}
use Rattle.half_frame.specs.TextStep.{Inside, Onward, Goes, Ends, Breaks, begun, is_good as is_right, text_step}
use Rattle.half_master.specs.Master.{is_good}
use Rattle.half_line.specs.Rest.{is_between_answers}

-- ---- bytes

abbrev pub after : Check → Standing → List ℕ → Standing
after check at [] = at
after check at (b ∷ bytes) = after check (step check 250 at b).0 bytes

pub after-both : (check : Check) (at : Standing) (xs ys : List ℕ) → after check at (xs ++ ys) ≡ after check (after check at xs) ys
after-both check at [] ys = refl
after-both check at (x ∷ xs) ys = after-both check (step check 250 at x).0 xs ys

-- ---- a pair that begins no message

after-other : (check : Check) (code : ℕ) → (code == 2) ≡ false → (step check 250 AfterDle code).0 ≡ Outside
after-other check code other = rw other refl

dle-after : (check : Check) (at : Standing) → is_between_answers at ≡ true → (step check 250 at 16).0 ≡ AfterDle
dle-after check Outside is = refl
dle-after check (Ended body) is = refl
dle-after check AfterDle is = absurd cc
dle-after check (AtText at) is = absurd cc

pub pair-in-step : (check : Check) (at : Standing) (code : ℕ) → (code == 2) ≡ false → is_between_answers at ≡ true → is_between_answers (after check at (pair_bytes code)) ≡ true
pair-in-step check at code other is =
    subst (λ (to : Standing). is_between_answers (step check 250 to code).0 ≡ true) (sym (dle-after check at is)) (subst (λ (to : Standing). is_between_answers to ≡ true) (sym (after-other check code other)) refl)

-- ---- a message

abbrev IsIn : Standing → Type 0
IsIn at = (so_far : Gathered) × (at ≡ AtText (Inside so_far))

opening-in : (check : Check) (at : Standing) → is_between_answers at ≡ true → IsIn (after check at (16 ∷ 2 ∷ []))
opening-in check Outside is = (_, refl)
opening-in check (Ended body) is = (_, refl)
opening-in check AfterDle is = absurd cc
opening-in check (AtText at) is = absurd cc

in-other : (check : Check) (so_far : Gathered) (b : ℕ) → (b == 16) ≡ false → (step check 250 (AtText (Inside so_far)) b).0 ≡ AtText (Inside (gather 250 so_far b))
in-other check so_far b is = rw is refl

piece-in : (check : Check) (so_far : Gathered) (b : ℕ) (dle : Bool) → (b == 16) ≡ dle → IsIn (after check (AtText (Inside so_far)) (piece_bytes (if dle then Doubled else Plain b)))
piece-in check so_far b true e = (gather 250 so_far 16, refl)
piece-in check so_far b false e = (gather 250 so_far b, in-other check so_far b e)

abbrev body_bytes : List ℕ → List ℕ
body_bytes body = flat_map piece_bytes (pieces_of body)

body-in : (check : Check) (body : List ℕ) (so_far : Gathered) → IsIn (after check (AtText (Inside so_far)) (body_bytes body))
body-in check [] so_far = (so_far, refl)
body-in check (b ∷ body) so_far =
    let piece = piece_bytes (if b == 16 then Doubled else Plain b) in
    let here = piece-in check so_far b (b == 16) refl in
    subst IsIn (sym (after-both check (AtText (Inside so_far)) piece (body_bytes body))) (subst (λ (to : Standing). IsIn (after check to (body_bytes body))) (sym here.1) (body-in check body here.0))

ends-between : (right : Bool) (so_far : Gathered) → is_between_answers (if right then Ended so_far.bytes else Outside) ≡ true
ends-between true so_far = refl
ends-between false so_far = refl

in-closes : (check : Check) (so_far : Gathered) (value : ℕ) → is_between_answers (after check (AtText (Inside so_far)) (16 ∷ 3 ∷ check_bytes check value)) ≡ true
unfolding check_bytes
in-closes kind.Bcc so_far value = ends-between (is_right (verdict kind.Bcc (close kind.Bcc so_far) (value ∷ []))) (close kind.Bcc so_far)
in-closes kind.Crc so_far value = ends-between (is_right (verdict kind.Crc (close kind.Crc so_far) (value % 256 ∷ value / 256 ∷ []))) (close kind.Crc so_far)

pub reply-in-step : (check : Check) (at : Standing) (body : List ℕ) → is_between_answers at ≡ true → is_between_answers (after check at (reply_bytes check body)) ≡ true
reply-in-step check at body is =
    let opened = opening-in check at is in
    let closing = 16 ∷ 3 ∷ check_of check body in
    let inside = body-in check body opened.0 in
    subst (λ (to : Standing). is_between_answers (after check to (body_bytes body ++ closing)) ≡ true) (sym opened.1)
    (subst (λ (to : Standing). is_between_answers to ≡ true) (sym (after-both check (AtText (Inside opened.0)) (body_bytes body) closing))
    (subst (λ (to : Standing). is_between_answers (after check to closing) ≡ true) (sym inside.1) (in-closes check inside.0 _)))

-- ---- two ears

-- one in step, and one after a byte at which a whole message is heard
abbrev GoodInStep : Standing × Option MasterHeard → Type 0
GoodInStep to = is_good to.1 ≡ true → is_between_answers to.0 ≡ true

text-good : (check : Check) (onward : Onward) → GoodInStep (text_next check onward)
text-good check (Goes to) good = absurd cc
text-good check (Ends right so_far) good = ends-between right so_far
text-good check (Breaks code) good = absurd cc

pub good-in-step : (check : Check) (at : Standing) (b : ℕ) → GoodInStep (step check 250 at b)
good-in-step check Outside b = outside (b == 16)
  where
    outside : (dle : Bool) → GoodInStep (if dle then (AfterDle, None) else (Outside, Some (heard.Stray b)))
    outside true good = absurd cc
    outside false good = refl
good-in-step check (Ended body) b = outside (b == 16)
  where
    outside : (dle : Bool) → GoodInStep (if dle then (AfterDle, None) else (Outside, Some (heard.Stray b)))
    outside true good = absurd cc
    outside false good = refl
good-in-step check AfterDle b = after-dle (b == 2)
  where
    after-dle : (opens : Bool) → GoodInStep (if opens then (AtText (begun check []), None) else (Outside, Some (pair_heard b)))
    after-dle true good = absurd cc
    after-dle false good = refl
good-in-step check (AtText at) b = text-good check (text_step check 250 at b)

-- both in step take a byte alike
between-same : (check : Check) (at other : Standing) (b : ℕ) → is_between_answers at ≡ true → is_between_answers other ≡ true → (step check 250 at b).0 ≡ (step check 250 other b).0
between-same check Outside Outside b is too = refl
between-same check Outside (Ended body) b is too = refl
between-same check (Ended body) Outside b is too = refl
between-same check (Ended body) (Ended more) b is too = refl
between-same check AfterDle other b is too = absurd cc
between-same check (AtText at) other b is too = absurd cc
between-same check Outside AfterDle b is too = absurd cc
between-same check Outside (AtText at) b is too = absurd cc
between-same check (Ended body) AfterDle b is too = absurd cc
between-same check (Ended body) (AtText at) b is too = absurd cc

-- they stand at the same place, or both are in step
abbrev pub AreAlike : Standing → Standing → Type 0
AreAlike at other = (at ≡ other) ⊎ ((is_between_answers at ≡ true) × (is_between_answers other ≡ true))

pub alike-next : (check : Check) (at other : Standing) (b : ℕ) → AreAlike at other → AreAlike (step check 250 at b).0 (step check 250 other b).0
alike-next check at other b (inl same) = inl (ap (λ (x : Standing). (step check 250 x b).0) same)
alike-next check at other b (inr both) = inl (between-same check at other b both.0 both.1)

pub alike-in-step : (at other : Standing) → AreAlike at other → is_between_answers at ≡ true → is_between_answers other ≡ true
alike-in-step at other (inl same) is = sym (ap is_between_answers same) ∙ is
alike-in-step at other (inr both) is = both.1
