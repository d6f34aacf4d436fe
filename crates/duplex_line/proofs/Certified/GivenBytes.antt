-- A decoder that was between items when an end had nothing left to give, and that hears all that the end gives: in which part of an item it stands, by what the end has still to give. What it has gathered there doesn't matter, nor what it hears.
use Rattle.std.proofs.Common.{◌≡◌, ℕ, ◌+◌, Bool, true, false, List, [], ◌∷◌, ◌++◌, length, map, Option, Some, None, subst, sym, ◌∙◌, refl, arith, length-append}
use Rattle.std.specs.Prelude.{IfSome, if◌then◌else◌, ◌==◌}
use Rattle.std.proofs.lemmas.Bool.{lt-ltb, le-ltb}
use Rattle.df1_base.specs.declared.link.Resp.{Resp}
use Rattle.df1_base.specs.declared.link.Resp.TheVariants as resp
use Rattle.df1_base.specs.declared.link.Out.{Out}
use Rattle.df1_check.specs.declared.Check.{Check}
use Rattle.df1_check.specs.Checks.{check_value}
use Rattle.df1_frame.specs.declared.framer.Unit.{Unit as Given}
use Rattle.df1_frame.specs.Spelling.{check_of, check_len, covered}
use Rattle.df1_frame.specs.Units.{pair_unit, byte_unit, body_unit, closing_units, check_units, units}
use Rattle.df1_frame.specs.Gathered.{Gathered, nothing_gathered, gather, close}
use Rattle.df1_frame.specs.Standing.{Standing, Outside, Ended, AfterDle, Inside, InsideDle, AtCheck, Decoding}
use Rattle.df1_frame.specs.Step.{left_by, step, next}
use Rattle.df1_frame.proofs.SpellingLemmas.{length-check}
use Rattle.embedded_response.specs.Giving.{Giving, Choice, Second, Respond, Give, Enquire, begin, code_of, plain, unit_out, chosen, given, take}
use Rattle.duplex_end.proofs.Choices.{Chosen, is-chosen}
use Rattle.duplex_line.specs.Rest.{is_between}
use Rattle.duplex_line.proofs.Complete.CheckBytes.{check-some, checks-left, responds-gap}

-- how far a frame is given: nothing of it is left; all is; its opening is given, and these bytes of its body are left; its end is, and these check bytes are left
pub data Progress : Type 0 where
  Done : Progress
  Whole : (body : List ℕ) → Progress
  Among : (rest body : List ℕ) → Progress
  Closing : (rest : List ℕ) → Progress

-- the units that are left then
abbrev pub left_at : Check → Progress → List Given
left_at check Done = []
left_at check (Whole body) = units check body
left_at check (Among rest body) = map body_unit rest ++ closing_units (check_of check body)
left_at check (Closing rest) = check_units rest

-- a response may stand before the next unit only inside the body, and a check byte is left
abbrev pub MayRespond : Progress → Bool → Type 0
MayRespond Done gap = Unit {0}
MayRespond (Whole body) gap = gap ≡ false
MayRespond (Among rest body) gap = Unit {0}
MayRespond (Closing rest) gap = (gap ≡ false) × (rest ≡ [] → ⊥)

-- the pair whose first byte is given and whose second isn't: none; a response; an ENQ; a frame's opening; a doubled DLE of the body; a frame's end
pub data Pending : Type 0 where
  NoPair : Pending
  Response : (r : Resp) → Pending
  Enquiry : Pending
  Opening : Pending
  Doubling : Pending
  Ending : Pending

-- the second byte, as it is to be given
abbrev pub second_of : Pending → Option Out
second_of NoPair = None
second_of (Response r) = Some (plain (code_of r))
second_of Enquiry = Some (plain 5)
second_of Opening = Some (plain 2)
second_of Doubling = Some (plain 16)
second_of Ending = Some (plain 3)

-- a decoder inside a body; there after a DLE; and at the check bytes, of which so many are to come
abbrev pub IsInside : Standing → Type 0
IsInside at = (so_far : Gathered) × (at ≡ Inside so_far)

abbrev pub IsInsideDle : Standing → Type 0
IsInsideDle at = (so_far : Gathered) × (at ≡ InsideDle so_far)

pub record IsAtCheck (check : Check) (n : ℕ) (at : Standing) : Type 0 where
  pub so_far : Gathered
  pub bytes : List ℕ
  pub is : at ≡ AtCheck so_far bytes
  pub many : length bytes + n ≡ check_len check

-- where the decoder stands; the progress is that after the pair
abbrev pub StandsAt : Check → Pending → Progress → Standing → Type 0
StandsAt check NoPair Done at = is_between at ≡ true
StandsAt check NoPair (Whole body) at = is_between at ≡ true
StandsAt check NoPair (Among rest body) at = IsInside at
StandsAt check NoPair (Closing rest) at = IsAtCheck check (length rest) at
StandsAt check (Response r) Done at = at ≡ AfterDle
StandsAt check (Response r) (Among rest body) at = IsInsideDle at
StandsAt check Enquiry Done at = at ≡ AfterDle
StandsAt check Opening (Among rest body) at = at ≡ AfterDle
StandsAt check Doubling (Among rest body) at = IsInsideDle at
StandsAt check Ending (Closing rest) at = IsInsideDle at × (length rest ≡ check_len check)
StandsAt check other progress at = ⊥

-- a decoder stands where the bytes lead it that were given, by the parts of what is still to be given
pub record StandsWith (check : Check) (gap : Bool) (left : List Given) (second : Option Out) (d : Decoding) : Type 0 where
  pub same_check : d.check ≡ check
  pub progress : Progress
  pub pending : Pending
  pub is_left : left ≡ left_at check progress
  pub may : MayRespond progress gap
  pub is_second : second ≡ second_of pending
  pub stands : StandsAt check pending progress d.standing

abbrev pub InStep : Giving → Decoding → Type 0
InStep g d = StandsWith g.check g.gap g.left g.second d

-- where something ends, the decoder is between items
abbrev pub EndsBetween : {X : Type 0} → Option X → Standing → Type 0
EndsBetween None at = Unit {0}
EndsBetween (Some x) at = is_between at ≡ true

none-ends : {X : Type 0} (o : Option X) (at : Standing) → o ≡ None → EndsBetween o at
none-ends o at none = rw none tt

-- ---- one byte of a decoder

-- between items a DLE begins one
between-dle : (check : Check) (at : Standing) → is_between at ≡ true → (step check 250 at 16).0 ≡ AfterDle
between-dle check Outside is = refl
between-dle check (Ended body) is = refl
between-dle check AfterDle is = absurd cc
between-dle check (Inside so_far) is = absurd cc
between-dle check (InsideDle so_far) is = absurd cc
between-dle check (AtCheck so_far bytes) is = absurd cc

-- after the last check byte it is between items
pub left-between : (so_far : Gathered) → is_between (left_by so_far) ≡ true
left-between so_far = by-test so_far.long
  where
    by-test : (long : Bool) → is_between (if long then Outside else Ended so_far.bytes) ≡ true
    by-test true = refl
    by-test false = refl

-- ---- a byte is given, and the decoder that stood here takes it

abbrev Follows : Giving → Standing → Giving → Out → Type 0
Follows g at after out = let to = (step g.check 250 at out.byte).0 in InStep after (record { check = g.check; standing = to }) × EndsBetween out.last_of to

-- ---- a pair's second byte

-- where the decoder stands after it
abbrev Lands : Check → Progress → Standing → Out → Type 0
Lands check progress at out = StandsAt check NoPair progress (step check 250 at out.byte).0 × (out.last_of ≡ None)

response-lands : (check : Check) (progress : Progress) (at : Standing) (r : Resp) → StandsAt check (Response r) progress at → Lands check progress at (plain (code_of r))
response-lands check Done at resp.Ack s = rw s (refl, refl)
response-lands check Done at resp.Nak s = rw s (refl, refl)
response-lands check (Whole body) at r s = absurd s
response-lands check (Among rest body) at resp.Ack s = rw s.1 ((s.0, refl), refl)
response-lands check (Among rest body) at resp.Nak s = rw s.1 ((s.0, refl), refl)
response-lands check (Closing rest) at r s = absurd s

lands : (check : Check) (pending : Pending) (progress : Progress) (at : Standing) → StandsAt check pending progress at → IfSome (second_of pending) (Lands check progress at)
lands check NoPair progress at s = tt
lands check (Response r) progress at s = response-lands check progress at r s
lands check Enquiry Done at s = rw s (refl, refl)
lands check Opening (Among rest body) at s = rw s ((nothing_gathered check, refl), refl)
lands check Doubling (Among rest body) at s = rw s.1 ((gather 250 s.0 16, refl), refl)
lands check Ending (Closing rest) at s = rw s.0.1 (record { so_far = close check s.0.0; bytes = []; is = refl; many = omega (arith, s.1) }, refl)
lands check _ _ at s = absurd s

gives-second : (g : Giving) (d : Decoding) (out : Out) → InStep g d → g.second ≡ Some out → Follows g d.standing (record g { second = None }) out
gives-second g d out s e =
    let l = subst (λ (second : Option Out). IfSome second (Lands g.check s.progress d.standing)) (sym s.is_second ∙ e) (lands g.check s.pending s.progress d.standing s.stands) in (
      record { same_check = refl; progress = s.progress; pending = NoPair; is_left = s.is_left; may = s.may; is_second = refl; stands = l.0 },
      none-ends out.last_of (step g.check 250 d.standing out.byte).0 l.1,
    )

-- ---- a response, and an ENQ

no-pair : (pending : Pending) → second_of pending ≡ None → pending ≡ NoPair
no-pair NoPair e = refl
no-pair (Response r) e = absurd cc
no-pair Enquiry e = absurd cc
no-pair Opening e = absurd cc
no-pair Doubling e = absurd cc
no-pair Ending e = absurd cc

-- no pair is begun where no second byte is there
stands-whole : (g : Giving) (d : Decoding) (s : InStep g d) → g.second ≡ None → StandsAt g.check NoPair s.progress d.standing
stands-whole g d s none = subst (λ (pending : Pending). StandsAt g.check pending s.progress d.standing) (no-pair s.pending (sym s.is_second ∙ none)) s.stands

response-begins : (check : Check) (progress : Progress) (gap : Bool) (at : Standing) (r : Resp) → MayRespond progress gap → (gap ≡ false → left_at check progress ≡ []) → StandsAt check NoPair progress at → StandsAt check (Response r) progress (step check 250 at 16).0
response-begins check Done gap at r may empty s = between-dle check at s
response-begins check (Whole body) gap at r may empty s = absurd (let none = empty may in cc)
response-begins check (Among rest body) gap at r may empty s = rw s.1 (s.0, refl)
response-begins check (Closing rest) gap at r may empty s = absurd (checks-left rest may.1 (empty may.0))

gives-response : (g : Giving) (d : Decoding) (r : Resp) → InStep g d → chosen g ≡ Some (Respond r) → g.second ≡ None → Follows g d.standing (record g { waiting = None; second = Some (plain (code_of r)) }) (plain 16)
gives-response g d r s e none = (
  record { same_check = refl; progress = s.progress; pending = Response r; is_left = s.is_left; may = s.may; is_second = refl; stands = response-begins g.check s.progress g.gap d.standing r s.may (λ gap. sym s.is_left ∙ responds-gap g r e gap) (stands-whole g d s none) },
  tt,
)

-- where nothing of a frame is left, it is done
left-none : (check : Check) (progress : Progress) (gap : Bool) → MayRespond progress gap → left_at check progress ≡ [] → progress ≡ Done
left-none check Done gap may e = refl
left-none check (Whole body) gap may e = absurd cc
left-none check (Among [] body) gap may e = absurd cc
left-none check (Among (b ∷ rest) body) gap may e = absurd cc
left-none check (Closing rest) gap may e = absurd (checks-left rest may.1 e)

-- then the decoder is between items, unless a pair is begun
stands-between : (g : Giving) (d : Decoding) → g.second ≡ None → g.left ≡ [] → InStep g d → is_between d.standing ≡ true
stands-between g d none left s = subst (λ (progress : Progress). StandsAt g.check NoPair progress d.standing) (left-none g.check s.progress g.gap s.may (sym s.is_left ∙ left)) (stands-whole g d s none)

gives-enquiry : (g : Giving) (d : Decoding) → InStep g d → g.second ≡ None → g.left ≡ [] → Follows g d.standing (record g { asking = false; second = Some (plain 5) }) (plain 16)
gives-enquiry g d s none left =
    (record { same_check = refl; progress = Done; pending = Enquiry; is_left = left; may = tt; is_second = refl; stands = between-dle g.check d.standing (stands-between g d none left s) }, tt)

-- ---- a unit of the frame

-- it leaves this progress, and may begin this pair
gives-part : (g : Giving) (at to : Standing) (left : List Given) (gap : Bool) (out : Out) (progress : Progress) (pending : Pending) → (step g.check 250 at out.byte).0 ≡ to → left ≡ left_at g.check progress → MayRespond progress gap → StandsAt g.check pending progress to → EndsBetween out.last_of to
    → Follows g at (record g { left = left; gap = gap; second = second_of pending }) out
gives-part g at to left gap out progress pending goes leaves may stands ends =
    let after : InStep (record g { left = left; gap = gap; second = second_of pending }) (record { check = g.check; standing = to }) =
    record { same_check = refl; progress = progress; pending = pending; is_left = leaves; may = may; is_second = refl; stands = stands } in
    rw goes (after, ends)

-- the first byte of the first of these units
abbrev FollowsFirst : Giving → Standing → List Given → Type 0
FollowsFirst g at [] = Unit {0}
FollowsFirst g at (unit ∷ rest) = let bytes = unit_out unit unit.second g.begun in Follows g at (record g { left = rest; gap = unit.gap; second = bytes.1 }) bytes.0

gives-body : (g : Giving) (so_far : Gathered) (rest body : List ℕ) (b : ℕ) (dle : Bool) → (b == 16) ≡ dle
    → FollowsFirst g (Inside so_far) ((if dle then pair_unit 16 true else byte_unit b true false) ∷ (map body_unit rest ++ closing_units (check_of g.check body)))
gives-body g so_far rest body b true e = gives-part g (Inside so_far) (InsideDle so_far) _ true (plain 16) (Among rest body) Doubling refl refl tt (so_far, refl) tt
gives-body g so_far rest body b false e =
    gives-part g (Inside so_far) (Inside (gather 250 so_far b)) _ true (record { byte = b; last_of = None; body_of = Some g.begun }) (Among rest body) NoPair (rw e refl) refl tt (gather 250 so_far b, refl) tt

-- at a check byte that isn't the last, and at the last
check-goes : (check : Check) (so_far : Gathered) (bytes : List ℕ) (b n : ℕ) → length bytes + (n + 2) ≡ check_len check → (step check 250 (AtCheck so_far bytes) b).0 ≡ AtCheck so_far (bytes ++ b ∷ [])
check-goes check so_far bytes b n many = rw (lt-ltb (length bytes + 1) (check_len check) (omega (arith, many))) refl

check-ends : (check : Check) (so_far : Gathered) (bytes : List ℕ) (b : ℕ) → length bytes + 1 ≡ check_len check → (step check 250 (AtCheck so_far bytes) b).0 ≡ left_by so_far
check-ends check so_far bytes b many = rw (le-ltb (length bytes + 1) (check_len check) (omega (arith, many))) refl

gives-unit : (g : Giving) (progress : Progress) (at : Standing) → MayRespond progress g.gap → StandsAt g.check NoPair progress at → FollowsFirst g at (left_at g.check progress)
gives-unit g Done at may s = tt
gives-unit g (Whole body) at may s = gives-part g at AfterDle _ true (plain 16) (Among body body) Opening (between-dle g.check at s) refl tt refl tt
gives-unit g (Among [] body) at may s =
    rw s.1 (gives-part g (Inside s.0) (InsideDle s.0) _ false (plain 16) (Closing (check_of g.check body)) Ending refl refl (refl, check-some g.check body) ((s.0, refl), length-check g.check (check_value g.check (covered g.check body))) tt)
gives-unit g (Among (b ∷ more) body) at may s = rw s.1 (gives-body g s.0 more body b (b == 16) refl)
gives-unit g (Closing []) at may s = tt
gives-unit g (Closing (b ∷ [])) at may s =
    rw s.is (gives-part g (AtCheck s.so_far s.bytes) (left_by s.so_far) _ false (record { byte = b; last_of = Some g.begun; body_of = None }) Done NoPair (check-ends g.check s.so_far s.bytes b (omega (arith, s.many))) refl tt (left-between s.so_far) (left-between s.so_far))
gives-unit g (Closing (b ∷ c ∷ more)) at may s =
    let after = s.bytes ++ b ∷ [] in
    rw s.is (gives-part g (AtCheck s.so_far s.bytes) (AtCheck s.so_far after) _ false (plain b) (Closing (c ∷ more)) NoPair (check-goes g.check s.so_far s.bytes b (length more) (omega (arith, s.many))) refl (refl, λ e. cc)
    (record { so_far = s.so_far; bytes = after; is = refl; many = omega (arith, s.many, length-append s.bytes (b ∷ [])) }) tt)

-- ---- the next byte, by what is chosen

gives-chosen : (g : Giving) (d : Decoding) (c : Option Choice) → InStep g d → chosen g ≡ c → Chosen g.second g.waiting g.left g.asking c → IfSome (given g c).1 (Follows g d.standing (given g c).0)
gives-chosen g d None s e h = tt
gives-chosen g d (Some (Second out)) s e h = gives-second g d out s h
gives-chosen g d (Some (Respond r)) s e h = gives-response g d r s e h.0
gives-chosen g d (Some (Give unit)) s e h =
    let first = gives-unit g s.progress d.standing s.may (stands-whole g d s h.0) in
    rw h.1.1 (subst (FollowsFirst g d.standing) (sym s.is_left ∙ h.1.1) first)
gives-chosen g d (Some Enquire) s e h = gives-enquiry g d s h.0 h.2

-- the decoder stays in step, and is between items where a transmission ends
pub step-take : (g : Giving) (d : Decoding) (out : Out) → InStep g d → (take g).1 ≡ Some out → InStep (take g).0 (next 250 d out.byte).0 × EndsBetween out.last_of (next 250 d out.byte).0.standing
step-take g d out s e = rw s.same_check (subst (λ (o : Option Out). IfSome o (Follows g d.standing (take g).0)) e (gives-chosen g d (chosen g) s refl (is-chosen g)))

-- ---- nothing to give

-- where nothing is chosen, the decoder is between items
pub quiet-between : (g : Giving) (d : Decoding) → chosen g ≡ None → InStep g d → is_between d.standing ≡ true
quiet-between g d e s = let none = subst (Chosen g.second g.waiting g.left g.asking) e (is-chosen g) in stands-between g d none.0 none.2 s

-- a decoder between items is in step there
pub step-start : (g : Giving) (d : Decoding) → chosen g ≡ None → d.check ≡ g.check → is_between d.standing ≡ true → InStep g d
step-start g d e same between =
    let none = subst (Chosen g.second g.waiting g.left g.asking) e (is-chosen g) in
    record { same_check = same; progress = Done; pending = NoPair; is_left = none.2; may = tt; is_second = none.0; stands = between }

-- and where a frame is begun
pub step-begin : (g : Giving) (d : Decoding) (body : List ℕ) → chosen g ≡ None → InStep g d → InStep (begin g body) d
step-begin g d body e s =
    let none = subst (Chosen g.second g.waiting g.left g.asking) e (is-chosen g) in
    record { same_check = s.same_check; progress = Whole body; pending = NoPair; is_left = refl; may = refl; is_second = none.0; stands = quiet-between g d e s }
