-- A decoder that hears all that an end gives: where it stands, by what the end has still to give.
use Rattle.std.proofs.Common.{◌≡◌, ℕ, ◌+◌, ◌≤◌, Bool, true, false, List, [], ◌∷◌, ◌++◌, length, map, Option, Some, None, ap, subst, sym, ◌∙◌, refl, append_assoc, append-nil, arith, length-append, inl, inr}
use Rattle.std.specs.Prelude.{IfSome, if◌then◌else◌, ◌==◌, ◌⊎◌}
use Rattle.std.proofs.lemmas.Bool.{eqb-true}
use Rattle.df1_base.specs.declared.link.Resp.{Resp}
use Rattle.df1_base.specs.declared.link.Resp.TheVariants as resp
use Rattle.df1_base.specs.declared.link.Out.{Out}
use Rattle.df1_check.specs.declared.Check.{Check}
use Rattle.df1_frame.specs.declared.heard.Heard.{Heard}
use Rattle.df1_frame.specs.declared.heard.Heard.TheVariants as heard
use Rattle.df1_frame.specs.declared.framer.Unit.{Unit as Given}
use Rattle.df1_frame.specs.Spelling.{check_of, same}
use Rattle.df1_frame.specs.Units.{pair_unit, byte_unit, body_unit, closing_units, check_units, units}
use Rattle.df1_frame.specs.Gathered.{Gathered, gathered, gathered_whole}
use Rattle.df1_frame.specs.Standing.{Standing, Outside, Ended, AfterDle, Inside, InsideDle, AtCheck, Decoding, lent_at, is_inside}
use Rattle.df1_frame.specs.Step.{step, next}
use Rattle.df1_frame.proofs.GatheredLemmas.{gathered-nothing, gather-gathered, close-gathered}
use Rattle.df1_frame.proofs.SpellingLemmas.{same-same}
use Rattle.embedded_response.specs.Giving.{Giving, Choice, Second, Respond, Give, Enquire, offer, unask, begin, code_of, plain, unit_out, chosen, given, take}
use Rattle.duplex_end.proofs.Choices.{Chosen, is-chosen}
use Rattle.duplex_line.proofs.Complete.CheckBytes.{check-some, checks-left, check-goes, check-ends, responds-gap}

-- the decoder is in no frame and after no DLE
abbrev pub IsOutside : Standing → Type 0
IsOutside Outside = Unit {0}
IsOutside (Ended body) = Unit {0}
IsOutside AfterDle = ⊥
IsOutside (Inside so_far) = ⊥
IsOutside (InsideDle so_far) = ⊥
IsOutside (AtCheck so_far bytes) = ⊥

-- how far a frame is given: nothing of it is left; all is; its opening and these bytes of its body are given; its end and these check bytes are
pub data Progress : Type 0 where
  Done : Progress
  Whole : Progress
  Among : (done rest : List ℕ) → Progress
  Closing : (done rest : List ℕ) → Progress

-- the units that are left then
abbrev pub left_at : Check → List ℕ → Progress → List Given
left_at check body Done = []
left_at check body Whole = units check body
left_at check body (Among done rest) = map body_unit rest ++ closing_units (check_of check body)
left_at check body (Closing done rest) = check_units rest

-- it is progress in a frame of this body
abbrev pub IsProgress : Check → List ℕ → Progress → Type 0
IsProgress check body Done = Unit {0}
IsProgress check body Whole = (6 ≤ length body) × (length body ≤ 250)
IsProgress check body (Among done rest) = (6 ≤ length body) × (length body ≤ 250) × (body ≡ done ++ rest)
IsProgress check body (Closing done rest) = (6 ≤ length body) × (length body ≤ 250) × (check_of check body ≡ done ++ rest) × (rest ≡ [] → ⊥)

-- a response may stand before the next unit only inside the body
abbrev pub HasGap : Progress → Bool → Type 0
HasGap Done gap = Unit {0}
HasGap Whole gap = gap ≡ false
HasGap (Among done rest) gap = Unit {0}
HasGap (Closing done rest) gap = gap ≡ false

-- the pair whose first byte is given and whose second isn't: none; a response; a frame's opening; a doubled DLE of the body; a frame's end
pub data Pending : Type 0 where
  NoPair : Pending
  Response : (r : Resp) → Pending
  Opening : Pending
  Doubling : Pending
  Ending : Pending

-- the second byte, as it is to be given
abbrev pub second_of : Pending → Option Out
second_of NoPair = None
second_of (Response r) = Some (plain (code_of r))
second_of Opening = Some (plain 2)
second_of Doubling = Some (plain 16)
second_of Ending = Some (plain 3)

-- the bytes of the body that are given
abbrev pub done_of : List ℕ → Progress → List ℕ
done_of body Done = []
done_of body Whole = []
done_of body (Among done rest) = done
done_of body (Closing done rest) = body

-- where the decoder stands that has heard these bytes of the body; the progress is that after the pair
abbrev pub StandsAt : Check → List ℕ → Pending → Progress → Standing → Type 0
StandsAt check seen NoPair Done at = IsOutside at
StandsAt check seen NoPair Whole at = IsOutside at
StandsAt check seen NoPair (Among done rest) at = at ≡ Inside (gathered check 250 seen)
StandsAt check seen NoPair (Closing done rest) at = at ≡ AtCheck (gathered_whole check 250 seen) done
StandsAt check seen (Response r) Done at = at ≡ AfterDle
StandsAt check seen (Response r) Whole at = at ≡ AfterDle
StandsAt check seen (Response r) (Among done rest) at = at ≡ InsideDle (gathered check 250 seen)
StandsAt check seen (Response r) (Closing done rest) at = ⊥
StandsAt check seen Opening (Among [] rest) at = (seen ≡ []) × (at ≡ AfterDle)
StandsAt check seen Doubling (Among done rest) at = (before : List ℕ) × (seen ≡ before ++ 16 ∷ []) × (at ≡ InsideDle (gathered check 250 before))
StandsAt check seen Ending (Closing [] rest) at = at ≡ InsideDle (gathered check 250 seen)
StandsAt check seen other progress at = ⊥

-- A decoder stands where the bytes that are given lead it; `body` is that of the frame that was begun last, and `seen` is what the
-- decoder has heard of it: as many bytes as are given, and the same ones, unless P. No ENQ is wished.
pub record InSync (P : Type 0) (g : Giving) (body : List ℕ) (d : Decoding) : Type 0 where
  pub check : d.check ≡ g.check
  pub asks_nothing : g.asking ≡ false
  pub progress : Progress
  pub pending : Pending
  pub is_progress : IsProgress g.check body progress
  pub left : g.left ≡ left_at g.check body progress
  pub gap : HasGap progress g.gap
  pub second : g.second ≡ second_of pending
  pub seen : List ℕ
  pub as_many : length seen ≡ length (done_of body progress)
  pub same : (seen ≡ done_of body progress) ⊎ P
  pub stands : StandsAt g.check seen pending progress d.standing

-- ---- what is heard at a byte

-- how many such responses are heard there
abbrev pub resps_heard : Resp → Option Heard → ℕ
resps_heard resp.Ack (Some heard.Ack) = 1
resps_heard resp.Nak (Some heard.Nak) = 1
resps_heard r other = 0

-- a body that a frame may have
abbrev pub IsFrame : List ℕ → Type 0
IsFrame body = (6 ≤ length body) × (length body ≤ 250)

-- nothing, or a response, where no transmission ends; and where one does a body of its length: its own, or P; and where the check differs, P
abbrev pub IsTrue : Type 0 → List ℕ → Option ℕ → Option Heard → List ℕ → Type 0
IsTrue P sending None None lent = Unit {0}
IsTrue P sending None (Some heard.Ack) lent = Unit {0}
IsTrue P sending None (Some heard.Nak) lent = Unit {0}
IsTrue P sending (Some number) (Some heard.Good) lent = IsFrame sending × (length lent ≡ length sending) × ((lent ≡ sending) ⊎ P)
IsTrue P sending (Some number) (Some heard.BadCheck) lent = IsFrame sending × (length lent ≡ length sending) × P
IsTrue P sending ends other lent = ⊥

-- a one-byte unit of the body of this transmission comes where the decoder is inside the frame, and is no DLE
abbrev pub IsBodyUnit : Check → ℕ → Standing → ℕ → Option ℕ → Type 0
IsBodyUnit check begun at byte None = Unit {0}
IsBodyUnit check begun at byte (Some number) = (number ≡ begun) × ((byte == 16) ≡ false) × ((seen : List ℕ) × (at ≡ Inside (gathered check 250 seen)))

-- ---- the responses that are to be given

abbrev pub is_resp : Resp → Resp → ℕ
is_resp resp.Ack resp.Ack = 1
is_resp resp.Nak resp.Nak = 1
is_resp r other = 0

abbrev pub waits : Resp → Option Resp → ℕ
waits r None = 0
waits r (Some other) = is_resp r other

abbrev pub begun : Resp → Option Out → ℕ
begun r None = 0
begun r (Some out) = if out.byte == code_of r then 1 else 0

abbrev pub owed : Resp → Giving → ℕ
owed r g = waits r g.waiting + begun r g.second

-- ---- a pair's second byte

-- where the decoder stands after it, and what is heard: a response at its second byte
abbrev Lands : Type 0 → Check → List ℕ → List ℕ → Progress → Standing → Out → Type 0
Lands P check body seen progress at out =
    let to = step check 250 at out.byte in
    StandsAt check seen NoPair progress to.0 × IsTrue P body out.last_of to.1 (lent_at to.0) × (out.body_of ≡ None) × (out.last_of ≡ None) × ((r : Resp) → begun r (Some out) ≡ resps_heard r to.1)

each-resp : (f g : Resp → ℕ) → f resp.Ack ≡ g resp.Ack → f resp.Nak ≡ g resp.Nak → (r : Resp) → f r ≡ g r
each-resp f g ack nak resp.Ack = ack
each-resp f g ack nak resp.Nak = nak

response-lands : (P : Type 0) (check : Check) (body seen : List ℕ) (progress : Progress) (at : Standing) (r : Resp) → StandsAt check seen (Response r) progress at → Lands P check body seen progress at (plain (code_of r))
response-lands P check body seen Done at resp.Ack s = rw s (tt, tt, refl, refl, each-resp _ _ refl refl)
response-lands P check body seen Done at resp.Nak s = rw s (tt, tt, refl, refl, each-resp _ _ refl refl)
response-lands P check body seen Whole at resp.Ack s = rw s (tt, tt, refl, refl, each-resp _ _ refl refl)
response-lands P check body seen Whole at resp.Nak s = rw s (tt, tt, refl, refl, each-resp _ _ refl refl)
response-lands P check body seen (Among done rest) at resp.Ack s = rw s (refl, tt, refl, refl, each-resp _ _ refl refl)
response-lands P check body seen (Among done rest) at resp.Nak s = rw s (refl, tt, refl, refl, each-resp _ _ refl refl)
response-lands P check body seen (Closing done rest) at r s = absurd s

lands : (P : Type 0) (check : Check) (body seen : List ℕ) (pending : Pending) (progress : Progress) (at : Standing) → StandsAt check seen pending progress at → IfSome (second_of pending) (Lands P check body seen progress at)
lands P check body seen NoPair progress at s = tt
lands P check body seen (Response r) progress at s = response-lands P check body seen progress at r s
lands P check body seen Opening (Among [] rest) at s = rw (s.1, s.0) (ap Inside (sym (gathered-nothing check 250)), tt, refl, refl, each-resp _ _ refl refl)
lands P check body seen Doubling (Among done rest) at s = rw (s.2, s.1) (ap Inside (gather-gathered check 250 s.0 16), tt, refl, refl, each-resp _ _ refl refl)
lands P check body seen Ending (Closing [] rest) at s = rw s (ap (λ (whole : Gathered). AtCheck whole []) (close-gathered check 250 seen), tt, refl, refl, each-resp _ _ refl refl)
lands P check body seen _ _ at s = absurd s

-- a byte is given, and the decoder that stood here hears it
abbrev Hears : Type 0 → Giving → List ℕ → Standing → Giving → Out → Type 0
Hears P g body at after out =
    let to = step g.check 250 at out.byte in
    InSync P after body (record { check = g.check; standing = to.0 }) × IsTrue P body out.last_of to.1 (lent_at to.0) × IsBodyUnit g.check g.begun at out.byte out.body_of × ((out.last_of ≡ None) ⊎ (after.left ≡ [])) × ((r : Resp) → owed r g ≡ owed r after + resps_heard r to.1)

no-unit : (check : Check) (number : ℕ) (at : Standing) (byte : ℕ) (o : Option ℕ) → o ≡ None → IsBodyUnit check number at byte o
no-unit check number at byte o none = rw none tt

hears-second : (P : Type 0) (g : Giving) (body : List ℕ) (d : Decoding) (out : Out) → InSync P g body d → g.second ≡ Some out → Hears P g body d.standing (record g { second = None }) out
hears-second P g body d out s e =
    let l = subst (λ (second : Option Out). IfSome second (Lands P g.check body s.seen s.progress d.standing)) (sym s.second ∙ e) (lands P g.check body s.seen s.pending s.progress d.standing s.stands) in (
      record { check = refl; asks_nothing = s.asks_nothing; progress = s.progress; pending = NoPair; is_progress = s.is_progress; left = s.left; gap = s.gap; second = refl; seen = s.seen; as_many = s.as_many; same = s.same; stands = l.0 },
      l.1,
      no-unit g.check g.begun d.standing out.byte out.body_of l.2,
      inl l.3,
      λ r. rw e (let heard = l.4 r in omega (arith, heard)),
    )

-- ---- a response

-- no pair is begun where no second byte is there
no-pair : (pending : Pending) → second_of pending ≡ None → pending ≡ NoPair
no-pair NoPair e = refl
no-pair _ e = absurd cc

stands-whole : {P : Type 0} {g : Giving} {body : List ℕ} {d : Decoding} (s : InSync P g body d) → g.second ≡ None → StandsAt g.check s.seen NoPair s.progress d.standing
stands-whole {g = g} {d = d} s none = subst (λ (pending : Pending). StandsAt g.check s.seen pending s.progress d.standing) (no-pair s.pending (sym s.second ∙ none)) s.stands

-- outside a frame a DLE begins a pair
outside-dle : (check : Check) (at : Standing) → IsOutside at → step check 250 at 16 ≡ (AfterDle, None)
outside-dle check Outside is = refl
outside-dle check (Ended body) is = refl
outside-dle check _ is = absurd is

-- at a response's first byte nothing is heard
response-begins : (check : Check) (body seen : List ℕ) (progress : Progress) (gap : Bool) (at : Standing) (r : Resp) → IsProgress check body progress → HasGap progress gap → (gap ≡ false → left_at check body progress ≡ []) → StandsAt check seen NoPair progress at
    → StandsAt check seen (Response r) progress (step check 250 at 16).0 × ((step check 250 at 16).1 ≡ None)
response-begins check body seen Done gap at r is has empty s = rw (outside-dle check at s) (refl, refl)
response-begins check body seen Whole gap at r is has empty s = absurd (let none = empty has in cc)
response-begins check body seen (Among done rest) gap at r is has empty s = rw s (refl, refl)
response-begins check body seen (Closing done rest) gap at r is has empty s = absurd (checks-left rest is.3 (empty has))

hears-response : (P : Type 0) (g : Giving) (body : List ℕ) (d : Decoding) (r : Resp) → InSync P g body d → chosen g ≡ Some (Respond r) → g.second ≡ None → g.waiting ≡ Some r
    → Hears P g body d.standing (record g { waiting = None; second = Some (plain (code_of r)) }) (plain 16)
hears-response P g body d r s e none is =
    let begins = response-begins g.check body s.seen s.progress g.gap d.standing r s.is_progress s.gap (λ gap. sym s.left ∙ responds-gap g r e gap) (stands-whole s none) in (
      record { check = refl; asks_nothing = s.asks_nothing; progress = s.progress; pending = Response r; is_progress = s.is_progress; left = s.left; gap = s.gap; second = refl; seen = s.seen; as_many = s.as_many; same = s.same; stands = begins.0 },
      rw begins.1 tt,
      tt,
      inl refl,
      λ other. rw (begins.1, none, is) (counted other r),
    )
  where
    counted : (other r : Resp) → is_resp other r + 0 ≡ (0 + begun other (Some (plain (code_of r)))) + resps_heard other None
    counted resp.Ack resp.Ack = refl
    counted resp.Ack resp.Nak = refl
    counted resp.Nak resp.Ack = refl
    counted resp.Nak resp.Nak = refl

-- ---- a unit of the frame

-- a unit may be given: no pair is begun, and no ENQ is wished
abbrev IsCalm : Giving → Type 0
IsCalm g = (g.asking ≡ false) × (g.second ≡ None)

-- what was heard of a body at this progress
abbrev HasSeen : Type 0 → List ℕ → Progress → List ℕ → Type 0
HasSeen P body progress seen = (length seen ≡ length (done_of body progress)) × ((seen ≡ done_of body progress) ⊎ P)

-- a unit leaves this progress, may begin this pair, and no response is heard
hears-part : (P : Type 0) (g : Giving) (body seen : List ℕ) (at to : Standing) (what : Option Heard) (left : List Given) (gap : Bool) (out : Out) (progress : Progress) (pending : Pending)
    → IsCalm g → step g.check 250 at out.byte ≡ (to, what) → IsProgress g.check body progress → left ≡ left_at g.check body progress → HasGap progress gap → HasSeen P body progress seen → StandsAt g.check seen pending progress to
    → IsTrue P body out.last_of what (lent_at to) → IsBodyUnit g.check g.begun at out.byte out.body_of → (out.last_of ≡ None) ⊎ (left ≡ []) → ((r : Resp) → begun r (second_of pending) + resps_heard r what ≡ 0) → Hears P g body at (record g { left = left; gap = gap; second = second_of pending }) out
hears-part P g body seen at to what left gap out progress pending calm goes is leaves has heard stands truth unit ends quiet =
    let after : InSync P (record g { left = left; gap = gap; second = second_of pending }) body (record { check = g.check; standing = to }) =
    record { check = refl; asks_nothing = calm.0; progress = progress; pending = pending; is_progress = is; left = leaves; gap = has; second = refl; seen = seen; as_many = heard.0; same = heard.1; stands = stands } in
    rw goes (after, truth, unit, ends, λ r. rw calm.1 (let none = quiet r in omega (arith, none)))

-- what is heard at the first byte of the first of these units
abbrev HearsFirst : Type 0 → Giving → List ℕ → Standing → List Given → Type 0
HearsFirst P g body at [] = Unit {0}
HearsFirst P g body at (unit ∷ rest) =
    let bytes = unit_out unit unit.second g.begun in
    Hears P g body at (record g { left = rest; gap = unit.gap; second = bytes.1 }) bytes.0

none-quiet : (pending : Pending) (what : Option Heard) → ((begun resp.Ack (second_of pending) + resps_heard resp.Ack what ≡ 0) × (begun resp.Nak (second_of pending) + resps_heard resp.Nak what ≡ 0)) → (r : Resp) → begun r (second_of pending) + resps_heard r what ≡ 0
none-quiet pending what both resp.Ack = both.0
none-quiet pending what both resp.Nak = both.1

-- one byte more was heard of a body
seen-more : (P : Type 0) (body done seen rest : List ℕ) (b : ℕ) → HasSeen P body (Among done (b ∷ rest)) seen → HasSeen P body (Among (done ++ b ∷ []) rest) (seen ++ b ∷ [])
seen-more P body done seen rest b (many, inl same) = (omega (arith, many, length-append seen (b ∷ []), length-append done (b ∷ [])), inl (ap (λ (xs : List ℕ). xs ++ b ∷ []) same))
seen-more P body done seen rest b (many, inr p) = (omega (arith, many, length-append seen (b ∷ []), length-append done (b ∷ [])), inr p)

-- a byte of the body
hears-body : (P : Type 0) (g : Giving) (body done seen rest : List ℕ) (b : ℕ) (dle : Bool) → (b == 16) ≡ dle → IsCalm g → IsProgress g.check body (Among (done ++ b ∷ []) rest) → HasSeen P body (Among done (b ∷ rest)) seen
    → HearsFirst P g body (Inside (gathered g.check 250 seen)) ((if dle then pair_unit 16 true else byte_unit b true false) ∷ (map body_unit rest ++ closing_units (check_of g.check body)))
hears-body P g body done seen rest b true e calm is has =
    let so_far = gathered g.check 250 seen in
    hears-part P g body (seen ++ b ∷ []) (Inside so_far) (InsideDle so_far) None _ true (plain 16) (Among (done ++ b ∷ []) rest) Doubling calm refl is refl tt (seen-more P body done seen rest b has) (seen, rw (eqb-true b 16 e) refl, refl) tt tt (inl refl) (none-quiet Doubling None (refl, refl))
hears-body P g body done seen rest b false e calm is has =
    hears-part P g body (seen ++ b ∷ []) (Inside (gathered g.check 250 seen)) (Inside (gathered g.check 250 (seen ++ b ∷ []))) None _ true (record { byte = b; last_of = None; body_of = Some g.begun }) (Among (done ++ b ∷ []) rest) NoPair calm
    (rw (e, gather-gathered g.check 250 seen b) refl) is refl tt (seen-more P body done seen rest b has) refl tt (refl, e, (seen, refl)) (inl refl) (none-quiet NoPair None (refl, refl))

-- the whole body was heard
seen-whole : (P : Type 0) (body done seen : List ℕ) → body ≡ done ++ [] → HasSeen P body (Among done []) seen → (length seen ≡ length body) × ((seen ≡ body) ⊎ P)
seen-whole P body done seen is (many, inl same) = let all = is ∙ append-nil done in (many ∙ ap length (sym all), inl (same ∙ sym all))
seen-whole P body done seen is (many, inr p) = let all = is ∙ append-nil done in (many ∙ ap length (sym all), inr p)

-- what is heard at the last check byte is true
verdict-true : (P : Type 0) (check : Check) (body seen : List ℕ) (number : ℕ) (equal : Bool) → same (check_of check body) (check_of check seen) ≡ equal → IsFrame body → length seen ≡ length body → (seen ≡ body) ⊎ P → IsTrue P body (Some number) (Some (if equal then heard.Good else heard.BadCheck)) seen
verdict-true P check body seen number true e is many was = (is, many, was)
verdict-true P check body seen number false e is many (inl was) = absurd (let yes = same-same (check_of check body) in let no : same (check_of check body) (check_of check body) ≡ false = ap (λ (xs : List ℕ). same (check_of check body) (check_of check xs)) (sym was) ∙ e in cc)
verdict-true P check body seen number false e is many (inr p) = (is, many, p)

verdict-quiet : (equal : Bool) (r : Resp) → begun r (second_of NoPair) + resps_heard r (Some (if equal then heard.Good else heard.BadCheck)) ≡ 0
verdict-quiet true resp.Ack = refl
verdict-quiet true resp.Nak = refl
verdict-quiet false resp.Ack = refl
verdict-quiet false resp.Nak = refl

-- the next unit, by the progress
hears-unit : (P : Type 0) (g : Giving) (body seen : List ℕ) (progress : Progress) (at : Standing) → IsCalm g → IsProgress g.check body progress → HasSeen P body progress seen → StandsAt g.check seen NoPair progress at → HearsFirst P g body at (left_at g.check body progress)
hears-unit P g body seen Done at calm is has s = tt
hears-unit P g body seen Whole at calm is has s =
    hears-part P g body [] at AfterDle None _ true (plain 16) (Among [] body) Opening calm (outside-dle g.check at s) (is.0, is.1, refl) refl tt (refl, inl refl) (refl, refl) tt tt (inl refl) (none-quiet Opening None (refl, refl))
hears-unit P g body seen (Among done []) at calm is has s =
    rw s (hears-part P g body seen (Inside (gathered g.check 250 seen)) (InsideDle (gathered g.check 250 seen)) None _ false (plain 16) (Closing [] (check_of g.check body)) Ending calm refl (is.0, is.1, refl, check-some g.check body) refl refl (seen-whole P body done seen is.2 has) refl tt tt (inl refl) (none-quiet Ending None (refl, refl)))
hears-unit P g body seen (Among done (b ∷ more)) at calm is has s =
    rw s (hears-body P g body done seen more b (b == 16) refl calm (is.0, is.1, is.2 ∙ sym (append_assoc done (b ∷ []) more)) has)
hears-unit P g body seen (Closing done []) at calm is has s = tt
hears-unit P g body seen (Closing done (b ∷ [])) at calm is has s =
    let equal = same (check_of g.check body) (check_of g.check seen) in
    rw s (hears-part P g body [] (AtCheck (gathered_whole g.check 250 seen) done) (Ended seen) (Some (if equal then heard.Good else heard.BadCheck)) [] false (record { byte = b; last_of = Some g.begun; body_of = None }) Done NoPair calm
    (check-ends g.check body seen done b is.0 is.1 has.0 is.2) tt refl tt (refl, inl refl) tt (verdict-true P g.check body seen g.begun equal refl (is.0, is.1) has.0 has.1) tt (inr refl) (verdict-quiet equal))
hears-unit P g body seen (Closing done (b ∷ c ∷ more)) at calm is has s =
    let whole = gathered_whole g.check 250 seen in
    rw s (hears-part P g body seen (AtCheck whole done) (AtCheck whole (done ++ b ∷ [])) None _ false (plain b) (Closing (done ++ b ∷ []) (c ∷ more)) NoPair calm (check-goes g.check body seen done more b c is.2) (is.0, is.1, is.2 ∙ sym (append_assoc done (b ∷ []) (c ∷ more)), λ e. cc) refl refl has refl tt tt (inl refl) (none-quiet NoPair None (refl, refl)))

-- the next byte, by what is chosen
hears-chosen : (P : Type 0) (g : Giving) (body : List ℕ) (d : Decoding) (c : Option Choice) → InSync P g body d → chosen g ≡ c → Chosen g.second g.waiting g.left g.asking c → IfSome (given g c).1 (Hears P g body d.standing (given g c).0)
hears-chosen P g body d None s e h = tt
hears-chosen P g body d (Some (Second out)) s e h = hears-second P g body d out s h
hears-chosen P g body d (Some (Respond r)) s e h = hears-response P g body d r s e h.0 h.1
hears-chosen P g body d (Some (Give unit)) s e h =
    let first = hears-unit P g body s.seen s.progress d.standing (s.asks_nothing, h.0) s.is_progress (s.as_many, s.same) (stands-whole s h.0) in
    rw h.1.1 (subst (HearsFirst P g body d.standing) (sym s.left ∙ h.1.1) first)
hears-chosen P g body d (Some Enquire) s e h = absurd (let none = s.asks_nothing in let some = h.3 in cc)

-- the decoder stays in sync, what it hears is true, and a response that it hears is no longer owed
pub sync-take : (P : Type 0) (g : Giving) (body : List ℕ) (d : Decoding) (out : Out) → InSync P g body d → (take g).1 ≡ Some out
    → InSync P (take g).0 body (next 250 d out.byte).0 × IsTrue P body out.last_of (next 250 d out.byte).1 (lent_at (next 250 d out.byte).0.standing) × IsBodyUnit d.check g.begun d.standing out.byte out.body_of × ((out.last_of ≡ None) ⊎ ((take g).0.left ≡ [])) × ((r : Resp) → owed r g ≡ owed r (take g).0 + resps_heard r (next 250 d out.byte).1)
sync-take P g body d out s e = rw s.check (subst (λ (o : Option Out). IfSome o (Hears P g body d.standing (take g).0)) e (hears-chosen P g body d (chosen g) s refl (is-chosen g)))

-- where nothing of a frame is left, none ends
second-plain : (pending : Pending) (out : Out) → second_of pending ≡ Some out → out.last_of ≡ None
second-plain NoPair out is = absurd cc
second-plain (Response r) out is = let same : plain (code_of r) ≡ out = cc in ap (λ (o : Out). o.last_of) (sym same)
second-plain Opening out is = let same : plain 2 ≡ out = cc in ap (λ (o : Out). o.last_of) (sym same)
second-plain Doubling out is = let same : plain 16 ≡ out = cc in ap (λ (o : Out). o.last_of) (sym same)
second-plain Ending out is = let same : plain 3 ≡ out = cc in ap (λ (o : Out). o.last_of) (sym same)

given-plain : (P : Type 0) (g : Giving) (body : List ℕ) (d : Decoding) (out : Out) (c : Option Choice) → InSync P g body d → g.left ≡ [] → Chosen g.second g.waiting g.left g.asking c → (given g c).1 ≡ Some out → out.last_of ≡ None
given-plain P g body d out None s left h is = absurd cc
given-plain P g body d out (Some (Second other)) s left h is = second-plain s.pending out (sym s.second ∙ h ∙ is)
given-plain P g body d out (Some (Respond r)) s left h is = let same : plain 16 ≡ out = cc in ap (λ (o : Out). o.last_of) (sym same)
given-plain P g body d out (Some (Give unit)) s left h is = absurd (let some = h.1.1 in let none = left in cc)
given-plain P g body d out (Some Enquire) s left h is = let same : plain 16 ≡ out = cc in ap (λ (o : Out). o.last_of) (sym same)

pub sync-plain : (P : Type 0) (g : Giving) (body : List ℕ) (d : Decoding) (out : Out) → InSync P g body d → g.left ≡ [] → (take g).1 ≡ Some out → out.last_of ≡ None
sync-plain P g body d out s left is = given-plain P g body d out (chosen g) s left (is-chosen g) is

-- and none is begun by giving
given-left : (g : Giving) (c : Option Choice) → g.left ≡ [] → (given g c).0.left ≡ []
given-left g None left = left
given-left g (Some (Second out)) left = left
given-left g (Some (Respond r)) left = left
given-left g (Some (Give unit)) left = rw left refl
given-left g (Some Enquire) left = left

pub take-left : (g : Giving) → g.left ≡ [] → (take g).0.left ≡ []
take-left g left = given-left g (chosen g) left

-- ---- nothing to give

-- what isn't there where nothing is chosen
none-there : (g : Giving) → chosen g ≡ None → Chosen g.second g.waiting g.left g.asking None
none-there g e = subst (Chosen g.second g.waiting g.left g.asking) e (is-chosen g)

-- no response is owed
pub quiet-owes : (g : Giving) → chosen g ≡ None → (r : Resp) → owed r g ≡ 0
quiet-owes g e r = let none = none-there g e in rw (none.0, none.1) refl

-- and nothing of a frame is left
pub quiet-left : (g : Giving) → chosen g ≡ None → g.left ≡ []
quiet-left g e = (none-there g e).2

-- the frame is done, and the decoder in none
left-none : (check : Check) (body : List ℕ) (progress : Progress) → IsProgress check body progress → left_at check body progress ≡ [] → progress ≡ Done
left-none check body Done is e = refl
left-none check body Whole is e = absurd cc
left-none check body (Among done []) is e = absurd cc
left-none check body (Among done (b ∷ rest)) is e = absurd cc
left-none check body (Closing done rest) is e = absurd (checks-left rest is.3 e)

-- where nothing of it is left, the frame is done
pub sync-done : {P : Type 0} {g : Giving} {body : List ℕ} {d : Decoding} → g.left ≡ [] → (s : InSync P g body d) → s.progress ≡ Done
sync-done {g = g} {body = body} none s = left-none g.check body s.progress s.is_progress (sym s.left ∙ none)

pub sync-nothing-left : {P : Type 0} {g : Giving} {body : List ℕ} {d : Decoding} → chosen g ≡ None → InSync P g body d → IsOutside d.standing
sync-nothing-left {g = g} {d = d} e s =
    let none = none-there g e in
    subst (λ (progress : Progress). StandsAt g.check s.seen NoPair progress d.standing) (sync-done none.2 s) (stands-whole s none.0)

done-outside : (check : Check) (seen : List ℕ) (pending : Pending) (at : Standing) → StandsAt check seen pending Done at → is_inside at ≡ false
done-outside check seen NoPair Outside s = refl
done-outside check seen NoPair (Ended body) s = refl
done-outside check seen NoPair other s = absurd s
done-outside check seen (Response r) at s = rw s refl
done-outside check seen other at s = absurd s

-- then the decoder is in no frame
pub sync-outside : {P : Type 0} {g : Giving} {body : List ℕ} {d : Decoding} → g.left ≡ [] → InSync P g body d → is_inside d.standing ≡ false
sync-outside {g = g} {d = d} none s = done-outside g.check s.seen s.pending d.standing (subst (λ (progress : Progress). StandsAt g.check s.seen s.pending progress d.standing) (sync-done none s) s.stands)

-- and what was heard of it no longer matters
pub sync-anew : {P : Type 0} (Q : Type 0) {g : Giving} {body : List ℕ} {d : Decoding} → g.left ≡ [] → InSync P g body d → InSync Q g body d
sync-anew Q {g = g} {body = body} {d = d} none s =
    let done = sync-done none s in
    let nothing_seen = no-bytes s.seen (s.as_many ∙ ap (λ (progress : Progress). length (done_of body progress)) done) in
    record {
      check = s.check;
      asks_nothing = s.asks_nothing;
      progress = Done;
      pending = s.pending;
      is_progress = tt;
      left = none;
      gap = tt;
      second = s.second;
      seen = [];
      as_many = refl;
      same = inl refl;
      stands = subst (λ (seen : List ℕ). StandsAt g.check seen s.pending Done d.standing) nothing_seen (subst (λ (progress : Progress). StandsAt g.check s.seen s.pending progress d.standing) done s.stands);
    }
  where
    no-bytes : (xs : List ℕ) → length xs ≡ 0 → xs ≡ []
    no-bytes [] e = refl
    no-bytes (x ∷ xs) e = absurd (omega (arith, e))

-- ---- what is put in

-- where nothing is to be given, and the decoder takes the next byte for the first of an item
pub sync-rest : (P : Type 0) (g : Giving) (body : List ℕ) (d : Decoding) → d.check ≡ g.check → chosen g ≡ None → IsOutside d.standing → InSync P g body d
sync-rest P g body d same e outside =
    let none = none-there g e in
    record { check = same; asks_nothing = none.3; progress = Done; pending = NoPair; is_progress = tt; left = none.2; gap = tt; second = none.0; seen = []; as_many = refl; same = inl refl; stands = outside }

-- a response waits, or no ENQ is wished
pub sync-offer : {P : Type 0} {g : Giving} {body : List ℕ} {d : Decoding} (r : Resp) → InSync P g body d → InSync P (offer g r) body d
sync-offer r s = record { check = s.check; asks_nothing = s.asks_nothing; progress = s.progress; pending = s.pending; is_progress = s.is_progress; left = s.left; gap = s.gap; second = s.second; seen = s.seen; as_many = s.as_many; same = s.same; stands = s.stands }

pub sync-unask : {P : Type 0} {g : Giving} {body : List ℕ} {d : Decoding} → InSync P g body d → InSync P (unask g) body d
sync-unask s = record { check = s.check; asks_nothing = refl; progress = s.progress; pending = s.pending; is_progress = s.is_progress; left = s.left; gap = s.gap; second = s.second; seen = s.seen; as_many = s.as_many; same = s.same; stands = s.stands }

-- a frame is begun
pub sync-begin : {P : Type 0} {g : Giving} {body : List ℕ} {d : Decoding} → chosen g ≡ None → InSync P g body d → (new : List ℕ) → 6 ≤ length new → length new ≤ 250 → InSync P (begin g new) new d
sync-begin {g = g} e s new least most =
    record { check = s.check; asks_nothing = s.asks_nothing; progress = Whole; pending = NoPair; is_progress = (least, most); left = refl; gap = refl; second = (none-there g e).0; seen = []; as_many = refl; same = inl refl; stands = sync-nothing-left e s }
