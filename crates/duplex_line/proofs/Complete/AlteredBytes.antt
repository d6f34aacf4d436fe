-- A byte of a body is altered: the frame keeps its shape, so a decoder stands at each later byte where it would have stood, but for what it heard of the body.
use Rattle.std.proofs.Common.{◌≡◌, ◌∙◌, ℕ, ◌+◌, ◌≤◌, Bool, true, false, List, [], ◌∷◌, ◌++◌, length, cond, ltb, take, Option, Some, None, refl, ap, sym, subst, arith, length-append, inl, inr}
use Rattle.std.specs.Prelude.{◌==◌, if◌then◌else◌, nat_lt}
use Rattle.std.proofs.lemmas.Bool.{cases_lt, lt-ltb, le-ltb}
use Rattle.std.proofs.lemmas.List.{take_all}
use Rattle.df1_base.specs.declared.link.Resp.{Resp}
use Rattle.df1_base.specs.declared.link.Resp.TheVariants as resp
use Rattle.df1_check.specs.declared.Check.{Check}
use Rattle.df1_frame.specs.declared.heard.Heard.{Heard}
use Rattle.df1_frame.specs.declared.heard.Heard.TheVariants as heard
use Rattle.df1_frame.specs.Spelling.{response, check_len, check_of, check_bytes, same}
use Rattle.df1_frame.specs.Grammar.{stray_pair_heard}
use Rattle.df1_frame.specs.Gathered.{Gathered, gathered, gathered_whole, nothing_gathered, gather, close, verdict}
use Rattle.df1_frame.specs.Standing.{Standing, Outside, Ended, AfterDle, Inside, InsideDle, AtCheck, Decoding, lent_at}
use Rattle.df1_frame.specs.Step.{step, next, left_by, outside_next, response_next}
use Rattle.df1_frame.proofs.GatheredLemmas.{gathered-nothing, gather-gathered, close-gathered, verdict-gathered, left_by-gathered}
use Rattle.embedded_response.specs.Giving.{Giving}
use Rattle.lane_cells.specs.Cells.{LaneCell, bare}
use Rattle.duplex_line.proofs.Complete.DecoderPlace.{InSync, Progress, Done, Whole, Among, Closing, Pending, NoPair, Response, Opening, Doubling, Ending, StandsAt, IsProgress, IsOutside, IsFrame, IsBodyUnit, done_of, resps_heard}
use Rattle.duplex_line.proofs.Complete.ClearLane.{end_of, IsTrueEnd, IsClear, resps, verdict-ends}

-- as many bytes of a body were gathered by both, perhaps others
pub record AreLike (make : List ℕ → Gathered) (x y : Gathered) : Type 0 where
  pub one : List ℕ
  pub other : List ℕ
  pub is : x ≡ make one
  pub also : y ≡ make other
  pub many : length one ≡ length other

-- two decoders stand at the same place
abbrev pub Alike : Check → Standing → Standing → Type 0
Alike check Outside Outside = Unit {0}
Alike check Outside (Ended body) = Unit {0}
Alike check (Ended body) Outside = Unit {0}
Alike check (Ended body) (Ended other) = Unit {0}
Alike check AfterDle AfterDle = Unit {0}
Alike check (Inside x) (Inside y) = AreLike (gathered check 250) x y
Alike check (InsideDle x) (InsideDle y) = AreLike (gathered check 250) x y
Alike check (AtCheck x bytes) (AtCheck y others) = AreLike (gathered_whole check 250) x y × (bytes ≡ others)
Alike check at other = ⊥

-- what the other hears is true where Q holds, and the responses are the same
record HearAlike (P Q : Type 0) (h : Option Heard) (lent : List ℕ) (also : Option Heard) (also_lent : List ℕ) : Type 0 where
  truth : Q → (end : Option (List ℕ)) → IsTrueEnd P end h lent → IsTrueEnd Q end also also_lent
  same_resps : (r : Resp) → resps_heard r also ≡ resps_heard r h

-- after one byte
abbrev GoAlike : Type 0 → Type 0 → Check → Standing × Option Heard → Standing × Option Heard → Type 0
GoAlike P Q check to also = Alike check to.0 also.0 × HearAlike P Q to.1 (lent_at to.0) also.1 (lent_at also.0)

same-true : (P Q : Type 0) → Q → (end : Option (List ℕ)) (h : Option Heard) (lent : List ℕ) → IsTrueEnd P end h lent → IsTrueEnd Q end h lent
same-true P Q q None None lent t = tt
same-true P Q q None (Some heard.Ack) lent t = tt
same-true P Q q None (Some heard.Nak) lent t = tt
same-true P Q q (Some body) (Some heard.Good) lent t = (t.0, t.1, inr q)
same-true P Q q (Some body) (Some heard.BadCheck) lent t = (t.0, t.1, q)
same-true P Q q (Some body) None lent t = absurd t
same-true P Q q None (Some other) lent t = absurd t
same-true P Q q (Some body) (Some other) lent t = absurd t

same-heard : (P Q : Type 0) (h : Option Heard) (lent : List ℕ) → HearAlike P Q h lent h lent
same-heard P Q h lent = record { truth = λ q end t. same-true P Q q end h lent t; same_resps = λ r. refl }

nothing-like : (check : Check) → AreLike (gathered check 250) (nothing_gathered check) (nothing_gathered check)
nothing-like check = record { one = []; other = []; is = sym (gathered-nothing check 250); also = sym (gathered-nothing check 250); many = refl }

more-like : (check : Check) (x y : Gathered) (b c : ℕ) → AreLike (gathered check 250) x y → AreLike (gathered check 250) (gather 250 x b) (gather 250 y c)
more-like check x y b c l = record {
  one = l.one ++ b ∷ [];
  other = l.other ++ c ∷ [];
  is = ap (λ (z : Gathered). gather 250 z b) l.is ∙ gather-gathered check 250 l.one b;
  also = ap (λ (z : Gathered). gather 250 z c) l.also ∙ gather-gathered check 250 l.other c;
  many = omega (arith, l.many, length-append l.one (b ∷ []), length-append l.other (c ∷ []));
}

-- ---- outside a frame

apart-alike : (P Q : Type 0) (check : Check) (b : ℕ) → GoAlike P Q check (outside_next b) (outside_next b)
apart-alike P Q check b = by-dle (b == 16)
  where
    by-dle : (dle : Bool) → GoAlike P Q check (if dle then (AfterDle, None) else (Outside, Some (heard.Stray b))) (if dle then (AfterDle, None) else (Outside, Some (heard.Stray b)))
    by-dle true = (tt, same-heard P Q None [])
    by-dle false = (tt, same-heard P Q (Some (heard.Stray b)) [])

pair-alike : (P Q : Type 0) (check : Check) (b : ℕ) → GoAlike P Q check (step check 250 AfterDle b) (step check 250 AfterDle b)
pair-alike P Q check b = by-start (b == 2)
  where
    by-start : (start : Bool) → GoAlike P Q check (if start then (Inside (nothing_gathered check), None) else (Outside, Some (stray_pair_heard (response b) b))) (if start then (Inside (nothing_gathered check), None) else (Outside, Some (stray_pair_heard (response b) b)))
    by-start true = (nothing-like check, same-heard P Q None [])
    by-start false = (tt, same-heard P Q (Some (stray_pair_heard (response b) b)) [])

-- ---- inside it

inside-alike : (P Q : Type 0) (check : Check) (x y : Gathered) (b : ℕ) → AreLike (gathered check 250) x y → GoAlike P Q check (step check 250 (Inside x) b) (step check 250 (Inside y) b)
inside-alike P Q check x y b l = by-dle (b == 16)
  where
    by-dle : (dle : Bool) → GoAlike P Q check (if dle then (InsideDle x, None) else (Inside (gather 250 x b), None)) (if dle then (InsideDle y, None) else (Inside (gather 250 y b), None))
    by-dle true = (l, same-heard P Q None [])
    by-dle false = (more-like check x y b b l, same-heard P Q None [])

close-like : (check : Check) (x y : Gathered) → AreLike (gathered check 250) x y → Alike check (step check 250 (InsideDle x) 3).0 (step check 250 (InsideDle y) 3).0
close-like check x y l = (
  record {
    one = l.one;
    other = l.other;
    is = rw l.is (close-gathered check 250 l.one);
    also = rw l.also (close-gathered check 250 l.other);
    many = l.many;
  },
  refl,
)

abbrev after-dle : Check → Gathered → ℕ → Bool → Bool → Bool → Option Heard → Standing × Option Heard
after-dle check z b restart ends doubled r = if restart then (Inside (nothing_gathered check), Some heard.Restart) else (if ends then (AtCheck (close check z) [], None) else (if doubled then (Inside (gather 250 z 16), None) else response_next z b r))

after-alike : (P Q : Type 0) (check : Check) (x y : Gathered) (b : ℕ) → AreLike (gathered check 250) x y → GoAlike P Q check (step check 250 (InsideDle x) b) (step check 250 (InsideDle y) b)
after-alike P Q check x y b l = by-code (b == 2) (b == 3) (b == 16) (response b)
  where
    by-code : (restart ends doubled : Bool) (r : Option Heard) → GoAlike P Q check (after-dle check x b restart ends doubled r) (after-dle check y b restart ends doubled r)
    by-code true ends doubled r = (nothing-like check, same-heard P Q (Some heard.Restart) [])
    by-code false true doubled r = (close-like check x y l, same-heard P Q None [])
    by-code false false true r = (more-like check x y 16 16 l, same-heard P Q None [])
    by-code false false false (Some h) = (l, same-heard P Q (Some h) [])
    by-code false false false None = (tt, same-heard P Q (Some (heard.Broken b)) [])

-- ---- at the check bytes

left-outside : (check : Check) (x y : Gathered) → Alike check (left_by x) (left_by y)
left-outside check x y = by-long x.long y.long
  where
    by-long : (long also : Bool) → Alike check (if long then Outside else Ended x.bytes) (if also then Outside else Ended y.bytes)
    by-long true true = tt
    by-long true false = tt
    by-long false true = tt
    by-long false false = tt

verdict-resps : (check : Check) (x : Gathered) (bytes : List ℕ) (r : Resp) → resps_heard r (Some (verdict check x bytes)) ≡ 0
verdict-resps check x bytes r = by-tests x.long (same bytes (check_bytes check x.running.value)) (nat_lt (length x.bytes) 6) r
  where
    by-tests : (long equal short : Bool) (r : Resp) → resps_heard r (Some (if long then heard.Long else (if equal then (if short then heard.Short else heard.Good) else heard.BadCheck))) ≡ 0
    by-tests true equal short resp.Ack = refl
    by-tests true equal short resp.Nak = refl
    by-tests false true true resp.Ack = refl
    by-tests false true true resp.Nak = refl
    by-tests false true false resp.Ack = refl
    by-tests false true false resp.Nak = refl
    by-tests false false short resp.Ack = refl
    by-tests false false short resp.Nak = refl

-- the frame that ends is as long as the one that was given
frame-of : (P : Type 0) (body : List ℕ) (h : Heard) (lent : List ℕ) → IsTrueEnd P (Some body) (Some h) lent → IsFrame body × (length lent ≡ length body)
frame-of P body heard.Good lent t = (t.0, t.1)
frame-of P body heard.BadCheck lent t = (t.0, t.1)
frame-of P body other lent t = absurd t

lent-of : (check : Check) (one : List ℕ) → lent_at (left_by (gathered_whole check 250 one)) ≡ cond (ltb 250 (length one)) [] one
lent-of check one = elim (cases_lt 250 (length one)) [
  | inl lt ↦ rw (left_by-gathered check 250 one, lt-ltb 250 (length one) lt) refl
  | inr le ↦ rw (left_by-gathered check 250 one, le-ltb 250 (length one) le) refl
]

fits : (check : Check) (one body : List ℕ) → 6 ≤ length body → length (lent_at (left_by (gathered_whole check 250 one))) ≡ length body → (length one ≤ 250) × (length one ≡ length body)
fits check one body some is = elim (cases_lt 250 (length one)) [
  | inl lt ↦ absurd (let none : length (lent_at (left_by (gathered_whole check 250 one))) ≡ 0 = rw (lent-of check one, lt-ltb 250 (length one) lt) refl in omega (arith, some, is, none))
  | inr le ↦ (le, (let all : length (lent_at (left_by (gathered_whole check 250 one))) ≡ length one = rw (lent-of check one, le-ltb 250 (length one) le) refl in sym all ∙ is))
]

either-true : (Q : Type 0) (body other : List ℕ) (equal : Bool) → Q → IsFrame body → length other ≡ length body → IsTrueEnd Q (Some body) (Some (if equal then heard.Good else heard.BadCheck)) other
either-true Q body other true q frame many = (frame, many, inr q)
either-true Q body other false q frame many = (frame, many, q)

verdict-other : (Q : Type 0) (check : Check) (body other bytes : List ℕ) → Q → IsFrame body → length other ≡ length body → IsTrueEnd Q (Some body) (Some (verdict check (gathered_whole check 250 other) bytes)) (lent_at (left_by (gathered_whole check 250 other)))
verdict-other Q check body other bytes q frame many =
    let few : length other ≤ 250 = omega (arith, many, frame.1) in
    let some : 6 ≤ length other = omega (arith, many, frame.0) in
    rw (verdict-gathered check 250 other bytes, lent-of check other, le-ltb 250 (length other) few, le-ltb (length other) 6 some) (either-true Q body other (same bytes (check_of check other)) q frame many)

verdict-alike : (P Q : Type 0) (check : Check) (one other bytes : List ℕ) → length one ≡ length other → Q → (end : Option (List ℕ))
    → IsTrueEnd P end (Some (verdict check (gathered_whole check 250 one) bytes)) (lent_at (left_by (gathered_whole check 250 one))) → IsTrueEnd Q end (Some (verdict check (gathered_whole check 250 other) bytes)) (lent_at (left_by (gathered_whole check 250 other)))
verdict-alike P Q check one other bytes many q None t = absurd (verdict-ends P check (gathered_whole check 250 one) bytes _ t)
verdict-alike P Q check one other bytes many q (Some body) t =
    let frame = frame-of P body (verdict check (gathered_whole check 250 one) bytes) _ t in
    let fit = fits check one body frame.0.0 frame.1 in
    verdict-other Q check body other bytes q frame.0 (sym many ∙ fit.1)

check-alike : (P Q : Type 0) (check : Check) (x y : Gathered) (bytes : List ℕ) (b : ℕ) → AreLike (gathered_whole check 250) x y → GoAlike P Q check (step check 250 (AtCheck x bytes) b) (step check 250 (AtCheck y bytes) b)
check-alike P Q check x y bytes b l = by-count (nat_lt (length bytes + 1) (check_len check))
  where
    by-count : (goes : Bool) → GoAlike P Q check (if goes then (AtCheck x (bytes ++ b ∷ []), None) else (left_by x, Some (verdict check x (bytes ++ b ∷ [])))) (if goes then (AtCheck y (bytes ++ b ∷ []), None) else (left_by y, Some (verdict check y (bytes ++ b ∷ []))))
    by-count true = ((l, refl), same-heard P Q None [])
    by-count false = (
      left-outside check x y,
      record {
        truth = λ q end t. rw l.also (verdict-alike P Q check l.one l.other (bytes ++ b ∷ []) l.many q end (rw l.is at t));
        same_resps = λ r. verdict-resps check y (bytes ++ b ∷ []) r ∙ sym (verdict-resps check x (bytes ++ b ∷ []) r);
      },
    )

-- ---- at any byte

step-alike : (P Q : Type 0) (check : Check) (at also : Standing) (b : ℕ) → Alike check at also → GoAlike P Q check (step check 250 at b) (step check 250 also b)
step-alike P Q check Outside Outside b l = apart-alike P Q check b
step-alike P Q check Outside (Ended body) b l = apart-alike P Q check b
step-alike P Q check (Ended body) Outside b l = apart-alike P Q check b
step-alike P Q check (Ended body) (Ended other) b l = apart-alike P Q check b
step-alike P Q check AfterDle AfterDle b l = pair-alike P Q check b
step-alike P Q check (Inside x) (Inside y) b l = inside-alike P Q check x y b l
step-alike P Q check (InsideDle x) (InsideDle y) b l = after-alike P Q check x y b l
step-alike P Q check (AtCheck x bytes) (AtCheck y others) b l = subst (λ (bs : List ℕ). GoAlike P Q check (step check 250 (AtCheck x bytes) b) (step check 250 (AtCheck y bs) b)) l.1 (check-alike P Q check x y bytes b l.0)
step-alike P Q check _ _ b l = absurd l

-- ---- what the other decoder stands at

short-same : (check : Check) (seen one : List ℕ) → length seen ≤ 250 → take 250 seen ≡ take 250 one → nat_lt 250 (length seen) ≡ nat_lt 250 (length one) → length seen ≡ length one
short-same check seen one few bytes long = elim (cases_lt 250 (length one)) [
  | inl lt ↦ absurd (let no : nat_lt 250 (length seen) ≡ false = le-ltb 250 (length seen) few in let yes : nat_lt 250 (length one) ≡ true = lt-ltb 250 (length one) lt in let both : false ≡ true = sym no ∙ long ∙ yes in cc)
  | inr le ↦ ap length (sym (take_all 250 seen few) ∙ bytes ∙ take_all 250 one le)
]

like-same : (check : Check) (seen : List ℕ) (y : Gathered) → length seen ≤ 250 → AreLike (gathered check 250) (gathered check 250 seen) y → (other : List ℕ) × (y ≡ gathered check 250 other) × (length other ≡ length seen)
like-same check seen y few l = (l.other, l.also, sym (short-same check seen l.one few (ap (λ (z : Gathered). z.bytes) l.is) (ap (λ (z : Gathered). z.long) l.is) ∙ l.many))

whole-same : (check : Check) (seen : List ℕ) (y : Gathered) → length seen ≤ 250 → AreLike (gathered_whole check 250) (gathered_whole check 250 seen) y → (other : List ℕ) × (y ≡ gathered_whole check 250 other) × (length other ≡ length seen)
whole-same check seen y few l = (l.other, l.also, sym (short-same check seen l.one few (ap (λ (z : Gathered). z.bytes) l.is) (ap (λ (z : Gathered). z.long) l.is) ∙ l.many))

other-inside : (check : Check) (seen : List ℕ) (also : Standing) → length seen ≤ 250 → Alike check (Inside (gathered check 250 seen)) also → (other : List ℕ) × (also ≡ Inside (gathered check 250 other)) × (length other ≡ length seen)
other-inside check seen (Inside y) few l = let is = like-same check seen y few l in (is.0, ap Inside is.1, is.2)
other-inside check seen also few l = absurd l

other-after : (check : Check) (seen : List ℕ) (also : Standing) → length seen ≤ 250 → Alike check (InsideDle (gathered check 250 seen)) also → (other : List ℕ) × (also ≡ InsideDle (gathered check 250 other)) × (length other ≡ length seen)
other-after check seen (InsideDle y) few l = let is = like-same check seen y few l in (is.0, ap InsideDle is.1, is.2)
other-after check seen also few l = absurd l

other-checks : (check : Check) (seen bytes : List ℕ) (also : Standing) → length seen ≤ 250 → Alike check (AtCheck (gathered_whole check 250 seen) bytes) also → (other : List ℕ) × (also ≡ AtCheck (gathered_whole check 250 other) bytes) × (length other ≡ length seen)
other-checks check seen bytes (AtCheck y others) few l = let is = whole-same check seen y few l.0 in (is.0, ap (λ (z : Gathered). AtCheck z others) is.1 ∙ ap (AtCheck (gathered_whole check 250 is.0)) (sym l.1), is.2)
other-checks check seen bytes also few l = absurd l

other-pair : (check : Check) (also : Standing) → Alike check AfterDle also → also ≡ AfterDle
other-pair check AfterDle l = refl
other-pair check also l = absurd l

other-outside : (check : Check) (at also : Standing) → IsOutside at → Alike check at also → IsOutside also
other-outside check Outside Outside is l = tt
other-outside check Outside (Ended body) is l = tt
other-outside check (Ended body) Outside is l = tt
other-outside check (Ended body) (Ended other) is l = tt
other-outside check Outside _ is l = absurd l
other-outside check (Ended body) _ is l = absurd l
other-outside check _ _ is l = absurd is

-- of the bytes that are given there are at most 250
few-done : (check : Check) (body : List ℕ) (progress : Progress) → IsProgress check body progress → length (done_of body progress) ≤ 250
few-done check body Done is = omega arith
few-done check body Whole is = omega arith
few-done check body (Among done rest) is = omega (arith, is.1, ap length is.2, length-append done rest)
few-done check body (Closing done rest) is = is.1

-- so the other stands at the same place of the frame
other-stands : (check : Check) (seen : List ℕ) (pending : Pending) (progress : Progress) (at also : Standing) → length seen ≤ 250 → StandsAt check seen pending progress at → Alike check at also → (other : List ℕ) × (length other ≡ length seen) × StandsAt check other pending progress also
other-stands check seen NoPair Done at also few s l = (seen, refl, other-outside check at also s l)
other-stands check seen NoPair Whole at also few s l = (seen, refl, other-outside check at also s l)
other-stands check seen NoPair (Among done rest) at also few s l = let is = other-inside check seen also few (rw s at l) in (is.0, is.2, is.1)
other-stands check seen NoPair (Closing done rest) at also few s l = let is = other-checks check seen done also few (rw s at l) in (is.0, is.2, is.1)
other-stands check seen (Response r) Done at also few s l = (seen, refl, other-pair check also (rw s at l))
other-stands check seen (Response r) Whole at also few s l = (seen, refl, other-pair check also (rw s at l))
other-stands check seen (Response r) (Among done rest) at also few s l = let is = other-after check seen also few (rw s at l) in (is.0, is.2, is.1)
other-stands check seen Opening (Among [] rest) at also few s l = (seen, refl, (s.0, other-pair check also (rw s.1 at l)))
other-stands check seen Doubling (Among done rest) at also few s l =
    let count = length-append s.0 (16 ∷ []) in
    let before : length s.0 ≤ 250 = omega (arith, few, ap length s.1, count) in
    let is = other-after check s.0 also before (rw s.2 at l) in
    (is.0 ++ 16 ∷ [], omega (arith, is.2, ap length s.1, count, length-append is.0 (16 ∷ [])), (is.0, refl, is.1))
other-stands check seen Ending (Closing [] rest) at also few s l = let is = other-after check seen also few (rw s at l) in (is.0, is.2, is.1)
other-stands check seen _ _ at also few s l = absurd s

-- ---- over a lane

end-alike : (P Q : Type 0) (g : Giving) (sending : List ℕ) (d e : Decoding) → Q → e.check ≡ d.check → Alike d.check d.standing e.standing → InSync P g sending d → InSync Q g sending e
end-alike P Q g sending d e q check l s =
    let few : length s.seen ≤ 250 = omega (arith, s.as_many, few-done g.check sending s.progress s.is_progress) in
    let o = other-stands g.check s.seen s.pending s.progress d.standing e.standing few s.stands (subst (λ (c : Check). Alike c d.standing e.standing) s.check l) in
    record { check = check ∙ s.check; asks_nothing = s.asks_nothing; progress = s.progress; pending = s.pending; is_progress = s.is_progress; left = s.left; gap = s.gap; second = s.second; seen = o.0; as_many = o.1 ∙ s.as_many; same = inr q; stands = o.2 }

unit-alike : (check : Check) (number : ℕ) (at also : Standing) (byte : ℕ) (o : Option ℕ) → Alike check at also → IsBodyUnit check number at byte o → IsBodyUnit check number also byte o
unit-alike check number at also byte None l is = tt
unit-alike check number at also byte (Some n) l is = (is.0, is.1, inside also (rw is.2.1 at l))
  where
    inside : (also : Standing) → Alike check (Inside (gathered check 250 is.2.0)) also → (seen : List ℕ) × (also ≡ Inside (gathered check 250 seen))
    inside (Inside y) l = (l.other, ap Inside l.also)
    inside also l = absurd l

pub lane-alike : (P Q : Type 0) (d e : Decoding) (cells : List LaneCell) (g : Giving) (sending : List ℕ) → Q → e.check ≡ d.check → Alike d.check d.standing e.standing → IsClear P d cells g sending
    → IsClear Q e cells g sending × ((r : Resp) → resps r e cells ≡ resps r d cells)
lane-alike P Q d e [] g sending q check l c = (end-alike P Q g sending d e q check l c, λ r. refl)
lane-alike P Q d e (cell ∷ cells) g sending q check l c =
    let goes = subst (λ (k : Check). GoAlike P Q d.check (step d.check 250 d.standing cell.byte) (step k 250 e.standing cell.byte)) (sym check) (step-alike P Q d.check d.standing e.standing cell.byte l) in
    let more = lane-alike P Q (next 250 d cell.byte).0 (next 250 e cell.byte).0 cells g sending q check goes.0 c.1 in
    let unit = subst (λ (k : Check). IsBodyUnit k g.begun e.standing cell.byte cell.body_of) (sym check) (unit-alike d.check g.begun d.standing e.standing cell.byte cell.body_of l c.0.1) in
    (((goes.1.truth q (end_of cell) c.0.0, unit), more.0), λ r. let here = goes.1.same_resps r in let there = more.1 r in omega (arith, here, there))

-- ---- the altered head

-- the head of a lane may be altered: it comes inside a frame, and is no DLE
pub record IsWithin (d : Decoding) (byte : ℕ) : Type 0 where
  pub seen : List ℕ
  pub inside : d.standing ≡ Inside (gathered d.check 250 seen)
  pub plain : (byte == 16) ≡ false

pub byte-inside : (d : Decoding) (byte : ℕ) (w : IsWithin d byte) → next 250 d byte ≡ (record { check = d.check; standing = Inside (gathered d.check 250 (w.seen ++ byte ∷ [])) }, None)
byte-inside d byte w = rw (w.inside, w.plain, gather-gathered d.check 250 w.seen byte) refl

after-like : (check : Check) (seen : List ℕ) (b c : ℕ) → AreLike (gathered check 250) (gathered check 250 (seen ++ b ∷ [])) (gathered check 250 (seen ++ c ∷ []))
after-like check seen b c = record { one = seen ++ b ∷ []; other = seen ++ c ∷ []; is = refl; also = refl; many = omega (arith, length-append seen (b ∷ []), length-append seen (c ∷ [])) }

-- After it the lane is clear where Q holds, and the same responses are heard in it.
pub head-altered : (P Q : Type 0) (d : Decoding) (cell : LaneCell) (byte : ℕ) (cells : List LaneCell) (g : Giving) (sending : List ℕ) → Q → IsWithin d cell.byte → (byte == 16) ≡ false → IsClear P d (cell ∷ cells) g sending
    → IsClear Q d (bare byte ∷ cells) g sending × ((r : Resp) → resps r d (bare byte ∷ cells) ≡ resps r d (cell ∷ cells))
head-altered P Q d cell byte cells g sending q w plain c =
    let here = byte-inside d cell.byte w in
    let there = byte-inside d byte (record { seen = w.seen; inside = w.inside; plain = plain }) in
    let rest : IsClear P (record { check = d.check; standing = Inside (gathered d.check 250 (w.seen ++ cell.byte ∷ [])) }) cells g sending = subst (λ (to : Decoding × Option Heard). IsClear P to.0 cells g sending) here c.1 in
    let more = lane-alike P Q _ (record { check = d.check; standing = Inside (gathered d.check 250 (w.seen ++ byte ∷ [])) }) cells g sending q refl (after-like d.check w.seen cell.byte byte) rest in
    let truth : IsTrueEnd Q None (next 250 d byte).1 (lent_at (next 250 d byte).0.standing) = subst (λ (to : Decoding × Option Heard). IsTrueEnd Q None to.1 (lent_at to.0.standing)) (sym there) tt in
    let clear = subst (λ (to : Decoding × Option Heard). IsClear Q to.0 cells g sending) (sym there) more.0 in
    let heard_at : (r : Resp) → Decoding × Option Heard → ℕ = λ r to. resps_heard r to.1 + resps r to.0 cells in
    (((truth, tt), clear), λ r. ap (heard_at r) there ∙ none-heard r (more.1 r) ∙ sym (ap (heard_at r) here))
  where
    none-heard : {m n : ℕ} (r : Resp) → m ≡ n → resps_heard r None + m ≡ resps_heard r None + n
    none-heard resp.Ack same = omega (arith, same)
    none-heard resp.Nak same = omega (arith, same)
