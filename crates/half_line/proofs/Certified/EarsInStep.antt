-- What a slave's ear is after bytes, wherever it stood before: a whole message leaves it near the beginning of an item, polls keep it there, and DLE ACK puts it in step.
use Rattle.std.proofs.Common.{◌≡◌, ℕ, ◌+◌, Bool, true, false, List, [], ◌∷◌, ◌++◌, length, refl, sym, subst, arith, inl, inr}
use Rattle.std.specs.Prelude.{◌⊎◌, ◌==◌, nat_lt, ◌/◌, ◌%◌, if◌then◌else◌}
use Rattle.std.specs.List.{flat_map}
use Rattle.std.proofs.lemmas.Bool.{ltb-true}
use Rattle.df1_check.specs.declared.Check.{Check}
use Rattle.df1_check.specs.declared.Check.TheVariants as kind
use Rattle.df1_check.specs.Checks.{bcc}
use Rattle.df1_frame.specs.Gathered.{Gathered, gather, close, verdict}
use Rattle.df1_frame.specs.Spelling.{Plain, Doubled, piece_bytes, pieces_of, check_of, check_bytes, check_len}
use Rattle.half_frame.specs.SlaveStanding.{Standing, Outside, Ended, AfterDle, AfterSoh, AfterEnq, AtPollCheck, AfterStation, AfterStationDle, AtText}
use Rattle.half_frame.specs.SlaveStep.{pair_next, step}
use Rattle.half_frame.specs.Spelling.{message_bytes, poll_bytes, pair_bytes, station_head}
use Rattle.half_frame.specs.TextStep.{Inside, InsideDle, AtCheck, is_good}
use Rattle.half_line.specs.Rest.{is_between_calls}

-- ---- bytes

abbrev pub after : Check → Standing → List ℕ → Standing
after check at [] = at
after check at (b ∷ bytes) = after check (step check 250 at b).0 bytes

pub after-both : (check : Check) (at : Standing) (xs ys : List ℕ) → after check at (xs ++ ys) ≡ after check (after check at xs) ys
after-both check at [] ys = refl
after-both check at (x ∷ xs) ys = after-both check (step check 250 at x).0 xs ys

-- in step, or behind a DLE, DLE SOH or DLE ENQ, which the bytes of a check can look like
abbrev pub is_near : Standing → Bool
is_near Outside = true
is_near (Ended body) = true
is_near AfterDle = true
is_near AfterSoh = true
is_near AfterEnq = true
is_near (AtPollCheck stn) = false
is_near (AfterStation stn) = false
is_near (AfterStationDle stn) = false
is_near (AtText stn at) = false

pub in-step-near : (at : Standing) → is_between_calls at ≡ true → is_near at ≡ true
in-step-near Outside is = refl
in-step-near (Ended body) is = refl
in-step-near AfterDle is = absurd cc
in-step-near AfterSoh is = absurd cc
in-step-near AfterEnq is = absurd cc
in-step-near (AtPollCheck stn) is = absurd cc
in-step-near (AfterStation stn) is = absurd cc
in-step-near (AfterStationDle stn) is = absurd cc
in-step-near (AtText stn at) is = absurd cc

-- ---- DLE ACK

-- it puts an ear that is near in step
pub ack-near : (check : Check) (at : Standing) → is_near at ≡ true → is_between_calls (after check at (pair_bytes 6)) ≡ true
ack-near check Outside near = refl
ack-near check (Ended body) near = refl
ack-near check AfterDle near = refl
ack-near check AfterSoh near = refl
ack-near check AfterEnq near = refl
ack-near check (AtPollCheck stn) near = absurd cc
ack-near check (AfterStation stn) near = absurd cc
ack-near check (AfterStationDle stn) near = absurd cc
ack-near check (AtText stn at) near = absurd cc

-- ---- a poll

-- two bytes outside leave an ear near
after-pair : (b : ℕ) → is_near (pair_next b).0 ≡ true
after-pair b = by-header (b == 1) (b == 5) refl refl
  where
    by-header : (header enquiry : Bool) → (b == 1) ≡ header → (b == 5) ≡ enquiry → is_near (pair_next b).0 ≡ true
    by-header true enquiry e f = rw e refl
    by-header false true e f = rw (e, f) refl
    by-header false false e f = rw (e, f) refl

-- a DLE outside, and another byte
outside-dle : (check : Check) (b : ℕ) → (b == 16) ≡ true → (step check 250 Outside b).0 ≡ AfterDle
outside-dle check b is = rw is refl

outside-other : (check : Check) (b : ℕ) → (b == 16) ≡ false → (step check 250 Outside b).0 ≡ Outside
outside-other check b is = rw is refl

outside-near : (check : Check) (b : ℕ) → is_near (step check 250 Outside b).0 ≡ true
outside-near check b = by-byte (b == 16) refl
  where
    by-byte : (dle : Bool) → (b == 16) ≡ dle → is_near (step check 250 Outside b).0 ≡ true
    by-byte true is = rw is refl
    by-byte false is = rw is refl

two-near : (check : Check) (a b : ℕ) → is_near (after check Outside (a ∷ b ∷ [])) ≡ true
two-near check a b = by-first (a == 16) refl
  where
    by-first : (dle : Bool) → (a == 16) ≡ dle → is_near (after check Outside (a ∷ b ∷ [])) ≡ true
    by-first true is = subst (λ (at : Standing). is_near (step check 250 at b).0 ≡ true) (sym (outside-dle check a is)) (after-pair b)
    by-first false is = subst (λ (at : Standing). is_near (step check 250 at b).0 ≡ true) (sym (outside-other check a is)) (outside-near check b)

-- it keeps an ear near, and one in step so
pub poll-near : (check : Check) (at : Standing) (stn : ℕ) → is_near at ≡ true → is_near (after check at (poll_bytes stn)) ≡ true
poll-near check Outside stn near = refl
poll-near check (Ended body) stn near = refl
poll-near check AfterDle stn near = two-near check stn (bcc (stn ∷ []))
poll-near check AfterSoh stn near = two-near check stn (bcc (stn ∷ []))
poll-near check AfterEnq stn near = two-near check stn (bcc (stn ∷ []))
poll-near check (AtPollCheck other) stn near = absurd cc
poll-near check (AfterStation other) stn near = absurd cc
poll-near check (AfterStationDle other) stn near = absurd cc
poll-near check (AtText other at) stn near = absurd cc

pub poll-in-step : (check : Check) (at : Standing) (stn : ℕ) → is_between_calls at ≡ true → is_between_calls (after check at (poll_bytes stn)) ≡ true
poll-in-step check Outside stn is = refl
poll-in-step check (Ended body) stn is = refl
poll-in-step check AfterDle stn is = absurd cc
poll-in-step check AfterSoh stn is = absurd cc
poll-in-step check AfterEnq stn is = absurd cc
poll-in-step check (AtPollCheck other) stn is = absurd cc
poll-in-step check (AfterStation other) stn is = absurd cc
poll-in-step check (AfterStationDle other) stn is = absurd cc
poll-in-step check (AtText other at) stn is = absurd cc

-- ---- a message: its header

-- inside a text
abbrev IsIn : Standing → Type 0
IsIn at = (stn : ℕ) × (so_far : Gathered) × (at ≡ AtText stn (Inside so_far))

-- a text's check byte, and its last
ends-between : (right : Bool) (so_far : Gathered) → is_between_calls (if right then Ended so_far.bytes else Outside) ≡ true
ends-between true so_far = refl
ends-between false so_far = refl

check-goes : (check : Check) (stn : ℕ) (so_far : Gathered) (bytes : List ℕ) (b : ℕ) → nat_lt (length bytes + 1) (check_len check) ≡ true → (step check 250 (AtText stn (AtCheck so_far bytes)) b).0 ≡ AtText stn (AtCheck so_far (bytes ++ b ∷ []))
check-goes check stn so_far bytes b goes = rw goes refl

check-ends : (check : Check) (stn : ℕ) (so_far : Gathered) (bytes : List ℕ) (b : ℕ) → nat_lt (length bytes + 1) (check_len check) ≡ false → is_between_calls (step check 250 (AtText stn (AtCheck so_far bytes)) b).0 ≡ true
check-ends check stn so_far bytes b ends = rw ends (ends-between (is_good (verdict check so_far (bytes ++ b ∷ []))) so_far)

-- there are two at most
second-ends : (check : Check) (bytes : List ℕ) (b : ℕ) → nat_lt (length bytes + 1) (check_len check) ≡ true → nat_lt (length (bytes ++ b ∷ []) + 1) (check_len check) ≡ false
second-ends kind.Bcc [] b goes = absurd cc
second-ends kind.Bcc (x ∷ bytes) b goes = absurd (let less = ltb-true (length (x ∷ bytes) + 1) 1 goes in omega (arith, less))
second-ends kind.Crc [] b goes = refl
second-ends kind.Crc (x ∷ bytes) b goes = absurd (let less = ltb-true (length (x ∷ bytes) + 1) 2 goes in omega (arith, less))

-- after DLE SOH: a message has begun, or an ear is between items or inside a text
abbrev HasSoh : Standing → Type 0
HasSoh at = (at ≡ AfterSoh) ⊎ ((is_between_calls at ≡ true) ⊎ IsIn at)

between-byte : (check : Check) (at : Standing) (b : ℕ) → is_between_calls at ≡ true → (b == 16) ≡ false → is_between_calls (step check 250 at b).0 ≡ true
between-byte check Outside b is other = rw other refl
between-byte check (Ended body) b is other = rw other refl
between-byte check AfterDle b is other = absurd cc
between-byte check AfterSoh b is other = absurd cc
between-byte check AfterEnq b is other = absurd cc
between-byte check (AtPollCheck stn) b is other = absurd cc
between-byte check (AfterStation stn) b is other = absurd cc
between-byte check (AfterStationDle stn) b is other = absurd cc
between-byte check (AtText stn at) b is other = absurd cc

check-soh : (check : Check) (stn : ℕ) (so_far : Gathered) (bytes : List ℕ) (goes : Bool) → nat_lt (length bytes + 1) (check_len check) ≡ goes → HasSoh (after check (AtText stn (AtCheck so_far bytes)) (16 ∷ 1 ∷ []))
check-soh check stn so_far bytes true is =
    subst (λ (at : Standing). HasSoh (step check 250 at 1).0) (sym (check-goes check stn so_far bytes 16 is)) (inr (inl (check-ends check stn so_far (bytes ++ 16 ∷ []) 1 (second-ends check bytes 16 is))))
check-soh check stn so_far bytes false is = inr (inl (between-byte check _ 1 (check-ends check stn so_far bytes 16 is) refl))

has-soh : (check : Check) (at : Standing) → HasSoh (after check at (16 ∷ 1 ∷ []))
has-soh check Outside = inl refl
has-soh check (Ended body) = inl refl
has-soh check AfterDle = inr (inl refl)
has-soh check AfterSoh = inr (inl refl)
has-soh check AfterEnq = inr (inl refl)
has-soh check (AtPollCheck stn) = inr (inl refl)
has-soh check (AfterStation stn) = inl refl
has-soh check (AfterStationDle stn) = inr (inl refl)
has-soh check (AtText stn (Inside so_far)) = inl refl
has-soh check (AtText stn (InsideDle so_far)) = inr (inr (stn, gather 250 (gather 250 so_far 16) 1, refl))
has-soh check (AtText stn (AtCheck so_far bytes)) = check-soh check stn so_far bytes (nat_lt (length bytes + 1) (check_len check)) refl

-- before the body an ear is between items or inside a text
abbrev IsAmong : Standing → Type 0
IsAmong at = (is_between_calls at ≡ true) ⊎ IsIn at

between-dle : (check : Check) (at : Standing) (b : ℕ) → is_between_calls at ≡ true → (b == 16) ≡ true → (step check 250 at b).0 ≡ AfterDle
between-dle check Outside b is dle = rw dle refl
between-dle check (Ended body) b is dle = rw dle refl
between-dle check AfterDle b is dle = absurd cc
between-dle check AfterSoh b is dle = absurd cc
between-dle check AfterEnq b is dle = absurd cc
between-dle check (AtPollCheck stn) b is dle = absurd cc
between-dle check (AfterStation stn) b is dle = absurd cc
between-dle check (AfterStationDle stn) b is dle = absurd cc
between-dle check (AtText stn at) b is dle = absurd cc

stx-between : (check : Check) (at : Standing) → is_between_calls at ≡ true → is_between_calls (after check at (16 ∷ 2 ∷ [])) ≡ true
stx-between check Outside is = refl
stx-between check (Ended body) is = refl
stx-between check AfterDle is = absurd cc
stx-between check AfterSoh is = absurd cc
stx-between check AfterEnq is = absurd cc
stx-between check (AtPollCheck stn) is = absurd cc
stx-between check (AfterStation stn) is = absurd cc
stx-between check (AfterStationDle stn) is = absurd cc
stx-between check (AtText stn at) is = absurd cc

between-stx : (check : Check) (at : Standing) (stn : ℕ) → is_between_calls at ≡ true → is_between_calls (after check at (stn ∷ 16 ∷ 2 ∷ [])) ≡ true
between-stx check at stn is = by-station (stn == 16) refl
  where
    by-station : (dle : Bool) → (stn == 16) ≡ dle → is_between_calls (after check at (stn ∷ 16 ∷ 2 ∷ [])) ≡ true
    by-station true e = subst (λ (to : Standing). is_between_calls (after check to (16 ∷ 2 ∷ [])) ≡ true) (sym (between-dle check at stn is e)) refl
    by-station false e = stx-between check (step check 250 at stn).0 (between-byte check at stn is e)

-- a byte of a text: a DLE, and another
in-dle : (check : Check) (stn : ℕ) (so_far : Gathered) (b : ℕ) → (b == 16) ≡ true → (step check 250 (AtText stn (Inside so_far)) b).0 ≡ AtText stn (InsideDle so_far)
in-dle check stn so_far b is = rw is refl

in-other : (check : Check) (stn : ℕ) (so_far : Gathered) (b : ℕ) → (b == 16) ≡ false → (step check 250 (AtText stn (Inside so_far)) b).0 ≡ AtText stn (Inside (gather 250 so_far b))
in-other check stn so_far b is = rw is refl

in-stx : (check : Check) (stn other : ℕ) (so_far : Gathered) (dle : Bool) → (stn == 16) ≡ dle → IsAmong (after check (AtText other (Inside so_far)) (stn ∷ 16 ∷ 2 ∷ []))
in-stx check stn other so_far true e =
    subst (λ (at : Standing). IsAmong (after check at (16 ∷ 2 ∷ []))) (sym (in-dle check other so_far stn e)) (inr (other, gather 250 (gather 250 so_far 16) 2, refl))
in-stx check stn other so_far false e = subst (λ (at : Standing). IsAmong (after check at (16 ∷ 2 ∷ []))) (sym (in-other check other so_far stn e)) (inl refl)

header-among : (check : Check) (at : Standing) (stn : ℕ) → IsAmong (after check at (16 ∷ 1 ∷ stn ∷ 16 ∷ 2 ∷ []))
header-among check at stn = by-soh (after check at (16 ∷ 1 ∷ [])) (has-soh check at)
  where
    by-soh : (at : Standing) → HasSoh at → IsAmong (after check at (stn ∷ 16 ∷ 2 ∷ []))
    by-soh at (inl is) = rw is (inr (stn, _, refl))
    by-soh at (inr (inl is)) = inl (between-stx check at stn is)
    by-soh at (inr (inr is)) = rw is.2 (in-stx check stn is.0 is.1 (stn == 16) refl)

-- one in step is inside the text
header-in : (check : Check) (at : Standing) (stn : ℕ) → is_between_calls at ≡ true → IsIn (after check at (16 ∷ 1 ∷ stn ∷ 16 ∷ 2 ∷ []))
header-in check Outside stn is = (stn, _, refl)
header-in check (Ended body) stn is = (stn, _, refl)
header-in check AfterDle stn is = absurd cc
header-in check AfterSoh stn is = absurd cc
header-in check AfterEnq stn is = absurd cc
header-in check (AtPollCheck other) stn is = absurd cc
header-in check (AfterStation other) stn is = absurd cc
header-in check (AfterStationDle other) stn is = absurd cc
header-in check (AtText other within) stn is = absurd cc

-- ---- its body

abbrev body_bytes : List ℕ → List ℕ
body_bytes body = flat_map piece_bytes (pieces_of body)

between-doubled : (check : Check) (at : Standing) → is_between_calls at ≡ true → is_between_calls (after check at (16 ∷ 16 ∷ [])) ≡ true
between-doubled check Outside is = refl
between-doubled check (Ended body) is = refl
between-doubled check AfterDle is = absurd cc
between-doubled check AfterSoh is = absurd cc
between-doubled check AfterEnq is = absurd cc
between-doubled check (AtPollCheck stn) is = absurd cc
between-doubled check (AfterStation stn) is = absurd cc
between-doubled check (AfterStationDle stn) is = absurd cc
between-doubled check (AtText stn at) is = absurd cc

-- a byte of the body, doubled where it is a DLE
piece-between : (check : Check) (at : Standing) (b : ℕ) (dle : Bool) → (b == 16) ≡ dle → is_between_calls at ≡ true → is_between_calls (after check at (piece_bytes (if dle then Doubled else Plain b))) ≡ true
piece-between check at b true e is = between-doubled check at is
piece-between check at b false e is = between-byte check at b is e

body-between : (check : Check) (body : List ℕ) (at : Standing) → is_between_calls at ≡ true → is_between_calls (after check at (body_bytes body)) ≡ true
body-between check [] at is = is
body-between check (b ∷ body) at is =
    let piece = piece_bytes (if b == 16 then Doubled else Plain b) in
    subst (λ (to : Standing). is_between_calls to ≡ true) (sym (after-both check at piece (body_bytes body))) (body-between check body (after check at piece) (piece-between check at b (b == 16) refl is))

piece-in : (check : Check) (stn : ℕ) (so_far : Gathered) (b : ℕ) (dle : Bool) → (b == 16) ≡ dle → IsIn (after check (AtText stn (Inside so_far)) (piece_bytes (if dle then Doubled else Plain b)))
piece-in check stn so_far b true e = (stn, gather 250 so_far 16, refl)
piece-in check stn so_far b false e = (stn, gather 250 so_far b, in-other check stn so_far b e)

body-in : (check : Check) (body : List ℕ) (stn : ℕ) (so_far : Gathered) → IsIn (after check (AtText stn (Inside so_far)) (body_bytes body))
body-in check [] stn so_far = (stn, so_far, refl)
body-in check (b ∷ body) stn so_far =
    let piece = piece_bytes (if b == 16 then Doubled else Plain b) in
    let here = piece-in check stn so_far b (b == 16) refl in
    subst IsIn (sym (after-both check (AtText stn (Inside so_far)) piece (body_bytes body))) (subst (λ (to : Standing). IsIn (after check to (body_bytes body))) (sym here.2) (body-in check body here.0 here.1))

-- ---- its end

between-etx : (check : Check) (at : Standing) → is_between_calls at ≡ true → (after check at (16 ∷ 3 ∷ [])) ≡ Outside
between-etx check Outside is = refl
between-etx check (Ended body) is = refl
between-etx check AfterDle is = absurd cc
between-etx check AfterSoh is = absurd cc
between-etx check AfterEnq is = absurd cc
between-etx check (AtPollCheck stn) is = absurd cc
between-etx check (AfterStation stn) is = absurd cc
between-etx check (AfterStationDle stn) is = absurd cc
between-etx check (AtText stn at) is = absurd cc

outside-check : (check : Check) (value : ℕ) → is_near (after check Outside (check_bytes check value)) ≡ true
unfolding check_bytes
outside-check kind.Bcc value = outside-near kind.Bcc value
outside-check kind.Crc value = two-near kind.Crc (value % 256) (value / 256)

between-closes : (check : Check) (at : Standing) (value : ℕ) → is_between_calls at ≡ true → is_near (after check at (16 ∷ 3 ∷ check_bytes check value)) ≡ true
between-closes check at value is = subst (λ (to : Standing). is_near (after check to (check_bytes check value)) ≡ true) (sym (between-etx check at is)) (outside-check check value)

in-closes : (check : Check) (stn : ℕ) (so_far : Gathered) (value : ℕ) → is_between_calls (after check (AtText stn (Inside so_far)) (16 ∷ 3 ∷ check_bytes check value)) ≡ true
unfolding check_bytes
in-closes kind.Bcc stn so_far value = ends-between (is_good (verdict kind.Bcc (close kind.Bcc so_far) (value ∷ []))) (close kind.Bcc so_far)
in-closes kind.Crc stn so_far value = ends-between (is_good (verdict kind.Crc (close kind.Crc so_far) (value % 256 ∷ value / 256 ∷ []))) (close kind.Crc so_far)

-- ---- a whole message

-- the bytes behind a text's body
abbrev closing : Check → List ℕ → List ℕ
closing check covered = 16 ∷ 3 ∷ check_of check covered

in-whole : (check : Check) (at : Standing) (body all : List ℕ) → IsIn at → is_between_calls (after check at (body_bytes body ++ closing check all)) ≡ true
in-whole check at body all is =
    let inside = body-in check body is.0 is.1 in
    rw is.2 (subst (λ (to : Standing). is_between_calls to ≡ true) (sym (after-both check (AtText is.0 (Inside is.1)) (body_bytes body) (closing check all)))
    (subst (λ (to : Standing). is_between_calls (after check to (closing check all)) ≡ true) (sym inside.2) (in-closes check inside.0 inside.1 _)))

among-whole : (check : Check) (at : Standing) (body all : List ℕ) → IsAmong at → is_near (after check at (body_bytes body ++ closing check all)) ≡ true
among-whole check at body all (inl is) =
    subst (λ (to : Standing). is_near to ≡ true) (sym (after-both check at (body_bytes body) (closing check all))) (between-closes check (after check at (body_bytes body)) _ (body-between check body at is))
among-whole check at body all (inr is) = in-step-near (after check at (body_bytes body ++ closing check all)) (in-whole check at body all is)

-- wherever an ear stood, it is near after a message, and in step where it was
pub message-near : (check : Check) (at : Standing) (stn : ℕ) (body : List ℕ) → is_near (after check at (message_bytes check stn body)) ≡ true
message-near check at stn body = among-whole check (after check at (16 ∷ 1 ∷ stn ∷ 16 ∷ 2 ∷ [])) body (station_head check stn ++ body) (header-among check at stn)

pub message-in-step : (check : Check) (at : Standing) (stn : ℕ) (body : List ℕ) → is_between_calls at ≡ true → is_between_calls (after check at (message_bytes check stn body)) ≡ true
message-in-step check at stn body is = in-whole check (after check at (16 ∷ 1 ∷ stn ∷ 16 ∷ 2 ∷ [])) body (station_head check stn ++ body) (header-in check at stn is)
