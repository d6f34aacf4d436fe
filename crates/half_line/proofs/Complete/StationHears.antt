-- What a station hears of what the master gives: DLE ACK, a poll, and a message.
use Rattle.std.proofs.Common.{◌≡◌, ℕ, ◌≤◌, true, false, List, [], ◌∷◌, ◌++◌, length, Option, Some, None, ap, refl, arith}
use Rattle.std.specs.Prelude.{◌==◌, slice_index}
use Rattle.std.specs.List.{flat_map}
use Rattle.std.proofs.lemmas.Bool.{eq-eqb, cond_both}
use Rattle.std.specs.Str.{bytes_eq}
use Rattle.std.proofs.lemmas.Slice.Eq.{bytes_eq-Decides}
use Rattle.df1_check.specs.declared.Check.{Check}
use Rattle.df1_check.specs.Checks.{bcc}
use Rattle.df1_frame.specs.Spelling.{check_of, pieces_of}
use Rattle.half_frame.specs.declared.framer.Sent.{Sent}
use Rattle.half_frame.specs.declared.heard.SlaveHeard.{SlaveHeard}
use Rattle.half_frame.specs.declared.heard.SlaveHeard.TheVariants as heard
use Rattle.half_frame.specs.SlaveGrammar.{pair_heard}
use Rattle.half_frame.specs.SlaveStanding.{Standing, Outside, Ended, AfterDle, AfterSoh, AfterEnq, AtPollCheck, AfterStation, AfterStationDle, AtText, Listening, lent_at}
use Rattle.half_frame.specs.SlaveStep.{step, next, begun_by, text_next}
use Rattle.half_frame.specs.Spelling.{station_head, unmarked, pair_bytes, poll_bytes, piece_sent, message_sent}
use Rattle.half_frame.specs.TextStep.{Within, Onward, Goes, Ends, Breaks, begun, text_step}
use Rattle.half_slave.specs.Slave.{is_whole, station_of}
use Rattle.lane_cells.specs.Cells.{ending_of}
use Rattle.lane_cells.specs.Deception.{is_to, station_deceptions}
use Rattle.half_line.proofs.Complete.ComingCells.{cells_of}
use Rattle.half_line.proofs.Complete.EarHears.{Ear, Telling, Hears, HearsTexts, telling, told, hears-byte, hears-text}
use Rattle.half_line.proofs.Complete.WholeText.{text-reads, reads-some}
use Rattle.half_slave.proofs.Sizes.{some-left}

-- in no message and no poll, and after no DLE
abbrev pub IsOutside : Standing → Type 0
IsOutside Outside = Unit {0}
IsOutside (Ended body) = Unit {0}
IsOutside AfterDle = ⊥
IsOutside AfterSoh = ⊥
IsOutside AfterEnq = ⊥
IsOutside (AtPollCheck stn) = ⊥
IsOutside (AfterStation stn) = ⊥
IsOutside (AfterStationDle stn) = ⊥
IsOutside (AtText stn at) = ⊥

-- ---- a byte that leads outside is one at which something is heard

abbrev Tells : Standing × Option SlaveHeard → Type 0
Tells to = IsOutside to.0 → to.1 ≡ None → ⊥

tells-onward : (stn : ℕ) (o : Onward) → Tells (text_next stn o)
tells-onward stn (Goes to) is none = is
tells-onward stn (Ends right so_far) is none = cc
tells-onward stn (Breaks code) is none = cc

pub tells-step : (check : Check) (at : Standing) (b : ℕ) → Tells (step check 250 at b)
tells-step check Outside b = cond_both (b == 16) (AfterDle, None) (Outside, Some (heard.Stray b)) Tells (λ _ is none. is) (λ _ is none. cc)
tells-step check (Ended body) b = cond_both (b == 16) (AfterDle, None) (Outside, Some (heard.Stray b)) Tells (λ _ is none. is) (λ _ is none. cc)
tells-step check AfterDle b =
    cond_both (b == 1) (AfterSoh, None) _ Tells (λ _ is none. is) (λ _. cond_both (b == 5) (AfterEnq, None) (Outside, Some (pair_heard b)) Tells (λ _ is none. is) (λ _ is none. cc))
tells-step check AfterSoh b = λ is none. is
tells-step check AfterEnq b = λ is none. is
tells-step check (AtPollCheck stn) b = λ is none. cc
tells-step check (AfterStation stn) b = cond_both (b == 16) (AfterStationDle stn, None) (Outside, Some (heard.Damaged stn)) Tells (λ _ is none. is) (λ _ is none. cc)
tells-step check (AfterStationDle stn) b =
    cond_both (b == 2) (AtText stn (begun check (station_head check stn)), Some (heard.Header stn)) (begun_by b, Some (heard.Damaged stn)) Tells (λ _ is none. is) (λ _ is none. cc)
tells-step check (AtText stn at) b = tells-onward stn (text_step check 250 at b)

-- the ear of a station
abbrev pub station_ear : Ear
station_ear = record {
  Value = Listening;
  What = SlaveHeard;
  step = next 250;
  lent = λ d. lent_at d.standing;
  deceived = λ what ends body. station_deceptions (is_whole what) (station_of what) ends body;
  IsOutside = λ d. IsOutside d.standing;
  tells = λ d b. tells-step d.check d.standing b;
}

-- ---- whole things

outside-dle : (check : Check) (at : Standing) → IsOutside at → step check 250 at 16 ≡ (AfterDle, None)
outside-dle check Outside is = refl
outside-dle check (Ended body) is = refl
outside-dle check other is = absurd is

-- DLE ACK
pub hears-ack : (d : Listening) (sending : List ℕ) → IsOutside d.standing → Hears station_ear d (cells_of None sending (unmarked (pair_bytes 6))) (told station_ear heard.Ack [] ∷ [])
hears-ack d sending is =
    let begins = outside-dle d.check d.standing is in
    record { tells = rw begins refl; outside = rw begins tt; honest = rw begins (refl, (refl, tt)) }

-- a poll
pub hears-poll : (d : Listening) (sending : List ℕ) (stn : ℕ) → IsOutside d.standing → Hears station_ear d (cells_of None sending (unmarked (poll_bytes stn))) (told station_ear (heard.Poll stn) [] ∷ [])
hears-poll d sending stn is =
    let begins = outside-dle d.check d.standing is in
    let right = eq-eqb (bcc (stn ∷ [])) (bcc (stn ∷ [])) refl in
    record { tells = rw (begins, right) refl; outside = rw begins tt; honest = rw (begins, right) (refl, (refl, (refl, (refl, tt)))) }

-- a text, of a transmission with this number and body to the station that its first byte names
no-deception : (stn number : ℕ) (body : List ℕ) → is_to stn body ≡ true → station_deceptions true stn (Some (ending_of body number)) body ≡ 0
no-deception stn number body to =
    let same : bytes_eq body body ≡ true = (bytes_eq-Decides body body).1 refl in
    rw (same, to) refl

first-is : (stn : ℕ) (body : List ℕ) → 6 ≤ length body → slice_index body 0 ≡ stn → is_to stn body ≡ true
first-is stn [] least is = absurd (omega (arith, least))
first-is stn (first ∷ rest) least is = eq-eqb first stn is

texts : (check : Check) (stn : ℕ) → HearsTexts station_ear check (λ at. record { check = check; standing = AtText stn at }) (λ body. record { check = check; standing = Ended body }) (heard.Addressed stn)
texts check stn = record {
  goes = λ from to b is. rw is refl;
  ends = λ from so_far b is. rw is refl;
  lends = λ body. refl;
  outside = λ body. tt;
  silent = λ body. refl;
}

-- the bytes of a message after its DLE STX
abbrev text_left : Check → ℕ → List ℕ → List Sent
text_left check stn body = flat_map piece_sent (pieces_of body) ++ unmarked (16 ∷ 3 ∷ check_of check (station_head check stn ++ body))

-- a message
pub hears-message : (d : Listening) (number : ℕ) (body : List ℕ) (stn : ℕ) → IsOutside d.standing → 6 ≤ length body → length body ≤ 250 → slice_index body 0 ≡ stn
    → Hears station_ear d (cells_of (Some number) body (message_sent d.check stn body)) (told station_ear (heard.Header stn) [] ∷ told station_ear (heard.Addressed stn) body ∷ [])
hears-message d number body stn is least most first =
    let ear : Standing → Listening = λ standing. record { check = d.check; standing = standing } in
    let at : Within → Listening = λ within. ear (AtText stn within) in
    let head = station_head d.check stn in
    let left = text_left d.check stn body in
    let reads = text-reads d.check head body least most in
    let text = hears-text station_ear d.check at (λ bytes. ear (Ended bytes)) (heard.Addressed stn) (texts d.check stn) number body (no-deception stn number body (first-is stn body least first)) (begun d.check head) left reads in
    let dle : Sent = record { byte = 16; of_body = false } in
    let stx : Sent = record { byte = 2; of_body = false } in
    let soh : Sent = record { byte = 1; of_body = false } in
    let to : Sent = record { byte = stn; of_body = false } in
    let byte : (from next : Listening) (what : Option SlaveHeard) (sent : Sent) (rest : List Sent) (all : List (Telling station_ear)) → (length rest == 0) ≡ false → station_ear.step from sent.byte ≡ (next, what) → station_ear.deceived what None (station_ear.lent next) ≡ 0
    → Hears station_ear next (cells_of (Some number) body rest) all → Hears station_ear from (cells_of (Some number) body (sent ∷ rest)) (telling station_ear what (station_ear.lent next) ++ all) =
    λ from next what sent rest all. hears-byte station_ear from next what (Some number) body sent rest all in
    let begins : station_ear.step d 16 ≡ (ear AfterDle, None) = ap (λ (o : Standing × Option SlaveHeard). (ear o.0, o.1)) (outside-dle d.check d.standing is) in
    let header = byte (ear (AfterStationDle stn)) (at (begun d.check head)) (Some (heard.Header stn)) stx left (told station_ear (heard.Addressed stn) body ∷ []) (reads-some d.check (begun d.check head) left body reads) refl refl text in
    let all = told station_ear (heard.Header stn) [] ∷ told station_ear (heard.Addressed stn) body ∷ [] in
    let second = byte (ear (AfterStation stn)) (ear (AfterStationDle stn)) None dle (stx ∷ left) all (some-left stx left) refl refl header in
    let station = byte (ear AfterSoh) (ear (AfterStation stn)) None to (dle ∷ stx ∷ left) all (some-left dle (stx ∷ left)) refl refl second in
    let opened = byte (ear AfterDle) (ear AfterSoh) None soh (to ∷ dle ∷ stx ∷ left) all (some-left to (dle ∷ stx ∷ left)) refl refl station in
    byte d (ear AfterDle) None dle (soh ∷ to ∷ dle ∷ stx ∷ left) all (some-left soh (to ∷ dle ∷ stx ∷ left)) begins refl opened
