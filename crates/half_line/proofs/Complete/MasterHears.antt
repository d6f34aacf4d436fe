-- What the master hears of what a station gives: DLE ACK, DLE EOT, and a message.
use Rattle.std.proofs.Common.{◌≡◌, ℕ, ◌≤◌, true, false, List, [], ◌∷◌, ◌++◌, length, Option, Some, None, ap, refl}
use Rattle.std.specs.Prelude.{◌==◌}
use Rattle.std.specs.List.{flat_map}
use Rattle.std.proofs.lemmas.Bool.{cond_both}
use Rattle.std.specs.Str.{bytes_eq}
use Rattle.std.proofs.lemmas.Slice.Eq.{bytes_eq-Decides}
use Rattle.df1_check.specs.declared.Check.{Check}
use Rattle.df1_frame.specs.Spelling.{check_of, pieces_of}
use Rattle.half_frame.specs.declared.framer.Sent.{Sent}
use Rattle.half_frame.specs.declared.heard.MasterHeard.{MasterHeard}
use Rattle.half_frame.specs.declared.heard.MasterHeard.TheVariants as heard
use Rattle.half_frame.specs.MasterGrammar.{pair_heard}
use Rattle.half_frame.specs.MasterStanding.{Standing, Outside, Ended, AfterDle, AtText, Listening, lent_at}
use Rattle.half_frame.specs.MasterStep.{step, next, text_next}
use Rattle.half_frame.specs.Spelling.{unmarked, pair_bytes, piece_sent, reply_sent}
use Rattle.half_frame.specs.TextStep.{Onward, Goes, Ends, Breaks, begun, text_step}
use Rattle.half_master.specs.Master.{is_good}
use Rattle.lane_cells.specs.Cells.{ending_of}
use Rattle.lane_cells.specs.Deception.{deceptions}
use Rattle.half_line.proofs.Complete.ComingCells.{cells_of}
use Rattle.half_line.proofs.Complete.EarHears.{Ear, Hears, HearsTexts, told, hears-byte, hears-text}
use Rattle.half_line.proofs.Complete.WholeText.{text-reads, reads-some}
use Rattle.half_slave.proofs.Sizes.{some-left}

-- in no message, and after no DLE
abbrev pub IsOutside : Standing → Type 0
IsOutside Outside = Unit {0}
IsOutside (Ended body) = Unit {0}
IsOutside AfterDle = ⊥
IsOutside (AtText at) = ⊥

-- ---- a byte that leads outside is one at which something is heard

abbrev Tells : Standing × Option MasterHeard → Type 0
Tells to = IsOutside to.0 → to.1 ≡ None → ⊥

tells-onward : (check : Check) (o : Onward) → Tells (text_next check o)
tells-onward check (Goes to) is none = is
tells-onward check (Ends right so_far) is none = cc
tells-onward check (Breaks code) is none = cc

pub tells-step : (check : Check) (at : Standing) (b : ℕ) → Tells (step check 250 at b)
tells-step check Outside b = cond_both (b == 16) (AfterDle, None) (Outside, Some (heard.Stray b)) Tells (λ _ is none. is) (λ _ is none. cc)
tells-step check (Ended body) b = cond_both (b == 16) (AfterDle, None) (Outside, Some (heard.Stray b)) Tells (λ _ is none. is) (λ _ is none. cc)
tells-step check AfterDle b = cond_both (b == 2) (AtText (begun check []), None) (Outside, Some (pair_heard b)) Tells (λ _ is none. is) (λ _ is none. cc)
tells-step check (AtText at) b = tells-onward check (text_step check 250 at b)

-- the ear of the master
abbrev pub master_ear : Ear
master_ear = record {
  Value = Listening;
  What = MasterHeard;
  step = next 250;
  lent = λ d. lent_at d.standing;
  deceived = λ what ends body. deceptions (is_good what) ends body;
  IsOutside = λ d. IsOutside d.standing;
  tells = λ d b. tells-step d.check d.standing b;
}

-- ---- whole things

outside-dle : (check : Check) (at : Standing) → IsOutside at → step check 250 at 16 ≡ (AfterDle, None)
outside-dle check Outside is = refl
outside-dle check (Ended body) is = refl
outside-dle check other is = absurd is

-- DLE ACK
pub hears-ack : (d : Listening) (sending : List ℕ) → IsOutside d.standing → Hears master_ear d (cells_of None sending (unmarked (pair_bytes 6))) (told master_ear heard.Ack [] ∷ [])
hears-ack d sending is =
    let begins = outside-dle d.check d.standing is in
    record { tells = rw begins refl; outside = rw begins tt; honest = rw begins (refl, (refl, tt)) }

-- DLE EOT
pub hears-eot : (d : Listening) (sending : List ℕ) → IsOutside d.standing → Hears master_ear d (cells_of None sending (unmarked (pair_bytes 4))) (told master_ear heard.Eot [] ∷ [])
hears-eot d sending is =
    let begins = outside-dle d.check d.standing is in
    record { tells = rw begins refl; outside = rw begins tt; honest = rw begins (refl, (refl, tt)) }

-- a message
no-deception : (number : ℕ) (body : List ℕ) → deceptions true (Some (ending_of body number)) body ≡ 0
no-deception number body =
    let same : bytes_eq body body ≡ true = (bytes_eq-Decides body body).1 refl in
    rw same refl

texts : (check : Check) → HearsTexts master_ear check (λ at. record { check = check; standing = AtText at }) (λ body. record { check = check; standing = Ended body }) heard.Good
texts check = record {
  goes = λ from to b is. rw is refl;
  ends = λ from so_far b is. rw is refl;
  lends = λ body. refl;
  outside = λ body. tt;
  silent = λ body. refl;
}

-- the bytes of a message after its DLE STX
abbrev text_left : Check → List ℕ → List Sent
text_left check body = flat_map piece_sent (pieces_of body) ++ unmarked (16 ∷ 3 ∷ check_of check body)

pub hears-reply : (d : Listening) (number : ℕ) (body : List ℕ) → IsOutside d.standing → 6 ≤ length body → length body ≤ 250
    → Hears master_ear d (cells_of (Some number) body (reply_sent d.check body)) (told master_ear heard.Good body ∷ [])
hears-reply d number body is least most =
    let ear : Standing → Listening = λ standing. record { check = d.check; standing = standing } in
    let left = text_left d.check body in
    let reads = text-reads d.check [] body least most in
    let text = hears-text master_ear d.check (λ within. ear (AtText within)) (λ bytes. ear (Ended bytes)) heard.Good (texts d.check) number body (no-deception number body) (begun d.check []) left reads in
    let dle : Sent = record { byte = 16; of_body = false } in
    let stx : Sent = record { byte = 2; of_body = false } in
    let all = told master_ear heard.Good body ∷ [] in
    let begins : master_ear.step d 16 ≡ (ear AfterDle, None) = ap (λ (o : Standing × Option MasterHeard). (ear o.0, o.1)) (outside-dle d.check d.standing is) in
    let opened = hears-byte master_ear (ear AfterDle) (ear (AtText (begun d.check []))) None (Some number) body stx left all (reads-some d.check (begun d.check []) left body reads) refl refl text in
    hears-byte master_ear d (ear AfterDle) None (Some number) body dle (stx ∷ left) all (some-left stx left) begins refl opened
