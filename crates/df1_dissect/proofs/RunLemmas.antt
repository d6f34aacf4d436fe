-- What comes of a run of bytes before a DLE, on each side.
use Rattle.std.proofs.Common.{◌≡◌, ◌≢◌, ◌∙◌, ◌<◌, ℕ, ◌+◌, true, false, List, [], ◌∷◌, ◌++◌, length, take, refl, sym, ap, arith, append_assoc, add-zero}
use Rattle.std.proofs.lemmas.List.{append-nil}
use Rattle.std.proofs.lemmas.Bool.{ne_eqb}
use Rattle.df1_check.specs.declared.Check.{Check}
use Rattle.df1_frame.specs.Gathered.{Gathered, gather}
use Rattle.df1_frame.specs.Standing.{Standing, Outside, Ended, AfterDle, Inside, InsideDle, AtCheck, Decoding, is_inside}
use Rattle.df1_frame.specs.Step.{next as full_next}
use Rattle.df1_frame.specs.Runs.{run_len, steps}
use Rattle.df1_frame.proofs.RunLemmas.{run-inside, run-outside}
use Rattle.half_frame.specs.TextStep.{Inside as TextInside, InsideDle as TextDle, AtCheck as TextCheck}
use Rattle.half_frame.specs.SlaveStanding as slave_ear
use Rattle.half_frame.specs.SlaveStep as slave_step
use Rattle.half_frame.specs.MasterStanding as master_ear
use Rattle.half_frame.specs.MasterStep as master_step
use Rattle.half_frame.specs.Runs.{slave_run_len, master_run_len}
use Rattle.half_frame.specs.declared.side.Side.{Side}
use Rattle.df1_dissect.specs.declared.ear.Ear.{Ear}
use Rattle.df1_dissect.specs.declared.ear.Ear.TheVariants as ear
use Rattle.df1_dissect.specs.declared.ear.Turn.{Turn}
use Rattle.df1_dissect.specs.declared.ear.Turn.TheVariants as turn
use Rattle.df1_dissect.specs.declared.kind.Kind.TheVariants as kind
use Rattle.df1_dissect.specs.Hearing.{ear_next}
use Rattle.df1_dissect.specs.Reading.{Reading, StandsFor}
use Rattle.df1_dissect.specs.Lines.{kind_text}
use Rattle.df1_dissect.specs.Dissection.{HasLines, lines_at, lines_in, stray_line, stray_lines}
use Rattle.df1_dissect.specs.Step.{next}
use Rattle.df1_dissect.specs.Runs.{after, turns_in_run}
use Rattle.df1_dissect.proofs.Sides.{lines-next, stands-next}

-- ---- the ear after the bytes

pub full-value : (d : Decoding) (run : List ℕ) → (steps ear_next (ear.Full d) run).0 ≡ ear.Full (steps (full_next 250) d run).0
full-value d [] = refl
full-value d (b ∷ run) = full-value (full_next 250 d b).0 run

pub master-value : (d : slave_ear.Listening) (run : List ℕ) → (steps ear_next (ear.Master d) run).0 ≡ ear.Master (steps (slave_step.next 250) d run).0
master-value d [] = refl
master-value d (b ∷ run) = master-value (slave_step.next 250 d b).0 run

pub slave-value : (d : master_ear.Listening) (run : List ℕ) → (steps ear_next (ear.Slave d) run).0 ≡ ear.Slave (steps (master_step.next 250) d run).0
slave-value d [] = refl
slave-value d (b ∷ run) = slave-value (master_step.next 250 d b).0 run

-- ---- what comes of each of its bytes

abbrev strays : ℕ → Turn
strays b = turn.Ends (kind.Stray b)

abbrev full : Check → Standing → Ear
full check standing = ear.Full (record { check = check; standing = standing })

full-outside : (check : Check) (b : ℕ) → b ≢ 16 → ear_next (full check Outside) b ≡ (full check Outside, strays b)
full-outside check b plain = rw (ne_eqb b 16 plain) refl

full-ended : (check : Check) (body : List ℕ) (b : ℕ) → b ≢ 16 → ear_next (full check (Ended body)) b ≡ (full check Outside, strays b)
full-ended check body b plain = rw (ne_eqb b 16 plain) refl

full-inside : (check : Check) (so_far : Gathered) (b : ℕ) → b ≢ 16 → ear_next (full check (Inside so_far)) b ≡ (full check (Inside (gather 250 so_far b)), turn.Goes)
full-inside check so_far b plain = rw (ne_eqb b 16 plain) refl

pub full-turns : (check : Check) (standing : Standing) (n : ℕ) (bytes : List ℕ) → n ≡ run_len standing bytes → (steps ear_next (full check standing) (take n bytes)).1 ≡ turns_in_run (is_inside standing) (take n bytes)
full-turns check Outside n bytes count = run-outside ear_next strays (full check Outside) (full check Outside) (full-outside check) (full-outside check) n bytes count
full-turns check (Ended body) n bytes count = run-outside ear_next strays (full check (Ended body)) (full check Outside) (full-ended check body) (full-outside check) n bytes count
full-turns check AfterDle n bytes count = rw count refl
full-turns check (Inside so_far) n bytes count = run-inside ear_next (λ b. turn.Goes) 250 (λ (g : Gathered). full check (Inside g)) (full-inside check) so_far n bytes count
full-turns check (InsideDle so_far) n bytes count = rw count refl
full-turns check (AtCheck so_far check_bytes) n bytes count = rw count refl

abbrev master : Check → slave_ear.Standing → Ear
master check standing = ear.Master (record { check = check; standing = standing })

master-outside : (check : Check) (b : ℕ) → b ≢ 16 → ear_next (master check slave_ear.Outside) b ≡ (master check slave_ear.Outside, strays b)
master-outside check b plain = rw (ne_eqb b 16 plain) refl

master-ended : (check : Check) (body : List ℕ) (b : ℕ) → b ≢ 16 → ear_next (master check (slave_ear.Ended body)) b ≡ (master check slave_ear.Outside, strays b)
master-ended check body b plain = rw (ne_eqb b 16 plain) refl

master-inside : (check : Check) (stn : ℕ) (so_far : Gathered) (b : ℕ) → b ≢ 16
    → ear_next (master check (slave_ear.AtText stn (TextInside so_far))) b ≡ (master check (slave_ear.AtText stn (TextInside (gather 250 so_far b))), turn.Goes)
master-inside check stn so_far b plain = rw (ne_eqb b 16 plain) refl

pub master-turns : (check : Check) (standing : slave_ear.Standing) (n : ℕ) (bytes : List ℕ) → n ≡ slave_run_len standing bytes
    → (steps ear_next (master check standing) (take n bytes)).1 ≡ turns_in_run (slave_ear.is_inside standing) (take n bytes)
master-turns check slave_ear.Outside n bytes count = run-outside ear_next strays (master check slave_ear.Outside) (master check slave_ear.Outside) (master-outside check) (master-outside check) n bytes count
master-turns check (slave_ear.Ended body) n bytes count = run-outside ear_next strays (master check (slave_ear.Ended body)) (master check slave_ear.Outside) (master-ended check body) (master-outside check) n bytes count
master-turns check slave_ear.AfterDle n bytes count = rw count refl
master-turns check slave_ear.AfterSoh n bytes count = rw count refl
master-turns check slave_ear.AfterEnq n bytes count = rw count refl
master-turns check (slave_ear.AtPollCheck stn) n bytes count = rw count refl
master-turns check (slave_ear.AfterStation stn) n bytes count = rw count refl
master-turns check (slave_ear.AfterStationDle stn) n bytes count = rw count refl
master-turns check (slave_ear.AtText stn (TextInside so_far)) n bytes count =
    run-inside ear_next (λ b. turn.Goes) 250 (λ (g : Gathered). master check (slave_ear.AtText stn (TextInside g))) (master-inside check stn) so_far n bytes count
master-turns check (slave_ear.AtText stn (TextDle so_far)) n bytes count = rw count refl
master-turns check (slave_ear.AtText stn (TextCheck so_far check_bytes)) n bytes count = rw count refl

abbrev slave : Check → master_ear.Standing → Ear
slave check standing = ear.Slave (record { check = check; standing = standing })

slave-outside : (check : Check) (b : ℕ) → b ≢ 16 → ear_next (slave check master_ear.Outside) b ≡ (slave check master_ear.Outside, strays b)
slave-outside check b plain = rw (ne_eqb b 16 plain) refl

slave-ended : (check : Check) (body : List ℕ) (b : ℕ) → b ≢ 16 → ear_next (slave check (master_ear.Ended body)) b ≡ (slave check master_ear.Outside, strays b)
slave-ended check body b plain = rw (ne_eqb b 16 plain) refl

slave-inside : (check : Check) (so_far : Gathered) (b : ℕ) → b ≢ 16
    → ear_next (slave check (master_ear.AtText (TextInside so_far))) b ≡ (slave check (master_ear.AtText (TextInside (gather 250 so_far b))), turn.Goes)
slave-inside check so_far b plain = rw (ne_eqb b 16 plain) refl

pub slave-turns : (check : Check) (standing : master_ear.Standing) (n : ℕ) (bytes : List ℕ) → n ≡ master_run_len standing bytes
    → (steps ear_next (slave check standing) (take n bytes)).1 ≡ turns_in_run (master_ear.is_inside standing) (take n bytes)
slave-turns check master_ear.Outside n bytes count = run-outside ear_next strays (slave check master_ear.Outside) (slave check master_ear.Outside) (slave-outside check) (slave-outside check) n bytes count
slave-turns check (master_ear.Ended body) n bytes count = run-outside ear_next strays (slave check (master_ear.Ended body)) (slave check master_ear.Outside) (slave-ended check body) (slave-outside check) n bytes count
slave-turns check master_ear.AfterDle n bytes count = rw count refl
slave-turns check (master_ear.AtText (TextInside so_far)) n bytes count =
    run-inside ear_next (λ b. turn.Goes) 250 (λ (g : Gathered). slave check (master_ear.AtText (TextInside g))) (slave-inside check) so_far n bytes count
slave-turns check (master_ear.AtText (TextDle so_far)) n bytes count = rw count refl
slave-turns check (master_ear.AtText (TextCheck so_far check_bytes)) n bytes count = rw count refl

-- ---- a reader after a run

abbrev reading : Ear → ℕ → ℕ → ℕ → ℕ → Reading
reading e start fed heard bad = record { ear = e; start = start; fed = fed; heard = heard; bad = bad }

goes-on : (e : Ear) (start fed heard bad b : ℕ) → (ear_next e b).1 ≡ turn.Goes → (next (reading e start fed heard bad) b).0 ≡ reading (ear_next e b).0 start (fed + 1) heard bad
goes-on e start fed heard bad b turn = rw turn refl

pub after-goes : (e : Ear) (start fed heard bad : ℕ) (run : List ℕ) → (steps ear_next e run).1 ≡ turns_in_run true run
    → after (reading e start fed heard bad) run ≡ reading (steps ear_next e run).0 start (fed + length run) heard bad
after-goes e start fed heard bad [] turns = rw (add-zero fed) refl
after-goes e start fed heard bad (b ∷ run) turns =
    let first : (ear_next e b).1 ≡ turn.Goes = cc in
    let others : (steps ear_next (ear_next e b).0 run).1 ≡ turns_in_run true run = cc in
    let same : fed + 1 + length run ≡ fed + length (b ∷ run) = omega arith in
    ap (λ (r : Reading). after r run) (goes-on e start fed heard bad b first)
    ∙ after-goes (ear_next e b).0 start (fed + 1) heard bad run others
    ∙ ap (λ n. reading (steps ear_next (ear_next e b).0 run).0 start n heard bad) same

strays-on : (e : Ear) (start fed heard bad b : ℕ) → (ear_next e b).1 ≡ turn.Ends (kind.Stray b)
    → (next (reading e start fed heard bad) b).0 ≡ reading (ear_next e b).0 (fed + 1) (fed + 1) (heard + 1) (bad + 1)
strays-on e start fed heard bad b turn = rw turn refl

same-counts : (e : Ear) (s t n m h k b d : ℕ) → s ≡ t → n ≡ m → h ≡ k → b ≡ d → reading e s n h b ≡ reading e t m k d
same-counts e s t n m h k b d q r u w = rw (q, r, u, w) refl

after-strays : (e : Ear) (start fed heard bad b : ℕ) (run : List ℕ) → (steps ear_next e (b ∷ run)).1 ≡ turns_in_run false (b ∷ run)
    → after (reading e start fed heard bad) (b ∷ run) ≡ reading (steps ear_next e (b ∷ run)).0 (fed + length (b ∷ run)) (fed + length (b ∷ run)) (heard + length (b ∷ run)) (bad + length (b ∷ run))
after-strays e start fed heard bad b [] turns = strays-on e start fed heard bad b cc
after-strays e start fed heard bad b (c ∷ run) turns =
    let first : (ear_next e b).1 ≡ turn.Ends (kind.Stray b) = cc in
    let others : (steps ear_next (ear_next e b).0 (c ∷ run)).1 ≡ turns_in_run false (c ∷ run) = cc in
    ap (λ (r : Reading). after r (c ∷ run)) (strays-on e start fed heard bad b first)
    ∙ after-strays (ear_next e b).0 (fed + 1) (fed + 1) (heard + 1) (bad + 1) c run others
    ∙ same-counts _ _ _ _ _ _ _ _ _ (omega arith) (omega arith) (omega arith) (omega arith)

pub after-outside : (e : Ear) (start fed heard bad : ℕ) (run : List ℕ) → 0 < length run → (steps ear_next e run).1 ≡ turns_in_run false run
    → after (reading e start fed heard bad) run ≡ reading (steps ear_next e run).0 (fed + length run) (fed + length run) (heard + length run) (bad + length run)
after-outside e start fed heard bad [] some turns = absurd (omega arith)
after-outside e start fed heard bad (b ∷ run) some turns = after-strays e start fed heard bad b run turns

-- ---- the lines of a run

no-line : (e : Ear) (start fed heard bad b : ℕ) → (ear_next e b).1 ≡ turn.Goes → lines_at (reading e start fed heard bad) b ≡ []
no-line e start fed heard bad b turn = rw turn refl

pub lines-goes : (e : Ear) (start fed heard bad : ℕ) (run : List ℕ) → (steps ear_next e run).1 ≡ turns_in_run true run → lines_in (reading e start fed heard bad) run ≡ []
lines-goes e start fed heard bad [] turns = refl
lines-goes e start fed heard bad (b ∷ run) turns =
    let first : (ear_next e b).1 ≡ turn.Goes = cc in
    let others : (steps ear_next (ear_next e b).0 run).1 ≡ turns_in_run true run = cc in
    ap (λ (l : List ℕ). l ++ lines_in (next (reading e start fed heard bad) b).0 run) (no-line e start fed heard bad b first)
    ∙ ap (λ (r : Reading). lines_in r run) (goes-on e start fed heard bad b first)
    ∙ lines-goes (ear_next e b).0 start (fed + 1) heard bad run others

one-stray : (e : Ear) (start fed heard bad b : ℕ) → start ≡ fed → (ear_next e b).1 ≡ turn.Ends (kind.Stray b) → lines_at (reading e start fed heard bad) b ≡ stray_line fed b
unfolding kind_text
one-stray e start fed heard bad b same turn = rw (turn, same) (append-nil (stray_line fed b))

pub lines-strays : (e : Ear) (start fed heard bad : ℕ) (run : List ℕ) → start ≡ fed → (steps ear_next e run).1 ≡ turns_in_run false run → lines_in (reading e start fed heard bad) run ≡ stray_lines fed run
lines-strays e start fed heard bad [] same turns = refl
lines-strays e start fed heard bad (b ∷ run) same turns =
    let first : (ear_next e b).1 ≡ turn.Ends (kind.Stray b) = cc in
    let others : (steps ear_next (ear_next e b).0 run).1 ≡ turns_in_run false run = cc in
    ap (λ (l : List ℕ). l ++ lines_in (next (reading e start fed heard bad) b).0 run) (one-stray e start fed heard bad b same first)
    ∙ ap (λ (r : Reading). stray_line fed b ++ lines_in r run) (strays-on e start fed heard bad b first)
    ∙ ap (λ (l : List ℕ). stray_line fed b ++ l) (lines-strays (ear_next e b).0 (fed + 1) (fed + 1) (heard + 1) (bad + 1) run refl others)

-- ---- many bytes

pub after-fed : (bytes : List ℕ) (r : Reading) → (after r bytes).fed ≡ r.fed + length bytes
after-fed [] r = omega arith
after-fed (b ∷ bytes) r = omega (arith, after-fed bytes (next r b).0)

pub stands-after : (of : Side) (check : Check) (bytes before : List ℕ) (r : Reading) → StandsFor of check before r → StandsFor of check (before ++ bytes) (after r bytes)
stands-after of check [] before r stands = rw (append-nil before) stands
stands-after of check (b ∷ bytes) before r stands = rw (append_assoc before (b ∷ []) bytes) at (stands-after of check bytes (before ++ b ∷ []) (next r b).0 (stands-next of check b before r stands))

pub lines-after : (of : Side) (check : Check) (bytes before : List ℕ) (r : Reading) (so_far : List ℕ) → StandsFor of check before r → HasLines of check before so_far
    → HasLines of check (before ++ bytes) (so_far ++ lines_in r bytes)
lines-after of check [] before r so_far stands lines = rw (append-nil before, append-nil so_far) lines
lines-after of check (b ∷ bytes) before r so_far stands lines =
    rw (append_assoc before (b ∷ []) bytes, append_assoc so_far (lines_at r b) (lines_in (next r b).0 bytes))
    at (lines-after of check bytes (before ++ b ∷ []) (next r b).0 (so_far ++ lines_at r b) (stands-next of check b before r stands) (lines-next of check b before r so_far stands lines))

-- one stray byte more
pub strays-more : (bytes : List ℕ) (b at : ℕ) → stray_lines at (bytes ++ b ∷ []) ≡ stray_lines at bytes ++ stray_line (at + length bytes) b
strays-more [] b at = rw (add-zero at) (append-nil (stray_line at b))
strays-more (c ∷ bytes) b at =
    let same : at + 1 + length bytes ≡ at + length (c ∷ bytes) = omega arith in
    ap (λ (l : List ℕ). stray_line at c ++ l) (strays-more bytes b (at + 1) ∙ ap (λ n. stray_lines (at + 1) bytes ++ stray_line n b) same)
    ∙ sym (append_assoc (stray_line at c) (stray_lines (at + 1) bytes) (stray_line (at + length (c ∷ bytes)) b))
