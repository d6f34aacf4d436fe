-- The master begins a thing, where it has given all else: what each station will hear then.
use Rattle.std.proofs.Common.{◌≡◌, ◌≢◌, ◌∙◌, ℕ, ◌≤◌, List, [], ◌∷◌, ◌++◌, length, Some, None, refl, ap, sym, subst, append_assoc, append-nil}
use Rattle.std.specs.Prelude.{slice_index}
use Rattle.df1_check.specs.declared.Check.{Check}
use Rattle.half_frame.specs.declared.framer.Sent.{Sent}
use Rattle.half_frame.specs.declared.heard.SlaveHeard.TheVariants as heard
use Rattle.half_frame.specs.SlaveStanding.{Listening}
use Rattle.half_frame.specs.Spelling.{unmarked, pair_bytes, poll_bytes, message_sent}
use Rattle.half_mouth.specs.Giving.{Giving}
use Rattle.half_slave.specs.Slave.{SlaveState}
use Rattle.lane_cells.specs.Cells.{LaneCell}
use Rattle.half_line.proofs.Complete.ComingCells.{cells_of, coming}
use Rattle.half_line.proofs.Complete.EarHears.{Telling, told, Hears, ear_after, hears-join}
use Rattle.half_line.proofs.Complete.StationHears.{station_ear, hears-ack, hears-poll, hears-message}
use Rattle.half_line.proofs.Complete.StationRests.{AllPass, the_ack, rest-more, Rests, Called}

-- ---- more cells behind those that a station at rest will hear

-- all that is told of them passes it over
pub rests-join : {H : Type 0} (s : SlaveState H) (cells new : List LaneCell) (more : List (Telling station_ear)) (r : Rests s cells) → Hears station_ear (ear_after station_ear s.ear cells) new more → AllPass s.setup.station more → Rests s (cells ++ new)
rests-join s cells new more r hears pass = record {
  all = r.all ++ more;
  hears = hears-join station_ear s.ear cells new r.all more r.hears hears;
  still = r.still;
  rest = rest-more more pass r.rest;
}

-- the last of it calls the station
pub called-join : {H : Type 0} (s : SlaveState H) (cells new : List LaneCell) (more : List (Telling station_ear)) (call : Telling station_ear) (r : Rests s cells) → Hears station_ear (ear_after station_ear s.ear cells) new (more ++ call ∷ []) → AllPass s.setup.station more
    → Called s (cells ++ new) call
called-join s cells new more call r hears pass = record {
  before = r.all ++ more;
  hears = subst (Hears station_ear s.ear (cells ++ new)) (sym (append_assoc r.all more (call ∷ []))) (hears-join station_ear s.ear cells new r.all (more ++ call ∷ []) r.hears hears);
  still = r.still;
  rest = rest-more more pass r.rest;
}

-- an ear keeps the check of its line
ear-check : (d : Listening) (cells : List LaneCell) → (ear_after station_ear d cells).check ≡ d.check
ear-check d [] = refl
ear-check d (cell ∷ cells) = ear-check (station_ear.step d cell.byte).0 cells

-- ---- what is begun

-- DLE ACK
pub rests-ack : {H : Type 0} (s : SlaveState H) (cells : List LaneCell) (sending : List ℕ) → Rests s cells → Rests s (cells ++ cells_of None sending (unmarked (pair_bytes 6)))
rests-ack s cells sending r = rests-join s cells _ (the_ack ∷ []) r (hears-ack (ear_after station_ear s.ear cells) sending r.hears.outside) (tt, tt)

-- a poll: of another station, and of this one
pub rests-poll : {H : Type 0} (s : SlaveState H) (cells : List LaneCell) (sending : List ℕ) (stn : ℕ) → stn ≢ s.setup.station → Rests s cells → Rests s (cells ++ cells_of None sending (unmarked (poll_bytes stn)))
rests-poll s cells sending stn other r = rests-join s cells _ (told station_ear (heard.Poll stn) [] ∷ []) r (hears-poll (ear_after station_ear s.ear cells) sending stn r.hears.outside) (other, tt)

pub called-poll : {H : Type 0} (s : SlaveState H) (cells : List LaneCell) (sending : List ℕ) (stn : ℕ) → Rests s cells → Called s (cells ++ cells_of None sending (unmarked (poll_bytes stn))) (told station_ear (heard.Poll stn) [])
called-poll s cells sending stn r = called-join s cells _ [] (told station_ear (heard.Poll stn) []) r (hears-poll (ear_after station_ear s.ear cells) sending stn r.hears.outside) tt

-- a message: to another station, and to this one
message-tells : {H : Type 0} (s : SlaveState H) (cells : List LaneCell) (check : Check) (number : ℕ) (body : List ℕ) (stn : ℕ) → s.ear.check ≡ check → 6 ≤ length body → length body ≤ 250 → slice_index body 0 ≡ stn → Rests s cells
    → Hears station_ear (ear_after station_ear s.ear cells) (cells_of (Some number) body (message_sent check stn body)) (told station_ear (heard.Header stn) [] ∷ told station_ear (heard.Addressed stn) body ∷ [])
message-tells s cells check number body stn is least most first r =
    let ear = ear_after station_ear s.ear cells in
    subst (λ (kind : Check). Hears station_ear ear (cells_of (Some number) body (message_sent kind stn body)) (told station_ear (heard.Header stn) [] ∷ told station_ear (heard.Addressed stn) body ∷ []))
    (ear-check s.ear cells ∙ is) (hears-message ear number body stn r.hears.outside least most first)

pub rests-message : {H : Type 0} (s : SlaveState H) (cells : List LaneCell) (check : Check) (number : ℕ) (body : List ℕ) (stn : ℕ) → s.ear.check ≡ check → 6 ≤ length body → length body ≤ 250 → slice_index body 0 ≡ stn → stn ≢ s.setup.station → Rests s cells
    → Rests s (cells ++ cells_of (Some number) body (message_sent check stn body))
rests-message s cells check number body stn is least most first other r =
    rests-join s cells _ (told station_ear (heard.Header stn) [] ∷ told station_ear (heard.Addressed stn) body ∷ []) r (message-tells s cells check number body stn is least most first r) (tt, (other, tt))

pub called-message : {H : Type 0} (s : SlaveState H) (cells : List LaneCell) (check : Check) (number : ℕ) (body : List ℕ) (stn : ℕ) → s.ear.check ≡ check → 6 ≤ length body → length body ≤ 250 → slice_index body 0 ≡ stn → Rests s cells
    → Called s (cells ++ cells_of (Some number) body (message_sent check stn body)) (told station_ear (heard.Addressed stn) body)
called-message s cells check number body stn is least most first r =
    called-join s cells _ (told station_ear (heard.Header stn) [] ∷ []) (told station_ear (heard.Addressed stn) body) r (message-tells s cells check number body stn is least most first r) (tt, tt)

-- ---- behind the cells of a lane, where nothing was left to be given

pub tape-grows : (lane new : List LaneCell) (g : Giving) (sending : List ℕ) → g.left ≡ [] → (lane ++ coming g sending) ++ new ≡ lane ++ new
tape-grows lane new g sending none = ap (λ (left : List Sent). (lane ++ cells_of g.number sending left) ++ new) none ∙ ap (λ (cells : List LaneCell). cells ++ new) (append-nil lane)
