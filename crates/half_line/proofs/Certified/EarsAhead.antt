-- Where the ear of a station will stand once all has arrived that is on its way to it, and all that the master still has to give of what it has begun.
use Rattle.std.proofs.Common.{◌≡◌, ◌∙◌, ℕ, zero, suc, Bool, true, List, [], ◌∷◌, ◌++◌, map, Some, refl, ap, sym, subst, append-nil, append_assoc}
use Rattle.std.specs.Prelude.{slice_get, slice_set, option_to_list}
use Rattle.std.specs.List.{AllByRecursion}
use Rattle.std.specs.Option.{option_map}
use Rattle.std.proofs.lemmas.List.{map-append}
use Rattle.df1_check.specs.declared.Check.{Check}
use Rattle.half_frame.specs.declared.framer.Sent.{Sent}
use Rattle.half_frame.specs.SlaveStanding.{Standing}
use Rattle.half_frame.specs.Spelling.{bytes_of, unmarked, pair_bytes, poll_bytes, message_bytes, message_sent, station_head}
use Rattle.half_frame.proofs.SentLemmas.{bytes_of-unmarked, bytes_of-text}
use Rattle.half_mouth.specs.Giving.{Giving, taken, take}
use Rattle.df1_frame.specs.Spelling.{check_of}
use Rattle.lane_cells.specs.Cells.{LaneCell, cell_of}
use Rattle.half_line.specs.Acts.{LineStationState, joined}
use Rattle.half_line.specs.Rest.{is_between_calls}
use Rattle.half_line.proofs.Certified.EarsInStep.{after, after-both, is_near, in-step-near, ack-near, poll-near, poll-in-step, message-near, message-in-step}
use Rattle.half_line.proofs.Certified.GivenItems.{Begins, goes_on, a_message, a_poll, an_ack}

-- ---- each station

abbrev pub Each : (LineStationState → Type 0) → List LineStationState → Type 0
Each = AllByRecursion

pub each-goes : (P Q : LineStationState → Type 0) → ((side : LineStationState) → P side → Q side) → (sides : List LineStationState) → Each P sides → Each Q sides
each-goes P Q goes [] all = tt
each-goes P Q goes (side ∷ sides) all = (goes side all.0, each-goes P Q goes sides all.1)

pub each-map : (P Q : LineStationState → Type 0) (f : LineStationState → LineStationState) → ((side : LineStationState) → P side → Q (f side)) → (sides : List LineStationState) → Each P sides → Each Q (map f sides)
each-map P Q f goes [] all = tt
each-map P Q f goes (side ∷ sides) all = (goes side all.0, each-map P Q f goes sides all.1)

pub each-is : (P : LineStationState → Type 0) → ((side : LineStationState) → P side) → (sides : List LineStationState) → Each P sides
each-is P is [] = tt
each-is P is (side ∷ sides) = (is side, each-is P is sides)

pub each-set : (P : LineStationState → Type 0) (sides : List LineStationState) (place : ℕ) (now : LineStationState) → P now → Each P sides → Each P (slice_set sides place now)
each-set P [] place now is all = tt
each-set P (side ∷ sides) zero now is all = (is, all.1)
each-set P (side ∷ sides) (suc place) now is all = (all.0, each-set P sides place now is all.1)

pub each-at : (P : LineStationState → Type 0) (sides : List LineStationState) (place : ℕ) (side : LineStationState) → slice_get sides place ≡ Some side → Each P sides → P side
each-at P [] place side at all = absurd cc
each-at P (first ∷ sides) zero side at all = let same : first ≡ side = cc in subst P same all.0
each-at P (first ∷ sides) (suc place) side at all = each-at P sides place side at all.1

-- ---- one station

abbrev pub coming : List Sent → LineStationState → List ℕ
coming left side = map (λ (cell : LaneCell). cell.byte) side.to_it ++ bytes_of left

abbrev pub ahead : Check → List Sent → LineStationState → Standing
ahead check left side = after check side.slave.ear.standing (coming left side)

-- how it stands there
abbrev pub StandsAhead : (Standing → Bool) → Check → List Sent → LineStationState → Type 0
StandsAhead how check left side = how (ahead check left side) ≡ true

ahead-more : (check : Check) (left : List Sent) (side : LineStationState) → ahead check left side ≡ after check (ahead check [] side) (bytes_of left)
ahead-more check left side =
    let lane = map (λ (cell : LaneCell). cell.byte) side.to_it in
    let at = side.slave.ear.standing in
    after-both check at lane (bytes_of left) ∙ ap (λ (bytes : List ℕ). after check (after check at bytes) (bytes_of left)) (sym (append-nil lane))

-- after these bytes behind those on their way
stands-behind : (how : Standing → Bool) (check : Check) (left : List Sent) (bytes : List ℕ) (side : LineStationState) → bytes_of left ≡ bytes → how (after check (ahead check [] side) bytes) ≡ true → StandsAhead how check left side
stands-behind how check left bytes side is stands =
    subst (λ (at : Standing). how at ≡ true) (sym (ahead-more check left side ∙ ap (after check (ahead check [] side)) is)) stands

bytes_of-message : (check : Check) (stn : ℕ) (body : List ℕ) → bytes_of (message_sent check stn body) ≡ message_bytes check stn body
bytes_of-message check stn body = ap (λ (l : List ℕ). 16 ∷ 1 ∷ stn ∷ l) (bytes_of-text body (check_of check (station_head check stn ++ body)))

-- ---- what the master begins

-- a message leaves each ear near
pub message-ahead : (check : Check) (stn : ℕ) (body : List ℕ) (side : LineStationState) → StandsAhead is_near check (message_sent check stn body) side
message-ahead check stn body side =
    stands-behind is_near check (message_sent check stn body) (message_bytes check stn body) side (bytes_of-message check stn body) (message-near check (ahead check [] side) stn body)

-- and then DLE ACK puts it in step
pub ack-ahead : (check : Check) (side : LineStationState) → StandsAhead is_near check [] side → StandsAhead is_between_calls check (unmarked (pair_bytes 6)) side
ack-ahead check side near = stands-behind is_between_calls check (unmarked (pair_bytes 6)) (pair_bytes 6) side (bytes_of-unmarked (pair_bytes 6)) (ack-near check (ahead check [] side) near)

pub begins-near : (check : Check) (before now : List Sent) (side : LineStationState) → Begins check before now → StandsAhead is_near check before side → StandsAhead is_near check now side
begins-near check before now side (goes_on is) near = subst (λ (left : List Sent). StandsAhead is_near check left side) (sym is) near
begins-near check before now side (a_message none stn body is) near = subst (λ (left : List Sent). StandsAhead is_near check left side) (sym is) (message-ahead check stn body side)
begins-near check before now side (a_poll none stn is) near =
    subst (λ (left : List Sent). StandsAhead is_near check left side) (sym is)
    (stands-behind is_near check (unmarked (poll_bytes stn)) (poll_bytes stn) side (bytes_of-unmarked (poll_bytes stn))
    (poll-near check (ahead check [] side) stn (subst (λ (left : List Sent). StandsAhead is_near check left side) none near)))
begins-near check before now side (an_ack none is) near =
    subst (λ (left : List Sent). StandsAhead is_near check left side) (sym is)
    (in-step-near (ahead check (unmarked (pair_bytes 6)) side) (ack-ahead check side (subst (λ (left : List Sent). StandsAhead is_near check left side) none near)))

pub begins-in-step : (check : Check) (before now : List Sent) (side : LineStationState) → Begins check before now → StandsAhead is_between_calls check before side → StandsAhead is_between_calls check now side
begins-in-step check before now side (goes_on is) stands = subst (λ (left : List Sent). StandsAhead is_between_calls check left side) (sym is) stands
begins-in-step check before now side (a_message none stn body is) stands =
    subst (λ (left : List Sent). StandsAhead is_between_calls check left side) (sym is)
    (stands-behind is_between_calls check (message_sent check stn body) (message_bytes check stn body) side (bytes_of-message check stn body)
    (message-in-step check (ahead check [] side) stn body (subst (λ (left : List Sent). StandsAhead is_between_calls check left side) none stands)))
begins-in-step check before now side (a_poll none stn is) stands =
    subst (λ (left : List Sent). StandsAhead is_between_calls check left side) (sym is)
    (stands-behind is_between_calls check (unmarked (poll_bytes stn)) (poll_bytes stn) side (bytes_of-unmarked (poll_bytes stn))
    (poll-in-step check (ahead check [] side) stn (subst (λ (left : List Sent). StandsAhead is_between_calls check left side) none stands)))
begins-in-step check before now side (an_ack none is) stands =
    subst (λ (left : List Sent). StandsAhead is_between_calls check left side) (sym is)
    (ack-ahead check side (in-step-near (ahead check [] side) (subst (λ (left : List Sent). StandsAhead is_between_calls check left side) none stands)))

-- ---- a byte is given

coming-given : (g : Giving) (left : List Sent) (sending : List ℕ) (side : LineStationState) → g.left ≡ left → coming (taken g left).0.left (joined (option_to_list (option_map (cell_of sending) (taken g left).1)) side) ≡ coming g.left side
coming-given g [] sending side is = ap (λ (cells : List LaneCell). map (λ (cell : LaneCell). cell.byte) cells ++ bytes_of g.left) (append-nil side.to_it)
coming-given g (sent ∷ left) sending side is =
    ap (λ (bytes : List ℕ). bytes ++ bytes_of left) (map-append (λ (cell : LaneCell). cell.byte) side.to_it _)
    ∙ append_assoc (map (λ (cell : LaneCell). cell.byte) side.to_it) (sent.byte ∷ []) (bytes_of left)
    ∙ ap (λ (all : List Sent). coming all side) (sym is)

-- it joins the lane, and all that comes is as before
pub ahead-given : (check : Check) (g : Giving) (sending : List ℕ) (side : LineStationState) → ahead check (take g).0.left (joined (option_to_list (option_map (cell_of sending) (take g).1)) side) ≡ ahead check g.left side
ahead-given check g sending side = ap (after check side.slave.ear.standing) (coming-given g g.left sending side refl)
