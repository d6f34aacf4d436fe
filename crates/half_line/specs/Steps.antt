-- Unit steps, one after another: anywhere on the line, at the master alone, and with one station alone.
use Rattle.std.specs.Prelude.{ℕ, List, [], ◌∷◌, ◌++◌, Option, Some, None, slice_get, slice_set}
use Rattle.half_master.specs.Master.{MasterState}
use Rattle.replay_report.specs.declared.record.Line.{Line}
use Rattle.half_line.specs.Behind.{Behind}
use Rattle.half_line.specs.Acts.{LineStationState, HalfState, LinkState, MasterDeed, LinkDeed, master_after, after_master_deed, master_lines, master_bytes, after_link_deed, link_lines, link_bytes}

-- ---- anywhere

-- something happens at the master, or with the station that was declared at this place, counted from 0
pub data UnitStep : Type 0 where
  AtMaster : (deed : MasterDeed) → UnitStep
  AtStation : (place : ℕ) (deed : LinkDeed) → UnitStep

-- the master and a station
abbrev pub link_of : {H : Type 0} → HalfState H → LineStationState → LinkState H
link_of s side = record { master = s.master; side = side; deceived = s.deceived }

-- the line, with the master and the station at this place as they are now
abbrev pub rejoined : {H : Type 0} → HalfState H → ℕ → LinkState H → HalfState H
rejoined s place link = record { master = link.master; stations = slice_set s.stations place link.side; deceived = link.deceived }

-- where no station is, nothing happens
abbrev pub after_with : {H : Type 0} → Behind H → HalfState H → ℕ → LinkDeed → Option LineStationState → HalfState H
after_with h s place deed None = s
after_with h s place deed (Some side) = rejoined s place (after_link_deed h (link_of s side) deed)

abbrev pub after_step : {H : Type 0} → Behind H → HalfState H → UnitStep → HalfState H
after_step h s (AtMaster deed) = after_master_deed h s deed
after_step h s (AtStation place deed) = after_with h s place deed (slice_get s.stations place)

-- the lines
abbrev pub lines_with : {H : Type 0} → Behind H → HalfState H → LinkDeed → Option LineStationState → List Line
lines_with h s deed None = []
lines_with h s deed (Some side) = link_lines h (link_of s side) deed

abbrev pub lines_at : {H : Type 0} → Behind H → HalfState H → UnitStep → List Line
lines_at h s (AtMaster deed) = master_lines h s.master deed
lines_at h s (AtStation place deed) = lines_with h s deed (slice_get s.stations place)

-- the bytes that an end gives
abbrev pub bytes_with : LinkDeed → Option LineStationState → List ℕ
bytes_with deed None = []
bytes_with deed (Some side) = link_bytes side deed

abbrev pub bytes_at : {H : Type 0} → Behind H → HalfState H → UnitStep → List ℕ
bytes_at h s (AtMaster deed) = master_bytes h s.master deed
bytes_at h s (AtStation place deed) = bytes_with deed (slice_get s.stations place)

abbrev pub after_steps : {H : Type 0} → Behind H → HalfState H → List UnitStep → HalfState H
after_steps h s [] = s
after_steps h s (step ∷ steps) = after_steps h (after_step h s step) steps

abbrev pub lines_over : {H : Type 0} → Behind H → HalfState H → List UnitStep → List Line
lines_over h s [] = []
lines_over h s (step ∷ steps) = lines_at h s step ++ lines_over h (after_step h s step) steps

abbrev pub bytes_over : {H : Type 0} → Behind H → HalfState H → List UnitStep → List ℕ
bytes_over h s [] = []
bytes_over h s (step ∷ steps) = bytes_at h s step ++ bytes_over h (after_step h s step) steps

-- ---- at the master

abbrev pub after_master_deeds : {H : Type 0} → Behind H → HalfState H → List MasterDeed → HalfState H
after_master_deeds h s [] = s
after_master_deeds h s (deed ∷ deeds) = after_master_deeds h (after_master_deed h s deed) deeds

abbrev pub master_lines_over : {H : Type 0} → Behind H → MasterState H → List MasterDeed → List Line
master_lines_over h m [] = []
master_lines_over h m (deed ∷ deeds) = master_lines h m deed ++ master_lines_over h (master_after h m deed) deeds

abbrev pub master_bytes_over : {H : Type 0} → Behind H → MasterState H → List MasterDeed → List ℕ
master_bytes_over h m [] = []
master_bytes_over h m (deed ∷ deeds) = master_bytes h m deed ++ master_bytes_over h (master_after h m deed) deeds

-- ---- with one station

abbrev pub after_link_deeds : {H : Type 0} → Behind H → LinkState H → List LinkDeed → LinkState H
after_link_deeds h s [] = s
after_link_deeds h s (deed ∷ deeds) = after_link_deeds h (after_link_deed h s deed) deeds

abbrev pub link_lines_over : {H : Type 0} → Behind H → LinkState H → List LinkDeed → List Line
link_lines_over h s [] = []
link_lines_over h s (deed ∷ deeds) = link_lines h s deed ++ link_lines_over h (after_link_deed h s deed) deeds

abbrev pub link_bytes_over : {H : Type 0} → Behind H → LinkState H → List LinkDeed → List ℕ
link_bytes_over h s [] = []
link_bytes_over h s (deed ∷ deeds) = link_bytes s.side deed ++ link_bytes_over h (after_link_deed h s deed) deeds
