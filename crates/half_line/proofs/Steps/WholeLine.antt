-- Unit steps of one event on the whole line, by what they do at the master, or with one station alone.
use Rattle.std.proofs.Common.{◌≡◌, ◌∙◌, ℕ, zero, suc, ◌<◌, List, [], ◌∷◌, ◌++◌, map, take, drop, length, get_or, Option, Some, None, refl, sym, ap, arith}
use Rattle.std.specs.Prelude.{slice_get, slice_set}
use Rattle.half_master.proofs.Draining.{some-same}
use Rattle.replay_report.specs.declared.record.Line.{Line}
use Rattle.half_line.specs.Behind.{Behind}
use Rattle.half_line.specs.Acts.{LineStationState, HalfState, MasterDeed, LinkDeed, after_master_deed, master_lines, master_bytes, after_link_deed, link_lines, link_bytes}
use Rattle.half_line.specs.Steps.{AtMaster, AtStation, link_of, rejoined, after_with, lines_with, bytes_with, after_steps, lines_over, bytes_over, after_master_deeds, master_lines_over, master_bytes_over, after_link_deeds, link_lines_over, link_bytes_over}

-- ---- lists

pub set-same : {X : Type 0} (xs : List X) (i : ℕ) (x : X) → slice_get xs i ≡ Some x → slice_set xs i x ≡ xs
set-same [] i x is = refl
set-same {X} (y ∷ ys) zero x is = ap (λ (z : X). z ∷ ys) (sym (some-same is))
set-same {X} (y ∷ ys) (suc i) x is = ap (λ (zs : List X). y ∷ zs) (set-same ys i x is)

pub set-twice : {X : Type 0} (xs : List X) (i : ℕ) (a b : X) → slice_set (slice_set xs i a) i b ≡ slice_set xs i b
set-twice [] i a b = refl
set-twice (y ∷ ys) zero a b = refl
set-twice {X} (y ∷ ys) (suc i) a b = ap (λ (zs : List X). y ∷ zs) (set-twice ys i a b)

pub get-set : {X : Type 0} (xs : List X) (i : ℕ) (x y : X) → slice_get xs i ≡ Some x → slice_get (slice_set xs i y) i ≡ Some y
get-set [] i x y is = absurd cc
get-set (z ∷ zs) zero x y is = refl
get-set (z ∷ zs) (suc i) x y is = get-set zs i x y is

-- one element more is changed
pub set-next : {X : Type 0} (f : X → X) (xs : List X) (i : ℕ) (d : X) → i < length xs → slice_set (map f (take i xs) ++ drop i xs) i (f (get_or (map f (take i xs) ++ drop i xs) i d)) ≡ map f (take (suc i) xs) ++ drop (suc i) xs
set-next f [] i d lt = absurd (omega (arith, lt))
set-next f (x ∷ xs) zero d lt = refl
set-next {X} f (x ∷ xs) (suc i) d lt = let below : i < length xs = omega (arith, lt) in ap (λ (ys : List X). f x ∷ ys) (set-next f xs i d below)

-- ---- at the master

pub master-steps : {H : Type 0} (h : Behind H) (deeds : List MasterDeed) (s : HalfState H) → after_steps h s (map AtMaster deeds) ≡ after_master_deeds h s deeds
master-steps h [] s = refl
master-steps h (deed ∷ deeds) s = master-steps h deeds (after_master_deed h s deed)

pub master-lines : {H : Type 0} (h : Behind H) (deeds : List MasterDeed) (s : HalfState H) → lines_over h s (map AtMaster deeds) ≡ master_lines_over h s.master deeds
master-lines h [] s = refl
master-lines h (deed ∷ deeds) s = ap (λ (lines : List Line). master_lines h s.master deed ++ lines) (master-lines h deeds (after_master_deed h s deed))

pub master-bytes : {H : Type 0} (h : Behind H) (deeds : List MasterDeed) (s : HalfState H) → bytes_over h s (map AtMaster deeds) ≡ master_bytes_over h s.master deeds
master-bytes h [] s = refl
master-bytes h (deed ∷ deeds) s = ap (λ (bytes : List ℕ). master_bytes h s.master deed ++ bytes) (master-bytes h deeds (after_master_deed h s deed))

-- ---- with one station

-- the line after one deed there
abbrev after_one : {H : Type 0} → Behind H → HalfState H → ℕ → LineStationState → LinkDeed → HalfState H
after_one h s place side deed = rejoined s place (after_link_deed h (link_of s side) deed)

pub station-steps : {H : Type 0} (h : Behind H) (place : ℕ) (deeds : List LinkDeed) (s : HalfState H) (side : LineStationState) → slice_get s.stations place ≡ Some side → after_steps h s (map (AtStation place) deeds) ≡ rejoined s place (after_link_deeds h (link_of s side) deeds)
station-steps {H} h place [] s side at = ap (λ (stations : List LineStationState). let t : HalfState H = record { master = s.master; stations = stations; deceived = s.deceived } in t) (sym (set-same s.stations place side at))
station-steps {H} h place (deed ∷ deeds) s side at =
    let next = after_link_deed h (link_of s side) deed in
    let last = after_link_deeds h next deeds in
    ap (λ (o : Option LineStationState). after_steps h (after_with h s place deed o) (map (AtStation place) deeds)) at
    ∙ station-steps h place deeds (after_one h s place side deed) next.side (get-set s.stations place side next.side at)
    ∙ ap (λ (stations : List LineStationState). let t : HalfState H = record { master = last.master; stations = stations; deceived = last.deceived } in t) (set-twice s.stations place next.side last.side)

pub station-lines : {H : Type 0} (h : Behind H) (place : ℕ) (deeds : List LinkDeed) (s : HalfState H) (side : LineStationState) → slice_get s.stations place ≡ Some side → lines_over h s (map (AtStation place) deeds) ≡ link_lines_over h (link_of s side) deeds
station-lines h place [] s side at = refl
station-lines h place (deed ∷ deeds) s side at =
    let next = after_link_deed h (link_of s side) deed in
    ap (λ (o : Option LineStationState). lines_with h s deed o ++ lines_over h (after_with h s place deed o) (map (AtStation place) deeds)) at
    ∙ ap (λ (lines : List Line). link_lines h (link_of s side) deed ++ lines) (station-lines h place deeds (after_one h s place side deed) next.side (get-set s.stations place side next.side at))

pub station-bytes : {H : Type 0} (h : Behind H) (place : ℕ) (deeds : List LinkDeed) (s : HalfState H) (side : LineStationState) → slice_get s.stations place ≡ Some side → bytes_over h s (map (AtStation place) deeds) ≡ link_bytes_over h (link_of s side) deeds
station-bytes h place [] s side at = refl
station-bytes h place (deed ∷ deeds) s side at =
    let next = after_link_deed h (link_of s side) deed in
    ap (λ (o : Option LineStationState). bytes_with deed o ++ bytes_over h (after_with h s place deed o) (map (AtStation place) deeds)) at
    ∙ ap (λ (bytes : List ℕ). link_bytes side deed ++ bytes) (station-bytes h place deeds (after_one h s place side deed) next.side (get-set s.stations place side next.side at))

-- nothing happens where no station is
pub nowhere-steps : {H : Type 0} (h : Behind H) (place : ℕ) (deeds : List LinkDeed) (s : HalfState H) → slice_get s.stations place ≡ None → after_steps h s (map (AtStation place) deeds) ≡ s
nowhere-steps h place [] s none = refl
nowhere-steps h place (deed ∷ deeds) s none = ap (λ (o : Option LineStationState). after_steps h (after_with h s place deed o) (map (AtStation place) deeds)) none ∙ nowhere-steps h place deeds s none
