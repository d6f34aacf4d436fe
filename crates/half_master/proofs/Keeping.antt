-- How the code reads and writes one place of the list.
use Rattle.std.proofs.Common.{◌≡◌, ◌<◌, ℕ, List, ◌++◌, length, take, Option, Some, None, refl, ap, sym, ◌∙◌, arith, append-nil}
use Rattle.std.specs.Prelude.{slice_get, slice_set, slice_index_or}
use Rattle.std.specs.List.{refill}
use Rattle.std.proofs.lemmas.List.{length-set, take_all, drop_all}
use Rattle.std.proofs.lemmas.Option.{slice_get-get_or, slice_get_read}
use Rattle.pccc_envelope.specs.declared.key.Key.{Key}
use Rattle.half_master.specs.declared.stations.Station.{Station}
use Rattle.half_master.specs.Stations.{with_key}

-- a list of the same length takes the place of the old one
refilled : (new old : List Station) → length new ≡ length old → refill (length old) old new ≡ new
refilled new old same =
    ap (λ (l : List Station). take (length old) (new ++ l)) (drop_all (length new) old (omega (arith, same)))
    ∙ ap (λ (l : List Station). take (length old) l) (append-nil new)
    ∙ take_all (length old) new (omega (arith, same))

-- the list with a key kept for the station that was found at a place
abbrev pub keyed : List Station → ℕ → Key → Option Station → List Station
keyed stations place key o = elim o [ None ↦ stations | Some station ↦ slice_set stations place (record { number = station.number; kept = Some key }) ]

pub written : (stations : List Station) (place : ℕ) (key : Key) (d : Station) → place < length stations
    → refill (length stations) stations (slice_set stations place (record { number = (slice_index_or stations place d).number; kept = Some key })) ≡ with_key stations place key
written stations place key d below =
    refilled (slice_set stations place (record { number = (slice_index_or stations place d).number; kept = Some key })) stations (length-set stations place _)
    ∙ ap (λ (o : Option Station). keyed stations place key o) (sym (slice_get-get_or stations place d below))

-- a place that was read
pub read-is : (stations : List Station) (place : ℕ) (station : Station) → place < length stations → station ≡ slice_index_or stations place station → slice_get stations place ≡ Some station
read-is stations place station below is = slice_get_read stations (length stations) place station refl below is
