-- What is heard whole at a cell that deceives nobody is the message whose transmission ends there.
use Rattle.std.proofs.Common.{◌≡◌, ℕ, Bool, true, false, List, [], ◌∷◌, Option, Some, None, refl, ap, arith}
use Rattle.std.specs.Prelude.{not, ◌&&◌, slice_index, if◌then◌else◌}
use Rattle.std.specs.Option.{option_map}
use Rattle.std.proofs.lemmas.Bool.{and_parts, eqb-true}
use Rattle.std.proofs.lemmas.Slice.Eq.{bytes_eq-Decides}
use Rattle.lane_cells.specs.Cells.{Ending}
use Rattle.lane_cells.specs.Deception.{deceptions, is_sent, is_to, station_deceptions}

abbrev one_unless : Bool → ℕ
one_unless sent = if not sent then 1 else 0

sent-same : (sent : Bool) → one_unless sent ≡ 0 → sent ≡ true
sent-same true none = refl
sent-same false none = absurd (omega (arith, none))

is-sent : (ends : Option Ending) (body : List ℕ) → is_sent ends body ≡ true → option_map (λ (e : Ending). e.body) ends ≡ Some body
is-sent None body is = absurd cc
is-sent (Some ending) body is = ap Some ((bytes_eq-Decides ending.body body).0 is)

is-to : (station : ℕ) (body : List ℕ) → is_to station body ≡ true → slice_index body 0 ≡ station
is-to station [] is = absurd cc
is-to station (first ∷ rest) is = eqb-true first station is

pub honest : (whole : Bool) (ends : Option Ending) (body : List ℕ) → deceptions whole ends body ≡ 0 → whole ≡ true → option_map (λ (e : Ending). e.body) ends ≡ Some body
honest true ends body none is = is-sent ends body (sent-same (is_sent ends body) none)
honest false ends body none is = absurd cc

pub honest-station : (whole : Bool) (station : ℕ) (ends : Option Ending) (body : List ℕ) → station_deceptions whole station ends body ≡ 0 → whole ≡ true
    → (option_map (λ (e : Ending). e.body) ends ≡ Some body) × (slice_index body 0 ≡ station)
honest-station true station ends body none is =
    let parts = and_parts _ _ (sent-same (is_sent ends body && is_to station body) none) in
    (is-sent ends body parts.0, is-to station body parts.1)
honest-station false station ends body none is = absurd cc
