use Rattle.std.proofs.Common.{ℕ, zero, suc, ◌<◌, [], ◌∷◌, nat_eq, refl, arith}
use Rattle.std.specs.Prelude.{slice_index_or}
use Rattle.std.specs.List.{IsDistinct}
use Rattle.half_master.specs.Stations.{IsNumber}
use Rattle.half_duplex_tests.proofs.master.master_over.Goals as goal

distinct : IsDistinct nat_eq (3 ∷ 5 ∷ [])
unfolding IsDistinct
distinct = ((refl, tt), (tt, tt))

each : (k d : ℕ) → k < 2 → IsNumber (slice_index_or (3 ∷ 5 ∷ []) k d)
each zero d below = (λ is. omega (arith, is), λ is. omega (arith, is))
each (suc zero) d below = (λ is. omega (arith, is), λ is. omega (arith, is))
each (suc (suc k)) d below = absurd (omega (arith, below))

pub new-requires-clause-stations : goal.new-requires-clause-stations
new-requires-clause-stations g c = record { at_most = omega arith; distinct = distinct; each = each }
