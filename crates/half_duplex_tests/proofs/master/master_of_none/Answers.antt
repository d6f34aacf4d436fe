use Rattle.std.proofs.Common.{[], nat_eq, arith}
use Rattle.std.specs.List.{IsDistinct}
use Rattle.half_duplex_tests.proofs.master.master_of_none.Goals as goal

distinct : IsDistinct nat_eq []
unfolding IsDistinct
distinct = tt

pub new-requires-clause-stations : goal.new-requires-clause-stations
new-requires-clause-stations c = record { at_most = omega arith; distinct = distinct; each = λ k d below. absurd (omega (arith, below)) }
