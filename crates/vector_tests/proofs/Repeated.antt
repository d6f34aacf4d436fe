-- What holds of an element holds of each of a list that repeats it.
use Rattle.std.proofs.Common.{ℕ, zero, suc}
use Rattle.std.specs.Prelude.{replicate}
use Rattle.std.specs.List.{AllByRecursion}

pub each-repeated : {X : Type 0} (P : X → Type 0) (n : ℕ) (x : X) → P x → AllByRecursion P (replicate n x)
each-repeated P zero x holds = tt
each-repeated P (suc n) x holds = (holds, each-repeated P n x holds)
