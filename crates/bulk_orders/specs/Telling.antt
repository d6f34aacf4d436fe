-- The line that tells what a transfer came to.
use Rattle.std.specs.Prelude.{ℕ, List, [], ◌∷◌, ◌++◌, codes, decimal, Option, Some, None, unwrap_or}
use Rattle.hex.specs.Hex.{encode_upper}
use Rattle.bulk_orders.specs.declared.outcome.Bulk.{Bulk}
use Rattle.bulk_orders.specs.declared.outcome.Bulk.TheVariants.{Whole, Missing, Refused, Odd}

-- where a transfer isn't whole: the command that isn't as it should be
abbrev pub fault_line : Bulk → Option (List ℕ)
fault_line Whole = None
fault_line (Missing number) = Some (codes "missing " ++ decimal number ++ codes "\n")
fault_line (Refused number sts ext) =
    Some (codes "refused " ++ decimal number ++ codes " " ++ encode_upper (sts ∷ []) ++ codes " " ++ encode_upper (ext ∷ []) ++ codes "\n")
fault_line (Odd number) = Some (codes "odd " ++ decimal number ++ codes "\n")

-- of a transfer that reads: its words, where it is whole
abbrev pub pull_line : Bulk → List ℕ → List ℕ
pull_line bulk words = unwrap_or (fault_line bulk) (codes "pulled " ++ encode_upper words ++ codes "\n")

-- of a transfer that writes: how many orders it has, where it is whole
abbrev pub push_line : Bulk → ℕ → List ℕ
push_line bulk orders = unwrap_or (fault_line bulk) (codes "pushed " ++ decimal orders ++ codes "\n")
