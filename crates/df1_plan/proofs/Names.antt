-- The names of a table's members.
use Rattle.std.proofs.Common.{◌≡◌, Bool, not, ◌||◌, List, ℕ, [], ◌∷◌, refl, ap, string_bytes}
use Rattle.std.specs.List.{list_any}
use Rattle.std.specs.Map.{keys_of}
use Rattle.toml.proofs.Views.{Entry}
use Rattle.toml.specs.View.{members_view}
use Rattle.df1_plan.specs.Keys.{has_other}

pub other-any : (is_one : List ℕ → Bool) (es : List Entry) → list_any (λ k. not (is_one (string_bytes k))) (keys_of es) ≡ has_other is_one (members_view es)
other-any is_one [] = refl
other-any is_one (e ∷ es) = ap (λ others. not (is_one (string_bytes e.0)) || others) (other-any is_one es)
