-- What was copied whole is what was spelled.
use Rattle.std.proofs.Common.{◌≡◌, ◌≤◌, sym, subst, ℕ, List, length, Result, Ok, Err}
use Rattle.std.specs.Prelude.{IfOk}
use Rattle.std.specs.Result.{result_map_both}
use Rattle.c_ends.specs.declared.code.Code.{Code}

-- of a payload, by its bytes
pub copied-spelled : {A : Type 0} (items : A → List ℕ) (P : List ℕ → Type 0) (payload : Result A Code) (told : Result (List ℕ) Code) (room : ℕ) (copy : List ℕ)
    → result_map_both items (λ (code : Code). code) payload ≡ told → IfOk payload (λ p. P (items p))
    → IfOk payload (λ p. length (items p) ≤ room → copy ≡ items p) → IfOk told (λ bytes. length bytes ≤ room → P copy)
copied-spelled items P (Ok p) told room copy is spelled whole =
    let Goal : Result (List ℕ) Code → Type 0 = λ t. IfOk t (λ bytes. length bytes ≤ room → P copy) in
    subst Goal is (λ fits. subst P (sym (whole fits)) spelled)
copied-spelled items P (Err code) told room copy is spelled whole =
    let Goal : Result (List ℕ) Code → Type 0 = λ t. IfOk t (λ bytes. length bytes ≤ room → P copy) in
    subst Goal is tt
