-- Settings that are given one after another are those that the members give.
use Rattle.std.proofs.Common.{◌≡◌, ◌∙◌, ℕ, ◌+◌, ◌<◌, ◌≤◌, List, [], ◌∷◌, length, Option, drop, get_or, refl, sym, ap, add-one, drop-cons}
use Rattle.std.proofs.lemmas.List.{drop_all}
use Rattle.end_settings.specs.declared.key.EndKey.{EndKey}
use Rattle.end_settings.specs.declared.key.EndKey.TheVariants.{Embed}
use Rattle.end_settings.specs.Rows.{fitting}
use Rattle.end_settings.specs.Table.{keys, row_of}
use Rattle.end_settings.specs.Given.{no_settings, value_of, with_setting}
use Rattle.end_settings.proofs.Fitting.{fitting-same}
use Rattle.toml.specs.Data.{Members}
use Rattle.df1_plan.specs.Settings.{given_at}
use Rattle.df1_plan.proofs.Told.{given-fits}

-- the settings of these keys, one after another
abbrev pub with_given : Members → List (Option ℕ) → List EndKey → List (Option ℕ)
with_given members given [] = given
with_given members given (key ∷ rest) = with_given members (with_setting given (record { key = key; value = given_at members key })) rest

-- the key at a place is given, and then those behind it
pub with_given-next : (members : Members) (given now : List (Option ℕ)) (i : ℕ) (d : EndKey) (value : Option ℕ) → i < length keys → value ≡ given_at members (get_or keys i d) → now ≡ with_setting given (record { key = get_or keys i d; value = value })
    → with_given members given (drop i keys) ≡ with_given members now (drop (i + 1) keys)
with_given-next members given now i d value within told is =
    let split : drop i keys ≡ get_or keys i d ∷ drop (i + 1) keys = rw add-one (drop-cons keys i d within) in
    ap (with_given members given) split
    ∙ ap (λ (o : Option ℕ). with_given members (with_setting given (record { key = get_or keys i d; value = o })) (drop (i + 1) keys)) (sym told)
    ∙ ap (λ (g : List (Option ℕ)). with_given members g (drop (i + 1) keys)) (sym is)

kept-at : (members : Members) (key : EndKey) → value_of (with_given members no_settings keys) key ≡ fitting (row_of key).values (given_at members key)
kept-at members Embed = refl
kept-at members other = refl

pub value_of-with_given : (members : Members) (key : EndKey) → value_of (with_given members no_settings keys) key ≡ given_at members key
value_of-with_given members key = kept-at members key ∙ fitting-same (row_of key).values (given_at members key) (given-fits members key)

-- where no keys are left, the settings are those of all
pub none-left : (members : Members) (given : List (Option ℕ)) (i : ℕ) → length keys ≤ i → with_given members given (drop i keys) ≡ with_given members no_settings keys → (key : EndKey) → value_of given key ≡ given_at members key
none-left members given i all is key =
    let same : given ≡ with_given members no_settings keys = sym (ap (with_given members given) (drop_all i keys all)) ∙ is in
    ap (λ g. value_of g key) same ∙ value_of-with_given members key
