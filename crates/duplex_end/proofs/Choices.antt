-- Which parts are there where a choice is made.
use Rattle.std.proofs.Common.{◌≡◌, Bool, true, false, List, [], ◌∷◌, Option, Some, None, refl}
use Rattle.std.specs.Prelude.{slice_get, if◌then◌else◌}
use Rattle.std.specs.Option.{option_map}
use Rattle.df1_base.specs.declared.link.Resp.{Resp}
use Rattle.df1_base.specs.declared.link.Out.{Out}
use Rattle.df1_frame.specs.declared.framer.Unit.{Unit as Given}
use Rattle.embedded_response.specs.Giving.{Giving, Choice, Second, Respond, Give, Enquire, may_embed, first_there, chosen}

-- the choices, over the parts that they look at
abbrev choices : Option Out → Bool → Option Resp → List Given → Bool → List (Option Choice)
choices second may waiting left asking =
    option_map Second second ∷ option_map Respond (if may then waiting else None) ∷ option_map Give (slice_get left 0) ∷ option_map Respond waiting ∷ (if asking then Some Enquire else None) ∷ []

-- what is there where this is chosen
abbrev pub Chosen : Option Out → Option Resp → List Given → Bool → Option Choice → Type 0
Chosen second waiting left asking None = (second ≡ None) × (waiting ≡ None) × (left ≡ []) × (asking ≡ false)
Chosen second waiting left asking (Some (Second out)) = second ≡ Some out
Chosen second waiting left asking (Some (Respond r)) = (second ≡ None) × (waiting ≡ Some r)
Chosen second waiting left asking (Some (Give unit)) = (second ≡ None) × ((rest : List Given) × (left ≡ unit ∷ rest))
Chosen second waiting left asking (Some Enquire) = (second ≡ None) × (waiting ≡ None) × (left ≡ []) × (asking ≡ true)

choices-chosen : (second : Option Out) (may : Bool) (waiting : Option Resp) (left : List Given) (asking : Bool) → Chosen second waiting left asking (first_there (choices second may waiting left asking))
choices-chosen (Some out) may waiting left asking = refl
choices-chosen None true (Some r) left asking = (refl, refl)
choices-chosen None false (Some r) [] asking = (refl, refl)
choices-chosen None false (Some r) (unit ∷ rest) asking = (refl, (rest, refl))
choices-chosen None true None (unit ∷ rest) asking = (refl, (rest, refl))
choices-chosen None false None (unit ∷ rest) asking = (refl, (rest, refl))
choices-chosen None true None [] true = (refl, refl, refl, refl)
choices-chosen None false None [] true = (refl, refl, refl, refl)
choices-chosen None true None [] false = (refl, refl, refl, refl)
choices-chosen None false None [] false = (refl, refl, refl, refl)

-- what is there where something is chosen
pub is-chosen : (g : Giving) → Chosen g.second g.waiting g.left g.asking (chosen g)
is-chosen g = choices-chosen g.second (may_embed g) g.waiting g.left g.asking
