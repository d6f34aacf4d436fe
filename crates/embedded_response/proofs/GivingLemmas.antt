-- Nothing is given exactly where no byte is left.
use Rattle.std.proofs.Common.{◌≡◌, ℕ, ◌+◌, Bool, true, false, List, [], ◌∷◌, length, Option, Some, None, IsNone, refl, arith}
use Rattle.std.specs.Prelude.{is_none, not, slice_get, if◌then◌else◌}
use Rattle.std.specs.Option.{option_map}
use Rattle.df1_base.specs.declared.link.Resp.{Resp}
use Rattle.df1_base.specs.declared.link.Out.{Out}
use Rattle.df1_frame.specs.declared.framer.Unit.{Unit as Given}
use Rattle.df1_frame.specs.Units.{bytes_of}
use Rattle.embedded_response.specs.Giving.{Giving, Choice, Second, Respond, Give, Enquire, may_embed, first_there, given, chosen, take, one_if, bytes_left}

-- the choices, over the parts that they look at
abbrev choices : Option Out → Bool → Option Resp → List Given → Bool → List (Option Choice)
choices second may waiting left asking =
    option_map Second second ∷ option_map Respond (if may then waiting else None) ∷ option_map Give (slice_get left 0) ∷ option_map Respond waiting ∷ (if asking then Some Enquire else None) ∷ []

-- the bytes that are left, over the same parts
abbrev count : Option Out → Option Resp → List Given → Bool → ℕ
count second waiting left asking =
    one_if (not (is_none second)) + length (bytes_of left) + (one_if (not (is_none waiting)) + one_if (not (is_none waiting))) + (one_if asking + one_if asking)

-- where none of the choices is there, nothing is: no half-given pair, no frame, no response and no ENQ
none-there : (second : Option Out) (may : Bool) (waiting : Option Resp) (left : List Given) (asking : Bool) → first_there (choices second may waiting left asking) ≡ None → (second ≡ None) × (left ≡ []) × (waiting ≡ None) × (asking ≡ false)
none-there (Some x) may waiting left asking e = absurd cc
none-there None true (Some r) left asking e = absurd cc
none-there None false (Some r) [] asking e = absurd cc
none-there None false (Some r) (u ∷ left) asking e = absurd cc
none-there None true None (u ∷ left) asking e = absurd cc
none-there None false None (u ∷ left) asking e = absurd cc
none-there None true None [] true e = absurd cc
none-there None false None [] true e = absurd cc
none-there None true None [] false e = (refl, refl, refl, refl)
none-there None false None [] false e = (refl, refl, refl, refl)

none-chosen : (second : Option Out) (may : Bool) (waiting : Option Resp) (left : List Given) (asking : Bool) → count second waiting left asking ≡ 0 → first_there (choices second may waiting left asking) ≡ None
none-chosen (Some x) may waiting left asking e = absurd (omega arith)
none-chosen None may (Some r) left asking e = absurd (omega arith)
none-chosen None may None (u ∷ left) asking e = absurd (omega arith)
none-chosen None may None [] true e = absurd (omega arith)
none-chosen None true None [] false e = refl
none-chosen None false None [] false e = refl

none-given : (g : Giving) (c : Option Choice) → IsNone (given g c).1 → c ≡ None
none-given g None h = refl
none-given g (Some (Second out)) h = absurd (grind arith)
none-given g (Some (Respond r)) h = absurd (grind arith)
none-given g (Some (Give unit)) h = absurd (grind arith)
none-given g (Some Enquire) h = absurd (grind arith)

is-none : (c : Option Choice) → IsNone c → c ≡ None
is-none None h = refl
is-none (Some choice) h = absurd cc

-- nothing is there where nothing is chosen ..
pub chosen_none : (g : Giving) → IsNone (chosen g) → (g.second ≡ None) × (g.left ≡ []) × (g.waiting ≡ None) × (g.asking ≡ false)
chosen_none g h = none-there g.second (may_embed g) g.waiting g.left g.asking (is-none (chosen g) h)

-- .. and where nothing is given
pub taken_none : (g : Giving) → IsNone (take g).1 → (g.second ≡ None) × (g.left ≡ []) × (g.waiting ≡ None) × (g.asking ≡ false)
taken_none g h = none-there g.second (may_embed g) g.waiting g.left g.asking (none-given g (chosen g) h)

pub take-none : (g : Giving) → IsNone (take g).1 → bytes_left g ≡ 0
take-none g h = let none = taken_none g h in rw (none.0, none.1, none.2, none.3) refl

pub none-take : (g : Giving) → bytes_left g ≡ 0 → IsNone (take g).1
none-take g e = rw (none-chosen g.second (may_embed g) g.waiting g.left g.asking e) refl
