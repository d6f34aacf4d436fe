-- A message's text, the same in both directions: DLE STX, the body with each DLE doubled, DLE ETX, and the check.
use Rattle.std.specs.Prelude.{◌≡◌, ◌⊎◌, ℕ, ◌<◌, Bool, List, [], ◌∷◌, ◌++◌, length, Option, None, nat_le, ◌&&◌}
use Rattle.std.specs.List.{flat_map}
use Rattle.df1_check.specs.declared.Check.{Check}
use Rattle.df1_frame.specs.Spelling.{piece_bytes, pieces_of, check_len, check_of, same, opening, framed}
use Rattle.df1_frame.specs.Grammar.{check_heard, unheard}

-- ---- the text so far

-- a text that has begun: a body so far, with a DLE behind it, or with its end and too little of the check
pub data Text : Type 0 where
  Opened : (body : List ℕ) → Text
  OpenedDle : (body : List ℕ) → Text
  Closed : (body check : List ℕ) → Text

-- a text up to its end
abbrev pub opened : List ℕ → List ℕ
opened body = opening (pieces_of body)

abbrev pub text_bytes : Text → List ℕ
text_bytes (Opened body) = opened body
text_bytes (OpenedDle body) = opened body ++ 16 ∷ []
text_bytes (Closed body check) = framed (pieces_of body) check

abbrev pub IsText : Check → Text → Type 0
IsText check (Opened body) = Unit {0}
IsText check (OpenedDle body) = Unit {0}
IsText check (Closed body bytes) = length bytes < check_len check

-- ---- what is heard

-- at each byte of a text up to its end: the first is heard at the 02
abbrev pub opened_heard : {H : Type 0} → Option H → List ℕ → List (Option H)
opened_heard first body = None ∷ first ∷ unheard (flat_map piece_bytes (pieces_of body))

abbrev pub text_heard : {H : Type 0} → Option H → Text → List (Option H)
text_heard first (Opened body) = opened_heard first body
text_heard first (OpenedDle body) = opened_heard first body ++ None ∷ []
text_heard first (Closed body check) = opened_heard first body ++ None ∷ None ∷ unheard check

-- at each byte of a whole text
abbrev pub whole_heard : {H : Type 0} → Option H → List ℕ → H → List ℕ → List (Option H)
whole_heard first body h check = opened_heard first body ++ None ∷ None ∷ check_heard h check

-- whether a text with these check bytes is right: its body has 6 to N bytes, and the check, which covers a head before the body, is its own
abbrev pub is_right : Check → ℕ → List ℕ → List ℕ → List ℕ → Bool
is_right check N head body bytes = nat_le 6 (length body) && (nat_le (length body) N && same bytes (check_of check (head ++ body)))

-- ---- an item that is ended by the pair which begins the next

-- the bytes begin with DLE and one of these codes
abbrev pub BeginsWith : List ℕ → List ℕ → Type 0
BeginsWith [] bytes = ⊥
BeginsWith (code ∷ codes) bytes = ((more : List ℕ) × (bytes ≡ 16 ∷ code ∷ more)) ⊎ BeginsWith codes bytes
