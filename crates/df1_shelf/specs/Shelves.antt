-- The files of a shelf.
use Rattle.std.specs.Prelude.{◌≡◌, ℕ, ◌<◌, Bool, false, not, List, length, Option, Some, None, ⊤}

-- a file: its bytes, and whether a fetch of it fails
pub record Filed : Type 0 where
  pub bytes : List ℕ
  pub fails : Bool

-- these are its bytes, where it is told
abbrev pub IsContent : Option Filed → List ℕ → Type 0
IsContent None bytes = ⊤
IsContent (Some file) bytes = bytes ≡ file.bytes

-- it has more bytes than this, where it is told
abbrev pub IsLonger : Option Filed → ℕ → Type 0
IsLonger None limit = ⊤
IsLonger (Some file) limit = limit < length file.bytes

-- it is told, as one whose fetch doesn't fail
abbrev pub is_sound : Option Filed → Bool
is_sound None = false
is_sound (Some file) = not file.fails
