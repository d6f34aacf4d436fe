-- What is told of the items of a list of bytes, one after another, by the offsets at which they stand.
use Rattle.std.specs.Prelude.{ℕ, ◌+◌, List, [], ◌∷◌, ◌++◌, length, Option, Some, None}
use Rattle.df1_frame.specs.Line.{Grammar}
use Rattle.df1_dissect.specs.declared.kind.Kind.{Kind}

-- a thing that has a line: the offsets of its first and last byte, its kind, and its body where it is a message whose body
-- is told
pub record Told : Type 0 where
  pub first : ℕ
  pub last : ℕ
  pub kind : Kind
  pub body : List ℕ

-- one without a body
abbrev pub plain : ℕ → ℕ → Kind → List Told
plain first last kind = record { first = first; last = last; kind = kind; body = [] } ∷ []

-- one of this kind with a body, where what is heard has a line
abbrev pub heard_told : ℕ → ℕ → Option Kind → List ℕ → List Told
heard_told first last None body = []
heard_told first last (Some kind) body = record { first = first; last = last; kind = kind; body = body } ∷ []

-- what a grammar's items tell, and what an unfinished front does, where the first byte is at the offset
pub record Telling (G : Grammar) : Type 0 where
  pub item_told : ℕ → G.Item → List Told
  pub front_told : ℕ → G.Front → List Told

-- of items one after another, the first at the offset, and then of the front
abbrev pub told_from : (G : Grammar) → Telling G → ℕ → List G.Item → G.Front → List Told
told_from G T at [] front = T.front_told at front
told_from G T at (item ∷ items) front = T.item_told at item ++ told_from G T (at + length (G.item_bytes item)) items front

-- how many bytes items have
abbrev pub bytes_of : (G : Grammar) → List G.Item → ℕ
bytes_of G [] = 0
bytes_of G (item ∷ items) = length (G.item_bytes item) + bytes_of G items
