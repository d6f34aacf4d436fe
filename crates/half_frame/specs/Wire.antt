-- Bytes of a half-duplex line with which nothing is wrong, by the grammar of either direction, and the messages that they carry.
use Rattle.std.specs.Prelude.{◌≡◌, ◌≢◌, ◌⊎◌, ℕ, List, [], ◌∷◌, ◌++◌}
use Rattle.std.specs.List.{flat_map, AllByRecursion}
use Rattle.df1_frame.specs.Line.{Grammar, Splits}
use Rattle.df1_frame.specs.Wire.{AreSendingsOf, IsLast}

-- which items are right, and the body of one that is a message
pub record Rights (G : Grammar) : Type 1 where
  pub IsRight : G.Item → Type 0
  pub bodies_at : G.Item → List (List ℕ)

-- a message that has begun is the last of these
abbrev pub IsOfLast : List (List ℕ) → List (List ℕ) → Type 0
IsOfLast messages [] = Unit {0}
IsOfLast messages (body ∷ more) = IsLast messages body

-- an item that has begun: its first bytes, but not all of them, are those of the front
pub record Begins (G : Grammar) (rights : Rights G) (messages : List (List ℕ)) (front : G.Front) : Type 0 where
  pub item : G.Item
  pub right : rights.IsRight item
  pub of_last : IsOfLast messages (rights.bodies_at item)
  pub rest : List ℕ
  pub some : rest ≢ []
  pub whole : G.item_bytes item ≡ G.front_bytes front ++ rest

-- nothing has begun, or a right item, which is the last of the messages if it is one
abbrev pub IsBegun : (G : Grammar) → Rights G → List (List ℕ) → G.Front → Type 0
IsBegun G rights messages front = (G.front_bytes front ≡ []) ⊎ Begins G rights messages front

-- the bytes are right items, and at the end perhaps the begin of one more; and those that are messages carry these, in their order, each several times running, and the last perhaps not yet
pub record AreRightBytes (G : Grammar) (rights : Rights G) (messages : List (List ℕ)) (bytes : List ℕ) : Type 0 where
  pub items : List G.Item
  pub front : G.Front
  pub splits : Splits G bytes items front
  pub right : AllByRecursion rights.IsRight items
  pub carries : AreSendingsOf (flat_map rights.bodies_at items) messages
  pub begun : IsBegun G rights messages front
