-- A line's bytes as a grammar: items one after another, and then an unfinished front of one.
use Rattle.std.specs.Prelude.{◌≡◌, ℕ, List, [], ◌∷◌, ◌++◌, Option, None}

pub record Grammar : Type 1 where
  pub Item : Type 0
  pub Front : Type 0
  pub Heard : Type 0
  pub item_bytes : Item → List ℕ
  pub front_bytes : Front → List ℕ
  -- the item may stand directly before these bytes
  pub IsItem : Item → List ℕ → Type 0
  pub IsFront : Front → Type 0
  -- what is heard at each byte; the first argument is what the item before leaves to be heard in this one
  pub item_heard : Option Heard → Item → List (Option Heard)
  pub front_heard : Option Heard → Front → List (Option Heard)
  pub leaves : Item → Option Heard

-- the bytes of the items and then of the front
abbrev pub spelling : (G : Grammar) → List G.Item → G.Front → List ℕ
spelling G [] front = G.front_bytes front
spelling G (item ∷ items) front = G.item_bytes item ++ spelling G items front

-- each item may stand where it stands, and so may the front
abbrev pub AreItems : (G : Grammar) → List G.Item → G.Front → Type 0
AreItems G [] front = G.IsFront front
AreItems G (item ∷ items) front = G.IsItem item (spelling G items front) × AreItems G items front

-- the bytes are these items, and then this front
pub record Splits (G : Grammar) (bytes : List ℕ) (items : List G.Item) (front : G.Front) : Type 0 where
  pub whole : bytes ≡ spelling G items front
  pub each : AreItems G items front

-- what is heard at each byte, where something is left to be heard from before
abbrev pub answers_from : (G : Grammar) → Option G.Heard → List G.Item → G.Front → List (Option G.Heard)
answers_from G at [] front = G.front_heard at front
answers_from G at (item ∷ items) front = G.item_heard at item ++ answers_from G (G.leaves item) items front

-- what is heard at each byte
abbrev pub answers : (G : Grammar) → List G.Item → G.Front → List (Option G.Heard)
answers G = answers_from G None

-- the last of the answers, or none where there is no byte
abbrev pub last_of : {H : Type 0} → List (Option H) → Option H
last_of [] = None
last_of (h ∷ []) = h
last_of (h ∷ k ∷ more) = last_of (k ∷ more)

-- what is heard at the last byte
abbrev pub last_heard : (G : Grammar) → List G.Item → G.Front → Option G.Heard
last_heard G items front = last_of (answers G items front)

-- the value is what f reads off the one split of the bytes
pub record ReadOff (G : Grammar) {A : Type 0} (bytes : List ℕ) (f : List G.Item → G.Front → A) (value : A) : Type 0 where
  pub items : List G.Item
  pub front : G.Front
  pub splits : Splits G bytes items front
  pub is : value ≡ f items front
