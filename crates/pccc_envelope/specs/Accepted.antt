-- Which of the messages that are heard are accepted: a repeat of the last accepted one is passed over.
use Rattle.std.specs.Prelude.{ℕ, ◌-◌, Bool, false, ◌&&◌, List, [], ◌∷◌, ◌++◌, length, Option, Some, None, ◌==◌, slice_get, if◌then◌else◌}
use Rattle.std.specs.List.{fold}
use Rattle.std.specs.Option.{option_map}
use Rattle.pccc_envelope.specs.declared.key.Key.{Key}
use Rattle.pccc_envelope.specs.Envelope.{key_of}

-- the body of a message that was heard whole, and whether there was room for it
pub record Offer : Type 0 where
  pub body : List ℕ
  pub has_room : Bool

-- what becomes of a message
pub data Verdict : Type 0 where
  Repeated : Verdict
  Accepted : Verdict
  Refused : Verdict

-- the keys are the same
abbrev pub same_key : Key → Key → Bool
same_key a b = (a.src == b.src) && (a.cmd == b.cmd) && (a.tns == b.tns)

-- this key is the one that is kept
abbrev pub is_kept : Option Key → Key → Bool
is_kept None key = false
is_kept (Some kept) key = same_key kept key

-- beside a kept key: a message with that key is a repeat; another is accepted where there is room, else refused
abbrev pub judged : Option Key → Offer → Verdict
judged kept offer = if is_kept kept (key_of offer.body) then Repeated else (if offer.has_room then Accepted else Refused)

-- the key of the last of the bodies
abbrev pub last_key : List (List ℕ) → Option Key
last_key bodies = option_map key_of (slice_get bodies (length bodies - 1))

-- the accepted bodies, with one more where this message is accepted after them
abbrev pub with_offer : List (List ℕ) → Offer → List (List ℕ)
with_offer bodies offer = elim (judged (last_key bodies) offer) [ Repeated ↦ bodies | Accepted ↦ bodies ++ offer.body ∷ [] | Refused ↦ bodies ]

-- the accepted bodies of a list of messages, in the order in which they were heard
abbrev pub accepted : List Offer → List (List ℕ)
accepted = fold with_offer []

-- the key to keep once a message was judged: it changes where that message is accepted, and nowhere else
abbrev pub kept_after : Option Key → Offer → Option Key
kept_after kept offer = elim (judged kept offer) [ Repeated ↦ kept | Accepted ↦ Some (key_of offer.body) | Refused ↦ kept ]
