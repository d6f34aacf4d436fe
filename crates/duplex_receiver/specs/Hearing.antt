-- The receiver over the whole list of bytes so far.
use Rattle.std.specs.Prelude.{◌≡◌, ◌≢◌, ℕ, Bool, true, false, List, [], ◌∷◌, ◌++◌, Some, None}
use Rattle.std.specs.List.{flat_map}
use Rattle.df1_base.specs.declared.link.Act.{Act}
use Rattle.df1_base.specs.declared.link.Act.TheVariants as act
use Rattle.df1_check.specs.declared.Check.{Check}
use Rattle.df1_frame.specs.declared.heard.Heard.TheVariants as heard
use Rattle.df1_frame.specs.Line.{ReadOff, last_heard}
use Rattle.df1_frame.specs.Grammar.{full_duplex}
use Rattle.df1_frame.specs.Standing.{decoding, lent}
use Rattle.pccc_envelope.specs.Envelope.{key_of}
use Rattle.pccc_envelope.specs.Accepted.{Offer, last_key, accepted}
use Rattle.duplex_receiver.specs.Receiver.{Hearing, ReceiverState, offer_of, act_of}

-- what is heard at each of the bytes, and the body that is lent there, as the grammar tells it of the bytes up to there
pub data Hears (check : Check) (N : ℕ) : List ℕ → List Hearing → Type 0 where
  nothing_yet : Hears check N [] []
  one_more : (bytes : List ℕ) (before : List Hearing) (b : ℕ) (h : Hearing) → Hears check N bytes before
      → ReadOff (full_duplex check N) (bytes ++ b ∷ []) (last_heard (full_duplex check N)) h.heard
      → ReadOff (full_duplex check N) (bytes ++ b ∷ []) (lent check N) h.body
      → Hears check N (bytes ++ b ∷ []) (before ++ h ∷ [])

-- the message that is offered where a whole frame is heard
abbrev pub offer_at : Hearing → List Offer
offer_at h = elim h.heard [ None ↦ [] | Some what ↦ elim what [ heard.Good ↦ offer_of h ∷ [] | _ ↦ [] ] ]

-- the messages that were offered, in order
abbrev pub offers : List Hearing → List Offer
offers = flat_map offer_at

-- the bodies that were accepted, in order
abbrev pub accepted_of : List Hearing → List (List ℕ)
accepted_of hearings = accepted (offers hearings)

-- the act at one more thing heard
abbrev pub act_after : List Hearing → Hearing → Act
act_after before h = act_of (last_key (accepted_of before)) h

-- the receiver stands for these bytes, at which these things were heard: it keeps the key of the last accepted message
pub record Stands (check : Check) (N : ℕ) (bytes : List ℕ) (hearings : List Hearing) (s : ReceiverState) : Type 0 where
  pub hears : Hears check N bytes hearings
  pub decodes : ReadOff (full_duplex check N) bytes (decoding check N) s.decoding
  pub keeps : s.kept ≡ last_key (accepted_of hearings)

-- the act at which a body is accepted
abbrev pub is_accept : Act → Bool
is_accept act.Accept = true
is_accept _ = false

-- no body has the key of the one before it
abbrev pub KeysChange : List (List ℕ) → Type 0
KeysChange [] = Unit {0}
KeysChange (body ∷ []) = Unit {0}
KeysChange (body ∷ next ∷ more) = (key_of body ≢ key_of next) × KeysChange (next ∷ more)
