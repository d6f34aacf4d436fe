-- Messages of which no two have the same key.
use Rattle.std.specs.Prelude.{◌≡◌, ℕ, List, slice_get, Some}
use Rattle.pccc_envelope.specs.Envelope.{key_of}

-- no two of the messages have the same key
abbrev pub HaveOwnKeys : List (List ℕ) → Type 0
HaveOwnKeys messages = (p q : ℕ) (x y : List ℕ) → slice_get messages p ≡ Some x → slice_get messages q ≡ Some y → key_of x ≡ key_of y → p ≡ q
