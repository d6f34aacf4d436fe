-- Messages have keys of their own where their commands have different numbers, and so have their replies.
use Rattle.std.proofs.Common.{◌≡◌, ◌∙◌, ℕ, Bool, true, false, cond, not, List, [], ◌∷◌, map, refl, sym, ap}
use Rattle.std.specs.Prelude.{◌==◌}
use Rattle.std.specs.Int.{bit_at}
use Rattle.std.specs.List.{filter}
use Rattle.pccc_envelope.specs.declared.key.Key.{Key}
use Rattle.pccc_envelope.specs.Envelope.{is_reply, key_of, tns_of}
use Rattle.each_once.specs.Commands.{is_command}
use Rattle.each_once.specs.OwnKeys.{HaveOwnKeys}
use Rattle.each_once.proofs.Sublists.{IsOther, Differ, differ-at}

-- a test that looks at the key alone
abbrev LooksAtKey : (List ℕ → Bool) → Type 0
LooksAtKey p = (x y : List ℕ) → key_of x ≡ key_of y → p x ≡ p y

reply-key : LooksAtKey is_reply
reply-key x y same = ap (λ (key : Key). bit_at key.cmd 6 == 1) same

command-key : LooksAtKey is_command
command-key x y same = ap not (reply-key x y same)

other-step : (p : List ℕ → Bool) → LooksAtKey p → (x y : List ℕ) (xs : List (List ℕ)) (b : Bool) → p x ≡ true → p y ≡ b → IsOther (tns_of x) (map tns_of (cond b (y ∷ filter p xs) (filter p xs)))
    → (IsOther (tns_of x) (map tns_of (filter p xs)) → IsOther (key_of x) (map key_of xs)) → IsOther (key_of x) (map key_of (y ∷ xs))
other-step p looks x y xs true passes is other more = (λ same. other.0 (ap (λ (key : Key). key.tns) same), more other.1)
other-step p looks x y xs false passes is other more = (λ same. let no : true ≡ false = sym passes ∙ looks x y same ∙ is in cc, more other)

other-keys : (p : List ℕ → Bool) → LooksAtKey p → (x : List ℕ) → p x ≡ true → (xs : List (List ℕ)) → IsOther (tns_of x) (map tns_of (filter p xs)) → IsOther (key_of x) (map key_of xs)
other-keys p looks x passes [] other = tt
other-keys p looks x passes (y ∷ xs) other = other-step p looks x y xs (p y) passes refl other (other-keys p looks x passes xs)

differ-step : (x : List ℕ) (xs : List (List ℕ)) (b : Bool) → is_reply x ≡ b → Differ (map tns_of (cond (not b) (x ∷ filter is_command xs) (filter is_command xs))) → Differ (map tns_of (cond b (x ∷ filter is_reply xs) (filter is_reply xs)))
    → (Differ (map tns_of (filter is_command xs)) → Differ (map tns_of (filter is_reply xs)) → Differ (map key_of xs)) → Differ (map key_of (x ∷ xs))
differ-step x xs true is commands replies more = (other-keys is_reply reply-key x is xs replies.0, more commands replies.1)
differ-step x xs false is commands replies more = (other-keys is_command command-key x (ap not is) xs commands.0, more commands.1 replies)

keys-differ : (messages : List (List ℕ)) → Differ (map tns_of (filter is_command messages)) → Differ (map tns_of (filter is_reply messages)) → Differ (map key_of messages)
keys-differ [] commands replies = tt
keys-differ (x ∷ xs) commands replies = differ-step x xs (is_reply x) refl commands replies (keys-differ xs)

pub own-keys : (messages : List (List ℕ)) → Differ (map tns_of (filter is_command messages)) → Differ (map tns_of (filter is_reply messages)) → HaveOwnKeys messages
own-keys messages commands replies p q x y is_x is_y same = differ-at key_of messages p q x y (keys-differ messages commands replies) is_x is_y same
