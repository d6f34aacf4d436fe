-- A message has another key than the one that is kept, where none of the earlier messages has its TNS.
use Rattle.std.proofs.Common.{◌≡◌, ◌∙◌, ◌⊎◌, ℕ, false, List, [], ◌∷◌, ◌++◌, Option, Some, None, refl, sym, inr}
use Rattle.std.proofs.lemmas.Bool.{and_parts, eqb-true, false_from_ne_true}
use Rattle.pccc_envelope.specs.declared.key.Key.{Key}
use Rattle.pccc_envelope.specs.Envelope.{key_of, tns_of}
use Rattle.pccc_envelope.specs.Accepted.{is_kept}
use Rattle.df1_node.specs.Initiator.{Issued}
use Rattle.each_once.proofs.Sublists.{Has, get-last}
use Rattle.half_line.proofs.Complete.EarlierCommands.{WasHanded}

-- a command that was handed out before, or one of the messages since
abbrev pub IsBefore : List Issued → List (List ℕ) → List ℕ → Type 0
IsBefore before since body = WasHanded before body ⊎ Has since body

-- a key that is kept has the TNS of one of these
abbrev pub IsKeyOf : List Issued → List (List ℕ) → Option Key → Type 0
IsKeyOf before since None = Unit {0}
IsKeyOf before since (Some key) = (body : List ℕ) × IsBefore before since body × (key.tns ≡ tns_of body)

-- that of the last of them
pub key-last : (before : List Issued) (since : List (List ℕ)) (body : List ℕ) → IsKeyOf before (since ++ body ∷ []) (Some (key_of body))
key-last before since body = (body, inr (get-last since body), refl)

pub new-key : (before : List Issued) (since : List (List ℕ)) (kept : Option Key) (body : List ℕ) → IsKeyOf before since kept → ((x : List ℕ) → IsBefore before since x → tns_of x ≡ tns_of body → ⊥) → is_kept kept (key_of body) ≡ false
new-key before since None body of apart = refl
new-key before since (Some key) body of apart = false_from_ne_true _ (λ kept. apart of.0 of.1 (sym of.2 ∙ eqb-true _ _ (and_parts _ _ kept).1))
