-- What the lines of a report tell of the messages that an end accepts: each command as executed.
use Rattle.std.proofs.Common.{◌≡◌, ◌∙◌, ℕ, Bool, true, false, List, [], ◌∷◌, ◌++◌, not, Option, Some, None, refl, ap, sym, append-nil}
use Rattle.std.specs.Prelude.{if◌then◌else◌}
use Rattle.std.specs.List.{filter}
use Rattle.std.proofs.lemmas.List.Elements.{filter_map-append}
use Rattle.df1_base.specs.declared.host.Did.TheVariants as did
use Rattle.pccc_envelope.specs.Envelope.{is_reply}
use Rattle.script_statement.specs.declared.who.Who.{Who}
use Rattle.replay_report.specs.declared.record.Line.{Line}
use Rattle.replay_report.specs.declared.record.Line.TheVariants as line
use Rattle.report_lines.specs.NodeLines.{did_lines}
use Rattle.each_once.specs.Tells.{is_who, executed_at, executed_in}
use Rattle.each_once.proofs.HandedOut.{is_command}
use Rattle.each_once.proofs.Sublists.{filter-keeps, filter-drops}
use Rattle.duplex_line.proofs.Once.ArrivingCell.{did_reply}

-- the commands among these messages are told as executed
pub record TellsOf (who : Who) (heard : List (List ℕ)) (lines : List Line) : Type 0 where
  pub executes : executed_in who lines ≡ filter is_command heard

pub tells-silent : (who : Who) (heard : List (List ℕ)) (lines more : List Line) → executed_in who more ≡ [] → TellsOf who heard lines → TellsOf who heard (lines ++ more)
tells-silent who heard lines more none t = record {
  executes = filter_map-append (executed_at who) lines more ∙ ap (λ (xs : List (List ℕ)). executed_in who lines ++ xs) none ∙ append-nil (executed_in who lines) ∙ t.executes;
}

-- ---- a message more

tells-command : (who : Who) → is_who who who ≡ true → (heard : List (List ℕ)) (lines : List Line) (body : List ℕ) → is_reply body ≡ false → TellsOf who heard lines → TellsOf who (heard ++ body ∷ []) (lines ++ line.Exec who body ∷ [])
tells-command who itself heard lines body command t = record {
  executes = filter_map-append (executed_at who) lines (line.Exec who body ∷ []) ∙ rw itself (ap (λ (xs : List (List ℕ)). xs ++ body ∷ []) t.executes) ∙ sym (filter-keeps is_command heard body (ap not command));
}

-- a reply is no command, whatever it answers
none-executed : (who by : Who) (body : List ℕ) (place : Option ℕ) → executed_in who (did_lines by (Some (did_reply place)) body ++ []) ≡ []
none-executed who by body None = refl
none-executed who by body (Some place) = refl

tells-reply : (who : Who) (heard : List (List ℕ)) (lines : List Line) (body : List ℕ) (place : Option ℕ) → is_reply body ≡ true → TellsOf who heard lines → TellsOf who (heard ++ body ∷ []) (lines ++ (did_lines who (Some (did_reply place)) body ++ []))
tells-reply who heard lines body place reply t =
    let more = did_lines who (Some (did_reply place)) body ++ [] in
    let same = tells-silent who heard lines more (none-executed who who body place) t in
    record { executes = same.executes ∙ sym (filter-drops is_command heard body (ap not reply)) }

-- a message is accepted by the end itself
pub tells-accept : (who : Who) → is_who who who ≡ true → (heard : List (List ℕ)) (lines : List Line) (body : List ℕ) (place : Option ℕ) (reply : Bool) → is_reply body ≡ reply → TellsOf who heard lines
    → TellsOf who (heard ++ body ∷ []) (lines ++ (did_lines who (Some (if reply then did_reply place else did.Executed)) body ++ []))
tells-accept who itself heard lines body place true is t = tells-reply who heard lines body place is t
tells-accept who itself heard lines body place false is t = tells-command who itself heard lines body is t

-- and by the other
pub none-accepted : (who by : Who) → is_who who by ≡ false → (body : List ℕ) (place : Option ℕ) (reply : Bool) → executed_in who (did_lines by (Some (if reply then did_reply place else did.Executed)) body ++ []) ≡ []
none-accepted who by apart body place true = none-executed who by body place
none-accepted who by apart body place false = rw apart refl
