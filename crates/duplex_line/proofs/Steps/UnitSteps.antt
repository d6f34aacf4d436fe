-- Unit steps of one kind, one after another.
use Rattle.std.proofs.Common.{◌≡◌, ◌∙◌, ℕ, zero, suc, List, [], ◌++◌, Option, None, refl, ap, append-nil}
use Rattle.std.specs.Prelude.{replicate}
use Rattle.script_statement.specs.declared.who.Who.{Who}
use Rattle.replay_report.specs.declared.record.Line.{Line}
use Rattle.lane_cells.specs.Cells.{LaneCell}
use Rattle.duplex_line.specs.Acts.{LineEndState, LineState, Deed, near_after, near_lines, arriving, after_arrival, arrival_lines, deceived_after, given_at, given_over, after_deed, after_deeds, lines_at, lines_over}
use Rattle.duplex_line.specs.Steps.{near_over, near_lines_over}

-- the line after an end's own steps
abbrev pub nearer : LineState → LineEndState → LineState
nearer s a = record { a = a; b = s.b; deceived = s.deceived }

-- where nothing arrives, only the end itself changes
pub stays : (deed : Deed) → ((s : LineEndState) → arriving s deed ≡ None) → (n : ℕ) (s : LineState) → after_deeds s (replicate n deed) ≡ nearer s (near_over s.a (replicate n deed))
stays deed none zero s = refl
stays deed none (suc n) s =
    stays deed none n (after_deed s deed)
    ∙ ap (λ (cell : Option LaneCell). let after : LineState = record { a = near_over (near_after s.a deed) (replicate n deed); b = after_arrival s.b cell; deceived = deceived_after s.deceived s.b cell } in after) (none s.a)

pub stays-lines : (near far : Who) (deed : Deed) → ((s : LineEndState) → arriving s deed ≡ None) → (n : ℕ) (s : LineState) → lines_over near far s (replicate n deed) ≡ near_lines_over near s.a (replicate n deed)
stays-lines near far deed none zero s = refl
stays-lines near far deed none (suc n) s =
    ap (λ (lines : List Line). lines_at near far s deed ++ lines) (stays-lines near far deed none n (after_deed s deed))
    ∙ ap (λ (cell : Option LaneCell). near_lines near s.a deed ++ arrival_lines far s.b cell ++ near_lines_over near (near_after s.a deed) (replicate n deed)) (none s.a)
    ∙ ap (λ (lines : List Line). lines ++ near_lines_over near (near_after s.a deed) (replicate n deed)) (append-nil (near_lines near s.a deed))

-- steps that make no line
pub silent : (who : Who) (deed : Deed) → ((s : LineEndState) → near_lines who s deed ≡ []) → (n : ℕ) (s : LineEndState) → near_lines_over who s (replicate n deed) ≡ []
silent who deed none zero s = refl
silent who deed none (suc n) s = ap (λ (lines : List Line). lines ++ near_lines_over who (near_after s deed) (replicate n deed)) (none s) ∙ silent who deed none n (near_after s deed)

-- steps that give no byte
pub gives-none : (deed : Deed) → ((s : LineEndState) → given_at s deed ≡ []) → (n : ℕ) (s : LineEndState) → given_over s (replicate n deed) ≡ []
gives-none deed none zero s = refl
gives-none deed none (suc n) s = ap (λ (bytes : List ℕ). bytes ++ given_over (near_after s deed) (replicate n deed)) (none s) ∙ gives-none deed none n (near_after s deed)

-- a step that changes nothing may be done again
pub still : (deed : Deed) (s : LineEndState) → near_after s deed ≡ s → (n : ℕ) → near_over s (replicate n deed) ≡ s
still deed s same zero = refl
still deed s same (suc n) = ap (λ (t : LineEndState). near_over t (replicate n deed)) same ∙ still deed s same n

pub still-silent : (who : Who) (deed : Deed) (s : LineEndState) → near_after s deed ≡ s → near_lines who s deed ≡ [] → (n : ℕ) → near_lines_over who s (replicate n deed) ≡ []
still-silent who deed s same none zero = refl
still-silent who deed s same none (suc n) =
    ap (λ (lines : List Line). lines ++ near_lines_over who (near_after s deed) (replicate n deed)) none
    ∙ ap (λ (t : LineEndState). near_lines_over who t (replicate n deed)) same
    ∙ still-silent who deed s same none n
