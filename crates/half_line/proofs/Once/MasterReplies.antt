-- The master executes nothing, and accepts replies from stations of the line alone: what the lines tell of it.
use Rattle.std.proofs.Common.{◌≡◌, ◌∙◌, ℕ, zero, suc, Bool, true, false, List, [], ◌∷◌, ◌++◌, Some, refl, ap}
use Rattle.std.specs.Prelude.{All, IsTrue, slice_get, slice_index, ◌==◌, ◌||◌}
use Rattle.std.proofs.lemmas.Bool.{eq-eqb}
use Rattle.std.proofs.lemmas.List.Elements.{All-push, All-nil}
use Rattle.script_statement.specs.declared.who.Who.TheVariants.{M}
use Rattle.script_parts.specs.HalfPlayable.{is_declared}
use Rattle.replay_report.specs.declared.record.Line.{Line}
use Rattle.replay_report.specs.declared.record.Line.TheVariants as line
use Rattle.each_once.specs.Tells.{executed_at, answer_at, stray_at, executed_in, answers_in, strays_in}
use Rattle.each_once.proofs.Sublists.{same-some}
use Rattle.each_once.proofs.ToldLines.{adds, adds-none}
use Rattle.half_line.proofs.Once.QuietLines.{IsMute}

-- the station that a reply is from is one of these numbers
abbrev pub IsFromListed : List ℕ → List ℕ → Type 0
IsFromListed numbers reply = IsTrue (is_declared numbers (slice_index reply 1))

pub record MasterTold (numbers : List ℕ) (lines : List Line) : Type 0 where
  pub executes_none : executed_in M lines ≡ []
  pub answers_from : All (λ a. IsFromListed numbers a.1) (answers_in M lines)
  pub strays_from : All (IsFromListed numbers) (strays_in M lines)

pub master-start : (numbers : List ℕ) → MasterTold numbers []
master-start numbers = record { executes_none = refl; answers_from = All-nil _; strays_from = All-nil _ }

pub master-mute : (numbers : List ℕ) (lines more : List Line) → IsMute more → MasterTold numbers lines → MasterTold numbers (lines ++ more)
master-mute numbers lines more mute t = record {
  executes_none = adds-none (executed_at M) lines more mute.executes ∙ t.executes_none;
  answers_from = rw (adds-none (answer_at M) lines more mute.answers) t.answers_from;
  strays_from = rw (adds-none (stray_at M) lines more mute.strays) t.strays_from;
}

pub master-answers : (numbers : List ℕ) (lines : List Line) (place : ℕ) (reply : List ℕ) → IsFromListed numbers reply → MasterTold numbers lines → MasterTold numbers (lines ++ line.Answered M place reply ∷ [])
master-answers numbers lines place reply from t =
    let more = line.Answered M place reply ∷ [] in
    record {
      executes_none = adds-none (executed_at M) lines more refl ∙ t.executes_none;
      answers_from = rw (adds (answer_at M) lines more ((place, reply) ∷ []) refl) (All-push (λ a. IsFromListed numbers a.1) (answers_in M lines) (place, reply) t.answers_from from);
      strays_from = rw (adds-none (stray_at M) lines more refl) t.strays_from;
    }

pub master-strays : (numbers : List ℕ) (lines : List Line) (reply : List ℕ) → IsFromListed numbers reply → MasterTold numbers lines → MasterTold numbers (lines ++ line.Stray M reply ∷ [])
master-strays numbers lines reply from t =
    let more = line.Stray M reply ∷ [] in
    record {
      executes_none = adds-none (executed_at M) lines more refl ∙ t.executes_none;
      answers_from = rw (adds-none (answer_at M) lines more refl) t.answers_from;
      strays_from = rw (adds (stray_at M) lines more (reply ∷ []) refl) (All-push (IsFromListed numbers) (strays_in M lines) reply t.strays_from from);
    }

-- a number that stands in a list is declared
pub declared-at : (numbers : List ℕ) (p n : ℕ) → slice_get numbers p ≡ Some n → is_declared numbers n ≡ true
declared-at [] p n at = absurd cc
declared-at (m ∷ numbers) zero n at = let same : (m == n) ≡ true = eq-eqb m n (same-some m n at) in rw same refl
declared-at (m ∷ numbers) (suc p) n at = ap (λ rest. (m == n) || rest) (declared-at numbers p n at) ∙ or-true (m == n)
  where
    or-true : (b : Bool) → (b || true) ≡ true
    or-true true = refl
    or-true false = refl
