-- The lines of outcomes, written one after another, and a line that is written alone.
use Rattle.std.proofs.Common.{◌≡◌, ◌∙◌, ℕ, zero, suc, ◌+◌, ◌-◌, ◌≤◌, List, [], ◌∷◌, ◌++◌, drop, Option, Some, None, refl, ap, sym, arith, append_assoc, slice_get}
use Rattle.std.specs.Option.{option_map, option_map_or, unwrap_or}
use Rattle.std.proofs.KnownBytes.{Appends-trans}
use Rattle.df1_base.specs.Outside.{Put, Wrote, WroteLess}
use Rattle.df1_node.specs.declared.outcome.Outcome.{Outcome}
use Rattle.df1_node.specs.Initiator.{InitiatorState, Issued, outcome_of, reply_of, told_outcome, told_reply}
use Rattle.replay_report.proofs.Writing.{less_of_more, less_rest}
use Rattle.df1_service.specs.Service.{outcome_line, outcome_lines}

-- ---- the line of the next command

same_some : (o p : Outcome) → Some o ≡ Some p → o ≡ p
same_some o p e = ap (λ (x : Option Outcome). unwrap_or x o) e

line_at : (cs : List Issued) (place n : ℕ) (o : Outcome) → option_map (λ c. told_outcome c.standing) (slice_get cs place) ≡ Some o → outcome_lines n (drop place cs) ≡ outcome_line n o (option_map_or (λ c. told_reply c.standing) (slice_get cs place) []) ++ outcome_lines (n + 1) (drop (suc place) cs)
line_at [] zero n o e = absurd cc
line_at [] (suc place) n o e = absurd cc
line_at (c ∷ cs) zero n o e = ap (λ p. outcome_line n p (told_reply c.standing) ++ outcome_lines (n + 1) cs) (same_some (told_outcome c.standing) o e)
line_at (c ∷ cs) (suc place) n o e = line_at cs place n o e

-- the lines from number n on are its line and those from the next number on
pub next_line : (s : InitiatorState) (n : ℕ) (o : Outcome) → 1 ≤ n → outcome_of s n ≡ Some o → outcome_lines n (drop (n - 1) s.issued) ≡ outcome_line n o (reply_of s n) ++ outcome_lines (n + 1) (drop (n + 1 - 1) s.issued)
next_line s zero o some e = absurd (omega arith)
next_line s (suc place) o some e =
    let before : suc place - 1 ≡ place = omega arith in
    let after : suc place + 1 - 1 ≡ suc place = omega arith in
    rw (before, after) (line_at s.issued place (suc place) o e)

no_more : (cs : List Issued) (place n : ℕ) → option_map (λ c. told_outcome c.standing) (slice_get cs place) ≡ None → outcome_lines n (drop place cs) ≡ []
no_more [] zero n e = refl
no_more [] (suc place) n e = refl
no_more (c ∷ cs) zero n e = absurd cc
no_more (c ∷ cs) (suc place) n e = no_more cs place n e

-- there are none from a number on that was not issued
pub last_line : (s : InitiatorState) (n : ℕ) → 1 ≤ n → outcome_of s n ≡ None → outcome_lines n (drop (n - 1) s.issued) ≡ []
last_line s zero some e = absurd (omega arith)
last_line s (suc place) some e = let before : suc place - 1 ≡ place = omega arith in rw before (no_more s.issued place (suc place) e)

-- ---- a line is written

pub line_put : (a b c : Option (List ℕ)) (text line rest : List ℕ) → Wrote a b text (line ++ rest) → Put b c line → Wrote a c text rest
line_put a b c text line rest w put = record {
  part = w.part ++ line;
  text_is = w.text_is ∙ sym (append_assoc w.part line rest);
  put = Appends-trans a b c w.part line w.put put;
}

-- or less than it
pub line_less : (a b c : Option (List ℕ)) (text line rest : List ℕ) → Wrote a b text (line ++ rest) → WroteLess b c line → WroteLess a c text
line_less a b c text line rest w less = less_rest a b c text (line ++ rest) w (less_of_more b c line rest less)
