-- What is read so far goes on as the whole does.
use Rattle.std.proofs.Common.{◌≡◌, ℕ, ◌+◌, ◌≤◌, Bool, true, false, cond, List, [], ◌∷◌, length, Option, Result, Ok, Err, refl, arith, eqb}
use Rattle.std.proofs.lemmas.Grind.{common_steps}
use Rattle.std.proofs.lemmas.Bool.Decides.{nat_tests}
use Rattle.line_script.specs.declared.fault.Cause.{Cause}
use Rattle.line_script.specs.declared.fault.Cause.TheVariants as cause
use Rattle.line_script.specs.declared.fault.LineFault.{LineFault}
use Rattle.line_script.specs.declared.fault.LineFault.TheVariants.{Faulty, NoMemory}
use Rattle.line_script.specs.declared.reader.Reader.{Reader}
use Rattle.script_parts.specs.declared.script.Event.{Event}
use Rattle.line_script.specs.Lines.{text_line, lines_from, last_line, line_for, words_for, reaches_limit, is_long, content}
use Rattle.line_script.specs.declared.profile.Profile.{Profile}
use Rattle.line_script.specs.Refusal.{IsFaulty, IsRefused, fault_at}
use Rattle.line_script.specs.ScriptText.{lines_for, with_event, parts}
use Rattle.script_statement.specs.Words.{words}
use Rattle.line_script.proofs.Cuts.{split-first}

-- the lines from one that was read on
pub goes_on : (profile : Profile) (d e : Reader) (events more_events : List Event) (number start : ℕ) (bytes more : List ℕ) → with_event events (line_for profile d (text_line start bytes true)) ≡ Ok (e, more_events) → lines_for profile d events number (lines_from start (bytes ∷ parts more)) ≡ lines_for profile e more_events (number + 1) (lines_from (start + (length bytes + 1)) (parts more))
goes_on profile d e events more_events number start bytes more h =
    let cut = split-first (λ b. eqb b 10) more in
    rw (cut.2, h) refl

-- a text that is refused at a line is refused
pub refused_at : (profile : Profile) (fault : LineFault) (d : Reader) (events : List Event) (number start : ℕ) (bytes more : List ℕ) → IsFaulty fault (with_event events (line_for profile d (text_line start bytes true))) → IsRefused (fault_at number fault) (lines_for profile d events number (lines_from start (bytes ∷ parts more)))
refused_at profile NoMemory d events number start bytes more h = tt
refused_at profile (Faulty cause) d events number start bytes more h =
    let cut = split-first (λ b. eqb b 10) more in
    let err : with_event events (line_for profile d (text_line start bytes true)) ≡ Err cause = h in
    rw (cut.2, err) refl

-- where anything stands behind the last line feed, it is a line
pub one_line : (start : ℕ) (rest : List ℕ) → eqb (length rest) 0 ≡ false → last_line start rest ≡ text_line start rest false ∷ []
one_line start [] h = cc
one_line start (byte ∷ more) h = refl

-- a text whose last line is refused is refused
pub refused_at_last : (profile : Profile) (fault : LineFault) (d : Reader) (events : List Event) (number start : ℕ) (rest : List ℕ) → eqb (length rest) 0 ≡ false → IsFaulty fault (with_event events (line_for profile d (text_line start rest false))) → IsRefused (fault_at number fault) (lines_for profile d events number (last_line start rest))
refused_at_last profile NoMemory d events number start rest some h = tt
refused_at_last profile (Faulty cause) d events number start rest some h =
    let err : with_event events (line_for profile d (text_line start rest false)) ≡ Err cause = h in
    rw (one_line start rest some, err) refl

-- a line with an answer is neither past the limit nor long
short : (events : List Event) (x : Reader × List Event) (limit long : Bool) (r : Result (Reader × Option Event) Cause) → with_event events (cond limit (Err cause.Size) (cond long (Err cause.Long) r)) ≡ Ok x → (limit ≡ false) × (long ≡ false)
short events x true long r h = cc
short events x false true r h = cc
short events x false false r h = (refl, refl)

-- so it leaves the text within its limit
pub stays_within : (profile : Profile) (d : Reader) (events : List Event) (x : Reader × List Event) (start : ℕ) (bytes : List ℕ) → with_event events (line_for profile d (text_line start bytes true)) ≡ Ok x → start ≤ 16777216 → start + (length bytes + 1) ≤ 16777216
stays_within profile d events x start bytes h le =
    let line = text_line start bytes true in
    let tests = short events x (reaches_limit line) (is_long line) (words_for profile d (words (content line))) h in
    let limit : reaches_limit (text_line start bytes true) ≡ false = tests.0 in
    let long : is_long (text_line start bytes true) ≡ false = tests.1 in
    grind (arith, nat_tests, common_steps)
