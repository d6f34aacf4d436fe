-- What a decoder hears of a frame's check bytes, and where an end chooses a response.
use Rattle.std.proofs.Common.{◌≡◌, ℕ, ◌+◌, ◌≤◌, Bool, true, false, List, [], ◌∷◌, ◌++◌, length, Option, Some, None, ap, sym, ◌∙◌, refl, arith, length-append}
use Rattle.std.specs.Prelude.{if◌then◌else◌, ◌&&◌, slice_get}
use Rattle.std.specs.Option.{option_map}
use Rattle.std.proofs.lemmas.Bool.{lt-ltb, le-ltb}
use Rattle.df1_base.specs.declared.link.Resp.{Resp}
use Rattle.df1_base.specs.declared.link.Out.{Out}
use Rattle.df1_check.specs.declared.Check.{Check}
use Rattle.df1_check.specs.declared.Check.TheVariants as kind
use Rattle.df1_check.specs.Checks.{check_value}
use Rattle.df1_frame.specs.declared.heard.Heard.TheVariants as heard
use Rattle.df1_frame.specs.declared.framer.Unit.{Unit as Given}
use Rattle.df1_frame.specs.Spelling.{check_of, check_len, covered, same}
use Rattle.df1_frame.specs.Grammar.{frame_heard}
use Rattle.df1_frame.specs.Units.{check_units}
use Rattle.df1_frame.specs.Gathered.{gathered_whole}
use Rattle.df1_frame.specs.Standing.{Ended, AtCheck}
use Rattle.df1_frame.specs.Step.{step}
use Rattle.df1_frame.proofs.SpellingLemmas.{length-check}
use Rattle.df1_frame.proofs.GatheredLemmas.{verdict-gathered, left_by-gathered}
use Rattle.embedded_response.specs.Giving.{Giving, Second, Respond, Give, Enquire, is_begun, first_there, chosen}

-- ---- the check bytes

-- as many as the check has
check-length : (check : Check) (body : List ℕ) → length (check_of check body) ≡ check_len check
check-length check body = length-check check (check_value check (covered check body))

-- there are some
len-some : (check : Check) → check_len check ≡ 0 → ⊥
len-some kind.Bcc e = absurd (omega arith)
len-some kind.Crc e = absurd (omega arith)

pub check-some : (check : Check) (body : List ℕ) → check_of check body ≡ [] → ⊥
check-some check body e = len-some check (sym (check-length check body) ∙ ap length e)

-- where some are left, units are
pub checks-left : (bytes : List ℕ) → (bytes ≡ [] → ⊥) → check_units bytes ≡ [] → ⊥
checks-left [] some e = some refl
checks-left (b ∷ []) some e = cc
checks-left (b ∷ c ∷ more) some e = cc

-- at one that isn't the last nothing is heard, whatever was heard of the body
pub check-goes : (check : Check) (body seen done more : List ℕ) (b c : ℕ) → check_of check body ≡ done ++ b ∷ c ∷ more
    → step check 250 (AtCheck (gathered_whole check 250 seen) done) b ≡ (AtCheck (gathered_whole check 250 seen) (done ++ b ∷ []), None)
check-goes check body seen done more b c e =
    let all : length (done ++ b ∷ c ∷ more) ≡ check_len check = ap length (sym e) ∙ check-length check body in
    rw (lt-ltb (length done + 1) (check_len check) (omega (arith, all, length-append done (b ∷ c ∷ more)))) refl

-- a frame in which 6 to 250 bytes were heard of a body is good where the check bytes are those of what was heard
frame-verdict : (check : Check) (seen bytes : List ℕ) → 6 ≤ length seen → length seen ≤ 250 → frame_heard check 250 seen bytes ≡ (if same bytes (check_of check seen) then heard.Good else heard.BadCheck)
frame-verdict check seen bytes least most = rw (le-ltb 250 (length seen) most, le-ltb (length seen) 6 least) refl

-- at the last the body that was heard is lent
pub check-ends : (check : Check) (body seen done : List ℕ) (b : ℕ) → 6 ≤ length body → length body ≤ 250 → length seen ≡ length body → check_of check body ≡ done ++ b ∷ []
    → step check 250 (AtCheck (gathered_whole check 250 seen) done) b ≡ (Ended seen, Some (if same (check_of check body) (check_of check seen) then heard.Good else heard.BadCheck))
check-ends check body seen done b least most many e =
    let all : length (done ++ b ∷ []) ≡ check_len check = ap length (sym e) ∙ check-length check body in
    let enough : check_len check ≤ length done + 1 = omega (arith, all, length-append done (b ∷ [])) in
    let few : length seen ≤ 250 = omega (arith, many, most) in
    let some : 6 ≤ length seen = omega (arith, many, least) in
    rw (le-ltb (length done + 1) (check_len check) enough, left_by-gathered check 250 seen, verdict-gathered check 250 seen (done ++ b ∷ []), ← e, frame-verdict check seen (check_of check body) some few, le-ltb 250 (length seen) few) refl

-- ---- where a response is chosen

-- with no gap only where nothing is left of a frame
choices-gap : (second : Option Out) (embed begun asking : Bool) (waiting : Option Resp) (left : List Given) (r : Resp)
    → first_there (option_map Second second ∷ option_map Respond (if embed && (false && begun) then waiting else None) ∷ option_map Give (slice_get left 0) ∷ option_map Respond waiting ∷ (if asking then Some Enquire else None) ∷ []) ≡ Some (Respond r) → left ≡ []
choices-gap (Some out) embed begun asking waiting left r e = absurd cc
choices-gap None embed begun asking waiting [] r e = refl
choices-gap None true begun asking waiting (unit ∷ rest) r e = absurd cc
choices-gap None false begun asking waiting (unit ∷ rest) r e = absurd cc

pub responds-gap : (g : Giving) (r : Resp) → chosen g ≡ Some (Respond r) → g.gap ≡ false → g.left ≡ []
responds-gap g r e gap = choices-gap g.second g.embed (is_begun g) g.asking g.waiting g.left r (rw gap at e)
