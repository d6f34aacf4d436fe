-- The line of the bytes that an end gave last, behind the others.
use Rattle.std.proofs.Common.{◌≡◌, ◌∙◌, ℕ, ◌<◌, List, [], ◌∷◌, ◌++◌, Option, length, refl, ap, subst, sym, append-nil, arith}
use Rattle.std.specs.List.{flat_map}
use Rattle.std.proofs.KnownBytes.{Appends-trans}
use Rattle.std.proofs.lemmas.Grind.{flat_map-append}
use Rattle.df1_base.specs.Outside.{Put, WroteLess}
use Rattle.script_statement.specs.declared.who.Who.{Who}
use Rattle.replay_report.specs.declared.record.Line.{Line}
use Rattle.replay_report.specs.declared.record.Line.TheVariants as line
use Rattle.replay_report.specs.Report.{line_text, sent_lines}
use Rattle.replay_report.proofs.Writing.{less_behind, less_of_more}
use Rattle.duplex_line.specs.declared.sent.Sent.{Sent}
use Rattle.duplex_line.specs.Told.{with_sent}

pub empty : (bytes : List ℕ) → length bytes ≡ 0 → bytes ≡ []
empty [] none = refl
empty (byte ∷ bytes) none = absurd (omega (arith, none))

-- there is none where no byte is kept
pub none-sent : (who : Who) (bytes : List ℕ) → bytes ≡ [] → sent_lines who bytes ≡ []
none-sent who bytes none = ap (λ (given : List ℕ). sent_lines who given) none

pub with-none : (lines : List Line) (sent : Sent) → sent.bytes ≡ [] → with_sent lines sent ≡ lines
with-none lines sent none = ap (λ (more : List Line). lines ++ more) (none-sent sent.who sent.bytes none) ∙ append-nil lines

-- and else one
pub one-sent : (who : Who) (bytes : List ℕ) → 0 < length bytes → sent_lines who bytes ≡ line.Sent who bytes ∷ []
one-sent who [] some = absurd (omega (arith, some))
one-sent who (byte ∷ bytes) some = refl

-- lines behind those that stood, once no byte is kept
pub behind : (old lines new more : List Line) (sent : Sent) → lines ≡ old → sent.bytes ≡ [] → new ≡ lines ++ more → with_sent new sent ≡ old ++ more
behind old lines new more sent is none e = with-none new sent none ∙ e ∙ ap (λ (l : List Line). l ++ more) is

-- the line of bytes that are given behind those that stood
pub given : (old lines : List Line) (who : Who) (bytes : List ℕ) (sent : Sent) → lines ≡ old → sent ≡ record { who = who; bytes = bytes } → with_sent lines sent ≡ old ++ sent_lines who bytes
given old lines who bytes sent is e = ap (λ (s : Sent). with_sent lines s) e ∙ ap (λ (l : List Line). l ++ sent_lines who bytes) is

-- ---- what a sink has taken

pub no-text : (who : Who) (bytes : List ℕ) → length bytes ≡ 0 → flat_map line_text (sent_lines who bytes) ≡ []
no-text who [] none = refl
no-text who (byte ∷ bytes) none = absurd (omega (arith, none))

pub one-text : (who : Who) (bytes : List ℕ) → 0 < length bytes → flat_map line_text (sent_lines who bytes) ≡ line_text (line.Sent who bytes)
one-text who [] some = absurd (omega (arith, some))
one-text who (byte ∷ bytes) some = append-nil (line_text (line.Sent who (byte ∷ bytes)))

text-of : (lines : List Line) (sent : Sent) → flat_map line_text (with_sent lines sent) ≡ flat_map line_text lines ++ flat_map line_text (sent_lines sent.who sent.bytes)
text-of lines sent = flat_map-append line_text lines (sent_lines sent.who sent.bytes)

none-kept : (who : Who) (bytes : List ℕ) → sent_lines who bytes ≡ [] → bytes ≡ []
none-kept who [] none = refl
none-kept who (byte ∷ bytes) none = cc

pub all-put : (a b c : Option (List ℕ)) (lines : List Line) (sent : Sent) → Put a b (flat_map line_text lines) → Put b c (flat_map line_text (sent_lines sent.who sent.bytes)) → Put a c (flat_map line_text (with_sent lines sent))
all-put a b c lines sent first second =
    subst (Put a c) (sym (text-of lines sent)) (Appends-trans a b c (flat_map line_text lines) (flat_map line_text (sent_lines sent.who sent.bytes)) first second)

pub less-of-lines : (a b : Option (List ℕ)) (lines : List Line) (sent : Sent) → WroteLess a b (flat_map line_text lines) → WroteLess a b (flat_map line_text (with_sent lines sent))
less-of-lines a b lines sent less =
    subst (WroteLess a b) (sym (text-of lines sent)) (less_of_more a b (flat_map line_text lines) (flat_map line_text (sent_lines sent.who sent.bytes)) less)

pub less-of-sent : (a b c : Option (List ℕ)) (lines : List Line) (sent : Sent) → Put a b (flat_map line_text lines) → WroteLess b c (flat_map line_text (sent_lines sent.who sent.bytes)) → WroteLess a c (flat_map line_text (with_sent lines sent))
less-of-sent a b c lines sent first less =
    subst (WroteLess a c) (sym (text-of lines sent)) (less_behind a b c (flat_map line_text lines) (flat_map line_text (sent_lines sent.who sent.bytes)) first less)

-- there are no lines where none stood and no byte is kept
pub none-stands : (lines : List Line) (sent : Sent) → with_sent lines sent ≡ [] → (lines ≡ []) × (sent.bytes ≡ [])
none-stands [] sent none = (refl, none-kept sent.who sent.bytes none)
none-stands (one ∷ lines) sent none = cc
