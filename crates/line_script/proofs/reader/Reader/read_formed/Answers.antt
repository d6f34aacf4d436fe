use Rattle.std.proofs.Common.{◌≡◌, ◌∙◌, ℕ, false, cond, List, [], ◌∷◌, Ok, Err, None, Option, Bor, refl, sym, ap, length, map, take}
use Rattle.std.proofs.lemmas.Bool.{le-ltb}
use Rattle.script_statement.specs.Words.{words}
use Rattle.script_statement.specs.declared.statement.Statement.{Statement}
use Rattle.line_script.specs.declared.fault.Cause.TheVariants as cause
use Rattle.line_script.specs.declared.profile.Profile.{Profile}
use Rattle.line_script.specs.declared.reader.Reader.{Reader}
use Rattle.line_script.specs.Readers.{stage_of}
use Rattle.line_script.specs.Lines.{content, form_for, is_ended, is_long, is_passed_over, line_for, reaches_limit, text_line, words_for}
use Rattle.line_script.proofs.Profiles.{said-by-six}
use Rattle.line_script.proofs.reader.Reader.read_formed.Goals as goal

-- a line is read by its first six words
read_by_six : (profile : Profile) (d : Reader) (line : List (List ℕ)) → words_for profile d (take 6 line) ≡ words_for profile d line
read_by_six profile d [] = refl
read_by_six profile d (word ∷ line) =
    ap (λ (s : Option Statement). cond (is_passed_over (word ∷ line)) (Ok (d, None)) (cond (is_ended (stage_of d)) (Err cause.After) (form_for profile d s))) (said-by-six profile (word ∷ line))

pub returns : goal.returns
returns c =
    let d = c.args.self.now in
    let profile = c.args.profile in
    let line = text_line c.args.start c.args.line.now c.args.is_ended in
    let near : reaches_limit line ≡ false = sym c.reaches_limit.ensures ∙ c.if-reaches_limit.false in
    let short : is_long line ≡ false = le-ltb 1024 (length c.args.line.now) c.if-line-gt-LINE.false in
    let given = ap (map (λ (x : Bor (List ℕ)). x.now)) c.deref.ensures.0 ∙ c.first_words.ensures ∙ ap (λ (l : List ℕ). take 6 (words l)) c.content.ensures in
    let same : line_for profile d line ≡ words_for profile d (map (λ (x : Bor (List ℕ)). x.now) c.deref.result.now) = rw (near, short) (sym (ap (words_for profile d) given ∙ read_by_six profile d (words (content line)))) in
    rw same c.read_words_for.ensures
