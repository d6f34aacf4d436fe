use Rattle.std.proofs.Common.{◌≡◌, ◌∙◌, cond, List, [], ◌∷◌, ℕ, Ok, Err, None, Option, Bor, refl, sym, ap, map, take}
use Rattle.script_statement.specs.Words.{words}
use Rattle.script_statement.specs.declared.statement.Statement.{Statement}
use Rattle.script_statement.proofs.Forms.{first_six}
use Rattle.line_script.specs.declared.fault.Cause.TheVariants as cause
use Rattle.line_script.specs.declared.reader.Reader.{Reader}
use Rattle.line_script.specs.Readers.{stage_of}
use Rattle.line_script.specs.Lines.{after_form, after_words, is_ended, is_passed_over}
use Rattle.line_script.proofs.reader.Reader.read_said.Goals as goal

-- a line is read by its first six words
read_by_six : (d : Reader) (line : List (List ℕ)) → after_words d (take 6 line) ≡ after_words d line
read_by_six d [] = refl
read_by_six d (word ∷ line) =
    ap (λ (s : Option Statement). cond (is_passed_over (word ∷ line)) (Ok (d, None)) (cond (is_ended (stage_of d)) (Err cause.After) (after_form d s))) (first_six (word ∷ line))

pub returns-in-None : goal.returns-in-None
returns-in-None c =
    let d = c.args.self.now in
    let given = ap (map (λ (x : Bor (List ℕ)). x.now)) c.deref.ensures.0 ∙ c.first_words.ensures in
    let same : after_words d (words c.args.said.now) ≡ after_words d (map (λ (x : Bor (List ℕ)). x.now) c.deref.result.now) = sym (ap (after_words d) given ∙ read_by_six d (words c.args.said.now)) in
    rw same c.read_words.ensures
