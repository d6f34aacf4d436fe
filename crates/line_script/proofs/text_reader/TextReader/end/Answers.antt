use Rattle.std.proofs.Common.{◌≡◌, ◌∙◌, List, ℕ, [], ◌∷◌, length, false, eqb, ap, arith, sym, subst}
use Rattle.line_script.specs.Fed.{Fed}
use Rattle.line_script.proofs.Fed.{ends-without-line, last-line-read}
use Rattle.line_script.proofs.Runs.{is-empty}
use Rattle.line_script.proofs.text_reader.TextReader.end.Goals as goal

not-empty : (line : List ℕ) → eqb (length line) 0 ≡ false → line ≡ [] → ⊥
not-empty [] is none = cc
not-empty (x ∷ line) is none = let no : length (x ∷ line) ≡ 0 = ap length none in omega (arith, no)

pub returns-then-is_empty : goal.returns-then-is_empty
returns-then-is_empty c text events h =
    ends-without-line text events c.args.self.now h (subst (λ (r : Fed). r.line ≡ []) c.self.view_is (is-empty c.self.inside.line.items (sym c.is_empty.ensures ∙ c.if-is_empty.true)))

pub returns : goal.returns
returns c text events h =
    last-line-read text events c.args.self.now c.end_line.new.self c.end_line.result h
    (subst (λ (r : Fed). r.line ≡ [] → ⊥) c.self.view_is (not-empty c.self.inside.line.items (sym c.is_empty.ensures ∙ c.if-is_empty.false)))
    c.end_line.ensures
