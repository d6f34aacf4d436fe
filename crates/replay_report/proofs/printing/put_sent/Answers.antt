-- A line of one byte.
use Rattle.std.proofs.Common.{◌≡◌, ℕ, ◌++◌, List, [], ◌∷◌, OnErr, codes, length, slice_index_or, refl, sym, subst, arith}
use Rattle.hex.specs.Hex.{encode_upper}
use Rattle.df1_base.specs.Outside.{WroteLess}
use Rattle.script_statement.specs.declared.who.Who.{Who}
use Rattle.script_statement.specs.declared.who.Who.TheVariants.{A, B}
use Rattle.replay_report.specs.Report.{who_text}
use Rattle.replay_report.proofs.printing.put_sent.Goals as goal

one_byte : (bytes : List ℕ) → length bytes ≡ 1 → bytes ≡ slice_index_or bytes 0 0 ∷ []
one_byte [] one = absurd (omega (arith, one))
one_byte (byte ∷ []) one = refl
one_byte (byte ∷ next ∷ bytes) one = absurd (omega (arith, one))

pub returns-in-A-len1-clause-missing : goal.returns-in-A-len1-clause-missing
returns-in-A-len1-clause-missing g c =
    let P : Who → List ℕ → Type 0 = λ who bytes. OnErr c.put_byte.result (WroteLess (g.K.Sink.held c.args.sink.now) (g.K.Sink.held c.put_byte.new.sink) (who_text who ++ codes " sent " ++ encode_upper bytes ++ codes "\n")) in
    let one : length c.args.bytes.now ≡ 1 = omega arith in
    subst (λ (who : Who). P who c.args.bytes.now) (sym c.in-A-len1.is-0) (subst (λ (bytes : List ℕ). P A bytes) (sym (one_byte c.args.bytes.now one)) c.put_byte.ensures.missing)

pub returns-in-B-len1-clause-missing : goal.returns-in-B-len1-clause-missing
returns-in-B-len1-clause-missing g c =
    let P : Who → List ℕ → Type 0 = λ who bytes. OnErr c.put_byte-in-B-len1.result (WroteLess (g.K.Sink.held c.args.sink.now) (g.K.Sink.held c.put_byte-in-B-len1.new.sink) (who_text who ++ codes " sent " ++ encode_upper bytes ++ codes "\n")) in
    let one : length c.args.bytes.now ≡ 1 = omega arith in
    subst (λ (who : Who). P who c.args.bytes.now) (sym c.in-B-len1.is-0) (subst (λ (bytes : List ℕ). P B bytes) (sym (one_byte c.args.bytes.now one)) c.put_byte-in-B-len1.ensures.missing)
