use Rattle.std.proofs.Common.{◌<◌, ◌≤◌, ◌+◌, ap, sym, ◌∙◌, Some, arith, is_some, length}
use Rattle.data_files.specs.Tables.{word_at, has_word, word_count}
use Rattle.data_files.proofs.Files.{has_word-lacks, word-lacks}
use Rattle.data_files.proofs.Held.{held, held-ends, held-has, held-has_not, held-past, held-word, missing}
use Rattle.data_files.proofs.tables.Tables.word.Goals as goal

pub returns-in_err-file-clause-value : goal.returns-in_err-file-clause-value
returns-in_err-file-clause-value c =
    c.from_residual.ensures
    ∙ sym (word-lacks c.args.number c.args.index _ c.self.inside.words.items (missing c.self.invariant c.args.number (sym c.file_in.ensures ∙ c.in_err-file.was)))
    ∙ ap (λ t. word_at t c.args.number c.args.index) c.self.view_is

pub returns-in_err-file-clause-known : goal.returns-in_err-file-clause-known
returns-in_err-file-clause-known c =
    ap is_some c.from_residual.ensures
    ∙ sym (has_word-lacks c.args.number c.args.index _ (missing c.self.invariant c.args.number (sym c.file_in.ensures ∙ c.in_err-file.was)))
    ∙ ap (λ t. has_word t.specs c.args.number c.args.index) c.self.view_is

pub returns-then-index-words-clause-value : goal.returns-then-index-words-clause-value
returns-then-index-words-clause-value c =
    let past : word_count c.in_ok-file.file.spec ≤ c.args.index = omega arith in
    sym (held-past _ _ _ _ _ (held c.self.invariant c.args.number c.in_ok-file.file (sym c.file_in.ensures ∙ c.in_ok-file.was)) past)
    ∙ ap (λ t. word_at t c.args.number c.args.index) c.self.view_is

pub returns-then-index-words-clause-known : goal.returns-then-index-words-clause-known
returns-then-index-words-clause-known c =
    let past : word_count c.in_ok-file.file.spec ≤ c.args.index = omega arith in
    held-has_not _ _ _ _ _ (held c.self.invariant c.args.number c.in_ok-file.file (sym c.file_in.ensures ∙ c.in_ok-file.was)) past
    ∙ ap (λ t. has_word t.specs c.args.number c.args.index) c.self.view_is

pub index-requires : goal.index-requires
index-requires c =
    let inside : c.args.index < word_count c.in_ok-file.file.spec = omega arith in
    let ends : c.in_ok-file.file.start + word_count c.in_ok-file.file.spec ≤ length c.self.inside.words.items =
    held-ends _ _ _ _ (held c.self.invariant c.args.number c.in_ok-file.file (sym c.file_in.ensures ∙ c.in_ok-file.was)) in
    omega (arith, c.self.inside.words.ok.0)

pub returns-clause-value : goal.returns-clause-value
returns-clause-value c =
    let inside : c.args.index < word_count c.in_ok-file.file.spec = omega arith in
    ap Some c.index.ensures
    ∙ sym (held-word _ _ _ _ _ c.index.result.now (held c.self.invariant c.args.number c.in_ok-file.file (sym c.file_in.ensures ∙ c.in_ok-file.was)) inside)
    ∙ ap (λ t. word_at t c.args.number c.args.index) c.self.view_is

pub returns-clause-known : goal.returns-clause-known
returns-clause-known c =
    let inside : c.args.index < word_count c.in_ok-file.file.spec = omega arith in
    held-has _ _ _ _ _ (held c.self.invariant c.args.number c.in_ok-file.file (sym c.file_in.ensures ∙ c.in_ok-file.was)) inside
    ∙ ap (λ t. has_word t.specs c.args.number c.args.index) c.self.view_is
