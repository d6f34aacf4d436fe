use Rattle.std.proofs.Common.{◌<◌, ◌≤◌, ◌+◌, ap, sym, ◌∙◌, arith, length, take, drop, is_some}
use Rattle.data_files.specs.Tables.{has_words, word_count, words_at}
use Rattle.data_files.proofs.Files.{has_words-lacks}
use Rattle.data_files.proofs.Held.{held, held-ends, held-has_all, held-has_not_all, held-part, missing}
use Rattle.data_files.proofs.tables.Tables.range.Goals as goal

pub returns-in_err-file-clause-known : goal.returns-in_err-file-clause-known
returns-in_err-file-clause-known c =
    ap is_some c.from_residual.ensures
    ∙ sym (has_words-lacks c.args.number c.args.first c.args.count _ (missing c.self.invariant c.args.number (sym c.file_in.ensures ∙ c.in_err-file.was)))
    ∙ ap (λ t. has_words t.specs c.args.number c.args.first c.args.count) c.self.view_is

pub returns-then-from-clause-known : goal.returns-then-from-clause-known
returns-then-from-clause-known c =
    let over : word_count c.in_ok-file.file.spec < c.args.first + c.args.count = omega arith in
    held-has_not_all _ _ _ _ _ _ (held c.self.invariant c.args.number c.in_ok-file.file (sym c.file_in.ensures ∙ c.in_ok-file.was)) over
    ∙ ap (λ t. has_words t.specs c.args.number c.args.first c.args.count) c.self.view_is

pub part-requires : goal.part-requires
part-requires c =
    let ends : c.in_ok-file.file.start + word_count c.in_ok-file.file.spec ≤ length c.self.inside.words.items = held-ends _ _ _ _ (held c.self.invariant c.args.number c.in_ok-file.file (sym c.file_in.ensures ∙ c.in_ok-file.was)) in
    omega (arith, ap length c.deref.ensures.value)

pub returns-clause-known : goal.returns-clause-known
returns-clause-known c =
    let inside : c.args.first + c.args.count ≤ word_count c.in_ok-file.file.spec = omega arith in
    held-has_all _ _ _ _ _ _ (held c.self.invariant c.args.number c.in_ok-file.file (sym c.file_in.ensures ∙ c.in_ok-file.was)) inside
    ∙ ap (λ t. has_words t.specs c.args.number c.args.first c.args.count) c.self.view_is

pub returns-clause-words : goal.returns-clause-words
returns-clause-words c =
    let inside : c.args.first + c.args.count ≤ word_count c.in_ok-file.file.spec = omega arith in
    c.part.ensures
    ∙ ap (λ ws. take c.args.count (drop (c.in_ok-file.file.start + c.args.first) ws)) c.deref.ensures.value
    ∙ sym (held-part _ _ _ _ _ _ (held c.self.invariant c.args.number c.in_ok-file.file (sym c.file_in.ensures ∙ c.in_ok-file.was)) inside)
    ∙ ap (λ t. words_at t c.args.number c.args.first c.args.count) c.self.view_is
