use Rattle.std.proofs.Common.{◌<◌, ◌≤◌, ◌+◌, ap, sym, ◌∙◌, arith, length}
use Rattle.data_files.specs.Tables.{has_word, with_word, word_count}
use Rattle.data_files.proofs.Files.{has_word-lacks}
use Rattle.data_files.proofs.Held.{held, held-ends, held-has, held-has_not, held-set, missing}
use Rattle.data_files.proofs.tables.Tables.set.Goals as goal

pub returns-in_default-clause-known : goal.returns-in_default-clause-known
returns-in_default-clause-known c =
    sym (has_word-lacks c.args.number c.args.index _ (missing c.self.invariant c.args.number (sym c.file_in.ensures ∙ c.in_default.is)))
    ∙ ap (λ t. has_word t.specs c.args.number c.args.index) c.self.view_is

pub returns-then-index-words-clause-known : goal.returns-then-index-words-clause-known
returns-then-index-words-clause-known c =
    let past : word_count c.in-Some.file.spec ≤ c.args.index = omega arith in
    held-has_not _ _ _ _ _ (held c.self.invariant c.args.number c.in-Some.file (sym c.file_in.ensures ∙ c.in-Some.is)) past
    ∙ ap (λ t. has_word t.specs c.args.number c.args.index) c.self.view_is

pub index_mut-requires : goal.index_mut-requires
index_mut-requires c =
    let inside : c.args.index < word_count c.in-Some.file.spec = omega arith in
    let ends : c.in-Some.file.start + word_count c.in-Some.file.spec ≤ length c.self.inside.words.items = held-ends _ _ _ _ (held c.self.invariant c.args.number c.in-Some.file (sym c.file_in.ensures ∙ c.in-Some.is)) in
    omega (arith, c.self.inside.words.ok.0)

pub returns-clause-known : goal.returns-clause-known
returns-clause-known c =
    let inside : c.args.index < word_count c.in-Some.file.spec = omega arith in
    held-has _ _ _ _ _ (held c.self.invariant c.args.number c.in-Some.file (sym c.file_in.ensures ∙ c.in-Some.is)) inside
    ∙ ap (λ t. has_word t.specs c.args.number c.args.index) c.self.view_is

pub returns-clause-after : goal.returns-clause-after
returns-clause-after c =
    let inside : c.args.index < word_count c.in-Some.file.spec = omega arith in
    held-set _ _ _ _ c.args.index c.args.value (held c.self.invariant c.args.number c.in-Some.file (sym c.file_in.ensures ∙ c.in-Some.is)) inside
    ∙ ap (λ t. with_word t c.args.number c.args.index c.args.value) c.self.view_is
