use Rattle.std.proofs.Common.{◌≡◌, ◌<◌, ◌≤◌, ◌+◌, ap, sym, ◌∙◌, arith, length}
use Rattle.data_files.specs.Directory.{overwritten, tables_of}
use Rattle.data_files.specs.Tables.{has_words, word_count, with_words}
use Rattle.data_files.proofs.Files.{has_words-lacks, refilled}
use Rattle.data_files.proofs.Held.{held, held-ends, held-has_all, held-has_not_all, held-overwritten, missing}
use Rattle.data_files.proofs.tables.Tables.set_words.Goals as goal

pub returns-in_default-clause-known : goal.returns-in_default-clause-known
returns-in_default-clause-known c =
    sym (has_words-lacks c.args.number c.args.first (length c.args.words.now) _ (missing c.self.invariant c.args.number (sym c.file_in.ensures ∙ c.in_default.is)))
    ∙ ap (λ t. has_words t.specs c.args.number c.args.first (length c.args.words.now)) c.self.view_is

pub returns-then-from-words-clause-known : goal.returns-then-from-words-clause-known
returns-then-from-words-clause-known c =
    let over : word_count c.in-Some.file.spec < c.args.first + length c.args.words.now = omega arith in
    held-has_not_all _ _ _ _ _ _ (held c.self.invariant c.args.number c.in-Some.file (sym c.file_in.ensures ∙ c.in-Some.is)) over
    ∙ ap (λ t. has_words t.specs c.args.number c.args.first (length c.args.words.now)) c.self.view_is

pub overwrite-requires : goal.overwrite-requires
overwrite-requires c =
    let ends : c.in-Some.file.start + word_count c.in-Some.file.spec ≤ length c.self.inside.words.items = held-ends _ _ _ _ (held c.self.invariant c.args.number c.in-Some.file (sym c.file_in.ensures ∙ c.in-Some.is)) in
    omega (arith, ap length c.deref_mut.ensures.value)

pub returns-clause-known : goal.returns-clause-known
returns-clause-known c =
    let inside : c.args.first + length c.args.words.now ≤ word_count c.in-Some.file.spec = omega arith in
    held-has_all _ _ _ _ _ _ (held c.self.invariant c.args.number c.in-Some.file (sym c.file_in.ensures ∙ c.in-Some.is)) inside
    ∙ ap (λ t. has_words t.specs c.args.number c.args.first (length c.args.words.now)) c.self.view_is

pub returns-clause-after : goal.returns-clause-after
returns-clause-after c =
    let inside : c.args.first + length c.args.words.now ≤ word_count c.in-Some.file.spec = omega arith in
    let written : c.overwrite.new.words ≡ overwritten c.self.inside.words.items (c.in-Some.file.start + c.args.first) c.args.words.now =
    c.overwrite.ensures ∙ ap (λ ws. overwritten ws (c.in-Some.file.start + c.args.first) c.args.words.now) c.deref_mut.ensures.value in
    let size : length c.overwrite.new.words ≡ c.self.inside.words.len = omega (arith, c.overwrite.auto.words, c.self.inside.words.ok.0, ap length c.deref_mut.ensures.value) in
    ap (tables_of c.self.inside.specs.items) (refilled c.self.inside.words.len c.overwrite.new.words c.self.inside.words.items size (sym c.self.inside.words.ok.0) ∙ written)
    ∙ held-overwritten _ _ _ _ c.args.first c.args.words.now (held c.self.invariant c.args.number c.in-Some.file (sym c.file_in.ensures ∙ c.in-Some.is)) inside
    ∙ ap (λ t. with_words t c.args.number c.args.first c.args.words.now) c.self.view_is
