use Rattle.std.proofs.Common.{◌≡◌, ℕ, ◌+◌, ap, sym, subst, ◌∙◌, true, Some, slice_get}
use Rattle.data_files.specs.Tables.{DataTables, flat_words, has_word, start_of, word_at}
use Rattle.data_files.proofs.Files.{flat-each, flat-words}
use Rattle.data_files.proofs.tables.Tables.flat.Goals as goal

pub returns-clause-words : goal.returns-clause-words
returns-clause-words c =
    c.deref.ensures.value
    ∙ sym (flat-words c.self.inside.specs.items c.self.inside.words.items c.self.invariant.valid c.self.invariant.all)
    ∙ ap flat_words c.self.view_is

pub returns-clause-each : goal.returns-clause-each
returns-clause-each c =
    subst (λ (t : DataTables). (number start index : ℕ) → start_of t.specs number ≡ Some start → has_word t.specs number index ≡ true → slice_get c.deref.result.now (start + index) ≡ word_at t number index) c.self.view_is
    (λ number start index begins has.
    ap (λ ws. slice_get ws (start + index)) c.deref.ensures.value
    ∙ flat-each c.self.inside.specs.items c.self.inside.words.items number start index c.self.invariant.valid c.self.invariant.all begins has)
