use Rattle.std.proofs.Common.{ℕ, List, ◌≡◌, ◌/◌, true, length, ap, ◌∙◌}
use Rattle.data_files.specs.Tables.{has_words, with_words}
use Rattle.slc_commands.specs.Order.{seen}
use Rattle.slc_commands.specs.Meaning.{words_after}
use Rattle.data_files.specs.WordBytes.{words_of}
use Rattle.slc_commands.specs.Words.{masked}
use Rattle.slc_commands.proofs.execute.write_words.Goals as goal

pub returns-clause-after : goal.returns-clause-after
returns-clause-after c =
    let tables = c.args.tables.now in
    let order = c.args.order.now in
    let items = c.deref.ensures.0 in
    let count : length c.deref.result.now ≡ order.size / 2 = ap length items ∙ c.masked_words-new.ensures.count ∙ c.words_before-old.ensures.count in
    let all : c.set_words.result ≡ true = c.set_words.ensures.known ∙ ap (has_words tables.specs order.at.file c.args.first) count ∙ c.requires.room in
    let words : c.deref.result.now ≡ words_after tables (seen order) =
    items ∙ c.masked_words-new.ensures.words ∙ ap (λ (old : List ℕ). masked order.mask old (words_of order.bytes.now)) c.words_before-old.ensures.words in
    c.set_words.ensures.after ∙ rw all (ap (with_words tables order.at.file c.args.first) words)
