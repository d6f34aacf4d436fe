use Rattle.std.proofs.Common.{◌≡◌, ◌*◌, true, Result, length, sym, ap, ◌∙◌}
use Rattle.std.proofs.lemmas.Result.{IfOk-at_ok}
use Rattle.data_files.specs.Tables.{has_words, with_words}
use Rattle.data_files.specs.WordBytes.{words_of}
use Rattle.data_files.proofs.WordLists.{length-words_of}
use Rattle.df1_base.specs.declared.code.Code.{Code}
use Rattle.plc_commands.specs.Meaning.{written}
use Rattle.plc_commands.specs.declared.span.Span.{Span}
use Rattle.plc_commands.proofs.span.write_words.Goals as goal

pub returns-in-Ok-clause-tables : goal.returns-in-Ok-clause-tables
returns-in-Ok-clause-tables c =
    let tables = c.args.tables.now in
    let span = c.in-Ok.span in
    let fits : length c.args.bytes.now ≡ 2 * span.count = IfOk-at_ok (λ (s : Span). length c.args.bytes.now ≡ 2 * s.count) c.in-Ok.is c.requires.all in
    let there : has_words tables.specs span.file span.first span.count ≡ true = IfOk-at_ok (λ (s : Span). has_words tables.specs s.file s.first s.count ≡ true) c.in-Ok.is c.requires.there in
    let items : c.deref.result.now ≡ words_of c.args.bytes.now = c.deref.ensures.0 ∙ c.words_of.ensures in
    let count : length c.deref.result.now ≡ span.count = ap length items ∙ length-words_of span.count c.args.bytes.now fits in
    let all : c.set_words.result ≡ true = c.set_words.ensures.known ∙ ap (has_words tables.specs span.file span.first) count ∙ there in
    c.set_words.ensures.after ∙ rw all (ap (with_words tables span.file span.first) items ∙ ap (λ (r : Result Span Code). (written tables c.args.bytes.now r).tables) (sym c.in-Ok.is))
