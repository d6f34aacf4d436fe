use Rattle.std.proofs.Common.{◌≡◌, length, ap, ◌∙◌, rules}
use Rattle.std.proofs.lemmas.List.FromFn.{length-map-range_with_len}
use Rattle.data_files.specs.Tables.{words_at}
use Rattle.plc_commands.proofs.span.words_in.Goals as goal

pub returns-clause-count : goal.returns-clause-count
returns-clause-count c =
    let span = c.args.span in
    let words : c.unwrap.result.now ≡ words_at c.args.tables.now span.file span.first span.count = search rules in
    ap length words ∙ length-map-range_with_len _ span.first span.count
