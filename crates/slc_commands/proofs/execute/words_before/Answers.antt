use Rattle.std.proofs.Common.{◌≡◌, length, ap, ◌∙◌, rules}
use Rattle.std.proofs.lemmas.List.FromFn.{length-map-range_with_len}
use Rattle.data_files.specs.Tables.{words_at}
use Rattle.slc_commands.proofs.execute.words_before.Goals as goal

pub returns-clause-count : goal.returns-clause-count
returns-clause-count c =
    let words : c.unwrap.result.now ≡ words_at c.args.tables.now c.args.order.now.at.file c.args.first c.from-count.result = search rules in
    ap length words ∙ length-map-range_with_len _ c.args.first c.from-count.result ∙ c.from-count.ensures
