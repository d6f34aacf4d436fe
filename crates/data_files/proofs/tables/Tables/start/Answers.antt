use Rattle.std.proofs.Common.{ap, sym, ◌∙◌}
use Rattle.data_files.specs.Tables.{start_of}
use Rattle.data_files.proofs.Files.{start_of-lacks}
use Rattle.data_files.proofs.Held.{held, held-start, missing}
use Rattle.data_files.proofs.tables.Tables.start.Goals as goal

pub returns-in_err-file_in : goal.returns-in_err-file_in
returns-in_err-file_in c =
    c.from_residual.ensures
    ∙ sym (start_of-lacks c.args.number _ (missing c.self.invariant c.args.number (sym c.file_in.ensures ∙ c.in_err-file_in.was)))
    ∙ ap (λ t. start_of t.specs c.args.number) c.self.view_is

pub returns : goal.returns
returns c =
    sym (held-start _ _ _ _ (held c.self.invariant c.args.number c.in_ok-file_in.field-0 (sym c.file_in.ensures ∙ c.in_ok-file_in.was)))
    ∙ ap (λ t. start_of t.specs c.args.number) c.self.view_is
