use Rattle.std.proofs.Common.{ap, sym, ◌∙◌}
use Rattle.data_files.specs.Tables.{file_of}
use Rattle.data_files.proofs.Files.{file_of-lacks}
use Rattle.data_files.proofs.Held.{held, held-file, missing}
use Rattle.data_files.proofs.tables.Tables.spec.Goals as goal

pub returns-in_err-file_in : goal.returns-in_err-file_in
returns-in_err-file_in c =
    c.from_residual.ensures
    ∙ sym (file_of-lacks c.args.number _ (missing c.self.invariant c.args.number (sym c.file_in.ensures ∙ c.in_err-file_in.was)))
    ∙ ap (λ t. file_of t.specs c.args.number) c.self.view_is

pub returns : goal.returns
returns c =
    sym (held-file _ _ _ _ (held c.self.invariant c.args.number c.in_ok-file_in.field-0 (sym c.file_in.ensures ∙ c.in_ok-file_in.was)))
    ∙ ap (λ t. file_of t.specs c.args.number) c.self.view_is
