use Rattle.std.proofs.Common.{ap, ◌∙◌, is_some}
use Rattle.end_drafts.proofs.Numbered.{is_found}
use Rattle.end_drafts.proofs.given_files.GivenFiles.has.Goals as goal

pub returns : goal.returns
returns c = c.is_some.ensures ∙ ap is_some c.file.ensures ∙ is_found c.args.number c.args.self.now
