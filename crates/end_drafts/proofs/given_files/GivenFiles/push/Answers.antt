use Rattle.std.proofs.Common.{◌≡◌, ap, ◌∙◌, ◌==◌, sym, find}
use Rattle.std.specs.Option.{unwrap_or}
use Rattle.end_drafts.proofs.Numbered.{numbers_with}
use Rattle.end_drafts.proofs.given_files.GivenFiles.push.Goals as goal

pub invariant_of-self-in-Ok : goal.invariant_of-self-in-Ok
invariant_of-self-in-Ok c =
    let first : c.unwrap_or-first.result ≡ unwrap_or (find (λ spec. spec.number == c.args.spec.number) c.self.inside.files.items) c.args.spec =
    c.unwrap_or-first.ensures
    ∙ ap (λ o. unwrap_or o c.args.spec) (c.file.ensures ∙ ap (find (λ spec. spec.number == c.args.spec.number)) (sym c.self.view_is)) in
    rw c.in_ok-push.ensures.items (numbers_with _ _ _ c.args.spec c.unwrap_or-first.result c.self.invariant (rw c.from.ensures at c.in-Ok.ensures.ok) first)
