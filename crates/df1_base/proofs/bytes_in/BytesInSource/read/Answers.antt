use Rattle.std.proofs.Common.{◌≡◌, arith, min, length, drop, refl}
use Rattle.std.proofs.lemmas.Grind.{common_steps}
use Rattle.std.proofs.lemmas.List.{drop-drop}
use Rattle.df1_base.specs.InMemory.{counted}
use Rattle.df1_base.proofs.Laws.{took_from, none_among}
use Rattle.df1_base.proofs.bytes_in.BytesInSource.read.Goals as goal

pub returns-clause-took : goal.returns-clause-took
returns-clause-took c =
    rw (← c.self.view_is) (took_from c.self.inside.bytes.items c.args.into.now c.copy_from_slice.new.self c.self.inside.at c.min-count.result (grind (arith, common_steps)) (grind (arith, common_steps)))

pub returns-clause-after : goal.returns-clause-after
returns-clause-after c =
    let s = c.self.inside in
    let next = c.saturating_add-self-inside.ensures in
    let no = none_among s.fail.items c.deref.result.now c.saturating_add-self-inside.result (counted s.calls) c.contains.result c.deref.ensures.value next c.contains.ensures.value c.if-contains.false in
    let size : c.min-count.result ≡ min (min (length (drop s.at s.bytes.items)) (length c.args.into.now)) s.piece = grind (arith, common_steps) in
    rw (← c.self.view_is) (rw (no, drop-drop, next, size) refl)
