use Rattle.std.proofs.Common.{◌≡◌, ◌-◌, ◌++◌, sym, ◌∙◌, arith, false, min, length, take, refl}
use Rattle.std.specs.Prelude.{◌==◌, ◌&&◌, nat_lt}
use Rattle.std.proofs.lemmas.Grind.{common_steps}
use Rattle.df1_base.specs.InMemory.{counted}
use Rattle.df1_base.proofs.Laws.{none_among}
use Rattle.df1_base.proofs.bytes_out.BytesOutSink.write.Goals as goal

pub returns-clause-after : goal.returns-clause-after
returns-clause-after c =
    let s = c.self.inside in
    let next = c.saturating_add-self-inside.ensures in
    let no = none_among s.fail.items c.deref.result.now c.saturating_add-self-inside.result (counted s.calls) c.contains.result c.deref.ensures.value next c.contains.ensures.value c.if-contains.false in
    let size : c.min-count.result ≡ min (min (length c.args.from.now) (s.room - length s.bytes.items)) s.piece = grind (arith, common_steps) in
    let held : c.extend_from_slice.new.self.items ≡ s.bytes.items ++ take c.min-count.result c.args.from.now = grind (arith, common_steps) in
    let len : c.len.result ≡ length s.bytes.items = grind (arith, common_steps) in
    let full : (((s.room - length s.bytes.items) == 0) && nat_lt 0 (length c.args.from.now)) ≡ false = sym (rw len at c.finds_no_room.ensures) ∙ c.if-finds_no_room.false in
    rw (← c.self.view_is) (rw (no, full, held, size, next) refl)
