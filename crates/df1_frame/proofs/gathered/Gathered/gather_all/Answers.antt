-- A body for which there is room, and one that is too long.
use Rattle.std.proofs.Common.{◌≡◌, sym, arith}
use Rattle.df1_frame.specs.Gathered.{Gathered}
use Rattle.df1_frame.proofs.RunLemmas.{gather-fits, gather-over}
use Rattle.df1_frame.proofs.gathered.Gathered.gather_all.Goals as goal

pub returns-then-bytes-room : goal.returns-then-bytes-room
returns-then-bytes-room g c =
    let so_far : Gathered = record { bytes = c.self.inside.bytes.items; long = c.self.inside.long; running = c.self.inside.running } in
    let view : so_far ≡ c.args.self.now = c.self.view_is in
    let added = rw c.unwrap.ensures at c.try_extend_from_slice.ensures.ok in
    let all = gather-fits g.row.N so_far c.args.bytes.now (omega (arith, c.remaining_capacity-room.ensures, c.if-bytes-room.true)) in
    rw (← view, added, c.step_all.ensures) (sym all)

pub returns-else-bytes-room : goal.returns-else-bytes-room
returns-else-bytes-room g c =
    let so_far : Gathered = record { bytes = c.self.inside.bytes.items; long = c.self.inside.long; running = c.self.inside.running } in
    let view : so_far ≡ c.args.self.now = c.self.view_is in
    let added = rw c.unwrap-else-bytes-room.ensures at c.try_extend_from_slice-else-bytes-room.ensures.ok in
    let all = gather-over g.row.N c.remaining_capacity-room.result so_far c.args.bytes.now c.remaining_capacity-room.ensures c.if-bytes-room.false in
    rw (← view, added, c.step_all.ensures) (sym all)
