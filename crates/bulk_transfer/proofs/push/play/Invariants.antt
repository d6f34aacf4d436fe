-- The orders so far are issued, and the others and the script's events may happen.
use Rattle.std.proofs.Common.{◌/◌, length}
use Rattle.bulk_orders.specs.Orders.{orders_of, push_payload}
use Rattle.bulk_transfer.proofs.ToCome.{Plays}
use Rattle.bulk_transfer.proofs.push.play.Given as goal

abbrev pub invariant-loop-j : goal.invariant-loop-j
invariant-loop-j l = Plays l.script (push_payload l.file l.bytes) (orders_of (length l.bytes / 2)) l.world l.j
