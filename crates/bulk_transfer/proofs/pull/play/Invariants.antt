-- The orders so far are issued, and the others and the script's events may happen.
use Rattle.bulk_orders.specs.Orders.{orders_of, pull_payload}
use Rattle.bulk_transfer.proofs.ToCome.{Plays}
use Rattle.bulk_transfer.proofs.pull.play.Given as goal

abbrev pub invariant-loop-j : goal.invariant-loop-j
invariant-loop-j l = Plays l.script (pull_payload l.file l.words) (orders_of l.words) l.world l.j
