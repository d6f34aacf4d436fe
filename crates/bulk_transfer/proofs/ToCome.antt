-- The orders of a transfer that are still to be issued, and the events of the script behind them.
use Rattle.std.proofs.Common.{◌≡◌, ℕ, suc, ◌+◌, ◌-◌, ◌<◌, ◌≤◌, List, [], ◌∷◌, ◌++◌, map, Bool, true, refl, ap, arith}
use Rattle.std.specs.Prelude.{if◌then◌else◌}
use Rattle.std.specs.List.{range_with_len}
use Rattle.std.proofs.lemmas.Bool.Decides.{nat_tests}
use Rattle.script_parts.specs.declared.script.Event.{Event}
use Rattle.script_parts.specs.declared.script.Script.{Script}
use Rattle.duplex_line.specs.Run.{plan_of_b}
use Rattle.line_world.specs.declared.world.World.{World}
use Rattle.line_world.specs.Runs.{AreNext, IsNext, all_played, begun, played, whole_world}
use Rattle.bulk_orders.specs.Orders.{is_order, orders_of}
use Rattle.bulk_transfer.specs.Rehearsal.{order_event, with_orders}

-- an order that the transfer has
pub order-is : (order : List ℕ) (words j : ℕ) → 1 ≤ j → j ≤ orders_of words → (if is_order words j then order else []) ≡ order
order-is order words j some within =
    let is : is_order words j ≡ true = grind (arith, nat_tests) in
    ap (λ (b : Bool). if b then order else []) is

-- from order j on, of so many
abbrev pub to_come : Script → (ℕ → List ℕ) → ℕ → ℕ → List Event
to_come script order count j = map (order_event (plan_of_b script).node) (map order (range_with_len j (count + 1 - j))) ++ script.events

-- the world has played what came before
pub record Plays (script : Script) (order : ℕ → List ℕ) (count : ℕ) (w : World) (j : ℕ) : Type 0 where
  pub next : AreNext w (to_come script order count j)
  pub world : all_played w (to_come script order count j) ≡ whole_world (with_orders script (map order (range_with_len 1 count)))

-- before the first order
pub plays-first : (script : Script) (order : ℕ → List ℕ) (count : ℕ) (w : World) → w ≡ begun script → AreNext (begun script) (with_orders script (map order (range_with_len 1 count))).events → Plays script order count w 1
plays-first script order count w is next =
    let all : to_come script order count 1 ≡ (with_orders script (map order (range_with_len 1 count))).events = to-come-of script order (count + 1 - 1) count (omega arith) in
    record {
      next = rw (is, all) next;
      world = rw (is, all) refl;
    }
  where
    to-come-of : (script : Script) (order : ℕ → List ℕ) (n count : ℕ) → n ≡ count → map (order_event (plan_of_b script).node) (map order (range_with_len 1 n)) ++ script.events ≡ map (order_event (plan_of_b script).node) (map order (range_with_len 1 count)) ++ script.events
    to-come-of script order n count same = ap (λ (k : ℕ). map (order_event (plan_of_b script).node) (map order (range_with_len 1 k)) ++ script.events) same

first-to-come : (script : Script) (order : ℕ → List ℕ) (count j : ℕ) → j ≤ count → to_come script order count j ≡ order_event (plan_of_b script).node (order j) ∷ to_come script order count (j + 1)
first-to-come script order count j within =
    let left : count + 1 - j ≡ suc (count + 1 - (j + 1)) = omega (arith, within) in
    ap (λ (k : ℕ). map (order_event (plan_of_b script).node) (map order (range_with_len j k)) ++ script.events) left

-- order j may be issued, and then the next
pub plays-next : (script : Script) (order : ℕ → List ℕ) (count : ℕ) (w : World) (j : ℕ) → Plays script order count w j → j ≤ count → IsNext w (order_event (plan_of_b script).node (order j))
plays-next script order count w j h within = (rw (first-to-come script order count j within) at h.next).0

pub plays-more : (script : Script) (order : ℕ → List ℕ) (count : ℕ) (w : World) (j : ℕ) → Plays script order count w j → j ≤ count → Plays script order count (played w (order_event (plan_of_b script).node (order j))) (j + 1)
plays-more script order count w j h within = record {
  next = (rw (first-to-come script order count j within) at h.next).1;
  world = rw (first-to-come script order count j within) at h.world;
}

-- behind the last order the events of the script are left
none-to-come : (script : Script) (order : ℕ → List ℕ) (count j : ℕ) → count < j → to_come script order count j ≡ script.events
none-to-come script order count j over =
    let left : count + 1 - j ≡ 0 = omega (arith, over) in
    ap (λ (k : ℕ). map (order_event (plan_of_b script).node) (map order (range_with_len j k)) ++ script.events) left

pub plays-events : (script : Script) (order : ℕ → List ℕ) (count : ℕ) (w : World) (j : ℕ) → Plays script order count w j → count < j → AreNext w script.events × (all_played w script.events ≡ whole_world (with_orders script (map order (range_with_len 1 count))))
plays-events script order count w j h over = (rw (none-to-come script order count j over) at h.next, rw (none-to-come script order count j over) at h.world)
