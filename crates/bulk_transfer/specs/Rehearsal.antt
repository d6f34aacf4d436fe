-- Rehearsals of transfers: a full-duplex script with the orders of a transfer in front of its events, as commands of end a.
use Rattle.std.specs.Prelude.{◌≡◌, ℕ, ◌/◌, ◌≤◌, List, ◌++◌, length, map, count_by, sum_by, None}
use Rattle.std.specs.List.{range_with_len}
use Rattle.df1_node.specs.Initiator.{InitiatorState}
use Rattle.script_statement.specs.declared.who.Who.TheVariants.{A}
use Rattle.script_parts.specs.declared.script.Event.{Event}
use Rattle.script_parts.specs.declared.script.Event.TheVariants.{Issue}
use Rattle.script_parts.specs.declared.script.Script.{Script}
use Rattle.script_parts.specs.Playable.{IsPlayable, count_of, issues}
use Rattle.duplex_line.specs.Run.{last_state, plan_of_b}
use Rattle.bulk_orders.specs.Orders.{orders_of, pull_payload, push_payload}

-- a full-duplex script that can be played, whose end a issues nothing, with at most 4,000,000 events, so that orders fit in front of them
pub record IsRehearsable (script : Script) : Type 0 where
  pub playable : IsPlayable script
  pub unissued : count_by (issues A) script.events ≡ 0
  pub sum : sum_by count_of script.events ≤ 4000000

-- ---- the orders

-- the orders of a transfer of so many words, from order 1 on
abbrev pub all_orders : (ℕ → List ℕ) → ℕ → List (List ℕ)
all_orders order words = map order (range_with_len 1 (orders_of words))

abbrev pub pull_payloads : ℕ → ℕ → List (List ℕ)
pull_payloads file words = all_orders (pull_payload file words) words

abbrev pub push_payloads : ℕ → List ℕ → List (List ℕ)
push_payloads file bytes = all_orders (push_payload file bytes) (length bytes / 2)

-- end a issues a command in its own name to the end of this address
abbrev pub order_event : ℕ → List ℕ → Event
order_event dst payload = Issue A None dst payload

abbrev pub issued_at : ℕ → List (List ℕ) → List Event
issued_at dst payloads = map (order_event dst) payloads

-- a script with commands of end a for end b in front of its events
abbrev pub with_orders : Script → List (List ℕ) → Script
with_orders script payloads = record script { events = issued_at (plan_of_b script).node payloads ++ script.events }

-- the script that is played
abbrev pub pull_script : Script → ℕ → ℕ → Script
pull_script script file words = with_orders script (pull_payloads file words)

abbrev pub push_script : Script → ℕ → List ℕ → Script
push_script script file bytes = with_orders script (push_payloads file bytes)

-- ---- the commands that carry them

-- the initiator of end a after the run of a script
abbrev pub initiator_after : Script → InitiatorState
initiator_after script = (last_state script).a.end.host.initiator
