-- The plan of an end, by the values of its keys.
use Rattle.std.specs.Prelude.{ℕ, List, [], Option, None, ◌==◌, if◌then◌else◌}
use Rattle.data_files.specs.declared.file_spec.FileSpec.{FileSpec}
use Rattle.end_settings.specs.declared.key.EndKey.{EndKey}
use Rattle.end_settings.specs.declared.key.EndKey.TheVariants.{AckTicks, Embed, MaxEnqs, MaxNaks, MaxResends, MaxSends, Node, PerSource, PollTicks, ReplyTicks, Room, Tns, Window}
use Rattle.end_settings.specs.Table.{first_of}
use Rattle.script_statement.specs.declared.who.Who.{Who}
use Rattle.script_parts.specs.declared.script.EndPlan.{EndPlan}
use Rattle.script_parts.specs.declared.script.WordOf.{WordOf}

-- the plan of an end whose keys have these values
abbrev pub plan_with : Who → (EndKey → ℕ) → Option ℕ → List ℕ → List FileSpec → List WordOf → EndPlan
plan_with who value compat block files words = record {
  who = who;
  embed = value Embed == 1;
  node = value Node;
  tns = value Tns;
  ack_ticks = value AckTicks;
  max_naks = value MaxNaks;
  max_enqs = value MaxEnqs;
  reply_ticks = value ReplyTicks;
  max_resends = value MaxResends;
  poll_ticks = value PollTicks;
  max_sends = value MaxSends;
  room = value Room;
  window = value Window;
  per_source = value PerSource;
  compat = compat;
  block = block;
  files = files;
  words = words;
}

-- the value of a key in a plan
abbrev pub setting_in : EndPlan → EndKey → ℕ
setting_in plan Embed = if plan.embed then 1 else 0
setting_in plan Node = plan.node
setting_in plan Tns = plan.tns
setting_in plan AckTicks = plan.ack_ticks
setting_in plan MaxNaks = plan.max_naks
setting_in plan MaxEnqs = plan.max_enqs
setting_in plan ReplyTicks = plan.reply_ticks
setting_in plan MaxResends = plan.max_resends
setting_in plan PollTicks = plan.poll_ticks
setting_in plan MaxSends = plan.max_sends
setting_in plan Room = plan.room
setting_in plan Window = plan.window
setting_in plan PerSource = plan.per_source

-- the plan of an end of which nothing is told: each key has its value at first; the end has this address
abbrev pub first_plan : Who → ℕ → EndPlan
first_plan who address = plan_with who (first_of address) None [] [] []
