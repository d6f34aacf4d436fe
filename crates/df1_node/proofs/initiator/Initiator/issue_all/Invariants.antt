use Rattle.std.proofs.Common.{◌≡◌, ◌+◌, ◌-◌, ◌≤◌, drop, map, length, vec_len, vec_capacity}
use Rattle.df1_node.specs.Commands.{AreCommands, all_issued}
use Rattle.df1_node.specs.Together.{HasRoomFor, after_all}
use Rattle.df1_node.proofs.initiator.Initiator.issue_all.Given as goal

-- the commands so far are kept, there is room for those that are still to be issued, and with them all are issued
abbrev pub invariant-loop-payload : goal.invariant-loop-payload
invariant-loop-payload l = record {
  are : AreCommands l.self-inside.bytes.items (vec_capacity l.self-inside.bytes) l.self-inside.issued.items l.self-inside.queue 16;
  narrow : l.self-inside.window ≤ 16;
  room : HasRoomFor (length l.payloads - l.payload-index) l.self-inside.node l.self-inside.bytes.items (vec_capacity l.self-inside.bytes) (vec_len l.self-inside.issued) (vec_capacity l.self-inside.issued) l.self-inside.queue;
  few : length l.self-inside.issued.items + (length l.payloads - l.payload-index) ≤ 65535;
  issued : after_all (record { node = l.self-inside.node; tns = l.self-inside.tns; reply_ticks = l.self-inside.reply_ticks; window = l.self-inside.window; per_source = l.self-inside.per_source; issued = all_issued l.self-inside.bytes.items l.self-inside.issued.items }) l.dst (map (λ payload. payload.items) (drop l.payload-index l.payloads)) ≡ after_all l.fn.self l.dst (map (λ payload. payload.items) l.payloads);
}
