-- What a call does to an end that a handle holds, and what it tells. Of a decoder it tells nothing, and changes nothing.
use Rattle.std.specs.Prelude.{ℕ, Bool, List, length, nat_lt, is_none, if◌then◌else◌, Option, Some, None}
use Rattle.std.specs.Option.{option_and_then}
use Rattle.df1_base.specs.declared.link.Turn.TheVariants as turn
use Rattle.df1_node.specs.Node.{NodeState}
use Rattle.df1_node.specs.contracts.node.NodeHost.TheImpl.{ghosts as node_host}
use Rattle.duplex_receiver.specs.Receiver.{body_at}
use Rattle.duplex_end.specs.End.{end_after_byte, step_at_byte, end_after_tick, turn_at_tick, gone_at_tick, end_after_take, out_at_take}
use Rattle.half_master.specs.Master as master
use Rattle.half_slave.specs.Slave as slave
use Rattle.station_router.specs.Router.{RouterState, is_carried}
use Rattle.c_ends.specs.declared.code.Code.{Code}
use Rattle.c_ends.specs.declared.code.Code.TheVariants as code
use Rattle.c_ends.specs.declared.held.Held.{Held}
use Rattle.c_ends.specs.declared.held.Held.TheVariants as held
use Rattle.c_ends.specs.Held.{is_end}
use Rattle.c_ends.specs.declared.told.StepTold.{StepTold}
use Rattle.c_ends.specs.declared.told.TurnTold.{TurnTold}
use Rattle.c_ends.specs.declared.told.OutTold.{OutTold}
use Rattle.c_calls.specs.Behind.{routed_host}
use Rattle.c_calls.specs.Copied.{room_code}
use Rattle.c_ends.specs.Told.{routed_told, step_told, turn_told, out_told}

-- ---- a byte that is heard

abbrev pub after_byte : Held → ℕ → Held
after_byte (held.Decoder decoder) byte = held.Decoder decoder
after_byte (held.Duplex end) byte = held.Duplex (end_after_byte node_host end byte)
after_byte (held.Master end) byte = held.Master (master.master_after_byte routed_host end byte)
after_byte (held.Slave end) byte = held.Slave (slave.slave_after_byte node_host end byte)

-- the message that a master heard last is one to a station that it carries messages to
abbrev pub is_carrying : master.MasterState (RouterState NodeState) → Bool
is_carrying end = is_carried end.host.stations (master.body_of end)

abbrev pub step_of : Held → ℕ → Option StepTold
step_of (held.Decoder decoder) byte = None
step_of (held.Duplex end) byte = Some (step_told (step_at_byte node_host end byte))
step_of (held.Master end) byte = Some (routed_told (is_carrying (master.master_after_byte routed_host end byte)) (step_told (master.step_at_byte routed_host end byte)))
step_of (held.Slave end) byte = Some (step_told (slave.step_at_byte node_host end byte))

-- the body of the frame that ended at the last byte
abbrev pub body_of : Held → Option (List ℕ)
body_of (held.Decoder decoder) = None
body_of (held.Duplex end) = Some (body_at end.receiver)
body_of (held.Master end) = Some (master.body_of end)
body_of (held.Slave end) = Some (slave.body_of end)

-- the code of a call that copies it, with room for so many bytes
abbrev pub body_code : Option Held → ℕ → Code
body_code held room = elim (option_and_then body_of held) [ None ↦ code.NoHandle | Some body ↦ room_code (length body) room ]

-- ---- a tick; at a slave it is one of its node alone

abbrev pub after_tick : Held → Held
after_tick (held.Decoder decoder) = held.Decoder decoder
after_tick (held.Duplex end) = held.Duplex (end_after_tick node_host end)
after_tick (held.Master end) = held.Master (master.master_after_tick routed_host end)
after_tick (held.Slave end) = held.Slave (slave.with_host end (node_host.after_tick end.host))

-- the commands that it left unanswered
abbrev pub gone_of : Held → Option (List ℕ)
gone_of (held.Decoder decoder) = None
gone_of (held.Duplex end) = Some (gone_at_tick node_host end)
gone_of (held.Master end) = Some (master.gone_at_tick routed_host end)
gone_of (held.Slave end) = Some (node_host.unanswered end.host)

abbrev pub turn_of : Held → Option TurnTold
turn_of (held.Decoder decoder) = None
turn_of (held.Duplex end) = Some (turn_told (turn_at_tick node_host end) (length (gone_at_tick node_host end)))
turn_of (held.Master end) = Some (turn_told (master.turn_at_tick routed_host end) (length (master.gone_at_tick routed_host end)))
turn_of (held.Slave end) = Some (turn_told turn.Still (length (node_host.unanswered end.host)))

-- the code of a tick, with room for so many commands
abbrev pub tick_code : Option Held → ℕ → Code
tick_code None room = code.NoHandle
tick_code (Some held) room = if is_end held then (if nat_lt room 16 then code.NoRoom else code.Done) else code.NoHandle

-- what a tick tells where there is room for so many commands
abbrev pub with_room : {T : Type 0} → ℕ → Option T → Option T
with_room room told = if nat_lt room 16 then None else told

-- ---- a byte that is given

abbrev pub after_take : Held → Held
after_take (held.Decoder decoder) = held.Decoder decoder
after_take (held.Duplex end) = held.Duplex (end_after_take node_host end)
after_take (held.Master end) = held.Master (master.master_after_take routed_host end)
after_take (held.Slave end) = held.Slave (slave.slave_after_take end)

abbrev pub out_of : Held → Option OutTold
out_of (held.Decoder decoder) = None
out_of (held.Duplex end) = Some (out_told (out_at_take node_host end))
out_of (held.Master end) = Some (out_told (master.out_at_take routed_host end))
out_of (held.Slave end) = Some (out_told (slave.out_at_take end))

-- nothing is to be given
abbrev pub quiet_of : Held → Option Bool
quiet_of (held.Decoder decoder) = None
quiet_of (held.Duplex end) = Some (is_none (out_at_take node_host end))
quiet_of (held.Master end) = Some (master.is_quiet routed_host end)
quiet_of (held.Slave end) = Some (is_none (slave.out_at_take end))
