-- What C is told of the state of an end.
use Rattle.std.specs.Prelude.{ℕ, Bool, is_some, is_none}
use Rattle.std.specs.declared.option.Option.{Option}
use Rattle.std.specs.declared.option.Option.TheVariants.{Some, None}
use Rattle.std.specs.Option.{unwrap_or}
use Rattle.df1_node.specs.contracts.node.NodeHost.TheImpl.{ghosts as node_host}
use Rattle.duplex_end.specs.End as duplex
use Rattle.half_master.specs.Master as master
use Rattle.half_slave.specs.Slave as slave
use Rattle.c_ends.specs.declared.held.Held.{Held}
use Rattle.c_ends.specs.declared.held.Held.TheVariants as held
use Rattle.c_calls.specs.declared.state.StateTold.{StateTold}
use Rattle.c_calls.specs.Behind.{routed_host}

-- this station is polled, or none
abbrev pub polling : Bool → Bool → Option ℕ → StateTold
polling quiet holds station = record { quiet = quiet; holds = holds; polls = is_some station; station = unwrap_or station 0 }

-- of a decoder nothing is told
abbrev pub state_of : Held → Option StateTold
state_of (held.Decoder decoder) = None
state_of (held.Duplex end) = Some (polling (is_none (duplex.out_at_take node_host end)) (duplex.holds_message end) None)
state_of (held.Master end) = Some (polling (master.is_quiet routed_host end) (master.holds_message end) (master.polled_station end))
state_of (held.Slave end) = Some (polling (is_none (slave.out_at_take end)) (slave.holds_message end) None)
