-- An end of a link before anything happened to it, and which part of it is out of range.
use Rattle.std.specs.Prelude.{ℕ, ◌==◌, ◌||◌, Bool, List, [], ◌∷◌, ◌++◌, length, nat_lt, Option, None, Some, if◌then◌else◌}
use Rattle.std.specs.Option.{option_or}
use Rattle.std.specs.List.{list_any}
use Rattle.df1_check.specs.declared.Check.{Check as CheckKind}
use Rattle.df1_check.specs.declared.Check.TheVariants as check
use Rattle.duplex_end.specs.declared.Setup.{Setup}
use Rattle.duplex_end.specs.End.{new_end}
use Rattle.end_settings.specs.declared.key.EndKey.TheVariants.{AckTicks, MaxEnqs, MaxNaks, MaxResends, MaxSends, PollTicks}
use Rattle.half_master.specs.declared.MasterSetup.{MasterSetup}
use Rattle.half_master.specs.Master.{new_master}
use Rattle.half_slave.specs.declared.SlaveSetup.{SlaveSetup}
use Rattle.station_router.specs.Router.{new_router}
use Rattle.half_slave.specs.Slave.{new_slave}
use Rattle.c_ends.specs.declared.code.Code.{Code}
use Rattle.c_ends.specs.declared.code.Code.TheVariants as code
use Rattle.c_ends.specs.declared.held.Held.{Held}
use Rattle.c_ends.specs.declared.held.Held.TheVariants as held
use Rattle.c_ends.specs.declared.parts.DuplexLink.{DuplexLink}
use Rattle.c_ends.specs.declared.parts.MasterLink.{MasterLink}
use Rattle.c_ends.specs.declared.parts.SlaveLink.{SlaveLink}
use Rattle.c_ends.specs.declared.parts.NodeParts.{NodeParts}
use Rattle.c_ends.specs.declared.parts.FileParts.{FileParts}
use Rattle.c_ends.specs.declared.parts.WordParts.{WordParts}
use Rattle.c_ends.specs.Parts.{first_of, node_fault, first_node}
use Rattle.c_ends.specs.Values.{reserved_fault, value_fault}

abbrev pub check_of : Bool → CheckKind
check_of crc = if crc then check.Crc else check.Bcc

-- ---- which part is out of range

abbrev pub number_fault : ℕ → Option Code
number_fault number = if number == 16 || number == 255 then Some code.BadStation else None

-- a station that follows others
abbrev pub twice_fault : List ℕ → ℕ → Option Code
twice_fault before number = if list_any (λ other. number == other) before then Some code.StationTwice else None

-- the first that is bad or listed twice, of stations that follow others
abbrev pub station_fault : List ℕ → List ℕ → Option Code
station_fault before [] = None
station_fault before (number ∷ numbers) =
    option_or (option_or (number_fault number) (twice_fault before number)) (station_fault (before ++ number ∷ []) numbers)

abbrev pub many_fault : List ℕ → Option Code
many_fault stations = if nat_lt 32 (length stations) then Some code.TooManyStations else None

-- whether a master carries messages between its stations is told by 0 or 1
abbrev pub routes_fault : ℕ → Option Code
routes_fault routes = if nat_lt 1 routes then Some code.BadRoutes else None

-- the first of these
abbrev pub duplex_fault : DuplexLink → NodeParts → List FileParts → List WordParts → List ℕ → Option Code
duplex_fault link node files words block = first_of (
    value_fault AckTicks code.BadAckTicks link.ack_ticks ∷
    value_fault MaxNaks code.BadMaxNaks link.max_naks ∷
    value_fault MaxEnqs code.BadMaxEnqs link.max_enqs ∷
    reserved_fault link.reserved ∷
    node_fault node files words block ∷ [])

abbrev pub master_fault : MasterLink → List ℕ → NodeParts → List FileParts → List WordParts → List ℕ → Option Code
master_fault link stations node files words block = first_of (
    value_fault AckTicks code.BadAckTicks link.ack_ticks ∷
    value_fault MaxResends code.BadMaxResends link.max_resends ∷
    value_fault PollTicks code.BadPollTicks link.poll_ticks ∷
    routes_fault link.routes ∷
    reserved_fault link.reserved ∷
    many_fault stations ∷
    station_fault [] stations ∷
    node_fault node files words block ∷ [])

abbrev pub slave_fault : SlaveLink → NodeParts → List FileParts → List WordParts → List ℕ → Option Code
slave_fault link node files words block = first_of (
    value_fault MaxSends code.BadMaxSends link.max_sends ∷
    reserved_fault link.reserved ∷
    number_fault node.address ∷
    node_fault node files words block ∷ [])

-- ---- the ends

abbrev pub duplex_setup : DuplexLink → Setup
duplex_setup link = record {
  check = check_of link.crc;
  embed = link.embed;
  limits = record { ack_ticks = link.ack_ticks; max_naks = link.max_naks; max_enqs = link.max_enqs };
}

abbrev pub first_duplex : DuplexLink → NodeParts → List FileParts → List WordParts → List ℕ → Held
first_duplex link node files words block = held.Duplex (new_end (duplex_setup link) (first_node node files words block))

abbrev pub master_setup : MasterLink → MasterSetup
master_setup link = record { check = check_of link.crc; ack_ticks = link.ack_ticks; max_resends = link.max_resends; poll_ticks = link.poll_ticks }

-- the stations between which it carries messages
abbrev pub carried_by : MasterLink → List ℕ → List ℕ
carried_by link stations = if link.routes == 1 then stations else []

abbrev pub first_master : MasterLink → List ℕ → NodeParts → List FileParts → List WordParts → List ℕ → Held
first_master link stations node files words block = held.Master (new_master (master_setup link) stations (new_router (carried_by link stations) (first_node node files words block)))

-- the number of a slave's station is the address of its node
abbrev pub slave_setup : SlaveLink → NodeParts → SlaveSetup
slave_setup link node = record { station = node.address; check = check_of link.crc; max_sends = link.max_sends }

abbrev pub first_slave : SlaveLink → NodeParts → List FileParts → List WordParts → List ℕ → Held
first_slave link node files words block = held.Slave (new_slave (slave_setup link node) (first_node node files words block))
