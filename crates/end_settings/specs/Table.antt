-- The table of the keys of an end.
use Rattle.std.specs.Prelude.{ℕ, Bool, true, false, List, [], ◌∷◌, Option, find, codes}
use Rattle.std.specs.Str.{bytes_eq}
use Rattle.end_settings.specs.declared.key.EndKey.{EndKey}
use Rattle.end_settings.specs.declared.key.EndKey.TheVariants.{AckTicks, Embed, MaxEnqs, MaxNaks, MaxResends, MaxSends, Node, PerSource, PollTicks, ReplyTicks, Room, Tns, Window}
use Rattle.end_settings.specs.declared.row.Role.{Role}
use Rattle.end_settings.specs.declared.row.Roles.{Roles}
use Rattle.end_settings.specs.declared.row.Values.TheVariants.{Switch, Number}
use Rattle.end_settings.specs.declared.row.First.TheVariants.{Address, Value}
use Rattle.end_settings.specs.Rows.{Row, first_in, is_of}

-- an end of a full-duplex link alone
abbrev pub duplex : Roles
duplex = record { duplex = true; master = false; station = false; routed_station = false }

-- the ends that issue commands
abbrev pub issuers : Roles
issuers = record { duplex = true; master = true; station = false; routed_station = true }

-- the ends that are no station: an address is set, and ticks are counted, at these alone
abbrev pub no_station : Roles
no_station = record { duplex = true; master = true; station = false; routed_station = false }

-- a master alone
abbrev pub master : Roles
master = record { duplex = false; master = true; station = false; routed_station = false }

-- a station alone
abbrev pub station : Roles
station = record { duplex = false; master = false; station = true; routed_station = true }

-- every end
abbrev pub all : Roles
all = record { duplex = true; master = true; station = true; routed_station = true }

abbrev pub row_of : EndKey → Row
row_of AckTicks = record { name = codes "ack_ticks"; roles = no_station; values = Number 1 1000000; first = Value 10 }
row_of Embed = record { name = codes "embed"; roles = duplex; values = Switch; first = Value 0 }
row_of MaxEnqs = record { name = codes "max_enqs"; roles = duplex; values = Number 0 255; first = Value 3 }
row_of MaxNaks = record { name = codes "max_naks"; roles = duplex; values = Number 0 255; first = Value 3 }
row_of MaxResends = record { name = codes "max_resends"; roles = master; values = Number 0 255; first = Value 3 }
row_of MaxSends = record { name = codes "max_sends"; roles = station; values = Number 1 255; first = Value 3 }
row_of Node = record { name = codes "node"; roles = no_station; values = Number 0 255; first = Address }
row_of PerSource = record { name = codes "per_source"; roles = no_station; values = Number 1 16; first = Value 16 }
row_of PollTicks = record { name = codes "poll_ticks"; roles = master; values = Number 1 1000000; first = Value 10 }
row_of ReplyTicks = record { name = codes "reply_ticks"; roles = no_station; values = Number 33 1000000; first = Value 100 }
row_of Room = record { name = codes "room"; roles = all; values = Number 2 64; first = Value 2 }
row_of Tns = record { name = codes "tns"; roles = issuers; values = Number 0 65535; first = Value 1 }
row_of Window = record { name = codes "window"; roles = issuers; values = Number 1 16; first = Value 1 }

-- all keys, in the order of the names' bytes
abbrev pub keys : List EndKey
keys = AckTicks ∷ Embed ∷ MaxEnqs ∷ MaxNaks ∷ MaxResends ∷ MaxSends ∷ Node ∷ PerSource ∷ PollTicks ∷ ReplyTicks ∷ Room ∷ Tns ∷ Window ∷ []

-- an end of this kind has the key
abbrev pub has_key : Role → EndKey → Bool
has_key role key = is_of role (row_of key).roles

-- the key of a name
abbrev pub key_named : List ℕ → Option EndKey
key_named name = find (λ key. bytes_eq name (row_of key).name) keys

-- the value of a key at first, of an end that has this address at first
abbrev pub first_of : ℕ → EndKey → ℕ
first_of address key = first_in address (row_of key).first
