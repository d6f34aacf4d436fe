-- What is in range of a link where nothing is out of range. Assumes nothing.
use Rattle.std.proofs.Common.{◌≡◌, ◌≤◌, ℕ, List, [], ◌∷◌}
use Rattle.std.specs.Prelude.{Option, None}
use Rattle.end_settings.specs.declared.key.EndKey.TheVariants.{AckTicks, MaxEnqs, MaxNaks, MaxResends, MaxSends, PollTicks}
use Rattle.half_master.specs.Stations.{AreStations, IsNumber}
use Rattle.c_ends.specs.declared.code.Code.{Code}
use Rattle.c_ends.specs.declared.code.Code.TheVariants as code
use Rattle.c_ends.specs.declared.parts.DuplexLink.{DuplexLink}
use Rattle.c_ends.specs.declared.parts.MasterLink.{MasterLink}
use Rattle.c_ends.specs.declared.parts.SlaveLink.{SlaveLink}
use Rattle.c_ends.specs.declared.parts.NodeParts.{NodeParts}
use Rattle.c_ends.specs.declared.parts.FileParts.{FileParts}
use Rattle.c_ends.specs.declared.parts.WordParts.{WordParts}
use Rattle.c_ends.specs.Parts.{node_fault}
use Rattle.c_ends.specs.Values.{reserved_fault, value_fault}
use Rattle.c_ends.specs.Links.{duplex_fault, many_fault, master_fault, number_fault, routes_fault, slave_fault, station_fault}
use Rattle.c_ends.proofs.InRange.{first_of-none, value-fits}
use Rattle.c_ends.proofs.StationLemmas.{are_stations, is_number}

module _ (node : NodeParts) (files : List FileParts) (words : List WordParts) (block : List ℕ) where
  behind : List (Option Code)
  behind = node_fault node files words block ∷ []

  pub duplex_ticks : (link : DuplexLink) → duplex_fault link node files words block ≡ None → 1 ≤ link.ack_ticks
  unfolding behind
  duplex_ticks link e =
      let after_enqs : List (Option Code) = reserved_fault link.reserved ∷ behind in
      let after_naks : List (Option Code) = value_fault MaxEnqs code.BadMaxEnqs link.max_enqs ∷ after_enqs in
      let after_acks : List (Option Code) = value_fault MaxNaks code.BadMaxNaks link.max_naks ∷ after_naks in
      let acks = first_of-none (value_fault AckTicks code.BadAckTicks link.ack_ticks) after_acks e in
      (value-fits AckTicks code.BadAckTicks link.ack_ticks acks.0).0

  pub record MasterInRange (link : MasterLink) (stations : List ℕ) : Type 0 where
    pub ack_ticks : 1 ≤ link.ack_ticks
    pub poll_ticks : 1 ≤ link.poll_ticks
    pub are : AreStations stations
    pub behind_it : node_fault node files words block ≡ None

  pub master_in_range : (link : MasterLink) (stations : List ℕ) → master_fault link stations node files words block ≡ None → MasterInRange link stations
  unfolding behind
  master_in_range link stations e =
      let after_many : List (Option Code) = station_fault [] stations ∷ behind in
      let after_reserved : List (Option Code) = many_fault stations ∷ after_many in
      let after_routes : List (Option Code) = reserved_fault link.reserved ∷ after_reserved in
      let after_polls : List (Option Code) = routes_fault link.routes ∷ after_routes in
      let after_resends : List (Option Code) = value_fault PollTicks code.BadPollTicks link.poll_ticks ∷ after_polls in
      let after_acks : List (Option Code) = value_fault MaxResends code.BadMaxResends link.max_resends ∷ after_resends in
      let acks = first_of-none (value_fault AckTicks code.BadAckTicks link.ack_ticks) after_acks e in
      let resends = first_of-none (value_fault MaxResends code.BadMaxResends link.max_resends) after_resends acks.1 in
      let polls = first_of-none (value_fault PollTicks code.BadPollTicks link.poll_ticks) after_polls resends.1 in
      let routes = first_of-none (routes_fault link.routes) after_routes polls.1 in
      let reserved = first_of-none (reserved_fault link.reserved) after_reserved routes.1 in
      let many = first_of-none (many_fault stations) after_many reserved.1 in
      let each = first_of-none (station_fault [] stations) behind many.1 in
      record {
        ack_ticks = (value-fits AckTicks code.BadAckTicks link.ack_ticks acks.0).0;
        poll_ticks = (value-fits PollTicks code.BadPollTicks link.poll_ticks polls.0).0;
        are = are_stations stations many.0 each.0;
        behind_it = (first_of-none (node_fault node files words block) [] each.1).0;
      }

  pub record SlaveInRange (link : SlaveLink) : Type 0 where
    pub sends : 1 ≤ link.max_sends
    pub number : IsNumber node.address
    pub behind_it : node_fault node files words block ≡ None

  pub slave_in_range : (link : SlaveLink) → slave_fault link node files words block ≡ None → SlaveInRange link
  unfolding behind
  slave_in_range link e =
      let after_reserved : List (Option Code) = number_fault node.address ∷ behind in
      let after_sends : List (Option Code) = reserved_fault link.reserved ∷ after_reserved in
      let sends = first_of-none (value_fault MaxSends code.BadMaxSends link.max_sends) after_sends e in
      let reserved = first_of-none (reserved_fault link.reserved) after_reserved sends.1 in
      let number = first_of-none (number_fault node.address) behind reserved.1 in
      record { sends = (value-fits MaxSends code.BadMaxSends link.max_sends sends.0).0; number = is_number node.address number.0; behind_it = (first_of-none (node_fault node files words block) [] number.1).0 }
