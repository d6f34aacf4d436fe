use Rattle.std.proofs.Common.{◌≡◌, true, sym, ◌∙◌}
use Rattle.std.specs.Prelude.{slice_index}
use Rattle.half_master.specs.Stations.{is_listed}
use Rattle.half_master.specs.Fitting.{IsMessage}
use Rattle.half_master.proofs.FittingLemmas.{listed-number, sending-fits}
use Rattle.half_master.proofs.Master.begin_message.Goals as goal

pub invariant_of-self : goal.invariant_of-self
invariant_of-self g c =
    let listed : is_listed c.self.inside.stations.items (slice_index c.args.body.items 0) ≡ true = rw (sym c.deref.ensures.0, sym c.deref-2.ensures.0) (sym c.is_listed.ensures ∙ c.if-is_listed.true) in
    let message : IsMessage c.args.body.items = (c.requires, listed-number c.self.inside.stations.items (slice_index c.args.body.items 0) c.self.invariant.are_stations.each listed) in
    record {
      are_stations = c.self.invariant.are_stations;
      next_in = c.self.invariant.next_in;
      phase_fits = sending-fits c.self.inside.stations.items c.self.inside.mouth c.self.inside.sending.items c.args.body.items c.self.inside.phase message c.self.invariant.phase_fits;
    }

pub transmit-requires : goal.transmit-requires
transmit-requires g c =
    let listed : is_listed c.self.inside.stations.items (slice_index c.args.body.items 0) ≡ true = rw (sym c.deref.ensures.0, sym c.deref-2.ensures.0) (sym c.is_listed.ensures ∙ c.if-is_listed.true) in
    (c.requires, listed-number c.self.inside.stations.items (slice_index c.args.body.items 0) c.self.invariant.are_stations.each listed)
