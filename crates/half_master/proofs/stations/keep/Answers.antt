use Rattle.std.proofs.Common.{◌≡◌, List, length, sym, subst}
use Rattle.std.specs.Prelude.{Some, slice_set, slice_index_or}
use Rattle.std.specs.List.{refill}
use Rattle.pccc_envelope.specs.Envelope.{key_of}
use Rattle.half_master.specs.declared.stations.Station.{Station}
use Rattle.half_master.specs.Stations.{with_key}
use Rattle.half_master.proofs.Keeping.{written}
use Rattle.half_master.proofs.stations.keep.Goals as goal

pub returns : goal.returns
returns c =
    let stations = c.args.stations.now.items in
    let found = c.index-as_mut_slice-place.result in
    let key = key_of c.args.body.now in
    rw (c.keep.ensures, c.key_of.ensures)
    (subst (λ (l : List Station). refill (length stations) stations (slice_set l c.args.place (record { number = (slice_index_or l c.args.place found).number; kept = Some key })) ≡ with_key stations c.args.place key)
    (sym c.as_mut_slice.ensures.value) (written stations c.args.place key found c.requires.place))
