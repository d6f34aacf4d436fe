-- The last station is the first of its number, or a place is kept already.
use Rattle.std.proofs.Common.{◌≡◌, ◌∙◌, ◌<◌, Some, ap, arith, length, nat_cmp, subst, sym, vec_len}
use Rattle.std.specs.List.{position}
use Rattle.std.specs.Option.{unwrap_or}
use Rattle.std.specs.BTreeMap.{Updates}
use Rattle.half_script.specs.Stations.{ArePlaces, has_number}
use Rattle.half_script.proofs.Places.{places_with, popped, same_entries}
use Rattle.half_script.proofs.stations.Stations.push.Goals as goal

pub invariant_of-self-in-Ok : goal.invariant_of-self-in-Ok
invariant_of-self-in-Ok c =
    let stations = c.self.inside.list.items in
    let place = c.unwrap_or-place.result in
    let size : vec_len c.self.inside.list ≡ length stations = omega (arith, c.self.inside.list.ok.0) in
    let room : length stations < 32 = let few = c.if-len-ge-STATIONS.false in let is = c.len.ensures in omega (arith, few, is, size) in
    let updates = subst (λ k. Updates nat_cmp c.self.inside.places c.insert.new.self k (Some place)) c.from-key.ensures c.in-Ok.ensures.updates in
    let found = c.place.ensures ∙ ap (λ k. position (has_number k) c.args.self.now) c.from-key.ensures ∙ ap (position (has_number c.args.number)) (sym c.self.view_is) in
    let first : place ≡ unwrap_or (position (has_number c.args.number) stations) (length stations) =
    c.unwrap_or-place.ensures ∙ ap (λ o. unwrap_or o c.len-2.result) found ∙ ap (unwrap_or (position (has_number c.args.number) stations)) (c.len-2.ensures ∙ size) in
    rw c.in_ok-push.ensures.items (places_with c.self.inside.places c.insert.new.self stations (record { number = c.args.number; end = c.new.result }) place room c.self.invariant updates first)

pub invariant_of-self-in-Err : goal.invariant_of-self-in-Err
invariant_of-self-in-Err c =
    let stations = c.self.inside.list.items in
    let size : vec_len c.push.new.self ≡ length c.push.new.self.items = omega (arith, c.push.new.self.ok.0) in
    let same = c.pop.ensures.rest ∙ popped stations c.push.new.self.items (record { number = c.args.number; end = c.new.result }) (vec_len c.push.new.self) c.in_ok-push.ensures.items size in
    subst (λ s. ArePlaces c.insert.new.self s) (sym same) (same_entries c.self.inside.places c.insert.new.self stations c.in-Err.ensures.err c.self.invariant)
