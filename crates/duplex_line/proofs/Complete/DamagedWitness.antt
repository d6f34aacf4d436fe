-- Of a script without a variable the checker computes whether its line recovers; and the run of a write that is damaged once.
use Rattle.std.proofs.Common.{◌≡◌, ℕ, ◌+◌, ◌≤◌, List, [], ◌∷◌, length, refl, arith, Bool, true, false, is_none, is_some, not, cond, inl, inr, Option, Some, None}
use Rattle.std.proofs.lemmas.Bool.{leb-true, eq-eqb}
use Rattle.std.proofs.lemmas.List.Elements.{All-nil}
use Rattle.std.proofs.lemmas.List.Sums.{sum_by-append}
use Rattle.std.specs.Prelude.{◌&&◌, ◌||◌, ◌==◌, ◌⊎◌, ◌≢◌, IsTrue, nat_le, slice_get, bit_xor, count_by}
use Rattle.std.specs.List.{list_any}
use Rattle.df1_check.specs.Checks.{with_byte}
use Rattle.df1_frame.specs.Spelling.{check_bytes}
use Rattle.logical_address.specs.Reading.{three_front}
use Rattle.slc_commands.specs.Order.{fields, spelled_order}
use Rattle.script_statement.specs.declared.who.Who.TheVariants.{A, B}
use Rattle.script_parts.specs.declared.script.Event.{Event}
use Rattle.script_parts.specs.declared.script.Script.{Script}
use Rattle.script_parts.proofs.PlanSettings.{Fits-first_plan}
use Rattle.script_parts.specs.Playable.{IsPlayable}
use Rattle.lane_cells.specs.Cells.{LaneCell}
use Rattle.duplex_line.specs.Acts.{LineEndState, LineState, Deed, Issue, Take, Deliver, Lose, Alter, Foreign, Tick, after_deed}
use Rattle.duplex_line.specs.Run.{start, who_of, deeds_of, seen_from, after_event, last_state, lines_after}
use Rattle.duplex_line.specs.Prompt.{Late, none_late, late_seen, late_after, late_event, EndsQuiet, HasRooms}
use Rattle.duplex_line.specs.Recoverable.{Damage, Damages, no_damages, message_of, IsBodyHit, IsMild, AreFewHits, damage_seen, damage_after, damage_event, IsMildOver, AreFewOver, IsMildAfter, HasFewTicksAfter, IsRecoverable}
use Rattle.each_once.specs.Tells.{executed_in, answers_in}
use Rattle.duplex_line.specs.Example.{hit_write, is_damage, the_command, the_reply}
use Rattle.each_once.proofs.Sublists.{none-is}
use Rattle.duplex_line.proofs.Complete.TickStep.{both}
use Rattle.duplex_line.proofs.Complete.Witness.{all-possible, are_few, few-are}

pub hit_write-playable : IsPlayable hit_write
hit_write-playable = record {
  mode = refl;
  ends = (
    record { end = refl; files = refl; words = All-nil _; settings = Fits-first_plan A 0 (omega arith); compat = refl; block = omega arith },
    record { end = refl; files = refl; words = All-nil _; settings = Fits-first_plan B 1 (omega arith); compat = refl; block = omega arith },
  );
  events = all-possible hit_write.events ((refl, refl), ((refl, (omega arith, omega arith)), ((refl, (omega arith, omega arith)), ((refl, omega arith), ((refl, (omega arith, omega arith)), ((refl, (omega arith, omega arith)), ((refl, (omega arith, omega arith)), ((refl, (omega arith, omega arith)), ((refl, (omega arith, omega arith)), ((refl, (omega arith, omega arith)), ((refl, (omega arith, omega arith)), ((refl, (omega arith, omega arith)), ((refl, (omega arith, omega arith)), tt)))))))))))));
  commands_of_a = omega arith;
  commands_of_b = omega arith;
  sum = omega arith;
}

pub hit_write-damaged : list_any is_damage (lines_after (start hit_write) hit_write.events) ≡ true
unfolding check_bytes with_byte spelled_order fields three_front
hit_write-damaged = refl

pub hit_write-executed : executed_in B (lines_after (start hit_write) hit_write.events) ≡ the_command ∷ []
unfolding check_bytes with_byte spelled_order fields three_front
hit_write-executed = refl

pub hit_write-answered : answers_in A (lines_after (start hit_write) hit_write.events) ≡ (1, the_reply) ∷ []
unfolding check_bytes with_byte spelled_order fields three_front
hit_write-answered = refl

-- ---- its damage is such as a line recovers from

unfoldable pub body_hit : Bool → Option LaneCell → ℕ → Bool
body_hit touched None mask = true
body_hit touched (Some cell) mask = (touched || is_some cell.body_of) && not (bit_xor cell.byte mask == 16)

unfoldable pub is_mild : LineEndState → Damage → Deed → Bool
is_mild side d (Issue src dst payload) = true
is_mild side d Take = true
is_mild side d Deliver = true
is_mild side d Lose = is_none (slice_get side.lane 0)
is_mild side d (Alter mask) = body_hit d.touched (slice_get side.lane 0) mask
is_mild side d (Foreign byte) = false
is_mild side d Tick = true

abbrev pub mild_over : Damages → LineState → List Deed → Bool
mild_over d s [] = true
mild_over d s (deed ∷ deeds) = is_mild s.a d.a deed && (nat_le (length (damage_after d s deed).a.hits) (after_deed s deed).a.end.sender.limits.max_naks && mild_over (damage_after d s deed) (after_deed s deed) deeds)

abbrev pub mild_after : Damages → LineState → List Event → Bool
mild_after d s [] = true
mild_after d s (e ∷ events) = mild_over (damage_seen (who_of e) d) (seen_from (who_of e) s) (deeds_of e) && mild_after (damage_event d s e) (after_event s e) events

abbrev pub few_over : Late → LineState → List Deed → Bool
few_over late s [] = true
few_over late s (deed ∷ deeds) = are_few (late_after late s deed) (after_deed s deed) && few_over (late_after late s deed) (after_deed s deed) deeds

abbrev pub few_after : Late → LineState → List Event → Bool
few_after late s [] = true
few_after late s (e ∷ events) = few_over (late_seen (who_of e) late) (seen_from (who_of e) s) (deeds_of e) && few_after (late_event late s e) (after_event s e) events

either : (a b : Bool) → (a || b) ≡ true → IsTrue a ⊎ IsTrue b
either true b h = inl refl
either false b h = inr h

not-sixteen : (n : ℕ) → not (n == 16) ≡ true → n ≢ 16
not-sixteen n h is = let same = eq-eqb n 16 is in let no : not true ≡ true = rw same at h in cc

hit-is : (touched : Bool) (o : Option LaneCell) (mask : ℕ) → body_hit touched o mask ≡ true → IsBodyHit touched o mask
unfolding body_hit
hit-is touched None mask h = tt
hit-is touched (Some cell) mask h =
    let parts = both (touched || is_some cell.body_of) (not (bit_xor cell.byte mask == 16)) h in
    (either touched (is_some cell.body_of) parts.0, not-sixteen (bit_xor cell.byte mask) parts.1)

mild-is : (side : LineEndState) (d : Damage) (deed : Deed) → is_mild side d deed ≡ true → IsMild side d deed
unfolding is_mild
mild-is side d (Issue src dst payload) h = tt
mild-is side d Take h = tt
mild-is side d Deliver h = tt
mild-is side d Lose h = none-is (slice_get side.lane 0) h
mild-is side d (Alter mask) h = hit-is d.touched (slice_get side.lane 0) mask h
mild-is side d (Foreign byte) h = absurd cc
mild-is side d Tick h = tt

count-most : (p : ℕ → Bool) (xs : List ℕ) → count_by p xs ≤ length xs
count-most p [] = omega arith
count-most p (x ∷ xs) =
    let more = count-most p xs in
    let split = sum_by-append (λ y. cond (p y) 1 0) (x ∷ []) xs in
    let one = one-most (p x) in
    omega (arith, more, split, one)
  where
    one-most : (b : Bool) → 0 + cond b 1 0 ≤ 1
    one-most true = omega arith
    one-most false = omega arith

few-hits : (side : LineEndState) (d : Damage) → nat_le (length d.hits) side.end.sender.limits.max_naks ≡ true → AreFewHits side d
few-hits side d h message =
    let count = count-most (λ number. message_of d number == message) d.hits in
    let few = leb-true (length d.hits) side.end.sender.limits.max_naks h in
    omega (arith, count, few)

mild-over : (d : Damages) (s : LineState) (deeds : List Deed) → mild_over d s deeds ≡ true → IsMildOver d s deeds
mild-over d s [] h = tt
mild-over d s (deed ∷ deeds) h =
    let few = nat_le (length (damage_after d s deed).a.hits) (after_deed s deed).a.end.sender.limits.max_naks in
    let rest = mild_over (damage_after d s deed) (after_deed s deed) deeds in
    let parts = both (is_mild s.a d.a deed) (few && rest) h in
    let more = both few rest parts.1 in
    (mild-is s.a d.a deed parts.0, few-hits (after_deed s deed).a (damage_after d s deed).a more.0, mild-over (damage_after d s deed) (after_deed s deed) deeds more.1)

pub mild-after : (d : Damages) (s : LineState) (events : List Event) → mild_after d s events ≡ true → IsMildAfter d s events
mild-after d s [] h = tt
mild-after d s (e ∷ events) h =
    let parts = both (mild_over (damage_seen (who_of e) d) (seen_from (who_of e) s) (deeds_of e)) (mild_after (damage_event d s e) (after_event s e) events) h in
    (mild-over (damage_seen (who_of e) d) (seen_from (who_of e) s) (deeds_of e) parts.0, mild-after (damage_event d s e) (after_event s e) events parts.1)

few-over : (late : Late) (s : LineState) (deeds : List Deed) → few_over late s deeds ≡ true → AreFewOver late s deeds
few-over late s [] h = tt
few-over late s (deed ∷ deeds) h =
    let parts = both (are_few (late_after late s deed) (after_deed s deed)) (few_over (late_after late s deed) (after_deed s deed) deeds) h in
    (few-are (late_after late s deed) (after_deed s deed) parts.0, few-over (late_after late s deed) (after_deed s deed) deeds parts.1)

pub few-after : (late : Late) (s : LineState) (events : List Event) → few_after late s events ≡ true → HasFewTicksAfter late s events
few-after late s [] h = tt
few-after late s (e ∷ events) h =
    let parts = both (few_over (late_seen (who_of e) late) (seen_from (who_of e) s) (deeds_of e)) (few_after (late_event late s e) (after_event s e) events) h in
    (few-over (late_seen (who_of e) late) (seen_from (who_of e) s) (deeds_of e) parts.0, few-after (late_event late s e) (after_event s e) events parts.1)

-- the line of a script recovers, where these tests pass
pub recoverable : (script : Script) → (last_state script).deceived ≡ 0 → EndsQuiet script → mild_after no_damages (start script) script.events ≡ true
    → few_after none_late (start script) script.events ≡ true → HasRooms script → IsRecoverable script
recoverable script undeceived quiet mild few rooms = record {
  undeceived = undeceived;
  quiet = quiet;
  mild = mild-after no_damages (start script) script.events mild;
  few = few-after none_late (start script) script.events few;
  rooms = rooms;
}

-- ---- a write that is damaged once

hit_write-mild : mild_after no_damages (start hit_write) hit_write.events ≡ true
unfolding check_bytes with_byte spelled_order fields three_front is_mild body_hit
hit_write-mild = refl

hit_write-few : few_after none_late (start hit_write) hit_write.events ≡ true
unfolding check_bytes with_byte spelled_order fields three_front
hit_write-few = refl

hit_write-honest : (last_state hit_write).deceived ≡ 0
unfolding check_bytes with_byte spelled_order fields three_front
hit_write-honest = refl

hit_write-quiet : EndsQuiet hit_write
unfolding check_bytes with_byte spelled_order fields three_front
hit_write-quiet = refl

hit_write-rooms : HasRooms hit_write
hit_write-rooms = record { of_a = omega arith; of_b = omega arith }

pub hit_write-recoverable : IsRecoverable hit_write
hit_write-recoverable = recoverable hit_write hit_write-honest hit_write-quiet hit_write-mild hit_write-few hit_write-rooms
