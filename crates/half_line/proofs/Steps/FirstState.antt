-- The first state of a script, by its plans.
use Rattle.std.proofs.Common.{◌≡◌, ◌∙◌, ℕ, ◌<◌, ◌-◌, List, [], ◌∷◌, map, take, drop, length, get_or, refl, sym, ap, subst, arith}
use Rattle.std.specs.Prelude.{All}
use Rattle.std.proofs.Math.ListN.{get_or-map}
use Rattle.std.proofs.Math.Seq.{take-length}
use Rattle.std.proofs.lemmas.List.{length-map}
use Rattle.half_master.specs.declared.MasterSetup.{MasterSetup}
use Rattle.half_master.specs.Master.{MasterState, new_master}
use Rattle.script_parts.specs.declared.script.EndPlan.{EndPlan}
use Rattle.script_parts.specs.declared.script.Script.{Script}
use Rattle.script_parts.specs.Plans.{first_plan}
use Rattle.script_parts.specs.Playable.{IsPlanOf}
use Rattle.script_parts.specs.HalfPlayable.{AreHalfEnds, IsStationPlan, IsStationNumber, station_plans}
use Rattle.script_statement.specs.declared.who.Who.TheVariants.{M}
use Rattle.replay_report.specs.declared.record.Line.{Line}
use Rattle.half_master.specs.Stations.{IsNumber, AreStations}
use Rattle.half_line.specs.Acts.{LineStationState, half_state}
use Rattle.half_line.specs.Run.{master_setup, first_side, plan_of_m}
use Rattle.half_line.specs.Plays.{begun_with}

-- the plans behind the first
pub rest-is : (ends : List EndPlan) → take (length ends - 1) (drop 1 ends) ≡ station_plans ends
rest-is [] = refl
rest-is (master ∷ stations) = let fewer : length (master ∷ stations) - 1 ≡ length stations = omega arith in ap (λ (n : ℕ). take n stations) fewer ∙ take-length stations

pub half-stations : (ends : List EndPlan) → AreHalfEnds ends → All IsStationPlan (station_plans ends)
half-stations [] h = absurd h
half-stations (master ∷ stations) h = h.1

unmapped : {X Y : Type 0} (P : Y → Type 0) (f : X → Y) (xs : List X) → All P (map f xs) → All (λ x. P (f x)) xs
unmapped P f xs h k d lt = let within : k < length (map f xs) = rw (length-map xs f) lt in subst P (get_or-map f xs k d) (h k (f d) within)

-- the numbers of the stations are such as a master may have
pub half-listed : (ends : List EndPlan) → AreHalfEnds ends → AreStations (map (λ (plan : EndPlan). plan.node) (station_plans ends))
half-listed [] h = absurd h
half-listed (master ∷ stations) h = record { at_most = h.2.at_most; distinct = h.2.distinct; each = λ k d inside. number-of _ (h.2.each k d inside) }
  where
    number-of : (number : ℕ) → IsStationNumber number → IsNumber number
    number-of number is = (is.0, λ same. omega (arith, same, is.1))

pub half-numbers : (ends : List EndPlan) → AreHalfEnds ends → All (λ (plan : EndPlan). IsStationNumber plan.node) (station_plans ends)
half-numbers [] h = absurd h
half-numbers (master ∷ stations) h = unmapped IsStationNumber (λ (plan : EndPlan). plan.node) stations h.2.each

pub half-master : (ends : List EndPlan) (plan d : EndPlan) → AreHalfEnds ends → plan ≡ get_or ends 0 d → IsPlanOf M plan
half-master [] plan d h is = absurd h
half-master (master ∷ stations) plan d h is = subst (IsPlanOf M) (sym is) h.0

first-is : (ends : List EndPlan) (d other : EndPlan) → AreHalfEnds ends → get_or ends 0 d ≡ get_or ends 0 other
first-is [] d other h = absurd h
first-is (master ∷ stations) d other h = refl

-- the plan of the master is the first
plan-of-m : (script : Script) (plan d : EndPlan) → AreHalfEnds script.ends → plan ≡ get_or script.ends 0 d → plan ≡ plan_of_m script
plan-of-m script plan d ends is = is ∙ first-is script.ends d (first_plan M 0) ends

pub begins : {H : Type 0} (script : Script) (plan d : EndPlan) (m : MasterState H) (setup : MasterSetup) (host : H) (numbers : List ℕ) (sides : List LineStationState) (lines : List Line) → AreHalfEnds script.ends
    → plan ≡ get_or script.ends 0 d → m ≡ new_master setup numbers host → setup ≡ master_setup script.check plan
    → numbers ≡ map (λ (p : EndPlan). p.node) (station_plans script.ends) → sides ≡ map (first_side script.check) (station_plans script.ends) → lines ≡ []
    → record { state = half_state m sides 0; lines = lines; events = 0 } ≡ begun_with script host
begins script plan d m setup host numbers sides lines ends is master sets counted stations told =
    let first = plan-of-m script plan d ends is in
    rw (master, sets, counted, stations, told, first) refl
