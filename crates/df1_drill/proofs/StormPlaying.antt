-- Every storm can be played.
use Rattle.std.proofs.Common.{◌≡◌, ℕ, ◌+◌, ◌*◌, ◌%◌, ◌<◌, ◌≤◌, zero, suc, List, [], ◌∷◌, ◌++◌, refl, arith, lit<, lit≤}
use Rattle.std.specs.Prelude.{sum_by}
use Rattle.std.proofs.lemmas.List.Sums.{sum_by-append}
use Rattle.script_parts.specs.Playable.{IsBetween, count_of}
use Rattle.script_parts.specs.HalfPlayable.{CanBePlayed}
use Rattle.round_scripts.specs.Rounds.{command_of, parts, undisturbed}
use Rattle.round_scripts.proofs.Playing.{HasCommands, all-possible, both, counts, one-command, parts-none, parts-sum, rounds-playable}
use Rattle.df1_drill.specs.Storm.{hit_of, hits_of, round_of, storm_script}

-- ---- events that may happen

few-before : (n : ℕ) → IsBetween 1 4000000 (2 + n % 4)
few-before n = (omega arith, omega arith)

hit-has : (turn hit : ℕ) → HasCommands (hit_of turn hit) 0
hit-has turn hit = record {
  possible = all-possible (hit_of turn hit) ((refl, counts 23 tt tt), ((refl, few-before (turn + hit)), ((refl, lit< tt), ((refl, counts 23 tt tt), ((refl, counts 2 tt tt), ((refl, counts 2 tt tt), tt))))));
  of_a = refl;
  of_b = refl;
}

undisturbed-has : HasCommands undisturbed 0
undisturbed-has = record {
  possible = all-possible undisturbed ((refl, counts 23 tt tt), ((refl, counts 23 tt tt), ((refl, counts 15 tt tt), ((refl, counts 15 tt tt), ((refl, counts 2 tt tt), ((refl, counts 2 tt tt), tt))))));
  of_a = refl;
  of_b = refl;
}

round-has : (seed round : ℕ) → HasCommands (round_of seed round) 1
round-has seed round =
    let turn = seed + round in
    one-command seed round (hits_of turn ++ undisturbed) (both (hits_of turn) undisturbed 0 0 (parts-none (hit_of turn) 1 (turn % 4) (hit-has turn)) undisturbed-has)

-- ---- how much they count

-- at most 56 a hit
hit-sum : (turn hit : ℕ) → sum_by count_of (hit_of turn hit) ≤ 56
hit-sum turn hit = omega arith

hits-sum : (turn : ℕ) → sum_by count_of (hits_of turn) ≤ (turn % 4) * 56
hits-sum turn = parts-sum (hit_of turn) (λ n i. n * 56) (λ n i. let one = hit-sum turn i in omega (arith, one)) 1 (turn % 4)

-- at most 81 more a round
round-sum : (seed round : ℕ) → sum_by count_of (round_of seed round) ≤ 81 + ((seed + round) % 4) * 56
round-sum seed round =
    let turn = seed + round in
    let hits = hits-sum turn in
    let split = sum_by-append count_of (hits_of turn) undisturbed in
    let behind = sum_by-append count_of (command_of seed round ∷ []) (hits_of turn ++ undisturbed) in
    let one : sum_by count_of (command_of seed round ∷ []) ≡ 1 = refl in
    omega (arith, hits, split, behind, one)

-- what the rounds to come may count above 165 each, by the turn's rest of a division by 4
abbrev above : ℕ → ℕ
above zero = 0
above (suc zero) = 84
above (suc (suc zero)) = 112
above (suc (suc (suc zero))) = 84
above more = 0

-- a round pays for itself
pays-rest : (n rest next cost : ℕ) → rest < 4 → next ≡ (rest + 1) % 4 → cost ≤ 81 + rest * 56 → cost + (n * 165 + above next) ≤ suc n * 165 + above rest
pays-rest n zero next cost few is most = rw is (omega (arith, most))
pays-rest n (suc zero) next cost few is most = rw is (omega (arith, most))
pays-rest n (suc (suc zero)) next cost few is most = rw is (omega (arith, most))
pays-rest n (suc (suc (suc zero))) next cost few is most = rw is (omega (arith, most))
pays-rest n (suc (suc (suc (suc rest)))) next cost few is most = absurd (omega (arith, few))

pays : (n turn cost : ℕ) → cost ≤ 81 + (turn % 4) * 56 → cost + (n * 165 + above ((turn + 1) % 4)) ≤ suc n * 165 + above (turn % 4)
pays n turn cost most = pays-rest n (turn % 4) ((turn + 1) % 4) cost (omega arith) (omega arith) most

above-most : (rest : ℕ) → above rest ≤ 112
above-most zero = lit≤ tt
above-most (suc zero) = lit≤ tt
above-most (suc (suc zero)) = lit≤ tt
above-most (suc (suc (suc zero))) = lit≤ tt
above-most more = lit≤ tt

rounds-sum : (seed count : ℕ) → sum_by count_of (parts (round_of seed) count) ≤ count * 165 + 112
rounds-sum seed count =
    let all = parts-sum (round_of seed) (λ n i. n * 165 + above ((seed + i) % 4)) (λ n i. let next : seed + (i + 1) ≡ seed + i + 1 = omega arith in rw next (pays n (seed + i) (sum_by count_of (round_of seed i)) (round-sum seed i))) 1 count in
    let most = above-most ((seed + 1) % 4) in
    omega (arith, all, most)

pub storm-playable : (seed count : ℕ) → count ≤ 20000 → CanBePlayed (storm_script seed count)
unfolding storm_script
storm-playable seed count most = let sum = rounds-sum seed count in rounds-playable (round_of seed) count (round-has seed) most (omega (arith, sum, most))
