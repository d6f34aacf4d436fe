-- Every drill can be played.
use Rattle.std.proofs.Common.{◌≡◌, ℕ, ◌+◌, ◌*◌, ◌≤◌, suc, [], ◌∷◌, refl, arith, lit<, lit≤}
use Rattle.std.specs.Prelude.{sum_by}
use Rattle.std.proofs.lemmas.List.Sums.{sum_by-append}
use Rattle.script_parts.specs.Playable.{count_of}
use Rattle.script_parts.specs.HalfPlayable.{CanBePlayed}
use Rattle.round_scripts.specs.Rounds.{command_of, parts}
use Rattle.round_scripts.proofs.Playing.{ArePossible, HasCommands, all-possible, counts, one-command, parts-sum, rounds-playable}
use Rattle.df1_drill.specs.declared.course.Pattern.{Pattern}
use Rattle.df1_drill.specs.declared.course.Pattern.TheVariants.{Plain, DamagedFrame, LostAck, FalseNak}
use Rattle.df1_drill.specs.Drill.{course_of, drill_script, pattern_of, round_of}

-- ---- events that may happen

course-possible : (p : Pattern) → ArePossible (course_of p)
course-possible Plain = ((refl, counts 23 tt tt), ((refl, counts 23 tt tt), ((refl, counts 15 tt tt), ((refl, counts 15 tt tt), ((refl, counts 2 tt tt), ((refl, counts 2 tt tt), tt))))))
course-possible DamagedFrame = ((refl, counts 23 tt tt), ((refl, counts 2 tt tt), ((refl, lit< tt), ((refl, counts 21 tt tt), ((refl, counts 2 tt tt), ((refl, counts 2 tt tt), ((refl, counts 23 tt tt), ((refl, counts 23 tt tt), ((refl, counts 15 tt tt), ((refl, counts 15 tt tt), ((refl, counts 2 tt tt), ((refl, counts 2 tt tt), tt))))))))))))
course-possible LostAck = ((refl, counts 23 tt tt), ((refl, counts 23 tt tt), ((refl, counts 2 tt tt), ((refl, counts 2 tt tt), ((refl, counts 10 tt tt), ((refl, counts 2 tt tt), ((refl, counts 2 tt tt), ((refl, counts 15 tt tt), ((refl, counts 15 tt tt), ((refl, counts 2 tt tt), ((refl, counts 2 tt tt), tt)))))))))))
course-possible FalseNak = ((refl, counts 23 tt tt), ((refl, counts 23 tt tt), ((refl, counts 2 tt tt), ((refl, counts 2 tt tt), ((refl, (lit≤ tt, lit≤ tt)), ((refl, counts 23 tt tt), ((refl, counts 23 tt tt), ((refl, counts 15 tt tt), ((refl, counts 15 tt tt), ((refl, counts 2 tt tt), ((refl, counts 2 tt tt), tt)))))))))))

course-has : (p : Pattern) → HasCommands (course_of p) 0
course-has Plain = record { possible = all-possible (course_of Plain) (course-possible Plain); of_a = refl; of_b = refl }
course-has DamagedFrame = record { possible = all-possible (course_of DamagedFrame) (course-possible DamagedFrame); of_a = refl; of_b = refl }
course-has LostAck = record { possible = all-possible (course_of LostAck) (course-possible LostAck); of_a = refl; of_b = refl }
course-has FalseNak = record { possible = all-possible (course_of FalseNak) (course-possible FalseNak); of_a = refl; of_b = refl }

round-has : (seed round : ℕ) → HasCommands (round_of seed round) 1
round-has seed round = one-command seed round (course_of (pattern_of seed round)) (course-has (pattern_of seed round))

-- ---- how much they count

course-sum : (p : Pattern) → sum_by count_of (course_of p) ≤ 132
course-sum Plain = lit≤ tt
course-sum DamagedFrame = lit≤ tt
course-sum LostAck = lit≤ tt
course-sum FalseNak = lit≤ tt

round-sum : (seed round : ℕ) → sum_by count_of (round_of seed round) ≤ 133
round-sum seed round =
    let course = course-sum (pattern_of seed round) in
    let behind = sum_by-append count_of (command_of seed round ∷ []) (course_of (pattern_of seed round)) in
    let one : sum_by count_of (command_of seed round ∷ []) ≡ 1 = refl in
    omega (arith, course, behind, one)

rounds-sum : (seed count : ℕ) → sum_by count_of (parts (round_of seed) count) ≤ count * 133
rounds-sum seed count = parts-sum (round_of seed) (λ n i. n * 133) (λ n i. let one = round-sum seed i in omega (arith, one)) 1 count

pub drill-playable : (seed count : ℕ) → count ≤ 20000 → CanBePlayed (drill_script seed count)
unfolding drill_script
drill-playable seed count most = let sum = rounds-sum seed count in rounds-playable (round_of seed) count (round-has seed) most (omega (arith, sum, most))
