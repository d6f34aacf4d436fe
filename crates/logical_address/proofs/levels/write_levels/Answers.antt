use Rattle.std.proofs.Common.{ℕ, List, ◌≡◌, ◌++◌, length, sym, subst}
use Rattle.std.specs.Prelude.{Ok}
use Rattle.logical_address.specs.Spelling.{SpellsLevels}
use Rattle.logical_address.specs.Reading.{levels_at}
use Rattle.logical_address.proofs.Addresses.{levels_spelled, levels_read_back}
use Rattle.logical_address.proofs.levels.write_levels.Goals as goal

pub returns-clause-spelled : goal.returns-clause-spelled
returns-clause-spelled c = subst (SpellsLevels c.args.at.now) (sym c.push_levels.ensures) (levels_spelled c.args.at.now)

pub returns-clause-read_back : goal.returns-clause-read_back
returns-clause-read_back c rest =
    let P : List ℕ → Type 0 = λ front. levels_at (front ++ rest) ≡ Ok (c.args.at.now, length front) in
    subst P (sym c.push_levels.ensures) (levels_read_back c.args.at.now rest)
