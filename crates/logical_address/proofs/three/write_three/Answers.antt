use Rattle.std.proofs.Common.{ℕ, List, ◌≡◌, ◌++◌, length, Some, sym, subst}
use Rattle.logical_address.specs.Spelling.{SpellsThree}
use Rattle.logical_address.specs.Reading.{three_at}
use Rattle.logical_address.proofs.Addresses.{three_spelled, three_read_back}
use Rattle.logical_address.proofs.three.write_three.Goals as goal

pub returns-clause-spelled : goal.returns-clause-spelled
returns-clause-spelled c =
    subst (SpellsThree c.args.with_sub c.args.at.now) (sym c.push_three.ensures) (three_spelled c.args.with_sub c.args.at.now c.requires)

pub returns-clause-read_back : goal.returns-clause-read_back
returns-clause-read_back c rest =
    let P : List ℕ → Type 0 = λ front. three_at c.args.with_sub (front ++ rest) ≡ Some (c.args.at.now, length front) in
    subst P (sym c.push_three.ensures) (three_read_back c.args.with_sub c.args.at.now rest c.requires)
