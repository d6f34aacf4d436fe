use Rattle.std.proofs.Common.{ℕ, List, ◌∷◌, ◌++◌, ap}
use Rattle.df1_frame.specs.Spelling.{check_of}
use Rattle.half_frame.specs.Spelling.{station_head}
use Rattle.half_frame.proofs.SentLemmas.{bytes_of-text, bytes_of-unmarked}
use Rattle.half_frame.proofs.framer.marks_change_no_byte.Goals as goal

pub returns-clause-message : goal.returns-clause-message
returns-clause-message c = λ stn body. ap (λ (l : List ℕ). 16 ∷ 1 ∷ stn ∷ l) (bytes_of-text body (check_of c.args.check (station_head c.args.check stn ++ body)))

pub returns-clause-reply : goal.returns-clause-reply
returns-clause-reply c = λ body. bytes_of-text body (check_of c.args.check body)

pub returns-clause-unmarked : goal.returns-clause-unmarked
returns-clause-unmarked c = bytes_of-unmarked
