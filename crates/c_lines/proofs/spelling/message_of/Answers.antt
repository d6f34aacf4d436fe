use Rattle.std.proofs.Common.{ℕ, List, ◌∷◌, ◌++◌, ap, ◌∙◌}
use Rattle.df1_frame.specs.Spelling.{check_of}
use Rattle.half_frame.specs.Spelling.{bytes_of, station_head}
use Rattle.half_frame.proofs.SentLemmas.{bytes_of-text}
use Rattle.c_lines.proofs.spelling.message_of.Goals as goal

pub returns-clause-message : goal.returns-clause-message
returns-clause-message c =
    let check = c.args.check in
    let stn = c.args.station in
    let body = c.args.body.now in
    c.given_by.ensures.bytes ∙ ap bytes_of c.message.ensures
    ∙ ap (λ (l : List ℕ). 16 ∷ 1 ∷ stn ∷ l) (bytes_of-text body (check_of check (station_head check stn ++ body)))
