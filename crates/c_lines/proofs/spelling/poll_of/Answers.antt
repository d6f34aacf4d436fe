use Rattle.std.proofs.Common.{ap, ◌∙◌}
use Rattle.half_frame.specs.Spelling.{bytes_of, poll_bytes}
use Rattle.half_frame.proofs.SentLemmas.{bytes_of-unmarked}
use Rattle.c_lines.proofs.spelling.poll_of.Goals as goal

pub returns : goal.returns
returns c = c.given_by.ensures.bytes ∙ ap bytes_of c.poll.ensures ∙ bytes_of-unmarked (poll_bytes c.args.station)
