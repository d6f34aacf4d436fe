use Rattle.c_lines.proofs.Arriving.{byte-stands, byte-hears}
use Rattle.c_lines.proofs.decoder.LineDecoder.feed.Goals as goal

pub returns-clause-stands : goal.returns-clause-stands
returns-clause-stands c = λ side check bytes stands. rw c.advance.ensures.value (byte-stands c.args.self.now c.args.byte side check bytes stands)

pub returns-clause-heard : goal.returns-clause-heard
returns-clause-heard c = λ side check bytes stands. rw c.advance.ensures.told (byte-hears c.args.self.now c.args.byte side check bytes stands)
