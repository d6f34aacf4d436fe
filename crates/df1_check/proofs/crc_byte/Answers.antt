use Rattle.std.proofs.Common.{◌≡◌, ◌∙◌, ap, bit_xor, ◌/◌}
use Rattle.df1_check.specs.Checks.{crc_byte}
use Rattle.df1_check.proofs.LookUps.{look_up}
use Rattle.df1_check.proofs.crc_byte.Goals as goal

pub returns : goal.returns
returns c =
    let byte : c.from.result ≡ c.args.b = cc in
    ap (λ e. bit_xor e (bit_xor c.args.register c.from.result / 256)) c.entry.ensures
    ∙ look_up (bit_xor c.args.register c.from.result)
    ∙ ap (crc_byte c.args.register) byte
