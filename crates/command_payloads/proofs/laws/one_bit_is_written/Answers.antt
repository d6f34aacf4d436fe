use Rattle.command_payloads.proofs.OneBit.{bit_written}
use Rattle.command_payloads.proofs.laws.one_bit_is_written.Goals as goal

pub returns : goal.returns
returns c at bit old i on within inside = bit_written bit old i on within inside
