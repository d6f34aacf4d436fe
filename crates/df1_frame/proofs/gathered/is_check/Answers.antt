use Rattle.std.proofs.Common.{arith, ap}
use Rattle.df1_frame.specs.Spelling.{check_len}
use Rattle.df1_frame.proofs.SpellingLemmas.{wrong-length}
use Rattle.df1_frame.proofs.gathered.is_check.Goals as goal

pub returns-in_default-2 : goal.returns-in_default-2
returns-in_default-2 c = wrong-length c.args.check c.args.value c.args.bytes.now (λ e. omega (arith, e, ap check_len c.in-Bcc.is))

pub returns-in_default-bytes : goal.returns-in_default-bytes
returns-in_default-bytes c = wrong-length c.args.check c.args.value c.args.bytes.now (λ e. omega (arith, e, ap check_len c.in-Crc.is))

pub returns-in_default-bytes-2 : goal.returns-in_default-bytes-2
returns-in_default-bytes-2 c = wrong-length c.args.check c.args.value c.args.bytes.now (λ e. omega (arith, e, ap check_len c.in-Crc.is))
