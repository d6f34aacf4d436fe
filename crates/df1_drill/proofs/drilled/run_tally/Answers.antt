use Rattle.std.proofs.Common.{refl}
use Rattle.df1_drill.proofs.drilled.run_tally.Goals as goal

pub returns : goal.returns
returns c =
    rw (c.issued.ensures, c.executed.ensures, c.answered.ensures, c.damaged.ensures, c.repeats.ensures, c.enquiries.ensures, c.crc.ensures, c.bytes.ensures, c.as_slice.ensures, c.as_slice-lines.ensures, c.in_ok-report.ensures, c.in_ok-record.ensures.record) refl
