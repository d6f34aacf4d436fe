-- The test of bit 6 of CMD.
use Rattle.std.proofs.Common.{◌≡◌, ◌∙◌, not, eqb, eq-eqb, bit_and, true, false, ap, refl, sym}
use Rattle.std.specs.Int.{bit_at}
use Rattle.std.proofs.lemmas.Bool.{ne_eqb}
use Rattle.pccc_envelope.proofs.Replies.{and_64}
use Rattle.df1_dissect.proofs.command.message_name.Goals as goal

pub returns-then-cmd-ne0-clause-value : goal.returns-then-cmd-ne0-clause-value
returns-then-cmd-ne0-clause-value c =
    let bit : eqb (bit_at c.args.cmd 6) 1 ≡ true = sym (and_64 c.args.cmd) ∙ ap not (ne_eqb (bit_and c.args.cmd 64) 0 c.if-cmd-ne0.true) in
    rw bit refl

pub returns-clause-value : goal.returns-clause-value
returns-clause-value c =
    let bit : eqb (bit_at c.args.cmd 6) 1 ≡ false = sym (and_64 c.args.cmd) ∙ ap not (eq-eqb (bit_and c.args.cmd 64) 0 c.if-cmd-ne0.false) in
    rw bit (rw (c.spelled_name.ensures.value, c.command_name.ensures.value, c.is_spelled.ensures) refl)
