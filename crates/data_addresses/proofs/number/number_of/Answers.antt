use Rattle.std.proofs.Common.{arith}
use Rattle.data_addresses.proofs.Digits.{past_most}
use Rattle.data_addresses.proofs.number.number_of.Goals as goal

pub returns-then-number-most : goal.returns-then-number-most
returns-then-number-most c =
    past_most c.args.digits.now c.loop-digit.digit-index c.loop-digit.number c.args.most c.loop-digit.invariant.so_far (omega arith) (omega arith)
