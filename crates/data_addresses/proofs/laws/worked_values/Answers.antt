use Rattle.std.proofs.Common.{refl}
use Rattle.data_addresses.specs.Reading.{address_of}
use Rattle.data_addresses.proofs.laws.worked_values.Goals as goal

pub returns-clause-integer : goal.returns-clause-integer
unfolding address_of
returns-clause-integer c = refl

pub returns-clause-bit : goal.returns-clause-bit
unfolding address_of
returns-clause-bit c = refl

pub returns-clause-float : goal.returns-clause-float
unfolding address_of
returns-clause-float c = refl

pub returns-clause-accumulator : goal.returns-clause-accumulator
unfolding address_of
returns-clause-accumulator c = refl

pub returns-clause-done_bit : goal.returns-clause-done_bit
unfolding address_of
returns-clause-done_bit c = refl

pub returns-clause-status : goal.returns-clause-status
unfolding address_of
returns-clause-status c = refl

pub returns-clause-output : goal.returns-clause-output
unfolding address_of
returns-clause-output c = refl

pub returns-clause-no_file : goal.returns-clause-no_file
unfolding address_of
returns-clause-no_file c = refl

pub returns-clause-large_element : goal.returns-clause-large_element
unfolding address_of
returns-clause-large_element c = refl

pub returns-clause-no_word : goal.returns-clause-no_word
unfolding address_of
returns-clause-no_word c = refl

pub returns-clause-bit_of_float : goal.returns-clause-bit_of_float
unfolding address_of
returns-clause-bit_of_float c = refl
