use Rattle.data_addresses.proofs.Texts.{only_addresses, text_read, text_spelled}
use Rattle.data_addresses.proofs.laws.addresses_have_texts.Goals as goal

pub returns-clause-spelled : goal.returns-clause-spelled
returns-clause-spelled c = text_spelled

pub returns-clause-read : goal.returns-clause-read
returns-clause-read c = text_read

pub returns-clause-only : goal.returns-clause-only
returns-clause-only c = only_addresses
