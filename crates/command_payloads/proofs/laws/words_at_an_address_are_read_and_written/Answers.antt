use Rattle.command_payloads.proofs.Done.{logical_read_gives, logical_write_gives, range_read_gives, range_write_gives}
use Rattle.command_payloads.proofs.laws.words_at_an_address_are_read_and_written.Goals as goal

pub returns-clause-word_range_read : goal.returns-clause-word_range_read
returns-clause-word_range_read c = range_read_gives

pub returns-clause-word_range_write : goal.returns-clause-word_range_write
returns-clause-word_range_write c = range_write_gives

pub returns-clause-logical_read : goal.returns-clause-logical_read
returns-clause-logical_read c = logical_read_gives

pub returns-clause-logical_write : goal.returns-clause-logical_write
returns-clause-logical_write c = logical_write_gives
