-- A command that was still to come, and that is told as answered since then, was executed since then.
pub mod ExecutedSince
-- A decoder that hears all that an end gives: in which part of an item it stands, by what the end has still to give.
pub mod GivenBytes
-- A lane of which each transmission ends where a decoder is between items, and two decoders that are alike.
pub mod LaneInStep
-- From a quiet state on, over steps that lose, alter and add no byte: an end that has accepted a message is in step with the other.
pub mod LineSteps
-- Which lines of an act tell of no message that an end accepts.
pub mod SilentLines
-- Over a run: once a command is answered that was to come at a quiet state, a quiet line with idle senders is at rest.
pub mod WholeRun
-- The run of three echoes after a lone DLE.
pub mod Witness
