-- Which lines of a step tell of no byte that was sent, and of no command that an end executed.
pub mod SilentLines
-- At each point of a run, of one end: what it gave is DF1, and its messages are its own.
pub mod OneEnd
-- Where no end is deceived, no two messages of an end have the same key.
pub mod OwnKeys
-- Over a whole run: what each end sent is DF1, and its messages are its own.
pub mod WholeRun
-- In every run: all that an end hears is what the grammar hears in the bytes that arrived at it.
pub mod AllHeard
-- Before the first event nothing is under way.
pub mod FirstState
-- In every run: the transmissions that end in a lane are those that its end began, and their numbers rise.
pub mod Transmissions
-- A front of the events of a script that can be played is played in a run of its own.
pub mod Fronts
