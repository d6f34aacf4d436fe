-- In every run: each end stands for the bytes that arrived at it, and hears a whole frame exactly where the grammar does.
pub mod Arrivals
-- A cell arrives at an end, which isn't deceived by it: what was told still holds, with the lines that it makes.
pub mod ArrivingCell
-- What an act, a fate, a tick and a take leave of an end's node: its commands stay, and what it handed out and accepted goes on.
pub mod EndSteps
-- What holds at each point of a run that deceives no end: of each end, of both directions, and of what was told.
pub mod Invariant
-- How many commands an end has issued, and that a payload that may be issued is.
pub mod IssueLimits
-- Each unit step at an end, or with its bytes, leaves what holds.
pub mod LineSteps
-- Which messages an end has handed out to its sender, and that what it transmits is the last of them.
pub mod SentMessages
-- In every run: how many replies may wait at a node, and how many commands it may have out, stays as it was set.
pub mod Settings
-- Over a whole run: each command once, both ways.
pub mod WholeRun
-- In every run, whatever is heard: each end's commands are those that the script issues, and the lines tell how each ended.
pub mod ToldCommands
