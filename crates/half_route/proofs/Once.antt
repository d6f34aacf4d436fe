-- What goes from end to end through the master.
pub mod Chains
-- What held at the end of a run shows of each end.
pub mod EachParty
-- An end of the line by itself, and what each step of its node leaves.
pub mod EndSteps
-- The ends of a script of a route, and that all holds before the first event.
pub mod FirstState
-- The command that a reply is to.
pub mod FoundCommands
-- What holds at each point of a route's run that deceives no end.
pub mod Invariant
-- What happens at a station, or to the bytes to it or from it, leaves what holds.
pub mod LinkDeeds
-- A cell arrives at the master.
pub mod MasterArrival
-- What the master does leaves what holds.
pub mod MasterDeeds
-- A node that issues and executes commands, of which what waits may be dropped: what it handed out and accepted.
pub mod Partaking
-- All ends of a route alike.
pub mod Parties
-- Lines that tell nothing of an end.
pub mod QuietEnds
-- A router before the node of the master, and what each call of it leaves.
pub mod RouterSteps
-- The run of a route's script that deceives no end shows each command once.
pub mod RunShows
-- The commands of a node as they are told: one that was given up before it was handed out is told as one that waits.
pub mod Shown
-- A cell arrives at a station.
pub mod StationArrival
-- What the lines of a report tell of one end alone.
pub mod Telling
-- The record of a route's run shows each command once.
pub mod WholeRecord
-- Over a whole run: what holds at its start holds at its end.
pub mod WholeRun
