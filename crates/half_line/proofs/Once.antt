-- What held at the end of a run shows each command once, for each station.
pub mod EachStation
-- A byte that is given joins a lane; the head of a lane is lost or altered.
pub mod GivenCell
-- In every run: each end stands for the bytes that arrived at it, and hears a whole message exactly where its grammar does.
pub mod Hearing
-- What is heard whole at a cell that deceives nobody is the message whose transmission ends there.
pub mod Honest
-- What holds at each point of a run that deceives no end: of the master, of each station, of both ways between them, and of what was told.
pub mod Invariant
-- What the lines of one station tell, beside what all lines tell.
pub mod LinesOfStation
-- What happens at a station, or to the bytes to it or from it, leaves what holds.
pub mod LinkSteps
-- A cell arrives at the master, which isn't deceived by it.
pub mod MasterArrival
-- In every run the master's commands are those that the script issues.
pub mod MasterCommands
-- In every run the lines tell of each command of the master how it ended, once, and of no other.
pub mod MasterOutcomes
-- The master executes nothing, and accepts replies from stations of the line alone.
pub mod MasterReplies
-- What the master does leaves what holds: it issues, gives a byte to every station, and a unit of time passes.
pub mod MasterSteps
-- Elements at their places, where one of them is another now; and numbers that differ from place to place.
pub mod Places
-- Lines that tell nothing of what any station executed, nor of a reply.
pub mod QuietLines
-- A cell arrives at a station, which isn't deceived by it.
pub mod StationArrival
-- What a byte and a take do to a station: what it executed and handed out, and what it transmits.
pub mod StationSteps
-- Over a whole run: what holds at its start holds at its end.
pub mod WholeRun
