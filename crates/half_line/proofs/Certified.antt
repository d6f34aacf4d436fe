-- Wherever an ear stood: after a message it is near the beginning of an item, and after DLE ACK in step.
pub mod EarsInStep
-- What a master has to give after something happened: what it had, or one whole thing.
pub mod GivenItems
-- How one command of a node stands after something happened.
pub mod CommandStands
-- Where an ear will stand once all has arrived that is on its way to it or still to be given.
pub mod EarsAhead
-- What a step changes of it.
pub mod LineSteps
-- A run in which a command is answered.
pub mod WholeRun
-- What the master's ear is after bytes of a station.
pub mod AnswersInStep
-- What a station has to give after something happened, and what the master's ear will hear of it.
pub mod StationGives
-- What a step of a line with one station changes of that.
pub mod AloneSteps
-- A run of such a line in which a command is answered.
pub mod AloneRun
-- Events that lose, alter and add no byte.
pub mod CleanEvents
-- A write after noise is answered, and an answer leaves the master inside a pair.
pub mod Witness
-- A write after noise is answered on a line with two stations.
pub mod TwoStations
