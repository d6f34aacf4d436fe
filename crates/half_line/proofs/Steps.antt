-- Unit steps of one kind at the master.
pub mod MasterSteps
-- Unit steps of one kind at a station, or with the bytes between it and the master.
pub mod LinkSteps
-- Unit steps of one event on the whole line, by what they do at the master, or with one station alone.
pub mod WholeLine
-- What a world holds after an event, by what it did at the master, or with one station.
pub mod PlayedEvents
-- The first state of a script, by its plans.
pub mod FirstState
-- Playing one event after another: the stations keep their numbers, and there is room for the events that are still to come.
pub mod EventsToCome
-- What is told at a station, where nothing is carried.
pub mod RoutedLines
