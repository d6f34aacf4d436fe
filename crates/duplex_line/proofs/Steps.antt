-- An event at one end, by what its steps do there.
pub mod EventSteps
-- Playing one event after another: that there is room for the events that are still to come.
pub mod EventsToCome
-- A take that gives nothing changes nothing, at an end over any host.
pub mod IdleTake
-- A byte that means nothing: no line tells of it, and no end is deceived at it.
pub mod NothingMeant
-- An end that has nothing to give, and an empty lane: nothing comes of more steps.
pub mod NothingToGive
-- Unit steps of one kind, one after another.
pub mod UnitSteps
