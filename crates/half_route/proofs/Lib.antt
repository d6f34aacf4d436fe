-- A byte and a take leave the commands of a station's node as they are.
pub mod StationCommands
-- Each call of a router leaves the commands of the node within as they are.
pub mod RoutedCommands
-- What holds of each plan of a list and the station of it.
pub mod AlongPlans
-- The first place of a list that passes a test.
pub mod FirstPlace
-- The events of a route, by what they do.
pub mod EventKinds
-- The commands that are issued at each end of a route's run.
pub mod Issued
-- Each event of a script may happen after those before it.
pub mod EventsToCome
-- The run of a script, event by event.
pub mod EventByEvent
-- Each command once between the ends of a route.
pub mod Once
