-- Each command that is handed out from a state at rest on is answered.
pub mod AfterRest
-- What is so where nothing is under way and no reply is left: each command that was handed out is answered.
pub mod AnsweredCommands
-- A station hears its call: a message, or a poll, where it has a reply and where it has none.
pub mod CallHeard
-- A cell arrives at a station.
pub mod CallStep
-- The cells that an end is still to give of what it has begun.
pub mod ComingCells
-- What passed between the master and one station.
pub mod Dealings
-- What an ear hears of the cells on their way to it, and that none of them deceives its end.
pub mod EarHears
-- The master begins a thing, where it has given all else: what each station will hear then.
pub mod MasterBegins
-- The commands that were handed out before some point of a run, and that others have other bodies and other TNS.
pub mod EarlierCommands
-- Where the events of a run come one after another, and nothing disturbs it.
pub mod EventsAlong
-- A front of the events of a script, and a run in two parts.
pub mod Fronts
-- What holds at each point of an undisturbed run.
pub mod Invariant
-- The dealings with all stations, by what is awaited.
pub mod Ledger
-- What a station changes of the dealings with it.
pub mod LedgerSteps
-- What is so of the commands and the numbers of a line, and of the reply to a command.
pub mod LineFacts
-- What happens at a station, or to the bytes to it or from it.
pub mod LinkStep
-- A command is issued, and a byte is given to every station.
pub mod MasterStep
-- What the master hears of what a station gives: DLE ACK, DLE EOT, and a message.
pub mod MasterHears
-- A message has another key than the one that is kept, where no earlier one has its TNS.
pub mod NewKeys
-- From where on an undisturbed run is looked at.
pub mod Origin
-- Where nothing is under way the master has no message to give.
pub mod QuietLine
-- The master hears the reply of the station of which it is awaited.
pub mod ReplyHeard
-- The master begins a message or a poll, where nothing is awaited of any station.
pub mod StageBegins
-- A cell arrives at the master.
pub mod ReplyStep
-- What holds of a line at rest.
pub mod RestingLine
-- The runs of a write that loses a byte, or whose reply is lost, and of another from the state at rest on that follows.
pub mod RestWitness
-- Each step of an undisturbed run leaves it such.
pub mod RunSteps
-- In every run the ends stay set up as they were.
pub mod Settings
-- A stage with one station as it is now, and after a byte of the master.
pub mod StagePlaces
-- What doesn't change a stage: bytes that are given, and cells of which nothing comes.
pub mod StageSteps
-- A unit of time passes while something is awaited.
pub mod StageTicks
-- What a master waits for, and how its stations stand then; such a line is quiet only where the master waits for nothing.
pub mod Stages
-- A station that has heard its call answers it, until the master has heard that.
pub mod StationAnswers
-- What a station hears of what the master gives: DLE ACK, a poll, and a message.
pub mod StationHears
-- A station of which nothing is awaited, and one that is called: what each hears leaves it so, until the call is heard.
pub mod StationRests
-- What a station does where it hears what the master gives.
pub mod StationTurns
-- A unit of time passes.
pub mod TickStep
-- A text that is given as it should be is read as one.
pub mod WholeText
-- Over a whole run that nothing disturbs.
pub mod WholeRun
-- The runs of an undisturbed write, and of two commands out at two stations.
pub mod Witness
-- Whose turn it is to be polled, and how many ticks the commands of a station have left at least.
pub mod Turns
