-- Each command that is handed out from a state at rest on is answered.
pub mod AfterRest
-- A byte of a body is altered: the frame keeps its shape.
pub mod AlteredBytes
-- A byte arrives, in a run that nothing disturbs.
pub mod ArrivalStep
-- What a decoder hears of a frame's check bytes, and where an end chooses a response.
pub mod CheckBytes
-- A lane whose bytes are heard as what they were given as: nothing, ACKs, and whole frames at the bytes that end them.
pub mod ClearLane
-- What was done to the transmissions of an end, beside what its sender counts of them.
pub mod DamageDone
-- The run of a write that is damaged once.
pub mod DamagedWitness
-- A decoder that hears all that an end gives: where it stands, by what the end has still to give.
pub mod DecoderPlace
-- Of a run that nothing disturbs nothing is altered: it is one of which the line recovers.
pub mod GentleSteps
-- A command is issued, and a byte is given, in a run that nothing disturbs.
pub mod GivingStep
-- What holds at each point of a run that nothing disturbs from some point on.
pub mod Invariant
-- One direction that nothing disturbs: the message under way, and the one response that is awaited for it.
pub mod MessageUnderWay
-- An end that gives nothing, on a line on which nothing is on its way.
pub mod QuietEnd
-- The runs of a write that is given up, and of another from the state at rest on that follows.
pub mod RestWitness
-- Two ends at rest, where no end was deceived so far: what holds from there on, whatever happened before.
pub mod RestingEnds
-- Over the events of a run that nothing disturbs from some point on: what holds there stays.
pub mod RunSteps
-- A unit of time passes, in a run that nothing disturbs; and what is so where nothing is under way.
pub mod TickStep
-- Over a whole run that nothing disturbs, and that ends with nothing under way: each command executed and answered.
pub mod WholeRun
-- What the lines of a report tell of the messages that an end accepts, where nothing disturbs the line.
pub mod ToldMessages
-- The run of an undisturbed write.
pub mod Witness
