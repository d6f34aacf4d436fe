-- What a node has still to wait for, and what each of its steps changes of that.
pub mod NodeAccount
-- An end of a full-duplex line: how many drained ticks its messages and commands may take yet.
pub mod EndAccount
-- A full-duplex run.
pub mod DuplexRun
-- A half-duplex master: how many drained ticks its messages and commands may take yet.
pub mod MasterAccount
-- A half-duplex run.
pub mod HalfRun
-- A run of either mode.
pub mod EitherMode
-- Runs at whose end hardly a drained tick is missing.
pub mod BoundsWitness
-- An end of a full-duplex line: how many drained ticks are left to it at most.
pub mod IdleAccount
-- A full-duplex run whose ends come to idle.
pub mod IdleRun
-- A run at whose end a full-duplex line is at rest.
pub mod IdleWitness
pub mod Cut
mod Order
-- What holds of an end of a full-duplex line through its signals holds after each event of a script.
pub mod EndWalk
-- In a full-duplex run in which no end is deceived the commands of each node are known at each event, and so what its signals leave of an end holds.
pub mod KnownRun
-- In a half-duplex run in which no end is deceived the master never holds a command whose outcome is known.
pub mod NoneSettled
-- In a full-duplex run in which no end is deceived an end whose replies may take as long as a message's waits, and whose ticks are all drained, holds no command that is unanswered.
pub mod NoneUnanswered
-- In a full-duplex run in which no end is deceived no end ever holds a command that is undelivered.
pub mod NoneUndelivered
-- A node's commands that stand so: which step brings such a one about, and that none of their bodies is handed out again.
pub mod KnownNode
-- A full-duplex run: no more bytes are on their way from an end than it sent, and none where as many left its lane and it sent none since.
pub mod ClearedLane
-- A half-duplex run: no more bytes are on their way to a station than the master sent, and none where as many left that lane and it sent none since.
pub mod ClearedStation
-- A full-duplex script cut where the report tells a command as ended and nothing is on its way: no later line tells it as executed.
pub mod LateAtCut
-- A half-duplex script cut where the report tells a command as ended and nothing is on its way to a station: no later line tells it as executed there.
pub mod LateAtPolledCut
-- A run of either mode in which no end is deceived: nothing that ended comes late.
pub mod NothingLate
-- A full-duplex script cut where a command is over: no later command has its body, and it stays over.
pub mod OverAtCut
-- A half-duplex script cut where a command is over on its way to a station: no later command has its body, and it stays over.
pub mod OverAtPolledCut
-- A full-duplex end whose command is over: what each signal leaves of that.
pub mod OverEnd
-- A half-duplex master whose command is over: what each signal leaves of that.
pub mod OverMaster
-- A node that won't hand out a command any more, and bytes on their way that end no transmission of it.
pub mod OverNode
-- A half-duplex master holds no command whose outcome is known: each signal leaves that.
pub mod SettledMaster
-- A full-duplex end holds no command that is undelivered: each signal leaves that.
pub mod UndeliveredEnd
-- A half-duplex run from a state on where a command is over on its way to a station: it stays over, and no line tells it as executed there.
pub mod OverPolledRun
-- A full-duplex run from a state on where a command is over: it stays over, and no line tells it as executed at the other end.
pub mod OverRun
-- A full-duplex end whose replies may take as long as a message's waits holds no command that is unanswered, where each of its ticks is drained: each signal leaves that.
pub mod UnansweredEnd
-- The runs at whose end a command is over.
pub mod LateWitness
