use Rattle.std.proofs.Common.{arith}
use Rattle.end_settings.specs.declared.key.EndKey.TheVariants.{PerSource, ReplyTicks, Room, Window}
use Rattle.outset.proofs.node.node_of.Goals as goal

pub new-requires-clause-room : goal.new-requires-clause-room
new-requires-clause-room c = c.requires.settings Room

pub new-requires-clause-reply_ticks : goal.new-requires-clause-reply_ticks
new-requires-clause-reply_ticks c = let ticks = c.requires.settings ReplyTicks in omega (arith, ticks)

pub new-requires-clause-window : goal.new-requires-clause-window
new-requires-clause-window c = c.requires.settings Window

pub new-requires-clause-per_source : goal.new-requires-clause-per_source
new-requires-clause-per_source c = c.requires.settings PerSource
