-- The ticks of a wait at its beginning.
use Rattle.std.specs.Prelude.{◌≡◌}
use Rattle.half_master.specs.declared.MasterSetup.{MasterSetup}
use Rattle.half_master.specs.declared.table.Phase.{Phase}
use Rattle.half_master.specs.declared.table.Phase.TheVariants as phase

-- a wait of this phase has all its ticks left
abbrev pub HasAllTicks : MasterSetup → Phase → Type 0
HasAllTicks setup phase.Idle = Unit {0}
HasAllTicks setup (phase.WaitsForAck left resent) = left ≡ setup.ack_ticks
HasAllTicks setup (phase.WaitsAfterPoll left place) = left ≡ setup.poll_ticks
