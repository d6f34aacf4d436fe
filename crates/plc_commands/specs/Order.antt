-- The orders of the commands.
use Rattle.std.specs.Prelude.{◌≡◌, ◌≢◌, ℕ, ◌*◌, ◌≤◌, Bool, List, [], length}
use Rattle.logical_address.specs.declared.levels.Levels.{Levels}
use Rattle.logical_address.specs.declared.param.Param.{Param}
use Rattle.plc_commands.specs.declared.order.Set.{Set}
use Rattle.plc_commands.specs.declared.order.Window.{Window}
use Rattle.plc_commands.specs.declared.order.PlcOrder.{PlcOrder}
use Rattle.plc_commands.specs.declared.order.PlcOrder.TheVariants as plc

-- an order without where its bytes lie in memory
pub data Order : Type 0 where
  Echo : (bytes : List ℕ) → Order
  Status : Order
  Peek : (address size : ℕ) → Order
  Poke : (address : ℕ) (bytes : List ℕ) → Order
  RangeWrite : (window : Window) (bytes : List ℕ) → Order
  RangeRead : (window : Window) (size : ℕ) → Order
  Change : (sets : List Set) → Order
  TypedWrite : (window : Window) (element : Param) (array : Bool) (bytes : List ℕ) → Order
  TypedRead : (window : Window) (count : ℕ) → Order

abbrev pub window : ℕ → ℕ → Levels → Window
window offset total at = record { offset = offset; total = total; at = at }

abbrev pub seen : PlcOrder → Order
seen (plc.Echo bytes) = Echo bytes.now
seen plc.Status = Status
seen (plc.Peek address size) = Peek address size
seen (plc.Poke address bytes) = Poke address bytes.now
seen (plc.RangeWrite offset total at bytes) = RangeWrite (window offset total at) bytes.now
seen (plc.RangeRead offset total at size) = RangeRead (window offset total at) size
seen (plc.Change sets) = Change sets
seen (plc.TypedWrite offset total at element array bytes) = TypedWrite (window offset total at) element array bytes.now
seen (plc.TypedRead offset total at count) = TypedRead (window offset total at) count

-- data of a message: whole words, and at least one
pub record IsWords (bytes : List ℕ) : Type 0 where
  pub count : ℕ
  pub whole : length bytes ≡ 2 * count
  pub some : bytes ≢ []

-- what is true of every order that is read
abbrev pub IsOrder : Order → Type 0
IsOrder (Echo bytes) = length bytes ≤ 244
IsOrder Status = Unit {0}
IsOrder (Peek address size) = Unit {0}
IsOrder (Poke address bytes) = (length bytes ≤ 244) × IsWords bytes
IsOrder (RangeWrite window bytes) = (length bytes ≤ 244) × IsWords bytes
IsOrder (RangeRead window size) = Unit {0}
IsOrder (Change sets) = sets ≢ []
IsOrder (TypedWrite window element array bytes) = length bytes ≤ 244
IsOrder (TypedRead window count) = Unit {0}
