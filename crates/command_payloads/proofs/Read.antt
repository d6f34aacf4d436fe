-- A payload is read as the order that it spells, and is a command's.
use Rattle.std.proofs.Common.{◌≡◌, ℕ, ◌≤◌, false, List, ◌∷◌, length, get_or, Ok, Option, drop, refl, sym, ap, subst, ◌∙◌, arith}
use Rattle.std.specs.Prelude.{◌==◌}
use Rattle.std.specs.Int.{bit_at}
use Rattle.std.specs.Option.{ok_or}
use Rattle.df1_base.specs.declared.code.Code.TheVariants.{Sts}
use Rattle.plc_commands.specs.Order as plc
use Rattle.plc_commands.specs.Spelling.{cmd_byte}
use Rattle.plc_commands.specs.Reading as plc_reading
use Rattle.plc_commands.proofs.Known.{order_known}
use Rattle.slc_commands.specs.Order as slc
use Rattle.slc_commands.proofs.Orders.{spelled_again}
use Rattle.command_payloads.specs.Orders.{SpellsPlc, SpellsSlc}

pub plc_read : (order : plc.Order) (payload : List ℕ) → SpellsPlc order payload → plc_reading.order_of (cmd_byte order) (drop 1 payload) ≡ Ok order
plc_read order payload s =
    ap (λ (bytes : List ℕ). plc_reading.order_of (cmd_byte order) (drop 1 bytes)) s.whole ∙ order_known order (cmd_byte order) s.rest s.spelled

pub slc_read : (order : slc.Order) (payload : List ℕ) → SpellsSlc order payload → slc.order_of (drop 1 payload) ≡ Ok order
slc_read order payload s =
    ap (λ (bytes : List ℕ). slc.order_of (drop 1 bytes)) s.whole ∙ ap (λ (o : Option slc.Order). ok_or o (Sts 0x10)) (spelled_again order s.rest s.spelled)

-- ---- the first byte is a command's

-- bytes that begin with a command's CMD
record IsCommand (payload : List ℕ) : Type 0 where
  some : 1 ≤ length payload
  clear : (bit_at (get_or payload 0 0) 6 == 1) ≡ false

begins : (cmd : ℕ) (rest payload : List ℕ) → payload ≡ cmd ∷ rest → (bit_at cmd 6 == 1) ≡ false → IsCommand payload
begins cmd rest payload whole clear =
    let first : IsCommand (cmd ∷ rest) = record { some = omega arith; clear = clear } in subst IsCommand (sym whole) first

cmd_is_clear : (order : plc.Order) → (bit_at (cmd_byte order) 6 == 1) ≡ false
cmd_is_clear (plc.Echo bytes) = refl
cmd_is_clear plc.Status = refl
cmd_is_clear (plc.Peek address size) = refl
cmd_is_clear (plc.Poke address bytes) = refl
cmd_is_clear (plc.RangeWrite window bytes) = refl
cmd_is_clear (plc.RangeRead window size) = refl
cmd_is_clear (plc.Change sets) = refl
cmd_is_clear (plc.TypedWrite window element array bytes) = refl
cmd_is_clear (plc.TypedRead window count) = refl

pub plc_command : (order : plc.Order) (payload : List ℕ) → SpellsPlc order payload → (1 ≤ length payload) × ((bit_at (get_or payload 0 0) 6 == 1) ≡ false)
plc_command order payload s = let c = begins (cmd_byte order) s.rest payload s.whole (cmd_is_clear order) in (c.some, c.clear)

pub slc_command : (order : slc.Order) (payload : List ℕ) → SpellsSlc order payload → (1 ≤ length payload) × ((bit_at (get_or payload 0 0) 6 == 1) ≡ false)
slc_command order payload s = let c = begins 0x0F s.rest payload s.whole refl in (c.some, c.clear)
