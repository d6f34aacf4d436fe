use Rattle.std.proofs.Common.{◌≡◌, ℕ, List, true, Result, Ok, Err, sym, subst, ◌∙◌, arith}
use Rattle.std.specs.Prelude.{IfOk, IfErr}
use Rattle.std.specs.Result.{result_map_both}
use Rattle.df1_base.specs.declared.code.Code.{Code}
use Rattle.plc_commands.specs.declared.order.PlcOrder.{PlcOrder}
use Rattle.plc_commands.specs.Order.{Order, seen}
use Rattle.plc_commands.specs.Spelling.{SpellsOrder}
use Rattle.plc_commands.specs.Reading.{is_reading_code, order_of}
use Rattle.plc_commands.proofs.Known.{order_known}
use Rattle.plc_commands.proofs.Spelled.{order_spelled}
use Rattle.plc_commands.proofs.ReadingCodes.{IsTold, order_told}
use Rattle.plc_commands.proofs.read.read_plc.Goals as goal

spelled_as : (cmd : ℕ) (payload : List ℕ) (found : Result PlcOrder Code) (read : Result Order Code) → result_map_both seen (λ code. code) found ≡ read
    → ((order : Order) → read ≡ Ok order → SpellsOrder order cmd payload) → IfOk found (λ order. SpellsOrder (seen order) cmd payload)
spelled_as cmd payload (Ok order) read is spelled = spelled (seen order) (sym is)
spelled_as cmd payload (Err code) read is spelled = tt

refused_as : (found : Result PlcOrder Code) (read : Result Order Code) → result_map_both seen (λ code. code) found ≡ read → IsTold read → IfErr found (λ code. is_reading_code code ≡ true)
refused_as (Ok order) read is told = tt
refused_as (Err code) read is told = subst IsTold (sym is) told

pub returns-clause-spelled : goal.returns-clause-spelled
returns-clause-spelled c =
    let cmd = c.args.cmd in
    let payload = c.args.payload.now in
    spelled_as cmd payload c.read_by_layout.result (order_of cmd payload) c.read_by_layout.ensures.reads (λ order is. order_spelled cmd payload order (λ i. omega (arith, c.type_inv.payload i)) is)

pub returns-clause-known : goal.returns-clause-known
returns-clause-known c order s = c.read_by_layout.ensures.reads ∙ order_known order c.args.cmd c.args.payload.now s

pub returns-clause-refused : goal.returns-clause-refused
returns-clause-refused c =
    refused_as c.read_by_layout.result (order_of c.args.cmd c.args.payload.now) c.read_by_layout.ensures.reads (order_told c.args.cmd c.args.payload.now)
