use Rattle.std.proofs.Common.{length, sym, ap, arith}
use Rattle.df1_base.specs.declared.code.Code.{Code}
use Rattle.logical_address.proofs.Fronts.{ok_is}
use Rattle.plc_commands.proofs.SetLists.{word_shorter, levels_shorter}
use Rattle.plc_commands.proofs.Orders.{words_are, parameter_shorter, some_set}
use Rattle.plc_commands.proofs.read.read_by_layout.Goals as goal

pub returns-in_ok-bytes-in-8-default-clause-order : goal.returns-in_ok-bytes-in-8-default-clause-order
returns-in_ok-bytes-in-8-default-clause-order c =
    let a = c.in_ok-address-in-8-default in
    let first = word_shorter _ (a.address, a.left.now) (sym a.ensures) in
    let data' = words_are a.left.now _ (sym c.in_ok-bytes-in-8-default.ensures) in
    (omega arith, data'.1)

pub returns-in_ok-bytes-in-15-eq0-clause-order : goal.returns-in_ok-bytes-in-15-eq0-clause-order
returns-in_ok-bytes-in-15-eq0-clause-order c =
    let o = c.in_ok-offset-in-15-eq0 in
    let t = c.in_ok-total-in-15-eq0 in
    let a = c.in_ok-at-in-15-eq0 in
    let first = word_shorter _ (o.offset, o.left.now) (sym o.ensures) in
    let second = word_shorter o.left.now (t.total, t.left.now) (sym t.ensures) in
    let third = levels_shorter t.left.now (a.at, a.left.now) (sym a.ensures) in
    let data' = words_are a.left.now _ (sym c.in_ok-bytes-in-15-eq0.ensures) in
    (omega arith, data'.1)

pub returns-in_ok-changes-in-15-eq38-clause-order : goal.returns-in_ok-changes-in-15-eq38-clause-order
returns-in_ok-changes-in-15-eq38-clause-order c = some_set _ c.in_ok-changes-in-15-eq38.changes (sym c.in_ok-changes-in-15-eq38.ensures)

pub returns-in_ok-bytes-in-15-eq103-clause-order : goal.returns-in_ok-bytes-in-15-eq103-clause-order
returns-in_ok-bytes-in-15-eq103-clause-order c =
    let o = c.in_ok-offset-in-15-eq103 in
    let t = c.in_ok-total-in-15-eq103 in
    let a = c.in_ok-at-in-15-eq103 in
    let e = c.in_ok-element-in-15-eq103 in
    let first = word_shorter _ (o.offset, o.left.now) (sym o.ensures) in
    let second = word_shorter o.left.now (t.total, t.left.now) (sym t.ensures) in
    let third = levels_shorter t.left.now (a.at, a.left.now) (sym a.ensures) in
    let fourth = parameter_shorter a.left.now ((e.element, e.array), e.left.now) (sym e.ensures) in
    let same = ap length (ok_is {E = Code} _ _ c.in_ok-bytes-in-15-eq103.ensures) in
    omega arith
