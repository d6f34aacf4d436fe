use Rattle.std.proofs.Common.{◌≡◌, true, false, rules, subst, sym}
use Rattle.std.proofs.lemmas.Result.{IfOk-weaker}
use Rattle.data_files.specs.Tables.{fits_compat}
use Rattle.std.specs.Prelude.{codes}
use Rattle.toml.specs.Data.{get_member}
use Rattle.toml.specs.View.{table_view}
use Rattle.df1_plan.specs.Files.{specs_of}
use Rattle.df1_plan.specs.Keys.{has_other, is_known}
use Rattle.df1_plan.specs.Plans.{Says}
use Rattle.df1_plan.proofs.Joined.{joined-says, none-refused}
use Rattle.df1_plan.proofs.Causes.{back-first, entry-first, front-first}
use Rattle.df1_plan.proofs.Planned.{planned_right}
use Rattle.df1_plan.proofs.reading.plan_in.Goals as goal

pub returns-in_err-front-clause-refused : goal.returns-in_err-front-clause-refused
returns-in_err-front-clause-refused c = search (rules, front-first (table_view c.args.table.now))

pub returns-in_err-entries-clause-refused : goal.returns-in_err-entries-clause-refused
returns-in_err-entries-clause-refused c = search (rules, entry-first (table_view c.args.table.now))

pub returns-in_err-peer-clause-refused : goal.returns-in_err-peer-clause-refused
returns-in_err-peer-clause-refused c = search (rules, back-first (table_view c.args.table.now))

pub joined-requires : goal.joined-requires
joined-requires c =
    let right = planned_right (get_member (codes "file") (table_view c.args.table.now)) c.in_ok-entries.entries.files c.in_ok-entries.ensures.ok.files in
    search (rules, right.holding)

pub returns-clause-ok : goal.returns-clause-ok
returns-clause-ok c =
    let members = table_view c.args.table.now in
    let front = c.in_ok-front.front in
    let entries = c.in_ok-entries.entries in
    let at_front = c.in_ok-front.ensures.ok in
    let between = c.in_ok-entries.ensures.ok in
    let at_back = c.in_ok-peer.ensures.ok in
    let known : has_other is_known members ≡ false = search rules in
    let fits : fits_compat (specs_of entries.files) front.compat ≡ true = search rules in
    IfOk-weaker c.joined.result _ _
    (λ plan is. (
      none-refused members front entries c.in_ok-peer.peer at_front between at_back known fits,
      subst (Says members) (sym is) (joined-says members front entries c.in_ok-peer.peer at_front between at_back c.settings_of.result c.settings_of.ensures),
    ))
    c.joined.ensures.ok
