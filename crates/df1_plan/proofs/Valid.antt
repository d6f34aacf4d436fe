-- A plan that is told is one that an end can be made of.
use Rattle.std.proofs.Common.{◌≡◌, ℕ, ◌+◌, ◌≤◌, Bool, true, false, cond, List, [], ◌∷◌, ◌++◌, length, nat_le, nat_lt, Option, Some, None, Result, Ok, Err, refl, sym, subst, ◌∙◌, arith, length-append}
use Rattle.std.specs.Prelude.{IsTrue, All, codes}
use Rattle.std.specs.Option.{option_and_then}
use Rattle.std.proofs.lemmas.Bool.{and_parts}
use Rattle.std.proofs.lemmas.Bool.Decides.{nat_tests}
use Rattle.std.proofs.lemmas.List.Elements.{All-nil, All-push}
use Rattle.data_files.specs.Tables.{fits_compat}
use Rattle.end_settings.specs.Rows.{Fits}
use Rattle.end_settings.specs.Table.{first_of, row_of}
use Rattle.end_settings.proofs.Fitting.{Fits-first, Fits-unwrap_or}
use Rattle.script_statement.specs.Statements.{is_payload}
use Rattle.script_statement.specs.declared.who.Who.TheVariants.{A}
use Rattle.script_parts.specs.Playable.{IsPlanOf}
use Rattle.toml.specs.Data.{Data, Items, no_items, item, Members, as_array, get_member}
use Rattle.df1_plan.specs.declared.plan.Plan.{Plan}
use Rattle.df1_plan.specs.declared.plan.PlannedCommand.{PlannedCommand}
use Rattle.df1_plan.specs.declared.plan_key.PlanKey.TheVariants as key
use Rattle.df1_plan.specs.declared.fault.PlanFault.{PlanFault}
use Rattle.df1_plan.specs.declared.fault.PlanFault.TheVariants as fault
use Rattle.df1_plan.specs.Keys.{has_other, is_known, read_or, told_or}
use Rattle.df1_plan.specs.Values.{at_most, block_in, hex_in}
use Rattle.df1_plan.specs.Files.{specs_of}
use Rattle.df1_plan.specs.Issues.{command_in, commands_after, commands_in, commands_of_array, may_issue, next_command, next_of}
use Rattle.df1_plan.specs.Plans.{Says, back_causes, compat, compat_refusal, entry_causes, files, first_cause, first_there, front_causes}
use Rattle.df1_plan.specs.Settings.{given_at}
use Rattle.df1_plan.proofs.Causes.{compat-first}
use Rattle.df1_plan.proofs.Planned.{planned_right}
use Rattle.df1_plan.proofs.Told.{given-fits}

-- ---- the block

short : (b : Bool) (bytes block : List ℕ) → nat_le (length bytes) 244 ≡ b → cond b (Some bytes) None ≡ Some block → length block ≤ 244
short false bytes block e h = cc
short true bytes block e h = grind (arith, nat_tests, e, h)

short-hex : (o : Option (List ℕ)) (block : List ℕ) → option_and_then (at_most 244) o ≡ Some block → length block ≤ 244
short-hex None block h = cc
short-hex (Some bytes) block h = short (nat_le (length bytes) 244) bytes block refl h

ok-is : {T : Type 0} (r : Result T PlanFault) (x y : T) → r ≡ Ok x → r ≡ Ok y → x ≡ y
ok-is r x y e f = grind (arith, e, f)

short-read : (o : Option (List ℕ)) (block : List ℕ) → read_or key.Block o ≡ Ok block → o ≡ Some block
short-read None block h = cc
short-read (Some bytes) block h = grind (arith, h)

short-told : (o : Option Data) (block : List ℕ) → told_or key.Block block_in [] o ≡ Ok block → length block ≤ 244
short-told None block h = rw (← ok-is (Ok []) [] block refl h) (omega arith)
short-told (Some value) block h = short-hex (hex_in value) block (short-read (block_in value) block h)

-- ---- the commands

pub record AreCommands (commands : List PlannedCommand) : Type 0 where
  pub each : All (λ command. IsTrue (is_payload command.payload)) commands
  pub few : length commands ≤ 65535

next-is-if : (b : Bool) (before : List PlannedCommand) (command next : PlannedCommand) → may_issue before command ≡ b → cond b (Some command) None ≡ Some next → (length (before ++ next ∷ []) ≤ 65535) × (is_payload next.payload ≡ true)
next-is-if false before command next e h = cc
next-is-if true before command next e h =
    let parts = and_parts (nat_lt (length before) 65535) (is_payload command.payload) e in
    let same : command ≡ next = grind (arith, h) in
    (rw (length-append before (next ∷ [])) (grind (arith, nat_tests, parts.0)), rw (← same) parts.1)

next-is : (before : List PlannedCommand) (o : Option PlannedCommand) (next : PlannedCommand) → next_of before o ≡ Some next → (length (before ++ next ∷ []) ≤ 65535) × (is_payload next.payload ≡ true)
next-is before None next h = cc
next-is before (Some command) next h = next-is-if (may_issue before command) before command next refl h

commands-after : (before : List PlannedCommand) (values : Items) (commands : List PlannedCommand) → AreCommands before → commands_after before values ≡ Ok commands → AreCommands commands
commands-after before no_items commands h e = rw (← ok-is (Ok before) before commands refl e) h
commands-after before (item value values) commands h e =
    elim (next_command before value) as (λ (o : Option PlannedCommand). next_command before value ≡ o → ◌≡◌ {A = Result (List PlannedCommand) PlanFault} (elim o [ None ↦ Err (fault.Issue (length before + 1)) | Some command ↦ commands_after (before ++ command ∷ []) values ]) (Ok commands) → AreCommands commands) [
      | None ↦ λ n g. cc
      | Some next ↦ λ n g.
          let both = next-is before (command_in value) next n in
          commands-after (before ++ next ∷ []) values commands (record { each = All-push (λ command. IsTrue (is_payload command.payload)) before next h.each both.1; few = both.0 }) g
    ] refl e

none-at-first : AreCommands []
none-at-first = record { each = All-nil _; few = omega arith }

commands-of : (o : Option Items) (commands : List PlannedCommand) → commands_of_array o ≡ Ok commands → AreCommands commands
commands-of None commands e = cc
commands-of (Some entries) commands e = commands-after [] entries commands none-at-first e

commands-in : (o : Option Data) (commands : List PlannedCommand) → commands_in o ≡ Ok commands → AreCommands commands
commands-in None commands e = rw (← ok-is (Ok []) [] commands refl e) none-at-first
commands-in (Some value) commands e = commands-of (as_array value) commands e

-- ---- the compatibility file

fits-if : (b : Bool) → cond b None (Some (fault.Key key.Compat)) ≡ None → b ≡ true
fits-if true h = refl
fits-if false h = cc

known-if : (b : Bool) (others : List (Option PlanFault)) → first_there (cond b (Some fault.UnknownKey) None ∷ others) ≡ None → b ≡ false
known-if true others h = cc
known-if false others h = refl

none-if : {T : Type 0} (found others : List (Option T)) → first_there (found ++ others) ≡ None → (first_there found ≡ None) × (first_there others ≡ None)
none-if [] others h = (refl, h)
none-if (Some x ∷ found) others h = cc
none-if (None ∷ found) others h = none-if found others h

fits-none : (members : Members) (plan : Plan) → Says members plan → first_cause members ≡ None → fits_compat plan.end.files plan.end.compat ≡ true
fits-none members plan s none =
    let known : has_other is_known members ≡ false = known-if (has_other is_known members) _ none in
    let behind_front = none-if (front_causes members) (entry_causes members ++ back_causes members ++ compat_refusal (files members) (compat members) ∷ []) (rw known at none) in
    let behind_entries = none-if (entry_causes members) (back_causes members ++ compat_refusal (files members) (compat members) ∷ []) behind_front.1 in
    let behind_back = none-if (back_causes members) (compat_refusal (files members) (compat members) ∷ []) behind_entries.1 in
    let first : first_cause members ≡ compat_refusal (files members) (compat members) = compat-first members known behind_front.0 behind_entries.0 behind_back.0 in
    let refusal : compat_refusal (files members) (compat members) ≡ None = sym first ∙ none in
    let fits : fits_compat (specs_of s.planned) plan.end.compat ≡ true = fits-if (fits_compat (specs_of s.planned) plan.end.compat) (rw (s.files_are, s.compat_is) at refusal) in
    rw s.specs_are fits

-- ---- all of it

pub says_valid : (members : Members) (plan : Plan) → first_cause members ≡ None → Says members plan → IsPlanOf A plan.end × All (λ command. IsTrue (is_payload command.payload)) plan.issue × (length plan.issue ≤ 65535)
says_valid members plan none says =
    let right = planned_right (get_member (codes "file") members) says.planned says.files_are in
    let commands = commands-in (get_member (codes "issue") members) plan.issue says.issue_is in (
      record {
        end = says.end_is;
        files = rw says.specs_are right.none;
        words = rw (says.specs_are, says.words_are) right.words;
        settings = λ key.
            subst (Fits (row_of key).values) (sym (says.settings_are key))
            (Fits-unwrap_or (row_of key).values (given_at members key) (first_of 1 key) (given-fits members key) (Fits-first 1 (omega arith) key));
        compat = fits-none members plan says none;
        block = short-told (get_member (codes "block") members) plan.end.block says.block_is;
      },
      commands.each,
      commands.few,
    )
