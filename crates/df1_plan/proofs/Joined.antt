-- The plan that is joined of its parts says what they say, and nothing is refused where none of them is.
use Rattle.std.proofs.Common.{◌≡◌, ◌∙◌, ℕ, true, false, List, Option, None, refl, ap, subst, sym, arith}
use Rattle.std.specs.Prelude.{unwrap_or}
use Rattle.data_files.specs.Tables.{fits_compat}
use Rattle.end_settings.specs.declared.key.EndKey.{EndKey}
use Rattle.end_settings.specs.declared.key.EndKey.TheVariants.{Embed}
use Rattle.end_settings.specs.Rows.{Fits}
use Rattle.end_settings.specs.Table.{first_of, row_of}
use Rattle.end_settings.specs.Given.{chosen, value_of}
use Rattle.end_settings.proofs.Fitting.{Fits-first, Fits-unwrap_or}
use Rattle.script_statement.specs.declared.who.Who.TheVariants.{A}
use Rattle.script_parts.proofs.PlanSettings.{setting_in-plan_with}
use Rattle.toml.specs.Data.{Members}
use Rattle.df1_plan.specs.declared.reading.Front.{Front}
use Rattle.df1_plan.specs.declared.reading.Entries.{Entries}
use Rattle.df1_plan.specs.Files.{specs_of, words_of_all}
use Rattle.df1_plan.specs.Keys.{has_other, is_known}
use Rattle.df1_plan.specs.Settings.{given_at}
use Rattle.df1_plan.specs.Parts.{BackSays, EntriesSay, FrontSays, joined}
use Rattle.df1_plan.specs.Plans.{Says, first_cause}
use Rattle.df1_plan.proofs.Causes.{compat-first}
use Rattle.df1_plan.proofs.Told.{given-fits}

module _ (members : Members) (front : Front) (entries : Entries) (peer : ℕ) (at_front : FrontSays members front) (between : EntriesSay members entries) (at_back : BackSays members peer) where
  pub none-refused : has_other is_known members ≡ false → fits_compat (specs_of entries.files) front.compat ≡ true → first_cause members ≡ None
  none-refused known fits = compat-first members known at_front.none between.none at_back.none ∙ rw (between.files, at_front.compat, fits) refl

  module _ (given : List (Option ℕ)) (same : (key : EndKey) → value_of given key ≡ given_at members key) where
    chosen-is : (key : EndKey) → chosen given 1 key ≡ unwrap_or (given_at members key) (first_of 1 key)
    chosen-is key = ap (λ (o : Option ℕ). unwrap_or o (first_of 1 key)) (same key)

    chosen-fits : (key : EndKey) → Fits (row_of key).values (chosen given 1 key)
    chosen-fits key =
        subst (Fits (row_of key).values) (sym (chosen-is key))
        (Fits-unwrap_or (row_of key).values (given_at members key) (first_of 1 key) (given-fits members key) (Fits-first 1 (omega arith) key))

    pub joined-says : Says members (joined given front entries.files entries.issue peer)
    joined-says = record {
      end_is = refl;
      settings_are = λ key.
          setting_in-plan_with A (chosen given 1) front.compat front.block (specs_of entries.files) (words_of_all entries.files) (chosen-fits Embed) key
          ∙ chosen-is key;
      block_is = at_front.block;
      check_is = at_front.check;
      compat_is = at_front.compat;
      planned = entries.files;
      files_are = between.files;
      specs_are = refl;
      words_are = refl;
      issue_is = between.issue;
      peer_is = at_back.peer;
    }
