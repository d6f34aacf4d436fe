-- From where on an undisturbed run is looked at, and what of it counts: the commands that the master hands out from there on, and what is told from there on.
use Rattle.std.proofs.Common.{◌≡◌, ◌∙◌, ℕ, ◌≤◌, Bool, true, false, ◌&&◌, List, [], ◌∷◌, ◌++◌, length, refl, ap, sym, subst}
use Rattle.std.proofs.lemmas.Bool.{and_parts}
use Rattle.std.proofs.lemmas.List.Elements.{filter_map-append}
use Rattle.std.proofs.lemmas.List.Sums.{fold-append}
use Rattle.df1_node.specs.Answer.{StationState, after_answer}
use Rattle.df1_node.specs.Initiator.{Issued}
use Rattle.script_statement.specs.declared.who.Who.TheVariants.{S}
use Rattle.replay_report.specs.declared.record.Line.{Line}
use Rattle.each_once.specs.Exchanges.{station_after}
use Rattle.each_once.specs.Tells.{executed_at, executed_in}
use Rattle.half_line.specs.Complete.{is_to}
use Rattle.half_line.proofs.Once.Invariant.{Setting}
use Rattle.half_line.proofs.Complete.EarlierCommands.{is_new}

-- the stations before anything, what was told up to there, and the commands that the master had issued, as they stood there
pub record Origin : Type 0 where
  pub setting : Setting
  pub lines : List Line
  pub issued : List Issued

-- the station of this number at a place, as it was there
abbrev pub station_from : Origin → ℕ → ℕ → StationState
station_from origin p number = station_after (origin.setting.first p) (executed_in (S number) origin.lines)

-- a command for this station that wasn't handed out before
abbrev pub is_mine : List Issued → ℕ → List ℕ → Bool
is_mine before number body = is_new before body && is_to number body

pub mine-is : (before : List Issued) (number : ℕ) (body : List ℕ) → is_new before body ≡ true → is_to number body ≡ true → is_mine before number body ≡ true
mine-is before number body new to = rw (new, to) refl

pub mine-other : (before : List Issued) (number : ℕ) (body : List ℕ) → is_to number body ≡ false → is_mine before number body ≡ false
mine-other before number body other = by-test (is_new before body)
  where
    by-test : (new : Bool) → (new && is_to number body) ≡ false
    by-test true = other
    by-test false = refl

pub mine-new : (before : List Issued) (number : ℕ) (body : List ℕ) → is_mine before number body ≡ true → (is_new before body ≡ true) × (is_to number body ≡ true)
mine-new before number body mine = and_parts (is_new before body) (is_to number body) mine

-- ---- what a station executed from there on

pub executed-both : (number : ℕ) (before since : List Line) → executed_in (S number) (before ++ since) ≡ executed_in (S number) before ++ executed_in (S number) since
executed-both number before since = filter_map-append (executed_at (S number)) before since

pub station-both : (origin : Origin) (p number : ℕ) (since : List Line) → station_after (origin.setting.first p) (executed_in (S number) (origin.lines ++ since)) ≡ station_after (station_from origin p number) (executed_in (S number) since)
station-both origin p number since =
    ap (station_after (origin.setting.first p)) (executed-both number origin.lines since)
    ∙ fold-append after_answer (origin.setting.first p) (executed_in (S number) origin.lines) (executed_in (S number) since)

-- the data of its status reply stays as it was
block-after : (first : StationState) (executed : List (List ℕ)) → (station_after first executed).block ≡ first.block
block-after first [] = refl
block-after first (body ∷ executed) = block-after (after_answer first body) executed

pub short-from : (origin : Origin) (p number : ℕ) → length (origin.setting.first p).block ≤ 244 → length (station_from origin p number).block ≤ 244
short-from origin p number short = subst (λ (block : List ℕ). length block ≤ 244) (sym (block-after (origin.setting.first p) (executed_in (S number) origin.lines))) short
