-- Which cause is the first, by what is told so far.
use Rattle.std.proofs.Common.{◌≡◌, ◌∙◌, false, List, [], ◌∷◌, ◌++◌, Option, Some, None, refl}
use Rattle.toml.specs.Data.{Members}
use Rattle.df1_plan.specs.declared.fault.PlanFault.{PlanFault}
use Rattle.df1_plan.specs.Keys.{has_other, is_known}
use Rattle.df1_plan.specs.Plans.{back_causes, compat, compat_refusal, entry_causes, files, first_cause, first_there, front_causes}

there-more : {T : Type 0} (found others : List (Option T)) (e : T) → first_there found ≡ Some e → first_there (found ++ others) ≡ Some e
there-more [] others e h = cc
there-more (Some x ∷ found) others e h = h
there-more (None ∷ found) others e h = there-more found others e h

none-more : {T : Type 0} (found others : List (Option T)) → first_there found ≡ None → first_there (found ++ others) ≡ first_there others
none-more [] others h = refl
none-more (Some x ∷ found) others h = cc
none-more (None ∷ found) others h = none-more found others h

-- the causes behind the keys before `file`, and behind those with entries
abbrev later_causes : Members → List (Option PlanFault)
later_causes members = back_causes members ++ compat_refusal (files members) (compat members) ∷ []

pub front-first : (members : Members) (e : PlanFault) → has_other is_known members ≡ false → first_there (front_causes members) ≡ Some e → first_cause members ≡ Some e
front-first members e known h = rw known (there-more (front_causes members) _ e h)

past-front : (members : Members) → has_other is_known members ≡ false → first_there (front_causes members) ≡ None → first_cause members ≡ first_there (entry_causes members ++ later_causes members)
past-front members known front = rw known (none-more (front_causes members) (entry_causes members ++ later_causes members) front)

pub entry-first : (members : Members) (e : PlanFault) → has_other is_known members ≡ false → first_there (front_causes members) ≡ None → first_there (entry_causes members) ≡ Some e → first_cause members ≡ Some e
entry-first members e known front h = past-front members known front ∙ there-more (entry_causes members) (later_causes members) e h

past-entries : (members : Members) → has_other is_known members ≡ false → first_there (front_causes members) ≡ None → first_there (entry_causes members) ≡ None → first_cause members ≡ first_there (later_causes members)
past-entries members known front entries = past-front members known front ∙ none-more (entry_causes members) (later_causes members) entries

pub back-first : (members : Members) (e : PlanFault) → has_other is_known members ≡ false → first_there (front_causes members) ≡ None → first_there (entry_causes members) ≡ None → first_there (back_causes members) ≡ Some e → first_cause members ≡ Some e
back-first members e known front entries h = past-entries members known front entries ∙ there-more (back_causes members) (compat_refusal (files members) (compat members) ∷ []) e h

alone : {T : Type 0} (o : Option T) → first_there (o ∷ []) ≡ o
alone None = refl
alone (Some x) = refl

-- behind all keys stands what the compatibility file is refused for
pub compat-first : (members : Members) → has_other is_known members ≡ false → first_there (front_causes members) ≡ None → first_there (entry_causes members) ≡ None → first_there (back_causes members) ≡ None → first_cause members ≡ compat_refusal (files members) (compat members)
compat-first members known front entries back =
    past-entries members known front entries
    ∙ none-more (back_causes members) (compat_refusal (files members) (compat members) ∷ []) back
    ∙ alone (compat_refusal (files members) (compat members))
