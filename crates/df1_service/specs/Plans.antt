-- The plan that a shelf has under a name, and why it has none.
use Rattle.std.specs.Prelude.{◌≤◌, ℕ, List, length, Option}
use Rattle.df1_shelf.specs.Shelves.{Filed, IsContent}
use Rattle.df1_shelf.specs.declared.shelf.FetchFault.{FetchFault}
use Rattle.df1_shelf.specs.declared.shelf.FetchFault.TheVariants as fetch
use Rattle.df1_plan.specs.declared.plan.Plan.{Plan}
use Rattle.df1_plan.specs.declared.fault.PlanFault.{PlanFault}
use Rattle.df1_plan.specs.declared.fault.PlanFault.TheVariants as cause
use Rattle.df1_plan.specs.Plans.{IsPlanOfText, IsRefusedFor}
use Rattle.df1_service.specs.declared.fault.ServiceFault.{ServiceFault}
use Rattle.df1_service.specs.declared.fault.ServiceFault.TheVariants as fault

-- the most bytes of a plan
abbrev pub plan_limit : ℕ
plan_limit = 1048576

-- a file says this plan
pub record SaysPlan (file : Option Filed) (plan : Plan) : Type 0 where
  pub text : List ℕ
  pub content : IsContent file text
  pub few : length text ≤ plan_limit
  pub is_plan : IsPlanOfText text plan

-- a file is no plan, for this cause
pub record SaysNone (file : Option Filed) (cause : PlanFault) : Type 0 where
  pub text : List ℕ
  pub content : IsContent file text
  pub few : length text ≤ plan_limit
  pub refused : IsRefusedFor text cause

-- where it is the plan that is refused, for which cause
abbrev pub TellsNone : (PlanFault → Type 0) → ServiceFault → Type 0
TellsNone P fault.PlanFailed = Unit {0}
TellsNone P fault.PlanTooLong = Unit {0}
TellsNone P (fault.Plan cause) = P cause
TellsNone P (fault.Form at) = Unit {0}
TellsNone P (fault.Cut at) = Unit {0}
TellsNone P fault.Input = Unit {0}
TellsNone P fault.Output = Unit {0}
TellsNone P fault.TooLong = Unit {0}
TellsNone P fault.NoMemory = Unit {0}

-- what the reading of a plan may come to
abbrev pub IsOfPlan : ServiceFault → Type 0
IsOfPlan fault.PlanFailed = Unit {0}
IsOfPlan fault.PlanTooLong = Unit {0}
IsOfPlan (fault.Plan cause) = Unit {0}
IsOfPlan (fault.Form at) = ⊥
IsOfPlan (fault.Cut at) = ⊥
IsOfPlan fault.Input = ⊥
IsOfPlan fault.Output = ⊥
IsOfPlan fault.TooLong = ⊥
IsOfPlan fault.NoMemory = Unit {0}

abbrev pub fault_of_fetch : FetchFault → ServiceFault
fault_of_fetch fetch.Failed = fault.PlanFailed
fault_of_fetch fetch.TooLong = fault.PlanTooLong
fault_of_fetch fetch.NoMemory = fault.NoMemory

abbrev pub fault_of_plan : PlanFault → ServiceFault
fault_of_plan cause.Text = fault.Plan cause.Text
fault_of_plan cause.UnknownKey = fault.Plan cause.UnknownKey
fault_of_plan (cause.Key key) = fault.Plan (cause.Key key)
fault_of_plan (cause.File n) = fault.Plan (cause.File n)
fault_of_plan (cause.Issue n) = fault.Plan (cause.Issue n)
fault_of_plan cause.NoMemory = fault.NoMemory
