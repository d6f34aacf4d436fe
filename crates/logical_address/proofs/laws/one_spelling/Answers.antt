use Rattle.std.proofs.Common.{ℕ, List, Some, Ok}
use Rattle.logical_address.specs.declared.levels.Levels.{Levels}
use Rattle.logical_address.specs.declared.three.Three.{Three}
use Rattle.logical_address.specs.declared.param.Param.{Param}
use Rattle.logical_address.specs.Reading.{three_front, levels_front, param_front}
use Rattle.logical_address.proofs.Fronts.{one_front, some_is, ok_is}
use Rattle.logical_address.proofs.Addresses.{three_again, levels_again}
use Rattle.logical_address.proofs.Parameters.{param_again}
use Rattle.logical_address.proofs.laws.one_spelling.Goals as goal

pub returns-clause-three : goal.returns-clause-three
returns-clause-three c with_sub at to front other rest others p q same =
    one_front (three_front with_sub) (λ (x : Three × List ℕ). Some x) some_is at to front other rest others (three_again with_sub at front rest p) (three_again with_sub to other others q) same

pub returns-clause-levels : goal.returns-clause-levels
returns-clause-levels c at to front other rest others p q same =
    one_front levels_front (λ (x : Levels × List ℕ). Ok x) ok_is at to front other rest others (levels_again at front rest p) (levels_again to other others q) same

pub returns-clause-param : goal.returns-clause-param
returns-clause-param c p q front other rest others a b same =
    one_front param_front (λ (x : Param × List ℕ). Ok x) ok_is p q front other rest others (param_again p front rest a) (param_again q other others b) same
