use Rattle.std.proofs.Common.{Result, Ok, Err}
use Rattle.std.specs.Result.{result_ok, result_err}
use Rattle.level_script.specs.Reading.{OneOf, script_of, fault_of, outcome_of}
use Rattle.level_script.proofs.laws.one_outcome.Goals as goal

one : {A B : Type 0} (r : Result A B) → OneOf (result_ok r) (result_err r)
one (Ok a) = tt
one (Err b) = tt

pub returns : goal.returns
unfolding script_of fault_of
returns c = λ bytes limits. one (outcome_of bytes limits)
