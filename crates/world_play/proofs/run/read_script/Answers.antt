use Rattle.std.proofs.Common.{◌≡◌, ℕ, List, subst, Some}
use Rattle.level_script.specs.Reading.{script_of, fault_of}
use Rattle.world_play.proofs.Ending.{read_script_of, read_fault_of, taken_of, fault_said}
use Rattle.world_play.proofs.run.read_script.Goals as goal

pub returns-in-Ok-parse-clause-read : goal.returns-in-Ok-parse-clause-read
returns-in-Ok-parse-clause-read g c =
    read_script_of _ _ _ c.in-Ok.bytes.items c.in-Ok-parse.script c.in-Ok.ensures.bytes
    (subst (λ (bytes : List ℕ). script_of bytes c.args.limits ≡ Some c.in-Ok-parse.script) c.as_slice.ensures.value c.in-Ok-parse.ensures.outcome)

pub returns-in-Err-Bad-clause-refused : goal.returns-in-Err-Bad-clause-refused
returns-in-Err-Bad-clause-refused g c = (
  read_fault_of _ _ _ c.in-Ok.bytes.items c.in-Err-Bad.fault c.in-Ok.ensures.bytes
      (subst (λ (bytes : List ℕ). fault_of bytes c.args.limits ≡ Some c.in-Err-Bad.fault) c.as_slice.ensures.value
      (fault_said _ _ c.in-Err-Bad.field-0 c.in-Err-Bad.fault c.in-Err-Bad.field-0-is c.in-Err-Bad.ensures.outcome)),
  taken_of _ _ c.in-Ok.bytes.items c.in-Ok.ensures.bytes,
  c.in-Ok.ensures.faults,
)
