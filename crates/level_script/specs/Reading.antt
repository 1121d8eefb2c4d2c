-- What an input is: a script, or a fault.
use Rattle.std.specs.Prelude.{◌≡◌, ℕ, ◌+◌, ◌-◌, ◌<◌, ◌≤◌, ◌⊎◌, ◌↔◌, nat_lt, List, [], ◌∷◌, length, Option, Some, None, Result, Ok, Err, take, slice_index_or, if◌then◌else◌}
use Rattle.std.specs.Result.{result_ok, result_err}
use Rattle.level_script.specs.Lines.{input_lines}
use Rattle.level_script.specs.Context.{start, after_line, script_from}
use Rattle.level_script.specs.declared.cause.Cause.{Cause}
use Rattle.level_script.specs.declared.cause.Cause.TheVariants as cause
use Rattle.level_script.specs.declared.cause.ParseErr.{ParseErr}
use Rattle.level_script.specs.declared.cause.ParseErr.TheVariants as parse
use Rattle.level_script.specs.declared.cause.ScriptErr.{ScriptErr}
use Rattle.level_script.specs.declared.context.Context.{Context}
use Rattle.level_script.specs.declared.limits.Limits.{Limits}
use Rattle.level_script.specs.declared.script.Script.{Script}

-- a line with a cause
abbrev pub fault_at : ℕ → Cause → ScriptErr
fault_at number why = record { line = number; cause = why }

-- the same as an answer
abbrev pub bad_at : ℕ → Cause → ParseErr
bad_at number why = parse.Bad (fault_at number why)

-- what is known after a line, or what is wrong with it; there are at most 200,000 lines
unfoldable pub after_numbered : ℕ → Context → List ℕ → Result Context Cause
after_numbered number c line = if nat_lt 200000 number then Err cause.TooLong else after_line number c line

-- what is read on after a line
abbrev pub read_on : ℕ → Result Context Cause → (Context → Result Context ScriptErr) → Result Context ScriptErr
read_on number (Ok c) more = more c
read_on number (Err why) more = Err (fault_at number why)

-- what is known after all lines, the first of which has this number, or the first fault
unfoldable pub read_from : ℕ → Context → List (List ℕ) → Result Context ScriptErr
read_from number c [] = Ok c
read_from number c (line ∷ lines) = read_on number (after_numbered number c line) (λ next. read_from (number + 1) next lines)

-- the script of lines that are read
abbrev pub script_of_lines : Result Context ScriptErr → Result Script ScriptErr
script_of_lines (Ok c) = Ok (script_from c)
script_of_lines (Err fault) = Err fault

-- what an input is: it has at most 16,777,216 bytes, and its lines are read in order
unfoldable pub outcome_of : List ℕ → Limits → Result Script ScriptErr
outcome_of bytes limits =
    if nat_lt 16777216 (length bytes) then Err (fault_at 0 cause.TooLong)
    else script_of_lines (read_from 1 (start limits) (input_lines bytes))

-- the script that an input is
unfoldable pub script_of : List ℕ → Limits → Option Script
script_of bytes limits = result_ok (outcome_of bytes limits)

-- the first faulty line of an input, and its first cause
unfoldable pub fault_of : List ℕ → Limits → Option ScriptErr
fault_of bytes limits = result_err (outcome_of bytes limits)

-- the context that is left is what is wanted, and so is the fault; there may be no memory for it
abbrev pub TakesLine : {A : Type 0} → Result Context Cause → ℕ → Context → Result A ParseErr → Type 0
TakesLine want number new (Ok done) = want ≡ Ok new
TakesLine want number new (Err (parse.Bad fault)) = (why : Cause) × (want ≡ Err why) × (fault ≡ fault_at number why)
TakesLine want number new (Err parse.Memory) = Unit {0}

-- the same, of several lines
abbrev pub ReadsLines : {A : Type 0} → Result Context ScriptErr → Context → Result A ParseErr → Type 0
ReadsLines want new (Ok done) = want ≡ Ok new
ReadsLines want new (Err (parse.Bad fault)) = want ≡ Err fault
ReadsLines want new (Err parse.Memory) = Unit {0}

-- the script is that of the input, and the fault its fault; there may be no memory for it
abbrev pub Reads : List ℕ → Limits → Result Script ParseErr → Type 0
Reads bytes limits (Ok script) = script_of bytes limits ≡ Some script
Reads bytes limits (Err (parse.Bad fault)) = fault_of bytes limits ≡ Some fault
Reads bytes limits (Err parse.Memory) = Unit {0}

-- there is one of two things, and not the other
abbrev pub OneOf : {A B : Type 0} → Option A → Option B → Type 0
OneOf None None = ⊥
OneOf None (Some b) = Unit {0}
OneOf (Some a) None = Unit {0}
OneOf (Some a) (Some b) = ⊥

-- each input is a script, or has a first fault, and not both
abbrev pub OneOutcome : Type 0
OneOutcome = (bytes : List ℕ) (limits : Limits) → OneOf (script_of bytes limits) (fault_of bytes limits)

-- a line of these has the cause, and the lines before it are read
pub record IsFirstFault (limits : Limits) (lines : List (List ℕ)) (fault : ScriptErr) : Type 0 where
  pub from_1 : 1 ≤ fault.line
  pub there : fault.line ≤ length lines
  pub before : Context
  pub read : read_from 1 (start limits) (take (fault.line - 1) lines) ≡ Ok before
  pub faulty : after_numbered fault.line before (slice_index_or lines (fault.line - 1) []) ≡ Err fault.cause

-- an input that is too long has that fault, and each other the first of its lines
abbrev pub HasFault : List ℕ → Limits → ScriptErr → Type 0
HasFault bytes limits fault = ((16777216 < length bytes) × (fault ≡ fault_at 0 cause.TooLong)) ⊎ ((length bytes ≤ 16777216) × IsFirstFault limits (input_lines bytes) fault)

-- the fault of an input is the first that it has
abbrev pub FirstFault : Type 0
FirstFault = (bytes : List ℕ) (limits : Limits) (fault : ScriptErr) → (fault_of bytes limits ≡ Some fault) ↔ HasFault bytes limits fault
