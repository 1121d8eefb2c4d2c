-- What follows from the grammar, in words that know no context.
use Rattle.std.specs.Prelude.{◌≡◌, ◌↔◌, ℕ, ◌+◌, ◌≤◌, ◌==◌, nat_le, Bool, true, false, not, ◌&&◌, List, [], ◌∷◌, ◌++◌, length, take, Some, Result, Ok, slice_get, IsTrue}
use Rattle.std.specs.List.{list_all, list_any, filter}
use Rattle.std.specs.Str.{bytes_eq, is_utf8}
use Rattle.level_script.specs.Commands.{said_by_line}
use Rattle.level_script.specs.Context.{start}
use Rattle.level_script.specs.Forms.{is_comment}
use Rattle.level_script.specs.Lanes.{bound_var}
use Rattle.level_script.specs.LaneCommands.{frame_of}
use Rattle.level_script.specs.Lines.{input_lines, line_words}
use Rattle.level_script.specs.Operands.{closes, is_some}
use Rattle.level_script.specs.Names.{number_of_name}
use Rattle.level_script.specs.Reading.{after_numbered, read_on, read_from, script_of_lines, outcome_of, fault_of}
use Rattle.level_script.specs.declared.cause.Cause.{Cause}
use Rattle.level_script.specs.declared.cause.ScriptErr.{ScriptErr}
use Rattle.level_script.specs.declared.context.Context.{Context}
use Rattle.level_script.specs.declared.lanes.LaneNames.{LaneNames}
use Rattle.level_script.specs.declared.limits.Limits.{Limits}
use Rattle.level_script.specs.declared.operand.Binds.{Binds}
use Rattle.level_script.specs.declared.operand.Binds.TheVariants as binds
use Rattle.level_script.specs.declared.said.Does.{Does}
use Rattle.level_script.specs.declared.said.Said.{Said}
use Rattle.level_script.specs.declared.said.Said.TheVariants as said

-- The fault of a line depends on the lines up to it alone.
abbrev pub FaultByLines : Type 0
FaultByLines = (bytes other : List ℕ) (limits : Limits) (fault : ScriptErr) → length bytes ≤ 16777216 → length other ≤ 16777216
    → take fault.line (input_lines bytes) ≡ take fault.line (input_lines other) → fault_of bytes limits ≡ Some fault → fault_of other limits ≡ Some fault

-- ---- comments and blank lines

-- no words, or a first word that begins a comment
abbrev pub are_quiet : List (List ℕ) → Bool
are_quiet [] = true
are_quiet (word ∷ words) = is_comment word

-- a blank line or a comment, among the first 200,000
abbrev pub is_quiet : ℕ × List ℕ → Bool
is_quiet (number, line) = nat_le number 200000 && is_utf8 line && are_quiet (line_words line)

-- the lines with their numbers, the first of which is this
abbrev pub numbered : ℕ → List (List ℕ) → List (ℕ × List ℕ)
numbered number [] = []
numbered number (line ∷ lines) = (number, line) ∷ numbered (number + 1) lines

-- what is known after lines that have these numbers, or the first fault
abbrev pub read_numbered : Context → List (ℕ × List ℕ) → Result Context ScriptErr
read_numbered c [] = Ok c
read_numbered c ((number, line) ∷ lines) = read_on number (after_numbered number c line) (λ next. read_numbered next lines)

-- Comments and blank lines do nothing but that they are counted: an input is what its other lines are, with the numbers that they have.
abbrev pub QuietLines : Type 0
QuietLines = (bytes : List ℕ) (limits : Limits) → length bytes ≤ 16777216
    → outcome_of bytes limits ≡ script_of_lines (read_numbered (start limits) (filter (λ l. not (is_quiet l)) (numbered 1 (input_lines bytes))))

-- ---- where a variable is bound

-- the lane does something that binds this name
abbrev pub is_bound_by : List ℕ → Binds → Bool
is_bound_by name binds.Nothing = false
is_bound_by name (binds.Var var) = bytes_eq name var
is_bound_by name (binds.Weak weak) = false
is_bound_by name (binds.Members members) = list_any (λ m. bytes_eq name m.0) members

abbrev pub binds_name : List ℕ → Does → Bool
binds_name name what = is_bound_by name what.binds

-- it closes its frame
abbrev pub is_close : Does → Bool
is_close what = closes (frame_of what.verb)

-- a line by which this lane does such a thing
abbrev pub says_of : ℕ → (Does → Bool) → Result Said Cause → Bool
says_of lane such (Ok (said.Lane (Some number) what)) = number == lane && such what
says_of lane such _ = false

abbrev pub line_of : ℕ → (Does → Bool) → List ℕ → Bool
line_of lane such line = says_of lane such (said_by_line false line)

-- a line of the lane binds the name, and behind it none closes the lane's frame
pub record IsBoundBy (lane : ℕ) (name : List ℕ) (lines : List (List ℕ)) : Type 0 where
  pub front : List (List ℕ)
  pub line : List ℕ
  pub behind : List (List ℕ)
  pub are : lines ≡ front ++ line ∷ behind
  pub binds : IsTrue (line_of lane (binds_name name) line)
  pub kept : IsTrue (list_all (λ l. not (line_of lane is_close l)) behind)

-- After lines that are read a variable is bound exactly where one of them binds it, and none behind that closes the lane's frame.
abbrev pub BoundByLines : Type 0
BoundByLines = (limits : Limits) (lines : List (List ℕ)) (c : Context) → read_from 1 (start limits) lines ≡ Ok c
    → (index : ℕ) (lane : LaneNames) → slice_get c.lanes index ≡ Some lane → (name : List ℕ) → IsTrue (is_some (bound_var lane name)) ↔ IsBoundBy index name lines

-- ---- where a weak variable is bound

-- the lane does something that binds this name as that of a weak variable
abbrev pub is_weak_by : List ℕ → Binds → Bool
is_weak_by name binds.Nothing = false
is_weak_by name (binds.Var var) = false
is_weak_by name (binds.Weak weak) = bytes_eq name weak
is_weak_by name (binds.Members members) = false

-- a line by which some lane does so
abbrev pub says_weak : List ℕ → Result Said Cause → Bool
says_weak name (Ok (said.Lane lane what)) = is_weak_by name what.binds
says_weak name _ = false

abbrev pub binds_weak : List ℕ → List ℕ → Bool
binds_weak name line = says_weak name (said_by_line false line)

-- After lines that are read a weak variable is bound exactly where one of them binds it, and it stays so.
abbrev pub WeakByLines : Type 0
WeakByLines = (limits : Limits) (lines : List (List ℕ)) (c : Context) → read_from 1 (start limits) lines ≡ Ok c
    → (name : List ℕ) → is_some (number_of_name c.tables.weaks name) ≡ list_any (binds_weak name) lines
