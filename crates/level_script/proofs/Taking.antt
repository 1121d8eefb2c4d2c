-- What one more line adds.
use Rattle.std.proofs.Common.{◌≡◌, ℕ, ◌+◌, List, [], ◌∷◌, refl, sym, ap, ◌∙◌, length, Option, Some, None, Ok, Err, MatchOption}
use Rattle.std.specs.Prelude.{slice_get, slice_set}
use Rattle.level_script.specs.Lanes.{lane_step, lane_index, StepsAt}
use Rattle.level_script.specs.Context.{after_lane_line, lane_of, lane_at, with_lane, with_line, with_weak}
use Rattle.level_script.specs.Reading.{after_numbered, read_from, read_on, fault_at, TakesLine, ReadsLines}
use Rattle.level_script.specs.declared.cause.ParseErr.{ParseErr}
use Rattle.level_script.specs.declared.cause.ParseErr.TheVariants as parse
use Rattle.level_script.specs.declared.cause.Cause.{Cause}
use Rattle.level_script.specs.declared.context.Context.{Context}
use Rattle.level_script.specs.declared.lanes.LaneNames.{LaneNames}
use Rattle.level_script.specs.declared.operand.Binds.{Binds}
use Rattle.level_script.specs.declared.said.Does.{Does}
use Rattle.level_script.specs.declared.lane_cmd.LaneCmd.{LaneCmd}
use Rattle.level_script.specs.declared.script.Cmd.TheVariants as cmd

-- what a line of a lane leaves
abbrev after_lane : ℕ → Context → ℕ → Binds → List LaneNames → LaneCmd → Context
after_lane number c index what lanes command = with_line (record { tables = with_weak what c.tables; in_header = c.in_header; lanes = lanes; lines = c.lines }) number (cmd.Lane index command)

-- the same of a lane that is there
at_ok : (number : ℕ) (c : Context) (index : ℕ) (does : Does) (new : List LaneNames) (command : LaneCmd) (o : Option LaneNames) →
    MatchOption o ⊥ (λ lane. (left : LaneNames) × (new ≡ slice_set c.lanes index left) × (lane_step c.tables lane does ≡ Ok (left, command))) →
    lane_at number c index o does ≡ Ok (after_lane number c index does.binds new command)
at_ok number c index does new command None h = absurd h
at_ok number c index does new command (Some lane) (left, set, step) = ap (with_lane number c index does.binds) step ∙ (λ t. Ok (after_lane number c index does.binds (sym set t) command))

-- a lane that has done what it says makes the line
pub lane_ok : (number : ℕ) (c : Context) (lane : Option ℕ) (does : Does) (index : ℕ) (new : List LaneNames) (command : LaneCmd) →
    lane_index (length c.lanes) lane ≡ Some index → StepsAt c.tables c.lanes index does new (Ok command) →
    after_lane_line number c lane does ≡ Ok (after_lane number c index does.binds new command)
lane_ok number c lane does index new command found steps = ap (λ i. lane_of number c i does) found ∙ at_ok number c index does new command (slice_get c.lanes index) steps

-- ---- lines after one another

-- after the last line
pub read_none : (number : ℕ) (c : Context) → read_from number c [] ≡ Ok c
unfolding read_from
read_none number c = refl

-- after a line that is read
pub read_more : (number : ℕ) (c next : Context) (line : List ℕ) (lines : List (List ℕ)) → after_numbered number c line ≡ Ok next → read_from number c (line ∷ lines) ≡ read_from (number + 1) next lines
unfolding read_from
read_more number c next line lines e = ap (λ r. read_on number r (λ n. read_from (number + 1) n lines)) e

-- at a line with a cause
pub read_fault : (number : ℕ) (c : Context) (line : List ℕ) (lines : List (List ℕ)) (why : Cause) → after_numbered number c line ≡ Err why → read_from number c (line ∷ lines) ≡ Err (fault_at number why)
unfolding read_from
read_fault number c line lines why e = ap (λ r. read_on number r (λ n. read_from (number + 1) n lines)) e

-- a fault of the first line is that of the lines
pub reads_err : (A : Type 0) (number : ℕ) (c : Context) (line : List ℕ) (lines : List (List ℕ)) (new left : Context) (error : ParseErr)
    → TakesLine {A = A} (after_numbered number c line) number new (Err error) → ReadsLines {A = A} (read_from number c (line ∷ lines)) left (Err error)
reads_err A number c line lines new left (parse.Bad fault) (why, e, is) = read_fault number c line lines why e ∙ ap Err (sym is)
reads_err A number c line lines new left parse.Memory h = tt
