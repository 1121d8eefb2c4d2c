-- The grammar of a line: what its words say, or what is wrong with them.
use Rattle.std.specs.Prelude.{ℕ, Bool, true, false, List, [], ◌∷◌, codes, Option, Some, None, option_map, Result, Ok, Err, if◌then◌else◌}
use Rattle.std.specs.Str.{bytes_eq, is_utf8}
use Rattle.level_script.specs.Lines.{line_words, is_none}
use Rattle.level_script.specs.Forms.{identifier_of, variable_of, is_digits, number_of, is_comment}
use Rattle.level_script.specs.Members.{members_of}
use Rattle.level_script.specs.LaneCommands.{verb_of, tail_of}
use Rattle.level_script.specs.Operands.{operand_of}
use Rattle.level_script.specs.declared.cause.Cause.{Cause}
use Rattle.level_script.specs.declared.cause.Cause.TheVariants as cause
use Rattle.level_script.specs.declared.said.Said.{Said}
use Rattle.level_script.specs.declared.said.Said.TheVariants as said
use Rattle.level_script.specs.declared.said.Does.{Does}
use Rattle.level_script.specs.declared.said.FieldOf.{FieldOf}
use Rattle.level_script.specs.declared.said.FieldOf.TheVariants as of
use Rattle.level_script.specs.declared.lane_cmd.Verb.{Verb}
use Rattle.level_script.specs.declared.operand.Binds.{Binds}
use Rattle.level_script.specs.declared.operand.Binds.TheVariants as binds
use Rattle.level_script.specs.declared.operand.Form.{Form}
use Rattle.level_script.specs.declared.operand.Operand.{Operand}
use Rattle.level_script.specs.declared.operand.Operand.TheVariants as operand
use Rattle.level_script.specs.declared.operand.Tail.{Tail}
use Rattle.level_script.specs.declared.operand.Tail.TheVariants as tail

-- ---- words

-- the words, where they are two
abbrev pub pair_of : List (List ℕ) → Option (List ℕ × List ℕ)
pair_of [] = None
pair_of (a ∷ []) = None
pair_of (a ∷ b ∷ []) = Some (a, b)
pair_of (a ∷ b ∷ c ∷ words) = None

-- a command that no word follows
abbrev pub alone : {A : Type 0} → A → List (List ℕ) → Result A Cause
alone command words = if is_none words then Ok command else Err cause.Words

-- ---- the header

-- the names of a class and its parent, if both are identifiers
abbrev pub class_names : Option (List ℕ) → Option (List ℕ) → Result Said Cause
class_names None parent = Err cause.Words
class_names (Some name) None = Err cause.Words
class_names (Some name) (Some parent) = Ok (said.Class name parent)

-- the two words after `class`
abbrev pub class_told : Option (List ℕ × List ℕ) → Result Said Cause
class_told None = Err cause.Words
class_told (Some (name, parent)) = class_names (identifier_of name) (identifier_of parent)

-- `class NAME PARENT`, which the header alone may have
abbrev pub class_line : Bool → List (List ℕ) → Result Said Cause
class_line false words = Err cause.UnknownCommand
class_line true words = class_told (pair_of words)

-- the number of elements at the end of a line, where it says one
abbrev pub count_of : List (List ℕ) → Result (Option (Option ℕ)) Cause
count_of [] = Ok None
count_of (word ∷ []) = if is_digits word then Ok (Some (number_of word)) else Err cause.Words
count_of (word ∷ next ∷ words) = Err cause.Words

-- references to objects of a class, and the words behind it
abbrev pub ref_names : Option (List ℕ) → List (List ℕ) → Option (FieldOf × List (List ℕ))
ref_names None words = None
ref_names (Some class) words = Some (of.Ref class, words)

abbrev pub ref_told : List (List ℕ) → Option (FieldOf × List (List ℕ))
ref_told [] = None
ref_told (class ∷ words) = ref_names (identifier_of class) words

-- what the elements of a field are, and the words behind that
abbrev pub field_of : List (List ℕ) → Option (FieldOf × List (List ℕ))
field_of [] = None
field_of (word ∷ words) =
    if bytes_eq word (codes "ref") then ref_told words
    else if bytes_eq word (codes "weak") then Some (of.Weak, words)
    else if bytes_eq word (codes "int") then Some (of.Int, words)
    else None

-- two identifiers, and the words behind them
abbrev pub both_names : Option (List ℕ) → Option (List ℕ) → List (List ℕ) → Option (List ℕ × List ℕ × List (List ℕ))
both_names None name words = None
both_names (Some class) None words = None
both_names (Some class) (Some name) words = Some (class, name, words)

abbrev pub two_names : List (List ℕ) → Option (List ℕ × List ℕ × List (List ℕ))
two_names [] = None
two_names (class ∷ []) = None
two_names (class ∷ name ∷ words) = both_names (identifier_of class) (identifier_of name) words

-- a field of so many elements
abbrev pub field_said : List ℕ → List ℕ → FieldOf → Result (Option (Option ℕ)) Cause → Result Said Cause
field_said class name what (Ok count) = Ok (said.Field class name what count)
field_said class name what (Err why) = Err why

abbrev pub field_elements : List ℕ → List ℕ → Option (FieldOf × List (List ℕ)) → Result Said Cause
field_elements class name None = Err cause.Words
field_elements class name (Some (what, words)) = field_said class name what (count_of words)

abbrev pub field_told : Option (List ℕ × List ℕ × List (List ℕ)) → Result Said Cause
field_told None = Err cause.Words
field_told (Some (class, name, words)) = field_elements class name (field_of words)

-- `field CLASS NAME ref CLASS2 [COUNT]`, `field CLASS NAME weak [COUNT]`, `field CLASS NAME int [COUNT]`, which the header alone may have
abbrev pub field_line : Bool → List (List ℕ) → Result Said Cause
field_line false words = Err cause.UnknownCommand
field_line true words = field_told (two_names words)

-- ---- the collector

-- `gc full`
abbrev pub collector_line : List (List ℕ) → Result Said Cause
collector_line [] = Err cause.UnknownCommand
collector_line (word ∷ words) = if bytes_eq word (codes "full") then alone said.Full words else Err cause.UnknownCommand

-- ---- lanes

-- the one word, where there is no other
abbrev pub only_of : List (List ℕ) → Option (List ℕ)
only_of [] = None
only_of (word ∷ []) = Some word
only_of (word ∷ next ∷ words) = None

-- a command that names nothing
abbrev pub does_alone : Verb → Does
does_alone verb = record { verb = verb; binds = binds.Nothing; first = operand.Nothing; second = operand.Nothing }

-- a command, and what the word behind it says, if it has the form
abbrev pub does_one : Verb → Form → Option (List ℕ) → Option Does
does_one verb form None = None
does_one verb form (Some word) = option_map (λ first. record { verb = verb; binds = binds.Nothing; first = first; second = operand.Nothing }) (operand_of form word)

-- the same of two words
abbrev pub does_parts : Verb → Option Operand → Option Operand → Option Does
does_parts verb None second = None
does_parts verb (Some first) None = None
does_parts verb (Some first) (Some second) = Some (record { verb = verb; binds = binds.Nothing; first = first; second = second })

abbrev pub does_two : Verb → Form → Form → Option (List ℕ × List ℕ) → Option Does
does_two verb one two None = None
does_two verb one two (Some (first, second)) = does_parts verb (operand_of one first) (operand_of two second)

-- the same of a variable that is bound, and a word
abbrev pub does_bound : Verb → Option Binds → Option Operand → Option Does
does_bound verb None first = None
does_bound verb (Some var) None = None
does_bound verb (Some var) (Some first) = Some (record { verb = verb; binds = var; first = first; second = operand.Nothing })

abbrev pub does_binds : Verb → (List ℕ → Binds) → Form → Option (List ℕ × List ℕ) → Option Does
does_binds verb binds form None = None
does_binds verb binds form (Some (var, first)) = does_bound verb (option_map binds (variable_of var)) (operand_of form first)

-- a command that binds the variables of members
abbrev pub does_members : Verb → Option (List (List ℕ × List ℕ)) → Option Does
does_members verb members = option_map (λ ms. record { verb = verb; binds = binds.Members ms; first = operand.Nothing; second = operand.Nothing }) members

-- what a lane does by a command, if the words behind it are those that follow it
abbrev pub does_of : Verb → Tail → List (List ℕ) → Option Does
does_of verb tail.Alone words = if is_none words then Some (does_alone verb) else None
does_of verb (tail.One form) words = does_one verb form (only_of words)
does_of verb (tail.Two one two) words = does_two verb one two (pair_of words)
does_of verb (tail.Binds form) words = does_binds verb binds.Var form (pair_of words)
does_of verb (tail.BindsWeak form) words = does_binds verb binds.Weak form (pair_of words)
does_of verb tail.Members words = does_members verb (members_of words)

-- other words are a fault
abbrev pub or_words : Option Does → Result Does Cause
or_words None = Err cause.Words
or_words (Some what) = Ok what

abbrev pub by_verb : Option Verb → List (List ℕ) → Result Does Cause
by_verb None words = Err cause.UnknownCommand
by_verb (Some verb) words = or_words (does_of verb (tail_of verb) words)

-- what stands after a lane
abbrev pub lane_command : List ℕ → List (List ℕ) → Result Does Cause
lane_command word words = by_verb (verb_of word) words

-- what a lane does
abbrev pub of_lane : Option ℕ → Result Does Cause → Result Said Cause
of_lane lane (Ok what) = Ok (said.Lane lane what)
of_lane lane (Err why) = Err why

-- a line that begins with a lane
abbrev pub lane_line : Option ℕ → List (List ℕ) → Result Said Cause
lane_line lane [] = Err cause.UnknownCommand
lane_line lane (word ∷ words) = of_lane lane (lane_command word words)

-- ---- whole lines

-- what the words of a line say, in the header or after it
abbrev pub said_by_words : Bool → List (List ℕ) → Result Said Cause
said_by_words in_header [] = Ok said.Nothing
said_by_words in_header (word ∷ words) =
    if is_comment word then Ok said.Nothing
    else if bytes_eq word (codes "class") then class_line in_header words
    else if bytes_eq word (codes "field") then field_line in_header words
    else if bytes_eq word (codes "gc") then collector_line words
    else if is_digits word then lane_line (number_of word) words
    else Err cause.UnknownCommand

-- what a line says
abbrev pub said_by_line : Bool → List ℕ → Result Said Cause
said_by_line in_header line = if is_utf8 line then said_by_words in_header (line_words line) else Err cause.Utf8
