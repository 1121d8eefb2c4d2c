-- The names of classes are identifiers.
use Rattle.std.proofs.Common.{◌≡◌, ℕ, ◌≤◌, List, [], ◌∷◌, refl, subst, ap, ◌∙◌, Bool, true, false, ◌&&◌, ◌||◌, cond, length, Option, Some, None, option_map, Result, Ok, Err, codes}
use Rattle.std.specs.Prelude.{nat_lt}
use Rattle.std.specs.List.{list_all}
use Rattle.std.specs.Str.{bytes_eq, is_utf8}
use Rattle.std.specs.Char.{is_ascii_alphabetic, is_ascii_digit}
use Rattle.level_script.specs.Commands.{pair_of, alone, class_names, class_told, class_line, count_of, field_of, two_names, field_said, field_elements, field_told, field_line, collector_line, only_of, does_alone, does_one, does_parts, does_two, does_bound, does_binds, does_members, does_of, or_words, by_verb, of_lane, lane_line, said_by_words, said_by_line}
use Rattle.level_script.specs.Forms.{begins_identifier, continues_identifier, is_identifier, identifier_of, variable_of, is_digits, number_of, is_comment}
use Rattle.level_script.specs.LaneCommands.{verb_of, tail_of}
use Rattle.level_script.specs.Lines.{line_words, is_none}
use Rattle.level_script.specs.Members.{members_of}
use Rattle.level_script.specs.Operands.{operand_of}
use Rattle.level_script.specs.declared.lane_cmd.Verb.{Verb}
use Rattle.level_script.specs.declared.operand.Binds.{Binds}
use Rattle.level_script.specs.declared.operand.Binds.TheVariants as binds
use Rattle.level_script.specs.declared.operand.Form.{Form}
use Rattle.level_script.specs.declared.operand.Operand.{Operand}
use Rattle.level_script.specs.declared.operand.Operand.TheVariants as operand
use Rattle.level_script.specs.declared.operand.Tail.{Tail}
use Rattle.level_script.specs.declared.operand.Tail.TheVariants as tail
use Rattle.level_script.specs.declared.cause.Cause.{Cause}
use Rattle.level_script.specs.declared.cause.Cause.TheVariants as cause
use Rattle.level_script.specs.declared.said.Does.{Does}
use Rattle.level_script.specs.declared.said.FieldOf.{FieldOf}
use Rattle.level_script.specs.declared.said.Said.{Said}
use Rattle.level_script.specs.declared.said.Said.TheVariants as said
use Rattle.level_script.proofs.Clusters.{written_count}

-- ---- bytes of identifiers

-- two tests that hold together
both : (a b : Bool) → (a && b) ≡ true → (a ≡ true) × (b ≡ true)
both true b h = (refl, h)
both false b h = absurd (cc)

-- one of two is one of three
one_of_more : (a b c : Bool) → (a || c) ≡ true → (a || b || c) ≡ true
one_of_more true b c h = refl
one_of_more false true c h = refl
one_of_more false false c h = h

-- what begins an identifier continues one
begins_continues : (b : ℕ) → begins_identifier b ≡ true → continues_identifier b ≡ true
begins_continues b h = one_of_more (is_ascii_alphabetic b) (is_ascii_digit b) _ h

-- each byte of an identifier continues one
pub identifier_bytes : (word : List ℕ) → is_identifier word ≡ true → list_all continues_identifier word ≡ true
identifier_bytes [] h = absurd (cc)
identifier_bytes (b ∷ bs) h =
    let parts = both (begins_identifier b && list_all continues_identifier bs) (nat_lt (length bs) 64) h in
    let fronts = both (begins_identifier b) (list_all continues_identifier bs) parts.0 in
    ap (λ t. t && list_all continues_identifier bs) (begins_continues b fronts.0) ∙ fronts.1

-- ---- what a line says

-- the members that are bound are 1 to 1,024
abbrev pub Written : Binds → Type 0
Written (binds.Members members) = (1 ≤ length members) × (length members ≤ 1024)
Written _ = Unit {0}

-- a class that is told has an identifier as its name, and a cluster has members, but not too many
abbrev pub SaysName : Said → Type 0
SaysName said.Nothing = Unit {0}
SaysName (said.Class name parent) = is_identifier name ≡ true
SaysName (said.Field class name what count) = Unit {0}
SaysName said.Full = Unit {0}
SaysName (said.Lane lane does) = Written does.binds

-- the same of a line that may be wrong
abbrev pub SaysNameIfOk : Result Said Cause → Type 0
SaysNameIfOk (Ok what) = SaysName what
SaysNameIfOk (Err why) = Unit {0}

-- one of two
either : (b : Bool) (r s : Result Said Cause) → SaysNameIfOk r → SaysNameIfOk s → SaysNameIfOk (cond b r s)
either true r s h k = h
either false r s h k = k

-- an identifier is one
identifier_is : (b : Bool) (word name : List ℕ) → is_identifier word ≡ b → cond b (Some word) None ≡ Some name → is_identifier name ≡ true
identifier_is false word name is e = absurd (cc)
identifier_is true word name is e = let same : word ≡ name = cc in subst (λ (w : List ℕ). is_identifier w ≡ true) same is

names_say : (o p : Option (List ℕ)) → ((name : List ℕ) → o ≡ Some name → is_identifier name ≡ true) → SaysNameIfOk (class_names o p)
names_say None p is = tt
names_say (Some name) None is = tt
names_say (Some name) (Some parent) is = is name refl

class_told_says : (o : Option (List ℕ × List ℕ)) → SaysNameIfOk (class_told o)
class_told_says None = tt
class_told_says (Some (word, parent)) = names_say (identifier_of word) (identifier_of parent) (λ name e. identifier_is (is_identifier word) word name refl e)

class_says : (in_header : Bool) (words : List (List ℕ)) → SaysNameIfOk (class_line in_header words)
class_says false words = tt
class_says true words = class_told_says (pair_of words)

field_said_says : (class name : List ℕ) (what : FieldOf) (r : Result (Option (Option ℕ)) Cause) → SaysNameIfOk (field_said class name what r)
field_said_says class name what (Ok count) = tt
field_said_says class name what (Err why) = tt

field_elements_say : (class name : List ℕ) (o : Option (FieldOf × List (List ℕ))) → SaysNameIfOk (field_elements class name o)
field_elements_say class name None = tt
field_elements_say class name (Some (what, words)) = field_said_says class name what (count_of words)

field_told_says : (o : Option (List ℕ × List ℕ × List (List ℕ))) → SaysNameIfOk (field_told o)
field_told_says None = tt
field_told_says (Some (class, name, words)) = field_elements_say class name (field_of words)

field_says : (in_header : Bool) (words : List (List ℕ)) → SaysNameIfOk (field_line in_header words)
field_says false words = tt
field_says true words = field_told_says (two_names words)

full_says : (words : List (List ℕ)) → SaysNameIfOk (collector_line words)
full_says [] = tt
full_says (word ∷ words) = either (bytes_eq word (codes "full")) (alone said.Full words) (Err cause.UnknownCommand) (either (is_none words) (Ok said.Full) (Err cause.Words) tt tt) tt

-- what a lane does binds members of the right number
abbrev DoesWritten : Option Does → Type 0
DoesWritten None = Unit {0}
DoesWritten (Some does) = Written does.binds

alone_written : (verb : Verb) (b : Bool) → DoesWritten (cond b (Some (does_alone verb)) None)
alone_written verb true = tt
alone_written verb false = tt

one_written : (verb : Verb) (form : Form) (o : Option (List ℕ)) → DoesWritten (does_one verb form o)
one_written verb form None = tt
one_written verb form (Some word) = go (operand_of form word)
  where
    go : (o : Option Operand) → DoesWritten (option_map (λ first. record { verb = verb; binds = binds.Nothing; first = first; second = operand.Nothing }) o)
    go None = tt
    go (Some first) = tt

parts_written : (verb : Verb) (o p : Option Operand) → DoesWritten (does_parts verb o p)
parts_written verb None p = tt
parts_written verb (Some first) None = tt
parts_written verb (Some first) (Some second) = tt

two_written : (verb : Verb) (one two : Form) (o : Option (List ℕ × List ℕ)) → DoesWritten (does_two verb one two o)
two_written verb one two None = tt
two_written verb one two (Some (first, second)) = parts_written verb (operand_of one first) (operand_of two second)

bound_written : (verb : Verb) (bind : List ℕ → Binds) → ((name : List ℕ) → Written (bind name)) → (o : Option (List ℕ)) (p : Option Operand) → DoesWritten (does_bound verb (option_map bind o) p)
bound_written verb bind each None p = tt
bound_written verb bind each (Some name) None = tt
bound_written verb bind each (Some name) (Some first) = each name

binds_written : (verb : Verb) (bind : List ℕ → Binds) → ((name : List ℕ) → Written (bind name)) → (form : Form) (o : Option (List ℕ × List ℕ)) → DoesWritten (does_binds verb bind form o)
binds_written verb bind each form None = tt
binds_written verb bind each form (Some (var, first)) = bound_written verb bind each (variable_of var) (operand_of form first)

members_written : (verb : Verb) (words : List (List ℕ)) (o : Option (List (List ℕ × List ℕ))) → members_of words ≡ o → DoesWritten (does_members verb o)
members_written verb words None is = tt
members_written verb words (Some members) is = written_count words members is

does_written : (verb : Verb) (t : Tail) (words : List (List ℕ)) → DoesWritten (does_of verb t words)
does_written verb tail.Alone words = alone_written verb (is_none words)
does_written verb (tail.One form) words = one_written verb form (only_of words)
does_written verb (tail.Two one two) words = two_written verb one two (pair_of words)
does_written verb (tail.Binds form) words = binds_written verb binds.Var (λ name. tt) form (pair_of words)
does_written verb (tail.BindsWeak form) words = binds_written verb binds.Weak (λ name. tt) form (pair_of words)
does_written verb tail.Members words = members_written verb words (members_of words) refl

of_lane_says : (lane : Option ℕ) (o : Option Does) → DoesWritten o → SaysNameIfOk (of_lane lane (or_words o))
of_lane_says lane (Some what) h = h
of_lane_says lane None h = tt

by_verb_says : (lane : Option ℕ) (o : Option Verb) (words : List (List ℕ)) → SaysNameIfOk (of_lane lane (by_verb o words))
by_verb_says lane None words = tt
by_verb_says lane (Some verb) words = of_lane_says lane (does_of verb (tail_of verb) words) (does_written verb (tail_of verb) words)

lane_says : (lane : Option ℕ) (words : List (List ℕ)) → SaysNameIfOk (lane_line lane words)
lane_says lane [] = tt
lane_says lane (word ∷ words) = by_verb_says lane (verb_of word) words

words_say : (in_header : Bool) (words : List (List ℕ)) → SaysNameIfOk (said_by_words in_header words)
words_say in_header [] = tt
words_say in_header (word ∷ words) =
    either (is_comment word) _ _ tt
    (either (bytes_eq word (codes "class")) _ _ (class_says in_header words)
    (either (bytes_eq word (codes "field")) _ _ (field_says in_header words)
    (either (bytes_eq word (codes "gc")) _ _ (full_says words)
    (either (is_digits word) _ _ (lane_says (number_of word) words) tt))))

-- each line says an identifier as the name of a class, and 1 to 1,024 members
pub line_says : (in_header : Bool) (line : List ℕ) → SaysNameIfOk (said_by_line in_header line)
line_says in_header line = either (is_utf8 line) (said_by_words in_header (line_words line)) (Err cause.Utf8) (words_say in_header (line_words line)) tt
