-- The words behind the word of a lane's command: their forms, what they say, and what that stands for.
use Rattle.std.specs.Prelude.{ℕ, ◌==◌, nat_lt, nat_le, Bool, true, false, not, ◌&&◌, List, map, length, codes, Option, Some, None, option_map, if◌then◌else◌}
use Rattle.std.specs.List.{list_all}
use Rattle.std.specs.Str.{bytes_eq}
use Rattle.world_model.specs.declared.kind.ClassId.{ClassId}
use Rattle.level_script.specs.Forms.{identifier_of, variable_of, is_digits, number_of, spot_of}
use Rattle.level_script.specs.Names.{all_differ}
use Rattle.level_script.specs.declared.lane_cmd.Member.{Member}
use Rattle.level_script.specs.declared.operand.Frame.{Frame}
use Rattle.level_script.specs.declared.operand.Frame.TheVariants as frame
use Rattle.level_script.specs.declared.operand.Form.{Form}
use Rattle.level_script.specs.declared.operand.Form.TheVariants as form
use Rattle.level_script.specs.declared.operand.Operand.{Operand}
use Rattle.level_script.specs.declared.operand.Operand.TheVariants as operand
use Rattle.level_script.specs.declared.operand.Known.{Known}
use Rattle.level_script.specs.declared.operand.Known.TheVariants as known
use Rattle.level_script.specs.declared.script.Spot.{Spot}

-- ---- frames

-- a command that does this to the frame may stand where the frame is so
abbrev pub allows : Frame → Bool → Bool
allows frame.Opens opened = not opened
allows frame.Closes opened = opened
allows frame.Inside opened = opened
allows frame.Anywhere opened = true

-- whether the frame is open after it
abbrev pub opened_by : Frame → Bool → Bool
opened_by frame.Opens was = true
opened_by frame.Closes was = false
opened_by frame.Inside was = was
opened_by frame.Anywhere was = was

abbrev pub closes : Frame → Bool
closes frame.Closes = true
closes _ = false

-- ---- what a word says

-- true for `on`, false for `off`
abbrev pub switch_of : List ℕ → Option Bool
switch_of word =
    if bytes_eq word (codes "on") then Some true
    else if bytes_eq word (codes "off") then Some false
    else None

-- the variable whose value is stored, or `none`
abbrev pub target_of : List ℕ → Option (Option (List ℕ))
target_of word = if bytes_eq word (codes "none") then Some None else option_map Some (identifier_of word)

-- the number that a word of digits says
abbrev pub digits_of : List ℕ → Option (Option ℕ)
digits_of word = if is_digits word then Some (number_of word) else None

-- what a word of this form says, if it has the form
abbrev pub operand_of : Form → List ℕ → Option Operand
operand_of form.Var word = option_map operand.Var (variable_of word)
operand_of form.Target word = option_map operand.Target (target_of word)
operand_of form.Class word = option_map operand.Class (identifier_of word)
operand_of form.Spot word = option_map operand.Spot (spot_of word)
operand_of form.Switch word = option_map operand.Switch (switch_of word)
operand_of form.Value word = option_map operand.Value (digits_of word)
operand_of form.Strong word = option_map operand.Strong (digits_of word)
operand_of form.Index word = option_map operand.Index (digits_of word)
operand_of form.Weak word = option_map operand.Weak (variable_of word)
operand_of form.WeakTarget word = option_map operand.WeakTarget (target_of word)

-- ---- numbers

-- a number below this one
abbrev pub below : ℕ → Option ℕ → Option ℕ
below most (Some number) = if nat_lt number most then Some number else None
below most None = None

-- the number of an element, or of an index, below 2^32
abbrev pub element_in : Option ℕ → Option ℕ
element_in number = below 4294967296 number

abbrev pub is_some : {A : Type 0} → Option A → Bool
is_some None = false
is_some (Some a) = true

-- the number that a word says is in its range, where a lane has so many strong pointers
abbrev pub is_in_range : ℕ → Operand → Bool
is_in_range strong (operand.Spot place) = is_some (element_in place.element)
is_in_range strong (operand.Value number) = is_some number
is_in_range strong (operand.Strong number) = is_some (below strong number)
is_in_range strong (operand.Index number) = is_some (element_in number)
is_in_range strong _ = true

-- ---- what a word stands for

abbrev pub var_known : Known → Option ℕ
var_known (known.Var var) = Some var
var_known _ = None

abbrev pub target_known : Known → Option (Option ℕ)
target_known (known.Target to) = Some to
target_known _ = None

abbrev pub class_known : Known → Option ClassId
class_known (known.Class class) = Some class
class_known _ = None

abbrev pub spot_known : Known → Option Spot
spot_known (known.Spot spot) = Some spot
spot_known _ = None

abbrev pub switch_known : Known → Option Bool
switch_known (known.Switch on) = Some on
switch_known _ = None

abbrev pub value_known : Known → Option ℕ
value_known (known.Value value) = Some value
value_known _ = None

abbrev pub strong_known : Known → Option ℕ
strong_known (known.Strong h) = Some h
strong_known _ = None

abbrev pub index_known : Known → Option ℕ
index_known (known.Index index) = Some index
index_known _ = None

abbrev pub weak_known : Known → Option ℕ
weak_known (known.Weak weak) = Some weak
weak_known _ = None

abbrev pub weak_target_known : Known → Option (Option ℕ)
weak_target_known (known.WeakTarget to) = Some to
weak_target_known _ = None

abbrev pub members_known : Known → Option (List Member)
members_known (known.Members members) = Some members
members_known _ = None

-- an element of one of so many variables, in a field with one of so many names
abbrev pub fits_spot : ℕ → ℕ → Spot → Bool
fits_spot vars fields spot = nat_lt spot.var vars && nat_lt spot.field fields

-- one of so many variables, or none
abbrev pub fits_target : ℕ → Option ℕ → Bool
fits_target vars None = true
fits_target vars (Some var) = nat_lt var vars

-- a member with one of so many variables, of one of so many classes
abbrev pub fits_member : ℕ → ℕ → Member → Bool
fits_member vars classes member = nat_lt member.var vars && nat_lt member.class.0 classes

-- the variables of members
abbrev pub vars_of : List Member → List ℕ
vars_of members = map (λ m. m.var) members

-- the members of a cluster: they are 1 to 1,024, and no two have one variable
abbrev pub fits_members : ℕ → ℕ → List Member → Bool
fits_members vars classes members =
    nat_le 1 (length members) && nat_le (length members) 1024 && list_all (fits_member vars classes) members && all_differ (λ a b. a == b) (vars_of members)

-- it is there, where there are so many variables, classes and names of fields
abbrev pub fits_known : ℕ → ℕ → ℕ → Known → Bool
fits_known vars classes fields (known.Var var) = nat_lt var vars
fits_known vars classes fields (known.Target to) = fits_target vars to
fits_known vars classes fields (known.Class class) = nat_lt class.0 classes
fits_known vars classes fields (known.Spot spot) = fits_spot vars fields spot
fits_known vars classes fields (known.Members members) = fits_members vars classes members
fits_known vars classes fields _ = true

-- the same of weak variables, which the whole script has, and of the strong pointers of a lane
abbrev pub fits_beside : ℕ → ℕ → Known → Bool
fits_beside weaks strong (known.Weak weak) = nat_lt weak weaks
fits_beside weaks strong (known.WeakTarget to) = fits_target weaks to
fits_beside weaks strong (known.Strong h) = nat_lt h strong
fits_beside weaks strong _ = true
