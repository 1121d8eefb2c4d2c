-- The commands of a lane: all that is said of one command.
use Rattle.std.specs.Prelude.{ℕ, List, [], ◌∷◌, codes, Option, Some, None, option_map, if◌then◌else◌}
use Rattle.std.specs.Str.{bytes_eq}
use Rattle.level_script.specs.Operands.{var_known, target_known, class_known, spot_known, switch_known, value_known, strong_known, index_known, weak_known, weak_target_known, members_known}
use Rattle.level_script.specs.declared.lane_cmd.LaneCmd.{LaneCmd}
use Rattle.level_script.specs.declared.lane_cmd.LaneCmd.TheVariants as lane_cmd
use Rattle.level_script.specs.declared.lane_cmd.Verb.{Verb}
use Rattle.level_script.specs.declared.lane_cmd.Verb.TheVariants as verb
use Rattle.level_script.specs.declared.operand.Form.TheVariants as form
use Rattle.level_script.specs.declared.operand.Frame.{Frame}
use Rattle.level_script.specs.declared.operand.Frame.TheVariants as frame
use Rattle.level_script.specs.declared.operand.Known.{Known}
use Rattle.level_script.specs.declared.operand.Known.TheVariants as known
use Rattle.level_script.specs.declared.operand.Tail.{Tail}
use Rattle.level_script.specs.declared.operand.Tail.TheVariants as tail

-- ---- in a line

-- the command of strong or weak pointers with this word
abbrev pub pointer_verb_of : List ℕ → Option Verb
pointer_verb_of word =
    if bytes_eq word (codes "store") then Some verb.Store
    else if bytes_eq word (codes "load") then Some verb.Load
    else if bytes_eq word (codes "hold") then Some verb.Hold
    else if bytes_eq word (codes "held") then Some verb.Held
    else if bytes_eq word (codes "weak") then Some verb.Weak
    else if bytes_eq word (codes "resolve") then Some verb.Resolve
    else if bytes_eq word (codes "forge") then Some verb.Forge
    else if bytes_eq word (codes "same") then Some verb.Same
    else None

-- the command with this word
abbrev pub verb_of : List ℕ → Option Verb
verb_of word =
    if bytes_eq word (codes "open") then Some verb.Open
    else if bytes_eq word (codes "close") then Some verb.Close
    else if bytes_eq word (codes "new") then Some verb.New
    else if bytes_eq word (codes "cluster") then Some verb.Cluster
    else if bytes_eq word (codes "root") then Some verb.Root
    else if bytes_eq word (codes "set") then Some verb.Set
    else if bytes_eq word (codes "get") then Some verb.Get
    else if bytes_eq word (codes "put") then Some verb.Put
    else if bytes_eq word (codes "take") then Some verb.Take
    else if bytes_eq word (codes "print") then Some verb.Print
    else pointer_verb_of word

-- what words follow: `new V CLASS`, `cluster V:CLASS ...`, `root V on` and `root V off`, `set SPOT V` and `set SPOT none`, `get V SPOT`, `put SPOT N`, `take SPOT`, `print V`,
-- `store SPOT W` and `store SPOT none`, `load W SPOT`, `hold H V` and `hold H none`, `held V H`, `weak W V`, `resolve V W`, `forge W N`, `same W W2`
abbrev pub tail_of : Verb → Tail
tail_of verb.Open = tail.Alone
tail_of verb.Close = tail.Alone
tail_of verb.New = tail.Binds form.Class
tail_of verb.Cluster = tail.Members
tail_of verb.Root = tail.Two form.Var form.Switch
tail_of verb.Set = tail.Two form.Spot form.Target
tail_of verb.Get = tail.Binds form.Spot
tail_of verb.Put = tail.Two form.Spot form.Value
tail_of verb.Take = tail.One form.Spot
tail_of verb.Print = tail.One form.Var
tail_of verb.Store = tail.Two form.Spot form.WeakTarget
tail_of verb.Load = tail.BindsWeak form.Spot
tail_of verb.Hold = tail.Two form.Strong form.Target
tail_of verb.Held = tail.Binds form.Strong
tail_of verb.Weak = tail.BindsWeak form.Var
tail_of verb.Resolve = tail.Binds form.Weak
tail_of verb.Forge = tail.BindsWeak form.Index
tail_of verb.Same = tail.Two form.Weak form.Weak

-- what the command wants of the lane's frame, and does to it
abbrev pub frame_of : Verb → Frame
frame_of verb.Open = frame.Opens
frame_of verb.Close = frame.Closes
frame_of verb.Forge = frame.Anywhere
frame_of verb.Same = frame.Anywhere
frame_of _ = frame.Inside

-- ---- in a script

-- a command of two things, if both are there
abbrev pub of_both : {A B : Type 0} → (A → B → LaneCmd) → Option A → Option B → Option LaneCmd
of_both make None b = None
of_both make (Some a) None = None
of_both make (Some a) (Some b) = Some (make a b)

-- the same of a command of strong or weak pointers
abbrev pub pointer_command_of : Verb → Known → Known → Known → Option LaneCmd
pointer_command_of verb.Store binds first second = of_both lane_cmd.Store (spot_known first) (weak_target_known second)
pointer_command_of verb.Load binds first second = of_both lane_cmd.Load (weak_known binds) (spot_known first)
pointer_command_of verb.Hold binds first second = of_both lane_cmd.Hold (strong_known first) (target_known second)
pointer_command_of verb.Held binds first second = of_both lane_cmd.Held (var_known binds) (strong_known first)
pointer_command_of verb.Weak binds first second = of_both lane_cmd.Weak (weak_known binds) (var_known first)
pointer_command_of verb.Resolve binds first second = of_both lane_cmd.Resolve (var_known binds) (weak_known first)
pointer_command_of verb.Forge binds first second = of_both lane_cmd.Forge (weak_known binds) (index_known first)
pointer_command_of verb.Same binds first second = of_both lane_cmd.Same (weak_known first) (weak_known second)
pointer_command_of _ binds first second = None

-- the command where the words stand for these things: the variable or the members that it binds, and what the words behind that name
abbrev pub command_of : Verb → Known → Known → Known → Option LaneCmd
command_of verb.Open binds first second = Some lane_cmd.Open
command_of verb.Close binds first second = Some lane_cmd.Close
command_of verb.New binds first second = of_both lane_cmd.New (var_known binds) (class_known first)
command_of verb.Cluster binds first second = option_map lane_cmd.Cluster (members_known binds)
command_of verb.Root binds first second = of_both lane_cmd.Root (var_known first) (switch_known second)
command_of verb.Set binds first second = of_both lane_cmd.Set (spot_known first) (target_known second)
command_of verb.Get binds first second = of_both lane_cmd.Get (var_known binds) (spot_known first)
command_of verb.Put binds first second = of_both lane_cmd.Put (spot_known first) (value_known second)
command_of verb.Take binds first second = option_map lane_cmd.Take (spot_known first)
command_of verb.Print binds first second = option_map lane_cmd.Print (var_known first)
command_of verb binds first second = pointer_command_of verb binds first second

-- what the command wants of the lane's frame, and does to it
abbrev pub frame_by : LaneCmd → Frame
frame_by lane_cmd.Open = frame.Opens
frame_by lane_cmd.Close = frame.Closes
frame_by (lane_cmd.Forge weak index) = frame.Anywhere
frame_by (lane_cmd.Same left right) = frame.Anywhere
frame_by _ = frame.Inside

-- what the command names, which has to be there: variables of the lane, classes and elements of fields
abbrev pub named_by : LaneCmd → List Known
named_by lane_cmd.Open = []
named_by lane_cmd.Close = []
named_by (lane_cmd.New var class) = known.Var var ∷ known.Class class ∷ []
named_by (lane_cmd.Cluster members) = known.Members members ∷ []
named_by (lane_cmd.Root var on) = known.Var var ∷ []
named_by (lane_cmd.Set spot to) = known.Spot spot ∷ known.Target to ∷ []
named_by (lane_cmd.Get var spot) = known.Var var ∷ known.Spot spot ∷ []
named_by (lane_cmd.Put spot value) = known.Spot spot ∷ []
named_by (lane_cmd.Take spot) = known.Spot spot ∷ []
named_by (lane_cmd.Print var) = known.Var var ∷ []
named_by (lane_cmd.Store spot weak) = known.Spot spot ∷ []
named_by (lane_cmd.Load weak spot) = known.Spot spot ∷ []
named_by (lane_cmd.Hold h to) = known.Target to ∷ []
named_by (lane_cmd.Held var h) = known.Var var ∷ []
named_by (lane_cmd.Weak weak var) = known.Var var ∷ []
named_by (lane_cmd.Resolve var weak) = known.Var var ∷ []
named_by (lane_cmd.Forge weak index) = []
named_by (lane_cmd.Same left right) = []

-- the weak variables and strong pointers that it names, which have to be there too
abbrev pub beside_by : LaneCmd → List Known
beside_by (lane_cmd.Store spot weak) = known.WeakTarget weak ∷ []
beside_by (lane_cmd.Load weak spot) = known.Weak weak ∷ []
beside_by (lane_cmd.Hold h to) = known.Strong h ∷ []
beside_by (lane_cmd.Held var h) = known.Strong h ∷ []
beside_by (lane_cmd.Weak weak var) = known.Weak weak ∷ []
beside_by (lane_cmd.Resolve var weak) = known.Weak weak ∷ []
beside_by (lane_cmd.Forge weak index) = known.Weak weak ∷ []
beside_by (lane_cmd.Same left right) = known.Weak left ∷ known.Weak right ∷ []
beside_by _ = []
