-- The order of names, and the text of a reply.
use Rattle.std.specs.Prelude.{ℕ, ◌<◌, Bool, length, Option, Some, None, List, [], ◌∷◌, ◌++◌, codes, decimal, flat_map, if◌then◌else◌}
use Rattle.std.specs.Ordering.{nat_cmp, on, then_cmp, is_lt}
use Rattle.std.specs.declared.cmp.Ordering.{Ordering}
use Rattle.class_schema.specs.Class.{Class}
use Rattle.class_schema.specs.Ancestry.{class_at}
use Rattle.world_play.specs.Types.{Name, Phase, Idle, Marking, Gathering, Reply}
use Rattle.world_play.specs.Types.reply

-- the order of names: by lane, and then by count
abbrev pub name_cmp : Name → Name → Ordering
name_cmp = then_cmp (on (λ n. n.lane) nat_cmp) (on (λ n. n.count) nat_cmp)

-- one more name among names that are in order
abbrev pub with_name : Name → List Name → List Name
with_name n [] = n ∷ []
with_name n (m ∷ names) = if is_lt (name_cmp m n) then m ∷ with_name n names else n ∷ m ∷ names

-- names in their order
abbrev pub in_name_order : List Name → List Name
in_name_order [] = []
in_name_order (n ∷ names) = with_name n (in_name_order names)

abbrev pub phase_text : Phase → List ℕ
phase_text Idle = codes "idle"
phase_text Marking = codes "marking"
phase_text Gathering = codes "gathering"

-- a name, behind a space
abbrev pub name_text : Name → List ℕ
name_text n = codes " " ++ (decimal n.lane ++ (codes ":" ++ decimal n.count))

-- the names of a collection, if there are any
abbrev pub names_text : List Name → List ℕ
names_text [] = []
names_text (n ∷ names) = codes ":" ++ flat_map name_text (n ∷ names)

abbrev pub full_text : ℕ → ℕ → List Name → List ℕ
full_text removed left names = codes "gc full removed " ++ (decimal removed ++ (codes " left " ++ (decimal left ++ (names_text names ++ codes "\n"))))

-- an object or none, as it is told
abbrev pub object_text : Option Name → List ℕ
object_text None = codes "none"
object_text (Some n) = decimal n.lane ++ (codes ":" ++ decimal n.count)

-- whether there is a weak pointer, as it is told
abbrev pub weak_text : Bool → List ℕ
weak_text there = if there then codes "weak" else codes "none"

-- a reply that tells a class tells one of these
abbrev pub HasText : List Class → Reply → Type 0
HasText classes (reply.Object lane n class) = class.0 < length classes
HasText classes _ = Unit {0}

-- the line of a reply, in a script with these classes
abbrev pub text_of : List Class → Reply → List ℕ
text_of classes (reply.Opened lane phase) = decimal lane ++ (codes " open " ++ (phase_text phase ++ codes "\n"))
text_of classes (reply.Closed lane) = decimal lane ++ codes " close\n"
text_of classes (reply.New lane n) = decimal lane ++ (codes " new " ++ (decimal n.lane ++ (codes ":" ++ (decimal n.count ++ codes "\n"))))
text_of classes (reply.Cluster lane n count) = decimal lane ++ (codes " cluster " ++ (decimal n.lane ++ (codes ":" ++ (decimal n.count ++ (codes " " ++ (decimal count ++ codes "\n"))))))
text_of classes (reply.Full lane free) = decimal lane ++ (codes " full " ++ (decimal free ++ codes "\n"))
text_of classes (reply.NamesSpent lane left) = decimal lane ++ (codes " names spent " ++ (decimal left ++ codes "\n"))
text_of classes (reply.WasRoot lane was) = decimal lane ++ (codes " was " ++ ((if was then codes "on" else codes "off") ++ codes "\n"))
text_of classes (reply.Was lane old) = decimal lane ++ (codes " was " ++ (object_text old ++ codes "\n"))
text_of classes (reply.WasNumber lane old) = decimal lane ++ (codes " was " ++ (decimal old ++ codes "\n"))
text_of classes (reply.Is lane got) = decimal lane ++ (codes " is " ++ (object_text got ++ codes "\n"))
text_of classes (reply.IsNumber lane got) = decimal lane ++ (codes " is " ++ (decimal got ++ codes "\n"))
text_of classes (reply.WasWeak lane was) = decimal lane ++ (codes " was " ++ (weak_text was ++ codes "\n"))
text_of classes (reply.IsWeak lane is) = decimal lane ++ (codes " is " ++ (weak_text is ++ codes "\n"))
text_of classes (reply.WeakMade lane n) = decimal lane ++ (codes " weak " ++ (object_text (Some n) ++ codes "\n"))
text_of classes (reply.SerialsSpent lane made) = decimal lane ++ (codes " serials spent " ++ (decimal made ++ codes "\n"))
text_of classes (reply.Forged lane) = decimal lane ++ codes " forged\n"
text_of classes (reply.Same lane same) = decimal lane ++ (codes " same " ++ ((if same then codes "yes" else codes "no") ++ codes "\n"))
text_of classes (reply.Object lane n class) = decimal lane ++ (codes " object " ++ (decimal n.lane ++ (codes ":" ++ (decimal n.count ++ (codes " " ++ ((class_at classes class).name ++ codes "\n"))))))
text_of classes (reply.NoObject lane) = decimal lane ++ codes " none\n"
text_of classes (reply.NoField lane) = decimal lane ++ codes " no field\n"
text_of classes (reply.WrongKind lane) = decimal lane ++ codes " wrong kind\n"
text_of classes (reply.NoElement lane) = decimal lane ++ codes " no element\n"
text_of classes (reply.WrongClass lane) = decimal lane ++ codes " wrong class\n"
text_of classes (reply.Running phase) = codes "gc running " ++ (phase_text phase ++ codes "\n")
text_of classes (reply.Purging left) = codes "gc purging " ++ (decimal left ++ codes "\n")
text_of classes (reply.Pending frames) = codes "gc pending frames " ++ (decimal frames ++ codes "\n")
text_of classes (reply.FullGc removed left names) = full_text removed left names
