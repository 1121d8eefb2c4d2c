-- What a spot stands for: a cell of an object, or why there is none.
use Rattle.std.specs.Prelude.{ℕ, ◌+◌, ◌-◌, nat_lt, Bool, true, false, List, Option, Some, None, option_and_then, Result, Ok, Err, slice_get, if◌then◌else◌}
use Rattle.class_schema.specs.Layout.{is_ref}
use Rattle.class_schema.specs.Ancestry.{is_a}
use Rattle.class_schema.specs.Table.{find_field}
use Rattle.world_play.specs.Types.{Name, ClassId, Kind, Reply, Spot, Field, FieldKind}
use Rattle.world_play.specs.Types.reply
use Rattle.world_play.specs.Types.field
use Rattle.world_play.specs.Header.{Header}

-- the kinds of the objects that each lane has made, in order
abbrev pub Kinds : Type 0
Kinds = ℕ → List Kind

-- the kind of an object
abbrev pub kind_at : Kinds → Name → Option Kind
kind_at kinds n = slice_get (kinds n.lane) (n.count - 1)

-- the field of this name that an object of this kind has
abbrev pub field_of : Header → Option Kind → Option (List ℕ) → Option Field
field_of h None name = None
field_of h (Some kind) None = None
field_of h (Some kind) (Some name) = find_field h.classes kind.class name

-- an element of a field of an object
pub record Element : Type 0 where
  pub at : Name
  pub slot : ℕ
  pub kind : FieldKind

-- the elements are numbers
abbrev pub is_int : FieldKind → Bool
is_int (field.Ref class) = false
is_int field.Weak = false
is_int field.Int = true

-- the elements are weak pointers
abbrev pub is_weak : FieldKind → Bool
is_weak (field.Ref class) = false
is_weak field.Weak = true
is_weak field.Int = false

-- the slot of an element: references go upwards, and all else downwards
abbrev pub slot_at : Field → ℕ → ℕ
slot_at f element = if is_ref f.kind then f.first + element else f.first - element

-- the element of a field, if its kind is wanted and it has so many
abbrev pub element_at : ℕ → Name → (FieldKind → Bool) → Option Field → ℕ → Result Element Reply
element_at lane at wanted None element = Err (reply.NoField lane)
element_at lane at wanted (Some f) element =
    if wanted f.kind then (if nat_lt element f.count then Ok (record { at = at; slot = slot_at f element; kind = f.kind }) else Err (reply.NoElement lane))
    else Err (reply.WrongKind lane)

-- the element that a spot stands for, where its variable stands for this object; or the refusal, in this order: no object, no field, a wrong kind, no element
abbrev pub spot_at : Header → Kinds → ℕ → (FieldKind → Bool) → Option Name → Spot → Result Element Reply
spot_at h kinds lane wanted None spot = Err (reply.NoObject lane)
spot_at h kinds lane wanted (Some at) spot = element_at lane at wanted (field_of h (kind_at kinds at) (slice_get h.fields spot.field)) spot.element

-- an object of this kind is of a class, or descends from it
abbrev pub is_of : Header → Option Kind → ClassId → Bool
is_of h None class = false
is_of h (Some kind) class = is_a h.classes.classes kind.class class

-- an element may refer to an object of its class, and to none
abbrev pub may_refer : Header → Kinds → FieldKind → Option Name → Bool
may_refer h kinds (field.Ref class) None = true
may_refer h kinds (field.Ref class) (Some to) = is_of h (kind_at kinds to) class
may_refer h kinds field.Weak to = false
may_refer h kinds field.Int to = false

-- the element in which an object is stored; the last refusal is a wrong class
abbrev pub target_at : Header → Kinds → ℕ → Option Name → Result Element Reply → Result Element Reply
target_at h kinds lane to (Err r) = Err r
target_at h kinds lane to (Ok e) = if may_refer h kinds e.kind to then Ok e else Err (reply.WrongClass lane)

-- ---- by the bindings of a lane

-- the object that each variable of a lane stands for
abbrev pub Own : Type 0
Own = ℕ → Option Name

-- the object of the value of `set` and `hold`: none for a variable that stands for none
abbrev pub value_of : Own → Option ℕ → Option Name
value_of names to = option_and_then names to

abbrev pub set_spot : Header → Kinds → ℕ → Own → Spot → Option ℕ → Result Element Reply
set_spot h kinds lane names spot to = target_at h kinds lane (value_of names to) (spot_at h kinds lane is_ref (names spot.var) spot)

abbrev pub get_spot : Header → Kinds → ℕ → Own → Spot → Result Element Reply
get_spot h kinds lane names spot = spot_at h kinds lane is_ref (names spot.var) spot

abbrev pub int_spot : Header → Kinds → ℕ → Own → Spot → Result Element Reply
int_spot h kinds lane names spot = spot_at h kinds lane is_int (names spot.var) spot

abbrev pub weak_spot : Header → Kinds → ℕ → Own → Spot → Result Element Reply
weak_spot h kinds lane names spot = spot_at h kinds lane is_weak (names spot.var) spot

-- ---- what is told of an object

-- an object with its class
abbrev pub told_kind : ℕ → Name → Option Kind → Reply
told_kind lane at None = reply.NoObject lane
told_kind lane at (Some kind) = reply.Object lane at kind.class

abbrev pub told_object : Kinds → ℕ → Option Name → Reply
told_object kinds lane None = reply.NoObject lane
told_object kinds lane (Some at) = told_kind lane at (kind_at kinds at)
