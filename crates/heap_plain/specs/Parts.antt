-- The vectors of a plain heap, and what contracts see of them.
use Rattle.std.specs.Prelude.{◌≡◌, ℕ, ◌+◌, ◌*◌, ◌<◌, Bool, true, false, List, length, get_or, unwrap_or, Option, Some, None}
use Rattle.std.proofs.Common.{ap, ◌∙◌}
use Rattle.heap_plain.specs.Types.{Name, Ref, ClassId, Kind, Entry, Phase, Marking}
use Rattle.heap_plain.specs.Types.ready
use Rattle.world_model.specs.Histories.{state_of}
use Rattle.world_model.specs.World.{Stage}
use Rattle.world_model.specs.World as world
use Rattle.world_model.specs.State as model
use Rattle.heap_plain.specs.Queue.{Queued}
use Rattle.heap_plain.specs.Serials.{Serials}
use Rattle.heap_plain.specs.Painted.{Painted}
use Rattle.heap_plain.specs.Stocked.{Stocked}
use Rattle.heap_plain.specs.declared.life.Life.{Life}
use Rattle.heap_plain.specs.declared.life.Life.TheVariants.{Free, Removed, Begun, Finished}

-- ---- what contracts see

-- the history, and the name at each index
pub record Shown : Type 0 where
  pub history : List Entry
  pub names : List (Option Name)

abbrev pub name_at : List (Option Name) → ℕ → Option Name
name_at names i = get_or names i None

-- the lane was given the name in this frame, and this index is its only one
pub record Holds (s : Shown) (lane : ℕ) (r : Ref) : Type 0 where
  pub given : model.Holds (state_of s.history) lane r.name
  pub placed : name_at s.names r.index ≡ Some r.name
  pub alone : (j : ℕ) → name_at s.names j ≡ Some r.name → j ≡ r.index

-- no lane holds anything
abbrev pub HoldsNothing : Shown → Type 0
HoldsNothing s = (lane : ℕ) (r : Ref) → Holds s lane r → ⊥

-- a name that is held has one index
pub one_index : (s : Shown) (k l : ℕ) (q r : Ref) → Holds s k q → Holds s l r → q.name ≡ r.name → q ≡ r
one_index s k l q r h i same =
    let there : q.index ≡ r.index = i.alone q.index (h.placed ∙ ap (λ (n : Name). Some n) same) in
    λ t. record { index = there t; name = same t }

-- ---- the vectors

-- the gate: the phase, and whether the frame of each lane is open
pub record Gate : Type 0 where
  pub phase : Phase
  pub frames : List Bool

-- at each index the name of the object that stands there, the first index and the size of its unit, the link to the next member, and how far its life is
pub record Objects : Type 0 where
  pub names : List (Option Name)
  pub firsts : List ℕ
  pub sizes : List ℕ
  pub next : List ℕ
  pub lives : List Life

-- at each index the kind of its object, and its cells: a row of slots for references and one for numbers
pub record Rows : Type 0 where
  pub kinds : List Kind
  pub targets : List (Option ℕ)
  pub plains : List ℕ

-- of each lane its free indexes, and how many objects it made
pub record Stock : Type 0 where
  pub stocks : List Stocked
  pub made : List ℕ

-- the removed objects: how many are left and how far sweeps came, the queue of destruction, polls, what units wait for, and the unit that is to be released
pub record Ends : Type 0 where
  pub left : ℕ
  pub swept : ℕ
  pub queue : Queued
  pub polls : List ℕ
  pub waiting : List ℕ
  pub done : Option ℕ

-- the fields of a plain heap, but for its history
pub record Parts : Type 0 where
  pub gate : Gate
  pub open gate use *
  pub objects : Objects
  pub open objects use *
  pub rows : Rows
  pub open rows use *
  pub roots : List Bool
  pub garbage : List Bool
  pub strong : List (Option ℕ)
  pub pairs : Serials
  pub open pairs use *
  pub colours : Painted
  pub open colours use *
  pub stock : Stock
  pub open stock use *
  pub ends : Ends
  pub open ends use *

-- the index of the first member of the unit of the object at an index
abbrev pub first_at : List ℕ → ℕ → ℕ
first_at firsts i = get_or firsts i 0

-- where an object is linked to the next member of its unit: the index of that member
abbrev pub next_at : List ℕ → ℕ → ℕ
next_at links i = get_or links i 0

abbrev pub life_at : List Life → ℕ → Life
life_at lives i = get_or lives i Free

abbrev pub is_removed : Life → Bool
is_removed Removed = true
is_removed _ = false

-- an object stands there that is removed and not released
abbrev pub is_gone : Life → Bool
is_gone Removed = true
is_gone Begun = true
is_gone Finished = true
is_gone _ = false

-- how far its destruction is
abbrev pub stage_of : Life → Stage
stage_of Begun = world.Begun
stage_of Finished = world.Finished
stage_of _ = world.Removed

-- the name at an index at which there is one
abbrev pub name_of : List (Option Name) → ℕ → Name
name_of names i = unwrap_or (name_at names i) (record { lane = 0; count = 0 })

-- the kind at an index at which no object was made
abbrev pub no_kind : Kind
no_kind = record { class = record { 0 = 0 }; refs = 0; plain = 0; ready = ready.After 0 }

-- the kind of the object at an index, and its class
abbrev pub kind_at : List Kind → ℕ → Kind
kind_at kinds i = get_or kinds i no_kind

abbrev pub class_at : List Kind → ℕ → ClassId
class_at kinds i = (kind_at kinds i).class

-- the index of the object that a reference cell of the object at an index names, and the number in a plain cell of it, in rows of so many slots
abbrev pub target_at : ℕ → List (Option ℕ) → ℕ → ℕ → Option ℕ
target_at slots targets i slot = get_or targets (i * slots + slot) None

abbrev pub plain_at : ℕ → List ℕ → ℕ → ℕ → ℕ
plain_at slots plains i slot = get_or plains (i * slots + slot) 0

abbrev pub is_marking : Phase → Bool
is_marking Marking = true
is_marking _ = false

-- the list has these values
pub record Lists {A : Type 0} (xs : List A) (n : ℕ) (f : ℕ → A) : Type 0 where
  pub len : length xs ≡ n
  pub each : (k : ℕ) (d : A) → k < n → get_or xs k d ≡ f k
