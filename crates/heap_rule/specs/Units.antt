-- Units, cells and references by the indexes of items. A unit goes by the index of its first member, and cell slot of item i by the number i * SLOTS + slot.
use Rattle.std.specs.Prelude.{ℕ, ◌+◌, ◌*◌, zero, suc, List, [], ◌∷◌, Option, Some, None, option_map}
use Rattle.std.specs.List.{flat_map}
use Rattle.world_model.specs.Sizes.{Sizes, item_count}
use Rattle.mark_core.specs.Machine as machine
use Rattle.heap_rule.specs.Types.{Name, Ref}

-- the sizes of the machine of a heap
abbrev pub sizes_of : Sizes → machine.Sizes
sizes_of z = record { lanes = z.lanes; markers = z.markers; units = item_count z; strong = z.strong }

-- the first member of a unit
abbrev pub first_of : List Name → Name
first_of [] = record { lane = 0; count = 0 }
first_of (n ∷ rest) = n

-- the number of a unit
abbrev pub number : (Name → ℕ) → List Name → ℕ
number index u = index (first_of u)

-- the number of a cell
abbrev pub cell_number : Sizes → ℕ → ℕ → ℕ
cell_number z i slot = i * z.slots + slot

-- so many numbers from this one on
abbrev pub numbers_from : ℕ → ℕ → List ℕ
numbers_from from zero = []
numbers_from from (suc n) = from ∷ numbers_from (suc from) n

-- the numbers of the reference cells of a unit, member by member
abbrev pub cells_of : Sizes → (Name → ℕ) → (Name → ℕ) → List Name → List ℕ
cells_of z index refs u = flat_map (λ m. numbers_from (cell_number z (index m) 0) (refs m)) u

-- the number of the unit of what a cell names
abbrev pub unit_named : (Name → ℕ) → (Name → List Name) → Option Name → Option ℕ
unit_named index unit got = option_map (λ n. number index (unit n)) got

-- a name with the index where it stands
abbrev pub ref_at : (Name → ℕ) → Option Name → Option Ref
ref_at index None = None
ref_at index (Some n) = Some (record { index = index n; name = n })
