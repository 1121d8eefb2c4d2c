-- The marks of a collection, and its worklist.
use Rattle.std.specs.Prelude.{◌≡◌, ℕ, ◌<◌, ◌≤◌, ◌+◌, Bool, true, false, List, [], ◌∷◌, ◌++◌, length, get_or, take, drop}
use Rattle.std.proofs.Math.ListN.{set}
use Rattle.world_model.specs.Lists.{Among}
use Rattle.heap_plain.specs.Lists.{Distinct}

-- which units are marked, by the index of the first member; those that were marked since the collection began, in order; and how many of these are black
pub record Painted : Type 0 where
  pub marked : List Bool
  pub listed : List ℕ
  pub scanned : ℕ

-- the worklist has its places in front
abbrev pub painted : List Bool → List ℕ → ℕ → ℕ → Painted
painted marked work scanned pushed = record { marked = marked; listed = take pushed work; scanned = scanned }

-- there is a place for each item
pub record HasWork (items room scanned pushed : ℕ) : Type 0 where
  pub places : room ≡ items
  pub black_few : scanned ≤ pushed
  pub few : pushed ≤ items

-- the grey units, in the order in which they were marked
abbrev pub grey_of : Painted → List ℕ
grey_of c = drop c.scanned c.listed

-- the unit that was marked first of the grey ones
pub record IsNextGrey (c : Painted) (head : ℕ) : Type 0 where
  pub some : c.scanned < length c.listed
  pub few : c.scanned < length c.marked
  pub first : head ≡ get_or c.listed c.scanned 0

-- the unit is marked, and listed as grey
abbrev pub greyed : Painted → ℕ → Painted
greyed c head = record c { marked = set c.marked head true; listed = c.listed ++ head ∷ [] }

-- these units are, one after the other
abbrev pub all_greyed : Painted → List ℕ → Painted
all_greyed c [] = c
all_greyed c (head ∷ rest) = all_greyed (greyed c head) rest

-- the grey unit that was marked first is black
abbrev pub blackened : Painted → Painted
blackened c = record c { scanned = c.scanned + 1 }

-- the listed units are different, and marked
pub record IsWorklist (c : Painted) : Type 0 where
  pub distinct : Distinct c.listed
  pub set : (head : ℕ) → Among c.listed head → get_or c.marked head false ≡ true
