-- Marking the units to which references lead: while a unit is scanned, before a reference is stored, and where a collection begins.
use Rattle.std.specs.Prelude.{◌≡◌, ℕ, ◌+◌, ◌<◌, Bool, true, false, if◌then◌else◌, not, ◌&&◌, List, [], ◌∷◌, ◌++◌, get_or, map, Option, Some, None}
use Rattle.std.specs.Option.{option_map_or}
use Rattle.std.proofs.Math.ListN.{set}
use Rattle.heap_plain.specs.Types.{Name, Ref, Kind, Phase, Pass, Lane, Entry}
use Rattle.heap_plain.specs.Types.act
use Rattle.world_model.specs.Calls.{by}
use Rattle.heap_plain.specs.Painted.{Painted, IsWorklist, greyed, all_greyed}
use Rattle.heap_plain.specs.Parts.{first_at, kind_at, target_at, is_marking}
use Rattle.heap_plain.specs.Listing.{chained}
use Rattle.heap_plain.specs.Notes.{names_at}

-- ---- the barrier

-- where it must be, the unit at the index is marked and listed as grey, and these entries are added
pub record MarksIf (must : Bool) (head : ℕ) (notes : List Entry) (c c' : Painted) (old new : List Entry) : Type 0 where
  pub marks : must ≡ true → (c' ≡ greyed c head) × (new ≡ old ++ notes)
  pub stays : must ≡ false → (c' ≡ c) × (new ≡ old)

-- a reference is to be stored to a unit that is white, while a collection marks
abbrev pub must_shade : Phase → List ℕ → List Bool → Option Ref → Bool
must_shade phase firsts marked None = false
must_shade phase firsts marked (Some r) = is_marking phase && not (get_or marked (first_at firsts r.index) false)

-- the first index of that unit, and the note that it is marked
abbrev pub head_of : List ℕ → Option Ref → ℕ
head_of firsts to = option_map_or (λ r. first_at firsts r.index) to 0

abbrev pub shade_notes : ℕ → Option Ref → List Entry
shade_notes lane None = []
shade_notes lane (Some r) = record { pass = Lane lane; act = act.Kept r.name } ∷ []

-- what is stored into the root set where a root bit is set
abbrev pub rooting : Bool → Ref → Option Ref
rooting on at = if on then Some at else None

-- ---- units of many objects

-- which indexes count cells in a row hold
abbrev pub InRow : List (Option ℕ) → ℕ → ℕ → ℕ → Type 0
InRow targets row count t = (slot : ℕ) × (slot < count) × (get_or targets (row + slot) None ≡ Some t)

-- which indexes the reference cells of count linked objects hold
abbrev pub InUnit : List Kind → ℕ → List (Option ℕ) → List ℕ → ℕ → ℕ → ℕ → Type 0
InUnit kinds slots targets links head count t =
    (k : ℕ) × (slot : ℕ) × (k < count) × (slot < (kind_at kinds (chained links head k)).refs) × (target_at slots targets (chained links head k) slot ≡ Some t)

-- the index of a rooted object, if its root bit is set
abbrev pub root_bit : List Bool → ℕ → Option ℕ
root_bit roots i = if get_or roots i false then Some i else None

-- which of the first count indexes have their root bit set
abbrev pub InRoots : List Bool → ℕ → ℕ → Type 0
InRoots roots count t = (t < count) × (get_or roots t false ≡ true)

-- which indexes the strong pointers of so many lanes hold, in rows of so many
abbrev pub InStrong : List (Option ℕ) → ℕ → ℕ → ℕ → Type 0
InStrong strong each lanes t = (lane : ℕ) × (number : ℕ) × (lane < lanes) × (number < each) × (target_at each strong lane number ≡ Some t)

-- each of these units holds an object at one of the indexes, and was white when it was marked
abbrev pub CanShade : List ℕ → (ℕ → Type 0) → List Bool → List ℕ → Type 0
CanShade firsts At bits [] = Unit {0}
CanShade firsts At bits (head ∷ rest) = ((t : ℕ) × At t × (first_at firsts t ≡ head)) × (get_or bits head false ≡ false) × CanShade firsts At (set bits head true) rest

-- The units of the objects at these indexes: those that were white are marked, noted and listed as grey.
pub record Shades (names : List (Option Name)) (firsts : List ℕ) (At : ℕ → Type 0) (pass : Pass) (c c' : Painted) (old new : List Entry) : Type 0 where
  pub heads : List ℕ
  pub colours : c' ≡ all_greyed c heads
  pub entries : new ≡ old ++ by pass (map act.Kept (names_at names heads))
  pub can : CanShade firsts At c.marked heads
  pub each : (t : ℕ) → At t → get_or c'.marked (first_at firsts t) false ≡ true
  pub fits : IsWorklist c'
