-- The rows: the kind of each object, and what stands in its cells.
use Rattle.std.specs.Prelude.{◌≡◌, ℕ, ◌+◌, ◌-◌, ◌*◌, ◌<◌, ◌≤◌, List, length, Option, Some, None, slice_get}
use Rattle.heap_plain.specs.Types.{Name, Kind}
use Rattle.world_model.specs.Sizes.{Sizes, item_count}
use Rattle.heap_plain.specs.declared.life.Life.{Life}
use Rattle.heap_plain.specs.Parts.{Rows, name_at, kind_at, target_at, plain_at}
use Rattle.heap_plain.specs.Units.{LivesAt}

-- ---- kinds

-- at each index at which an object stands, its kind
pub record KindsShow (z : Sizes) (names : List (Option Name)) (stored : List Kind) (kinds : ℕ → List Kind) : Type 0 where
  pub len : length stored ≡ item_count z
  pub each : (i : ℕ) (n : Name) → name_at names i ≡ Some n → slice_get (kinds n.lane) (n.count - 1) ≡ Some (kind_at stored i)
  pub fit : (i : ℕ) → (kind_at stored i).refs + (kind_at stored i).plain ≤ z.slots

-- ---- cells

-- the living object at this index is the one that the cell names, if there is one
abbrev pub Aims : List (Option Name) → List Life → Option ℕ → Option Name → Type 0
Aims names lives None None = Unit {0}
Aims names lives (Some t) (Some n) = LivesAt names lives t n
Aims names lives _ _ = ⊥

-- The cells of the living objects. A cell beyond the reference slots of an object names nothing, and the plain cells of an object that is not made have 0.
pub record CellsShow (z : Sizes) (names : List (Option Name)) (lives : List Life) (stored : List Kind) (targets : List (Option ℕ)) (plains : List ℕ)
    (kinds : ℕ → List Kind) (cell : Name → ℕ → Option Name) (plain : Name → ℕ → ℕ) : Type 0 where
  pub targets_len : length targets ≡ item_count z * z.slots
  pub plains_len : length plains ≡ item_count z * z.slots
  pub in_range : (i slot t : ℕ) → slot < z.slots → target_at z.slots targets i slot ≡ Some t → t < item_count z
  pub aims : (i : ℕ) (n : Name) (slot : ℕ) → LivesAt names lives i n → slot < z.slots → Aims names lives (target_at z.slots targets i slot) (cell n slot)
  pub no_more : (i : ℕ) (n : Name) (slot : ℕ) → LivesAt names lives i n → (kind_at stored i).refs ≤ slot → cell n slot ≡ None
  pub numbers : (i : ℕ) (n : Name) (slot : ℕ) → LivesAt names lives i n → slot < z.slots → plain_at z.slots plains i slot ≡ plain n slot
  pub unmade_plain : (n : Name) (slot : ℕ) → length (kinds n.lane) < n.count → plain n slot ≡ 0

-- ---- both

-- the rows show the kinds and the cells of the living objects
pub record Cells (z : Sizes) (names : List (Option Name)) (lives : List Life) (r : Rows) (made : ℕ → List Kind) (cell : Name → ℕ → Option Name) (plain : Name → ℕ → ℕ) : Type 0 where
  pub kinds : KindsShow z names r.kinds made
  pub cells : CellsShow z names lives r.kinds r.targets r.plains made cell plain
