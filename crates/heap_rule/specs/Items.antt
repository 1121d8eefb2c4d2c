-- Items: what each index is for, what the words of unused items have, and the chains.
use Rattle.std.specs.Prelude.{◌≡◌, ℕ, ◌+◌, ◌/◌, ◌<◌, ◌≤◌, ◌==◌, ◌⊎◌, suc, Bool, true, false, List, [], ◌∷◌, length, map, count_by, Option, Some, None, ⊤}
use Rattle.world_model.specs.Sizes.{Sizes, item_count}
use Rattle.world_model.specs.NameLists.{begins_with}
use Rattle.word_layout.specs.Values.{stock_word}
use Rattle.mark_core.specs.Changes.{has}
use Rattle.heap_rule.specs.Types.{Name}
use Rattle.heap_rule.specs.Units.{first_of}

-- each index has one use
pub data Spot : Type 0 where
  -- in the free chain of a lane, in its return chain, or taken by it
  Free : ℕ → Spot
  Returned : ℕ → Spot
  Making : ℕ → Spot
  -- the item of an object that lives or is removed
  Holds : Name → Spot

-- the lane in whose part of the array the index lies
abbrev pub lane_of : Spot → ℕ
lane_of (Free l) = l
lane_of (Returned l) = l
lane_of (Making l) = l
lane_of (Holds n) = n.lane

-- whether the item stands in a chain
abbrev pub is_chained : Spot → Bool
is_chained (Free l) = true
is_chained (Returned l) = true
is_chained _ = false

-- whether it has no object
abbrev pub is_unused : Spot → Bool
is_unused (Holds n) = false
is_unused _ = true

-- each object that lives or is removed has its item, and no other does; and each item lies in the part of its lane
pub record ItemsShown (z : Sizes) (index : Name → ℕ) (spot : ℕ → Spot) (living removed : Name → Bool) : Type 0 where
  pub living_stand : (n : Name) → living n ≡ true → (index n < item_count z) × (spot (index n) ≡ Holds n)
  pub removed_stand : (n : Name) → removed n ≡ true → (index n < item_count z) × (spot (index n) ≡ Holds n)
  pub only : (i : ℕ) (n : Name) → i < item_count z → spot i ≡ Holds n → (index n ≡ i) × ((living n ≡ true) ⊎ (removed n ≡ true))
  pub home : (i : ℕ) → i < item_count z → lane_of (spot i) ≡ i / z.quota

-- an item that a lane has taken is owned by none, or by an item that the lane has taken too
abbrev pub OwnedByTaken : (ℕ → Spot) → ℕ → ℕ → Type 0
OwnedByTaken spot l owner = (owner ≡ 0) ⊎ ((j : ℕ) × (owner ≡ suc j) × (spot j ≡ Making l))

-- the words of items in chains are zero but for the chain; of those that a lane has taken, head, serial and cells are so
pub record BlankShown (z : Sizes) (spot : ℕ → Spot) (head owner name kind serial : ℕ → ℕ) (cell : ℕ → ℕ → ℕ) : Type 0 where
  pub heads : (i : ℕ) → i < item_count z → is_unused (spot i) ≡ true → head i ≡ 0
  pub owners : (i : ℕ) → i < item_count z → is_chained (spot i) ≡ true → owner i ≡ 0
  pub taken : (i l : ℕ) → i < item_count z → spot i ≡ Making l → OwnedByTaken spot l (owner i)
  pub names : (i : ℕ) → i < item_count z → is_chained (spot i) ≡ true → name i ≡ 0
  pub kinds : (i : ℕ) → i < item_count z → is_chained (spot i) ≡ true → kind i ≡ 0
  pub serials : (i : ℕ) → i < item_count z → is_unused (spot i) ≡ true → serial i ≡ 0
  pub cells : (i slot : ℕ) → i < item_count z → is_unused (spot i) ≡ true → slot < z.slots → cell i slot ≡ 0

-- ---- chains

abbrev pub first_item : List ℕ → Option ℕ
first_item [] = None
first_item (i ∷ is) = Some i

abbrev pub last_item : List ℕ → Option ℕ
last_item [] = None
last_item (i ∷ []) = Some i
last_item (i ∷ (j ∷ is)) = last_item (j ∷ is)

-- each item names the next, and the last one has this word
abbrev pub Linked : (ℕ → ℕ) → ℕ → List ℕ → Type 0
Linked next end [] = ⊤
Linked next end (i ∷ []) = next i ≡ end
Linked next end (i ∷ (j ∷ is)) = (next i ≡ suc j) × Linked next end (j ∷ is)

-- a chain with its stock
pub record ChainShown (next : ℕ → ℕ) (stock : ℕ) (chain : List ℕ) : Type 0 where
  pub stock_is : stock ≡ stock_word (record { first = first_item chain; count = length chain })
  pub linked : Linked next 0 chain

-- these are exactly the items of this use, each once
pub record Lists (z : Sizes) (spot : ℕ → Spot) (use_is : Spot) (items : List ℕ) : Type 0 where
  pub all : (i : ℕ) → i < item_count z → spot i ≡ use_is → has items i ≡ true
  pub each : (i : ℕ) → has items i ≡ true → (i < item_count z) × (spot i ≡ use_is)
  pub once : (i : ℕ) → count_by (λ j. i == j) items ≤ 1

-- the free chain and the return chain of each lane, and what it has taken
pub record ChainsShown (z : Sizes) (next free_stock return_stock : ℕ → ℕ) (spot : ℕ → Spot) (free back making : ℕ → List ℕ) : Type 0 where
  pub frees : (l : ℕ) → l < z.lanes → ChainShown next (free_stock l) (free l)
  pub backs : (l : ℕ) → l < z.lanes → ChainShown next (return_stock l) (back l)
  pub free_items : (l : ℕ) → l < z.lanes → Lists z spot (Free l) (free l)
  pub back_items : (l : ℕ) → l < z.lanes → Lists z spot (Returned l) (back l)
  pub making_items : (l : ℕ) → l < z.lanes → Lists z spot (Making l) (making l)

-- of each lane, what is free, comes back, is taken, or holds an object is its quota together
abbrev pub CountsShown : Sizes → (ℕ → List ℕ) → (ℕ → List ℕ) → (ℕ → List ℕ) → (ℕ → ℕ) → Type 0
CountsShown z free back making occupied = (l : ℕ) → l < z.lanes → (length (free l) + (length (back l) + length (making l))) + occupied l ≡ z.quota

-- the members of a unit that lives are linked in order, and behind the last stands nothing; or, in what is left of the unit that a lane takes apart, the object that has just left it
abbrev pub UnitsLinked : (Name → ℕ) → (ℕ → ℕ) → (Name → List Name) → (ℕ → Option ℕ) → (ℕ → List Name) → Type 0
UnitsLinked index next unit loose broken = (n : Name) → begins_with n (unit n) ≡ true
    → Linked next 0 (map index (unit n)) ⊎ ((j : ℕ) × (loose n.lane ≡ Some j) × (first_of (broken n.lane) ≡ n) × Linked next (suc j) (map index (unit n)))
