-- The root set: root bits and strong pointers; and what is garbage.
use Rattle.std.specs.Prelude.{◌≡◌, ℕ, ◌*◌, ◌<◌, Bool, false, List, length, get_or, Option, Some, None}
use Rattle.heap_plain.specs.Types.{Name}
use Rattle.world_model.specs.Sizes.{Sizes, item_count}
use Rattle.heap_plain.specs.declared.life.Life.{Life}
use Rattle.heap_plain.specs.Parts.{Lists, name_at, target_at}
use Rattle.heap_plain.specs.Units.{LivesAt}
use Rattle.heap_plain.specs.Cells.{Aims}

-- ---- the root set

-- what the world says of the name at an index
abbrev pub rooted_at : (Name → Bool) → Option Name → Bool
rooted_at rooted None = false
rooted_at rooted (Some n) = rooted n

pub record RootsShow (z : Sizes) (names : List (Option Name)) (roots : List Bool) (rooted : Name → Bool) : Type 0 where
  pub bits : Lists roots (item_count z) (λ i. rooted_at rooted (name_at names i))

-- ---- strong pointers

-- a strong pointer names the living object at its index; beyond the numbers of the shape there are none
pub record StrongShow (z : Sizes) (names : List (Option Name)) (lives : List Life) (targets : List (Option ℕ)) (strong : ℕ → ℕ → Option Name) : Type 0 where
  pub len : length targets ≡ z.lanes * z.strong
  pub aims : (lane number : ℕ) → lane < z.lanes → number < z.strong → Aims names lives (target_at z.strong targets lane number) (strong lane number)
  pub no_more : (lane number : ℕ) → (lane < z.lanes → number < z.strong → ⊥) → strong lane number ≡ None

-- ---- garbage

-- at the index of each living object, whether it is garbage
pub record GarbageShow (z : Sizes) (names : List (Option Name)) (lives : List Life) (bits : List Bool) (garbage : Name → Bool) : Type 0 where
  pub len : length bits ≡ item_count z
  pub each : (i : ℕ) (n : Name) → LivesAt names lives i n → get_or bits i false ≡ garbage n
