-- What a commit and a sweep do to the vectors.
use Rattle.std.specs.Prelude.{◌≡◌, ℕ, ◌+◌, ◌<◌, ◌≤◌, ◌⊎◌, Bool, false, if◌then◌else◌, List, [], ◌++◌, length, get_or, take, drop, Option, zero, suc}
use Rattle.std.specs.Option.{option_to_list}
use Rattle.heap_plain.specs.Types.{Name}
use Rattle.heap_plain.specs.declared.life.Life.{Life}
use Rattle.heap_plain.specs.declared.life.Life.TheVariants.{Live, Removed}
use Rattle.heap_plain.specs.Parts.{name_at, life_at, first_at}

-- what stands at an index after a commit, where the unit of its object is marked or not
abbrev pub without : Life → Bool → Life
without Live marked = if marked then Live else Removed
without life marked = life

-- the first count items after a commit
pub record Removes (firsts : List ℕ) (marked : List Bool) (old new : List Life) (count : ℕ) : Type 0 where
  pub len : length new ≡ length old
  pub done : (i : ℕ) → i < count → life_at new i ≡ without (life_at old i) (get_or marked (first_at firsts i) false)
  pub rest : (i : ℕ) → count ≤ i → life_at new i ≡ life_at old i

-- the name at an index, if it is of a removed object
abbrev pub removed_name : Life → Option Name → List Name
removed_name Removed name = option_to_list name
removed_name _ name = []

-- the names of the removed objects at count indexes from `from` on
abbrev pub removed_names : List (Option Name) → List Life → ℕ → ℕ → List Name
removed_names names lives from zero = []
removed_names names lives from (suc count) = removed_names names lives from count ++ removed_name (life_at lives (from + count)) (name_at names (from + count))

-- one item was looked at
pub record Looks (names : List (Option Name)) (life : Life) (index count count' : ℕ) (old new : List Name) : Type 0 where
  pub len : length new ≡ length old
  pub found : take count' new ≡ take count old ++ removed_name life (name_at names index)
  pub rest : drop count' new ≡ drop count' old
  pub few : count' ≤ count + 1
  pub more : count ≤ count'

-- so many items from `from` on were looked at
pub record Finds (names : List (Option Name)) (lives : List Life) (from budget looked count : ℕ) (old new : List Name) : Type 0 where
  pub found : take count new ≡ removed_names names lives from looked
  pub rest : drop count new ≡ drop count old
  pub room : count ≤ length old
  pub few : count ≤ looked
  pub within : looked ≤ budget
  pub range : from + looked ≤ length lives
  pub stopped : (looked ≡ budget) ⊎ (count ≡ length old) ⊎ (from + looked ≡ length lives)
