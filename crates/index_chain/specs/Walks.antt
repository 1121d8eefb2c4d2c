-- The items that one meets from an item on, through the words of the items.
use Rattle.std.specs.Prelude.{◌≡◌, ℕ, zero, suc, ◌==◌, Bool, true, false, List, [], ◌∷◌, length, fold, Option, Some, None, option_and_then, IsTrue, if◌then◌else◌}
use Rattle.std.specs.Option.{is_some}
use Rattle.std.specs.List.{AllByRecursion, list_any}
use Rattle.index_chain.specs.declared.chain.Chain.{Chain}

-- what is told of items: of each that is told its next item, or that it has none; and nothing of any other
abbrev pub Words : Type 0
Words = ℕ → Option (Option ℕ)

-- something is told of the item
abbrev pub IsTold : Words → ℕ → Type 0
IsTold words i = IsTrue (is_some (words i))

-- the next item of an item; none where nothing is told of it
abbrev pub next_of : Words → ℕ → Option ℕ
next_of words i = option_and_then (λ to. to) (words i)

-- one item has another next item, or none
abbrev pub with_next : Words → ℕ → Option ℕ → Words
with_next words i to j = if j == i then Some to else words j

-- a write gives an item another next item, or none
abbrev pub after_write : Words → ℕ × Option ℕ → Words
after_write words w = with_next words w.0 w.1

-- the words after these writes, one after the other
abbrev pub written : Words → List (ℕ × Option ℕ) → Words
written words ws = fold after_write words ws

-- so many items from one on, or fewer where one of them has no next item
unfoldable pub walk : Words → ℕ → Option ℕ → List ℕ
walk words zero at = []
walk words (suc n) None = []
walk words (suc n) (Some i) = i ∷ walk words n (next_of words i)

-- the items of a chain, first to last
abbrev pub items : Words → Chain → List ℕ
items words chain = walk words chain.count chain.first

-- the item stands in the list
abbrev pub has : List ℕ → ℕ → Bool
has is i = list_any (λ j. j == i) is

-- no item stands in the list twice
unfoldable pub AreDistinct : List ℕ → Type 0
AreDistinct [] = Unit {0}
AreDistinct (i ∷ is) = (has is i ≡ false) × AreDistinct is

-- the lists have no common item
abbrev pub AreApart : List ℕ → List ℕ → Type 0
AreApart is js = (i : ℕ) → has is i ≡ true → has js i ≡ false

-- A chain is whole: it has as many items as it counts, something is told of each, and none comes twice.
pub record IsChain (words : Words) (chain : Chain) : Type 0 where
  pub whole : length (items words chain) ≡ chain.count
  pub told : AllByRecursion (IsTold words) (items words chain)
  pub distinct : AreDistinct (items words chain)

-- A chain is the same after the words have changed: it has the same items, and is whole.
pub record Stays (old new : Words) (chain : Chain) : Type 0 where
  pub same : items new chain ≡ items old chain
  pub whole : IsChain new chain
