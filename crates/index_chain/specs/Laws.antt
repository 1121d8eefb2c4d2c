-- What follows for chains that others leave alone.
use Rattle.std.specs.Prelude.{◌≡◌, ℕ, false, ◌++◌, take, drop, Option}
use Rattle.index_chain.specs.Walks.{Words, with_next, items, has, AreApart, IsChain, Stays}
use Rattle.index_chain.specs.declared.chain.Chain.{Chain}

-- a write to an item outside a chain leaves the chain as it is
abbrev pub OutsideStays : Type 0
OutsideStays = (words : Words) (chain : Chain) (i : ℕ) (to : Option ℕ) → has (items words chain) i ≡ false → IsChain words chain → Stays words (with_next words i to) chain

-- the first items of a list and the rest have no common item where none comes twice, and are the list together
abbrev pub PartsStay : Type 0
PartsStay = (words : Words) (chain : Chain) (n : ℕ) → IsChain words chain
    → AreApart (take n (items words chain)) (drop n (items words chain)) × (take n (items words chain) ++ drop n (items words chain) ≡ items words chain)
