-- Finding the members of units.
use Rattle.std.specs.Prelude.{◌≡◌, ℕ, ◌+◌, ◌==◌, ◌<◌, ◌≤◌, ◌^◌, Bool, true, false, if◌then◌else◌, List, [], ◌∷◌, ◌++◌, length, get_or, zero, suc, nat_lt, Option, Some, None}
use Rattle.heap_plain.specs.declared.life.Life.{Life}
use Rattle.heap_plain.specs.declared.life.Life.TheVariants.{Removed}
use Rattle.heap_plain.specs.Parts.{life_at, first_at, next_at}

-- the index to which k links lead
abbrev pub chained : List ℕ → ℕ → ℕ → ℕ
chained links i zero = i
chained links i (suc k) = next_at links (chained links i k)

-- so many indexes in a row, each linked to the next
abbrev pub chain : List ℕ → ℕ → ℕ → List ℕ
chain links i zero = []
chain links i (suc count) = chain links i count ++ chained links i count ∷ []

-- the index of the member number k of a unit of so many, if it has that
abbrev pub member_at : List ℕ → ℕ → ℕ → ℕ → Option ℕ
member_at links head size k = if nat_lt k size then Some (chained links head k) else None

-- the first member of a removed unit is at the index
abbrev pub begins : Life → ℕ → ℕ → Bool
begins Removed first i = first == i
begins _ first i = false

-- the indexes of the unit's members, where its first one is at the index
abbrev pub unit_at : List Life → List ℕ → List ℕ → List ℕ → ℕ → List ℕ
unit_at lives firsts sizes links i = if begins (life_at lives i) (first_at firsts i) i then chain links i (get_or sizes i 0) else []

-- the same for count indexes from `from` on
abbrev pub units_at : List Life → List ℕ → List ℕ → List ℕ → ℕ → ℕ → List ℕ
units_at lives firsts sizes links from zero = []
units_at lives firsts sizes links from (suc count) = units_at lives firsts sizes links from count ++ unit_at lives firsts sizes links (from + count)

-- so many that were listed before, and they, are no more than there is room for
pub record CanList (lives : List Life) (firsts sizes links : List ℕ) (from count listed room : ℕ) : Type 0 where
  pub few : from + count < 2 ^ 32
  pub by_life : from + count ≤ length lives
  pub by_first : from + count ≤ length firsts
  pub by_size : from + count ≤ length sizes
  pub within : (i : ℕ) → begins (life_at lives i) (first_at firsts i) i ≡ true → (k : ℕ) → k < get_or sizes i 0 → chained links i k < length links
  pub fits : (k : ℕ) → k ≤ count → listed + length (units_at lives firsts sizes links from k) ≤ room
