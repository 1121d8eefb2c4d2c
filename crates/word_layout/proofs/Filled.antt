-- Each word is that of a part.
use Rattle.std.proofs.Common.{◌≡◌, ℕ, zero, suc, ◌+◌, ◌-◌, ◌*◌, ◌/◌, ◌%◌, ◌<◌, ◌≤◌, refl, inl, inr, ◌⊎◌, arith}
use Rattle.std.proofs.lemmas.Bool.{cases_lt}
use Rattle.std.proofs.lemmas.Nat.{div_below, div-add-mod'}
use Rattle.std.proofs.Math.Nat.{mod-lt}
use Rattle.world_model.specs.Sizes.{Sizes, item_count}
use Rattle.word_layout.specs.Types.{Part}
use Rattle.word_layout.specs.Types.part
use Rattle.word_layout.specs.Places.{row_words, IsPart, lanes_at, strong_at, roots_at, rows_at, items_at, cells_at, word_count, place, PlacesFill, RowsReach}

pub rows_reach : RowsReach
rows_reach z i lt = omega arith

-- ---- rows of a table

-- each number below the size of a table is that of a row and a column
in_table : (m w n : ℕ) → n < m * w → (i : ℕ) × (s : ℕ) × (i < m) × (s < w) × (i * w + s ≡ n)
in_table m zero n lt = absurd (omega arith)
in_table m (suc w) n lt = (n / suc w, n % suc w, div_below n (suc w) m (omega arith) lt, mod-lt n (omega arith), div-add-mod' n (suc w))

-- ---- the kinds of parts, from the last to the first

abbrev Found : Sizes → ℕ → Type 0
Found z n = (p : Part) × IsPart z p × (place z p ≡ n)

in_cells : (z : Sizes) (n : ℕ) → n < word_count z → cells_at z ≤ n → Found z n
in_cells z n lt from =
    let at = in_table (item_count z) z.slots (n - cells_at z) (omega arith) in
    let is : at.0 * z.slots + at.1 ≡ n - cells_at z = at.4 in
    (part.Cell at.0 at.1, (at.2, at.3), omega arith)

-- a word of one kind of item part, or one before it
from_serials : (z : Sizes) (n : ℕ) → n < word_count z → items_at z 5 ≤ n → Found z n
from_serials z n lt from = go (cases_lt n (items_at z 6))
  where
    go : (n < items_at z 6) ⊎ (items_at z 6 ≤ n) → Found z n
    go (inl before) = (part.Serial (n - items_at z 5), omega arith, omega arith)
    go (inr far) = in_cells z n lt far

from_kinds : (z : Sizes) (n : ℕ) → n < word_count z → items_at z 4 ≤ n → Found z n
from_kinds z n lt from = go (cases_lt n (items_at z 5))
  where
    go : (n < items_at z 5) ⊎ (items_at z 5 ≤ n) → Found z n
    go (inl before) = (part.KindOf (n - items_at z 4), omega arith, omega arith)
    go (inr far) = from_serials z n lt far

from_names : (z : Sizes) (n : ℕ) → n < word_count z → items_at z 3 ≤ n → Found z n
from_names z n lt from = go (cases_lt n (items_at z 4))
  where
    go : (n < items_at z 4) ⊎ (items_at z 4 ≤ n) → Found z n
    go (inl before) = (part.NameOf (n - items_at z 3), omega arith, omega arith)
    go (inr far) = from_kinds z n lt far

from_nexts : (z : Sizes) (n : ℕ) → n < word_count z → items_at z 2 ≤ n → Found z n
from_nexts z n lt from = go (cases_lt n (items_at z 3))
  where
    go : (n < items_at z 3) ⊎ (items_at z 3 ≤ n) → Found z n
    go (inl before) = (part.Next (n - items_at z 2), omega arith, omega arith)
    go (inr far) = from_names z n lt far

from_owners : (z : Sizes) (n : ℕ) → n < word_count z → items_at z 1 ≤ n → Found z n
from_owners z n lt from = go (cases_lt n (items_at z 2))
  where
    go : (n < items_at z 2) ⊎ (items_at z 2 ≤ n) → Found z n
    go (inl before) = (part.Owner (n - items_at z 1), omega arith, omega arith)
    go (inr far) = from_nexts z n lt far

from_heads : (z : Sizes) (n : ℕ) → n < word_count z → items_at z 0 ≤ n → Found z n
from_heads z n lt from = go (cases_lt n (items_at z 1))
  where
    go : (n < items_at z 1) ⊎ (items_at z 1 ≤ n) → Found z n
    go (inl before) = (part.Head (n - items_at z 0), omega arith, omega arith)
    go (inr far) = from_owners z n lt far

in_rows : (z : Sizes) (n : ℕ) → n < word_count z → rows_at z ≤ n → Found z n
in_rows z n lt from = go (cases_lt n (items_at z 0))
  where
    go : (n < items_at z 0) ⊎ (items_at z 0 ≤ n) → Found z n
    go (inl before) =
        let at = in_table (z.markers + 1) (row_words z) (n - rows_at z) (omega arith) in
        let is : at.0 * row_words z + at.1 ≡ n - rows_at z = at.4 in
        (part.Row at.0 at.1, ((let row : at.0 < z.markers + 1 = at.2 in omega arith), at.3), omega arith)
    go (inr far) = from_heads z n lt far

in_roots : (z : Sizes) (n : ℕ) → n < word_count z → roots_at z ≤ n → Found z n
in_roots z n lt from = go (cases_lt n (rows_at z))
  where
    go : (n < rows_at z) ⊎ (rows_at z ≤ n) → Found z n
    go (inl before) = (part.Root (n - roots_at z), omega arith, omega arith)
    go (inr far) = in_rows z n lt far

in_strong : (z : Sizes) (n : ℕ) → n < word_count z → strong_at z ≤ n → Found z n
in_strong z n lt from = go (cases_lt n (roots_at z))
  where
    go : (n < roots_at z) ⊎ (roots_at z ≤ n) → Found z n
    go (inl before) =
        let at = in_table z.lanes z.strong (n - strong_at z) (omega arith) in
        let is : at.0 * z.strong + at.1 ≡ n - strong_at z = at.4 in
        (part.Strong at.0 at.1, (at.2, at.3), omega arith)
    go (inr far) = in_roots z n lt far

from_serials_made : (z : Sizes) (n : ℕ) → n < word_count z → lanes_at z 3 ≤ n → Found z n
from_serials_made z n lt from = go (cases_lt n (lanes_at z 4))
  where
    go : (n < lanes_at z 4) ⊎ (lanes_at z 4 ≤ n) → Found z n
    go (inl before) = (part.SerialsMade (n - lanes_at z 3), omega arith, omega arith)
    go (inr far) = in_strong z n lt far

from_names_made : (z : Sizes) (n : ℕ) → n < word_count z → lanes_at z 2 ≤ n → Found z n
from_names_made z n lt from = go (cases_lt n (lanes_at z 3))
  where
    go : (n < lanes_at z 3) ⊎ (lanes_at z 3 ≤ n) → Found z n
    go (inl before) = (part.NamesMade (n - lanes_at z 2), omega arith, omega arith)
    go (inr far) = from_serials_made z n lt far

from_returned : (z : Sizes) (n : ℕ) → n < word_count z → lanes_at z 1 ≤ n → Found z n
from_returned z n lt from = go (cases_lt n (lanes_at z 2))
  where
    go : (n < lanes_at z 2) ⊎ (lanes_at z 2 ≤ n) → Found z n
    go (inl before) = (part.ReturnStock (n - lanes_at z 1), omega arith, omega arith)
    go (inr far) = from_names_made z n lt far

from_free : (z : Sizes) (n : ℕ) → n < word_count z → lanes_at z 0 ≤ n → Found z n
from_free z n lt from = go (cases_lt n (lanes_at z 1))
  where
    go : (n < lanes_at z 1) ⊎ (lanes_at z 1 ≤ n) → Found z n
    go (inl before) = (part.FreeStock (n - lanes_at z 0), omega arith, omega arith)
    go (inr far) = from_returned z n lt far

pub places_fill : PlacesFill
places_fill z zero lt = (part.Gate, tt, refl)
places_fill z (suc zero) lt = (part.Cursor, tt, refl)
places_fill z (suc (suc zero)) lt = (part.Removed, tt, refl)
places_fill z (suc (suc (suc zero))) lt = (part.Left, tt, refl)
places_fill z (suc (suc (suc (suc zero)))) lt = (part.Polling, tt, refl)
places_fill z (suc (suc (suc (suc (suc n))))) lt = from_free z (suc (suc (suc (suc (suc n))))) lt (omega arith)
