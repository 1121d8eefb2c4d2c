-- The place of each part: the parts of one kind stand side by side, and the kinds one behind the other.
use Rattle.std.specs.Prelude.{◌≡◌, ℕ, ◌+◌, ◌*◌, ◌/◌, ◌<◌, ◌≤◌}
use Rattle.world_model.specs.Sizes.{Sizes, item_count}
use Rattle.word_layout.specs.Types.{Part}
use Rattle.word_layout.specs.Types.part

-- the words of a row, of a bit for each item
abbrev pub row_words : Sizes → ℕ
row_words z = (item_count z + 63) / 64

-- the part is there
abbrev pub IsPart : Sizes → Part → Type 0
IsPart z part.Gate = Unit {0}
IsPart z (part.Head i) = i < item_count z
IsPart z (part.Owner i) = i < item_count z
IsPart z (part.Next i) = i < item_count z
IsPart z (part.NameOf i) = i < item_count z
IsPart z (part.KindOf i) = i < item_count z
IsPart z (part.Serial i) = i < item_count z
IsPart z (part.Cell i slot) = (i < item_count z) × (slot < z.slots)
IsPart z (part.Root w) = w < row_words z
IsPart z (part.Row row w) = (row ≤ z.markers) × (w < row_words z)
IsPart z (part.Strong lane h) = (lane < z.lanes) × (h < z.strong)
IsPart z (part.FreeStock lane) = lane < z.lanes
IsPart z (part.ReturnStock lane) = lane < z.lanes
IsPart z (part.NamesMade lane) = lane < z.lanes
IsPart z (part.SerialsMade lane) = lane < z.lanes
IsPart z part.Cursor = Unit {0}
IsPart z part.Removed = Unit {0}
IsPart z part.Left = Unit {0}
IsPart z part.Polling = Unit {0}

-- ---- where each kind of part begins

abbrev pub lanes_at : Sizes → ℕ → ℕ
lanes_at z k = 5 + k * z.lanes

abbrev pub strong_at : Sizes → ℕ
strong_at z = lanes_at z 4

abbrev pub roots_at : Sizes → ℕ
roots_at z = strong_at z + z.lanes * z.strong

abbrev pub rows_at : Sizes → ℕ
rows_at z = roots_at z + row_words z

abbrev pub items_at : Sizes → ℕ → ℕ
items_at z k = (rows_at z + (z.markers + 1) * row_words z) + k * item_count z

abbrev pub cells_at : Sizes → ℕ
cells_at z = items_at z 6

-- how many words there are
abbrev pub word_count : Sizes → ℕ
word_count z = cells_at z + item_count z * z.slots

-- the place of a part
abbrev pub place : Sizes → Part → ℕ
place z part.Gate = 0
place z part.Cursor = 1
place z part.Removed = 2
place z part.Left = 3
place z part.Polling = 4
place z (part.FreeStock lane) = lanes_at z 0 + lane
place z (part.ReturnStock lane) = lanes_at z 1 + lane
place z (part.NamesMade lane) = lanes_at z 2 + lane
place z (part.SerialsMade lane) = lanes_at z 3 + lane
place z (part.Strong lane h) = strong_at z + (lane * z.strong + h)
place z (part.Root w) = roots_at z + w
place z (part.Row row w) = rows_at z + (row * row_words z + w)
place z (part.Head i) = items_at z 0 + i
place z (part.Owner i) = items_at z 1 + i
place z (part.Next i) = items_at z 2 + i
place z (part.NameOf i) = items_at z 3 + i
place z (part.KindOf i) = items_at z 4 + i
place z (part.Serial i) = items_at z 5 + i
place z (part.Cell i slot) = cells_at z + (i * z.slots + slot)

-- ---- laws

-- each part has a place among the words, and different parts have different places
abbrev pub PlacesFit : Type 0
PlacesFit = (z : Sizes) (p : Part) → IsPart z p → place z p < word_count z

-- each word is that of a part
abbrev pub PlacesFill : Type 0
PlacesFill = (z : Sizes) (n : ℕ) → n < word_count z → (p : Part) × IsPart z p × (place z p ≡ n)

-- each item has its bit in a word of a row: bit i of word w is that of item 64 * w + i
abbrev pub RowsReach : Type 0
RowsReach = (z : Sizes) (i : ℕ) → i < item_count z → i / 64 < row_words z

abbrev pub PlacesDiffer : Type 0
PlacesDiffer = (z : Sizes) (p q : Part) → IsPart z p → IsPart z q → place z p ≡ place z q → p ≡ q
