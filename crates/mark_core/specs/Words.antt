-- The words that the machine shows: gate and heads in the layouts of a heap in atomic words, cells by the units alone.
use Rattle.std.specs.Prelude.{◌≡◌, ◌≢◌, ℕ, ◌+◌, ◌*◌, ◌/◌, ◌^◌, ◌<◌, ◌↔◌, zero, suc, nat_lt, Bool, true, false, ◌&&◌, not, if◌then◌else◌, Option, Some, None, is_some, bit_and, bit_or, count_ones}
use Rattle.std.specs.Int.{bit_at, bit_not, w64}
use Rattle.word_layout.specs.declared.gate.Gate.{Gate}
use Rattle.word_layout.specs.declared.head.Head.{Head}
use Rattle.word_layout.specs.declared.head.Life.TheVariants as life
use Rattle.word_layout.specs.Values as values
use Rattle.word_layout.specs.Values.{bit}
use Rattle.mark_core.specs.Machine.{Cell, CellOf, StrongOf, Place, Sizes, strong_place, Core, row_bit, frames, count_below}
use Rattle.mark_core.specs.Steps.{Step, Shade, SwapCell, LoadCell, AddRow, TakeRow, LoadRow, LoadHead, DoomHead, RootBit}

-- the gate
abbrev pub gate : Sizes → Core → Gate
gate z c = record { phase = c.phase; parity = c.parity; dirty = c.dirty; frames = frames z c }

abbrev pub gate_word : Sizes → Core → ℕ
gate_word z c = values.gate_word (gate z c)

-- whether the colour of a unit is set: it equals the parity exactly where the unit is marked
abbrev pub colour : Core → ℕ → Bool
colour c u = if c.marked u then c.parity else not c.parity

-- the head of a unit, which is Live until it is Doomed
abbrev pub head : Core → ℕ → Head
head c u = record { life = if c.doomed u then life.Doomed else life.Live; colour = colour c u; polls = 0 }

abbrev pub head_word : Core → ℕ → ℕ
head_word c u = values.head_word (head c u)

-- 0 for none, else 1 and the unit
abbrev pub cell_word : Option ℕ → ℕ
cell_word None = 0
cell_word (Some u) = 1 + u

-- the word with these bits, of which it has so many
unfoldable pub bits_word : (ℕ → Bool) → ℕ → ℕ
bits_word f zero = 0
bits_word f (suc n) = bits_word f n + bit (f n) * 2 ^ n

-- bit i of word w of a row stands for unit 64 * w + i
abbrev pub row_word : (ℕ → Place) → ℕ → ℕ → ℕ
row_word place row word = bits_word (λ i. row_bit place row (64 * word + i)) 64

-- and so it does in a word of the root set
abbrev pub root_bit : Sizes → Core → ℕ → Bool
root_bit z c p = nat_lt p z.units && is_some (c.root p)

abbrev pub root_word : Sizes → Core → ℕ → ℕ
root_word z c word = bits_word (λ i. root_bit z c (64 * word + i)) 64

-- what a cell or strong pointer names
abbrev pub target_of : Sizes → Core → Cell → Option ℕ
target_of z c (CellOf u n) = c.cell n
target_of z c (StrongOf lane number) = c.root (strong_place z lane number)

-- the word that a step finds
abbrev pub old_word : Sizes → Core → Step → ℕ
old_word z c (Shade u) = head_word c u
old_word z c (LoadHead u) = head_word c u
old_word z c (DoomHead u) = head_word c u
old_word z c (SwapCell cell to) = cell_word (target_of z c cell)
old_word z c (LoadCell cell) = cell_word (target_of z c cell)
old_word z c (AddRow row u) = row_word c.place row (u / 64)
old_word z c (TakeRow row word) = row_word c.place row word
old_word z c (LoadRow row word) = row_word c.place row word
old_word z c (RootBit bit u on) = root_word z c (bit / 64)
old_word z c _ = gate_word z c

-- ---- laws

-- a word of bits has each of them at its place, and no other, and as many ones as there are
pub record ShowsBits (f : ℕ → Bool) (n : ℕ) : Type 0 where
  pub below : bits_word f n < 2 ^ n
  pub each : (i : ℕ) → i < n → bit_at (bits_word f n) i ≡ bit (f i)
  pub none : (bits_word f n ≡ 0) ↔ ((i : ℕ) → i < n → f i ≡ false)
  pub ones : count_ones (bits_word f n) ≡ count_below f n

-- where one bit is set or cleared the word follows by one atomic step
pub record FollowsBit (f g : ℕ → Bool) (k : ℕ) : Type 0 where
  pub set : g k ≡ true → bits_word g 64 ≡ bit_or (bits_word f 64) (2 ^ k)
  pub cleared : g k ≡ false → bits_word g 64 ≡ bit_and (bits_word f 64) (bit_not w64 (2 ^ k))

abbrev pub BitsAreShown : Type 0
BitsAreShown = (f : ℕ → Bool) (n : ℕ) → ShowsBits f n

abbrev pub BitsFollow : Type 0
BitsFollow = (f g : ℕ → Bool) (k : ℕ) → k < 64 → ((i : ℕ) → i ≢ k → g i ≡ f i) → FollowsBit f g k
