-- Pairs: the serials of objects, and whether they are garbage.
use Rattle.std.specs.Prelude.{◌≡◌, ℕ, ◌+◌, ◌*◌, ◌%◌, ◌⊎◌, Bool, true, Option, Some, None}
use Rattle.word_layout.specs.Values.{bit}
use Rattle.heap_rule.specs.Types.{Name, Weak}

-- the value 2 ^ 32: the bit of a serial word that says garbage
abbrev pub garbage_bit : ℕ
garbage_bit = 4294967296

-- the serial in a serial word
abbrev pub low_half : ℕ → ℕ
low_half word = word % garbage_bit

abbrev pub serial_in : Option Weak → ℕ
serial_in None = 0
serial_in (Some w) = w.serial

-- the serial, and bit 32 where the object is marked as garbage
abbrev pub serial_word : Option Weak → Bool → ℕ
serial_word pair garbage = serial_in pair + garbage_bit * bit garbage

-- a word that a release may have cleared
abbrev pub IsOrGone : Bool → ℕ → ℕ → Type 0
IsOrGone gone word value = (word ≡ value) ⊎ ((gone ≡ true) × (word ≡ 0))

-- the serial words of objects that live, and of removed ones; and a pair has the index of its object
pub record PairsShown (index : Name → ℕ) (serial : ℕ → ℕ) (clears : Name → Bool) (living removed garbage : Name → Bool) (pair_of : Name → Option Weak) : Type 0 where
  pub here : (n : Name) → living n ≡ true → serial (index n) ≡ serial_word (pair_of n) (garbage n)
  pub left : (n : Name) → removed n ≡ true → IsOrGone (clears n) (serial (index n)) (serial_word (pair_of n) (garbage n))
  pub indexes : (n : Name) (w : Weak) → (living n ≡ true) ⊎ (removed n ≡ true) → pair_of n ≡ Some w → w.index ≡ index n
