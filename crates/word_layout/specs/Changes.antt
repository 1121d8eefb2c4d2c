-- What one atomic step makes of the value of a word.
use Rattle.std.specs.Prelude.{◌≡◌, ◌≢◌, ℕ, ◌+◌, ◌<◌, ◌^◌, true, false, bit_and, bit_or, bit_xor, count_ones, not}
use Rattle.std.specs.Int.{bit_at, bit_not, w64}
use Rattle.word_layout.specs.Types.{Gate, Head, Phase}
use Rattle.word_layout.specs.Values.{gate_word, IsGate, phase_number, head_word, IsHead}

-- one more frame adds 256 to the gate
abbrev pub FramesAdd : Type 0
FramesAdd = (g : Gate) → gate_word (record g { frames = g.frames + 1 }) ≡ gate_word g + 256

-- bits 0 and 1 of the gate are its phase, and bit 2 its parity
pub record PhaseIsBits0And1 (g : Gate) : Type 0 where
  pub moved : (p : Phase) → bit_or (bit_and (gate_word g) (bit_not w64 3)) (phase_number p) ≡ gate_word (record g { phase = p })
  pub flipped : bit_xor (gate_word g) 4 ≡ gate_word (record g { parity = not g.parity })

-- bit 3 of the gate is its dirty bit, and bit 3 of a head its colour
pub record DirtyIsBit3 (g : Gate) : Type 0 where
  pub set : bit_or (gate_word g) 8 ≡ gate_word (record g { dirty = true })
  pub cleared : bit_and (gate_word g) (bit_not w64 8) ≡ gate_word (record g { dirty = false })

pub record ColourIsBit3 (h : Head) : Type 0 where
  pub set : bit_or (head_word h) 8 ≡ head_word (record h { colour = true })
  pub cleared : bit_and (head_word h) (bit_not w64 8) ≡ head_word (record h { colour = false })

-- a word of a row as the set of its bits, after one of them was set, and how many they are
pub record SetsBit (w k : ℕ) : Type 0 where
  pub one : bit_at (bit_or w (2 ^ k)) k ≡ 1
  pub count : count_ones (bit_or w (2 ^ k)) + bit_at w k ≡ count_ones w + 1
  pub others : (i : ℕ) → i ≢ k → bit_at (bit_or w (2 ^ k)) i ≡ bit_at w i

-- and after one of them was cleared
pub record ClearsBit (w k : ℕ) : Type 0 where
  pub one : bit_at (bit_and w (bit_not w64 (2 ^ k))) k ≡ 0
  pub count : count_ones (bit_and w (bit_not w64 (2 ^ k))) + bit_at w k ≡ count_ones w
  pub others : (i : ℕ) → i < 64 → i ≢ k → bit_at (bit_and w (bit_not w64 (2 ^ k))) i ≡ bit_at w i

-- ---- laws

abbrev pub DirtyChanges : Type 0
DirtyChanges = (g : Gate) → IsGate g → DirtyIsBit3 g

abbrev pub PhaseChanges : Type 0
PhaseChanges = (g : Gate) → IsGate g → PhaseIsBits0And1 g

abbrev pub ColourChanges : Type 0
ColourChanges = (h : Head) → IsHead h → ColourIsBit3 h

abbrev pub BitsChange : Type 0
BitsChange = (w k : ℕ) → w < 2 ^ 64 → k < 64 → SetsBit w k × ClearsBit w k
