-- The values in range, and their words.
use Rattle.std.specs.Prelude.{◌≡◌, ℕ, ◌+◌, ◌*◌, ◌<◌, ◌≤◌, Bool, true, false, Option, Some, None, IfSome, IsTrue}
use Rattle.world_model.specs.LaneSteps.{is_readiness}
use Rattle.word_layout.specs.Types.{Phase, Idle, Marking, Gathering, Ref, Weak, Kind, Ready, Gate, Life, Head, Stock}
use Rattle.word_layout.specs.Types.ready
use Rattle.word_layout.specs.Types.life

-- what is unpacked of a word: the value in range that it stands for, of which there is one; or none where it stands for none
abbrev pub Unpacks : {V : Type 0} → (V → Type 0) → (V → ℕ) → ℕ → Option V → Type 0
Unpacks In word w (Some v) = In v × (word v ≡ w)
Unpacks In word w None = (v : _) → In v → word v ≡ w → ⊥

-- different values in range have different words
abbrev pub AreDifferent : {V : Type 0} → (V → Type 0) → (V → ℕ) → Type 0
AreDifferent In word = (u v : _) → In u → In v → word u ≡ word v → u ≡ v

-- a bit as a number
abbrev pub bit : Bool → ℕ
bit true = 1
bit false = 0

-- ---- the gate

abbrev pub phase_number : Phase → ℕ
phase_number Idle = 0
phase_number Marking = 1
phase_number Gathering = 2

abbrev pub gate_word : Gate → ℕ
gate_word g = phase_number g.phase + (4 * bit g.parity + (8 * bit g.dirty + 256 * g.frames))

abbrev pub IsGate : Gate → Type 0
IsGate g = g.frames < 256

-- ---- heads

abbrev pub life_number : Life → ℕ
life_number life.Free = 0
life_number life.Live = 1
life_number life.Doomed = 2
life_number life.Begun = 3
life_number life.Finished = 4

abbrev pub head_word : Head → ℕ
head_word h = life_number h.life + (8 * bit h.colour + 65536 * h.polls)

abbrev pub IsHead : Head → Type 0
IsHead h = h.polls < 65536

-- ---- weak pointers

-- every word is that of a pair
abbrev pub weak_word : Weak → ℕ
weak_word w = 4294967296 * w.serial + w.index

abbrev pub IsWeak : Weak → Type 0
IsWeak w = (w.index < 4294967296) × (w.serial < 4294967296)

-- ---- references

-- a reference to an object, or none
abbrev pub ref_word : Option Ref → ℕ
ref_word None = 0
ref_word (Some r) = 16777216 * r.name.count + (1048576 * r.name.lane + r.index)

abbrev pub IsRef : Option Ref → Type 0
IsRef None = Unit {0}
IsRef (Some r) = (1 ≤ r.name.count) × (r.name.count < 68719476736) × (r.name.lane < 16) × (r.index < 1048576)

-- ---- kinds

-- after how many refused polls an object is ready, at most 100; and 127 for never
abbrev pub ready_number : Ready → ℕ
ready_number (ready.After n) = n
ready_number ready.Never = 127

abbrev pub kind_word : Kind → ℕ
kind_word k = k.class.0 + (4096 * k.refs + (524288 * k.plain + 67108864 * ready_number k.ready))

abbrev pub IsKind : Kind → Type 0
IsKind k = (k.class.0 < 4096) × (k.refs < 128) × (k.plain < 128) × IsTrue (is_readiness k.ready)

-- ---- stocks of free items

-- the place of an item, from 1, and 0 for none
abbrev pub place_number : Option ℕ → ℕ
place_number None = 0
place_number (Some i) = i + 1

abbrev pub stock_word : Stock → ℕ
stock_word s = place_number s.first + 4294967296 * s.count

abbrev pub IsStock : Stock → Type 0
IsStock s = IfSome s.first (λ i. i < 1048576) × (s.count ≤ 1048576)
