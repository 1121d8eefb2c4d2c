-- The notes of a collection, and what they leave of the vectors.
use Rattle.std.specs.Prelude.{◌≡◌, ◌≢◌, ℕ, ◌<◌, ◌≤◌, Bool, true, false, List, [], ◌∷◌, ◌++◌, Option}
use Rattle.std.specs.Option.{option_to_list}
use Rattle.heap_plain.specs.Types.{Name, Phase, Idle, Marking, Begin, Commit, MarkStop}
use Rattle.heap_plain.specs.Types.begin
use Rattle.heap_plain.specs.Types.commit
use Rattle.heap_plain.specs.Types.stop
use Rattle.heap_plain.specs.Parts.{name_at}

-- ---- answers

-- what begin answers, where so many removed objects are left and so many frames are open
abbrev pub MayStart : Phase → ℕ → ℕ → Begin → Type 0
MayStart phase left open_count begin.Started = (phase ≡ Idle) × (left ≡ 0) × (open_count ≡ 0)
MayStart phase left open_count (begin.Running at) = (at ≡ phase) × (phase ≢ Idle)
MayStart phase left open_count (begin.Purging n) = (phase ≡ Idle) × (n ≡ left) × (0 < left)
MayStart phase left open_count (begin.Frames n) = (phase ≡ Idle) × (left ≡ 0) × (n ≡ open_count) × (0 < open_count)

abbrev pub starts : Begin → Bool
starts begin.Started = true
starts _ = false

-- what commit answers, where so many units are grey and so many frames are open
abbrev pub MayEnd : Phase → ℕ → ℕ → Commit → Type 0
MayEnd phase grey open_count commit.Done = (phase ≡ Marking) × (grey ≡ 0) × (open_count ≡ 0)
MayEnd phase grey open_count (commit.NotMarking at) = (at ≡ phase) × (phase ≢ Marking)
MayEnd phase grey open_count (commit.Unfinished word bits) = (phase ≡ Marking) × (0 < grey) × (word ≡ 0) × (bits ≡ 1)
MayEnd phase grey open_count commit.Stores = ⊥
MayEnd phase grey open_count (commit.Frames n) = (phase ≡ Marking) × (grey ≡ 0) × (n ≡ open_count) × (0 < open_count)

abbrev pub is_done : Commit → Bool
is_done commit.Done = true
is_done _ = false

-- ---- names

-- the names at these indexes
abbrev pub names_at : List (Option Name) → List ℕ → List Name
names_at names [] = []
names_at names (i ∷ rest) = option_to_list (name_at names i) ++ names_at names rest

-- ---- a slice of marking

-- why a slice stops that scanned so many objects
abbrev pub StopsBy : ℕ → ℕ → MarkStop → Type 0
StopsBy scanned budget stop.Idle = scanned < budget
StopsBy scanned budget stop.Spent = budget ≤ scanned
