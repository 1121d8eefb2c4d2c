-- Whether a unit may be made.
use Rattle.std.specs.Prelude.{◌≡◌, ℕ, ◌<◌, ◌≤◌, Result, Ok, Err}
use Rattle.heap_plain.specs.Types.{CreateErr}
use Rattle.heap_plain.specs.Types.create

-- why so many are refused, where so many names and indexes are left
abbrev pub Refuses : ℕ → ℕ → ℕ → CreateErr → Type 0
Refuses asked names indexes (create.NamesSpent left) = (left ≡ names) × (left < asked)
Refuses asked names indexes (create.Full free) = (asked ≤ names) × (free ≡ indexes) × (free < asked)

-- whether so many may be made
abbrev pub Decides : {T : Type 0} → ℕ → ℕ → ℕ → Result T CreateErr → Type 0
Decides asked names indexes (Ok made_them) = (asked ≤ names) × (asked ≤ indexes)
Decides asked names indexes (Err refused) = Refuses asked names indexes refused
