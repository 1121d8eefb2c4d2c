-- The serials of weak pointers.
use Rattle.std.specs.Prelude.{◌≡◌, ℕ, ◌+◌, ◌*◌, ◌<◌, nat_lt, ◌==◌, ◌&&◌, not, Bool, if◌then◌else◌, List, [], ◌∷◌, length, get_or, Option, Some, None, Result, Ok, Err}
use Rattle.std.proofs.Math.ListN.{set}
use Rattle.heap_plain.specs.Types.{Weak, SerialsSpent}

-- at each index the serial of the weak pointers to the object that stands there, or 0 where it has none; and how many serials each lane has drawn
pub record Serials : Type 0 where
  pub serials : List ℕ
  pub drawn : List ℕ

abbrev pub serial_at : List ℕ → ℕ → ℕ
serial_at serials i = get_or serials i 0

-- the weak pointer to the object at an index, if it has one
abbrev pub weak_at : List ℕ → ℕ → Option Weak
weak_at serials i = if serial_at serials i == 0 then None else Some (record { index = i; serial = serial_at serials i })

-- whether a pair is that weak pointer of the object at its index
abbrev pub is_weak_at : List ℕ → Weak → Bool
is_weak_at serials pair = nat_lt pair.index (length serials) && (not (pair.serial == 0) && (serial_at serials pair.index == pair.serial))

-- the index of that object, if it is
abbrev pub weak_index : List ℕ → Weak → Option ℕ
weak_index serials pair = if is_weak_at serials pair then Some pair.index else None

-- the next serial of a lane
abbrev pub next_serial : List ℕ → ℕ → ℕ
next_serial drawn lane = (get_or drawn lane 0 + 1) * 16 + lane

-- the object at an index gets the lane's next serial, or the lane has drawn all its serials
abbrev pub Draws : ℕ → ℕ → ℕ → Serials → Serials → Result Weak SerialsSpent → Type 0
Draws lane i limit old new (Ok pair) = (get_or old.drawn lane 0 < limit) × (pair ≡ record { index = i; serial = next_serial old.drawn lane })
    × (new ≡ record { serials = set old.serials i (next_serial old.drawn lane); drawn = set old.drawn lane (get_or old.drawn lane 0 + 1) })
Draws lane i limit old new (Err spent) = (spent.made ≡ get_or old.drawn lane 0) × (spent.made ≡ limit) × (new ≡ old)

-- no object stands at these indexes any more
abbrev pub all_cleared : List ℕ → List ℕ → List ℕ
all_cleared serials [] = serials
all_cleared serials (i ∷ rest) = all_cleared (set serials i 0) rest
