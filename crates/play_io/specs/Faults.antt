-- Bytes that are told, and faults that are counted.
use Rattle.std.specs.Prelude.{◌≡◌, ℕ, ◌+◌, ◌-◌, ◌^◌, ◌≤◌, ◌<◌, min, List, [], ◌++◌, length, take, drop, Option, Some, None, Result, Ok, Err}
use Rattle.play_io.specs.declared.sink.PutErr.{PutErr}
use Rattle.play_io.specs.declared.sink.PutErr.TheVariants as put

-- the count rose by one, or stands at the greatest u64
abbrev pub Rose : ℕ → ℕ → Type 0
Rose before now = now ≡ min (before + 1) (2 ^ 64 - 1)

-- what the count of faults says after a take: it rose exactly where the take failed
abbrev pub TakeCause : {E : Type 0} → ℕ → ℕ → Result ℕ E → Type 0
TakeCause before now (Ok n) = now ≡ before
TakeCause before now (Err e) = Rose before now

-- what a take gives and leaves, where the bytes are told: the next ones, in front of the buffer, and none of them only where none are left
abbrev pub Takes : {E : Type 0} → Option (List ℕ) → Option (List ℕ) → Result ℕ E → List ℕ → Type 0
Takes None new r buf = new ≡ None
Takes (Some xs) new (Ok n) buf = (n ≤ length xs) × (take n buf ≡ take n xs) × (new ≡ Some (drop n xs)) × (n ≡ 0 → xs ≡ [])
Takes (Some xs) new (Err e) buf = new ≡ Some xs

-- what the count of faults says after a put: it rose exactly where the put failed or took nothing
abbrev pub PutCause : ℕ → ℕ → Result ℕ PutErr → Type 0
PutCause before now (Ok n) = (n ≡ 0 → Rose before now) × (0 < n → now ≡ before)
PutCause before now (Err put.Failed) = Rose before now
PutCause before now (Err put.Memory) = now ≡ before

-- what a put leaves, where the bytes are told: the first bytes that it was given stand behind what it held
abbrev pub Puts : Option (List ℕ) → Option (List ℕ) → List ℕ → Result ℕ PutErr → Type 0
Puts None new bytes r = new ≡ None
Puts (Some xs) new bytes (Ok n) = new ≡ Some (xs ++ take n bytes)
Puts (Some xs) new bytes (Err e) = new ≡ Some xs
