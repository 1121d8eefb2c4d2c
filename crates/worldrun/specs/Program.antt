-- What the program leaves, behind a run of `world_play`.
use Rattle.std.specs.Prelude.{◌≡◌, ℕ, ◌⊎◌, List, ◌++◌, Option, Some, Result, Ok, Err}
use Rattle.play_io.specs.Faults.{Rose}
use Rattle.play_io.specs.declared.sink.PutErr.{PutErr}
use Rattle.play_io.specs.declared.sink.PutErr.TheVariants as put
use Rattle.world_play.specs.Streams.{Gained, GainedStart}
use Rattle.world_play.specs.Ends.{EndsEarly, EndsWell}
use Rattle.world_play.specs.declared.words.Words.{Words}
use Rattle.world_play.specs.declared.status.Status.{Status}
use Rattle.world_play.specs.declared.status.Status.TheVariants as status
use Rattle.world_play.specs.declared.run.Run.{Run}

-- The last write, by the counts of faults before and after it: a run that was well ends with a write fault where it fails, and every other status stays.
abbrev pub Finishes : Status → Status → ℕ → ℕ → Type 0
Finishes ended how before now = ((how ≡ ended) × (now ≡ before)) ⊎ ((ended ≡ status.Ok) × (how ≡ status.WriteFault) × Rose before now)

-- a beginning of these bytes was gained, or all of them
abbrev pub GainedSome : Option (List ℕ) → Option (List ℕ) → List ℕ → Type 0
GainedSome had has text = (some : List ℕ) × (more : List ℕ) × (text ≡ some ++ more) × Gained had has some

-- The whole text was told; or, where a fault was counted, a beginning of it and not all; or, without memory, a beginning of it.
abbrev pub Tells : {A : Type 0} → Option (List ℕ) → Option (List ℕ) → ℕ → ℕ → List ℕ → Result A PutErr → Type 0
Tells had has before now text (Ok done) = Gained had has text × (now ≡ before)
Tells had has before now text (Err put.Failed) = GainedStart had has text × Rose before now
Tells had has before now text (Err put.Memory) = GainedSome had has text × (now ≡ before)

-- a run ended early, or it ended well and only the last write failed
abbrev pub Breaks : Words → Option (List ℕ) → Option (List ℕ) → Option (List ℕ) → Option (List ℕ) → ℕ → Run → Type 0
Breaks w left now had has count engine = EndsEarly w left had has count engine ⊎ EndsWell w left now had has engine
