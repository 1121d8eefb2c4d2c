-- Pairs of index and serial, as weak variables have them and as fields keep them.
use Rattle.std.specs.Prelude.{ℕ, ◌/◌, ◌%◌, nat_lt, Bool, Option, Some, None}
use Rattle.world_play.specs.Types.{Weak}

-- the empty pair
abbrev pub no_pair : Weak
no_pair = record { index = 0; serial = 0 }

-- the pair whose word this is
abbrev pub pair_in : ℕ → Weak
pair_in word = record { index = word % 4294967296; serial = word / 4294967296 }

-- the pair has a serial; the empty one has none
abbrev pub has_serial : Weak → Bool
has_serial pair = nat_lt 0 pair.serial

-- the pair of an index with serial 31, which no lane draws; an index is below 2^32
abbrev pub forged : ℕ → Weak
forged index = record { index = index % 4294967296; serial = 31 }

-- the value of `store`: that of a weak variable, or the empty one
abbrev pub stored : {W : Type 0} → W → (ℕ → W) → Option ℕ → W
stored empty weaks None = empty
stored empty weaks (Some weak) = weaks weak
