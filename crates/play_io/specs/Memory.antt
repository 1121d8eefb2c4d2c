-- Bytes in memory that move by pieces, in calls of which some fail.
use Rattle.std.specs.Prelude.{ℕ, ◌+◌, ◌-◌, ◌^◌, min, List, ◌++◌, length, take, drop, Contains, Result, Ok, Err}
use Rattle.play_io.specs.declared.sink.PutErr.{PutErr}
use Rattle.play_io.specs.declared.sink.PutErr.TheVariants as put

-- a source or a sink in memory
pub record MemState : Type 0 where
  -- the bytes that are left in a source, or that a sink holds
  pub bytes : List ℕ
  -- how many bytes a call moves at most
  pub piece : ℕ
  -- the numbers of the calls that fail, from 1
  pub fails : List ℕ
  -- how many calls there were, and how many of them failed
  pub calls : ℕ
  pub faults : ℕ

-- one before its first call
abbrev pub uncalled : List ℕ → ℕ → List ℕ → MemState
uncalled bytes piece fails = record { bytes = bytes; piece = piece; fails = fails; calls = 0; faults = 0 }

-- the number of the next call is listed
abbrev pub FailsNext : MemState → Type 0
FailsNext m = Contains m.fails (m.calls + 1)

-- with one call more, up to the greatest u64
abbrev pub with_call : MemState → MemState
with_call m = record m { calls = min (m.calls + 1) (2 ^ 64 - 1) }

-- with one call more, which failed
abbrev pub with_fault : MemState → MemState
with_fault m = record (with_call m) { faults = m.faults + 1 }

-- how many bytes a take gives to a buffer of this length, where it does not fail
abbrev pub given_count : MemState → ℕ → ℕ
given_count m room = min (min (length m.bytes) room) m.piece

-- what a take leaves
abbrev pub after_take : {E : Type 0} → MemState → Result ℕ E → MemState
after_take m (Ok n) = record (with_call m) { bytes = drop n m.bytes }
after_take m (Err e) = with_fault m

-- what a put leaves
abbrev pub after_put : MemState → List ℕ → Result ℕ PutErr → MemState
after_put m bytes (Ok n) = record (with_call m) { bytes = m.bytes ++ take n bytes }
after_put m bytes (Err put.Failed) = with_fault m
after_put m bytes (Err put.Memory) = with_call m
