-- The queue of destruction: who is to be begun, and who is asked next.
use Rattle.std.specs.Prelude.{◌≡◌, ℕ, ◌<◌, ◌≤◌, ◌==◌, if◌then◌else◌, List, [], ◌∷◌, ◌++◌, length, take, drop}

-- the indexes of the removed objects that are not begun, and of those that are begun and not finished, each in its order; and how many there may be
pub record Queued : Type 0 where
  pub room : ℕ
  pub todo : List ℕ
  pub ring : List ℕ

-- the queue that these places have: those asked in this round are behind the others
abbrev pub queued : List ℕ → ℕ → ℕ → ℕ → ℕ → Queued
queued order listed begun from kept = record {
  room = length order;
  todo = drop begun (take listed order);
  ring = drop from (take begun order) ++ take kept order;
}

-- the places are in order, none is asked before all are begun, and where a round ends the next one has begun
pub record HasPlaces (room listed begun from kept : ℕ) : Type 0 where
  pub listed_few : listed ≤ room
  pub begun_few : begun ≤ listed
  pub from_few : from ≤ begun
  pub kept_few : kept ≤ from
  pub early : begun < listed → from ≡ 0
  pub turned : from ≡ begun → begun ≡ 0

-- the first that was to be begun is begun, and is asked behind the others
pub record Begins (old new : Queued) (i : ℕ) : Type 0 where
  pub room : new.room ≡ old.room
  pub first : old.todo ≡ i ∷ new.todo
  pub asked : new.ring ≡ old.ring ++ i ∷ []

-- the end of the queue, the next place to be asked and the number of places that are kept, where a round ends when its end is reached
abbrev pub turned : ℕ → ℕ → ℕ → ℕ × ℕ × ℕ
turned begun from kept = if from == begun then (kept, 0, 0) else (begun, from, kept)
