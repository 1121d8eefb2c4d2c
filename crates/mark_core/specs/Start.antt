-- The machine at its start, with units and without.
use Rattle.std.specs.Prelude.{ℕ, nat_le, Bool, true, false, List, None}
use Rattle.mark_core.specs.Machine.{Idle, Nowhere, NoJob, Sizes, Core}

-- live units with these cells, which are empty; no root, phase Idle
abbrev pub start : Sizes → (ℕ → List ℕ) → Core
start z cells = record {
  phase = Idle;
  parity = false;
  dirty = false;
  lane_open = λ lane. false;
  marker_open = λ marker. false;
  doomed = λ u. nat_le z.units u;
  marked = λ u. true;
  cells = cells;
  cell = λ n. None;
  root = λ p. None;
  place = λ u. Nowhere;
  scanned = λ u. false;
  holds = λ lane u. false;
  hand = λ lane. None;
  lane_owes = λ lane. false;
  scan = λ marker. None;
  marker_owes = λ marker. false;
  job = NoJob;
  own_hand = None;
  own_found = λ u. false;
}

-- without units: each place is doomed, whatever its colour and its cells
abbrev pub bare : (ℕ → Bool) → (ℕ → List ℕ) → Core
bare marked cells = record (start (record { lanes = 0; markers = 0; units = 0; strong = 0 }) cells) { doomed = λ u. true; marked = marked }
