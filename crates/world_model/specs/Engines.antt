-- The words of an engine's contract. An engine means two things: its history, and for each lane the references that its open frame holds.
use Rattle.std.specs.Prelude.{◌≢◌, ◌<◌, ◌≤◌, ◌+◌, ◌*◌, ℕ, Bool, true, false, not, List, length, Option, option_map, Result, Ok, Err, IsTrue}
use Rattle.std.specs.List.{list_any}
use Rattle.world_model.specs.Types.{Name, Ref, Kind, Pass, Lane, Marker, Weak, CreateErr, DissolveErr, SerialsSpent, Act, Entry}
use Rattle.world_model.specs.Types.act
use Rattle.world_model.specs.Types.create
use Rattle.world_model.specs.Sizes.{Sizes}
use Rattle.world_model.specs.World.{World, is_open, made}
use Rattle.world_model.specs.Histories.{after}

-- what the lanes hold: a test of lane and reference
abbrev pub Holdings : Type 1
Holdings = ℕ → Ref → Type 0

-- the lane is one of the shape, and its frame is open
pub record IsInFrame (z : Sizes) (history : List Entry) (lane : ℕ) : Type 0 where
  pub in_range : lane < z.lanes
  pub opened : IsTrue (is_open (after history) (Lane lane))

abbrev pub is_marker : Pass → Bool
is_marker (Marker marker) = true
is_marker _ = false

-- no slice is open
abbrev pub no_slice : World → Bool
no_slice w = not (list_any is_marker w.opened)

-- what was held is held
abbrev pub KeepsHeld : Holdings → Holdings → Type 0
KeepsHeld old new = (lane : ℕ) (r : Ref) → old lane r → new lane r

-- what the other lanes held is held
abbrev pub KeepsOthers : ℕ → Holdings → Holdings → Type 0
KeepsOthers lane old new = (other : ℕ) (r : Ref) → other ≢ lane → old other r → new other r

-- the index is one of the lane's
pub record IsOfLane (z : Sizes) (lane i : ℕ) : Type 0 where
  pub low : lane * z.quota ≤ i
  pub high : i < lane * z.quota + z.quota

-- the name behind a reference, if there is one
abbrev pub name_of : Option Ref → Option Name
name_of to = option_map (λ r. r.name) to

-- the act by which so many objects are refused
abbrev pub act_of_refusal : ℕ → CreateErr → Act
act_of_refusal asked (create.Full free) = act.Full asked free
act_of_refusal asked (create.NamesSpent left) = act.NamesSpent asked left

-- the act by which a unit is taken apart, or is not, by the answer
abbrev pub act_of_dissolve : Name → Result ℕ DissolveErr → Act
act_of_dissolve at (Ok count) = act.Dissolve at count
act_of_dissolve at (Err refused) = act.NoDissolve at

-- the act of asking for a weak pointer, by its answer
abbrev pub act_of_weak : Name → Result Weak SerialsSpent → Act
act_of_weak at (Ok pair) = act.WeakOf at pair
act_of_weak at (Err spent) = act.NoSerial at spent.made

-- the act of a creation of these kinds, by its answer
abbrev pub act_of_create : {T : Type 0} → World → ℕ → List Kind → Result T CreateErr → Act
act_of_create w lane kinds (Ok made_them) = act.Make kinds (made w lane + 1)
act_of_create w lane kinds (Err refused) = act_of_refusal (length kinds) refused
