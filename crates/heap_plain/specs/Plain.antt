-- The invariant of a plain heap.
use Rattle.std.specs.Prelude.{◌≡◌, ◌≢◌, ℕ, ◌∷◌, ◌++◌, List, Option, None, true, count_by}
use Rattle.std.specs.List.{list_all, AllByRecursion}
use Rattle.heap_plain.specs.Types.{Name, Ref, HookCall, Act, Entry, Marker, Collector, Marking, Gathering}
use Rattle.heap_plain.specs.Types.act
use Rattle.world_model.specs.Sizes.{Sizes}
use Rattle.world_model.specs.World.{World, occupied}
use Rattle.world_model.specs.State.{State}
use Rattle.world_model.specs.Histories.{Legal, after, state_of}
use Rattle.world_model.specs.Calls.{by, KeepsForScans, BetweenCalls, is_mark_note, is_purge_part, is_purge_step}
use Rattle.world_model.specs.Follows.{RootsMarked}
use Rattle.world_model.specs.MarkerSteps.{member_count, WasWithin}
use Rattle.world_model.specs.Hooks.{ReadyTest, SameTest, AreCalledFor, Meets}
use Rattle.heap_plain.specs.Parts.{Parts, Shown, Holds}
use Rattle.heap_plain.specs.Gates.{Gates}
use Rattle.heap_plain.specs.Units.{Units}
use Rattle.heap_plain.specs.Roots.{RootsShow, StrongShow, GarbageShow}
use Rattle.heap_plain.specs.Pairing.{PairsShow}
use Rattle.heap_plain.specs.Cells.{Cells}
use Rattle.heap_plain.specs.Colouring.{Colouring}
use Rattle.heap_plain.specs.Stocking.{Stocking}
use Rattle.heap_plain.specs.Destroying.{Destroying}

-- the vectors show a world, which units were kept, made and scanned, and which object was asked last
pub record ShowsWorld (z : Sizes) (p : Parts) (w : World) (kept fresh black : List Name) (asked : Option Name) : Type 0 where
  pub gate : Gates z p.gate w.phase w.opened
  pub open gate use *
  pub objects : Units z p.objects w.kinds w.units
  pub open objects use *
  pub rows : Cells z p.names p.lives p.rows w.kinds w.cell w.plain
  pub open rows use *
  pub roots : RootsShow z p.names p.roots w.rooted
  pub strong : StrongShow z p.names p.lives p.strong w.strong
  pub pairs : PairsShow z p.names p.pairs w.pairs
  pub garbage : GarbageShow z p.names p.lives p.garbage w.garbage
  pub colours : Colouring z p.phase p.objects p.colours w.units kept fresh black
  pub open colours use *
  pub stock : Stocking z p.names p.lives p.stock w.kinds (occupied w)
  pub open stock use *
  pub ends : Destroying z p.phase p.objects p.ends w.removals w.last_removed w.found w.swept asked
  pub open ends use *

-- the vectors show a state
abbrev pub Shows : Sizes → Parts → State → Type 0
Shows z p s = ShowsWorld z p s.world s.marks.kept s.marks.fresh s.marks.scanned s.collector.asked

-- between two calls: nothing is under way, and while a collection marks each root unit is marked
pub record IsAtRest (s : State) : Type 0 where
  pub between : BetweenCalls s
  pub roots : s.world.phase ≡ Marking → RootsMarked s

-- the history is legal and at rest, and the vectors show the state that it leaves
pub record IsPlain (z : Sizes) (p : Parts) (history : List Entry) : Type 0 where
  pub legal : Legal z history
  pub rest : IsAtRest (state_of history)
  pub shows : Shows z p (state_of history)

-- ---- in the midst of a purge

-- A purge has made so many steps since the history was `old`, and its hooks were called for them.
pub record IsPurging (z : Sizes) (old : Shown) (before now : Option (List HookCall)) (was test : ReadyTest) (steps : ℕ) (p : Parts) (history : List Entry) : Type 0 where
  pub rest : IsAtRest (state_of old.history)
  pub parts : List Act
  pub grown : history ≡ old.history ++ by Collector parts
  pub only : list_all is_purge_part parts ≡ true
  pub counted : steps ≡ count_by is_purge_step parts
  pub legal : Legal z history
  pub shows : Shows z p (state_of history)
  pub ran : (state_of history).collector.steps ≡ steps
  pub agreed : (state_of history).collector.agreed ≡ None
  pub kinds : (after history).kinds ≡ (after old.history).kinds
  pub gathered : p.phase ≢ Gathering
  pub held : (lane : ℕ) (r : Ref) → Holds old lane r → Holds (record { history = history; names = p.names }) lane r
  pub called : AreCalledFor (after old.history) (by Collector parts) before now
  pub tested : AllByRecursion (λ e. Meets (after old.history) was e.act) (by Collector parts)
  pub same : SameTest was test

-- ---- in the midst of a slice

-- The slice of a marker has scanned so many objects since the state was `was`, in which it was not open.
pub record Sliced (z : Sizes) (was : State) (marker budget total : ℕ) (p : Parts) (s : State) : Type 0 where
  pub world : s.world ≡ record (was.world) { opened = Marker marker ∷ was.world.opened }
  pub earlier : List World
  pub moments : (s.slices marker).moments ≡ s.world ∷ earlier
  pub total_is : total ≡ member_count (s.slices marker).scanned
  pub within : WasWithin budget (s.slices marker).scanned
  pub shows : ShowsWorld z p was.world s.marks.kept s.marks.fresh s.marks.scanned s.collector.asked

-- A slice has scanned so many objects since the history was `old`.
pub record IsSlicing (z : Sizes) (old : Shown) (marker budget total : ℕ) (p : Parts) (history : List Entry) : Type 0 where
  pub rest : IsAtRest (state_of old.history)
  pub notes : List Act
  pub grown : history ≡ old.history ++ by (Marker marker) (act.SliceOpen ∷ notes)
  pub only : list_all is_mark_note notes ≡ true
  pub needed : KeepsForScans (after old.history) notes
  pub legal : Legal z history
  pub names : p.names ≡ old.names
  pub sliced : Sliced z (state_of old.history) marker budget total p (state_of history)
