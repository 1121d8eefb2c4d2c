-- What a marker may do.
use Rattle.std.specs.Prelude.{◌≡◌, ℕ, ◌<◌, ◌≤◌, false, not, ◌⊎◌, List, [], ◌∷◌, length, IsTrue, ⊤}
use Rattle.std.specs.List.{list_any, sum_by}
use Rattle.world_model.specs.Types.{Name, Marking, Marker, Marked, MarkStop, Act}
use Rattle.world_model.specs.Types.act
use Rattle.world_model.specs.Types.stop
use Rattle.world_model.specs.NameLists.{same_pass}
use Rattle.world_model.specs.World.{unit_of, in_world, is_open}
use Rattle.world_model.specs.Reach.{graph, IsUnit, Refers}
use Rattle.world_model.specs.State.{State, Slicing, AtSomeMoment, is_marked, is_grey, grey_units}
use Rattle.world_model.specs.LaneSteps.{IsWhite}

-- a marker may mark a unit to which a unit that is grey now referred at some moment of the slice
pub record MarkerMarks (s : State) (marker : ℕ) (of : Name) : Type 0 where
  pub white : IsWhite s of
  pub from : List Name
  pub unit : IsUnit (graph s.world) from
  pub grey : IsTrue (is_grey s.marks from)
  pub refers : AtSomeMoment (s.slices marker).moments (λ w. Refers (graph w) from (unit_of s.world of))

-- a grey unit becomes black: each unit to which it refers is marked
pub record Scans (s : State) (of : Name) : Type 0 where
  pub marking : s.world.phase ≡ Marking
  pub living : IsTrue (in_world s.world of)
  pub grey : IsTrue (is_grey s.marks (unit_of s.world of))
  pub targets : (v : List Name) → IsUnit (graph s.world) v → Refers (graph s.world) (unit_of s.world of) v → IsTrue (is_marked s.marks v)

-- the number of members of these units
abbrev pub member_count : List (List Name) → ℕ
member_count units = sum_by length units

-- the budget was not spent before the last unit, which comes first here
abbrev pub WasWithin : ℕ → List (List Name) → Type 0
WasWithin budget [] = ⊤
WasWithin budget (last ∷ before) = member_count before < budget

-- another lane or marker was open at some moment of the slice
abbrev pub HadCompany : ℕ → Slicing → Type 0
HadCompany marker slice = AtSomeMoment slice.moments (λ w. IsTrue (list_any (λ p. not (same_pass p (Marker marker))) w.opened))

-- why a slice may stop: idle, it found nothing grey, or others may have had grey units in hand
abbrev pub MayStop : State → ℕ → ℕ → Marked → MarkStop → Type 0
MayStop s marker budget reply stop.Spent = budget ≤ reply.scanned
MayStop s marker budget reply stop.Idle =
    (reply.scanned < budget) × ((grey_units s ≡ []) ⊎ HadCompany marker (s.slices marker) ⊎ IsTrue (s.slices marker).amid_begin)

pub record ClosesSlice (s : State) (marker budget : ℕ) (reply : Marked) : Type 0 where
  pub scanned : reply.scanned ≡ member_count (s.slices marker).scanned
  pub within : WasWithin budget (s.slices marker).scanned
  pub stop : MayStop s marker budget reply reply.stop

-- an entry of a marker stands in its open slice, and SliceOpen outside one
abbrev pub InSlice : State → ℕ → Act → Type 0
InSlice s marker act.SliceOpen = is_open s.world (Marker marker) ≡ false
InSlice s marker _ = IsTrue (is_open s.world (Marker marker))

-- what a marker may do, and nothing else
abbrev pub MarkerMay : State → ℕ → Act → Type 0
MarkerMay s marker act.SliceOpen = ⊤
MarkerMay s marker (act.Kept of) = MarkerMarks s marker of
MarkerMay s marker (act.Scanned of) = Scans s of
MarkerMay s marker (act.Slice budget reply) = ClosesSlice s marker budget reply
MarkerMay s marker _ = ⊥
