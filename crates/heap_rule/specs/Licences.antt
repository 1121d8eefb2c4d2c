-- Licences: what calls under way need for their next entries.
use Rattle.std.specs.Prelude.{◌≡◌, ℕ, ◌⊎◌, Bool, true, List, Option, Some, Contains, ⊤}
use Rattle.std.specs.List.{list_any}
use Rattle.world_model.specs.NameLists.{same_pass}
use Rattle.world_model.specs.World.{World}
use Rattle.world_model.specs.Reach.{graph, Refers, IsRootUnit}
use Rattle.world_model.specs.State.{AtSomeMoment}
use Rattle.mark_core.specs.Machine.{Scan}
use Rattle.heap_rule.specs.Types.{Name, Pass, Marker, Job, Roots, Look}
use Rattle.heap_rule.specs.Units.{number}

-- a lane that has a unit in hand, or owes the dirty bit, has marked a unit in this frame
pub record LanesLicensed (hand : ℕ → Option ℕ) (owes shaded : ℕ → Bool) : Type 0 where
  pub hands : (l u : ℕ) → hand l ≡ Some u → shaded l ≡ true
  pub owing : (l : ℕ) → owes l ≡ true → shaded l ≡ true

-- the unit with the first number referred to the one with the second at some of these moments
pub record FoundLicence (index : Name → ℕ) (units : List (List Name)) (moments : List World) (scanned found : ℕ) : Type 0 where
  pub from : List Name
  pub of : List Name
  pub from_unit : Contains units from
  pub of_unit : Contains units of
  pub from_is : number index from ≡ scanned
  pub of_is : number index of ≡ found
  pub referred : AtSomeMoment moments (λ w. Refers (graph w) from of)

-- what a marker has found at its cursor: the unit under its scan referred to it at some moment of the slice
abbrev pub FoundsLicensed : (Name → ℕ) → List (List Name) → (ℕ → Option Scan) → (ℕ → List World) → Type 0
FoundsLicensed index units scan moments = (m : ℕ) (s : Scan) (t : ℕ) → scan m ≡ Some s → s.found ≡ Some t → FoundLicence index units (moments m) s.unit t

-- while the collector goes over the root set, and while it looks at the rows
abbrev pub WhileRoots : Job → Type 0 → Type 0
WhileRoots (Roots p) P = P
WhileRoots _ P = ⊤

abbrev pub WhileLook : Job → Type 0 → Type 0
WhileLook (Look row word) P = P
WhileLook _ P = ⊤

-- the collector, which goes over the root set, has just started the collection, and what it found was a root unit at some moment since; with a unit in hand its last entry is a note that a unit is kept, and each open slice is amid such notes
pub record RootsLicensed (index : Name → ℕ) (units : List (List Name)) (job : Job) (hand : Option ℕ) (found : ℕ → Bool) (started shading : Bool) (moments : List World) (opened : List Pass) (amid : ℕ → Bool) : Type 0 where
  pub start : WhileRoots job (started ≡ true)
  pub roots : (u : ℕ) → found u ≡ true → (of : List Name) × Contains units of × (number index of ≡ u) × AtSomeMoment moments (λ w. IsRootUnit (graph w) of)
  pub shades : (u : ℕ) → hand ≡ Some u → shading ≡ true
  pub amid_is : (u m : ℕ) → hand ≡ Some u → list_any (same_pass (Marker m)) opened ≡ true → amid m ≡ true

-- while the collector looks, a dirty gate is that of a frame or slice that was closed since its last entry, or is still open
abbrev pub StoresLicensed : Job → Bool → Bool → (ℕ → Bool) → (ℕ → Bool) → (ℕ → Bool) → Type 0
StoresLicensed job dirty stored lane_open marker_open shaded = WhileLook job (dirty ≡ true
    → (stored ≡ true) ⊎ (((l : ℕ) × (lane_open l ≡ true) × (shaded l ≡ true)) ⊎ ((m : ℕ) × (marker_open m ≡ true))))
