-- What a history leaves: the world, and what the conditions of later entries need of the history besides.
use Rattle.std.specs.Prelude.{ℕ, Bool, false, not, ◌&&◌, ◌||◌, List, [], ◌∷◌, Option, None, IsTrue, ◌⊎◌}
use Rattle.std.specs.List.{list_any, filter}
use Rattle.world_model.specs.Types.{Name, Phase, Marking}
use Rattle.world_model.specs.NameLists.{has}
use Rattle.world_model.specs.World.{World, empty_world, unit_of}

-- what was noted since the running collection started, or the last one
pub record Marks : Type 0 where
  -- the objects that a note says are kept, those that were made, and those that a note says are scanned
  pub kept : List Name
  pub fresh : List Name
  pub scanned : List Name
  -- the world at each moment since then, the newest first
  pub moments : List World

-- the frame of a lane
pub record Frame : Type 0 where
  -- the objects that it was given, with all members of their units
  pub held : List Name
  -- an object of the unit that the lane marked by its last entry
  pub owed : Option Name
  -- whether it has marked a unit
  pub shaded : Bool
  -- the unit that it is taking apart, as it stood before, and the members that have left it, the newest first
  pub broken : List Name
  pub loosened : List Name

-- the slice of a marker
pub record Slicing : Type 0 where
  -- the units that it has scanned, and the world at each moment since it was opened; the newest first
  pub scanned : List (List Name)
  pub moments : List World
  -- whether the collector's last entry before it, or one since, is a note that a unit is kept
  pub amid_begin : Bool

-- the collector
pub record Collecting : Type 0 where
  -- whether its last answer is that a collection has started
  pub started : Bool
  -- whether its last entry is a note that a unit is kept
  pub shading : Bool
  -- whether a slice, or a frame that had marked a unit, was closed since its last entry
  pub stored : Bool
  -- the steps of destruction since the last of its other entries
  pub steps : ℕ
  -- the object that it asked last in this collection, and the one that agreed by its last entry
  pub asked : Option Name
  pub agreed : Option Name

-- all that a history leaves
pub record State : Type 0 where
  pub world : World
  pub marks : Marks
  pub frames : ℕ → Frame
  pub slices : ℕ → Slicing
  pub collector : Collecting

abbrev pub no_frame : Frame
no_frame = record { held = []; owed = None; shaded = false; broken = []; loosened = [] }

-- before any entry
abbrev pub beginning : State
beginning = record {
  world = empty_world;
  marks = record { kept = []; fresh = []; scanned = []; moments = [] };
  frames = λ lane. no_frame;
  slices = λ marker. record { scanned = []; moments = []; amid_begin = false };
  collector = record { started = false; shading = false; stored = false; steps = 0; asked = None; agreed = None };
}

-- P held at some of these moments
abbrev pub AtSomeMoment : List World → (World → Type 0) → Type 0
AtSomeMoment [] P = ⊥
AtSomeMoment (w ∷ earlier) P = P w ⊎ AtSomeMoment earlier P

-- a unit is marked where it was kept or made since the collection started
abbrev pub is_marked : Marks → List Name → Bool
is_marked m u = list_any (λ n. has m.kept n || has m.fresh n) u

-- a unit is grey where it was kept and not scanned
abbrev pub is_grey : Marks → List Name → Bool
is_grey m u = list_any (has m.kept) u && not (list_any (has m.scanned) u)

-- in a phase, the units that are still to be scanned: while a collection marks, the grey ones
abbrev pub grey_in : Phase → Marks → List (List Name) → List (List Name)
grey_in Marking m units = filter (is_grey m) units
grey_in _ m units = []

abbrev pub grey_units : State → List (List Name)
grey_units s = grey_in s.world.phase s.marks s.world.units

-- the units that a commit removes: those that are not marked
abbrev pub white_units : Marks → World → List (List Name)
white_units m w = filter (λ u. not (is_marked m u)) w.units

-- the open frame of a lane holds an object
abbrev pub Holds : State → ℕ → Name → Type 0
Holds s lane n = IsTrue (has (s.frames lane).held n)

-- the unit of an object is marked
abbrev pub IsMarked : State → Name → Type 0
IsMarked s n = IsTrue (is_marked s.marks (unit_of s.world n))
