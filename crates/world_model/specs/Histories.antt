-- Histories: lists of entries, the first one first; and which of them are legal.
use Rattle.std.specs.Prelude.{ℕ, ◌<◌, List, [], ◌∷◌, ⊤}
use Rattle.world_model.specs.Types.{Pass, Lane, Marker, Collector, Act, Entry}
use Rattle.world_model.specs.Sizes.{Sizes}
use Rattle.world_model.specs.World.{World}
use Rattle.world_model.specs.State.{State, beginning}
use Rattle.world_model.specs.Next.{next, run}
use Rattle.world_model.specs.LaneSteps.{InFrame, LaneMay}
use Rattle.world_model.specs.MarkerSteps.{InSlice, MarkerMay}
use Rattle.world_model.specs.CollectorSteps.{Finishes, CollectorMay}

pub record StepOfLane (z : Sizes) (s : State) (lane : ℕ) (a : Act) : Type 0 where
  pub in_range : lane < z.lanes
  pub frame : InFrame s lane a
  pub may : LaneMay z s lane a

pub record StepOfMarker (z : Sizes) (s : State) (marker : ℕ) (a : Act) : Type 0 where
  pub in_range : marker < z.markers
  pub slice : InSlice s marker a
  pub may : MarkerMay s marker a

pub record StepOfCollector (z : Sizes) (s : State) (a : Act) : Type 0 where
  pub finishes : Finishes s.collector.agreed a
  pub may : CollectorMay z s a

-- an act of this pass may come next
abbrev pub MayBy : Sizes → State → Pass → Act → Type 0
MayBy z s (Lane lane) a = StepOfLane z s lane a
MayBy z s (Marker marker) a = StepOfMarker z s marker a
MayBy z s Collector a = StepOfCollector z s a

-- an entry may come next
abbrev pub May : Sizes → State → Entry → Type 0
May z s e = MayBy z s e.pass e.act

-- what a history leaves
abbrev pub state_of : List Entry → State
state_of history = run beginning history

-- the world after a history
abbrev pub after : List Entry → World
after history = (state_of history).world

-- the entry is a step from the history
abbrev pub Step : Sizes → List Entry → Entry → Type 0
Step z history e = May z (state_of history) e

-- from a state on, each entry is a step from those before it
abbrev pub LegalFrom : Sizes → State → List Entry → Type 0
LegalFrom z s [] = ⊤
LegalFrom z s (e ∷ entries) = May z s e × LegalFrom z (next s e) entries

-- a legal history: each entry is a step from those before it
abbrev pub Legal : Sizes → List Entry → Type 0
Legal z history = LegalFrom z beginning history
