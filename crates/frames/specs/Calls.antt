-- What the calls on frames need, and what they add.
use Rattle.std.specs.Prelude.{◌≡◌, ℕ, ◌<◌, true, false, List, [], ◌++◌, None}
use Rattle.world_model.specs.Sizes.{Sizes}
use Rattle.world_model.specs.World.{is_open}
use Rattle.world_model.specs.Histories.{Legal, after}
use Rattle.frames.specs.Types.{Lane, Entry, View}
use Rattle.heap_rule.specs.Views.{has_pass, by_passes, lane_in}
use Rattle.heap_rule.specs.LaneMay.{IsReady, IsPaid}

-- the seat has the lane, its frame is closed, and nothing of it is under way
pub record IsClosed (z : Sizes) (v : View) (l : ℕ) : Type 0 where
  pub inside : l < z.lanes
  pub pass : has_pass v.passes (Lane l) ≡ true
  pub closed : is_open (after v.front) (Lane l) ≡ false
  pub unprepared : (lane_in v.lanes l).prepared ≡ None
  pub cut : (lane_in v.lanes l).loose ≡ None
  pub empty : (lane_in v.lanes l).hand ≡ None
  pub clear : (lane_in v.lanes l).owes ≡ false

-- the seat has the lane, its frame is open, and nothing of it is under way
pub record IsOpened (z : Sizes) (v : View) (l : ℕ) : Type 0 where
  pub inside : l < z.lanes
  pub ready : IsReady v l
  pub paid : IsPaid v l

-- The call adds these entries: the seat has seen a legal history of which the old front is a beginning, then comes what others did, none of it by the seat's passes, and then these
pub record AddsEntries (z : Sizes) (v : View) (entries : List Entry) (w : View) : Type 0 where
  pub between : List Entry
  pub others : by_passes v.passes between ≡ []
  pub front : w.front ≡ (v.front ++ between) ++ entries
  pub legal : Legal z w.front
