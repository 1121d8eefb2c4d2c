-- What each lane has left: its free indexes, and how many objects it made.
use Rattle.std.specs.Prelude.{◌≡◌, ℕ, ◌+◌, ◌<◌, List, length, get_or, Option, None}
use Rattle.heap_plain.specs.Types.{Name, Kind}
use Rattle.world_model.specs.Sizes.{Sizes}
use Rattle.world_model.specs.Engines.{IsOfLane}
use Rattle.world_model.proofs.ListFacts.{Among}
use Rattle.heap_plain.specs.declared.life.Life.{Life}
use Rattle.heap_plain.specs.declared.life.Life.TheVariants.{Free}
use Rattle.heap_plain.specs.Lists.{Distinct}
use Rattle.heap_plain.specs.Stocked.{Stocked, no_stock}
use Rattle.heap_plain.specs.Parts.{Stock, Lists, name_at, life_at}

-- The free indexes of a lane are those of its range at which nothing is, each once. Together with the objects of the lane that live or are removed they are as many as its quota.
pub record LaneShows (z : Sizes) (lives : List Life) (lane : ℕ) (s : Stocked) (used : ℕ) : Type 0 where
  pub room : s.room ≡ z.quota
  pub of_lane : (i : ℕ) → Among s.free i → IsOfLane z lane i
  pub unused : (i : ℕ) → Among s.free i → life_at lives i ≡ Free
  pub once : Distinct s.free
  pub all : (i : ℕ) → IsOfLane z lane i → life_at lives i ≡ Free → Among s.free i
  pub count : length s.free + used ≡ z.quota

-- so it is in each lane, and what is free has no name
pub record FreeShows (z : Sizes) (names : List (Option Name)) (lives : List Life) (stocks : List Stocked) (used : ℕ → ℕ) : Type 0 where
  pub lanes : length stocks ≡ z.lanes
  pub each : (lane : ℕ) → lane < z.lanes → LaneShows z lives lane (get_or stocks lane no_stock) (used lane)
  pub nameless : (i : ℕ) → life_at lives i ≡ Free → name_at names i ≡ None

-- the stock shows what each lane has made, and how many of its indexes are used
pub record Stocking (z : Sizes) (names : List (Option Name)) (lives : List Life) (s : Stock) (kinds : ℕ → List Kind) (used : ℕ → ℕ) : Type 0 where
  pub made : Lists s.made z.lanes (λ lane. length (kinds lane))
  pub free : FreeShows z names lives s.stocks used
