-- What a step of destruction does to the vectors.
use Rattle.std.specs.Prelude.{◌≡◌, ℕ, ◌+◌, ◌<◌, nat_lt, Bool, true, false, if◌then◌else◌, List, [], ◌∷◌, ◌++◌, length, get_or, Option, Some, None, IsSome, ⊤, zero, suc}
use Rattle.std.proofs.Math.ListN.{set}
use Rattle.heap_plain.specs.Types.{Name, ClassId, HookCall, Act}
use Rattle.heap_plain.specs.Types.act
use Rattle.heap_plain.specs.Types.called
use Rattle.heap_plain.specs.declared.life.Life.{Life}
use Rattle.heap_plain.specs.declared.life.Life.TheVariants.{Free}
use Rattle.heap_plain.specs.Stocked.{Stocked, no_stock, free_of, given}
use Rattle.heap_plain.specs.Parts.{name_at, name_of}
use Rattle.heap_plain.specs.Listing.{chained}

-- ---- hooks

-- these calls are added to what is told, where that is told
abbrev pub Tells : Option (List HookCall) → Option (List HookCall) → List HookCall → Type 0
Tells (Some before) (Some now) calls = now ≡ before ++ calls
Tells None (Some now) calls = ⊥
Tells _ None calls = ⊤

-- the number of the next poll
abbrev pub next_poll : ℕ → ℕ
next_poll polls = if nat_lt polls 65535 then polls + 1 else 65535

-- the entries and the calls of a poll, by its answer
abbrev pub asked_acts : Name → ℕ → Bool → List Act
asked_acts n poll true = act.Asked n poll true ∷ act.Finished n ∷ []
asked_acts n poll false = act.Asked n poll false ∷ []

abbrev pub asked_calls : Name → ClassId → ℕ → Bool → List HookCall
asked_calls n class poll true = called.Ready n class poll true ∷ called.Finish n class ∷ []
asked_calls n class poll false = called.Ready n class poll false ∷ []

-- the unit that is to be released, where so many of its members are not finished
abbrev pub finished_unit : ℕ → ℕ → Option ℕ
finished_unit head zero = Some head
finished_unit head (suc rest) = None

-- ---- releasing

-- what a release changes
pub record Stocks : Type 0 where
  pub names : List (Option Name)
  pub lives : List Life
  pub stocks : List Stocked

-- the lane of the object at an index
abbrev pub lane_at : List (Option Name) → ℕ → ℕ
lane_at names i = (name_of names i).lane

-- the object is taken off the index, which is given back to its lane
abbrev pub give : Stocks → ℕ → Stocks
give s i = record {
  names = set s.names i None;
  lives = set s.lives i Free;
  stocks = set s.stocks (lane_at s.names i) (given (get_or s.stocks (lane_at s.names i) no_stock) i);
}

pub record CanGive (s : Stocks) (i : ℕ) : Type 0 where
  pub named : IsSome (name_at s.names i)
  pub by_name : i < length s.names
  pub by_life : i < length s.lives
  pub lane : lane_at s.names i < length s.stocks
  pub room : length (free_of s.stocks (lane_at s.names i)) < (get_or s.stocks (lane_at s.names i) no_stock).room

-- the first count of the indexes from one on, each linked to the next
abbrev pub give_all : Stocks → List ℕ → ℕ → ℕ → Stocks
give_all s links i zero = s
give_all s links i (suc count) = give (give_all s links i count) (chained links i count)
