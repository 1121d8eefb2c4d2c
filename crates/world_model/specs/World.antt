-- The world of objects, and what is read from it.
use Rattle.std.specs.Prelude.{ℕ, ◌+◌, ◌-◌, ◌==◌, ◌&&◌, Bool, true, false, not, if◌then◌else◌, List, [], length, Option, Some, None, slice_get, unwrap_or, option_map, option_and_then}
use Rattle.std.specs.List.{list_any, find, filter, count_by, flat_map}
use Rattle.std.specs.Option.{option_map_or}
use Rattle.world_model.specs.Types.{Name, Weak, Kind, Pass, Phase, Idle, Gathering}
use Rattle.world_model.specs.Sizes.{Sizes}
use Rattle.world_model.specs.NameLists.{same_name, same_weak, same_pass, has, members, begins_with}

-- the pair of index and serial of an object's weak pointers, and the lane that drew the serial
pub record Pair : Type 0 where
  pub weak : Weak
  pub name : Name
  pub lane : ℕ

-- how far the destruction of a removed object is
pub data Stage : Type 0 where
  Removed : Stage
  Begun : Stage
  Finished : Stage

-- a removed object that is not released, and the number of its polls
pub record Removal : Type 0 where
  pub name : Name
  pub stage : Stage
  pub polls : ℕ

-- The world of objects. A unit is the list of its members in order of creation: a cluster, or one object.
pub record World : Type 0 where
  -- the kinds of the objects that each lane has made, in order
  pub kinds : ℕ → List Kind
  -- what the reference cell of an object at a slot names, and the number in its plain cell at a slot
  pub cell : Name → ℕ → Option Name
  pub plain : Name → ℕ → ℕ
  -- the units of the objects that live
  pub units : List (List Name)
  -- the root set: the rooted objects, and the strong pointers by lane and number
  pub rooted : Name → Bool
  pub strong : ℕ → ℕ → Option Name
  -- the objects that are marked as garbage
  pub garbage : Name → Bool
  -- the lanes with an open frame and the markers with an open slice
  pub opened : List Pass
  pub phase : Phase
  -- the pairs that were made, in order
  pub pairs : List Pair
  -- the objects that the last commit removed and that are not released
  pub removals : List Removal
  -- the units that the last commit removed, as they stood then
  pub last_removed : List (List Name)
  -- the removed objects that its sweeps have found, in order, and the number of items that they looked at
  pub found : List Name
  pub swept : ℕ

abbrev pub empty_world : World
empty_world = record {
  kinds = λ lane. [];
  cell = λ n slot. None;
  plain = λ n slot. 0;
  units = [];
  rooted = λ n. false;
  strong = λ lane number. None;
  garbage = λ n. false;
  opened = [];
  phase = Idle;
  pairs = [];
  removals = [];
  last_removed = [];
  found = [];
  swept = 0;
}

-- the unit in which an object stands, or no members where it stands in none
abbrev pub unit_of : World → Name → List Name
unit_of w n = unwrap_or (find (λ u. has u n) w.units) []

-- whether an object stands in a unit
abbrev pub in_world : World → Name → Bool
in_world w n = list_any (λ u. has u n) w.units

abbrev pub is_open : World → Pass → Bool
is_open w p = list_any (same_pass p) w.opened

-- how many objects a lane has made
abbrev pub made : World → ℕ → ℕ
made w lane = length (w.kinds lane)

-- the kind of an object that was made: the first object of a lane has count 1
abbrev pub kind_of : World → Name → Option Kind
kind_of w n = slice_get (w.kinds n.lane) (n.count - 1)

-- the number of its reference slots, and of its plain slots
abbrev pub refs_of : World → Name → ℕ
refs_of w n = option_map_or (λ k. k.refs) (kind_of w n) 0

abbrev pub plain_of : World → Name → ℕ
plain_of w n = option_map_or (λ k. k.plain) (kind_of w n) 0

-- how many objects of a lane live, and how many are removed and not released
abbrev pub live_count : World → ℕ → ℕ
live_count w lane = count_by (λ n. n.lane == lane) (members w.units)

abbrev pub removed_count : World → ℕ → ℕ
removed_count w lane = count_by (λ r. r.name.lane == lane) w.removals

-- how many objects of a lane are made and not released
abbrev pub occupied : World → ℕ → ℕ
occupied w lane = live_count w lane + removed_count w lane

-- how many indexes of a lane are free
abbrev pub free : Sizes → World → ℕ → ℕ
free z w lane = z.quota - occupied w lane

-- the pair that was made for an object
abbrev pub pair_of : World → Name → Option Weak
pair_of w n = option_map (λ p. p.weak) (find (λ p. same_name n p.name) w.pairs)

-- how many serials a lane has drawn
abbrev pub drawn : World → ℕ → ℕ
drawn w lane = count_by (λ p. p.lane == lane) w.pairs

-- whether a weak pointer may give an object: it lives, and is not garbage
abbrev pub is_given : World → Name → Bool
is_given w n = in_world w n && not (w.garbage n)

-- the object for which a pair was made, while it lives and is not garbage
abbrev pub resolved : World → Weak → Option Name
resolved w pair = option_and_then (λ p. if is_given w p.name then Some p.name else None) (find (λ p. same_weak pair p.weak) w.pairs)

abbrev pub has_stage : Stage → Stage → Bool
has_stage Removed Removed = true
has_stage Begun Begun = true
has_stage Finished Finished = true
has_stage _ _ = false

-- whether an object is removed and at this stage
abbrev pub is_at : World → Stage → Name → Bool
is_at w stage n = list_any (λ r. same_name n r.name && has_stage stage r.stage) w.removals

-- how often a removed object was polled
abbrev pub polls_of : World → Name → ℕ
polls_of w n = option_map_or (λ r. r.polls) (find (λ r. same_name n r.name) w.removals) 0

-- the units that the last commit removed, in the order in which their first members were found
abbrev pub destruction_order : World → List (List Name)
destruction_order w = flat_map (λ n. filter (begins_with n) w.last_removed) w.found

-- how many removed objects are left, as an engine tells it: while they are being found, those that are found
abbrev pub left_in : Phase → World → ℕ
left_in Gathering w = length w.found
left_in _ w = length w.removals

abbrev pub left_of : World → ℕ
left_of w = left_in w.phase w
