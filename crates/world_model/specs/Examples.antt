-- Worked histories: three that are legal, and entries that are refused after a legal history.
use Rattle.std.specs.Prelude.{◌≡◌, ℕ, IsTrue, zero, suc, true, false, List, [], ◌∷◌, ◌++◌, Some, None}
use Rattle.world_model.specs.Types.{Name, Weak, Kind, Pass, Idle, Marking, Lane, Marker, Collector, Act, Entry}
use Rattle.world_model.specs.Types.act
use Rattle.world_model.specs.Types.ready
use Rattle.world_model.specs.Types.stop
use Rattle.world_model.specs.Types.begin
use Rattle.world_model.specs.Types.commit
use Rattle.world_model.specs.Types.sweep
use Rattle.world_model.specs.Types.purge
use Rattle.world_model.specs.Sizes.{Sizes, level, small}
use Rattle.world_model.specs.NameLists.{has}
use Rattle.world_model.specs.Reach.{graph, IsUnit, IsReached}
use Rattle.world_model.specs.World.{in_world, unit_of, resolved}
use Rattle.world_model.specs.State.{Holds, is_marked, grey_units}
use Rattle.world_model.specs.Histories.{Legal, Step, state_of, after}
use Rattle.world_model.specs.Laws.{started, done}
use Rattle.world_model.specs.Follows.{names_stored, times_begun, times_finished, WasGiven}

abbrev pub did : Pass → Act → Entry
did p a = record { pass = p; act = a }

-- the k-th object of lane 0
abbrev pub name : ℕ → Name
name k = record { lane = 0; count = k }

-- a class without fields
abbrev pub plain_kind : Kind
plain_kind = record { class = record { 0 = 1 }; refs = 0; plain = 0; ready = ready.After 0 }

-- ---- in Level: an object is made and rooted, and a whole collection keeps it

abbrev pub made_one : List Entry
made_one =
    did (Lane 0) (act.FrameOpen Idle)
    ∷ did (Lane 0) (act.Make (plain_kind ∷ []) 1)
    ∷ []

abbrev pub rooted_one : List Entry
rooted_one =
    made_one
    ++ did (Lane 0) (act.Root (name 1) true false)
    ∷ did (Lane 0) act.FrameClose
    ∷ did Collector (act.BeginGc begin.Started)
    ∷ []

abbrev pub kept_one : List Entry
kept_one =
    rooted_one
    ++ did Collector (act.Kept (name 1))
    ∷ did (Marker 0) act.SliceOpen
    ∷ did (Marker 0) (act.Scanned (name 1))
    ∷ did (Marker 0) (act.Slice 1000 (record { scanned = 1; stop = stop.Idle }))
    ∷ did Collector (act.CommitGc commit.Done)
    ∷ []

-- so many sweeps of 1,000 items, and one that settles
abbrev pub sweeps : ℕ → List Entry
sweeps zero = did Collector (act.Sweep 1000 (record { looked = 768; found = 0; stop = sweep.Settled }) []) ∷ []
sweeps (suc n) = did Collector (act.Sweep 1000 (record { looked = 1000; found = 0; stop = sweep.More }) []) ∷ sweeps n

-- the history of the smallest script
abbrev pub smallest : List Entry
smallest = kept_one ++ sweeps 32

-- ---- in Small: a store while a collection marks, and a cluster that is removed

-- a class with a reference field and a number, which is ready after one refused poll
abbrev pub node_kind : Kind
node_kind = record { class = record { 0 = 1 }; refs = 1; plain = 1; ready = ready.After 1 }

-- the pair of the second object, and that of the third
abbrev pub second_pair : Weak
second_pair = record { index = 1; serial = 16 }

abbrev pub third_pair : Weak
third_pair = record { index = 2; serial = 32 }

-- four objects: one that a strong pointer names, one with a weak pointer, and a cluster of two
abbrev pub four_made : List Entry
four_made =
    did (Lane 0) (act.FrameOpen Idle)
    ∷ did (Lane 0) (act.Make (node_kind ∷ []) 1)
    ∷ did (Lane 0) (act.SetStrong 0 (Some (name 1)) None)
    ∷ did (Lane 0) (act.Make (node_kind ∷ []) 2)
    ∷ did (Lane 0) (act.WeakOf (name 2) second_pair)
    ∷ did (Lane 0) (act.Make (node_kind ∷ node_kind ∷ []) 3)
    ∷ []

-- the cluster gets a weak pointer and refers to the second object
abbrev pub four_linked : List Entry
four_linked =
    four_made
    ++ did (Lane 0) (act.WeakOf (name 3) third_pair)
    ∷ did (Lane 0) (act.WriteRef (name 4) 0 (Some (name 2)) None)
    ∷ did (Lane 0) (act.WritePlain (name 4) 3 7 0)
    ∷ did (Lane 0) act.FrameClose
    ∷ []

-- a collection starts, and marks the root unit
abbrev pub root_marked : List Entry
root_marked =
    four_linked
    ++ did Collector (act.BeginGc begin.Started)
    ∷ did Collector (act.Kept (name 1))
    ∷ []

-- it can't commit yet, and a slice opens
abbrev pub slice_opened : List Entry
slice_opened =
    root_marked
    ++ did Collector (act.CommitGc (commit.Unfinished 0 1))
    ∷ did (Marker 0) act.SliceOpen
    ∷ []

-- the first object is scanned; then a weak pointer gives the second one to a lane
abbrev pub second_met : List Entry
second_met =
    slice_opened
    ++ did (Marker 0) (act.Scanned (name 1))
    ∷ did (Marker 0) (act.Slice 1 (record { scanned = 1; stop = stop.Spent }))
    ∷ did (Lane 0) (act.FrameOpen Marking)
    ∷ did (Lane 0) (act.GetStrong 0 (Some (name 1)))
    ∷ did (Lane 0) (act.Resolve second_pair (Some (name 2)))
    ∷ []

-- the write barrier marks it
abbrev pub second_marked : List Entry
second_marked = second_met ++ did (Lane 0) (act.Kept (name 2)) ∷ []

-- it is stored in the first object and scanned, and the commit removes the cluster
abbrev pub cluster_removed : List Entry
cluster_removed =
    second_marked
    ++ did (Lane 0) (act.WriteRef (name 1) 0 (Some (name 2)) None)
    ∷ did (Lane 0) act.FrameClose
    ∷ did (Marker 0) act.SliceOpen
    ∷ did (Marker 0) (act.Scanned (name 2))
    ∷ did (Marker 0) (act.Slice 100 (record { scanned = 1; stop = stop.Idle }))
    ∷ did Collector (act.CommitGc commit.Done)
    ∷ []

-- the cluster is found, and its first member begun
abbrev pub half_begun : List Entry
half_begun =
    cluster_removed
    ++ did Collector (act.Sweep 10 (record { looked = 10; found = 0; stop = sweep.More }) [])
    ∷ did Collector (act.Sweep 10 (record { looked = 6; found = 2; stop = sweep.Settled }) (name 3 ∷ name 4 ∷ []))
    ∷ did Collector (act.Begun (name 3))
    ∷ []

-- all is begun, and no other collection may start
abbrev pub all_begun : List Entry
all_begun =
    half_begun
    ++ did Collector (act.Begun (name 4))
    ∷ did Collector (act.PurgeGc 2 (purge.Ran 2 2))
    ∷ did Collector (act.BeginGc (begin.Purging 2))
    ∷ []

-- the members are polled in turn, and the first is finished
abbrev pub half_finished : List Entry
half_finished =
    all_begun
    ++ did Collector (act.Asked (name 3) 1 false)
    ∷ did Collector (act.Asked (name 4) 1 false)
    ∷ did Collector (act.Asked (name 3) 2 true)
    ∷ did Collector (act.Finished (name 3))
    ∷ []

-- the cluster is released; the weak pointer to the second object still gives it
abbrev pub cluster_released : List Entry
cluster_released =
    half_finished
    ++ did Collector (act.Asked (name 4) 2 true)
    ∷ did Collector (act.Finished (name 4))
    ∷ did Collector (act.Released (name 3))
    ∷ did Collector (act.PurgeGc 100 (purge.Ran 5 0))
    ∷ did (Lane 0) (act.FrameOpen Idle)
    ∷ did (Lane 0) (act.Resolve second_pair (Some (name 2)))
    ∷ []

-- the one to the cluster gives none, and a second collection follows the stored reference and removes nothing
abbrev pub busy : List Entry
busy =
    cluster_released
    ++ did (Lane 0) (act.Resolve third_pair None)
    ∷ did (Lane 0) act.FrameClose
    ∷ did Collector (act.BeginGc begin.Started)
    ∷ did Collector (act.Kept (name 1))
    ∷ did (Marker 0) act.SliceOpen
    ∷ did (Marker 0) (act.Kept (name 2))
    ∷ did (Marker 0) (act.Scanned (name 1))
    ∷ did (Marker 0) (act.Scanned (name 2))
    ∷ did (Marker 0) (act.Slice 100 (record { scanned = 2; stop = stop.Idle }))
    ∷ did Collector (act.CommitGc commit.Done)
    ∷ did Collector (act.Sweep 100 (record { looked = 16; found = 0; stop = sweep.Settled }) [])
    ∷ []

-- ---- in Small: garbage that outlives a collection, though no root reaches it and no store names it

-- three objects that no root reaches: the first two have weak pointers, and the second refers to the third
abbrev pub garbage : List Entry
garbage =
    did (Lane 0) (act.FrameOpen Idle)
    ∷ did (Lane 0) (act.Make (node_kind ∷ []) 1)
    ∷ did (Lane 0) (act.WeakOf (name 1) (record { index = 0; serial = 16 }))
    ∷ did (Lane 0) (act.Make (node_kind ∷ []) 2)
    ∷ did (Lane 0) (act.WeakOf (name 2) (record { index = 1; serial = 32 }))
    ∷ did (Lane 0) (act.Make (node_kind ∷ []) 3)
    ∷ did (Lane 0) (act.WriteRef (name 2) 0 (Some (name 3)) None)
    ∷ did (Lane 0) act.FrameClose
    ∷ []

-- while a collection marks, weak pointers give the first two to a lane, which stores the second in the first
abbrev pub garbage_stored : List Entry
garbage_stored =
    did (Lane 0) (act.FrameOpen Marking)
    ∷ did (Lane 0) (act.Resolve (record { index = 0; serial = 16 }) (Some (name 1)))
    ∷ did (Lane 0) (act.Resolve (record { index = 1; serial = 32 }) (Some (name 2)))
    ∷ did (Lane 0) (act.Kept (name 2))
    ∷ did (Lane 0) (act.WriteRef (name 1) 0 (Some (name 2)) None)
    ∷ []

-- a marker follows the reference to the third
abbrev pub garbage_scanned : List Entry
garbage_scanned =
    did (Lane 0) act.FrameClose
    ∷ did (Marker 0) act.SliceOpen
    ∷ did (Marker 0) (act.Kept (name 3))
    ∷ did (Marker 0) (act.Scanned (name 2))
    ∷ did (Marker 0) (act.Scanned (name 3))
    ∷ did (Marker 0) (act.Slice 100 (record { scanned = 2; stop = stop.Idle }))
    ∷ []

-- the whole collection, up to its commit
abbrev pub garbage_marked : List Entry
garbage_marked = garbage ++ started ∷ (garbage_stored ++ garbage_scanned)

-- What no root reaches at any moment of a collection, no lane holds and no store names may all the same outlive it: here the third object.
pub record GarbageStays : Type 0 where
  pub legal : Legal small (garbage_marked ++ done ∷ [])
  pub unreached : (xs ys : List Entry) → xs ++ ys ≡ garbage_marked → (u : List Name) → IsReached (graph (after xs)) u → ⊥
  pub unheld : (lane : ℕ) → Holds (state_of (garbage ++ started ∷ garbage_stored)) lane (name 3) → ⊥
  pub unnamed : has (names_stored (garbage_stored ++ garbage_scanned)) (name 3) ≡ false
  pub stays : IsUnit (graph (after (garbage_marked ++ done ∷ []))) (name 3 ∷ [])

-- ---- laws that would be too strong

-- What worked histories show of the laws: each says no more than it can.
pub record AreSharp : Type 0 where
  -- an object that was begun need not be finished, and one may be finished while another of its unit is not
  pub begun_alone : (times_begun half_begun (name 3) ≡ 1) × (times_finished half_begun (name 3) ≡ 0)
  pub finished_alone : (times_finished half_finished (name 3) ≡ 1) × (times_finished half_finished (name 4) ≡ 0)
  -- where a root unit is not marked, a unit may be white and reached though nothing is grey
  pub white_reached : (grey_units (state_of rooted_one) ≡ []) × IsReached (graph (after rooted_one)) (name 1 ∷ []) × (is_marked (state_of rooted_one).marks (name 1 ∷ []) ≡ false)
  -- while a collection marks, a unit in the world need not be marked
  pub white_lives : IsTrue (in_world (after root_marked) (name 2)) × (is_marked (state_of root_marked).marks (unit_of (after root_marked) (name 2)) ≡ false)
  -- a pair that was given gives none after the removal of its object
  pub given_none : WasGiven cluster_removed (name 3) third_pair × (resolved (after cluster_removed) third_pair ≡ None)

-- ---- wrong entries

-- after a legal history the entry is no step
pub record IsRefused (z : Sizes) (history : List Entry) (e : Entry) : Type 0 where
  pub before : Legal z history
  pub wrong : Step z history e → ⊥

-- Entries that are refused, each after a legal history.
pub record Refusals : Type 0 where
  -- an object is made outside a frame, under a name that is not the lane's next, or with more slots than there are
  pub made_outside : IsRefused level [] (did (Lane 0) (act.Make (plain_kind ∷ []) 1))
  pub out_of_sequence : IsRefused level made_one (did (Lane 0) (act.Make (plain_kind ∷ []) 3))
  pub too_wide : IsRefused level made_one (did (Lane 0) (act.Make (record plain_kind { refs = 12; plain = 1 } ∷ []) 2))
  -- a lane is full while it has free indexes
  pub full_early : IsRefused level made_one (did (Lane 0) (act.Full 1 0))
  -- a frame is closed twice
  pub closed_twice : IsRefused small four_linked (did (Lane 0) act.FrameClose)
  -- a collection starts while a frame is open, or is refused for frames while none is
  pub begun_in_frame : IsRefused level made_one (did Collector (act.BeginGc begin.Started))
  pub no_frames : IsRefused level [] (did Collector (act.BeginGc (begin.Frames 1)))
  -- a pair is given to two objects, a made-up pair gives an object, and so does the pair of a removed one
  pub pair_twice : IsRefused small four_made (did (Lane 0) (act.WeakOf (name 3) second_pair))
  pub forged : IsRefused level made_one (did (Lane 0) (act.Resolve (record { index = 0; serial = 31 }) (Some (name 1))))
  pub dead_resolved : IsRefused small cluster_released (did (Lane 0) (act.Resolve third_pair (Some (name 3))))
  -- a unit is marked without a licence: the collector met no root, the lane does not hold it, the marker met no reference
  pub kept_by_collector : IsRefused small root_marked (did Collector (act.Kept (name 2)))
  pub kept_by_lane : IsRefused small second_met (did (Lane 0) (act.Kept (name 3)))
  pub kept_by_marker : IsRefused small slice_opened (did (Marker 0) (act.Kept (name 2)))
  -- a unit that is not marked is scanned
  pub white_scanned : IsRefused small slice_opened (did (Marker 0) (act.Scanned (name 2)))
  -- a slice is idle while a unit is grey
  pub idle_early : IsRefused small slice_opened (did (Marker 0) (act.Slice 100 (record { scanned = 0; stop = stop.Idle })))
  -- a store whose target is not marked, and a mark without its store
  pub unshaded : IsRefused small second_met (did (Lane 0) (act.WriteRef (name 1) 0 (Some (name 2)) None))
  pub unstored : IsRefused small second_marked (did (Lane 0) act.FrameClose)
  -- a commit while a unit is grey, and one that removes a unit that is reached
  pub grey_commit : IsRefused small root_marked (did Collector (act.CommitGc commit.Done))
  pub lost_root : IsRefused level rooted_one (did Collector (act.CommitGc commit.Done))
  -- a sweep settles before the last item, or while a removed object is not found
  pub settled_early : IsRefused small cluster_removed (did Collector (act.Sweep 100 (record { looked = 10; found = 2; stop = sweep.Settled }) (name 3 ∷ name 4 ∷ [])))
  pub settled_short : IsRefused small cluster_removed (did Collector (act.Sweep 100 (record { looked = 16; found = 1; stop = sweep.Settled }) (name 3 ∷ [])))
  -- an object is begun twice, asked before all are begun, or finished before all are begun
  pub begun_twice : IsRefused small half_begun (did Collector (act.Begun (name 3)))
  pub asked_early : IsRefused small half_begun (did Collector (act.Asked (name 3) 1 true))
  pub finished_early : IsRefused small half_begun (did Collector (act.Finished (name 3)))
  -- polls out of order, and a poll counted twice
  pub polled_out_of_order : IsRefused small all_begun (did Collector (act.Asked (name 4) 1 false))
  pub poll_miscounted : IsRefused small all_begun (did Collector (act.Asked (name 3) 2 false))
  -- a unit is released when half of it is finished
  pub half_released : IsRefused small half_finished (did Collector (act.Released (name 3)))
