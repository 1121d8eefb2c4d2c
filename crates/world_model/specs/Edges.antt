-- The sharpest edges of the rules: on each, an entry that may come next, and its neighbour that may not.
use Rattle.std.specs.Prelude.{List, [], ◌∷◌, ◌++◌, take, Some, None, true, false}
use Rattle.world_model.specs.Types.{Idle, Marking, Gathering, Lane, Marker, Collector, Entry}
use Rattle.world_model.specs.Types.act
use Rattle.world_model.specs.Types.stop
use Rattle.world_model.specs.Types.begin
use Rattle.world_model.specs.Types.commit
use Rattle.world_model.specs.Types.purge
use Rattle.world_model.specs.Sizes.{Sizes, level, small}
use Rattle.world_model.specs.Histories.{Legal, Step}
use Rattle.world_model.specs.Examples.{IsRefused, did, name, node_kind, third_pair, made_one, rooted_one, four_made, four_linked, root_marked, slice_opened, second_met, second_marked, cluster_removed, all_begun, half_finished, cluster_released, busy}

-- after a legal history the entry is a step
pub record IsAllowed (z : Sizes) (history : List Entry) (e : Entry) : Type 0 where
  pub before : Legal z history
  pub right : Step z history e

-- one entry is a step behind one history, and another one, or the same behind another history, is not
pub record Edge (z : Sizes) (before : List Entry) (right : Entry) (elsewhere : List Entry) (wrong : Entry) : Type 0 where
  pub allowed : IsAllowed z before right
  pub refused : IsRefused z elsewhere wrong

-- ---- histories

-- a collection has started, and another start was refused
abbrev pub asked_again : List Entry
asked_again = rooted_one ++ did Collector (act.BeginGc (begin.Running Marking)) ∷ []

-- another lane opens a frame
abbrev pub two_lanes : List Entry
two_lanes = made_one ++ did (Lane 1) (act.FrameOpen Idle) ∷ []

-- a lane closes its frame and opens another
abbrev pub frame_again : List Entry
frame_again = four_linked ++ did (Lane 0) (act.FrameOpen Idle) ∷ []

-- a frame is opened and closed during a slice, and outside one
abbrev pub in_company : List Entry
in_company = slice_opened ++ did (Lane 0) (act.FrameOpen Marking) ∷ did (Lane 0) act.FrameClose ∷ []

abbrev pub closed_unmarked : List Entry
closed_unmarked = root_marked ++ did (Lane 0) (act.FrameOpen Marking) ∷ did (Lane 0) act.FrameClose ∷ []

-- a frame that has marked a unit is closed
abbrev pub closed_marked : List Entry
closed_marked = second_marked ++ did (Lane 0) (act.WriteRef (name 1) 0 (Some (name 2)) None) ∷ did (Lane 0) act.FrameClose ∷ []

-- a slice has scanned two units of one member each
abbrev pub two_scanned : List Entry
two_scanned = take 50 busy

-- an object is made while a collection marks
abbrev pub made_amid : List Entry
made_amid = second_met ++ did (Lane 0) (act.Make (node_kind ∷ []) 5) ∷ []

-- a frame after the commit, and one after the release
abbrev pub removed_frame : List Entry
removed_frame = cluster_removed ++ did (Lane 0) (act.FrameOpen Gathering) ∷ []

-- an object has agreed to be finished
abbrev pub agreed : List Entry
agreed = take 35 half_finished

-- a root unit refers to another one when a collection starts, and a lane takes the reference away: before a slice is opened, or after
abbrev pub reference_read : List Entry
reference_read =
    did (Lane 0) (act.FrameOpen Idle)
    ∷ did (Lane 0) (act.Make (node_kind ∷ []) 1)
    ∷ did (Lane 0) (act.SetStrong 0 (Some (name 1)) None)
    ∷ did (Lane 0) (act.Make (node_kind ∷ []) 2)
    ∷ did (Lane 0) (act.WriteRef (name 1) 0 (Some (name 2)) None)
    ∷ did (Lane 0) act.FrameClose
    ∷ did Collector (act.BeginGc begin.Started)
    ∷ did Collector (act.Kept (name 1))
    ∷ did (Lane 0) (act.FrameOpen Marking)
    ∷ did (Lane 0) (act.GetStrong 0 (Some (name 1)))
    ∷ []

abbrev pub taken_before : List Entry
taken_before = reference_read ++ did (Lane 0) (act.WriteRef (name 1) 0 None (Some (name 2))) ∷ did (Marker 0) act.SliceOpen ∷ []

abbrev pub taken_within : List Entry
taken_within = reference_read ++ did (Marker 0) act.SliceOpen ∷ did (Lane 0) (act.WriteRef (name 1) 0 None (Some (name 2))) ∷ []

-- ---- the edges

pub record Edges : Type 0 where
  -- the collector marks roots before its next answer, and not after it
  pub notes_end : Edge level rooted_one (did Collector (act.Kept (name 1))) asked_again (did Collector (act.Kept (name 1)))
  -- what a lane holds it holds in that frame alone, and no other lane holds it
  pub held_in_frame : Edge small four_made (did (Lane 0) (act.Root (name 2) true false)) frame_again (did (Lane 0) (act.Root (name 2) true false))
  pub held_by_lane : Edge level two_lanes (did (Lane 0) (act.Root (name 1) true false)) two_lanes (did (Lane 1) (act.Root (name 1) true false))
  -- a slice may be idle while a unit is grey where a frame was open during it, though none is now
  pub idle_in_company : Edge small in_company (did (Marker 0) (act.Slice 100 (record { scanned = 0; stop = stop.Idle }))) slice_opened
      (did (Marker 0) (act.Slice 100 (record { scanned = 0; stop = stop.Idle })))
  -- a slice spends its budget by the last unit that it scans, and by none before
  pub spent_by_last : Edge small two_scanned (did (Marker 0) (act.Slice 2 (record { scanned = 2; stop = stop.Spent }))) two_scanned
      (did (Marker 0) (act.Slice 1 (record { scanned = 2; stop = stop.Spent })))
  -- a commit is refused for stores behind a frame that has marked a unit, and not behind another
  pub stores_marked : Edge small closed_marked (did Collector (act.CommitGc commit.Stores)) closed_unmarked (did Collector (act.CommitGc commit.Stores))
  -- it shows no more grey units than there are, and at least one
  pub shows_grey : Edge small root_marked (did Collector (act.CommitGc (commit.Unfinished 0 1))) root_marked (did Collector (act.CommitGc (commit.Unfinished 0 3)))
  pub shows_some : Edge small root_marked (did Collector (act.CommitGc (commit.Unfinished 0 1))) root_marked (did Collector (act.CommitGc (commit.Unfinished 0 0)))
  -- what is made while a collection marks is marked, and can be stored as it is
  pub made_is_marked : Edge small made_amid (did (Lane 0) (act.WriteRef (name 1) 0 (Some (name 5)) None)) made_amid (did (Lane 0) (act.WriteRef (name 1) 0 (Some (name 2)) None))
  -- a lane that has marked a unit stores an object of that unit, and nothing else
  pub mark_is_paid : Edge small second_marked (did (Lane 0) (act.WriteRef (name 1) 0 (Some (name 2)) None)) second_marked (did (Lane 0) (act.WriteRef (name 1) 0 None None))
  -- a marker marks what a grey unit referred to at some moment of its slice, and not what one referred to before
  pub referred_within : Edge small taken_within (did (Marker 0) (act.Kept (name 2))) taken_before (did (Marker 0) (act.Kept (name 2)))
  -- a weak pointer gives none from the commit on that removes its object
  pub none_from_commit : Edge small removed_frame (did (Lane 0) (act.Resolve third_pair None)) removed_frame (did (Lane 0) (act.Resolve third_pair (Some (name 3))))
  -- but a removed object has its index until it is released
  pub full_until_release : Edge small removed_frame (did (Lane 0) (act.Full 5 4)) cluster_released (did (Lane 0) (act.Full 5 4))
  -- the collector finishes the object that agreed, and does nothing else before
  pub finished_next : Edge small agreed (did Collector (act.Finished (name 3))) agreed (did Collector (act.Asked (name 4) 2 true))
  -- a purge stops early only where nothing is left
  pub stops_late : Edge small (take 30 all_begun) (did Collector (act.PurgeGc 2 (purge.Ran 2 2))) (take 30 all_begun) (did Collector (act.PurgeGc 3 (purge.Ran 2 2)))
