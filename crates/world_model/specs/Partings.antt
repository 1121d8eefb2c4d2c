-- Worked histories in which units are taken apart and objects are marked as garbage, and entries that are refused.
use Rattle.std.specs.Prelude.{◌≡◌, List, [], ◌∷◌, ◌++◌, Some, None, true, false, IsTrue}
use Rattle.world_model.specs.Types.{Weak, Idle, Marking, Gathering, Lane, Marker, Collector, Entry}
use Rattle.world_model.specs.Types.act
use Rattle.world_model.specs.Types.stop
use Rattle.world_model.specs.Types.begin
use Rattle.world_model.specs.Types.commit
use Rattle.world_model.specs.Types.sweep
use Rattle.world_model.specs.Sizes.{small}
use Rattle.world_model.specs.World.{in_world, unit_of, resolved}
use Rattle.world_model.specs.Histories.{after}
use Rattle.world_model.specs.Follows.{is_removed}
use Rattle.world_model.specs.Examples.{IsRefused, did, name, plain_kind}

-- ---- in Small: a cluster of three is taken apart, and the one member that is rooted outlives a collection

abbrev pub three_made : List Entry
three_made =
    did (Lane 0) (act.FrameOpen Idle)
    ∷ did (Lane 0) (act.Make (plain_kind ∷ plain_kind ∷ plain_kind ∷ []) 1)
    ∷ did (Lane 0) (act.Root (name 2) true false)
    ∷ []

-- the last member leaves, and the second
abbrev pub one_left : List Entry
one_left = three_made ++ did (Lane 0) (act.Loose (name 3)) ∷ []

abbrev pub two_left : List Entry
two_left = one_left ++ did (Lane 0) (act.Loose (name 2)) ∷ []

-- the answer; and a unit of one is taken apart at once
abbrev pub cluster_apart : List Entry
cluster_apart =
    two_left
    ++ did (Lane 0) (act.Dissolve (name 3) 3)
    ∷ did (Lane 0) (act.Dissolve (name 3) 1)
    ∷ did (Lane 0) act.FrameClose
    ∷ []

-- a collection marks the root unit, which is the second object alone
abbrev pub single_marked : List Entry
single_marked =
    cluster_apart
    ++ did Collector (act.BeginGc begin.Started)
    ∷ did Collector (act.Kept (name 2))
    ∷ []

-- it scans one object, and removes the two others
abbrev pub singles_removed : List Entry
singles_removed =
    single_marked
    ++ did (Marker 0) act.SliceOpen
    ∷ did (Marker 0) (act.Scanned (name 2))
    ∷ did (Marker 0) (act.Slice 9 (record { scanned = 1; stop = stop.Idle }))
    ∷ did Collector (act.CommitGc commit.Done)
    ∷ did Collector (act.Sweep 16 (record { looked = 16; found = 2; stop = sweep.Settled }) (name 1 ∷ name 3 ∷ []))
    ∷ []

-- ---- in Small: while a collection marks a unit is not taken apart, and after its commit it is

-- a unit of two, of which a strong pointer names the second
abbrev pub pair_held : List Entry
pair_held =
    did (Lane 0) (act.FrameOpen Idle)
    ∷ did (Lane 0) (act.Make (plain_kind ∷ plain_kind ∷ []) 1)
    ∷ did (Lane 0) (act.SetStrong 0 (Some (name 2)) None)
    ∷ did (Lane 0) act.FrameClose
    ∷ did Collector (act.BeginGc begin.Started)
    ∷ did Collector (act.Kept (name 2))
    ∷ did (Lane 0) (act.FrameOpen Marking)
    ∷ did (Lane 0) (act.GetStrong 0 (Some (name 2)))
    ∷ []

abbrev pub pair_marked : List Entry
pair_marked =
    pair_held
    ++ did (Lane 0) (act.NoDissolve (name 2))
    ∷ did (Lane 0) act.FrameClose
    ∷ did (Marker 0) act.SliceOpen
    ∷ did (Marker 0) (act.Scanned (name 2))
    ∷ did (Marker 0) (act.Slice 9 (record { scanned = 2; stop = stop.Idle }))
    ∷ []

abbrev pub pair_apart : List Entry
pair_apart =
    pair_marked
    ++ did Collector (act.CommitGc commit.Done)
    ∷ did (Lane 0) (act.FrameOpen Gathering)
    ∷ did (Lane 0) (act.GetStrong 0 (Some (name 2)))
    ∷ did (Lane 0) (act.Loose (name 2))
    ∷ did (Lane 0) (act.Dissolve (name 2) 2)
    ∷ []

-- ---- in Small: an object is marked as garbage, and stays as long as it is reached

abbrev pub own_pair : Weak
own_pair = record { index = 0; serial = 16 }

abbrev pub valid_held : List Entry
valid_held =
    did (Lane 0) (act.FrameOpen Idle)
    ∷ did (Lane 0) (act.Make (plain_kind ∷ []) 1)
    ∷ did (Lane 0) (act.SetStrong 0 (Some (name 1)) None)
    ∷ did (Lane 0) (act.WeakOf (name 1) own_pair)
    ∷ did (Lane 0) (act.IsValid (name 1) true)
    ∷ did (Lane 0) (act.Resolve own_pair (Some (name 1)))
    ∷ []

abbrev pub garbage_held : List Entry
garbage_held = valid_held ++ did (Lane 0) (act.MarkGarbage (name 1) false) ∷ []

-- its weak pointer gives none, and is still its own; a collection keeps it
abbrev pub garbage_marked : List Entry
garbage_marked =
    garbage_held
    ++ did (Lane 0) (act.MarkGarbage (name 1) true)
    ∷ did (Lane 0) (act.IsValid (name 1) false)
    ∷ did (Lane 0) (act.Resolve own_pair None)
    ∷ did (Lane 0) (act.WeakOf (name 1) own_pair)
    ∷ did (Lane 0) act.FrameClose
    ∷ did Collector (act.BeginGc begin.Started)
    ∷ did Collector (act.Kept (name 1))
    ∷ did (Marker 0) act.SliceOpen
    ∷ did (Marker 0) (act.Scanned (name 1))
    ∷ did (Marker 0) (act.Slice 9 (record { scanned = 1; stop = stop.Idle }))
    ∷ []

abbrev pub garbage_kept : List Entry
garbage_kept =
    garbage_marked
    ++ did Collector (act.CommitGc commit.Done)
    ∷ did Collector (act.Sweep 16 (record { looked = 16; found = 0; stop = sweep.Settled }) [])
    ∷ did (Lane 0) (act.FrameOpen Idle)
    ∷ did (Lane 0) (act.GetStrong 0 (Some (name 1)))
    ∷ did (Lane 0) (act.IsValid (name 1) false)
    ∷ []

-- ---- what they show

pub record PartingsShow : Type 0 where
  -- each member of the cluster is a unit by itself, and the collection keeps the one that is rooted
  pub alone : (unit_of (after cluster_apart) (name 1) ≡ name 1 ∷ []) × (unit_of (after cluster_apart) (name 2) ≡ name 2 ∷ []) × (unit_of (after cluster_apart) (name 3) ≡ name 3 ∷ [])
  pub kept : IsTrue (in_world (after singles_removed) (name 2))
  pub removed : IsTrue (is_removed (after singles_removed) (name 1)) × IsTrue (is_removed (after singles_removed) (name 3))
  -- what a pair gave it gives no more when its object, which lives, is garbage
  pub given : resolved (after valid_held) own_pair ≡ Some (name 1)
  pub given_none : IsTrue (in_world (after garbage_kept) (name 1)) × (resolved (after garbage_kept) own_pair ≡ None)

-- ---- wrong entries

-- two units of two, of which the first has lost a member
abbrev pub two_units : List Entry
two_units =
    did (Lane 0) (act.FrameOpen Idle)
    ∷ did (Lane 0) (act.Make (plain_kind ∷ plain_kind ∷ []) 1)
    ∷ did (Lane 0) (act.Make (plain_kind ∷ plain_kind ∷ []) 3)
    ∷ did (Lane 0) (act.Loose (name 2))
    ∷ []

-- another lane holds the members of a unit
abbrev pub unit_shared : List Entry
unit_shared =
    did (Lane 0) (act.FrameOpen Idle)
    ∷ did (Lane 0) (act.Make (plain_kind ∷ plain_kind ∷ []) 1)
    ∷ did (Lane 0) (act.WeakOf (name 1) own_pair)
    ∷ did (Lane 1) (act.FrameOpen Idle)
    ∷ did (Lane 1) (act.Resolve own_pair (Some (name 1)))
    ∷ []

-- Entries that are refused, each after a legal history.
pub record PartingRefusals : Type 0 where
  -- a unit is said to be taken apart while a member stands in it with another, or with a wrong number of members
  pub half_apart : IsRefused small one_left (did (Lane 0) (act.Dissolve (name 3) 3))
  pub miscounted : IsRefused small two_left (did (Lane 0) (act.Dissolve (name 3) 2))
  pub not_begun : IsRefused small three_made (did (Lane 0) (act.Dissolve (name 3) 3))
  -- in the midst of it the lane closes its frame, reads, or goes on with another unit
  pub closed_halfway : IsRefused small one_left (did (Lane 0) act.FrameClose)
  pub read_halfway : IsRefused small one_left (did (Lane 0) (act.GetStrong 0 None))
  pub other_unit : IsRefused small two_units (did (Lane 0) (act.Loose (name 4)))
  -- a member leaves that is not the last, or that has left, or that is left alone
  pub not_last : IsRefused small three_made (did (Lane 0) (act.Loose (name 2)))
  pub left_twice : IsRefused small one_left (did (Lane 0) (act.Loose (name 3)))
  pub left_alone : IsRefused small two_left (did (Lane 0) (act.Loose (name 1)))
  -- another lane takes the unit apart
  pub not_own : IsRefused small unit_shared (did (Lane 1) (act.Loose (name 2)))
  pub not_own_refused : IsRefused small unit_shared (did (Lane 1) (act.NoDissolve (name 2)))
  -- a unit is taken apart while a collection marks, or is not while none does
  pub apart_marking : IsRefused small pair_held (did (Lane 0) (act.Loose (name 2)))
  pub refused_idle : IsRefused small three_made (did (Lane 0) (act.NoDissolve (name 3)))
  -- a weak pointer gives an object that is garbage, or none before
  pub garbage_given : IsRefused small garbage_held (did (Lane 0) (act.Resolve own_pair (Some (name 1))))
  pub valid_not_given : IsRefused small valid_held (did (Lane 0) (act.Resolve own_pair None))
  -- an object is called garbage when it is not, or valid when it is garbage, or is marked twice for the first time
  pub called_garbage : IsRefused small valid_held (did (Lane 0) (act.MarkGarbage (name 1) true))
  pub called_valid : IsRefused small garbage_held (did (Lane 0) (act.IsValid (name 1) true))
  pub marked_twice : IsRefused small garbage_held (did (Lane 0) (act.MarkGarbage (name 1) false))
