-- The limits of a world.
use Rattle.std.specs.Prelude.{◌≡◌, ℕ, ◌*◌, ◌≤◌, ◌^◌}
use Rattle.std.proofs.Common.{lit≤}

-- the limits of a shape
pub record Sizes : Type 0 where
  pub lanes : ℕ
  -- indexes of each lane
  pub quota : ℕ
  -- cells of each object
  pub slots : ℕ
  -- strong pointers of each lane
  pub strong : ℕ
  pub markers : ℕ
  -- serials and names of each lane
  pub serials : ℕ
  pub names : ℕ

-- the length of the object array
abbrev pub item_count : Sizes → ℕ
item_count z = z.lanes * z.quota

-- the range of each limit
pub record IsLawful (z : Sizes) : Type 0 where
  pub some_lanes : 1 ≤ z.lanes
  pub few_lanes : z.lanes ≤ 8
  pub some_quota : 1 ≤ z.quota
  pub few_items : item_count z ≤ 2 ^ 20
  pub some_slots : 1 ≤ z.slots
  pub few_slots : z.slots ≤ 64
  pub some_strong : 1 ≤ z.strong
  pub few_strong : z.strong ≤ 1024
  pub some_markers : 1 ≤ z.markers
  pub few_markers : z.markers ≤ 16
  pub some_serials : 1 ≤ z.serials
  pub few_serials : z.serials ≤ 268435455
  pub some_names : 1 ≤ z.names
  pub few_names : z.names ≤ 68719476735

-- the constants of a shape are these
pub record HasConstants (z : Sizes) (lane_count quota_each slot_count strong_each marker_count serials_each names_each : ℕ) : Type 0 where
  pub lanes : lane_count ≡ z.lanes
  pub quota : quota_each ≡ z.quota
  pub slots : slot_count ≡ z.slots
  pub strong : strong_each ≡ z.strong
  pub markers : marker_count ≡ z.markers
  pub serials : serials_each ≡ z.serials
  pub names : names_each ≡ z.names

-- the shape Level
abbrev pub level : Sizes
level = record { lanes = 4; quota = 8192; slots = 12; strong = 64; markers = 8; serials = 268435455; names = 68719476735 }

-- the shape Small
abbrev pub small : Sizes
small = record { lanes = 2; quota = 8; slots = 4; strong = 4; markers = 2; serials = 8; names = 64 }

pub level_is_lawful : IsLawful level
level_is_lawful = record {
  some_lanes = lit≤ tt;
  few_lanes = lit≤ tt;
  some_quota = lit≤ tt;
  few_items = lit≤ tt;
  some_slots = lit≤ tt;
  few_slots = lit≤ tt;
  some_strong = lit≤ tt;
  few_strong = lit≤ tt;
  some_markers = lit≤ tt;
  few_markers = lit≤ tt;
  some_serials = lit≤ tt;
  few_serials = lit≤ tt;
  some_names = lit≤ tt;
  few_names = lit≤ tt;
}

pub small_is_lawful : IsLawful small
small_is_lawful = record {
  some_lanes = lit≤ tt;
  few_lanes = lit≤ tt;
  some_quota = lit≤ tt;
  few_items = lit≤ tt;
  some_slots = lit≤ tt;
  few_slots = lit≤ tt;
  some_strong = lit≤ tt;
  few_strong = lit≤ tt;
  some_markers = lit≤ tt;
  few_markers = lit≤ tt;
  some_serials = lit≤ tt;
  few_serials = lit≤ tt;
  some_names = lit≤ tt;
  few_names = lit≤ tt;
}
