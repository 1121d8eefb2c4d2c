-- A shape for tests alone.
use Rattle.std.proofs.Common.{lit≤}
use Rattle.world_model.specs.Sizes.{Sizes, IsLawful}

-- the shape Single, whose one lane has one index
abbrev pub single : Sizes
single = record { lanes = 1; quota = 1; slots = 1; strong = 1; markers = 1; serials = 1000; names = 1001 }

pub single_is_lawful : IsLawful single
single_is_lawful = record {
  some_lanes = lit≤ tt;
  few_lanes = lit≤ tt;
  some_quota = lit≤ tt;
  few_items = lit≤ tt;
  some_slots = lit≤ tt;
  few_slots = lit≤ tt;
  some_strong = lit≤ tt;
  few_strong = lit≤ tt;
  some_markers = lit≤ tt;
  few_markers = lit≤ tt;
  some_serials = lit≤ tt;
  few_serials = lit≤ tt;
  some_names = lit≤ tt;
  few_names = lit≤ tt;
}
