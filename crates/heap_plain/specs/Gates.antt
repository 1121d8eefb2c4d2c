-- The gate: the phase, and which lanes have their frame open.
use Rattle.std.specs.Prelude.{◌≡◌, Bool, List, length, count_by}
use Rattle.std.specs.List.{list_any}
use Rattle.heap_plain.specs.Types.{Pass, Phase, Lane}
use Rattle.world_model.specs.Sizes.{Sizes}
use Rattle.world_model.specs.NameLists.{same_pass}
use Rattle.heap_plain.specs.Parts.{Gate, Lists}

pub record FramesShow (z : Sizes) (frames : List Bool) (opened : List Pass) : Type 0 where
  pub lanes : Lists frames z.lanes (λ lane. list_any (same_pass (Lane lane)) opened)
  pub count : count_by (λ is_open. is_open) frames ≡ length opened

-- the gate shows the phase and what is open
pub record Gates (z : Sizes) (g : Gate) (at : Phase) (opened : List Pass) : Type 0 where
  pub phase : g.phase ≡ at
  pub frames : FramesShow z g.frames opened
