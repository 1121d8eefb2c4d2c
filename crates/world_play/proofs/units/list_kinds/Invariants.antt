use Rattle.std.proofs.Common.{◌≡◌, length, map, take, IsTrue}
use Rattle.std.specs.List.{list_all}
use Rattle.world_model.specs.Sizes.{Sizes}
use Rattle.world_model.specs.LaneSteps.{is_lawful}
use Rattle.class_schema.specs.Table.{kind_of}
use Rattle.world_play.proofs.units.list_kinds.Given as goal

abbrev pub invariant-loop-i : goal.invariant-loop-i
invariant-loop-i l =
    (length l.kinds ≡ length l.members)
    × (take l.i l.kinds ≡ map (λ m. kind_of l.header.classes m.class) (take l.i l.members))
    × ((z : Sizes) → z.slots ≡ l.header.classes.slots → IsTrue (list_all (is_lawful z) (take l.i l.kinds)))
