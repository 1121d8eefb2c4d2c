use Rattle.std.proofs.Common.{ap, ◌∙◌, List}
use Rattle.world_model.specs.Histories.{after}
use Rattle.heap_plain.specs.Types.{Entry}
use Rattle.engine_tests.proofs.Opened.{in_level_frame, same_by_create, same_by_write}
use Rattle.engine_tests.proofs.cells.make_before.Goals as goal

pub kind_of-kind-requires-clause-frame : goal.kind_of-kind-requires-clause-frame
kind_of-kind-requires-clause-frame g c = in_level_frame _ (same_by_create _ _ _ c.create.ensures.entries ∙ c.requires.opened)

pub write_ref-requires-clause-frame : goal.write_ref-requires-clause-frame
write_ref-requires-clause-frame g c =
    in_level_frame _ (ap (λ (h : List Entry). (after h).opened) c.kind_of-kind.ensures.same ∙ same_by_create _ _ _ c.create.ensures.entries ∙ c.requires.opened)

pub returns-clause-opened : goal.returns-clause-opened
returns-clause-opened g c =
    same_by_write c.write_ref.ensures.entries ∙ ap (λ (h : List Entry). (after h).opened) c.kind_of-kind.ensures.same ∙ same_by_create _ _ _ c.create.ensures.entries ∙ c.requires.opened
