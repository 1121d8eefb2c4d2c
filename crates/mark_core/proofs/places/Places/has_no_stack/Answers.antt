use Rattle.std.proofs.Common.{◌≡◌, ◌<◌, [], ap, sym, ◌∙◌, length}
use Rattle.std.proofs.Math.ListN.{get_or}
use Rattle.std.proofs.lemmas.List.{get_or_default}
use Rattle.mark_core.specs.Machine.{OnStack, same_place}
use Rattle.mark_core.specs.Units.{place_in}
use Rattle.mark_core.specs.Sets.{count_in}
use Rattle.mark_core.proofs.Sets.{none_tells}
use Rattle.mark_core.proofs.places.Places.has_no_stack.Goals as goal

pub returns : goal.returns
returns c =
    let i = c.self.inside in
    let small : c.args.m < length i.stacks.items = rw (← c.self.view_is) at c.requires in
    let at : get_or i.stacks.items c.args.m [] ≡ c.index.result.now = get_or_default i.stacks.items c.args.m [] c.index.result.now small ∙ sym c.index.ensures in
    rw (← c.self.view_is)
    (none_tells (λ u. same_place (place_in (record { places = i.places.items; markers = length i.stacks.items }) u) (OnStack c.args.m))
    (get_or i.stacks.items c.args.m []) (length i.places.items) c.count.result (c.self.invariant.lens c.args.m small)
    (λ u. c.self.invariant.stack_is c.args.m u small) (c.count.ensures ∙ ap count_in (sym at)))
