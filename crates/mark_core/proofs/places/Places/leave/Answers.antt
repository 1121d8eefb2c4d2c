use Rattle.std.proofs.Common.{◌≡◌, ◌<◌, sym, subst, ap, ◌∙◌, arith, length, List, [], Bool, false}
use Rattle.std.proofs.Math.ListN.{get_or, set}
use Rattle.std.proofs.lemmas.List.{get_or_default}
use Rattle.mark_core.specs.Machine.{Nowhere}
use Rattle.mark_core.proofs.Stacks.{stack_left, no_stack_moved}
use Rattle.mark_core.proofs.places.Places.leave.Goals as goal

pub index_mut-requires-in-OnStack : goal.index_mut-requires-in-OnStack
index_mut-requires-in-OnStack c =
    let i = c.self.inside in
    let lt : c.args.u < length i.places.items = rw (← c.self.view_is) at c.requires in
    let small = c.self.invariant.of_markers c.args.u c.in-OnStack.m (get_or_default i.places.items c.args.u Nowhere c.index.result.now lt ∙ (sym c.index.ensures ∙ c.in-OnStack.is)) in
    let len = i.stacks.ok in omega arith

pub set-requires : goal.set-requires
set-requires c =
    let i = c.self.inside in
    let lt : c.args.u < length i.places.items = rw (← c.self.view_is) at c.requires in
    let small = c.self.invariant.of_markers c.args.u c.in-OnStack.m (get_or_default i.places.items c.args.u Nowhere c.index.result.now lt ∙ (sym c.index.ensures ∙ c.in-OnStack.is)) in
    let flags : get_or i.stacks.items c.in-OnStack.m [] ≡ c.index_mut-in-OnStack.result.now =
    get_or_default i.stacks.items c.in-OnStack.m [] c.index_mut-in-OnStack.result.now small ∙ sym c.index_mut-in-OnStack.ensures.value in
    let same : length (get_or i.stacks.items c.in-OnStack.m []) ≡ length i.places.items = c.self.invariant.lens c.in-OnStack.m small in
    subst (λ (xs : List Bool). c.args.u < length xs) flags (omega arith)

pub invariant_of-self : goal.invariant_of-self
invariant_of-self c =
    let i = c.self.inside in
    let lt : c.args.u < length i.places.items = rw (← c.self.view_is) at c.requires in
    let at = get_or_default i.places.items c.args.u Nowhere c.index.result.now lt ∙ (sym c.index.ensures ∙ c.in-OnStack.is) in
    let small = c.self.invariant.of_markers c.args.u c.in-OnStack.m at in
    let flags : get_or i.stacks.items c.in-OnStack.m [] ≡ c.index_mut-in-OnStack.result.now =
    get_or_default i.stacks.items c.in-OnStack.m [] c.index_mut-in-OnStack.result.now small ∙ sym c.index_mut-in-OnStack.ensures.value in
    stack_left i.places.items i.stacks.items c.args.u c.in-OnStack.m c.set.new.self lt at (c.set.ensures ∙ ap (λ (xs : List Bool). set xs c.args.u false) (sym flags)) c.self.invariant

pub invariant_of-self-in_default : goal.invariant_of-self-in_default
invariant_of-self-in_default c =
    let i = c.self.inside in
    let lt : c.args.u < length i.places.items = rw (← c.self.view_is) at c.requires in
    let at = get_or_default i.places.items c.args.u Nowhere c.index.result.now lt ∙ sym c.index.ensures in
    no_stack_moved i.places.items i.stacks.items c.args.u Nowhere lt (λ m e. c.in_default.not-OnStack m (sym at ∙ e)) (λ m wrong. absurd cc) c.self.invariant
