use Rattle.std.proofs.Common.{◌≡◌, ◌<◌, Bool, false, true, not, length, sym, ◌∙◌, arith, ap}
use Rattle.std.proofs.Math.ListN.{get_or, set}
use Rattle.std.proofs.lemmas.List.{length-map}
use Rattle.mark_core.specs.Sets.{members}
use Rattle.mark_core.proofs.Sets.{put_in, take_out, some_in, room_in, differs, agrees, set_again, same_stamp, old_stamp}
use Rattle.mark_core.proofs.flags.Flags.set.Goals as goal

pub overflow_add-self : goal.overflow_add-self
overflow_add-self c =
    let inside = c.self.inside in
    let bits : length (members inside.present inside.stamps.items) ≡ length inside.stamps.items = length-map inside.stamps.items _ in
    let lt : c.args.i < length (members inside.present inside.stamps.items) = rw c.self.view_is c.requires in
    let out : get_or (members inside.present inside.stamps.items) c.args.i false ≡ false =
    ap (λ (xs : _). get_or xs c.args.i false) c.self.view_is ∙ (sym c.get.ensures ∙ (differs _ _ c.if-get-b.false ∙ ap not c.if-b.true)) in
    let room = room_in (members inside.present inside.stamps.items) c.args.i out lt in
    let counted = c.self.invariant.counted in
    let few = c.self.invariant.few in
    omega arith

pub invariant_of-self : goal.invariant_of-self
invariant_of-self c =
    let inside = c.self.inside in
    let bits : length (members inside.present inside.stamps.items) ≡ length inside.stamps.items = length-map inside.stamps.items _ in
    let lt : c.args.i < length (members inside.present inside.stamps.items) = rw c.self.view_is c.requires in
    let out : get_or (members inside.present inside.stamps.items) c.args.i false ≡ false =
    ap (λ (xs : _). get_or xs c.args.i false) c.self.view_is ∙ (sym c.get.ensures ∙ (differs _ _ c.if-get-b.false ∙ ap not c.if-b.true)) in
    put_in inside.present inside.count inside.stamps.items c.args.i (omega arith) out c.self.invariant

pub overflow_sub-self : goal.overflow_sub-self
overflow_sub-self c =
    let inside = c.self.inside in
    let lt : c.args.i < length (members inside.present inside.stamps.items) = rw c.self.view_is c.requires in
    let on : get_or (members inside.present inside.stamps.items) c.args.i false ≡ true =
    ap (λ (xs : _). get_or xs c.args.i false) c.self.view_is ∙ (sym c.get.ensures ∙ (differs _ _ c.if-get-b.false ∙ ap not c.if-b.false)) in
    let some = some_in (members inside.present inside.stamps.items) c.args.i on lt in
    let counted = c.self.invariant.counted in
    omega arith

pub invariant_of-self-else-b : goal.invariant_of-self-else-b
invariant_of-self-else-b c =
    let inside = c.self.inside in
    let bits : length (members inside.present inside.stamps.items) ≡ length inside.stamps.items = length-map inside.stamps.items _ in
    let lt : c.args.i < length (members inside.present inside.stamps.items) = rw c.self.view_is c.requires in
    let on : get_or (members inside.present inside.stamps.items) c.args.i false ≡ true =
    ap (λ (xs : _). get_or xs c.args.i false) c.self.view_is ∙ (sym c.get.ensures ∙ (differs _ _ c.if-get-b.false ∙ ap not c.if-b.false)) in
    take_out inside.present inside.count inside.stamps.items c.args.i (omega arith) on c.self.invariant

pub returns-then-get-b : goal.returns-then-get-b
returns-then-get-b c = sym (set_again false c.args.self.now c.args.i c.args.b (sym c.get.ensures ∙ agrees _ _ c.if-get-b.true))

pub returns-then-b : goal.returns-then-b
returns-then-b c =
    let inside = c.self.inside in
    same_stamp inside.present inside.stamps.items c.args.i ∙ (ap (λ (xs : _). set xs c.args.i true) c.self.view_is ∙ ap (λ (x : Bool). set c.args.self.now c.args.i x) (sym c.if-b.true))

pub returns-else-b : goal.returns-else-b
returns-else-b c =
    let inside = c.self.inside in
    old_stamp inside.present inside.stamps.items c.args.i c.self.invariant.positive
    ∙ (ap (λ (xs : _). set xs c.args.i false) c.self.view_is ∙ ap (λ (x : Bool). set c.args.self.now c.args.i x) (sym c.if-b.false))
