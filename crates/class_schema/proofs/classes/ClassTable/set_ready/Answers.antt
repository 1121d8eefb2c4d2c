use Rattle.std.proofs.Common.{◌∙◌, ap, sym}
use Rattle.class_schema.specs.Class.{Schema}
use Rattle.class_schema.specs.Ancestry.{parents, has_children}
use Rattle.class_schema.proofs.Keeping.{keeps_ready, ready_done}
use Rattle.class_schema.proofs.classes.ClassTable.set_ready.Goals as goal

pub invariant_of-self : goal.invariant_of-self
invariant_of-self c =
    let i = c.self.inside in
    keeps_ready i.slots i.names.keys i.classes.entries c.args.class.0 c.index_mut.result.now c.args.ready c.index_mut.ensures.value c.requires.ready c.self.invariant

pub returns : goal.returns
returns c =
    let i = c.self.inside in
    let none = ap (λ (t : Schema). has_children (parents t.classes) c.args.class) c.self.view_is ∙ sym c.has_children.ensures ∙ c.if-has_children.false in
    rw (← c.self.view_is) (ready_done i.slots i.names.keys i.classes.entries c.args.class c.index_mut.result.now c.args.ready c.index_mut.ensures.value none)
