use Rattle.std.proofs.Common.{sym, subst, arith}
use Rattle.class_schema.specs.Ancestry.{IsA}
use Rattle.class_schema.specs.Rows.{texts}
use Rattle.class_schema.proofs.Ancestors.{isa_join}
use Rattle.class_schema.proofs.Views.{parents_seen}
use Rattle.class_schema.proofs.Reading.{jump_low}
use Rattle.class_schema.proofs.classes.ClassTable.jump_below.Goals as goal

pub index-near-requires : goal.index-near-requires
index-near-requires c =
    let i = c.self.inside in
    let low = jump_low i.slots i.names.keys i.classes.entries c.self.invariant c.args.parent c.index-row.result.now c.index-row.ensures in
    omega arith

pub index-far-requires : goal.index-far-requires
index-far-requires c =
    let i = c.self.inside in
    let low = jump_low i.slots i.names.keys i.classes.entries c.self.invariant c.index-row.result.now.jump c.index-near.result.now c.index-near.ensures in
    omega arith

pub overflow_add-row : goal.overflow_add-row
overflow_add-row c =
    let i = c.self.inside in
    let few = c.self.invariant.few in
    let row = (c.self.invariant.rows c.args.parent.0 c.index-row.result.now c.index-row.ensures).depth in
    let far = (c.self.invariant.rows c.index-near.result.now.jump.0 c.index-far.result.now c.index-far.ensures).depth in
    let near = jump_low i.slots i.names.keys i.classes.entries c.self.invariant c.args.parent c.index-row.result.now c.index-row.ensures in
    let more = jump_low i.slots i.names.keys i.classes.entries c.self.invariant c.index-row.result.now.jump c.index-near.result.now c.index-near.ensures in
    omega arith

pub overflow_mul-near : goal.overflow_mul-near
overflow_mul-near c =
    let i = c.self.inside in
    let few = c.self.invariant.few in
    let near = (c.self.invariant.rows c.index-row.result.now.jump.0 c.index-near.result.now c.index-near.ensures).depth in
    let low = jump_low i.slots i.names.keys i.classes.entries c.self.invariant c.args.parent c.index-row.result.now c.index-row.ensures in
    omega arith

pub returns-then-row-far : goal.returns-then-row-far
returns-then-row-far c =
    let i = c.self.inside in
    let one = (c.self.invariant.rows c.args.parent.0 c.index-row.result.now c.index-row.ensures).jump in
    let two = (c.self.invariant.rows c.index-row.result.now.jump.0 c.index-near.result.now c.index-near.ensures).jump in
    let both = isa_join _ c.args.parent c.index-row.result.now.jump c.index-near.result.now.jump one two in
    rw (← c.self.view_is) (subst (λ ps. IsA ps c.args.parent c.index-near.result.now.jump) (sym (parents_seen (texts i.names.keys) i.classes.entries)) both)
