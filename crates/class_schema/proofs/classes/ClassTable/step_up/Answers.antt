use Rattle.std.proofs.Common.{arith}
use Rattle.class_schema.proofs.Reading.{jump_under, jump_yes, jump_no, parent_under, parent_yes, parent_no, orphan}
use Rattle.class_schema.proofs.classes.ClassTable.step_up.Goals as goal

pub returns-then-row-of-clause-up : goal.returns-then-row-of-clause-up
returns-then-row-of-clause-up c = let i = c.self.inside in
    jump_under i.slots i.names.keys i.classes.entries c.self.invariant c.args.class c.index-row.result.now c.index-row.ensures
    (let b = c.requires.below in omega arith)

pub returns-then-row-of-clause-yes : goal.returns-then-row-of-clause-yes
returns-then-row-of-clause-yes c = let i = c.self.inside in
    rw (← c.self.view_is)
    (jump_yes i.slots i.names.keys i.classes.entries c.self.invariant c.args.class c.index-row.result.now c.index-row.ensures c.args.of)

pub returns-then-row-of-clause-no : goal.returns-then-row-of-clause-no
returns-then-row-of-clause-no c = let i = c.self.inside in
    rw (← c.self.view_is)
    (jump_no i.slots i.names.keys i.classes.entries c.self.invariant c.args.class c.index-row.result.now c.index-row.ensures c.args.of
    c.if-row-of.true)

pub returns-in-Some-clause-up : goal.returns-in-Some-clause-up
returns-in-Some-clause-up c = let i = c.self.inside in
    parent_under i.slots i.names.keys i.classes.entries c.self.invariant c.args.class c.index-row.result.now c.index-row.ensures c.in-Some.parent
    c.in-Some.is

pub returns-in-Some-clause-yes : goal.returns-in-Some-clause-yes
returns-in-Some-clause-yes c = let i = c.self.inside in
    rw (← c.self.view_is)
    (parent_yes i.slots i.names.keys i.classes.entries c.self.invariant c.args.class c.index-row.result.now c.index-row.ensures c.in-Some.parent
    c.in-Some.is c.args.of)

pub returns-in-Some-clause-no : goal.returns-in-Some-clause-no
returns-in-Some-clause-no c = let i = c.self.inside in
    rw (← c.self.view_is)
    (parent_no i.slots i.names.keys i.classes.entries c.self.invariant c.args.class c.index-row.result.now c.index-row.ensures c.in-Some.parent
    c.in-Some.is c.args.of c.requires.below)

pub returns-in-None-clause-yes : goal.returns-in-None-clause-yes
returns-in-None-clause-yes c = let i = c.self.inside in
    absurd
    (orphan i.slots i.names.keys i.classes.entries c.self.invariant c.args.class c.index-row.result.now c.index-row.ensures c.in-None.is
    (let b = c.requires.below in omega arith))

pub returns-in-None-clause-no : goal.returns-in-None-clause-no
returns-in-None-clause-no c = let i = c.self.inside in
    absurd
    (orphan i.slots i.names.keys i.classes.entries c.self.invariant c.args.class c.index-row.result.now c.index-row.ensures c.in-None.is
    (let b = c.requires.below in omega arith))
