use Rattle.std.proofs.Common.{subst}
use Rattle.class_schema.specs.Class.{Schema}
use Rattle.class_schema.specs.Ancestry.{parents}
use Rattle.class_schema.proofs.Ancestors.{Falls}
use Rattle.class_schema.proofs.Reading.{falling, ends, ends_test}
use Rattle.class_schema.proofs.classes.ClassTable.is_a.Goals as goal

pub returns-clause-test : goal.returns-clause-test
returns-clause-test c =
    let i = c.self.inside in
    let fall = subst (λ (t : Schema). Falls (parents t.classes)) c.self.view_is (falling i.slots i.names.keys i.classes.entries c.self.invariant) in
    ends_test c.args.self.now.classes c.args.class c.loop-at.at c.args.of fall c.loop-at-test.false c.loop-at.invariant

pub returns-clause-yes : goal.returns-clause-yes
returns-clause-yes c =
    let i = c.self.inside in
    let fall = subst (λ (t : Schema). Falls (parents t.classes)) c.self.view_is (falling i.slots i.names.keys i.classes.entries c.self.invariant) in
    (ends c.args.self.now.classes c.args.class c.loop-at.at c.args.of fall c.loop-at-test.false c.loop-at.invariant).0

pub returns-clause-no : goal.returns-clause-no
returns-clause-no c =
    let i = c.self.inside in
    let fall = subst (λ (t : Schema). Falls (parents t.classes)) c.self.view_is (falling i.slots i.names.keys i.classes.entries c.self.invariant) in
    (ends c.args.self.now.classes c.args.class c.loop-at.at c.args.of fall c.loop-at-test.false c.loop-at.invariant).1
