use Rattle.std.proofs.Common.{◌+◌, ◌∙◌, ap, sym, Some, None, cond, arith}
use Rattle.std.proofs.lemmas.Bool.{lt-ltb, le-ltb}
use Rattle.class_schema.specs.Types.refusal
use Rattle.class_schema.proofs.Reading.{room_seen}
use Rattle.class_schema.proofs.classes.ClassTable.no_room.Goals as goal

pub overflow_add-used : goal.overflow_add-used
overflow_add-used c =
    let fits = (c.self.invariant.rows c.args.class.0 c.index-row.result.now c.index-row.ensures).adds_up.fits in
    let few = c.self.invariant.few_slots in
    omega arith

pub overflow_add-used-2 : goal.overflow_add-used-2
overflow_add-used-2 c =
    let fits = (c.self.invariant.rows c.args.class.0 c.index-row.result.now c.index-row.ensures).adds_up.fits in
    let few = c.self.invariant.few_slots in
    omega arith

pub returns-then-used-count : goal.returns-then-used-count
returns-then-used-count c =
    let row = c.index-row.result.now in
    let test = lt-ltb c.self.inside.slots (row.refs + row.plain + c.args.count) c.if-used-count.true in
    rw (← c.self.view_is)
    (sym (ap (λ b. cond b (Some (refusal.TooManySlots (row.refs + row.plain) c.args.count)) None) test)
    ∙ room_seen c.self.inside.slots c.self.inside.names.keys c.self.inside.classes.entries c.self.invariant c.args.class row c.index-row.ensures
    c.args.count)

pub returns-else-used-count : goal.returns-else-used-count
returns-else-used-count c =
    let row = c.index-row.result.now in
    let test = le-ltb c.self.inside.slots (row.refs + row.plain + c.args.count) c.if-used-count.false in
    rw (← c.self.view_is)
    (sym (ap (λ b. cond b (Some (refusal.TooManySlots (row.refs + row.plain) c.args.count)) None) test)
    ∙ room_seen c.self.inside.slots c.self.inside.names.keys c.self.inside.classes.entries c.self.invariant c.args.class row c.index-row.ensures
    c.args.count)
