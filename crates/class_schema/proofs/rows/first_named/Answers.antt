use Rattle.class_schema.proofs.Finding.{looks_on, looks_here, looks_out}
use Rattle.class_schema.proofs.rows.first_named.Goals as goal

pub returns : goal.returns
returns c = looks_out c.args.name c.args.rows.now c.loop-row.row-index c.loop-row-test.false c.loop-row.invariant

pub loop-row-preserved : goal.loop-row-preserved
loop-row-preserved c = looks_on c.args.name c.args.rows.now c.loop-row.row-index _ c.loop-row-test.true c.if-row-name.false c.loop-row.invariant

pub returns-then-row-name : goal.returns-then-row-name
returns-then-row-name c = looks_here c.args.name c.args.rows.now c.loop-row.row-index _ c.loop-row-test.true c.if-row-name.true c.loop-row.invariant
