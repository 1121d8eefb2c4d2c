use Rattle.std.proofs.Common.{arith}
use Rattle.world_play.proofs.Streams.{read_end, read_full}
use Rattle.world_play.proofs.stream.read_all.Goals as goal

pub returns-then-count-eq0-clause-bytes : goal.returns-then-count-eq0-clause-bytes
returns-then-count-eq0-clause-bytes g c =
    read_end _ _ _ c.loop-buf.all.items _ c.args.limit c.in-Ok.count c.loop-buf.invariant.bytes c.in-Ok.ensures.bytes c.if-count-eq0.true
    c.loop-buf.invariant.inside

pub returns-clause-bytes : goal.returns-clause-bytes
returns-clause-bytes g c = read_full _ _ c.loop-buf.all.items c.args.limit c.loop-buf.invariant.bytes (omega (arith, c.loop-buf.invariant.inside, c.loop-buf-test.false, c.len.ensures))
