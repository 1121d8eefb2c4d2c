use Rattle.std.proofs.Common.{arith}
use Rattle.std.proofs.lemmas.List.{length-append}
use Rattle.heap_plain.specs.Listing.{chain}
use Rattle.heap_plain.proofs.Listings.{length-chain}
use Rattle.heap_plain.proofs.listing.queue_unit.Goals as goal

pub list-requires-clause-room : goal.list-requires-clause-room
list-requires-clause-room c =
    rw c.loop-k.invariant.queue
    (omega (arith, length-append c.args.queue.now.todo (chain c.args.next.now c.args.head c.loop-k.k), length-chain c.args.next.now c.args.head c.loop-k.k, c.requires.room, c.loop-k-test.true))
