use Rattle.std.proofs.Common.{◌≡◌, ◌∙◌, ap, sym, length, arith, add-one}
use Rattle.std.proofs.Math.ListN.{set}
use Rattle.heap_plain.specs.Parts.{next_at}
use Rattle.heap_plain.specs.Listing.{chained, chain}
use Rattle.heap_plain.specs.Serials.{all_cleared}
use Rattle.heap_plain.proofs.Pointers.{length-all_cleared, all_cleared-append}
use Rattle.heap_plain.proofs.serials.Serials.clear.Goals as goal

pub index_mut-requires : goal.index_mut-requires
index_mut-requires c =
    let serials = c.args.self.now.serials in
    let row = chain c.args.next.now c.args.head c.loop-k.k in
    let len : length c.loop-k.self-inside.serials.items ≡ length serials = ap length c.loop-k.invariant.serials ∙ length-all_cleared serials row in
    let below = c.requires.chain c.loop-k.k c.loop-k-test.true in
    omega (arith, c.loop-k.invariant.index, below, c.requires.items, len, c.loop-k.self-inside.serials.ok.0)

pub loop-k-preserved : goal.loop-k-preserved
loop-k-preserved c =
    let next = c.args.next.now in
    let serials = c.args.self.now.serials in
    let k = c.loop-k.k in
    let is = c.loop-k.invariant.index in
    record {
      index = ap (next_at next) is ∙ sym (ap (chained next c.args.head) (add-one k));
      serials = (λ t. set (c.loop-k.invariant.serials t) (is t) 0) ∙ sym (all_cleared-append serials (chain next c.args.head k) (chained next c.args.head k))
          ∙ sym (ap (λ (n : _). all_cleared serials (chain next c.args.head n)) (add-one k));
      drawn = c.loop-k.invariant.drawn;
    }
