use Rattle.std.proofs.Common.{◌≡◌, ap, ◌∙◌, arith, List, ℕ}
use Rattle.heap_plain.specs.Stocked.{rising, stocked}
use Rattle.heap_plain.proofs.Picking.{length-rising}
use Rattle.heap_plain.proofs.stock.Stock.new.Goals as goal

pub returns : goal.returns
returns c =
    let last : c.loop-k.k ≡ c.args.count = omega (arith, c.loop-k-test.false, c.loop-k.auto.k-end) in
    let all : c.loop-k.places.items ≡ rising c.args.first c.args.count = c.loop-k.invariant ∙ ap (rising c.args.first) last in
    ap (λ (xs : List ℕ). stocked xs 0) all ∙ ap (λ (n : ℕ). record { room = n; free = rising c.args.first c.args.count }) (length-rising c.args.first c.args.count)
