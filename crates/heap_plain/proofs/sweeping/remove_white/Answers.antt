use Rattle.std.proofs.Common.{◌≡◌, ◌<◌, ◌∙◌, ap, arith, Bool, false, get_or, length}
use Rattle.std.proofs.lemmas.List.{get_or_read}
use Rattle.heap_plain.specs.declared.life.Life.{Life}
use Rattle.heap_plain.specs.declared.life.Life.TheVariants.{Free}
use Rattle.heap_plain.specs.Parts.{life_at, first_at}
use Rattle.heap_plain.specs.Sweeping.{without}
use Rattle.heap_plain.proofs.Finding.{removes_more}
use Rattle.heap_plain.proofs.sweeping.remove_white.Goals as goal

pub loop-i-preserved : goal.loop-i-preserved
loop-i-preserved c =
    let below : c.loop-i.i < length c.args.lives.now.items = omega (arith, c.loop-i-test.true, c.len-i-end.ensures) in
    let life : c.index.result.now ≡ life_at c.loop-i.lives.items c.loop-i.i = get_or_read c.loop-i.lives.items _ _ (omega (arith, below, c.loop-i.invariant.len)) c.index.ensures Free in
    removes_more _ _ _ _ _ _ c.loop-i.invariant below
    (c.without.ensures ∙ ap (λ (b : Bool). without c.index.result.now b) c.is_marked.ensures
    ∙ ap (λ (x : Life). without x (get_or c.args.colours.now.marked (first_at c.args.firsts.now c.loop-i.i) false)) life)
