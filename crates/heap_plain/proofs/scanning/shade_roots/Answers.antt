use Rattle.std.proofs.Common.{◌∙◌, sym, ap, false, get_or, arith, ℕ}
use Rattle.heap_plain.proofs.Shadings.{shades_len, shades_stay, shades_join, bit_root, roots_more}
use Rattle.heap_plain.proofs.scanning.shade_roots.Goals as goal

pub loop-i-init : goal.loop-i-init
loop-i-init c = shades_stay c.requires.fits (λ t h. absurd (omega (arith, h.0)))

pub shade-requires : goal.shade-requires
shade-requires c =
    let i = c.loop-i.i in
    let at = bit_root c.args.roots.now i in
    record {
      target = λ t e. omega (arith, (at t (sym c.root_bit-root.ensures ∙ e)).0);
      heads = λ k. omega (arith, c.requires.heads k, shades_len c.loop-i.invariant);
      named = λ t e.
          let root = at t (sym c.root_bit-root.ensures ∙ e) in
          c.requires.named t (omega (arith, root.0), ap (λ (x : ℕ). get_or c.args.roots.now x false) root.0 ∙ root.1);
      fits = c.loop-i.invariant.fits;
    }

pub loop-i-preserved : goal.loop-i-preserved
loop-i-preserved c =
    let i = c.loop-i.i in
    let shaded = rw c.root_bit-root.ensures at c.shade.ensures in
    shades_join (λ t h. (omega (arith, h.0), h.1))
    (λ t e. let at = bit_root c.args.roots.now i t e in (omega (arith, at.0), ap (λ (x : ℕ). get_or c.args.roots.now x false) at.0 ∙ at.1))
    (λ t h. roots_more c.args.roots.now i t h) c.loop-i.invariant shaded
