use Rattle.std.proofs.Common.{◌≡◌, ℕ, zero-add, sym, ap, ◌∙◌, arith, length, replicate, false, [], List, Bool, get_or}
use Rattle.std.proofs.lemmas.List.{ext_get_or, get_or-replicate, length-replicate}
use Rattle.heap_plain.specs.Painted.{Painted}
use Rattle.heap_plain.proofs.colours.Colours.clear.Goals as goal

pub returns : goal.returns
returns c =
    let f = c.fill.ensures in
    let n : ℕ = length c.self.inside.marked.items in
    let all : c.fill.new.items.items ≡ replicate n false =
    ext_get_or false c.fill.new.items.items (replicate n false) (f.len ∙ sym (length-replicate n false))
    (λ i lt. ap (λ (k : ℕ). get_or c.fill.new.items.items k false) (sym (zero-add i)) ∙ f.inside i false (omega (arith, f.len, lt)) ∙ sym (get_or-replicate n i false false (omega (arith, f.len, lt)))) in
    let same : n ≡ length c.args.self.now.marked = ap (λ (p : Painted). length p.marked) c.self.view_is in
    ap (λ (xs : List Bool). record { marked = xs; listed = []; scanned = 0 }) (all ∙ ap (λ (k : ℕ). replicate k false) same)
