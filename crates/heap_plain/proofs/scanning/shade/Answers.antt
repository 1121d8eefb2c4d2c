use Rattle.std.proofs.Common.{◌≡◌, sym, ◌∙◌, ℕ, Option, Some}
use Rattle.heap_plain.proofs.MarkSteps.{worklist_room}
use Rattle.heap_plain.proofs.Shadings.{shades_one}
use Rattle.heap_plain.proofs.scanning.shade.Goals as goal

same_some : (o : Option ℕ) (t r : ℕ) → o ≡ Some t → o ≡ Some r → r ≡ t
same_some o t r a b = let e : Some t ≡ Some r = sym a ∙ b in cc

pub returns : goal.returns
returns c =
    rw (c.kept.ensures, c.mark.ensures)
    (shades_one c.in-Some.index c.named.result c.in-Some.is (λ r e. same_some c.args.target c.in-Some.index r c.in-Some.is e) (c.requires.heads c.in-Some.index)
    (sym c.is_marked.ensures ∙ c.if-is_marked.false) c.named.ensures c.requires.fits)

pub mark-requires-clause-room : goal.mark-requires-clause-room
mark-requires-clause-room c = worklist_room _ c.requires.fits (c.requires.heads c.in-Some.index) (sym c.is_marked.ensures ∙ c.if-is_marked.false)
