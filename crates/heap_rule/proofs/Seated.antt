-- A step of a seat that holds no slots.
use Rattle.std.proofs.Common.{◌≡◌, ℕ, List, [], sym, subst}
use Rattle.atomic_table.specs.Table.{Allows}
use Rattle.atomic_table.specs.Seated.{TableId}
use Rattle.world_model.specs.Sizes.{Sizes}
use Rattle.heap_rule.specs.Types.{View, Ask}
use Rattle.heap_rule.specs.Rule.{Keeps}
use Rattle.heap_rule.specs.Seats.{SeatIs}

-- what is allowed of a seat as contracts see it is allowed of its view and its slots, of which it has none
pub step_may : (z : Sizes) (t : TableId) (slots id : ℕ) (v : View) (carried : List (ℕ × Unit {0})) (now : SeatIs) (i p : ℕ) (f : ℕ → ℕ) (a b : Ask) (tells : Ask → View → ℕ → View → Type 0)
    → record { heap = t; id = id; view = v } ≡ now → slots ≡ 0 → carried ≡ [] → i ≡ p → a ≡ b
    → Allows (Keeps z) 0 now.id (now.view, []) p f (λ found me. (me.1 ≡ []) × tells b now.view found me.0)
    → Allows (Keeps z) slots id (v, carried) i f (λ found me. (me.1 ≡ carried) × tells a v found me.0)
step_may z t slots id v carried now i p f a b tells is none empty at same may =
    rw (none, empty, at, same) (subst (λ (s : SeatIs). Allows (Keeps z) 0 s.id (s.view, []) p f (λ found me. (me.1 ≡ []) × tells b s.view found me.0)) (sym is) may)
