-- What contracts see of a seat.
use Rattle.std.specs.Prelude.{◌≡◌, ℕ}
use Rattle.atomic_table.specs.Seated.{TableId}
use Rattle.heap_rule.specs.Types.{View}

-- the heap that it belongs to, its number there, and what it knows
pub record SeatIs : Type 0 where
  pub heap : TableId
  pub id : ℕ
  pub view : View

-- it is the same seat of the same heap, which may know more
abbrev pub Follows : SeatIs → SeatIs → Type 0
Follows old new = (new.heap ≡ old.heap) × (new.id ≡ old.id)
