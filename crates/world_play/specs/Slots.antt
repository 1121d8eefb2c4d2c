-- What a variable is bound to.
use Rattle.std.specs.Prelude.{◌≡◌, ◌≤◌, ℕ, ◌==◌, List, slice_get, Option, Some, None, if◌then◌else◌}
use Rattle.world_play.specs.Types.{Ref}
use Rattle.world_play.specs.declared.variables.Bound.{Bound}

-- what a variable is bound to in a frame
abbrev pub slot_of : ℕ → Option Ref → Option Bound
slot_of frame None = None
slot_of frame (Some at) = Some (record { frame = frame; at = at })

-- the object of a slot, where it was bound in this frame
abbrev pub live : ℕ → Option Bound → Option Ref
live frame None = None
live frame (Some b) = if b.frame == frame then Some b.at else None

-- no variable was bound in a frame that is still to come
abbrev pub AreDated : ℕ → List (Option Bound) → Type 0
AreDated frame slots = (var : ℕ) (b : Bound) → slice_get slots var ≡ Some (Some b) → b.frame ≤ frame
