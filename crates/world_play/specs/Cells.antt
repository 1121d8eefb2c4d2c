-- What the player finds of a spot.
use Rattle.std.specs.Prelude.{◌≡◌, ℕ, ◌+◌, ◌-◌, ◌<◌, ◌≤◌, Bool, true, false, IsTrue, length, Option, Some, None, Result, Ok, Err, slice_get}
use Rattle.world_model.specs.World.{World, kind_of, refs_of, plain_of}
use Rattle.class_schema.specs.Layout.{is_ref}
use Rattle.class_schema.specs.Lawful.{has_target}
use Rattle.world_play.specs.Types.{Name, Reply, Spot, Field, FieldKind}
use Rattle.world_play.specs.Types.reply
use Rattle.world_play.specs.Header.{Header}
use Rattle.world_play.specs.Spots.{Element, field_of, element_at}
use Rattle.world_play.specs.declared.cells.Found.{Found}
use Rattle.world_play.specs.declared.cells.Cell.{Cell}

-- the field that a spot names of the object of its variable, or why there is none
abbrev pub FindsField : Header → World → ℕ → Option Name → Spot → Result Found Reply → Type 0
FindsField h w lane None spot (Ok found) = ⊥
FindsField h w lane None spot (Err r) = r ≡ reply.NoObject lane
FindsField h w lane (Some at) spot (Ok found) = (found.at.name ≡ at) × (field_of h (kind_of w at) (slice_get h.fields spot.field) ≡ Some found.field)
FindsField h w lane (Some at) spot (Err r) = (field_of h (kind_of w at) (slice_get h.fields spot.field) ≡ None) × (r ≡ reply.NoField lane)

-- a field lies within the slots of an object: one of references in its reference slots, any other in its plain slots
pub record FitsObject (h : Header) (w : World) (at : Name) (field : Field) : Type 0 where
  pub target : IsTrue (has_target (length h.classes.classes) field.kind)
  pub inside : is_ref field.kind ≡ true → field.first + field.count ≤ h.classes.slots
  pub refs : is_ref field.kind ≡ true → field.first + field.count ≤ refs_of w at
  pub low : is_ref field.kind ≡ false → (h.classes.slots - plain_of w at) + field.count ≤ field.first + 1
  pub high : is_ref field.kind ≡ false → field.first < h.classes.slots

-- the element of a field, or why there is none
abbrev pub FindsElement : (FieldKind → Bool) → ℕ → Found → ℕ → Result Cell Reply → Type 0
FindsElement wanted lane found element (Ok c) = (element_at lane found.at.name wanted (Some found.field) element ≡ Ok (record { at = c.at.name; slot = c.slot; kind = c.kind })) × (c.at ≡ found.at)
FindsElement wanted lane found element (Err r) = element_at lane found.at.name wanted (Some found.field) element ≡ Err r

-- the cell that a spot stands for, or why there is none
abbrev pub FindsCell : Result Element Reply → Result Cell Reply → Type 0
FindsCell want (Ok c) = want ≡ Ok (record { at = c.at.name; slot = c.slot; kind = c.kind })
FindsCell want (Err r) = want ≡ Err r
