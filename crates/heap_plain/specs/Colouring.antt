-- The marks: which units are marked, and which are grey.
use Rattle.std.specs.Prelude.{◌≡◌, ◌≢◌, ℕ, ◌≤◌, ◌||◌, ◌&&◌, not, true, false, List, length, get_or}
use Rattle.std.specs.List.{list_any}
use Rattle.heap_plain.specs.Types.{Name, Phase, Marking}
use Rattle.world_model.specs.Sizes.{Sizes, item_count}
use Rattle.world_model.specs.NameLists.{has}
use Rattle.world_model.specs.Lists.{Among}
use Rattle.heap_plain.specs.Painted.{Painted, IsWorklist, grey_of}
use Rattle.heap_plain.specs.Parts.{Objects}
use Rattle.heap_plain.specs.Units.{StandsAt}

-- Mark bits and grey units, while a collection marks.
pub record MarksShow (o : Objects) (units : List (List Name)) (c : Painted) (kept fresh scanned : List Name) : Type 0 where
  pub bits : (head : ℕ) (u : List Name) → StandsAt o units head u → get_or c.marked head false ≡ list_any (λ n. has kept n || has fresh n) u
  pub worklist : IsWorklist c
  pub order : c.scanned ≤ length c.listed
  pub grey_units : (head : ℕ) → Among (grey_of c) head → (u : List Name) × StandsAt o units head u × ((list_any (has kept) u && not (list_any (has scanned) u)) ≡ true)
  pub all_grey : (head : ℕ) (u : List Name) → StandsAt o units head u → (list_any (has kept) u && not (list_any (has scanned) u)) ≡ true → Among (grey_of c) head

-- the colours show which units were kept and scanned
pub record Colouring (z : Sizes) (phase : Phase) (o : Objects) (c : Painted) (units : List (List Name)) (kept fresh scanned : List Name) : Type 0 where
  pub marked_len : length c.marked ≡ item_count z
  pub idle : phase ≢ Marking → c.scanned ≡ length c.listed
  pub marks : phase ≡ Marking → MarksShow o units c kept fresh scanned
