-- Contents: what the words of an object that lives say, and the strong pointers.
use Rattle.std.specs.Prelude.{◌≡◌, ℕ, ◌-◌, ◌<◌, ◌≤◌, suc, Bool, true, List, Option, Some, IsTrue}
use Rattle.world_model.specs.Sizes.{Sizes}
use Rattle.world_model.specs.LaneSteps.{is_lawful}
use Rattle.word_layout.specs.Values.{ref_word, kind_word}
use Rattle.heap_rule.specs.Types.{Name, Kind}
use Rattle.heap_rule.specs.Units.{number, ref_at}

-- an object that lives: the unit that owns it, its name, kind and cells
pub record ContentsShown (z : Sizes) (index : Name → ℕ) (owner name kind : ℕ → ℕ) (cell : ℕ → ℕ → ℕ) (unit : Name → List Name) (living : Name → Bool) (kind_of : Name → Option Kind) (refs plains : Name → ℕ) (target : Name → ℕ → Option Name) (plain : Name → ℕ → ℕ) : Type 0 where
  pub owners : (n : Name) → living n ≡ true → owner (index n) ≡ suc (number index (unit n))
  pub names : (n : Name) → living n ≡ true → name (index n) ≡ ref_word (ref_at index (Some n))
  pub kinds : (n : Name) → living n ≡ true → (k : Kind) × (kind_of n ≡ Some k) × (kind (index n) ≡ kind_word k) × IsTrue (is_lawful z k)
  pub refs_are : (n : Name) (slot : ℕ) → living n ≡ true → slot < refs n → cell (index n) slot ≡ ref_word (ref_at index (target n slot))
  pub plains_are : (n : Name) (slot : ℕ) → living n ≡ true → z.slots - plains n ≤ slot → slot < z.slots → cell (index n) slot ≡ plain n slot

-- the strong pointers
abbrev pub StrongsShown : Sizes → (Name → ℕ) → (ℕ → ℕ → ℕ) → (ℕ → ℕ → Option Name) → Type 0
StrongsShown z index words strong = (l h : ℕ) → l < z.lanes → h < z.strong → words l h ≡ ref_word (ref_at index (strong l h))
