-- Removal: the words of removed objects, the chain of them, and how far sweeps are.
use Rattle.std.specs.Prelude.{◌≡◌, ◌≢◌, ℕ, ◌+◌, ◌≤◌, ◌<◌, suc, nat_lt, Bool, true, false, not, ◌&&◌, List, [], ◌∷◌, ◌++◌, map, length, Option, Some, None, unwrap_or, ⊤}
use Rattle.std.specs.List.{list_any, find, filter, flat_map}
use Rattle.world_model.specs.Sizes.{Sizes, item_count}
use Rattle.world_model.specs.NameLists.{same_name, has, all_different, begins_with, members}
use Rattle.world_model.specs.World.{World, Stage, Removed, Begun, Finished, Removal}
use Rattle.world_model.specs.CollectorSteps.{to_release}
use Rattle.word_layout.specs.Values.{head_word, ref_word, kind_word, place_number}
use Rattle.heap_rule.specs.Types.{Name, Ref, Kind, Phase, Gathering, Life, Looking, Fresh, Owned, White}
use Rattle.heap_rule.specs.Types.life
use Rattle.heap_rule.specs.Units.{number, ref_at}
use Rattle.heap_rule.specs.Colours.{live_head}
use Rattle.heap_rule.specs.Items.{Spot, Holds, Linked, first_item}
use Rattle.heap_rule.specs.Pairs.{IsOrGone}

-- ---- which objects

-- the indexes and the names of references
abbrev pub indexes : List Ref → List ℕ
indexes refs = map (λ r. r.index) refs

abbrev pub names_of : List Ref → List Name
names_of refs = map (λ r. r.name) refs

abbrev pub Each : {A : Type 0} → (A → Type 0) → List A → Type 0
Each P [] = ⊤
Each P (x ∷ xs) = P x × Each P xs

-- whether an object is among the removed ones
abbrev pub is_among : List Removal → Name → Bool
is_among removals n = list_any (λ r. same_name n r.name) removals

-- the unit of a removed object, as it stood when it was removed
abbrev pub old_unit : List (List Name) → Name → List Name
old_unit last_removed n = unwrap_or (find (λ u. has u n) last_removed) []

-- the first member of a removed unit that no sweep has met
abbrev pub waits_in : List Removal → List (List Name) → List Name → Name → Bool
waits_in removals last_removed found n = is_among removals n && (begins_with n (old_unit last_removed n) && not (has found n))

-- the removed objects that are not released, in the order of destruction, where the sweeps have found these
abbrev pub left_in_order : List Removal → List (List Name) → List Name → List Name
left_in_order removals last_removed found = filter (is_among removals) (members (flat_map (λ n. filter (begins_with n) last_removed) found))

-- whether an object is of the unit whose words the collector clears
abbrev pub clears_of : List (List Name) → Option Name → Name → Bool
clears_of last_removed None n = false
clears_of last_removed (Some first) n = has (old_unit last_removed first) n

-- ---- their words

-- the life of a removed object's head: of a first member Live until a sweep has met it; of another one Free until it is begun
abbrev pub life_of : Stage → Bool → Bool → Life
life_of Removed true true = life.Doomed
life_of Removed true false = life.Live
life_of Removed false found = life.Free
life_of Begun first found = life.Begun
life_of Finished first found = life.Finished

-- the words of an object that was removed and is not released
pub record RemainsShown (index : Name → ℕ) (head owner name kind : ℕ → ℕ) (clears : Name → Bool) (parity : Bool) (removals : List Removal) (last_removed : List (List Name)) (found : List Name) (kind_of : Name → Option Kind) : Type 0 where
  pub heads : (r : Removal) → find (λ q. same_name r.name q.name) removals ≡ Some r
      → (colour : Bool) × IsOrGone (clears r.name) (head (index r.name)) (head_word (record { life = life_of r.stage (begins_with r.name (old_unit last_removed r.name)) (has found r.name); colour = colour; polls = r.polls }))
  -- one that waits has the colour of what is not marked
  pub waiting : (n : Name) → waits_in removals last_removed found n ≡ true → head (index n) ≡ head_word (live_head parity false)
  pub owners : (n : Name) → is_among removals n ≡ true → IsOrGone (clears n) (owner (index n)) (suc (number index (old_unit last_removed n)))
  pub names : (n : Name) → is_among removals n ≡ true → IsOrGone (clears n) (name (index n)) (ref_word (ref_at index (Some n)))
  pub kinds : (n : Name) → is_among removals n ≡ true → (k : Kind) × (kind_of n ≡ Some k) × IsOrGone (clears n) (kind (index n)) (kind_word k)

-- words are cleared of the unit alone that is the next to be released
abbrev pub ClearingShown : Option Name → World → Type 0
ClearingShown clearing w = (first : Name) → clearing ≡ Some first → to_release w ≡ Some first

-- ---- chains

-- the members of a removed unit are linked in order; behind the last one of a unit that no sweep has met stands nothing
pub record RemovedLinked (index : Name → ℕ) (next : ℕ → ℕ) (removals : List Removal) (last_removed : List (List Name)) (found : List Name) : Type 0 where
  pub units : (n : Name) → is_among removals n ≡ true → begins_with n (old_unit last_removed n) ≡ true → (end : ℕ) × Linked next end (map index (old_unit last_removed n))
  pub waiting : (n : Name) → waits_in removals last_removed found n ≡ true → Linked next 0 (map index (old_unit last_removed n))

-- The removed chain: its objects are removed, and stand where it says; its first item stands in its word, and each names the next. But while the collector is behind, these are the objects that sweeps have found and that are not released, in the order of destruction
pub record RemovedChainShown (index : Name → ℕ) (next : ℕ → ℕ) (first : ℕ) (late : Bool) (chain : List Ref) (removals : List Removal) (last_removed : List (List Name)) (found : List Name) : Type 0 where
  pub objects : Each (λ r. (is_among removals r.name ≡ true) × (index r.name ≡ r.index)) chain
  pub first_is : first ≡ place_number (first_item (indexes chain))
  pub linked : Linked next 0 (indexes chain)
  pub order : late ≡ false → names_of chain ≡ left_in_order removals last_removed found

-- ---- sweeps

-- Sweeps have met exactly the removed objects below the cursor. Found are those of the history, and behind them those of the running sweep, each removed, and found once
pub record SweptShown (z : Sizes) (index : Name → ℕ) (phase : Phase) (removals : List Removal) (found sweeping : List Name) (cursor swept : ℕ) : Type 0 where
  pub within : cursor ≤ item_count z
  pub met : phase ≡ Gathering → (n : Name) → is_among removals n ≡ true → has (found ++ sweeping) n ≡ nat_lt (index n) cursor
  pub all : phase ≢ Gathering → (n : Name) → is_among removals n ≡ true → has (found ++ sweeping) n ≡ true
  pub few : swept + length sweeping ≤ cursor
  pub different : all_different sweeping ≡ true
  pub removed : (n : Name) → has sweeping n ≡ true → is_among removals n ≡ true
  pub fresh : (n : Name) → has sweeping n ≡ true → has found n ≡ false

-- what the sweep knows of the item at its cursor: where its owner named a unit that is removed, it is an item of that, and if its object is removed, then as one of that unit; or it is the item of a first member that no sweep has met
abbrev pub LookingShown : Sizes → (Name → ℕ) → (ℕ → Spot) → List Removal → List (List Name) → List Name → ℕ → Looking → Type 0
LookingShown z index spot removals last_removed found cursor Fresh = ⊤
LookingShown z index spot removals last_removed found cursor (Owned u) = (cursor < item_count z) × (u < item_count z)
    × ((n : Name) → is_among removals n ≡ true → begins_with n (old_unit last_removed n) ≡ true → index n ≡ u → (m : Name) × (spot cursor ≡ Holds m) × (has (old_unit last_removed n) m ≡ true))
    × ((m : Name) → spot cursor ≡ Holds m → is_among removals m ≡ true → number index (old_unit last_removed m) ≡ u)
LookingShown z index spot removals last_removed found cursor (White r) = (cursor < item_count z) × (r.index ≡ cursor) × (index r.name ≡ cursor) × (waits_in removals last_removed found r.name ≡ true)
