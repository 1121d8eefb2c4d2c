-- The objects: where each stands, and in which unit.
use Rattle.std.specs.Prelude.{◌≡◌, ◌≢◌, ℕ, ◌<◌, ◌≤◌, true, List, [], ◌∷◌, length, get_or, Option, Some}
use Rattle.heap_plain.specs.Types.{Name, Kind}
use Rattle.world_model.specs.Sizes.{Sizes, item_count}
use Rattle.world_model.specs.NameLists.{has}
use Rattle.world_model.specs.Engines.{IsOfLane}
use Rattle.world_model.specs.Lists.{Among}
use Rattle.heap_plain.specs.declared.life.Life.{Life}
use Rattle.heap_plain.specs.declared.life.Life.TheVariants.{Free, Live}
use Rattle.heap_plain.specs.Parts.{Objects, name_at, life_at, first_at, next_at}

-- ---- names

-- an object stands at an index of its lane, which has made it
pub record IsPlace (z : Sizes) (kinds : ℕ → List Kind) (n : Name) (i : ℕ) : Type 0 where
  pub lane : n.lane < z.lanes
  pub some : 1 ≤ n.count
  pub few : n.count ≤ length (kinds n.lane)
  pub at : IsOfLane z n.lane i

pub record NamesShow (z : Sizes) (names : List (Option Name)) (kinds : ℕ → List Kind) : Type 0 where
  pub items : length names ≡ item_count z
  pub places : (i : ℕ) (n : Name) → name_at names i ≡ Some n → IsPlace z kinds n i
  pub alone : (i j : ℕ) (n : Name) → name_at names i ≡ Some n → name_at names j ≡ Some n → i ≡ j

-- ---- units

-- the object lives at the index
pub record LivesAt (names : List (Option Name)) (lives : List Life) (i : ℕ) (n : Name) : Type 0 where
  pub name : name_at names i ≡ Some n
  pub life : life_at lives i ≡ Live

-- from an index on, each linked to the next, stand these objects in order
abbrev pub AreLinked : List (Option Name) → List ℕ → ℕ → List Name → Type 0
AreLinked names links i [] = Unit {0}
AreLinked names links i (n ∷ rest) = (name_at names i ≡ Some n) × AreLinked names links (next_at links i) rest

-- the unit stands at the index of its first member, from where its members are linked in order; they have that as their first index
pub record StandsAt (o : Objects) (units : List (List Name)) (head : ℕ) (u : List Name) : Type 0 where
  pub among : Among units u
  pub life : life_at o.lives head ≡ Live
  pub own : first_at o.firsts head ≡ head
  pub size : get_or o.sizes head 0 ≡ length u
  pub linked : AreLinked o.names o.next head u
  pub inside : (n : Name) → has u n ≡ true → (i : ℕ) × LivesAt o.names o.lives i n × (first_at o.firsts i ≡ head)
  pub whole : (i : ℕ) (n : Name) → LivesAt o.names o.lives i n → first_at o.firsts i ≡ head → has u n ≡ true

pub record UnitsShow (z : Sizes) (o : Objects) (units : List (List Name)) : Type 0 where
  pub firsts_len : length o.firsts ≡ item_count z
  pub sizes_len : length o.sizes ≡ item_count z
  pub links_len : length o.next ≡ item_count z
  pub lives_len : length o.lives ≡ item_count z
  pub in_range : (i : ℕ) → first_at o.firsts i < item_count z
  pub small : (i : ℕ) → get_or o.sizes i 0 ≤ 1024
  pub named : (i : ℕ) → life_at o.lives i ≢ Free → (n : Name) × (name_at o.names i ≡ Some n)
  pub each : (i : ℕ) → life_at o.lives i ≡ Live → (u : List Name) × StandsAt o units (first_at o.firsts i) u
  pub all : (u : List Name) → Among units u → (head : ℕ) × StandsAt o units head u

-- ---- both

-- the objects show the units, and the kinds that lanes have made
pub record Units (z : Sizes) (o : Objects) (kinds : ℕ → List Kind) (living : List (List Name)) : Type 0 where
  pub names : NamesShow z o.names kinds
  pub units : UnitsShow z o living
