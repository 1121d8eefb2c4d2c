-- Weak pointers: which pair each object has, and what a pair gives.
use Rattle.std.specs.Prelude.{◌≡◌, ℕ, Bool, if◌then◌else◌, false, List, length, get_or, Option, Some, None, true}
use Rattle.heap_plain.specs.Types.{Name, Weak}
use Rattle.world_model.specs.Sizes.{Sizes, item_count}
use Rattle.world_model.specs.World.{World, Pair, empty_world, pair_of, drawn}
use Rattle.heap_plain.specs.declared.life.Life.{Life}
use Rattle.heap_plain.specs.declared.life.Life.TheVariants.{Live}
use Rattle.heap_plain.specs.Serials.{Serials, serial_at}
use Rattle.heap_plain.specs.Parts.{Lists, name_at, life_at}

-- a world in which these pairs were made
abbrev pub paired : List Pair → World
paired pairs = record empty_world { pairs = pairs }

-- the serial of the object at an index is that of its pair, whose index this is
abbrev pub IsPair : ℕ → ℕ → Option Weak → Type 0
IsPair i serial None = serial ≡ 0
IsPair i serial (Some pair) = pair ≡ record { index = i; serial = serial }

-- each object that is not released has the serial of its pair; where nothing stands there is none; and each lane has drawn so many
pub record PairsShow (z : Sizes) (names : List (Option Name)) (s : Serials) (pairs : List Pair) : Type 0 where
  pub len : length s.serials ≡ item_count z
  pub drawn : Lists s.drawn z.lanes (λ lane. drawn (paired pairs) lane)
  pub own : (i : ℕ) (n : Name) → name_at names i ≡ Some n → IsPair i (serial_at s.serials i) (pair_of (paired pairs) n)
  pub blank : (i : ℕ) → name_at names i ≡ None → serial_at s.serials i ≡ 0

-- the index of the object at an index, while it lives and is not garbage
abbrev pub is_live : Life → Bool
is_live Live = true
is_live _ = false

abbrev pub given_at : List Life → List Bool → ℕ → Option ℕ
given_at lives garbage i = if is_live (life_at lives i) then (if get_or garbage i false then None else Some i) else None

-- the same for an index that there may be
abbrev pub given_of : List Life → List Bool → Option ℕ → Option ℕ
given_of lives garbage None = None
given_of lives garbage (Some i) = given_at lives garbage i
