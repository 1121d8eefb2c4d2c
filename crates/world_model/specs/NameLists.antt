-- Tests and lists of names, passes and pairs, and functions with one value changed.
use Rattle.std.specs.Prelude.{ℕ, ◌+◌, ◌==◌, Bool, true, false, not, ◌&&◌, if◌then◌else◌, List, [], ◌∷◌, Option, Some, None}
use Rattle.std.specs.List.{list_any, flat_map}
use Rattle.world_model.specs.Types.{Name, Weak, Kind, Pass, Lane, Marker, Collector}

abbrev pub same_name : Name → Name → Bool
same_name a b = (a.lane == b.lane) && (a.count == b.count)

abbrev pub same_weak : Weak → Weak → Bool
same_weak a b = (a.index == b.index) && (a.serial == b.serial)

abbrev pub same_pass : Pass → Pass → Bool
same_pass (Lane a) (Lane b) = a == b
same_pass (Marker a) (Marker b) = a == b
same_pass Collector Collector = true
same_pass _ _ = false

-- whether the name is among these
abbrev pub has : List Name → Name → Bool
has names n = list_any (same_name n) names

-- whether no name stands in the list twice
abbrev pub all_different : List Name → Bool
all_different [] = true
all_different (n ∷ names) = not (has names n) && all_different names

-- the members of these units, in order
abbrev pub members : List (List Name) → List Name
members units = flat_map (λ u. u) units

-- whether the name is the unit's first member
abbrev pub begins_with : Name → List Name → Bool
begins_with n [] = false
begins_with n (first ∷ rest) = same_name n first

-- whether the name is the last of these
abbrev pub is_last : Name → List Name → Bool
is_last n [] = false
is_last n (m ∷ []) = same_name n m
is_last n (m ∷ k ∷ names) = is_last n (k ∷ names)

-- whether the name is the last member of a unit of two or more
abbrev pub ends_with : Name → List Name → Bool
ends_with n [] = false
ends_with n (first ∷ rest) = is_last n rest

-- all members of a unit but the last
abbrev pub but_last : List Name → List Name
but_last [] = []
but_last (n ∷ []) = []
but_last (n ∷ m ∷ names) = n ∷ but_last (m ∷ names)

-- a unit of two or more whose last member this is, as two: what is left of it, and that member; any other one as it is
abbrev pub parted : Name → List Name → List (List Name)
parted n u = if ends_with n u then but_last u ∷ (n ∷ []) ∷ [] else u ∷ []

-- the first member, if there is one
abbrev pub first_member : List Name → Option Name
first_member [] = None
first_member (first ∷ rest) = Some first

-- the names behind the first place of this one
abbrev pub after_name : Name → List Name → List Name
after_name n [] = []
after_name n (m ∷ names) = if same_name n m then names else after_name n names

-- names of a lane in a row from this count on, one for each kind
abbrev pub names_from : ℕ → ℕ → List Kind → List Name
names_from lane count [] = []
names_from lane count (kind ∷ kinds) = record { lane = lane; count = count } ∷ names_from lane (count + 1) kinds

-- the function with the value at one number changed
abbrev pub set_at : {A : Type 0} → (ℕ → A) → ℕ → A → ℕ → A
set_at f k value i = if i == k then value else f i

-- the function with the value at one name changed
abbrev pub set_name : {A : Type 0} → (Name → A) → Name → A → Name → A
set_name f n value m = if same_name m n then value else f m
