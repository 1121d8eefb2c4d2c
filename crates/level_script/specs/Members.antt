-- The words of the members of a cluster.
use Rattle.std.specs.Prelude.{ℕ, nat_le, Bool, true, false, ◌&&◌, List, [], ◌∷◌, length, Option, Some, None, if◌then◌else◌}
use Rattle.level_script.specs.Forms.{member_of}

-- a member and those behind it, if all are there
abbrev pub member_before : Option (List ℕ × List ℕ) → Option (List (List ℕ × List ℕ)) → Option (List (List ℕ × List ℕ))
member_before None members = None
member_before (Some member) None = None
member_before (Some member) (Some members) = Some (member ∷ members)

-- the members that words are, each a variable and a class
abbrev pub each_member : List (List ℕ) → Option (List (List ℕ × List ℕ))
each_member [] = Some []
each_member (word ∷ words) = member_before (member_of word) (each_member words)

-- whether all are
abbrev pub are_members : Option (List (List ℕ × List ℕ)) → Bool
are_members None = false
are_members (Some members) = true

-- the members, where they are there
abbrev pub or_nothing : Option (List (List ℕ × List ℕ)) → List (List ℕ × List ℕ)
or_nothing None = []
or_nothing (Some members) = members

-- the members of a cluster, which are 1 to 1,024
abbrev pub members_of : List (List ℕ) → Option (List (List ℕ × List ℕ))
members_of words = if nat_le 1 (length words) && nat_le (length words) 1024 then each_member words else None
