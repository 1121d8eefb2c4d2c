-- Bytes that are told always or never.
use Rattle.std.specs.Prelude.{◌≡◌, ℕ, List, Option, Some, None, refl}
use Rattle.std.proofs.Common.{sym, ap}
use Rattle.std.specs.Io.KnownBytes.{append_known}

-- the other where nothing is told, and else nothing
abbrev other_unless : Option (List ℕ) → Option (List ℕ) → Option (List ℕ)
other_unless other None = other
other_unless other (Some xs) = None

-- bytes that are told are told always
pub some_steady : (xs : List ℕ) (other : Option (List ℕ)) → Some xs ≡ None → other ≡ None
some_steady xs other none = sym (ap (other_unless other) none)

-- what is told with bytes of a buffer behind it is told always or never, if it is so by itself
pub append_steady : (known other : Option (List ℕ)) (bs cs : List ℕ) → (known ≡ None → other ≡ None) → append_known known bs ≡ None → append_known other cs ≡ None
append_steady None None bs cs steady none = refl
append_steady None (Some ys) bs cs steady none = some_steady ys (append_known (Some ys) cs) (steady refl)
append_steady (Some xs) other bs cs steady none = some_steady _ (append_known other cs) none
