-- Lists of the passes that are open, when one more is, and when one is not.
use Rattle.std.proofs.Common.{◌≡◌, suc, ◌≤◌, refl, sym, ap, ◌∙◌, cond, Bool, true, false, not, ◌||◌, List, [], ◌∷◌, length, arith}
use Rattle.std.specs.List.{list_any, filter, count_by}
use Rattle.world_model.specs.Types.{Pass}
use Rattle.world_model.specs.NameLists.{same_pass}
use Rattle.world_model.proofs.Counts.{counted}
use Rattle.world_model.proofs.Frames.{same_pass_true, length_parts}

-- all but this one
abbrev pub others : Pass → List Pass → List Pass
others p opened = filter (λ q. not (same_pass p q)) opened

-- without one pass the test for another finds what it found
pub open_others : (p q : Pass) → same_pass q p ≡ false → (opened : List Pass) → list_any (same_pass q) (others p opened) ≡ list_any (same_pass q) opened
open_others p q off [] = refl
open_others p q off (r ∷ rs) = go (same_pass p r) refl (open_others p q off rs)
  where
    go : (b : Bool) → same_pass p r ≡ b → list_any (same_pass q) (others p rs) ≡ list_any (same_pass q) rs
        → list_any (same_pass q) (cond (not b) (r ∷ others p rs) (others p rs)) ≡ (same_pass q r || list_any (same_pass q) rs)
    go true e rest = let same : p ≡ r = same_pass_true p r e in let none_here : same_pass q r ≡ false = ap (same_pass q) (sym same) ∙ off in rw none_here rest
    go false e rest = ap (λ (b : Bool). same_pass q r || b) rest

-- and the test for that one finds nothing
pub open_none : (p : Pass) (opened : List Pass) → list_any (same_pass p) (others p opened) ≡ false
open_none p [] = refl
open_none p (r ∷ rs) = go (same_pass p r) refl (open_none p rs)
  where
    go : (b : Bool) → same_pass p r ≡ b → list_any (same_pass p) (others p rs) ≡ false → list_any (same_pass p) (cond (not b) (r ∷ others p rs) (others p rs)) ≡ false
    go true e rest = rest
    go false e rest = rw e rest

-- one less is open
pub one_less : (p : Pass) (opened : List Pass) → list_any (same_pass p) opened ≡ true → count_by (same_pass p) opened ≤ 1 → suc (length (others p opened)) ≡ length opened
one_less p opened open_now once = let all = length_parts (same_pass p) opened in let some = counted (same_pass p) opened open_now in omega (arith, all, some, once)
