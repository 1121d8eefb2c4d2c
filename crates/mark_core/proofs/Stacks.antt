-- Units come on the stacks and go.
use Rattle.std.proofs.Common.{◌≡◌, ℕ, ◌<◌, refl, sym, subst, ap, ◌∙◌, inl, inr, arith, ◌==◌, Bool, true, false, List, [], ◌⊎◌, length}
use Rattle.std.proofs.Math.ListN.{get_or, set, length-set}
use Rattle.std.proofs.lemmas.Bool.{eqb-true, eq-eqb}
use Rattle.std.proofs.lemmas.List.{get_or-set_other}
use Rattle.std.proofs.lemmas.Grind.{get_or-set_at}
use Rattle.mark_core.specs.Machine.{Place, Nowhere, OnStack, same_place}
use Rattle.mark_core.specs.Units.{IsStackOf, AreStacks}
use Rattle.mark_core.proofs.Tools.{same_or_not, same_place_true, not_is_false}

-- one unit stands elsewhere, and only its flags follow
stacks_follow : (places : List Place) (stacks next : List (List Bool)) (u : ℕ) (p : Place) → u < length places → IsStackOf (length stacks) p → AreStacks places stacks
    → length next ≡ length stacks
    → ((m : ℕ) → m < length stacks → length (get_or next m []) ≡ length (get_or stacks m []))
    → ((m : ℕ) → m < length stacks → get_or (get_or next m []) u false ≡ same_place p (OnStack m))
    → ((m v : ℕ) → (v ≡ u → ⊥) → get_or (get_or next m []) v false ≡ get_or (get_or stacks m []) v false)
    → AreStacks (set places u p) next
stacks_follow places stacks next u p lt of h len lens here there = record {
  few = let same = length-set places u p in let was = h.few in omega arith;
  lens = λ m small. lens m (omega arith) ∙ (h.lens m (omega arith) ∙ sym (length-set places u p));
  stack_is = λ m v small. stack m v (omega arith) (same_or_not v u);
  of_markers = λ v m at. let in_old = owner v m at (same_or_not v u) in omega arith;
}
  where
    placed : (v : ℕ) → v ≡ u → get_or (set places u p) v Nowhere ≡ p
    placed v e = get_or-set_at places u v p Nowhere e lt

    kept : (v : ℕ) → (v ≡ u → ⊥) → get_or (set places u p) v Nowhere ≡ get_or places v Nowhere
    kept v n = get_or-set_other places u v p Nowhere n

    stack : (m v : ℕ) → m < length stacks → (v ≡ u) ⊎ (v ≡ u → ⊥) → get_or (get_or next m []) v false ≡ same_place (get_or (set places u p) v Nowhere) (OnStack m)
    stack m v small (inl e) = ap (λ (x : ℕ). get_or (get_or next m []) x false) e ∙ (here m small ∙ ap (λ (q : Place). same_place q (OnStack m)) (sym (placed v e)))
    stack m v small (inr n) = there m v n ∙ (h.stack_is m v small ∙ ap (λ (q : Place). same_place q (OnStack m)) (sym (kept v n)))

    owner : (v m : ℕ) → get_or (set places u p) v Nowhere ≡ OnStack m → (v ≡ u) ⊎ (v ≡ u → ⊥) → m < length stacks
    owner v m at (inl e) = of m (sym (placed v e) ∙ at)
    owner v m at (inr n) = h.of_markers v m (sym (kept v n) ∙ at)

-- what stands on one stack stands on no other
other_stack : (k m : ℕ) → (k ≡ m → ⊥) → same_place (OnStack m) (OnStack k) ≡ false
other_stack k m n = not_is_false (m == k) (λ e. n (sym (eqb-true m k e)))

own_stack : (m : ℕ) → same_place (OnStack m) (OnStack m) ≡ true
own_stack m = eq-eqb m m refl

no_stack_at : (q : Place) → ((m : ℕ) → q ≡ OnStack m → ⊥) → (m : ℕ) → same_place q (OnStack m) ≡ false
no_stack_at q n m = not_is_false (same_place q (OnStack m)) (λ e. n m (same_place_true q (OnStack m) e))

-- a flag of one stack is written
flag_written : (places : List Place) (stacks : List (List Bool)) (u : ℕ) (p : Place) (m : ℕ) (b : Bool) (flags : List Bool) → u < length places → m < length stacks → IsStackOf (length stacks) p
    → flags ≡ set (get_or stacks m []) u b → same_place p (OnStack m) ≡ b → ((k : ℕ) → k < length stacks → (k ≡ m → ⊥) → get_or (get_or stacks k []) u false ≡ same_place p (OnStack k))
    → AreStacks places stacks → AreStacks (set places u p) (set stacks m flags)
flag_written places stacks u p m b flags lt small of is on others h =
    stacks_follow places stacks (set stacks m flags) u p lt of h (length-set stacks m flags)
    (λ k in_stacks. len k (same_or_not k m))
    (λ k in_stacks. here k in_stacks (same_or_not k m))
    (λ k v n. there k v n (same_or_not k m))
  where
    this : (k : ℕ) → k ≡ m → get_or (set stacks m flags) k [] ≡ flags
    this k e = get_or-set_at stacks m k flags [] e small

    that : (k : ℕ) → (k ≡ m → ⊥) → get_or (set stacks m flags) k [] ≡ get_or stacks k []
    that k n = get_or-set_other stacks m k flags [] n

    long : u < length (get_or stacks m [])
    long = let same = h.lens m small in omega arith

    len : (k : ℕ) → (k ≡ m) ⊎ (k ≡ m → ⊥) → length (get_or (set stacks m flags) k []) ≡ length (get_or stacks k [])
    len k (inl e) = ap (λ (xs : List Bool). length xs) (this k e ∙ is) ∙ (length-set (get_or stacks m []) u b ∙ ap (λ (x : ℕ). length (get_or stacks x [])) (sym e))
    len k (inr n) = ap (λ (xs : List Bool). length xs) (that k n)

    here : (k : ℕ) → k < length stacks → (k ≡ m) ⊎ (k ≡ m → ⊥) → get_or (get_or (set stacks m flags) k []) u false ≡ same_place p (OnStack k)
    here k in_stacks (inl e) =
        ap (λ (xs : List Bool). get_or xs u false) (this k e ∙ is)
        ∙ (get_or-set_at (get_or stacks m []) u u b false refl long ∙ (sym on ∙ ap (λ (x : ℕ). same_place p (OnStack x)) (sym e)))
    here k in_stacks (inr n) = ap (λ (xs : List Bool). get_or xs u false) (that k n) ∙ others k in_stacks n

    there : (k v : ℕ) → (v ≡ u → ⊥) → (k ≡ m) ⊎ (k ≡ m → ⊥) → get_or (get_or (set stacks m flags) k []) v false ≡ get_or (get_or stacks k []) v false
    there k v n (inl e) =
        ap (λ (xs : List Bool). get_or xs v false) (this k e ∙ is)
        ∙ (get_or-set_other (get_or stacks m []) u v b false n ∙ ap (λ (x : ℕ). get_or (get_or stacks x []) v false) (sym e))
    there k v n (inr o) = ap (λ (xs : List Bool). get_or xs v false) (that k o)

pub stack_left : (places : List Place) (stacks : List (List Bool)) (u m : ℕ) (flags : List Bool) → u < length places
    → get_or places u Nowhere ≡ OnStack m → flags ≡ set (get_or stacks m []) u false → AreStacks places stacks
    → AreStacks (set places u Nowhere) (set stacks m flags)
stack_left places stacks u m flags lt at is h =
    flag_written places stacks u Nowhere m false flags lt (h.of_markers u m at) (λ k wrong. absurd cc) is refl
    (λ k small n. h.stack_is k u small ∙ (ap (λ (q : Place). same_place q (OnStack k)) at ∙ other_stack k m n)) h

pub stack_entered : (places : List Place) (stacks : List (List Bool)) (u m : ℕ) (flags : List Bool) → u < length places
    → get_or places u Nowhere ≡ Nowhere → m < length stacks → flags ≡ set (get_or stacks m []) u true → AreStacks places stacks
    → AreStacks (set places u (OnStack m)) (set stacks m flags)
stack_entered places stacks u m flags lt at small is h =
    flag_written places stacks u (OnStack m) m true flags lt small (λ k e. subst (λ (x : ℕ). x < length stacks) (same_m k e) small) is (own_stack m)
    (λ k in_stacks n. h.stack_is k u in_stacks ∙ (ap (λ (q : Place). same_place q (OnStack k)) at ∙ sym (other_stack k m n))) h
  where
    same_m : (k : ℕ) → OnStack m ≡ OnStack k → m ≡ k
    same_m k e = cc

-- a unit moves past the stacks
pub no_stack_moved : (places : List Place) (stacks : List (List Bool)) (u : ℕ) (p : Place) → u < length places
    → ((m : ℕ) → get_or places u Nowhere ≡ OnStack m → ⊥) → ((m : ℕ) → p ≡ OnStack m → ⊥) → AreStacks places stacks
    → AreStacks (set places u p) stacks
no_stack_moved places stacks u p lt old new h =
    stacks_follow places stacks stacks u p lt (λ m e. absurd (new m e)) h refl (λ m small. refl)
    (λ m small. h.stack_is m u small ∙ (no_stack_at (get_or places u Nowhere) old m ∙ sym (no_stack_at p new m)))
    (λ m v n. refl)
