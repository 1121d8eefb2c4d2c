-- Facts of the world's definitions that any engine needs.
use Rattle.std.proofs.Common.{◌≡◌, ◌≢◌, ℕ, ◌+◌, ◌≤◌, refl, sym, subst, ap, ◌∙◌, inl, inr, arith, Bool, cond, true, false, not, ◌||◌, ◌==◌, List, [], ◌∷◌, ◌++◌, length, filter, length-append, count_by}
use Rattle.std.specs.List.{list_any, sum_by}
use Rattle.std.proofs.lemmas.Bool.{eqb-true, eq-eqb, ne_eqb, or_parts, and_from}
use Rattle.std.proofs.lemmas.List.Sums.{length-filter}
use Rattle.std.proofs.lemmas.List.Filters.{sum_by-filter_both}
use Rattle.world_model.specs.NameLists.{same_name, same_pass, has, set_at, all_different}
use Rattle.world_model.specs.State.{beginning}
use Rattle.world_model.specs.Next.{run}
use Rattle.world_model.specs.Histories.{state_of}
use Rattle.world_model.proofs.Joins.{run-append}
use Rattle.world_model.proofs.ListFacts.{and_true, Among}
use Rattle.world_model.proofs.NameFacts.{same_name_true, has_among, among_has}
use Rattle.world_model.proofs.Counts.{counted, count-cons}
use Rattle.heap_plain.specs.Types.{Name, Pass, Lane, Marker, Collector, Entry}
use Rattle.heap_plain.specs.Lists.{Distinct}

-- ---- functions with one value changed

-- what holds of the new value and of the others
pub at_set : {A : Type 0} (P : A → Type 0) (f : ℕ → A) (k i : ℕ) (v : A) → (i ≡ k → P v) → ((i == k) ≡ false → P (f i)) → P (set_at f k v i)
at_set P f k i v same other = go (i == k) refl
  where
    go : (b : Bool) → (i == k) ≡ b → P (cond b v (f i))
    go true e = same (eqb-true i k e)
    go false e = other e

pub set_at_other : {A : Type 0} (f : ℕ → A) (k i : ℕ) (v : A) → i ≢ k → set_at f k v i ≡ f i
set_at_other f k i v ne = let t : (i == k) ≡ false = ne_eqb i k ne in rw t refl

-- ---- names

pub differs : (x y : Name) → (x ≡ y → ⊥) → same_name x y ≡ false
differs x y ne = go (same_name x y) refl
  where
    go : (b : Bool) → same_name x y ≡ b → b ≡ false
    go true e = absurd (ne (same_name_true x y e))
    go false e = refl

-- ---- passes

pub same_pass_refl : (p : Pass) → same_pass p p ≡ true
same_pass_refl (Lane a) = eq-eqb a a refl
same_pass_refl (Marker a) = eq-eqb a a refl
same_pass_refl Collector = refl

-- no element that passes is left
pub any_left : {A : Type 0} (q : A → Bool) (xs : List A) → list_any q (filter (λ x. not (q x)) xs) ≡ false
any_left q [] = refl
any_left q (x ∷ xs) = go (q x) refl (any_left q xs)
  where
    go : (b : Bool) → q x ≡ b → list_any q (filter (λ y. not (q y)) xs) ≡ false → list_any q (cond (not b) (x ∷ filter (λ y. not (q y)) xs) (filter (λ y. not (q y)) xs)) ≡ false
    go true e rest = rest
    go false e rest = rw e rest

-- where none passes, nothing is taken out
pub none_out : {A : Type 0} (q : A → Bool) (xs : List A) → list_any q xs ≡ false → filter (λ x. not (q x)) xs ≡ xs
none_out q [] e = refl
none_out q (x ∷ xs) e = let parts = or_parts (q x) (list_any q xs) e in rw parts.0 (ap (λ (ys : List _). x ∷ ys) (none_out q xs parts.1))

-- a pass that stands at most once in the list is one element of it
pub one_out : (p : Pass) (passes : List Pass) → count_by (same_pass p) passes ≤ 1 → list_any (same_pass p) passes ≡ true → length (filter (λ q. not (same_pass p q)) passes) + 1 ≡ length passes
one_out p passes once h =
    let both = sum_by-filter_both (same_pass p) (λ q. not (same_pass p q)) (λ q. refl) (λ q. 1) passes in
    let some = counted (same_pass p) passes h in
    omega (arith, once, length-filter (same_pass p) passes, length-sum (filter (same_pass p) passes), length-sum (filter (λ q. not (same_pass p q)) passes), length-sum passes)
  where
    length-sum : {A : Type 0} (xs : List A) → sum_by (λ x. 1) xs ≡ length xs
    length-sum [] = refl
    length-sum (x ∷ xs) = let t = length-sum xs in let c = count-cons (λ y. true) x xs in omega arith

-- ---- lists

-- two tests that agree on the elements of a list
pub any_same : {A : Type 0} (p q : A → Bool) (xs : List A) → ((x : A) → Among xs x → p x ≡ q x) → list_any p xs ≡ list_any q xs
any_same p q [] f = refl
any_same p q (x ∷ xs) f = ap (λ b. b || list_any p xs) (f x (inl refl)) ∙ ap (λ b. q x || b) (any_same p q xs (λ y h. f y (inr h)))

-- an element splits the list
split_at : {A : Type 0} (x : A) (ys : List A) → Among ys x → (left : List A) × (right : List A) × (ys ≡ left ++ x ∷ right)
split_at x [] h = absurd h
split_at x (y ∷ ys) (inl e) = ([], ys, ap (λ (z : _). z ∷ ys) e)
split_at x (y ∷ ys) (inr h) = let s = split_at x ys h in (y ∷ s.0, s.1, ap (λ (zs : List _). y ∷ zs) s.2)

among_without : {A : Type 0} (left right : List A) (x y : A) → Among (left ++ x ∷ right) y → (x ≡ y → ⊥) → Among (left ++ right) y
among_without [] right x y (inl e) ne = absurd (ne e)
among_without [] right x y (inr h) ne = h
among_without (z ∷ left) right x y (inl e) ne = inl e
among_without (z ∷ left) right x y (inr h) ne = inr (among_without left right x y h ne)

-- the two ways to say that nothing stands twice
pub different_distinct : (names : List Name) → all_different names ≡ true → Distinct names
different_distinct [] e = tt
different_distinct (n ∷ names) e = let parts = and_true _ _ e in ((λ a. let there = among_has names n a in let out : not (has names n) ≡ true = parts.0 in cc), different_distinct names parts.1)

pub distinct_different : (names : List Name) → Distinct names → all_different names ≡ true
distinct_different [] d = refl
distinct_different (n ∷ names) d = and_from _ _ (go (has names n) refl) (distinct_different names d.1)
  where
    go : (b : Bool) → has names n ≡ b → not b ≡ true
    go false e = refl
    go true e = absurd (d.0 (has_among names n e))

-- a list without repetition is no longer than one that has all its elements
pub no_longer : {A : Type 0} (xs ys : List A) → Distinct xs → ((x : A) → Among xs x → Among ys x) → length xs ≤ length ys
no_longer [] ys d f = omega arith
no_longer (x ∷ xs) ys d f =
    let s = split_at x ys (f x (inl refl)) in
    let rest : length xs ≤ length (s.0 ++ s.1) =
    no_longer xs (s.0 ++ s.1) d.1
    (λ y h. among_without s.0 s.1 x y (subst (λ (zs : List _). Among zs y) s.2 (f y (inr h))) (λ e. d.0 (subst (λ z. Among xs z) (sym e) h))) in
    let len : length ys ≡ length (s.0 ++ x ∷ s.1) = ap (λ (zs : List _). length zs) s.2 in
    let a = length-append s.0 s.1 in
    let b = length-append s.0 (x ∷ s.1) in
    omega arith

-- ---- histories

pub state_more : (h es : List Entry) → state_of (h ++ es) ≡ run (state_of h) es
state_more h es = run-append beginning h es
