-- Lists: membership by recursion, tests of some element, filters.
use Rattle.std.proofs.Common.{◌≡◌, refl, sym, subst, ap, ◌∙◌, inl, inr, zero, suc, arith, Bool, cond, true, false, ◌&&◌, ◌||◌, List, [], ◌∷◌, ◌++◌, ◌⊎◌, Contains, filter}
use Rattle.std.specs.List.{list_any, AllByRecursion}
pub use Rattle.world_model.specs.Lists.{Among}

pub and_true : (a b : Bool) → (a && b) ≡ true → (a ≡ true) × (b ≡ true)
and_true true true h = (refl, refl)
and_true true false h = absurd cc
and_true false b h = absurd cc

pub or_true : (a b : Bool) → (a || b) ≡ true → (a ≡ true) ⊎ (b ≡ true)
or_true true b h = inl refl
or_true false b h = inr h

pub or_right : (a b : Bool) → b ≡ true → (a || b) ≡ true
or_right true b e = refl
or_right false b e = e

pub or_false : (a b : Bool) → (a || b) ≡ false → (a ≡ false) × (b ≡ false)
or_false true b h = absurd cc
or_false false b h = (refl, h)

-- an element of a list is the first, or one of the rest
pub Contains-cons : {A : Type 0} (x : A) (xs : List A) (y : A) → Contains (x ∷ xs) y → (x ≡ y) ⊎ Contains xs y
Contains-cons x xs y (zero, lt, e) = inl e
Contains-cons x xs y (suc k, lt, e) = inr (k, omega arith, e)

pub Contains-none : {A : Type 0} (y : A) → Contains [] y → ⊥
Contains-none y (k, lt, e) = absurd (omega arith)

pub among_append : {A : Type 0} (xs ys : List A) (y : A) → Among (xs ++ ys) y → Among xs y ⊎ Among ys y
among_append [] ys y h = inr h
among_append (x ∷ xs) ys y (inl e) = inl (inl e)
among_append (x ∷ xs) ys y (inr h) = go (among_append xs ys y h)
  where
    go : Among xs y ⊎ Among ys y → ((x ≡ y) ⊎ Among xs y) ⊎ Among ys y
    go (inl a) = inl (inr a)
    go (inr b) = inr b

pub among_filter : {A : Type 0} (p : A → Bool) (xs : List A) (y : A) → Among (filter p xs) y → Among xs y
among_filter p [] y h = h
among_filter p (x ∷ xs) y h = go (p x) (among_filter p xs y) h
  where
    go : (b : Bool) → (Among (filter p xs) y → Among xs y) → Among (cond b (x ∷ filter p xs) (filter p xs)) y → (x ≡ y) ⊎ Among xs y
    go true rest (inl e) = inl e
    go true rest (inr k) = inr (rest k)
    go false rest k = inr (rest k)

pub contains_among : {A : Type 0} (xs : List A) (y : A) → Contains xs y → Among xs y
contains_among [] y h = Contains-none y h
contains_among (x ∷ xs) y h = go (contains_among xs y) (Contains-cons x xs y h)
  where
    go : (Contains xs y → Among xs y) → (x ≡ y) ⊎ Contains xs y → (x ≡ y) ⊎ Among xs y
    go rest (inl e) = inl e
    go rest (inr k) = inr (rest k)

pub among_contains : {A : Type 0} (xs : List A) (y : A) → Among xs y → Contains xs y
among_contains [] y h = absurd h
among_contains (x ∷ xs) y (inl e) = (0, omega arith, e)
among_contains (x ∷ xs) y (inr h) = let k = among_contains xs y h in (suc k.0, omega (arith, k.1), k.2)

pub filter_among : {A : Type 0} (p : A → Bool) (xs : List A) (y : A) → Among xs y → p y ≡ true → Among (filter p xs) y
filter_among p [] y h e = h
filter_among p (x ∷ xs) y (inl same) e = rw (ap p same ∙ e) (inl same)
filter_among p (x ∷ xs) y (inr h) e = go (p x) (filter_among p xs y h e)
  where
    go : (b : Bool) → Among (filter p xs) y → Among (cond b (x ∷ filter p xs) (filter p xs)) y
    go true rest = inr rest
    go false rest = rest

pub among_filter_test : {A : Type 0} (p : A → Bool) (xs : List A) (y : A) → Among (filter p xs) y → p y ≡ true
among_filter_test p [] y h = absurd h
among_filter_test p (x ∷ xs) y h = go (p x) refl (among_filter_test p xs y) h
  where
    go : (b : Bool) → p x ≡ b → (Among (filter p xs) y → p y ≡ true) → Among (cond b (x ∷ filter p xs) (filter p xs)) y → p y ≡ true
    go true e rest (inl same) = sym (ap p same) ∙ e
    go true e rest (inr k) = rest k
    go false e rest k = rest k

-- an element of a filtered list that passes is one of the list
pub any_filter : {A : Type 0} (q r : A → Bool) (xs : List A) → list_any q (filter r xs) ≡ true → list_any q xs ≡ true
any_filter q r [] h = h
any_filter q r (x ∷ xs) h = go (r x) (any_filter q r xs) h
  where
    either : (a b c : Bool) → (b ≡ true → c ≡ true) → (a || b) ≡ true → (a || c) ≡ true
    either true b c f e = refl
    either false b c f e = f e

    go : (b : Bool) → (list_any q (filter r xs) ≡ true → list_any q xs ≡ true) → list_any q (cond b (x ∷ filter r xs) (filter r xs)) ≡ true → (q x || list_any q xs) ≡ true
    go true rest e = either (q x) _ _ rest e
    go false rest e = or_right (q x) _ (rest e)

-- a filter keeps an element that passes, if it keeps all that do
pub filter_any : {A : Type 0} (q r : A → Bool) (xs : List A) → ((x : A) → q x ≡ true → r x ≡ true) → list_any q xs ≡ true → list_any q (filter r xs) ≡ true
filter_any q r [] f h = h
filter_any q r (x ∷ xs) f h = go (r x) refl (filter_any q r xs f) (or_true _ _ h)
  where
    go : (b : Bool) → r x ≡ b → (list_any q xs ≡ true → list_any q (filter r xs) ≡ true) → (q x ≡ true) ⊎ (list_any q xs ≡ true) → list_any q (cond b (x ∷ filter r xs) (filter r xs)) ≡ true
    go true is rest (inl e) = rw e refl
    go true is rest (inr e) = or_right (q x) _ (rest e)
    go false is rest (inl e) = absurd (let t : r x ≡ true = f x e in cc)
    go false is rest (inr e) = rest e

-- what holds of each element of a list holds of one that it contains
pub all_contain : {A : Type 0} (P : A → Type 0) (xs : List A) → AllByRecursion P xs → (y : A) → Contains xs y → P y
all_contain P [] all y h = absurd (Contains-none y h)
all_contain P (x ∷ xs) all y h = go (all_contain P xs all.1 y) (Contains-cons x xs y h)
  where
    go : (Contains xs y → P y) → (x ≡ y) ⊎ Contains xs y → P y
    go rest (inl e) = subst P e all.0
    go rest (inr k) = rest k

-- ---- some element

pub among_test : {A : Type 0} (q : A → Bool) (xs : List A) (x : A) → Among xs x → q x ≡ true → list_any q xs ≡ true
among_test q [] x h e = absurd h
among_test q (y ∷ xs) x (inl same) e = let t : q y ≡ true = ap q same ∙ e in rw t refl
among_test q (y ∷ xs) x (inr h) e = or_right (q y) _ (among_test q xs x h e)

pub test_among : {A : Type 0} (q : A → Bool) (xs : List A) → list_any q xs ≡ true → (x : A) × Among xs x × (q x ≡ true)
test_among q [] h = absurd cc
test_among {A} q (y ∷ xs) h = go (test_among q xs) (or_true (q y) (list_any q xs) h)
  where
    go : (list_any q xs ≡ true → (x : A) × Among xs x × (q x ≡ true)) → (q y ≡ true) ⊎ (list_any q xs ≡ true) → (x : A) × Among (y ∷ xs) x × (q x ≡ true)
    go rest (inl e) = (y, inl refl, e)
    go rest (inr e) = let r = rest e in (r.0, inr r.1, r.2)

pub among_left : {A : Type 0} (xs ys : List A) (y : A) → Among xs y → Among (xs ++ ys) y
among_left [] ys y h = absurd h
among_left (x ∷ xs) ys y (inl e) = inl e
among_left (x ∷ xs) ys y (inr h) = inr (among_left xs ys y h)

pub among_right : {A : Type 0} (xs ys : List A) (y : A) → Among ys y → Among (xs ++ ys) y
among_right [] ys y h = h
among_right (x ∷ xs) ys y h = inr (among_right xs ys y h)
