-- Lists by place, after a write and after a push; entries of a map after a write.
use Rattle.std.proofs.Common.{◌≡◌, ℕ, zero, suc, ◌<◌, refl, sym, ap, ◌∙◌, subst, inl, inr, arith, Bool, true, ◌||◌, ◌⊎◌, List, [], ◌∷◌, ◌++◌, length, map, set, Some, slice_get}
use Rattle.std.specs.List.{list_any}
use Rattle.std.specs.Map.{keys_of}
use Rattle.std.proofs.lemmas.Bool.{cases_eq, or_cases, or_left, or_right}
use Rattle.std.proofs.lemmas.List.{length-set}
use Rattle.std.proofs.lemmas.Option.{slice_get_within, same_Some}
use Rattle.indexmap.specs.IndexMap.{set_value_at}

module _ {A : Type 0} where
  pub at_set : (xs : List A) (i : ℕ) (y : A) → i < length xs → slice_get (set xs i y) i ≡ Some y
  at_set [] i y lt = absurd (omega arith)
  at_set (x ∷ xs) zero y lt = refl
  at_set (x ∷ xs) (suc i) y lt = at_set xs i y (omega arith)

  pub set_other : (xs : List A) (i k : ℕ) (y : A) → (i ≡ k → ⊥) → slice_get (set xs i y) k ≡ slice_get xs k
  set_other [] i k y apart = refl
  set_other (x ∷ xs) zero zero y apart = absurd (apart refl)
  set_other (x ∷ xs) zero (suc k) y apart = refl
  set_other (x ∷ xs) (suc i) zero y apart = refl
  set_other (x ∷ xs) (suc i) (suc k) y apart = set_other xs i k y (λ e. apart (ap suc e))

  -- what stands at a place after a write
  pub set_cases : (xs : List A) (i k : ℕ) (y r : A) → slice_get (set xs i y) k ≡ Some r → ((k ≡ i) × (r ≡ y)) ⊎ ((i ≡ k → ⊥) × (slice_get xs k ≡ Some r))
  set_cases xs i k y r at = go (cases_eq i k)
    where
      go : (i ≡ k) ⊎ (i ≡ k → ⊥) → ((k ≡ i) × (r ≡ y)) ⊎ ((i ≡ k → ⊥) × (slice_get xs k ≡ Some r))
      go (inl e) =
          let within = slice_get_within (set xs i y) k r at in
          let same = length-set xs i y in
          let lt : i < length xs = omega arith in
          inl (sym e, same_Some r y (sym (subst (λ (n : ℕ). slice_get (set xs i y) n ≡ Some r) (sym e) at) ∙ at_set xs i y lt))
      go (inr apart) = inr (apart, sym (set_other xs i k y apart) ∙ at)

  -- what stands at a place after a push
  pub push_cases : (xs : List A) (k : ℕ) (y r : A) → slice_get (xs ++ y ∷ []) k ≡ Some r → ((k ≡ length xs) × (r ≡ y)) ⊎ (slice_get xs k ≡ Some r)
  push_cases [] zero y r at = inl (refl, sym (same_Some y r at))
  push_cases [] (suc k) y r at = absurd cc
  push_cases (x ∷ xs) zero y r at = inr at
  push_cases (x ∷ xs) (suc k) y r at = go (push_cases xs k y r at)
    where
      go : ((k ≡ length xs) × (r ≡ y)) ⊎ (slice_get xs k ≡ Some r) → ((suc k ≡ suc (length xs)) × (r ≡ y)) ⊎ (slice_get xs k ≡ Some r)
      go (inl e) = inl (ap suc e.0, e.1)
      go (inr e) = inr e

  pub at_push_left : (xs : List A) (k : ℕ) (y r : A) → slice_get xs k ≡ Some r → slice_get (xs ++ y ∷ []) k ≡ Some r
  at_push_left [] k y r at = absurd cc
  at_push_left (x ∷ xs) zero y r at = at
  at_push_left (x ∷ xs) (suc k) y r at = at_push_left xs k y r at

  pub at_push : (xs : List A) (y : A) → slice_get (xs ++ y ∷ []) (length xs) ≡ Some y
  at_push [] y = refl
  at_push (x ∷ xs) y = at_push xs y

  -- what passed by the old element passes by the new one
  pub any_set : (p : A → Bool) (xs : List A) (i : ℕ) (x y : A) → slice_get xs i ≡ Some x → (p x ≡ true → p y ≡ true) → list_any p xs ≡ true → list_any p (set xs i y) ≡ true
  any_set p [] i x y at more any = absurd cc
  any_set p (z ∷ xs) zero x y at more any = go (or_cases (p z) (list_any p xs) any)
    where
      go : (p z ≡ true) ⊎ (list_any p xs ≡ true) → (p y || list_any p xs) ≡ true
      go (inl e) = or_left (p y) _ (more (subst (λ (w : A). p w ≡ true) (same_Some z x at) e))
      go (inr e) = or_right (p y) _ e
  any_set p (z ∷ xs) (suc i) x y at more any = go (any_set p xs i x y at more) (or_cases (p z) (list_any p xs) any)
    where
      go : (list_any p xs ≡ true → list_any p (set xs i y) ≡ true) → (p z ≡ true) ⊎ (list_any p xs ≡ true) → (p z || list_any p (set xs i y)) ≡ true
      go rest (inl e) = or_left (p z) _ e
      go rest (inr e) = or_right (p z) _ (rest e)

  -- a test that follows from another
  pub any_weaker : (p q : A → Bool) → ((x : A) → p x ≡ true → q x ≡ true) → (xs : List A) → list_any p xs ≡ true → list_any q xs ≡ true
  any_weaker p q more [] any = any
  any_weaker p q more (x ∷ xs) any = go (any_weaker p q more xs) (or_cases (p x) (list_any p xs) any)
    where
      go : (list_any p xs ≡ true → list_any q xs ≡ true) → (p x ≡ true) ⊎ (list_any p xs ≡ true) → (q x || list_any q xs) ≡ true
      go rest (inl e) = or_left (q x) _ (more x e)
      go rest (inr e) = or_right (q x) _ (rest e)

  -- a write of an element that a function does not tell from the old one
  pub map_set_same : {B : Type 0} (f : A → B) (xs : List A) (i : ℕ) (x y : A) → slice_get xs i ≡ Some x → f y ≡ f x → map f (set xs i y) ≡ map f xs
  map_set_same f [] i x y at e = refl
  map_set_same f (z ∷ xs) zero x y at e = ap (λ b. b ∷ map f xs) (e ∙ ap f (sym (same_Some z x at)))
  map_set_same f (z ∷ xs) (suc i) x y at e = ap (λ bs. f z ∷ bs) (map_set_same f xs i x y at e)

module _ {K X : Type 0} where
  -- the entry of a value
  pub entry_of : (es : List (K × X)) (i : ℕ) (x : X) → slice_get (map (λ e. e.1) es) i ≡ Some x → (k : K) × (slice_get es i ≡ Some (k, x))
  entry_of [] i x at = absurd cc
  entry_of (e ∷ es) zero x at = (e.0, ap (λ y. Some (e.0, y)) (same_Some e.1 x at))
  entry_of (e ∷ es) (suc i) x at = entry_of es i x at

  -- a write by index leaves the keys
  pub keys_set : (es : List (K × X)) (i : ℕ) (w : X) → keys_of (set_value_at es i w) ≡ keys_of es
  keys_set [] i w = refl
  keys_set (e ∷ es) zero w = refl
  keys_set (e ∷ es) (suc i) w = ap (λ ks. e.0 ∷ ks) (keys_set es i w)

  -- and writes the value
  pub values_set : (es : List (K × X)) (i : ℕ) (w : X) → map (λ e. e.1) (set_value_at es i w) ≡ set (map (λ e. e.1) es) i w
  values_set [] i w = refl
  values_set (e ∷ es) zero w = refl
  values_set (e ∷ es) (suc i) w = ap (λ xs. e.1 ∷ xs) (values_set es i w)

  pub length_set : (es : List (K × X)) (i : ℕ) (w : X) → length (set_value_at es i w) ≡ length es
  length_set [] i w = refl
  length_set (e ∷ es) zero w = refl
  length_set (e ∷ es) (suc i) w = ap suc (length_set es i w)

  -- a function of the entries after a write
  pub map_entry_set : {B : Type 0} (f : K × X → B) (es : List (K × X)) (i : ℕ) (k : K) (x w : X) → slice_get es i ≡ Some (k, x) → map f (set_value_at es i w) ≡ set (map f es) i (f (k, w))
  map_entry_set f [] i k x w at = refl
  map_entry_set f (e ∷ es) zero k x w at = ap (λ (p : K × X). f (p.0, w) ∷ map f es) (same_Some e (k, x) at)
  map_entry_set f (e ∷ es) (suc i) k x w at = ap (λ bs. f e ∷ bs) (map_entry_set f es i k x w at)

  -- a function of the entries that does not tell the new value from the old one
  pub map_entry_same : {B : Type 0} (f : K × X → B) (es : List (K × X)) (i : ℕ) (k : K) (x w : X) → slice_get es i ≡ Some (k, x) → f (k, w) ≡ f (k, x) → map f (set_value_at es i w) ≡ map f es
  map_entry_same f [] i k x w at e = refl
  map_entry_same f (p ∷ es) zero k x w at e =
      let same = same_Some p (k, x) at in
      let put : K × X → List _ = λ q. f (q.0, w) ∷ map f es in
      ap put same ∙ ap (λ b. b ∷ map f es) (e ∙ ap f (sym same))
  map_entry_same f (p ∷ es) (suc i) k x w at e = ap (λ bs. f p ∷ bs) (map_entry_same f es i k x w at e)

  -- the value that is there is written again
  pub set_same : (es : List (K × X)) (i : ℕ) (x : X) → slice_get (map (λ e. e.1) es) i ≡ Some x → set_value_at es i x ≡ es
  set_same [] i x at = refl
  set_same (e ∷ es) zero x at = let put : X → List (K × X) = λ y. (e.0, y) ∷ es in ap put (sym (same_Some e.1 x at))
  set_same (e ∷ es) (suc i) x at = ap (λ rest. e ∷ rest) (set_same es i x at)
