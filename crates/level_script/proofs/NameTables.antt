-- Tables by name, as lists.
use Rattle.std.proofs.Common.{◌≡◌, ℕ, zero, suc, ◌+◌, ◌<◌, ◌≤◌, lt-ltb, arith, length, List, [], ◌∷◌, ◌++◌, refl, sym, ap, subst, ◌∙◌, Bool, true, false, not, ◌||◌, cond, map, slice_get, Some, None, String, string_bytes}
use Rattle.std.specs.Prelude.{nat_lt, position}
use Rattle.std.specs.List.{position_or_len, prefix_len, list_any, AllByRecursion, IsDistinct}
use Rattle.std.specs.Str.{bytes_eq}
use Rattle.std.specs.String.{string_eq}
use Rattle.std.specs.declared.alloc.Global.{Global}
use Rattle.std.proofs.lemmas.Bool.{ltb-true, ltb-false}
use Rattle.std.proofs.lemmas.List.Sums.{prefix_len-le-length}
use Rattle.std.proofs.lemmas.Slice.Eq.{bytes_eq-Decides}
use Rattle.std.proofs.lemmas.Option.{slice_get_within}
use Rattle.std.proofs.lemmas.List.{length-map, map-append}
use Rattle.indexmap.specs.IndexSet.{insert_key}
use Rattle.level_script.specs.Names.{number_of_name, number_in, with_name}

-- ---- lists that are seen by a function

module _ {A B : Type 0} (f : A → B) (p : B → Bool) where
  -- how many pass from the front on
  prefix_map : (xs : List A) → prefix_len p (map f xs) ≡ prefix_len (λ x. p (f x)) xs
  prefix_map [] = refl
  prefix_map (x ∷ xs) = ap (λ n. cond (p (f x)) (1 + n) 0) (prefix_map xs)

  -- whether one passes
  any_map : (xs : List A) → list_any p (map f xs) ≡ list_any (λ x. p (f x)) xs
  any_map [] = refl
  any_map (x ∷ xs) = ap (λ b. p (f x) || b) (any_map xs)

-- the first place
place_map : {A B : Type 0} (f : A → B) (p : B → Bool) (xs : List A) → position_or_len p (map f xs) ≡ position_or_len (λ x. p (f x)) xs
place_map f p xs = prefix_map f (λ y. not (p y)) xs

-- the position
position_map : {A B : Type 0} (f : A → B) (p : B → Bool) (xs : List A) → position p (map f xs) ≡ position (λ x. p (f x)) xs
position_map f p xs = λ t. cond (nat_lt (place_map f p xs t) (length-map xs f t)) (Some (place_map f p xs t)) None

-- ---- names

-- a name that is looked up
pub name_found : (ks : List (String Global)) (name : List ℕ) → position (λ k. bytes_eq name (string_bytes k)) ks ≡ number_of_name (map string_bytes ks) name
unfolding number_of_name
name_found ks name = sym (position_map string_bytes (bytes_eq name) ks)

-- the number of a name that is added
pub name_number : (ks : List (String Global)) (key : String Global) → position_or_len (string_eq key) ks ≡ number_in (map string_bytes ks) (string_bytes key)
unfolding number_in
name_number ks key = sym (place_map string_bytes (bytes_eq (string_bytes key)) ks)

-- the texts of keys with one that may be new
map_cond : (b : Bool) (ks : List (String Global)) (key : String Global) → map string_bytes (cond b ks (ks ++ key ∷ [])) ≡ cond b (map string_bytes ks) (map string_bytes ks ++ string_bytes key ∷ [])
map_cond true ks key = refl
map_cond false ks key = map-append string_bytes ks (key ∷ [])

-- the names with one that may be new
pub name_added : (ks : List (String Global)) (key : String Global) → map string_bytes (insert_key string_eq ks key) ≡ with_name (map string_bytes ks) (string_bytes key)
unfolding with_name
name_added ks key =
    map_cond (list_any (string_eq key) ks) ks key
    ∙ ap (λ b. cond b (map string_bytes ks) (map string_bytes ks ++ string_bytes key ∷ [])) (sym (any_map string_bytes (bytes_eq (string_bytes key)) ks))

-- a place that is one of the list's holds what passes
place_passes : {A : Type 0} (p : A → Bool) (xs : List A) → position_or_len p xs < length xs → list_any p xs ≡ true
place_passes p [] below = absurd (omega arith)
place_passes p (x ∷ xs) below = go (p x) below (place_passes p xs)
  where
    go : (b : Bool) → cond (not b) (1 + position_or_len p xs) 0 < length (x ∷ xs) → (position_or_len p xs < length xs → list_any p xs ≡ true) → (b || list_any p xs) ≡ true
    go true below more = refl
    go false below more = more (omega arith)

-- a place that is there
place_some : (b : Bool) (place : ℕ) (i : ℕ) → cond b (Some place) None ≡ Some i → (b ≡ true) × (place ≡ i)
place_some true place i e = (refl, cc)
place_some false place i e = absurd cc

-- a name that is there has its number, and is not added again
pub name_there : (names : List (List ℕ)) (name : List ℕ) (i : ℕ) → number_of_name names name ≡ Some i → (i ≡ number_in names name) × (names ≡ with_name names name)
unfolding number_of_name number_in with_name
name_there names name i e =
    let found = place_some (nat_lt (position_or_len (bytes_eq name) names) (length names)) (position_or_len (bytes_eq name) names) i e in
    let passes = place_passes (bytes_eq name) names (ltb-true _ _ found.0) in
    (sym found.1, ap (λ b. cond b names (names ++ name ∷ [])) (sym passes))

-- a name that is not there has the next number
pub name_next : (names : List (List ℕ)) (name : List ℕ) → number_of_name names name ≡ None → length names ≡ number_in names name
unfolding number_of_name number_in
name_next names name e = go (nat_lt place (length names)) refl e
  where
    place : ℕ
    place = position_or_len (bytes_eq name) names

    go : (b : Bool) → nat_lt place (length names) ≡ b → cond b (Some place) None ≡ None → length names ≡ place
    go true is e = absurd cc
    go false is e =
        let most : place ≤ length names = prefix_len-le-length (λ x. not (bytes_eq name x)) names in
        let least : length names ≤ place = ltb-false _ _ is in
        omega arith

-- ---- a name at a place

-- what holds of each holds of the one at a place
all_at : {A : Type 0} (P : A → Type 0) (xs : List A) (n : ℕ) (x : A) → AllByRecursion P xs → slice_get xs n ≡ Some x → P x
all_at P [] n x all e = absurd cc
all_at P (y ∷ ys) zero x all e = let same : y ≡ x = cc in subst P same all.0
all_at P (y ∷ ys) (suc n) x all e = all_at P ys n x all.1 e

-- texts that differ, differ the other way round
differ : (b : Bool) (xs ys : List ℕ) → bytes_eq ys xs ≡ b → bytes_eq xs ys ≡ false → b ≡ false
differ false xs ys e other = refl
differ true xs ys e other =
    let same : xs ≡ ys = sym ((bytes_eq-Decides ys xs).0 e) in
    let is : bytes_eq xs ys ≡ true = (bytes_eq-Decides xs ys).1 same in
    absurd cc

-- the place of a key among distinct ones is the first with its text
first_place : (ks : List (String Global)) (n : ℕ) (k : String Global) → IsDistinct string_eq ks → slice_get ks n ≡ Some k → position_or_len (bytes_eq (string_bytes k)) (map string_bytes ks) ≡ n
unfolding IsDistinct
first_place [] n k distinct e = absurd cc
first_place (x ∷ ks) zero k distinct e =
    let same : k ≡ x = cc in
    let passes : bytes_eq (string_bytes k) (string_bytes x) ≡ true = (bytes_eq-Decides (string_bytes k) (string_bytes x)).1 (ap string_bytes same) in
    ap (λ b. cond (not b) (1 + position_or_len (bytes_eq (string_bytes k)) (map string_bytes ks)) 0) passes
first_place (x ∷ ks) (suc n) k distinct e =
    let other : bytes_eq (string_bytes k) (string_bytes x) ≡ false =
    differ (bytes_eq (string_bytes k) (string_bytes x)) (string_bytes x) (string_bytes k) refl
    (all_at (λ y. string_eq x y ≡ false) ks n k distinct.0 e) in
    ap (λ b. cond (not b) (1 + position_or_len (bytes_eq (string_bytes k)) (map string_bytes ks)) 0) other ∙ ap (λ m. 1 + m) (first_place ks n k distinct.1 e) ∙ omega arith

-- so it is its number
pub name_at : (ks : List (String Global)) (n : ℕ) (k : String Global) → IsDistinct string_eq ks → slice_get ks n ≡ Some k → number_of_name (map string_bytes ks) (string_bytes k) ≡ Some n
unfolding number_of_name
name_at ks n k distinct e =
    let below : n < length (map string_bytes ks) = rw (length-map ks string_bytes) (slice_get_within ks n k e) in
    (λ t. cond (nat_lt (first_place ks n k distinct e t) (length (map string_bytes ks))) (Some (first_place ks n k distinct e t)) None) ∙ ap (λ b. cond b (Some n) None) (lt-ltb _ _ below)
