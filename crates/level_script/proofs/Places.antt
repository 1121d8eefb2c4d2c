-- Answers, and the numbers of names: their places among the names.
use Rattle.std.proofs.Common.{◌≡◌, ℕ, ◌+◌, ◌<◌, ◌≤◌, ◌==◌, List, [], ◌∷◌, ◌++◌, refl, sym, ap, ◌∙◌, subst, Bool, true, false, not, ◌&&◌, ◌||◌, cond, length, get_or, arith, Option, Some, None, option_map, Result, Ok, Err}
use Rattle.std.specs.Prelude.{nat_lt, position}
use Rattle.std.specs.List.{position_or_len, list_any}
use Rattle.std.specs.Str.{bytes_eq}
use Rattle.std.proofs.lemmas.Bool.{both_ways, false_from_ne_true, ltb-true, lt-ltb, le-ltb, eqb-true, eq-eqb}
use Rattle.std.proofs.lemmas.List.{length-append}
use Rattle.std.proofs.lemmas.List.Folds.{list_any-append}
use Rattle.std.proofs.lemmas.List.Sums.{prefix_len-le-length, passes_at_first}
use Rattle.world_model.specs.declared.kind.ClassId.{ClassId}
use Rattle.class_schema.specs.Class.{Class}
use Rattle.class_schema.specs.Table.{find_class, is_named, id_of}
use Rattle.class_schema.proofs.Labels.{same_bytes, bytes_same}
use Rattle.level_script.specs.Names.{number_of_name, number_in, with_name}

-- ---- answers

-- equal answers have equal values
pub ok_same : {A E : Type 0} {a b : A} → ◌≡◌ {A = Result A E} (Ok a) (Ok b) → a ≡ b
ok_same {A} {E} {a} {b} e = ap (λ (r : Result A E). elim r [ Ok x ↦ x | Err y ↦ a ]) e

-- a fault is no answer
pub err_ok : {A E : Type 0} {P : Type 0} {a : A} {e : E} → ◌≡◌ {A = Result A E} (Err e) (Ok a) → P
err_ok h = absurd (cc)

-- equal options have equal values
pub some_same : {A : Type 0} {a b : A} → Some a ≡ Some b → a ≡ b
some_same {A} {a} {b} e = ap (λ (o : Option A). elim o [ Some x ↦ x | None ↦ a ]) e

-- ---- places in lists

-- a choice that is there
place_some : (b : Bool) (n i : ℕ) → cond b (Some n) None ≡ Some i → (b ≡ true) × (n ≡ i)
place_some true n i e = (refl, some_same e)
place_some false n i e = absurd (cc)

-- a position is a place of the list
pub position_below : {X : Type 0} (p : X → Bool) (xs : List X) (i : ℕ) → position p xs ≡ Some i → i < length xs
position_below p xs i e =
    let h = place_some (nat_lt (position_or_len p xs) (length xs)) (position_or_len p xs) i e in
    let below : position_or_len p xs < length xs = ltb-true _ _ h.0 in
    let P : ℕ → Type 0 = λ n. n < length xs in
    subst P h.1 below

-- one more item
pub length_push : {X : Type 0} (xs : List X) (y : X) → length (xs ++ y ∷ []) ≡ length xs + 1
length_push xs y = length-append xs (y ∷ [])

-- the names with one that may be new are no fewer
name_grows : (b : Bool) (names : List (List ℕ)) (name : List ℕ) → length names ≤ length (cond b names (names ++ name ∷ []))
name_grows true names name = omega arith
name_grows false names name = omega (arith, length_push names name)

-- where an item passes, the first that does has a place
pub any_place : (p : List ℕ → Bool) (xs : List (List ℕ)) → list_any p xs ≡ true → position_or_len p xs < length xs
any_place p [] h = absurd (cc)
any_place p (x ∷ xs) h = any_cons (p x) h (any_place p xs)
  where
    any_cons : (b : Bool) → (b || list_any p xs) ≡ true → (list_any p xs ≡ true → position_or_len p xs < length xs) → cond (not b) (1 + position_or_len p xs) 0 < length (x ∷ xs)
    any_cons true h ih = omega arith
    any_cons false h ih = omega (arith, ih h)

-- a name has a place once it is there
name_place : (b : Bool) (names : List (List ℕ)) (name : List ℕ) → list_any (bytes_eq name) names ≡ b → position_or_len (bytes_eq name) names < length (cond b names (names ++ name ∷ []))
name_place true names name e = any_place (bytes_eq name) names e
name_place false names name e =
    let most : position_or_len (bytes_eq name) names ≤ length names = prefix_len-le-length (λ x. not (bytes_eq name x)) names in
    omega (arith, most, length_push names name)

-- names are never fewer
pub names_grow : (names : List (List ℕ)) (name : List ℕ) → length names ≤ length (with_name names name)
unfolding with_name
names_grow names name = name_grows (list_any (bytes_eq name) names) names name

-- the number of a name is below the number of names
pub number_below : (names : List (List ℕ)) (name : List ℕ) → number_in names name < length (with_name names name)
unfolding with_name number_in
number_below names name = name_place (list_any (bytes_eq name) names) names name refl

-- so is the number of a name that is there
pub found_below : (names : List (List ℕ)) (name : List ℕ) (i : ℕ) → number_of_name names name ≡ Some i → i < length names
unfolding number_of_name
found_below names name i e = position_below (bytes_eq name) names i e

-- the place of an id
class_of_place : (o : Option ℕ) (id : ClassId) → option_map id_of o ≡ Some id → o ≡ Some id.0
class_of_place None id e = absurd (cc)
class_of_place (Some i) id e = ap (λ (c : ClassId). Some c.0) (some_same e)

-- the id of a class is below the number of classes
pub class_below : (classes : List Class) (name : List ℕ) (id : ClassId) → find_class classes name ≡ Some id → id.0 < length classes
unfolding find_class
class_below classes name id e = position_below (is_named name) classes id.0 (class_of_place (position (is_named name) classes) id e)

-- what is below is below more
pub below_true : (m n k : ℕ) → m < n → n ≤ k → nat_lt m k ≡ true
below_true m n k h most = lt-ltb m k (omega (arith, h, most))

-- two tests that hold
pub and_both : (a b : Bool) → a ≡ true → b ≡ true → (a && b) ≡ true
and_both a b e f = (λ t. e t && f t)

-- two tests that hold together
pub both : (a b : Bool) → (a && b) ≡ true → (a ≡ true) × (b ≡ true)
both true b h = (refl, h)
both false b h = absurd (cc)

-- ---- places of names

-- where nothing passes, the first place is the end
pub none_place : (p : List ℕ → Bool) (xs : List (List ℕ)) → list_any p xs ≡ false → position_or_len p xs ≡ length xs
none_place p [] h = refl
none_place p (x ∷ xs) h = go (p x) h (none_place p xs)
  where
    go : (b : Bool) → (b || list_any p xs) ≡ false → (list_any p xs ≡ false → position_or_len p xs ≡ length xs) → cond (not b) (1 + position_or_len p xs) 0 ≡ length (x ∷ xs)
    go true h rest = absurd cc
    go false h rest = let r = rest h in omega arith

-- where this is the first place, it is a place of the list or it is none
at_place : (n k : ℕ) → n < k → cond (nat_lt n k) (Some n) None ≡ Some n
at_place n k h = ap (λ b. cond b (Some n) None) (lt-ltb n k h)

no_place : (n k : ℕ) → k ≤ n → cond (nat_lt n k) (Some n) None ≡ None
no_place n k h = ap (λ b. cond b (Some n) None) (le-ltb n k h)

-- a first place stays it, where more stand behind
place_stays : (p : List ℕ → Bool) (xs : List (List ℕ)) (y : List ℕ) → list_any p xs ≡ true → position_or_len p (xs ++ y ∷ []) ≡ position_or_len p xs
place_stays p [] y h = absurd cc
place_stays p (x ∷ xs) y h = go (p x) h (place_stays p xs y)
  where
    go : (b : Bool) → (b || list_any p xs) ≡ true → (list_any p xs ≡ true → position_or_len p (xs ++ y ∷ []) ≡ position_or_len p xs)
        → cond (not b) (1 + position_or_len p (xs ++ y ∷ [])) 0 ≡ cond (not b) (1 + position_or_len p xs) 0
    go true h rest = refl
    go false h rest = ap (λ k. 1 + k) (rest h)

place_last : (p : List ℕ → Bool) (xs : List (List ℕ)) (y : List ℕ) → list_any p xs ≡ false → p y ≡ true → position_or_len p (xs ++ y ∷ []) ≡ length xs
place_last p [] y h own = go (p y) own
  where
    go : (b : Bool) → b ≡ true → cond (not b) (1 + 0) 0 ≡ 0
    go true e = refl
    go false e = absurd cc
place_last p (x ∷ xs) y h own = go (p x) h (λ h. place_last p xs y h own)
  where
    go : (b : Bool) → (b || list_any p xs) ≡ false → (list_any p xs ≡ false → position_or_len p (xs ++ y ∷ []) ≡ length xs)
        → cond (not b) (1 + position_or_len p (xs ++ y ∷ [])) 0 ≡ length (x ∷ xs)
    go true h rest = absurd cc
    go false h rest = let r = rest h in omega arith

-- a name that is put behind others is found there
pub found_new : (names : List (List ℕ)) (var : List ℕ) → number_of_name (with_name names var) var ≡ Some (number_in names var)
unfolding number_of_name with_name number_in
found_new names var = go (list_any (bytes_eq var) names) refl
  where
    go : (b : Bool) → list_any (bytes_eq var) names ≡ b → position (bytes_eq var) (cond b names (names ++ var ∷ [])) ≡ Some (position_or_len (bytes_eq var) names)
    go true e = at_place (position_or_len (bytes_eq var) names) (length names) (any_place (bytes_eq var) names e)
    go false e =
        let here : position_or_len (bytes_eq var) (names ++ var ∷ []) ≡ length names = place_last (bytes_eq var) names var e (bytes_same var var refl) in
        let old : position_or_len (bytes_eq var) names ≡ length names = none_place (bytes_eq var) names e in
        let more : length (names ++ var ∷ []) ≡ length names + 1 = length_push names var in
        ap (λ k. cond (nat_lt k (length (names ++ var ∷ []))) (Some k) None) (here ∙ sym old)
        ∙ at_place (position_or_len (bytes_eq var) names) (length (names ++ var ∷ [])) (omega arith)

-- and others are found where they were
pub found_other : (names : List (List ℕ)) (var name : List ℕ) → bytes_eq name var ≡ false → number_of_name (with_name names var) name ≡ number_of_name names name
unfolding number_of_name with_name
found_other names var name other = go (list_any (bytes_eq var) names) (list_any (bytes_eq name) names) refl
  where
    n : ℕ
    n = position_or_len (bytes_eq name) names

    more : length (names ++ var ∷ []) ≡ length names + 1
    more = length_push names var

    go : (b there : Bool) → list_any (bytes_eq name) names ≡ there → position (bytes_eq name) (cond b names (names ++ var ∷ [])) ≡ position (bytes_eq name) names
    go true there e = refl
    go false true e =
        let below = any_place (bytes_eq name) names e in
        ap (λ k. cond (nat_lt k (length (names ++ var ∷ []))) (Some k) None) (place_stays (bytes_eq name) names var e)
        ∙ at_place n (length (names ++ var ∷ [])) (omega (arith, below, more)) ∙ sym (at_place n (length names) below)
    go false false e =
        let none : list_any (bytes_eq name) (names ++ var ∷ []) ≡ false = list_any-append (bytes_eq name) names (var ∷ []) ∙ (rw (e, other) refl) in
        let new = none_place (bytes_eq name) (names ++ var ∷ []) none in
        let old = none_place (bytes_eq name) names e in
        no_place (position_or_len (bytes_eq name) (names ++ var ∷ [])) (length (names ++ var ∷ [])) (omega (arith, new)) ∙ sym (no_place n (length names) (omega (arith, old)))

-- a name that is found is at its first place, which is none of another's
pub other_place : (names : List (List ℕ)) (var name : List ℕ) (i : ℕ) → bytes_eq name var ≡ false → number_of_name names name ≡ Some i → (number_in names var == i) ≡ false
unfolding number_of_name number_in
other_place names var name i other e = false_from_ne_true _ (λ same. go (nat_lt n (length names)) refl e same)
  where
    n : ℕ
    n = position_or_len (bytes_eq name) names

    k : ℕ
    k = position_or_len (bytes_eq var) names

    go : (b : Bool) → nat_lt n (length names) ≡ b → cond b (Some n) None ≡ Some i → (k == i) ≡ true → ⊥
    go false lt e same = absurd cc
    go true lt e same =
        let at : n ≡ i = some_same e in
        let here : k ≡ i = eqb-true k i same in
        let below : n < length names = ltb-true n (length names) lt in
        let there : k < length names = omega arith in
        let by_name : bytes_eq name (get_or names n []) ≡ true = passes_at_first (bytes_eq name) names [] below in
        let by_var : bytes_eq var (get_or names k []) ≡ true = passes_at_first (bytes_eq var) names [] there in
        let one : name ≡ get_or names i [] = same_bytes name (get_or names n []) by_name ∙ ap (λ (j : ℕ). get_or names j []) at in
        let two : var ≡ get_or names i [] = same_bytes var (get_or names k []) by_var ∙ ap (λ (j : ℕ). get_or names j []) here in
        both_ways (bytes_eq name var) other (bytes_same name var (one ∙ sym two))

-- ---- numbers

-- a number is itself, and no other
pub eq_self : (k : ℕ) → (k == k) ≡ true
eq_self k = eq-eqb k k refl

pub eq_flip : (i k : ℕ) → (k == i) ≡ false → (i == k) ≡ false
eq_flip i k e = false_from_ne_true _ (λ same. both_ways (k == i) e (ap (λ (j : ℕ). k == j) (eqb-true i k same) ∙ eq_self k))
