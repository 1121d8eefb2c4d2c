-- Names in order: a sorted order of names is the one order, and lists of different names with the same members have one order and one length.
use Rattle.std.proofs.Common.{◌≡◌, ℕ, suc, ◌+◌, ◌<◌, ◌≤◌, Bool, true, false, cond, not, ◌||◌, List, [], ◌∷◌, length, get_or, count_by, refl, sym, subst, ap, ◌∙◌, arith, is_lt, IsPermutation, IsSorted}
use Rattle.std.specs.Prelude.{⊤}
use Rattle.std.specs.List.{AllByRecursion}
use Rattle.std.specs.Cmp.{IsTotalOrder, IsStrictWeakOrder}
use Rattle.std.proofs.lemmas.Bool.Decides.{nat_tests}
use Rattle.std.proofs.lemmas.Cmp.{nat_cmp_total, on_total, then_total, tied_itself}
use Rattle.std.proofs.lemmas.List.Sums.{sum_by-cons}
use Rattle.std.proofs.lemmas.List.Sorted.{ranks_by, sorted_far, sum_by-IsPermutation}
use Rattle.world_model.specs.NameLists.{same_name, has, all_different}
use Rattle.world_model.proofs.ListFacts.{and_true}
use Rattle.world_model.proofs.NameFacts.{same_name_true, same_name_refl}
use Rattle.world_play.specs.Types.{Name}
use Rattle.world_play.specs.Text.{name_cmp, with_name, in_name_order}

-- ---- the order of names

name_cmp_total : IsTotalOrder name_cmp
name_cmp_total = then_total (on_total (λ (n : Name). n.lane) nat_cmp_total) (on_total (λ (n : Name). n.count) nat_cmp_total)

abbrev is_less : Name → Name → Bool
is_less a b = is_lt (name_cmp a b)

order : IsStrictWeakOrder is_less
order = ranks_by name_cmp_total (λ n. n)

not_itself : (n : Name) → is_less n n ≡ false
not_itself n = ap is_lt (tied_itself name_cmp_total n)

-- names that tie are equal
same_name_ties : (a b : Name) → is_less a b ≡ false → is_less b a ≡ false → same_name a b ≡ true
same_name_ties a b p q = grind (arith, nat_tests)

ties_equal : (a b : Name) → is_less a b ≡ false → is_less b a ≡ false → a ≡ b
ties_equal a b p q = same_name_true a b (same_name_ties a b p q)

-- ---- lists in which no name is less than one before it

abbrev Ascends : List Name → Type 0
Ascends [] = ⊤
Ascends (n ∷ names) = AllByRecursion (λ m. is_less m n ≡ false) names × Ascends names

all_with : (P : Name → Type 0) (n : Name) (names : List Name) → P n → AllByRecursion P names → AllByRecursion P (with_name n names)
all_with P n [] here rest = (here, tt)
all_with P n (m ∷ names) here rest = go (is_less m n) (all_with P n names here rest.1)
  where
    go : (b : Bool) → AllByRecursion P (with_name n names) → AllByRecursion P (cond b (m ∷ with_name n names) (n ∷ m ∷ names))
    go true more = (rest.0, more)
    go false more = (here, rest)

-- what is not less than m is not less than n, if m is not
all_above : (n m : Name) (names : List Name) → is_less m n ≡ false → AllByRecursion (λ k. is_less k m ≡ false) names
    → AllByRecursion (λ k. is_less k n ≡ false) names
all_above n m [] first rest = tt
all_above n m (k ∷ names) first rest = (order.chain k m n rest.0 first, all_above n m names first rest.1)

ascends_with : (n : Name) (names : List Name) → Ascends names → Ascends (with_name n names)
ascends_with n [] up = (tt, tt)
ascends_with n (m ∷ names) up = go (is_less m n) refl (ascends_with n names up.1)
  where
    go : (b : Bool) → is_less m n ≡ b → Ascends (with_name n names) → Ascends (cond b (m ∷ with_name n names) (n ∷ m ∷ names))
    go true e more = (all_with (λ k. is_less k m ≡ false) n names (order.one_way m n e) up.0, more)
    go false e more = ((e, all_above n m names e up.0), up)

ascends_in_order : (names : List Name) → Ascends (in_name_order names)
ascends_in_order [] = tt
ascends_in_order (n ∷ names) = ascends_with n (in_name_order names) (ascends_in_order names)

all_from_first : (n : Name) (names : List Name) → ((k : ℕ) → k < length names → is_less (get_or names k n) n ≡ false)
    → AllByRecursion (λ m. is_less m n ≡ false) names
all_from_first n [] h = tt
all_from_first n (m ∷ names) h = (h 0 (omega arith), all_from_first n names (λ k lt. h (suc k) (omega arith)))

ascends_far : (names : List Name) → ((i j : ℕ) (d : Name) → i ≤ j → j < length names → is_less (get_or names j d) (get_or names i d) ≡ false)
    → Ascends names
ascends_far [] h = tt
ascends_far (n ∷ names) h = (
  all_from_first n names (λ k lt. h 0 (suc k) n (omega arith) (omega arith)),
  ascends_far names (λ i j d le lt. h (suc i) (suc j) d (omega arith) (omega arith)),
)

ascends_sorted : (names : List Name) → IsSorted name_cmp names → Ascends names
ascends_sorted names sorted = ascends_far names (sorted_far is_less order names sorted)

-- ---- how often a name stands in a list

abbrev count : Name → List Name → ℕ
count n names = count_by (same_name n) names

one_more : (n m : Name) (names : List Name) → count n (m ∷ names) ≡ cond (same_name n m) 1 0 + count n names
one_more n m names = sum_by-cons (λ k. cond (same_name n k) 1 0) m names

count_with : (n m : Name) (names : List Name) → count n (with_name m names) ≡ cond (same_name n m) 1 0 + count n names
count_with n m [] = one_more n m []
count_with n m (k ∷ names) = go (is_less k m) (count_with n m names)
  where
    go : (b : Bool) → count n (with_name m names) ≡ cond (same_name n m) 1 0 + count n names
        → count n (cond b (k ∷ with_name m names) (m ∷ k ∷ names)) ≡ cond (same_name n m) 1 0 + count n (k ∷ names)
    go true rest = omega (arith, rest, one_more n k (with_name m names), one_more n k names)
    go false rest = one_more n m (k ∷ names)

count_in_order : (n : Name) (names : List Name) → count n (in_name_order names) ≡ count n names
count_in_order n [] = refl
count_in_order n (m ∷ names) = omega (arith, count_with n m (in_name_order names), count_in_order n names, one_more n m names)

count_itself : (n : Name) (names : List Name) → 0 < count n (n ∷ names)
count_itself n names = rw (one_more n n names, same_name_refl n) (omega arith)

count_rest : (n x y : Name) (xs ys : List Name) → x ≡ y → count n (x ∷ xs) ≡ count n (y ∷ ys) → count n xs ≡ count n ys
count_rest n x y xs ys first same =
    let alike : count n (y ∷ xs) ≡ count n (y ∷ ys) = subst (λ (m : Name). count n (m ∷ xs) ≡ count n (y ∷ ys)) first same in
    omega (arith, alike, one_more n y xs, one_more n y ys)

-- what holds of each name of a list holds of one that is counted there
all_counted : (P : Name → Type 0) (n : Name) (names : List Name) → AllByRecursion P names → 0 < count n names → P n
all_counted P n [] all some = absurd (omega arith)
all_counted P n (m ∷ names) all some = go (same_name n m) refl (one_more n m names) (all_counted P n names all.1)
  where
    go : (b : Bool) → same_name n m ≡ b → count n (m ∷ names) ≡ cond b 1 0 + count n names → (0 < count n names → P n) → P n
    go true e more rest = subst P (sym (same_name_true n m e)) all.0
    go false e more rest = rest (omega arith)

-- no name of a list that ascends is less than its first
first_is_least : (n m : Name) (names : List Name) → Ascends (m ∷ names) → 0 < count n (m ∷ names) → is_less n m ≡ false
first_is_least n m names up = all_counted (λ k. is_less k m ≡ false) n (m ∷ names) (not_itself m, up.0)

-- lists that ascend and have each name equally often are one
same_ascending : (xs ys : List Name) → Ascends xs → Ascends ys → ((n : Name) → count n xs ≡ count n ys) → xs ≡ ys
same_ascending [] [] up up' same = refl
same_ascending [] (y ∷ ys) up up' same = absurd (omega (arith, same y, count_itself y ys))
same_ascending (x ∷ xs) [] up up' same = absurd (omega (arith, same x, count_itself x xs))
same_ascending (x ∷ xs) (y ∷ ys) up up' same =
    let x_not_less = first_is_least x y ys up' (omega (arith, same x, count_itself x xs)) in
    let y_not_less = first_is_least y x xs up (omega (arith, same y, count_itself y ys)) in
    let first : x ≡ y = ties_equal x y x_not_less y_not_less in
    let rest : (n : Name) → count n xs ≡ count n ys = λ n. count_rest n x y xs ys first (same n) in
    ap (λ (m : Name). m ∷ xs) first ∙ ap (λ (l : List Name). y ∷ l) (same_ascending xs ys up.1 up'.1 rest)

-- a sorted order of the names is the order
pub sorted_names : (found names : List Name) → IsPermutation found names → IsSorted name_cmp names → names ≡ in_name_order found
sorted_names found names moved sorted =
    let counts : (n : Name) → count n names ≡ count n (in_name_order found) =
    λ n. sum_by-IsPermutation (λ (m : Name). cond (same_name n m) 1 0) found names moved ∙ sym (count_in_order n found) in
    same_ascending names (in_name_order found) (ascends_sorted names sorted) (ascends_in_order found) counts

-- ---- lists of different names

length_with : (n : Name) (names : List Name) → length (with_name n names) ≡ suc (length names)
length_with n [] = refl
length_with n (m ∷ names) = go (is_less m n) (length_with n names)
  where
    go : (b : Bool) → length (with_name n names) ≡ suc (length names)
        → length (cond b (m ∷ with_name n names) (n ∷ m ∷ names)) ≡ suc (suc (length names))
    go true rest = ap suc rest
    go false rest = refl

pub length_in_order : (xs : List Name) → length (in_name_order xs) ≡ length xs
length_in_order [] = refl
length_in_order (n ∷ names) = length_with n (in_name_order names) ∙ ap suc (length_in_order names)

count_none : (n : Name) (names : List Name) → has names n ≡ false → count n names ≡ 0
count_none n [] h = refl
count_none n (m ∷ names) h = go (same_name n m) (one_more n m names) (count_none n names) h
  where
    go : (b : Bool) → count n (m ∷ names) ≡ cond b 1 0 + count n names → (has names n ≡ false → count n names ≡ 0)
        → (b || has names n) ≡ false → count n (m ∷ names) ≡ 0
    go true more rest e = absurd cc
    go false more rest e = omega (arith, more, rest e)

-- a name stands once in a list of different names, if it is there
count_different : (n : Name) (names : List Name) → all_different names ≡ true → count n names ≡ cond (has names n) 1 0
count_different n [] h = refl
count_different n (m ∷ names) h =
    let parts = and_true (not (has names m)) (all_different names) h in
    let none : n ≡ m → count n names ≡ 0 = λ e. count_none n names (ap (has names) e ∙ is_not (has names m) parts.0) in
    go (same_name n m) refl (one_more n m names) (count_different n names parts.1) none
  where
    is_not : (b : Bool) → not b ≡ true → b ≡ false
    is_not true e = absurd cc
    is_not false e = refl

    go : (b : Bool) → same_name n m ≡ b → count n (m ∷ names) ≡ cond b 1 0 + count n names → count n names ≡ cond (has names n) 1 0
        → (n ≡ m → count n names ≡ 0) → count n (m ∷ names) ≡ cond (b || has names n) 1 0
    go true e more rest none = omega (arith, more, none (same_name_true n m e))
    go false e more rest none = omega (arith, more, rest)

-- lists of different names with the same members have one order and one length
pub same_order : (xs ys : List Name) → all_different xs ≡ true → all_different ys ≡ true → ((n : Name) → has xs n ≡ has ys n)
    → (in_name_order xs ≡ in_name_order ys) × (length xs ≡ length ys)
same_order xs ys apart apart' same = (order_is, sym (length_in_order xs) ∙ ap (λ (l : List Name). length l) order_is ∙ length_in_order ys)
  where
    counts : (n : Name) → count n (in_name_order xs) ≡ count n (in_name_order ys)
    counts n =
        count_in_order n xs ∙ count_different n xs apart ∙ ap (λ (b : Bool). cond b 1 0) (same n)
        ∙ sym (count_different n ys apart') ∙ sym (count_in_order n ys)

    order_is : in_name_order xs ≡ in_name_order ys
    order_is = same_ascending (in_name_order xs) (in_name_order ys) (ascends_in_order xs) (ascends_in_order ys) counts
