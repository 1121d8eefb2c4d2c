-- Places of a list that are written, one after the other.
use Rattle.std.proofs.Common.{◌≡◌, ◌≢◌, ℕ, ◌+◌, ◌<◌, ◌≤◌, ◌⊎◌, inl, inr, ◌-◌, ◌*◌, zero, suc, suc-mul, List, [], ◌∷◌, length, get_or, drop, refl, sym, ap, ◌∙◌, subst, arith}
use Rattle.std.proofs.Math.ListN.{set}
use Rattle.std.proofs.Math.Seq.{drop-nil}
use Rattle.std.proofs.Math.Logic.{dite}
use Rattle.std.proofs.Math.Decide.{ℕ_discrete, dec_le}
use Rattle.std.proofs.Math.Nat.{lt_of_not-le, mul-le-mul_right}
use Rattle.std.proofs.lemmas.List.{length-set, get_or-set_same, get_or-set_other}
use Rattle.heap_plain.specs.Filling.{Filled, FilledAt, RowsFilled}
use Rattle.heap_plain.specs.Parts.{Lists}

-- nothing is written yet
pub Filled-none : {A : Type 0} (xs : List A) (from : ℕ) (f : ℕ → A) → Filled xs xs from 0 f
Filled-none xs from f = record { len = refl; inside = λ k d below. absurd (omega arith); outside = λ i d h. refl }

-- one more place is written
pub Filled-more : {A : Type 0} (old new : List A) (from k at : ℕ) (f : ℕ → A) (v : A) → Filled old new from k f → at ≡ from + k
    → from + k < length old → v ≡ f k → Filled old (set new at v) from (k + 1) f
Filled-more old new from k at f v was here below same = record {
  len = length-set new at v ∙ was.len;
  inside = λ j d less. dite (ℕ_discrete j k)
      (λ (e : j ≡ k). subst (λ i. get_or (set new at v) i d ≡ f j) (here ∙ ap (λ i. from + i) (sym e)) (get_or-set_same new at v d (omega (arith, was.len)) ∙ same ∙ ap f (sym e)))
      (λ (ne : j ≢ k). get_or-set_other new at (from + j) v d (λ e. ne (omega arith)) ∙ was.inside j d (omega arith));
  outside = λ i d h. get_or-set_other new at i v d (apart i h) ∙ was.outside i d (less i h);
}
  where
    apart : (i : ℕ) → (i < from) ⊎ (from + (k + 1) ≤ i) → i ≢ at
    apart i (inl h) = λ e. absurd (omega arith)
    apart i (inr h) = λ e. absurd (omega arith)

    less : (i : ℕ) → (i < from) ⊎ (from + (k + 1) ≤ i) → (i < from) ⊎ (from + k ≤ i)
    less i (inl h) = inl h
    less i (inr h) = inr (omega arith)

-- places from the start on
pub from_start : {A : Type 0} {old new : List A} {count : ℕ} {f : ℕ → A} → Filled old new 0 count f → (k : ℕ) (d : A) → k < count → get_or new k d ≡ f k
from_start {new} {f} h k d below = let none : 0 + k ≡ k = omega arith in subst (λ (i : ℕ). get_or new i d ≡ f k) none (h.inside k d below)

-- the same for places that are different
pub FilledAt-none : {A : Type 0} (xs : List A) (at : ℕ → ℕ) (f : ℕ → A) → FilledAt xs xs at 0 f
FilledAt-none xs at f = record { len = refl; inside = λ k d below. absurd (omega arith); outside = λ i d h. refl }

pub FilledAt-more : {A : Type 0} (old new : List A) (at : ℕ → ℕ) (k here : ℕ) (f : ℕ → A) (v : A) → FilledAt old new at k f → here ≡ at k
    → at k < length old → ((j : ℕ) → j < k → at j ≢ at k) → v ≡ f k → FilledAt old (set new here v) at (k + 1) f
FilledAt-more old new at k here f v was is below once same = record {
  len = length-set new here v ∙ was.len;
  inside = λ j d less. dite (ℕ_discrete j k)
      (λ (e : j ≡ k). subst (λ i. get_or (set new here v) i d ≡ f j) (is ∙ ap at (sym e)) (get_or-set_same new here v d (omega (arith, was.len)) ∙ same ∙ ap f (sym e)))
      (λ (ne : j ≢ k). let low : j < k = omega arith in get_or-set_other new here (at j) v d (λ e. once j low (e ∙ is)) ∙ was.inside j d low);
  outside = λ i d h. get_or-set_other new here i v d (λ e. h k (omega arith) (sym is ∙ sym e)) ∙ was.outside i d (λ j low. h j (omega arith));
}

-- ---- rows

-- a place of one row is before another row, or behind it
pub rows_apart : (slots i r slot : ℕ) → i ≢ r → slot < slots → (i * slots + slot < r * slots) ⊎ (r * slots + slots ≤ i * slots + slot)
rows_apart slots i r slot ne below = dite (dec_le r i)
    (λ (le : r ≤ i). inr (let more : suc r ≤ i = omega arith in omega (arith, mul-le-mul_right slots more, suc-mul r slots)))
    (λ (le : ¬ (r ≤ i)). inl (let less = lt_of_not-le le in let more : suc i ≤ r = omega arith in omega (arith, mul-le-mul_right slots more, suc-mul i slots)))

-- a place has one row
pub same_row : (slots i r s slot : ℕ) → s < slots → slot < slots → i * slots + s ≡ r * slots + slot → i ≡ r
same_row slots i r s slot low high e = dite (ℕ_discrete i r) (λ (same : i ≡ r). same) (λ (ne : i ≢ r). absurd (go (rows_apart slots i r s ne low)))
  where
    go : (i * slots + s < r * slots) ⊎ (r * slots + slots ≤ i * slots + s) → ⊥
    go (inl h) = omega arith
    go (inr h) = omega arith

-- a row ends within the rows
pub row_end : (slots i n : ℕ) → i < n → i * slots + slots ≤ n * slots
row_end slots i n h = let more : suc i ≤ n = omega arith in omega (arith, mul-le-mul_right slots more, suc-mul i slots)

-- the places of the first rows
pub row_below : (slots i n slot : ℕ) → i < n → slot < slots → i * slots + slot < n * slots
row_below slots i n slot h below = let more : suc i ≤ n = omega arith in omega (arith, mul-le-mul_right slots more, suc-mul i slots)

-- one more row is filled
pub RowsFilled-more : {A : Type 0} (old mid new : List A) (at : ℕ → ℕ) (k here slots : ℕ) (v : A) → RowsFilled old mid at k slots v → here ≡ at k
    → Filled mid new (here * slots) slots (λ j. v) → RowsFilled old new at (k + 1) slots v
RowsFilled-more {A} old mid new at k here slots v was is row = record {
  len = row.len ∙ was.len;
  inside = λ j slot d less below. dite (ℕ_discrete (at j) here)
      (λ (e : at j ≡ here). ap (λ (r : ℕ). get_or new (r * slots + slot) d) e ∙ row.inside slot d below)
      (λ (ne : at j ≢ here). row.outside (at j * slots + slot) d (rows_apart slots (at j) here slot ne below) ∙ was.inside j slot d (before j less ne) below);
  outside =
      λ i slot d below h.
      row.outside (i * slots + slot) d (rows_apart slots i here slot (λ e. h k (omega arith) (sym is ∙ sym e)) below)
      ∙ was.outside i slot d below (λ j low. h j (omega arith));
}
  where
    before : (j : ℕ) → j < k + 1 → at j ≢ here → j < k
    before j less ne = dite (ℕ_discrete j k) (λ (e : j ≡ k). absurd (ne (ap at e ∙ sym is))) (λ (no : j ≢ k). omega arith)

-- a write at i, where the function changes at i alone
pub Lists-set : {A : Type 0} (xs : List A) (n i : ℕ) (v : A) (f g : ℕ → A) → Lists xs n f → i < n → g i ≡ v → ((k : ℕ) → k ≢ i → g k ≡ f k) → Lists (set xs i v) n g
Lists-set xs n i v f g was h here else = record {
  len = length-set xs i v ∙ was.len;
  each = λ k d below. dite (ℕ_discrete k i)
      (λ (e : k ≡ i). subst (λ j. get_or (set xs i v) j d ≡ g j) (sym e) (get_or-set_same xs i v d (subst (λ m. i < m) (sym was.len) h) ∙ sym here))
      (λ (ne : k ≢ i). get_or-set_other xs i k v d ne ∙ was.each k d below ∙ sym (else k ne));
}

-- the function changes nowhere
pub Lists-same : {A : Type 0} (xs : List A) (n : ℕ) (f g : ℕ → A) → Lists xs n f → ((k : ℕ) → g k ≡ f k) → Lists xs n g
Lists-same xs n f g was same = record { len = was.len; each = λ k d below. was.each k d below ∙ sym (same k) }

-- drops in a row
pub drop_more : {A : Type 0} (n m : ℕ) (xs : List A) → drop (n + m) xs ≡ drop m (drop n xs)
drop_more zero m xs = let e : 0 + m ≡ m = omega arith in rw e refl
drop_more (suc n) m [] = drop-nil (suc n + m) ∙ sym (drop-nil m)
drop_more (suc n) m (x ∷ xs) = let e : suc n + m ≡ suc (n + m) = omega arith in rw e (drop_more n m xs)

-- what is the same behind n is the same behind more
pub drop_same : {A : Type 0} (n m : ℕ) (xs ys : List A) → n ≤ m → drop n xs ≡ drop n ys → drop m xs ≡ drop m ys
drop_same n m xs ys le e =
    let sum : n + (m - n) ≡ m = omega arith in
    subst (λ (k : ℕ). drop k xs ≡ drop k ys) sum (drop_more n (m - n) xs ∙ ap (λ (zs : List _). drop (m - n) zs) e ∙ sym (drop_more n (m - n) ys))
