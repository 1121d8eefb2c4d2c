-- Small lemmas on changed functions, lists, actors, places and the world.
use Rattle.std.proofs.Common.{◌≡◌, ℕ, ◌<◌, ◌≤◌, nat_lt, rules, refl, subst, ap, ◌∙◌, inl, inr, zero, suc, arith, Bool, cond, true, false, not, ◌&&◌, ◌||◌, ◌==◌, ◌⊎◌, Option, Some, None}
use Rattle.std.proofs.lemmas.Bool.{eqb-true, eq-eqb}
use Rattle.mark_core.specs.Changes.{set_at, set_in}
use Rattle.mark_core.specs.Machine.{Phase, Idle, Marking, Gathering, Place, Nowhere, InRow, OnStack, UnderScan, InHand, InCollector, Sizes, same_place, count_below}
use Rattle.mark_core.specs.Steps.{is_live, takes}

-- a fact on a function with one value changed holds if it holds of the new value, and elsewhere of the old one
pub at_set : {A : Type 0} (Q : A → Type 0) (f : ℕ → A) (i : ℕ) (v : A) (j : ℕ) → (j ≡ i → Q v) → ((j ≡ i → ⊥) → Q (f j)) → Q (set_at f i v j)
at_set {A} Q f i v j here there = go (j == i) refl
  where
    go : (b : Bool) → (j == i) ≡ b → Q (cond b v (f j))
    go true e = here (eqb-true j i e)
    go false e = there (λ same. let t : (j == i) ≡ true = eq-eqb j i same in absurd cc)

pub set_here : {A : Type 0} (f : ℕ → A) (i : ℕ) (v : A) (j : ℕ) → j ≡ i → set_at f i v j ≡ v
set_here {A} f i v j e = at_set {A = A} (λ x. x ≡ v) f i v j (λ s. refl) (λ n. absurd (n e))

pub set_there : {A : Type 0} (f : ℕ → A) (i : ℕ) (v : A) (j : ℕ) → (j ≡ i → ⊥) → set_at f i v j ≡ f j
set_there {A} f i v j n = at_set {A = A} (λ x. x ≡ f j) f i v j (λ e. absurd (n e)) (λ s. refl)

pub at_set_in : {A : Type 0} (Q : A → Type 0) (f : ℕ → ℕ → A) (i k : ℕ) (v : A) (j l : ℕ) → (j ≡ i → l ≡ k → Q v) → Q (f j l) → Q (set_in f i k v j l)
at_set_in {A} Q f i k v j l here there = go (j == i) refl
  where
    go : (b : Bool) → (j == i) ≡ b → Q ((cond b (set_at (f i) k v) (f j)) l)
    go true e = at_set {A = A} Q (f i) k v l (λ s. here (eqb-true j i e) s) (λ n. subst (λ (x : ℕ). Q (f x l)) (eqb-true j i e) there)
    go false e = there

pub same_or_not : (a b : ℕ) → (a ≡ b) ⊎ (a ≡ b → ⊥)
same_or_not a b = go (a == b) refl
  where
    go : (t : Bool) → (a == b) ≡ t → (a ≡ b) ⊎ (a ≡ b → ⊥)
    go true e = inl (eqb-true a b e)
    go false e = inr (λ same. let t : (a == b) ≡ true = eq-eqb a b same in absurd cc)

pub true_or_false : (b : Bool) → (b ≡ true) ⊎ (b ≡ false)
true_or_false true = inl refl
true_or_false false = inr refl

-- what is not false is true
pub not_false : (b : Bool) → (b ≡ false → ⊥) → b ≡ true
not_false true n = refl
not_false false n = absurd (n refl)

pub not_is_false : (b : Bool) → (b ≡ true → ⊥) → b ≡ false
not_is_false false n = refl
not_is_false true n = absurd (n refl)

-- a unit of the machine, or a number beyond them
pub in_or_beyond : (z : Sizes) (u : ℕ) → (u < z.units) ⊎ (z.units ≤ u)
in_or_beyond z u = go (nat_lt u z.units) refl
  where
    go : (b : Bool) → nat_lt u z.units ≡ b → (u < z.units) ⊎ (z.units ≤ u)
    go true e = inl (search rules)
    go false e = inr (search rules)

pub and_true : (a b : Bool) → (a && b) ≡ true → (a ≡ true) × (b ≡ true)
and_true true true h = (refl, refl)
and_true true false h = absurd cc
and_true false b h = absurd cc

pub and_both : (a b : Bool) → a ≡ true → b ≡ true → (a && b) ≡ true
and_both true true h k = refl
and_both true false h k = absurd cc
and_both false b h k = absurd cc

pub or_either : (a b : Bool) → (a || b) ≡ true → (a ≡ true) ⊎ (b ≡ true)
or_either true b h = inl refl
or_either false b h = inr h

pub or_left : (a b : Bool) → a ≡ true → (a || b) ≡ true
or_left true b h = refl
or_left false b h = absurd cc

pub or_right : (a b : Bool) → b ≡ true → (a || b) ≡ true
or_right true b h = refl
or_right false b h = h

pub not_true : (a : Bool) → not a ≡ true → a ≡ false
not_true true h = absurd cc
not_true false h = refl

pub some_same : {A : Type 0} (x y : A) → Some x ≡ Some y → x ≡ y
some_same {A} x y h = ap (unwrap x) h
  where
    unwrap : A → Option A → A
    unwrap d None = d
    unwrap d (Some a) = a

-- whose test holds is another than whose does not
pub apart : (f : ℕ → Bool) (l k : ℕ) → f l ≡ true → f k ≡ false → k ≡ l → ⊥
apart f l k on off e = let same : f k ≡ f l = ap f e in absurd cc

-- counts

pub count-zero : (f : ℕ → Bool) (n : ℕ) → count_below f n ≡ 0 → (i : ℕ) → i < n → f i ≡ false
unfolding count_below
count-zero f zero e i lt = absurd (omega arith)
count-zero f (suc n) e i lt = go (f n) refl e (count-zero f n)
  where
    go : (b : Bool) → f n ≡ b → cond b (suc (count_below f n)) (count_below f n) ≡ 0 → (count_below f n ≡ 0 → (j : ℕ) → j < n → f j ≡ false) → f i ≡ false
    go true is k next = absurd (omega arith)
    go false is k next = pick (same_or_not i n)
      where
        pick : (i ≡ n) ⊎ (i ≡ n → ⊥) → f i ≡ false
        pick (inl same) = ap f same ∙ is
        pick (inr other) = next k i (omega arith)

pub count-most : (f : ℕ → Bool) (n : ℕ) → count_below f n ≤ n
unfolding count_below
count-most f zero = omega arith
count-most f (suc n) = go (f n) (count-most f n)
  where
    go : (b : Bool) → count_below f n ≤ n → cond b (suc (count_below f n)) (count_below f n) ≤ suc n
    go true h = omega arith
    go false h = omega arith

-- a change at or above n is not seen
pub count-above : (f : ℕ → Bool) (i : ℕ) (v : Bool) (n : ℕ) → n ≤ i → count_below (set_at f i v) n ≡ count_below f n
unfolding count_below
count-above f i v zero le = refl
count-above f i v (suc n) le = go (set_at f i v n) (f n) (set_there f i v n (λ e. absurd (omega arith))) (count-above f i v n (omega arith))
  where
    go : (a b : Bool) → a ≡ b → count_below (set_at f i v) n ≡ count_below f n
        → cond a (suc (count_below (set_at f i v) n)) (count_below (set_at f i v) n) ≡ cond b (suc (count_below f n)) (count_below f n)
    go true true e h = ap (λ x. suc x) h
    go false false e h = h
    go true false e h = absurd cc
    go false true e h = absurd cc

-- one more is counted
pub count-more : (f : ℕ → Bool) (i n : ℕ) → i < n → f i ≡ false → count_below (set_at f i true) n ≡ suc (count_below f n)
unfolding count_below
count-more f i zero lt off = absurd (omega arith)
count-more f i (suc n) lt off = pick (same_or_not n i) (count-more f i n)
  where
    here : (a b : Bool) → a ≡ true → b ≡ false → count_below (set_at f i true) n ≡ count_below f n
        → cond a (suc (count_below (set_at f i true) n)) (count_below (set_at f i true) n) ≡ suc (cond b (suc (count_below f n)) (count_below f n))
    here true false e g h = ap (λ x. suc x) h
    here true true e g h = absurd cc
    here false b e g h = absurd cc

    there : (a b : Bool) → a ≡ b → count_below (set_at f i true) n ≡ suc (count_below f n)
        → cond a (suc (count_below (set_at f i true) n)) (count_below (set_at f i true) n) ≡ suc (cond b (suc (count_below f n)) (count_below f n))
    there true true e h = ap (λ x. suc x) h
    there false false e h = h
    there true false e h = absurd cc
    there false true e h = absurd cc

    pick : (n ≡ i) ⊎ (n ≡ i → ⊥) → (i < n → f i ≡ false → count_below (set_at f i true) n ≡ suc (count_below f n)) → count_below (set_at f i true) (suc n) ≡ suc (count_below f (suc n))
    pick (inl e) next = here (set_at f i true n) (f n) (set_here f i true n e) (ap f e ∙ off) (count-above f i true n (omega arith))
    pick (inr o) next = there (set_at f i true n) (f n) (set_there f i true n o) (next (omega arith) off)

-- one less
pub count-less : (f : ℕ → Bool) (i n : ℕ) → i < n → f i ≡ true → suc (count_below (set_at f i false) n) ≡ count_below f n
unfolding count_below
count-less f i zero lt on = absurd (omega arith)
count-less f i (suc n) lt on = pick (same_or_not n i) (count-less f i n)
  where
    here : (a b : Bool) → a ≡ false → b ≡ true → count_below (set_at f i false) n ≡ count_below f n
        → suc (cond a (suc (count_below (set_at f i false) n)) (count_below (set_at f i false) n)) ≡ cond b (suc (count_below f n)) (count_below f n)
    here false true e g h = ap (λ x. suc x) h
    here false false e g h = absurd cc
    here true b e g h = absurd cc

    there : (a b : Bool) → a ≡ b → suc (count_below (set_at f i false) n) ≡ count_below f n
        → suc (cond a (suc (count_below (set_at f i false) n)) (count_below (set_at f i false) n)) ≡ cond b (suc (count_below f n)) (count_below f n)
    there true true e h = ap (λ x. suc x) h
    there false false e h = h
    there true false e h = absurd cc
    there false true e h = absurd cc

    pick : (n ≡ i) ⊎ (n ≡ i → ⊥) → (i < n → f i ≡ true → suc (count_below (set_at f i false) n) ≡ count_below f n) → suc (count_below (set_at f i false) (suc n)) ≡ count_below f (suc n)
    pick (inl e) next = here (set_at f i false n) (f n) (set_here f i false n e) (ap f e ∙ on) (count-above f i false n (omega arith))
    pick (inr o) next = there (set_at f i false n) (f n) (set_there f i false n o) (next (omega arith) on)

-- places

pub same_place_true : (p q : Place) → same_place p q ≡ true → p ≡ q
same_place_true Nowhere Nowhere h = refl
same_place_true (InRow a) (InRow b) h = ap InRow (eqb-true a b h)
same_place_true (OnStack a) (OnStack b) h = ap OnStack (eqb-true a b h)
same_place_true (UnderScan a) (UnderScan b) h = ap UnderScan (eqb-true a b h)
same_place_true (InHand a) (InHand b) h = ap InHand (eqb-true a b h)
same_place_true InCollector InCollector h = refl
same_place_true p q h = absurd cc

-- a fact on where a unit stands after a marker took a word
pub at_takes : (Q : Place → Type 0) (m row word : ℕ) (place : ℕ → Place) (v : ℕ) → (place v ≡ InRow row → Q (OnStack m)) → Q (place v) → Q (takes m row word place v)
at_takes Q m row word place v taken kept = go (same_place (place v) (InRow row)) refl _
  where
    go : (s : Bool) → same_place (place v) (InRow row) ≡ s → (t : Bool) → Q (cond (s && t) (OnStack m) (place v))
    go true e true = taken (same_place_true (place v) (InRow row) e)
    go true e false = kept
    go false e t = kept

-- the world

pub live_alive : (p : Phase) (d m : ℕ → Bool) (u : ℕ) → is_live p d m u ≡ true → d u ≡ false
live_alive Marking d m u h = not_true (d u) h
live_alive Idle d m u h = not_true (d u) ((and_true (not (d u)) (m u) h).0)
live_alive Gathering d m u h = not_true (d u) ((and_true (not (d u)) (m u) h).0)

alive_not : (b : Bool) → b ≡ false → not b ≡ true
alive_not true h = absurd cc
alive_not false h = refl

-- in a marking each unit that is not doomed is in the world
pub live_marking : (p : Phase) (d m : ℕ → Bool) (u : ℕ) → p ≡ Marking → d u ≡ false → is_live p d m u ≡ true
live_marking Marking d m u e h = alive_not (d u) h
live_marking Idle d m u e h = absurd cc
live_marking Gathering d m u e h = absurd cc

-- a marked unit that is not doomed is in the world
pub live_marked : (p : Phase) (d m : ℕ → Bool) (u : ℕ) → d u ≡ false → m u ≡ true → is_live p d m u ≡ true
live_marked Marking d m u h k = alive_not (d u) h
live_marked Idle d m u h k = and_both (not (d u)) (m u) (alive_not (d u) h) k
live_marked Gathering d m u h k = and_both (not (d u)) (m u) (alive_not (d u) h) k

pub live_is_marked : (p : Phase) (d m : ℕ → Bool) (u : ℕ) → (p ≡ Marking → ⊥) → is_live p d m u ≡ true → m u ≡ true
live_is_marked Marking d m u n h = absurd (n refl)
live_is_marked Idle d m u n h = (and_true (not (d u)) (m u) h).1
live_is_marked Gathering d m u n h = (and_true (not (d u)) (m u) h).1

-- with more units marked
abbrev pub Grows : (ℕ → Bool) → (ℕ → Bool) → Type 0
Grows m n = (u : ℕ) → m u ≡ true → n u ≡ true

pub grows_one : (m : ℕ → Bool) (u : ℕ) → Grows m (set_at m u true)
grows_one m u v h = at_set (λ b. b ≡ true) m u true v (λ e. refl) (λ n. h)

pub live_grows : (p : Phase) (d m n : ℕ → Bool) → Grows m n → (u : ℕ) → is_live p d m u ≡ true → is_live p d n u ≡ true
live_grows Marking d m n grows u h = h
live_grows Idle d m n grows u h = let parts = and_true (not (d u)) (m u) h in and_both (not (d u)) (n u) parts.0 (grows u parts.1)
live_grows Gathering d m n grows u h = let parts = and_true (not (d u)) (m u) h in and_both (not (d u)) (n u) parts.0 (grows u parts.1)
