-- Numbers come into a set and go.
use Rattle.std.proofs.Common.{◌≡◌, ℕ, ◌+◌, ◌<◌, ◌≤◌, ◌^◌, ◌==◌, ◌-◌, refl, sym, subst, ap, ◌∙◌, inl, inr, zero, suc, arith, Bool, cond, true, false, not, IsTrue, ◌↔◌, nat_eq, rules, List, [], ◌∷◌, ◌⊎◌, length, map, replicate}
use mathlib.Core.Bool.{beq}
use Rattle.std.proofs.Math.Path.{fun_ext}
use Rattle.std.proofs.Math.ListN.{get_or, set, length-set}
use Rattle.std.proofs.lemmas.Bool.{eq-eqb}
use Rattle.std.proofs.lemmas.List.{map-set, length-map, get_or-set_other, length-replicate}
use Rattle.std.proofs.lemmas.Grind.{get_or-set_at}
use Rattle.mark_core.specs.Changes.{set_at}
use Rattle.mark_core.specs.Machine.{count_below}
use Rattle.mark_core.specs.Steps.{none_set}
use Rattle.mark_core.specs.Sets.{members, count_in, AreStamps}
use Rattle.mark_core.proofs.Collects.{none_set_is}
use Rattle.mark_core.proofs.Tools.{same_or_not, set_here, set_there, count-more, count-less, count-most, not_is_false}

-- one write to the list is one write to the function that it is read as
pub list-set : {A : Type 0} (d : A) (xs : List A) (i : ℕ) (v : A) → i < length xs → (λ (n : ℕ). get_or (set xs i v) n d) ≡ set_at (λ (n : ℕ). get_or xs n d) i v
list-set {A} d xs i v lt = fun_ext (λ n. at n (same_or_not n i))
  where
    at : (n : ℕ) → (n ≡ i) ⊎ (n ≡ i → ⊥) → get_or (set xs i v) n d ≡ set_at (λ (k : ℕ). get_or xs k d) i v n
    at n (inl e) = get_or-set_at xs i n v d e lt ∙ sym (set_here (λ (k : ℕ). get_or xs k d) i v n e)
    at n (inr o) = get_or-set_other xs i n v d o ∙ sym (set_there (λ (k : ℕ). get_or xs k d) i v n o)

-- what stands there is written again
pub set_again : {A : Type 0} (d : A) (xs : List A) (i : ℕ) (v : A) → get_or xs i d ≡ v → set xs i v ≡ xs
set_again {A} d [] i v e = refl
set_again {A} d (x ∷ xs) zero v e = ap (λ (y : A). y ∷ xs) (sym e)
set_again {A} d (x ∷ xs) (suc i) v e = ap (λ (ys : List A). x ∷ ys) (set_again d xs i v e)

in_range : (n : ℕ) (stamps : List ℕ) (i : ℕ) → i < length stamps → i < length (members n stamps)
in_range n stamps i lt = let same = length-map stamps (λ s. s == n) in omega arith

stamp_set : (n : ℕ) (stamps : List ℕ) (i v : ℕ) (b : Bool) → (v == n) ≡ b → members n (set stamps i v) ≡ set (members n stamps) i b
stamp_set n stamps i v b e = map-set (λ s. s == n) stamps i v ∙ ap (λ (x : Bool). set (members n stamps) i x) e

zero_not : (m : ℕ) → 0 < m → (0 == m) ≡ false
zero_not zero lt = absurd (omega arith)
zero_not (suc m) lt = grind arith

pub same_stamp : (n : ℕ) (stamps : List ℕ) (i : ℕ) → members n (set stamps i n) ≡ set (members n stamps) i true
same_stamp n stamps i = stamp_set n stamps i n true (eq-eqb n n refl)

pub old_stamp : (n : ℕ) (stamps : List ℕ) (i : ℕ) → 0 < n → members n (set stamps i 0) ≡ set (members n stamps) i false
old_stamp n stamps i lt = stamp_set n stamps i 0 false (zero_not n lt)

count_set : (bits : List Bool) (i : ℕ) (b : Bool) → i < length bits → count_in (set bits i b) ≡ count_below (set_at (λ k. get_or bits k false) i b) (length bits)
count_set bits i b lt = ap (λ (n : ℕ). count_below (λ k. get_or (set bits i b) k false) n) (length-set bits i b) ∙ ap (λ (f : ℕ → Bool). count_below f (length bits)) (list-set false bits i b lt)

past_set : (n : ℕ) (stamps : List ℕ) (i v : ℕ) → i < length stamps → v ≤ n → ((k : ℕ) → get_or stamps k 0 ≤ n) → (k : ℕ) → get_or (set stamps i v) k 0 ≤ n
past_set n stamps i v lt le past k = pick (same_or_not k i)
  where
    pick : (k ≡ i) ⊎ (k ≡ i → ⊥) → get_or (set stamps i v) k 0 ≤ n
    pick (inl e) = subst (λ (x : ℕ). x ≤ n) (sym (get_or-set_at stamps i k v 0 e lt)) le
    pick (inr o) = subst (λ (x : ℕ). x ≤ n) (sym (get_or-set_other stamps i k v 0 o)) (past k)

-- a number comes into the set
pub put_in : (n count : ℕ) (stamps : List ℕ) (i : ℕ) → i < length stamps → get_or (members n stamps) i false ≡ false → AreStamps n count stamps → AreStamps n (count + 1) (set stamps i n)
put_in n count stamps i lt out h =
    let bits = same_stamp n stamps i in
    let lt_bits = in_range n stamps i lt in
    let more = count_set (members n stamps) i true lt_bits ∙ count-more (λ k. get_or (members n stamps) k false) i (length (members n stamps)) lt_bits out in
    let one : suc (count_in (members n stamps)) ≡ count + 1 = let was = h.counted in omega arith in
    record {
      few = let same = length-set stamps i n in let was = h.few in omega arith;
      positive = h.positive;
      past = past_set n stamps i n lt (omega arith) h.past;
      counted = ap count_in bits ∙ (more ∙ one);
    }

-- a number goes
pub take_out : (n count : ℕ) (stamps : List ℕ) (i : ℕ) → i < length stamps → get_or (members n stamps) i false ≡ true → AreStamps n count stamps → AreStamps n (count - 1) (set stamps i 0)
take_out n count stamps i lt on h =
    let bits = old_stamp n stamps i h.positive in
    let lt_bits = in_range n stamps i lt in
    let less = count-less (λ k. get_or (members n stamps) k false) i (length (members n stamps)) lt_bits on in
    let same = count_set (members n stamps) i false lt_bits in
    record {
      few = let same = length-set stamps i 0 in let was = h.few in omega arith;
      positive = h.positive;
      past = past_set n stamps i 0 lt (omega arith) h.past;
      counted = ap count_in bits ∙ (same ∙ (let was = h.counted in omega arith));
    }

-- a set with a number in it has one at least, and one with a number out of it not all
pub some_in : (bits : List Bool) (i : ℕ) → get_or bits i false ≡ true → i < length bits → 0 < count_in bits
some_in bits i on lt = let less = count-less (λ k. get_or bits k false) i (length bits) lt on in omega arith

pub room_in : (bits : List Bool) (i : ℕ) → get_or bits i false ≡ false → i < length bits → count_in bits + 1 ≤ length bits
room_in bits i out lt =
    let more = count-more (λ k. get_or bits k false) i (length bits) lt out in
    let most = count-most (set_at (λ k. get_or bits k false) i true) (length bits) in
    omega arith

-- no stamp of the past is the next one
pub none_now : (n : ℕ) (stamps : List ℕ) → ((i : ℕ) → get_or stamps i 0 ≤ n) → members (n + 1) stamps ≡ map (λ b. false) (members n stamps)
none_now n [] past = refl
none_now n (x ∷ xs) past =
    let head : (x == n + 1) ≡ false = other x (past 0) in
    ap (λ (b : Bool). b ∷ members (n + 1) xs) head ∙ ap (λ (bs : List Bool). false ∷ bs) (none_now n xs (λ i. past (suc i)))
  where
    other : (y : ℕ) → y ≤ n → (y == n + 1) ≡ false
    other y le = grind arith

count_none : (bits : List Bool) (n : ℕ) → count_below (λ k. get_or (map (λ (b : Bool). false) bits) k false) n ≡ 0
unfolding count_below
count_none bits zero = refl
count_none bits (suc n) = go (get_or (map (λ (b : Bool). false) bits) n false) (off bits n) (count_none bits n)
  where
    off : (bs : List Bool) (k : ℕ) → get_or (map (λ (b : Bool). false) bs) k false ≡ false
    off [] k = refl
    off (x ∷ xs) zero = refl
    off (x ∷ xs) (suc k) = off xs k

    go : (b : Bool) → b ≡ false → count_below (λ k. get_or (map (λ (x : Bool). false) bits) k false) n ≡ 0
        → cond b (suc (count_below (λ k. get_or (map (λ (x : Bool). false) bits) k false) n))
        (count_below (λ k. get_or (map (λ (x : Bool). false) bits) k false) n) ≡ 0
    go true e h = absurd cc
    go false e h = h

-- all numbers go
pub all_out : (n count : ℕ) (stamps : List ℕ) → AreStamps n count stamps → AreStamps (n + 1) 0 stamps
all_out n count stamps h = record {
  few = h.few;
  positive = omega arith;
  past = λ i. let le = h.past i in omega arith;
  counted = ap count_in (none_now n stamps h.past) ∙ count_none (members n stamps) (length (map (λ (b : Bool). false) (members n stamps)));
}

pub none_set-count : (f : ℕ → Bool) (n : ℕ) → count_below f n ≡ 0 → none_set f n ≡ true
unfolding none_set count_below
none_set-count f zero e = refl
none_set-count f (suc n) e = go (f n) e (none_set-count f n)
  where
    go : (b : Bool) → cond b (suc (count_below f n)) (count_below f n) ≡ 0 → (count_below f n ≡ 0 → none_set f n ≡ true) → cond b false (none_set f n) ≡ true
    go true e next = absurd (omega arith)
    go false e next = next e

pub count-none_set : (f : ℕ → Bool) (n : ℕ) → none_set f n ≡ true → count_below f n ≡ 0
unfolding none_set count_below
count-none_set f zero e = refl
count-none_set f (suc n) e = go (f n) e (count-none_set f n)
  where
    go : (b : Bool) → cond b false (none_set f n) ≡ true → (none_set f n ≡ true → count_below f n ≡ 0) → cond b (suc (count_below f n)) (count_below f n) ≡ 0
    go true e next = absurd cc
    go false e next = next e

-- stamps that are all zero
pub zeroed : (n count : ℕ) (old stamps : List ℕ) → length stamps ≡ length old → ((i : ℕ) → get_or stamps i 0 ≡ 0) → AreStamps n count old → AreStamps 1 0 stamps
zeroed n count old stamps same zero_is h = record {
  few = let was = h.few in omega arith;
  positive = omega arith;
  past = λ i. let e = zero_is i in omega arith;
  counted = ap count_in (none_now 0 stamps (λ i. let e = zero_is i in omega arith)) ∙ count_none (members 0 stamps) (length (map (λ (b : Bool). false) (members 0 stamps)));
}

none_same : (n m : ℕ) (xs ys : List ℕ) → length xs ≡ length ys → map (λ (b : Bool). false) (members n xs) ≡ map (λ (b : Bool). false) (members m ys)
none_same n m [] [] e = refl
none_same n m [] (y ∷ ys) e = absurd (omega arith)
none_same n m (x ∷ xs) [] e = absurd (omega arith)
none_same n m (x ∷ xs) (y ∷ ys) e = ap (λ (bs : List Bool). false ∷ bs) (none_same n m xs ys (omega arith))

pub zeroed_view : (n : ℕ) (old stamps : List ℕ) → length stamps ≡ length old → ((i : ℕ) → get_or stamps i 0 ≡ 0) → members 1 stamps ≡ map (λ (b : Bool). false) (members n old)
zeroed_view n old stamps same zero_is = none_now 0 stamps (λ i. let e = zero_is i in omega arith) ∙ none_same 0 n stamps old same

zeros : (n i : ℕ) → let none : ℕ = 0 in get_or (replicate n none) i none ≡ none
zeros zero i = refl
zeros (suc n) zero = refl
zeros (suc n) (suc i) = zeros n i

pub new_set : (n : ℕ) → n < 2 ^ 32 → AreStamps 1 0 (replicate n 0)
new_set n few = let none : ℕ = 0 in record {
  few = subst (λ (x : ℕ). x < 2 ^ 32) (sym (length-replicate n none)) few;
  positive = omega arith;
  past = λ i. let e = zeros n i in omega arith;
  counted = ap count_in (none_now 0 (replicate n 0) (λ i. let e = zeros n i in omega arith)) ∙ count_none (members 0 (replicate n 0)) (length (map (λ (b : Bool). false) (members 0 (replicate n 0))));
}

pub new_view : (n : ℕ) → members 1 (replicate n 0) ≡ replicate n false
new_view zero = refl
new_view (suc n) = ap (λ (bs : List Bool). false ∷ bs) (new_view n)

-- a test that differs
pub differs : (a b : Bool) → beq a b ≡ false → a ≡ not b
differs true true e = absurd cc
differs true false e = refl
differs false true e = refl
differs false false e = absurd cc

pub agrees : (a b : Bool) → beq a b ≡ true → a ≡ b
agrees true true e = refl
agrees true false e = absurd cc
agrees false true e = absurd cc
agrees false false e = refl

-- whether a count is 0 says whether the set is empty
pub none_tells : (f : ℕ → Bool) (bits : List Bool) (n k : ℕ) → length bits ≡ n → ((u : ℕ) → get_or bits u false ≡ f u) → k ≡ count_in bits → IsTrue (nat_eq k 0) ↔ none_set f n ≡ true
none_tells f bits n k len same is =
    let as_one : (λ (u : ℕ). get_or bits u false) ≡ f = fun_ext same in
    let counts : k ≡ count_below f n = is ∙ (ap (λ (g : ℕ → Bool). count_below g (length bits)) as_one ∙ ap (count_below f) len) in
    (λ t. none_set-count f n (sym counts ∙ is_zero t), λ none. zero_is (counts ∙ count-none_set f n none))
  where
    is_zero : IsTrue (nat_eq k 0) → k ≡ 0
    is_zero t = search rules

    zero_is : k ≡ 0 → IsTrue (nat_eq k 0)
    zero_is e = search rules

none_set-suc : (f : ℕ → Bool) (k : ℕ) → none_set f (suc k) ≡ cond (f k) false (none_set f k)
unfolding none_set
none_set-suc f k = refl

pub none_set-more : (f : ℕ → Bool) (n : ℕ) → none_set f n ≡ true → f n ≡ false → none_set f (n + 1) ≡ true
none_set-more f n h off = ap (none_set f) (let e : n + 1 ≡ suc n = omega arith in e) ∙ at f n h off
  where
    pick : (b c : Bool) → b ≡ false → c ≡ true → cond b false c ≡ true
    pick true c e h = absurd cc
    pick false c e h = h

    at : (g : ℕ → Bool) (k : ℕ) → none_set g k ≡ true → g k ≡ false → none_set g (suc k) ≡ true
    at g k h off = none_set-suc g k ∙ pick (g k) (none_set g k) off h

-- one that passes
pub some_set : (f : ℕ → Bool) (n i : ℕ) → i < n → f i ≡ true → none_set f n ≡ false
some_set f n i lt on = not_is_false (none_set f n) (λ none. absurd (let off = none_set_is f n none i lt in cc))
