-- The words of a heap at its start.
use Rattle.std.proofs.Common.{◌≡◌, ◌≢◌, ℕ, zero, suc, ◌+◌, ◌*◌, ◌<◌, ◌≤◌, eqb, cond, refl, sym, ap, ◌∙◌, subst, Bool, true, false, List, length, get_or, set, replicate, arith, Some}
use lib.ListN.{length-replicate, get_or-replicate}
use Rattle.std.specs.Prelude.{nat_lt}
use Rattle.std.proofs.lemmas.Bool.{eqb-true, eq-eqb, lt-ltb, ltb-true}
use Rattle.world_model.specs.Sizes.{Sizes, item_count}
use Rattle.word_layout.specs.Places.{IsPart, place, word_count}
use Rattle.word_layout.proofs.Apart.{places_fit}
use Rattle.heap_rule.specs.Types.{Part}
use Rattle.heap_rule.specs.Types.part
use Rattle.heap_rule.specs.Memory.{Memory, Shows, write}
use Rattle.heap_rule.specs.Items.{first_item}
use Rattle.heap_rule.specs.Start.{first_memory, linked_below, stocked_below, lane_items, items_from}
use Rattle.heap_rule.proofs.Placing.{shows_set}

pub shows_as : (z : Sizes) (words : List ℕ) (m n : Memory) → ((p : Part) → IsPart z p → m p ≡ n p) → Shows z words m → Shows z words n
shows_as z words m n same h = record { count = h.count; each = λ p inside. h.each p inside ∙ same p inside }

-- one number more
below_suc : (i n a : ℕ) → eqb i n ≡ false → cond (nat_lt i n) a 0 ≡ cond (nat_lt i (suc n)) a 0
below_suc i n a off = go (nat_lt i n) refl (nat_lt i (suc n)) refl
  where
    apart : i ≢ n
    apart same = let wrong : false ≡ true = sym off ∙ eq-eqb i n same in absurd cc

    go : (b : Bool) → nat_lt i n ≡ b → (d : Bool) → nat_lt i (suc n) ≡ d → cond b a 0 ≡ cond d a 0
    go true x true y = refl
    go false x false y = refl
    go true x false y = let low = ltb-true i n x in let wrong : false ≡ true = sym y ∙ lt-ltb i (suc n) (omega (arith, low)) in absurd cc
    go false x true y = let low = ltb-true i (suc n) y in let wrong : false ≡ true = sym x ∙ lt-ltb i n (omega (arith, low, apart)) in absurd cc

below_here : (i n a : ℕ) → eqb i n ≡ true → a ≡ cond (nat_lt i (suc n)) a 0
below_here i n a on = let same = eqb-true i n on in let low : nat_lt i (suc n) ≡ true = lt-ltb i (suc n) (omega (arith, same)) in rw low refl

pub link_more : (z : Sizes) (words : List ℕ) (n x : ℕ) → n < item_count z → x ≡ first_memory z (part.Next n) → Shows z words (linked_below z n)
    → Shows z (set words (place z (part.Next n)) x) (linked_below z (suc n))
link_more z words n x inside is h =
    shows_as z (set words (place z (part.Next n)) x) (write (linked_below z n) (part.Next n) x) (linked_below z (suc n)) same (shows_set z words (linked_below z n) (part.Next n) x inside h)
  where
    at : (i : ℕ) (b : Bool) → eqb i n ≡ b → cond b x (cond (nat_lt i n) (first_memory z (part.Next i)) 0) ≡ cond (nat_lt i (suc n)) (first_memory z (part.Next i)) 0
    at i true e = is ∙ (ap (λ (j : ℕ). first_memory z (part.Next j)) (sym (eqb-true i n e)) ∙ below_here i n (first_memory z (part.Next i)) e)
    at i false e = below_suc i n (first_memory z (part.Next i)) e

    same : (p : Part) → IsPart z p → write (linked_below z n) (part.Next n) x p ≡ linked_below z (suc n) p
    same (part.Next i) within = at i (eqb i n) refl
    same _ within = refl

pub stock_more : (z : Sizes) (words : List ℕ) (n x : ℕ) → n < z.lanes → x ≡ first_memory z (part.FreeStock n) → Shows z words (stocked_below z n)
    → Shows z (set words (place z (part.FreeStock n)) x) (stocked_below z (suc n))
stock_more z words n x inside is h =
    shows_as z (set words (place z (part.FreeStock n)) x) (write (stocked_below z n) (part.FreeStock n) x) (stocked_below z (suc n)) same
    (shows_set z words (stocked_below z n) (part.FreeStock n) x inside h)
  where
    at : (i : ℕ) (b : Bool) → eqb i n ≡ b → cond b x (cond (nat_lt i n) (first_memory z (part.FreeStock i)) 0) ≡ cond (nat_lt i (suc n)) (first_memory z (part.FreeStock i)) 0
    at i true e = is ∙ (ap (λ (j : ℕ). first_memory z (part.FreeStock j)) (sym (eqb-true i n e)) ∙ below_here i n (first_memory z (part.FreeStock i)) e)
    at i false e = below_suc i n (first_memory z (part.FreeStock i)) e

    same : (p : Part) → IsPart z p → write (stocked_below z n) (part.FreeStock n) x p ≡ stocked_below z (suc n) p
    same (part.FreeStock l) within = at l (eqb l n) refl
    same _ within = refl

pub none_linked : (z : Sizes) (words : List ℕ) → words ≡ replicate (word_count z) 0 → Shows z words (linked_below z 0)
none_linked z words zeros = record {
  count = ap length zeros ∙ length-replicate (word_count z) 0;
  each = λ p inside. ap (λ (ws : List ℕ). get_or ws (place z p) 0) zeros ∙ (get_or-replicate (word_count z) (place z p) 0 0 (places_fit z p inside) ∙ sym (zero_at p));
}
  where
    off : (i a : ℕ) → cond (nat_lt i 0) a 0 ≡ 0
    off i a = go (nat_lt i 0) refl
      where
        go : (b : Bool) → nat_lt i 0 ≡ b → cond b a 0 ≡ 0
        go true e = let low = ltb-true i 0 e in absurd (omega (arith, low))
        go false e = refl

    zero_at : (p : Part) → linked_below z 0 p ≡ 0
    zero_at (part.Next i) = off i _
    zero_at _ = refl

pub all_linked : (z : Sizes) (words : List ℕ) → Shows z words (linked_below z (item_count z)) → Shows z words (stocked_below z 0)
all_linked z words h = shows_as z words (linked_below z (item_count z)) (stocked_below z 0) same h
  where
    off : (i a : ℕ) → 0 ≡ cond (nat_lt i 0) a 0
    off i a = go (nat_lt i 0) refl
      where
        go : (b : Bool) → nat_lt i 0 ≡ b → 0 ≡ cond b a 0
        go true e = let low = ltb-true i 0 e in absurd (omega (arith, low))
        go false e = refl

    same : (p : Part) → IsPart z p → linked_below z (item_count z) p ≡ stocked_below z 0 p
    same (part.Next i) within = rw (lt-ltb i (item_count z) within) refl
    same (part.FreeStock l) within = off l _
    same _ within = refl

pub all_stocked : (z : Sizes) (words : List ℕ) → Shows z words (stocked_below z z.lanes) → Shows z words (first_memory z)
all_stocked z words h = shows_as z words (stocked_below z z.lanes) (first_memory z) same h
  where
    same : (p : Part) → IsPart z p → stocked_below z z.lanes p ≡ first_memory z p
    same (part.FreeStock l) within = rw (lt-ltb l z.lanes within) refl
    same _ within = refl

pub first_of_lane : (z : Sizes) (l : ℕ) → 1 ≤ z.quota → first_item (lane_items z l) ≡ Some (l * z.quota)
first_of_lane z l some = go z.quota some (l * z.quota)
  where
    go : (n : ℕ) → 1 ≤ n → (i : ℕ) → first_item (items_from i n) ≡ Some i
    go zero h i = absurd (omega (arith, h))
    go (suc n) h i = refl

pub link_next : (z : Sizes) (words : List ℕ) (n x : ℕ) → n < item_count z → x ≡ first_memory z (part.Next n) → Shows z words (linked_below z n)
    → Shows z (set words (place z (part.Next n)) x) (linked_below z (n + 1))
link_next z words n x inside is h =
    let more : suc n ≡ n + 1 = omega arith in subst (λ (m : ℕ). Shows z (set words (place z (part.Next n)) x) (linked_below z m)) more (link_more z words n x inside is h)

pub stock_next : (z : Sizes) (words : List ℕ) (n x : ℕ) → n < z.lanes → x ≡ first_memory z (part.FreeStock n) → Shows z words (stocked_below z n)
    → Shows z (set words (place z (part.FreeStock n)) x) (stocked_below z (n + 1))
stock_next z words n x inside is h =
    let more : suc n ≡ n + 1 = omega arith in subst (λ (m : ℕ). Shows z (set words (place z (part.FreeStock n)) x) (stocked_below z m)) more (stock_more z words n x inside is h)
