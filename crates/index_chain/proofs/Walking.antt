-- Walks, and what stays of them.
use Rattle.std.proofs.Common.{◌≡◌, ℕ, zero, suc, add-one, ◌+◌, ◌-◌, ◌==◌, ◌<◌, ◌≤◌, Bool, true, false, List, [], ◌∷◌, ◌++◌, length, take, drop, refl, sym, ap, ◌∙◌, subst, arith, Option, Some, None, slice_get, get_or, drop-cons, IfSome, IsTrue, if◌then◌else◌}
use Rattle.std.specs.Prelude.{option_and_then}
use Rattle.std.specs.Option.{is_some}
use Rattle.std.specs.List.{AllByRecursion}
use Rattle.std.proofs.lemmas.Bool.{eqb-true, eq-eqb}
use Rattle.std.proofs.lemmas.List.{length-append, length-take, length-drop}
use Rattle.std.proofs.lemmas.Option.{slice_get-get_or}
use Rattle.index_chain.specs.declared.chain.Chain.{Chain}
use Rattle.index_chain.specs.Walks.{Words, IsTold, next_of, with_next, walk, items, has, AreDistinct, AreApart, IsChain, Stays}
use Rattle.index_chain.specs.Calls.{with_end, joined}
use Rattle.index_chain.specs.Laws.{OutsideStays, PartsStay}
use Rattle.index_chain.proofs.Parts.{or_false, more, head_has, all_append, all_split, distinct_append, distinct_split, split}

abbrev inner : Option (Option ℕ) → Option ℕ
inner o = option_and_then (λ to. to) o

-- ---- one word is written

-- what is told stays told
pub told_stays : (words : Words) (i : ℕ) (to : Option ℕ) (j : ℕ) → IsTold words j → IsTold (with_next words i to) j
told_stays words i to j h = go (j == i)
  where
    go : (b : Bool) → IsTrue (is_some (if b then Some to else words j))
    go true = refl
    go false = h

pub all_told : (words : Words) (i : ℕ) (to : Option ℕ) (is : List ℕ) → AllByRecursion (IsTold words) is → AllByRecursion (IsTold (with_next words i to)) is
all_told words i to [] h = tt
all_told words i to (j ∷ is) h = (told_stays words i to j h.0, all_told words i to is h.1)

-- the item that is written has the new next item, and any other its old one
next_written : (words : Words) (i : ℕ) (to : Option ℕ) → next_of (with_next words i to) i ≡ to
next_written words i to = ap (λ b. inner (if b then Some to else words i)) (eq-eqb i i refl)

next_other : (words : Words) (i : ℕ) (to : Option ℕ) (j : ℕ) → (j == i) ≡ false → next_of (with_next words i to) j ≡ next_of words j
next_other words i to j ne = ap (λ b. inner (if b then Some to else words j)) ne

-- a walk that does not come to the item is the same
pub walk_outside : (words : Words) (i : ℕ) (to : Option ℕ) (n : ℕ) (at : Option ℕ) → has (walk words n at) i ≡ false → walk (with_next words i to) n at ≡ walk words n at
unfolding walk
walk_outside words i to zero at h = refl
walk_outside words i to (suc n) None h = refl
walk_outside words i to (suc n) (Some j) h =
    let parts = or_false (j == i) (has (walk words n (next_of words j)) i) h in
    ap (λ is. j ∷ is) (ap (walk (with_next words i to) n) (next_other words i to j parts.0) ∙ walk_outside words i to n (next_of words j) parts.1)

pub outside_stays : OutsideStays
outside_stays words chain i to out whole =
    let same = walk_outside words i to chain.count chain.first out in
    record {
      same = same;
      whole = record {
        whole = ap length same ∙ whole.whole;
        told = subst (AllByRecursion (IsTold (with_next words i to))) (sym same) (all_told words i to (items words chain) whole.told);
        distinct = subst AreDistinct (sym same) whole.distinct;
      };
    }

-- ---- one more item in front

pub pushed : (words : Words) (chain : Chain) (i : ℕ) → has (items words chain) i ≡ false
    → items (with_next words i chain.first) (record { first = Some i; count = chain.count + 1 }) ≡ i ∷ items words chain
unfolding walk
pushed words chain i out =
    rw add-one
    (ap (λ is. i ∷ is)
    (ap (walk (with_next words i chain.first) chain.count) (next_written words i chain.first)
    ∙ walk_outside words i chain.first chain.count chain.first out))

pub pushed_whole : (words : Words) (chain : Chain) (i : ℕ) → IsTold words i → has (items words chain) i ≡ false → IsChain words chain
    → IsChain (with_next words i chain.first) (record { first = Some i; count = chain.count + 1 })
unfolding AreDistinct
pushed_whole words chain i told out whole =
    let is = pushed words chain i out in
    let n = whole.whole in
    let l : length (items (with_next words i chain.first) (record { first = Some i; count = chain.count + 1 })) ≡ suc (length (items words chain)) = ap length is in
    record {
      whole = omega arith;
      told = subst (AllByRecursion (IsTold (with_next words i chain.first))) (sym is) (told_stays words i chain.first i told, all_told words i chain.first (items words chain) whole.told);
      distinct = subst AreDistinct (sym is) (out, whole.distinct);
    }

-- ---- the first items, and the rest

pub walk_take : (words : Words) (n count : ℕ) (at : Option ℕ) → n ≤ count → walk words n at ≡ take n (walk words count at)
unfolding walk
walk_take words zero count at le = refl
walk_take words (suc n) zero at le = absurd (omega arith)
walk_take words (suc n) (suc count) None le = refl
walk_take words (suc n) (suc count) (Some i) le = ap (λ is. i ∷ is) (walk_take words n count (next_of words i) (omega arith))

pub front_whole : (words : Words) (chain : Chain) (n : ℕ) → n ≤ chain.count → IsChain words chain → IsChain words (record { first = chain.first; count = n })
front_whole words chain n le whole =
    let is = walk_take words n chain.count chain.first le in
    let l = length-take n (items words chain) in
    let m = whole.whole in
    let k : length (walk words n chain.first) ≡ length (take n (items words chain)) = ap length is in
    record {
      whole = omega arith;
      told = subst (AllByRecursion (IsTold words)) (sym is) (all_split (IsTold words) n (items words chain) whole.told).0;
      distinct = subst AreDistinct (sym is) (distinct_split n (items words chain) whole.distinct).0;
    }

pub rest_whole : (words : Words) (chain : Chain) (n : ℕ) (next : Option ℕ) → n ≤ chain.count → IsChain words chain
    → walk words (chain.count - n) next ≡ drop n (items words chain) → IsChain words (record { first = next; count = chain.count - n })
rest_whole words chain n next le whole is =
    let l = length-drop n (items words chain) in
    let m = whole.whole in
    let k : length (walk words (chain.count - n) next) ≡ length (drop n (items words chain)) = ap length is in
    record {
      whole = omega arith;
      told = subst (AllByRecursion (IsTold words)) (sym is) (all_split (IsTold words) n (items words chain) whole.told).1;
      distinct = subst AreDistinct (sym is) (distinct_split n (items words chain) whole.distinct).1;
    }

pub parts_stay : PartsStay
parts_stay words chain n whole = ((distinct_split n (items words chain) whole.distinct).2, split n (items words chain))

-- ---- one chain behind another

end_outside : (words : Words) (is : List ℕ) (to : Option ℕ) (i : ℕ) → has is i ≡ false → with_end words is to i ≡ words i
unfolding with_end
end_outside words [] to i out = refl
end_outside words (j ∷ []) to i out = go (i == j) (flip i j (or_false (j == i) false out).0)
  where
    flip : (a b : ℕ) → (b == a) ≡ false → (a == b) ≡ false
    flip a b ne = go2 (a == b) refl
      where
        go2 : (t : Bool) → (a == b) ≡ t → (a == b) ≡ false
        go2 false e = e
        go2 true e = absurd (let same : (b == a) ≡ true = eq-eqb b a (sym (eqb-true a b e)) in let wrong : true ≡ false = sym same ∙ ne in cc)

    go : (b : Bool) → b ≡ false → (if b then Some to else words i) ≡ words i
    go true e = absurd cc
    go false e = refl
end_outside words (j ∷ k ∷ is) to i out = end_outside words (k ∷ is) to i (or_false (j == i) (has (k ∷ is) i) out).1

-- the write to the last item
pub end_is_last : (words : Words) (is : List ℕ) (to : Option ℕ) (k last : ℕ) → length is ≡ k + 1 → slice_get is k ≡ Some last → with_end words is to ≡ with_next words last to
unfolding with_end
end_is_last words [] to k last l at = absurd cc
end_is_last words (i ∷ []) to zero last l at = let same : i ≡ last = cc in ap (λ j. with_next words j to) same
end_is_last words (i ∷ []) to (suc k) last l at = absurd cc
end_is_last words (i ∷ j ∷ is) to zero last l at = absurd (omega arith)
end_is_last words (i ∷ j ∷ is) to (suc k) last l at = end_is_last words (j ∷ is) to k last (omega arith) at

pub told_end : (words : Words) (is : List ℕ) (to : Option ℕ) (js : List ℕ) → AllByRecursion (IsTold words) js → AllByRecursion (IsTold (with_end words is to)) js
unfolding with_end
told_end words [] to js h = h
told_end words (i ∷ []) to js h = all_told words i to js h
told_end words (i ∷ j ∷ is) to js h = told_end words (j ∷ is) to js h

next_end : (words : Words) (is : List ℕ) (to : Option ℕ) (i : ℕ) → has is i ≡ false → next_of (with_end words is to) i ≡ next_of words i
next_end words is to i out = ap inner (end_outside words is to i out)

-- a walk that comes to none of the items is the same when the last one is written
walk_apart : (words : Words) (is : List ℕ) (to : Option ℕ) (n : ℕ) (at : Option ℕ) → AreApart is (walk words n at) → walk (with_end words is to) n at ≡ walk words n at
unfolding with_end
walk_apart words [] to n at apart = refl
walk_apart words (i ∷ []) to n at apart = walk_outside words i to n at (apart i (head_has i []))
walk_apart words (i ∷ j ∷ is) to n at apart = walk_apart words (j ∷ is) to n at (λ k h. apart k (more (i == k) (has (j ∷ is) k) h))

-- an item in front is not written
end_more : (words : Words) (i : ℕ) (rest : List ℕ) (to : Option ℕ) → 0 < length rest → with_end words (i ∷ rest) to ≡ with_end words rest to
unfolding with_end
end_more words i [] to some = absurd (omega arith)
end_more words i (j ∷ rest) to some = refl

-- the walk over one chain goes on into the other
walk_both : (words : Words) (m n total : ℕ) (at to : Option ℕ) → total ≡ (m + 1) + n → length (walk words (suc m) at) ≡ m + 1
    → AreDistinct (walk words (suc m) at) → AreApart (walk words (suc m) at) (walk words n to)
    → walk (with_end words (walk words (suc m) at) to) total at ≡ walk words (suc m) at ++ walk words n to
unfolding walk with_end AreDistinct
walk_both words m n total None to sum whole distinct apart = absurd (omega arith)
walk_both words m n zero (Some i) to sum whole distinct apart = absurd (omega arith)
walk_both words zero n (suc total) (Some i) to sum whole distinct apart =
    let same : total ≡ n = omega arith in
    ap (λ is. i ∷ is) (ap (walk (with_next words i to) total) (next_written words i to) ∙ ap (λ k. walk (with_next words i to) k to) same ∙ walk_outside words i to n to (apart i (head_has i [])))
walk_both words (suc m) n (suc total) (Some i) to sum whole distinct apart =
    let rest = walk words (suc m) (next_of words i) in
    let len : length rest ≡ m + 1 = omega arith in
    let few : total ≡ (m + 1) + n = omega arith in
    let far : AreApart rest (walk words n to) = λ k h. apart k (more (i == k) (has rest k) h) in
    let on = walk_both words m n total (next_of words i) to few len distinct.1 far in
    let next = next_end words rest to i distinct.0 in
    ap (λ (w : Words). walk w (suc total) (Some i)) (end_more words i rest to (omega arith))
    ∙ ap (λ is. i ∷ is) (ap (walk (with_end words rest to) total) next ∙ on)

module _ (words : Words) (front back : Chain) (some : 0 < front.count) (one : IsChain words front) (two : IsChain words back) (apart : AreApart (items words front) (items words back)) where
  pub both : items (with_end words (items words front) back.first) (record { first = front.first; count = front.count + back.count }) ≡ items words front ++ items words back
  both = go front.count refl
    where
      go : (c : ℕ) → front.count ≡ c → items (with_end words (items words front) back.first) (record { first = front.first; count = front.count + back.count }) ≡ items words front ++ items words back
      go zero e = absurd (omega arith)
      go (suc m) e =
          let is : walk words front.count front.first ≡ walk words (suc m) front.first = ap (λ k. walk words k front.first) e in
          let whole = one.whole in
          let len : length (walk words (suc m) front.first) ≡ m + 1 = ap length (sym is) ∙ omega arith in
          let on =
          walk_both words m back.count (front.count + back.count) front.first back.first (omega arith) len (subst AreDistinct is one.distinct)
          (subst (λ xs. AreApart xs (items words back)) is apart) in
          subst (λ xs. walk (with_end words xs back.first) (front.count + back.count) front.first ≡ xs ++ items words back) (sym is) on

  pub both_whole : IsChain (with_end words (items words front) back.first) (record { first = front.first; count = front.count + back.count })
  both_whole =
      let is = both in
      let l = length-append (items words front) (items words back) in
      let a = one.whole in
      let b = two.whole in
      let k : length (items (with_end words (items words front) back.first) (record { first = front.first; count = front.count + back.count }))
      ≡ length (items words front ++ items words back) = ap length is in
      record {
        whole = omega arith;
        told =
            subst (AllByRecursion (IsTold (with_end words (items words front) back.first))) (sym is)
            (all_append (IsTold (with_end words (items words front) back.first)) (items words front) (items words back)
            (told_end words (items words front) back.first (items words front) one.told)
            (told_end words (items words front) back.first (items words back) two.told));
        distinct = subst AreDistinct (sym is) (distinct_append (items words front) (items words back) one.distinct two.distinct apart);
      }

-- a chain that has no item with the one in front is the same
pub end_stays : (words : Words) (is : List ℕ) (to : Option ℕ) (other : Chain) → AreApart is (items words other) → IsChain words other → Stays words (with_end words is to) other
end_stays words is to other apart whole =
    let same = walk_apart words is to other.count other.first apart in
    record {
      same = same;
      whole = record {
        whole = ap length same ∙ whole.whole;
        told = subst (AllByRecursion (IsTold (with_end words is to))) (sym same) (told_end words is to (items words other) whole.told);
        distinct = subst AreDistinct (sym same) whole.distinct;
      };
    }

pub joined_stays : (words : Words) (front back : List ℕ) (to : Option ℕ) (other : Chain) → AreApart front (items words other) → IsChain words other → Stays words (joined words front back to) other
joined_stays words front [] to other apart whole = record { same = refl; whole = whole }
joined_stays words front (j ∷ js) to other apart whole = end_stays words front to other apart whole

-- where both have items, the words are those with another end of the first
pub joined_some : (words : Words) (front back : List ℕ) (to : Option ℕ) → 0 < length back → joined words front back to ≡ with_end words front to
joined_some words front [] to some = absurd (omega arith)
joined_some words front (j ∷ js) to some = refl

pub joined_none : (words : Words) (front back : List ℕ) (to : Option ℕ) → length front ≡ 0 → joined words front back to ≡ words
unfolding with_end
joined_none words [] [] to none = refl
joined_none words [] (j ∷ js) to none = refl
joined_none words (i ∷ is) back to none = absurd cc

pub no_items : (is : List ℕ) → length is ≡ 0 → is ≡ []
no_items [] h = refl
no_items (i ∷ is) h = absurd cc

-- ---- along a chain

-- something is told of the item at which a walk stands
pub here_told : (words : Words) (n : ℕ) (at : Option ℕ) → 0 < n → AllByRecursion (IsTold words) (walk words n at) → IfSome at (IsTold words)
unfolding walk
here_told words n None some h = tt
here_told words zero (Some i) some h = absurd (omega arith)
here_told words (suc n) (Some i) some h = h.0

-- the item at which a walk behind others stands
pub first_behind : (words : Words) (n : ℕ) (at : Option ℕ) (is : List ℕ) (k : ℕ) → 0 < n → k < length is → walk words n at ≡ drop k is → slice_get is k ≡ at
unfolding walk
first_behind words zero at is k some lt e = absurd (omega arith)
first_behind words (suc n) None is k some lt e = absurd (let l = length-drop k is in let none : length (drop k is) ≡ 0 = ap length (sym e) in omega arith)
first_behind words (suc n) (Some i) is k some lt e = slice_get-get_or is k 0 lt ∙ ap Some (let c : i ∷ walk words n (next_of words i) ≡ get_or is k 0 ∷ drop (suc k) is = e ∙ drop-cons is k 0 lt in cc)

-- and one item on
pub walk_on : (words : Words) (n : ℕ) (at : Option ℕ) (is : List ℕ) (k : ℕ) → k < length is → walk words (suc n) at ≡ drop k is → walk words n (option_and_then (next_of words) at) ≡ drop (suc k) is
unfolding walk
walk_on words n None is k lt e = absurd (let l = length-drop k is in let none : length (drop k is) ≡ 0 = ap length (sym e) in omega arith)
walk_on words n (Some i) is k lt e = let c : i ∷ walk words n (next_of words i) ≡ get_or is k 0 ∷ drop (suc k) is = e ∙ drop-cons is k 0 lt in cc

-- the item at a place is told
pub place_told : (words : Words) (is : List ℕ) (k i : ℕ) → AllByRecursion (IsTold words) is → slice_get is k ≡ Some i → IsTold words i
place_told words [] k i h at = absurd cc
place_told words (j ∷ is) zero i h at = let same : j ≡ i = cc in subst (IsTold words) same h.0
place_told words (j ∷ is) (suc k) i h at = place_told words is k i h.1 at

-- ---- without the last item

no_walk : (words : Words) (n : ℕ) → walk words n None ≡ []
unfolding walk
no_walk words zero = refl
no_walk words (suc n) = refl

-- a walk that ends at its last item has the same items
ended_walk : (words : Words) (n : ℕ) (at : Option ℕ) → AreDistinct (walk words n at) → walk (with_end words (walk words n at) None) n at ≡ walk words n at
unfolding walk with_end AreDistinct
ended_walk words zero at d = refl
ended_walk words (suc n) None d = refl
ended_walk words (suc n) (Some i) d = go (walk words n (next_of words i)) refl (ended_walk words n (next_of words i) d.1)
  where
    go : (rest : List ℕ) → walk words n (next_of words i) ≡ rest
        → walk (with_end words (walk words n (next_of words i)) None) n (next_of words i) ≡ walk words n (next_of words i)
        → walk (with_end words (i ∷ rest) None) (suc n) (Some i) ≡ i ∷ rest
    go [] e on = ap (λ is. i ∷ is) (ap (walk (with_next words i None) n) (next_written words i None) ∙ no_walk (with_next words i None) n)
    go (j ∷ more) e on =
        let out : has (j ∷ more) i ≡ false = ap (λ is. has is i) (sym e) ∙ d.0 in
        ap (λ is. i ∷ is) (ap (walk (with_end words (j ∷ more) None) n) (next_end words (j ∷ more) None i out) ∙ subst (λ is. walk (with_end words is None) n (next_of words i) ≡ is) e on)

pub ended_stays : (words : Words) (chain : Chain) → IsChain words chain → Stays words (with_end words (items words chain) None) chain
ended_stays words chain one =
    let same = ended_walk words chain.count chain.first one.distinct in
    record {
      same = same;
      whole = record {
        whole = ap length same ∙ one.whole;
        told = subst (AllByRecursion (IsTold (with_end words (items words chain) None))) (sym same) (told_end words (items words chain) None (items words chain) one.told);
        distinct = subst AreDistinct (sym same) one.distinct;
      };
    }

pub end_none : (words : Words) (is : List ℕ) (to : Option ℕ) → length is ≡ 0 → with_end words is to ≡ words
unfolding with_end
end_none words [] to none = refl
end_none words (i ∷ is) to none = absurd cc
