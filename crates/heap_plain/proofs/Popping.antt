-- Indexes of lanes, and those that a lane takes.
use Rattle.std.proofs.Common.{◌≡◌, ◌≢◌, ℕ, ◌+◌, ◌-◌, ◌*◌, ◌<◌, ◌≤◌, ◌==◌, ◌⊎◌, inl, inr, zero, suc, suc-mul, refl, sym, ap, ◌∙◌, subst, arith, List, length, get_or, drop, Option, cond, Bool, true, false}
use Rattle.std.proofs.Math.ListN.{set}
use Rattle.std.proofs.Math.Logic.{dite}
use Rattle.std.proofs.Math.Decide.{ℕ_discrete, dec_le}
use Rattle.std.proofs.Math.Nat.{lt_of_not-le, mul-le-mul_right}
use Rattle.std.proofs.lemmas.Bool.{eqb-true, eqb-false}
use Rattle.std.proofs.lemmas.List.{length-set, length-drop, get_or-set_same, get_or-set_other, get_or_read}
use Rattle.world_model.specs.Sizes.{Sizes, item_count}
use Rattle.world_model.proofs.ListFacts.{Among}
use Rattle.heap_plain.specs.Types.{Name}
use Rattle.heap_plain.specs.declared.life.Life.{Life}
use Rattle.heap_plain.specs.declared.life.Life.TheVariants.{Free, Live}
use Rattle.heap_plain.specs.Parts.{name_at, life_at}
use Rattle.heap_plain.specs.Filling.{FilledAt}
use Rattle.heap_plain.specs.Stocked.{Stocked, no_stock, free_of, taken, popped, CanPop}
use Rattle.world_model.specs.Engines.{IsOfLane}
use Rattle.heap_plain.specs.Stocking.{LaneShows, FreeShows}
use Rattle.heap_plain.proofs.MarkSteps.{distinct_drop}
use Rattle.heap_plain.proofs.Picking.{get_or_among, among_drop, one_place, first_out, first_or}

-- ---- indexes of lanes

-- a lower lane's indexes lie below
below_lane : (l k q m : ℕ) → l < k → m < q → l * q + m < k * q
below_lane l k q m h b = let a : suc l * q ≤ k * q = mul-le-mul_right q h in omega (arith, suc-mul l q)

-- an index is of one lane
pub one_lane : (l k q m n : ℕ) → m < q → n < q → l * q + m ≡ k * q + n → l ≡ k
one_lane l k q m n a b e = dite (ℕ_discrete l k) (λ (h : l ≡ k). h) (λ (ne : l ≢ k).
    dite (dec_le k l)
    (λ (h : k ≤ l). let lt : k < l = omega arith in let t = below_lane k l q n lt b in absurd (omega arith))
    (λ (h : ¬ (k ≤ l)). let lt : l < k = lt_of_not-le h in let t = below_lane l k q m lt a in absurd (omega arith)))

pub same_lane : {z : Sizes} {l k i : ℕ} → IsOfLane z l i → IsOfLane z k i → l ≡ k
same_lane {z} {l} {k} {i} a b = one_lane l k z.quota (i - l * z.quota) (i - k * z.quota) (omega (arith, a.low, a.high)) (omega (arith, b.low, b.high)) (omega (arith, a.low, b.low))

-- a lane's range ends within the indexes
pub lane_end : (l lanes q : ℕ) → l < lanes → l * q + q ≤ lanes * q
lane_end l lanes q h = let a : suc l * q ≤ lanes * q = mul-le-mul_right q h in omega (arith, suc-mul l q)

pub lane_below : {z : Sizes} {l i : ℕ} → l < z.lanes → IsOfLane z l i → i < item_count z
lane_below {z} {l} h o = omega (arith, lane_end l z.lanes z.quota h, o.high)

-- ---- places in a row

-- where an index stands to the first count places of a row
abbrev pub Where : (ℕ → ℕ) → ℕ → ℕ → Type 0
Where at count i = ((k : ℕ) × (k < count) × (i ≡ at k)) ⊎ ((k : ℕ) → k < count → at k ≢ i)

pub where_is : (at : ℕ → ℕ) (count i : ℕ) → Where at count i
where_is at zero i = inr (λ k h. absurd (omega arith))
where_is at (suc count) i = dite (ℕ_discrete i (at count)) (λ (e : i ≡ at count). inl (count, omega arith, e)) (λ (ne : i ≢ at count). go ne (where_is at count i))
  where
    go : i ≢ at count → Where at count i → Where at (suc count) i
    go ne (inl w) = inl (w.0, omega (arith, w.1), w.2)
    go ne (inr o) = inr (λ k h. dite (ℕ_discrete k count) (λ (e : k ≡ count). λ same. ne (sym same ∙ ap at e)) (λ (other : k ≢ count). o k (omega arith)))

-- ---- the stock of one lane changes

-- what holds of the new stock, and of those of the other lanes as they were
pub set_each : (stocks : List Stocked) (l : ℕ) (s : Stocked) (P : ℕ → Stocked → Type 0) → l < length stocks → P l s
    → ((k : ℕ) → k ≢ l → P k (get_or stocks k no_stock)) → (k : ℕ) → P k (get_or (set stocks l s) k no_stock)
set_each stocks l s P inside here there k = dite (ℕ_discrete k l)
    (λ (e : k ≡ l). subst (λ (j : ℕ). P j (get_or (set stocks l s) j no_stock)) (sym e) (subst (λ (t : Stocked). P l t) (sym (get_or-set_same stocks l s no_stock inside)) here))
    (λ (ne : k ≢ l). subst (λ (t : Stocked). P k t) (sym (get_or-set_other stocks l k s no_stock ne)) (there k ne))

pub count_own : (l n : ℕ) → cond {A = ℕ} (l == l) n 0 ≡ n
count_own l n = go (l == l) refl
  where
    go : (b : Bool) → (l == l) ≡ b → cond {A = ℕ} (l == l) n 0 ≡ n
    go true e = ap (λ (b : Bool). cond {A = ℕ} b n 0) e
    go false e = absurd (eqb-false l l e refl)

pub count_other : (l k n : ℕ) → k ≢ l → cond {A = ℕ} (l == k) n 0 ≡ 0
count_other l k n ne = go (l == k) refl
  where
    go : (b : Bool) → (l == k) ≡ b → cond {A = ℕ} (l == k) n 0 ≡ 0
    go true e = absurd (ne (sym (eqb-true l k e)))
    go false e = ap (λ (b : Bool). cond {A = ℕ} b n 0) e

-- ---- popping

module _ {z : Sizes} {names : List (Option Name)} {lives : List Life} {stocks : List Stocked} {used : ℕ → ℕ} (f : FreeShows z names lives stocks used)
    (l count : ℕ) (lane : l < z.lanes) (room : count ≤ length (free_of stocks l)) where
  abbrev xs : List ℕ
  xs = free_of stocks l

  abbrev at : ℕ → ℕ
  at = popped xs

  among_at : (k : ℕ) → k < count → Among xs (at k)
  among_at k below = get_or_among xs k (omega arith)

  pub popped_lane : (k : ℕ) → k < count → IsOfLane z l (at k)
  popped_lane k below = (f.each l lane).of_lane (at k) (among_at k below)

  pub popped_free : (k : ℕ) → k < count → life_at lives (at k) ≡ Free
  popped_free k below = (f.each l lane).unused (at k) (among_at k below)

  pub can_pop : CanPop xs count (item_count z)
  can_pop = record {
    enough = room;
    places = λ k below. lane_below lane (popped_lane k below);
    once = λ j k a b e. one_place xs j k (f.each l lane).once (omega arith) (omega arith) e;
  }

  -- the stocks after popping, where objects live at the popped indexes
  pub free_popped : (ns : List (Option Name)) (ls : List Life) (used' : ℕ → ℕ) → FilledAt lives ls at count (λ k. Live)
      → ((i : ℕ) → ((k : ℕ) → k < count → at k ≢ i) → name_at ns i ≡ name_at names i)
      → ((k : ℕ) → used' k ≡ used k + cond (l == k) count 0)
      → FreeShows z ns ls (set stocks l (taken (get_or stocks l no_stock) count)) used'
  free_popped ns ls used' by_life name_out counts = record {
    lanes = length-set stocks l (taken (get_or stocks l no_stock) count) ∙ f.lanes;
    each = set_each stocks l (taken (get_or stocks l no_stock) count) (λ k s. k < z.lanes → LaneShows z ls k s (used' k)) (omega (arith, f.lanes)) (λ b. own) others;
    nameless = λ i e. let o = out i e in name_out i o.0 ∙ f.nameless i o.1;
  }
    where
      -- what is free now was free, and is none that is popped
      out : (i : ℕ) → life_at ls i ≡ Free → ((k : ℕ) → k < count → at k ≢ i) × (life_at lives i ≡ Free)
      out i e = go (where_is at count i)
        where
          go : Where at count i → ((k : ℕ) → k < count → at k ≢ i) × (life_at lives i ≡ Free)
          go (inl w) = absurd (let live : life_at ls i ≡ Live = ap (life_at ls) w.2 ∙ by_life.inside w.0 Free w.1 in cc)
          go (inr o) = (o, sym (by_life.outside i Free o) ∙ e)

      r : LaneShows z lives l (get_or stocks l no_stock) (used l)
      r = f.each l lane

      own : LaneShows z ls l (taken (get_or stocks l no_stock) count) (used' l)
      own = record {
        room = r.room;
        of_lane = λ i a. r.of_lane i (among_drop count xs i a);
        unused = λ i a. by_life.outside i Free (λ k b e. first_out xs count k r.once b (subst (λ (x : ℕ). Among (drop count xs) x) (sym e) a)) ∙ r.unused i (among_drop count xs i a);
        once = distinct_drop count xs r.once;
        all = λ i o e. let was = out i e in pick i was.0 (first_or xs count i (r.all i o was.1));
        count = omega (arith, r.count, counts l, count_own l count, length-drop count xs);
      }
        where
          pick : (i : ℕ) → ((k : ℕ) → k < count → at k ≢ i) → ((k : ℕ) × (k < count) × (get_or xs k 0 ≡ i)) ⊎ Among (drop count xs) i → Among (drop count xs) i
          pick i o (inl w) = absurd (o w.0 w.1 w.2)
          pick i o (inr a) = a

      others : (k : ℕ) → k ≢ l → k < z.lanes → LaneShows z ls k (get_or stocks k no_stock) (used' k)
      others k ne b =
          let s = f.each k b in
          record {
            room = s.room;
            of_lane = s.of_lane;
            unused = λ i a. by_life.outside i Free (λ j low e. ne (same_lane (s.of_lane i a) (subst (λ (x : ℕ). IsOfLane z l x) e (popped_lane j low)))) ∙ s.unused i a;
            once = s.once;
            all = λ i o e. s.all i o (out i e).1;
            count = omega (arith, s.count, counts k, count_other l k count ne);
          }

-- ---- what the code reads

-- the stock of a lane
pub stock_read : {z : Sizes} {names : List (Option Name)} {lives : List Life} {stocks : List Stocked} {used : ℕ → ℕ} → FreeShows z names lives stocks used
    → (l : ℕ) (now : Stocked) → l < z.lanes → now ≡ get_or stocks l now → now ≡ get_or stocks l no_stock
stock_read {stocks} f l now lane read = get_or_read stocks l now (omega (arith, f.lanes)) read no_stock

-- it has no more than there are indexes
pub spare_few : {z : Sizes} {names : List (Option Name)} {lives : List Life} {stocks : List Stocked} {used : ℕ → ℕ} → FreeShows z names lives stocks used
    → (l : ℕ) (now : Stocked) → l < z.lanes → now ≡ get_or stocks l now → length now.free ≤ item_count z
spare_few {z} f l now lane read =
    let len = ap (λ (s : Stocked). length s.free) (stock_read f l now lane read) in
    omega (arith, len, (f.each l lane).count, lane_end l z.lanes z.quota lane)

-- it gives so many indexes
pub pops : {z : Sizes} {names : List (Option Name)} {lives : List Life} {stocks : List Stocked} {used : ℕ → ℕ} → FreeShows z names lives stocks used
    → (l count size : ℕ) (now : Stocked) → l < z.lanes → now ≡ get_or stocks l now → size ≡ item_count z → count ≤ length now.free → CanPop now.free count size
pops {z} {stocks} f l count size now lane read size_is enough =
    let is = stock_read f l now lane read in
    subst (λ (s : Stocked). CanPop s.free count size) (sym is)
    (subst (λ (n : ℕ). CanPop (free_of stocks l) count n) (sym size_is) (can_pop f l count lane (subst (λ (s : Stocked). count ≤ length s.free) is enough)))
