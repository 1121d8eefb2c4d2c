-- The objects of a unit are taken off their indexes, one after the other.
use Rattle.std.proofs.Common.{◌≡◌, ◌≢◌, ℕ, ◌+◌, ◌<◌, ◌==◌, ◌||◌, refl, sym, subst, ap, ◌∙◌, inl, inr, zero, suc, arith, Bool, cond, true, false, List, get_or, [], ◌∷◌, length, count_by, Option, Some, None, is_some, unwrap_or}
use Rattle.std.proofs.Math.ListN.{set}
use Rattle.std.proofs.Math.Logic.{dite}
use Rattle.std.proofs.Math.Decide.{ℕ_discrete}
use Rattle.std.proofs.lemmas.List.{length-set, get_or-set_same, get_or-set_other}
use Rattle.world_model.specs.Sizes.{Sizes, item_count}
use Rattle.world_model.specs.NameLists.{same_name, has}
use Rattle.world_model.proofs.ListFacts.{Among, or_false, or_right}
use Rattle.world_model.proofs.NameFacts.{same_name_refl}
use Rattle.world_model.proofs.Counts.{count-cons}
use Rattle.heap_plain.specs.Types.{Name}
use Rattle.heap_plain.specs.declared.life.Life.TheVariants.{Free}
use Rattle.heap_plain.specs.Parts.{name_at, life_at, next_at, is_gone}
use Rattle.heap_plain.specs.Listing.{chained}
use Rattle.heap_plain.specs.Purging.{Stocks, lane_at, give, give_all, CanGive}
use Rattle.world_model.specs.Engines.{IsOfLane}
use Rattle.heap_plain.specs.Lists.{Distinct}
use Rattle.heap_plain.specs.Units.{AreLinked}
use Rattle.heap_plain.specs.Stocked.{no_stock, free_of, given}
use Rattle.heap_plain.specs.Stocking.{FreeShows}
use Rattle.heap_plain.proofs.WorldFacts.{differs}
use Rattle.heap_plain.proofs.Popping.{lane_below}
use Rattle.heap_plain.proofs.Pushing.{free_pushed, few}
use Rattle.heap_plain.proofs.Listings.{chained_next}
use Rattle.heap_plain.proofs.Restaging.{free_lives}

give_next : (s : Stocks) (links : List ℕ) (i count : ℕ) → give_all s links i (suc count) ≡ give_all (give s i) links (next_at links i) count
give_next s links i zero = refl
give_next s links i (suc count) = λ t. give (give_next s links i count t) (chained_next links i count t)

-- an index is given back to this lane
abbrev give_by : Stocks → ℕ → ℕ → Stocks
give_by s i l = record {
  names = set s.names i None;
  lives = set s.lives i Free;
  stocks = set s.stocks l (given (get_or s.stocks l no_stock) i);
}

-- Before a unit's members from one on are taken off. The removals are theirs and others.
pub record Emptying (z : Sizes) (s : Stocks) (links : List ℕ) (i : ℕ) (v : List Name) (used : ℕ → ℕ) : Type 0 where
  pub free : FreeShows z s.names s.lives s.stocks (λ lane. used lane + count_by (λ n. n.lane == lane) v)
  pub by_name : length s.names ≡ item_count z
  pub by_life : length s.lives ≡ item_count z
  pub linked : AreLinked s.names links i v
  pub distinct : Distinct v
  pub place : (j : ℕ) (n : Name) → name_at s.names j ≡ Some n → (n.lane < z.lanes) × IsOfLane z n.lane j
  pub alone : (j k : ℕ) (n : Name) → name_at s.names j ≡ Some n → name_at s.names k ≡ Some n → j ≡ k
  pub gone : (j : ℕ) (n : Name) → name_at s.names j ≡ Some n → has v n ≡ true → is_gone (life_at s.lives j) ≡ true

-- After that.
pub record Emptied (z : Sizes) (s t : Stocks) (v : List Name) (used : ℕ → ℕ) : Type 0 where
  pub free : FreeShows z t.names t.lives t.stocks used
  pub by_name : length t.names ≡ item_count z
  pub by_life : length t.lives ≡ item_count z
  pub out : (j : ℕ) (n : Name) → name_at s.names j ≡ Some n → has v n ≡ true → (name_at t.names j ≡ None) × (life_at t.lives j ≡ Free)
  pub others : (j : ℕ) → ((n : Name) → name_at s.names j ≡ Some n → has v n ≡ false) → (name_at t.names j ≡ name_at s.names j) × (life_at t.lives j ≡ life_at s.lives j)

-- each of them can be given back, and what is left
pub record Empties (z : Sizes) (s : Stocks) (links : List ℕ) (i : ℕ) (v : List Name) (used : ℕ → ℕ) : Type 0 where
  pub can : (k : ℕ) → k < length v → CanGive (give_all s links i k) (chained links i k)
  pub end : Emptied z s (give_all s links i (length v)) v used

links_less : (names ns : List (Option Name)) (links : List ℕ) (n : Name) (u : List Name) → (Among u n → ⊥) → ((j : ℕ) (m : Name) → (n ≡ m → ⊥) → name_at names j ≡ Some m → name_at ns j ≡ Some m)
    → (i : ℕ) → AreLinked names links i u → AreLinked ns links i u
links_less names ns links n [] out keep i h = tt
links_less names ns links n (m ∷ u) out keep i h =
    (keep i m (λ e. out (inl (sym e))) h.0, links_less names ns links n u (λ a. out (inr a)) keep (next_at links i) h.1)

module _ (z : Sizes) (s : Stocks) (links : List ℕ) (i : ℕ) (n : Name) (v : List Name) (used : ℕ → ℕ) (e : Emptying z s links i (n ∷ v) used) where
  at : name_at s.names i ≡ Some n
  at = e.linked.0

  lane_is : lane_at s.names i ≡ n.lane
  lane_is = ap (λ (o : Option Name). (unwrap_or o (record { lane = 0; count = 0 })).lane) at

  place : (n.lane < z.lanes) × IsOfLane z n.lane i
  place = e.place i n at

  gone : is_gone (life_at s.lives i) ≡ true
  gone = e.gone i n at (rw (same_name_refl n) refl)

  counts : (lane : ℕ) → used lane + count_by (λ m. m.lane == lane) (n ∷ v) ≡ used lane + count_by (λ m. m.lane == lane) v + cond (n.lane == lane) 1 0
  counts lane = let c = count-cons (λ m. m.lane == lane) n v in omega arith

  next_is : give_by s i n.lane ≡ give s i
  next_is = ap (give_by s i) (sym lane_is)

  i_below : i < item_count z
  i_below = lane_below place.0 place.1

  none_here : name_at (set s.names i None) i ≡ None
  none_here = get_or-set_same s.names i None None (omega (arith, i_below, e.by_name))

  other_name : (j : ℕ) → j ≢ i → name_at (set s.names i None) j ≡ name_at s.names j
  other_name j ne = get_or-set_other s.names i j None None ne

  other_life : (j : ℕ) → j ≢ i → life_at (set s.lives i Free) j ≡ life_at s.lives j
  other_life j ne = get_or-set_other s.lives i j Free Free ne

  -- what is named now was named so
  was : (j : ℕ) (m : Name) → name_at (set s.names i None) j ≡ Some m → (j ≢ i) × (name_at s.names j ≡ Some m)
  was j m h = dite (ℕ_discrete j i)
      (λ (same : j ≡ i). absurd (let t = none_here in let u : name_at (set s.names i None) j ≡ name_at (set s.names i None) i = ap (name_at (set s.names i None)) same in cc))
      (λ (ne : j ≢ i). (ne, sym (other_name j ne) ∙ h))

  still : (j : ℕ) (m : Name) → (n ≡ m → ⊥) → name_at s.names j ≡ Some m → name_at (set s.names i None) j ≡ Some m
  still j m ne h = other_name j (λ same. let u : name_at s.names j ≡ name_at s.names i = ap (name_at s.names) same in let w = at in ne cc) ∙ h

  emptying_next : Emptying z (give_by s i n.lane) links (next_at links i) v used
  emptying_next = record {
    free = free_pushed e.free n.lane i place.0 place.1 e.by_name e.by_life gone _ counts;
    by_name = length-set s.names i None ∙ e.by_name;
    by_life = length-set s.lives i Free ∙ e.by_life;
    linked = links_less s.names (set s.names i None) links n v e.distinct.0 still (next_at links i) e.linked.1;
    distinct = e.distinct.1;
    place = λ j m h. e.place j m (was j m h).1;
    alone = λ j k m g h. e.alone j k m (was j m g).1 (was k m h).1;
    gone = λ j m h a. let w = was j m h in ap is_gone (other_life j w.0) ∙ e.gone j m w.1 (or_right (same_name m n) (has v m) a);
  }

  first : CanGive s i
  first =
      let short = few e.free n.lane i place.0 place.1 e.by_name e.by_life gone _ counts in
      record {
        named = ap (λ (o : Option Name). is_some o) at;
        by_name = omega (arith, i_below, e.by_name);
        by_life = omega (arith, i_below, e.by_life);
        lane = omega (arith, lane_is, place.0, e.free.lanes);
        room = subst (λ (l : ℕ). length (free_of s.stocks l) < (get_or s.stocks l no_stock).room) (sym lane_is) short;
      }

  module _ (after : Empties z (give_by s i n.lane) links (next_at links i) v used) where
    after' : Empties z (give s i) links (next_at links i) v used
    after' = subst (λ (t : Stocks). Empties z t links (next_at links i) v used) next_is after

    can : (k : ℕ) → k < length (n ∷ v) → CanGive (give_all s links i k) (chained links i k)
    can zero b = first
    can (suc k) b = subst (λ (t : Stocks). CanGive t (chained links i (suc k))) (sym (give_next s links i k))
        (subst (λ (j : ℕ). CanGive (give_all (give s i) links (next_at links i) k) j) (sym (chained_next links i k)) (after'.can k (omega arith)))

    all : Emptied z s (give_all (give s i) links (next_at links i) (length v)) (n ∷ v) used
    all = subst (λ (t : Stocks). Emptied z s (give_all t links (next_at links i) (length v)) (n ∷ v) used) next_is record {
      free = after.end.free;
      by_name = after.end.by_name;
      by_life = after.end.by_life;
      out = λ j m h a. out j m h a;
      others = λ j f.
          let ne : j ≢ i = λ same. let t : name_at s.names j ≡ Some n = ap (name_at s.names) same ∙ at in
          let u = f n t in
          let w = same_name_refl n in
          absurd (let first = (or_false (same_name n n) (has v n) u).0 in cc) in
          let o = after.end.others j (λ m h. (or_false (same_name m n) (has v m) (f m (was j m h).1)).1) in
          (o.0 ∙ other_name j ne, o.1 ∙ other_life j ne);
    }
      where
        out : (j : ℕ) (m : Name) → name_at s.names j ≡ Some m → has (n ∷ v) m ≡ true
            → (name_at (give_all (give_by s i n.lane) links (next_at links i) (length v)).names j ≡ None)
            × (life_at (give_all (give_by s i n.lane) links (next_at links i) (length v)).lives j ≡ Free)
        out j m h a = dite (ℕ_discrete j i)
            (λ (same : j ≡ i).
            let none : name_at (set s.names i None) j ≡ None = ap (name_at (set s.names i None)) same ∙ none_here in
            let o = after.end.others j (λ x there. absurd (let t = none in cc)) in
            let free : life_at (set s.lives i Free) j ≡ Free = ap (life_at (set s.lives i Free)) same ∙ get_or-set_same s.lives i Free Free (omega (arith, i_below, e.by_life)) in
            (o.0 ∙ none, o.1 ∙ free))
            (λ (ne : j ≢ i).
            let apart : (n ≡ m → ⊥) = λ same. ne (e.alone j i n (h ∙ ap (λ (x : Name). Some x) (sym same)) at) in
            let other : same_name m n ≡ false = differs m n (λ same. apart (sym same)) in
            after.end.out j m (other_name j ne ∙ h) (sym (ap (λ (b : Bool). b || has v m) other) ∙ a))

    empties_first : Empties z s links i (n ∷ v) used
    empties_first = record { can = can; end = subst (λ (t : Stocks). Emptied z s t (n ∷ v) used) (sym (give_next s links i (length v))) all }

pub empties : (z : Sizes) (s : Stocks) (links : List ℕ) (i : ℕ) (v : List Name) (used : ℕ → ℕ) → Emptying z s links i v used → Empties z s links i v used
empties z s links i [] used e = record {
  can = λ k b. absurd (omega arith);
  end = record { free = free_lives (λ i f. f) (λ i f. f) (λ lane. omega arith) e.free; by_name = e.by_name; by_life = e.by_life; out = λ j n a h. absurd cc; others = λ j f. (refl, refl) };
}
empties z s links i (n ∷ v) used e =
    empties_first z s links i n v used e
    (empties z (give_by s i n.lane) links (next_at links i) v used (emptying_next z s links i n v used e))
