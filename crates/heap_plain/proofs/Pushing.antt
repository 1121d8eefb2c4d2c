-- An index that is released is given back to its lane.
use Rattle.std.proofs.Common.{◌≡◌, ◌≢◌, ℕ, ◌+◌, ◌<◌, ◌==◌, ◌⊎◌, inl, inr, refl, sym, ap, ◌∙◌, subst, arith, List, get_or, length, Option, None, cond, true, false}
use Rattle.std.proofs.Math.ListN.{set}
use Rattle.std.proofs.Math.Logic.{dite}
use Rattle.std.proofs.Math.Decide.{ℕ_discrete}
use Rattle.std.proofs.lemmas.List.{length-set, get_or-set_same, get_or-set_other}
use Rattle.world_model.specs.Sizes.{Sizes, item_count}
use Rattle.world_model.specs.Engines.{IsOfLane}
use Rattle.world_model.proofs.ListFacts.{Among}
use Rattle.heap_plain.specs.Types.{Name}
use Rattle.heap_plain.specs.declared.life.Life.{Life}
use Rattle.heap_plain.specs.declared.life.Life.TheVariants.{Free}
use Rattle.heap_plain.specs.Parts.{name_at, life_at, is_gone}
use Rattle.heap_plain.specs.Stocked.{Stocked, no_stock, free_of, given}
use Rattle.heap_plain.specs.Stocking.{LaneShows, FreeShows}
use Rattle.heap_plain.proofs.Popping.{same_lane, lane_below, set_each, count_own, count_other}

module _ {z : Sizes} {names : List (Option Name)} {lives : List Life} {stocks : List Stocked} {used : ℕ → ℕ} (f : FreeShows z names lives stocks used)
    (l i : ℕ) (lane : l < z.lanes) (of : IsOfLane z l i) (names_len : length names ≡ item_count z) (lives_len : length lives ≡ item_count z) (gone : is_gone (life_at lives i) ≡ true)
    (used' : ℕ → ℕ) (counts : (k : ℕ) → used k ≡ used' k + cond (l == k) 1 0) where
  abbrev now : Stocked
  now = get_or stocks l no_stock

  r : LaneShows z lives l now (used l)
  r = f.each l lane

  abbrev lives' : List Life
  lives' = set lives i Free

  pub few : length (free_of stocks l) < now.room
  few = omega (arith, r.count, r.room, counts l, count_own l 1)

  -- what was free is not the released index
  apart : (j : ℕ) → life_at lives j ≡ Free → j ≢ i
  apart j e same = let free_there : is_gone (life_at lives i) ≡ false = ap is_gone (ap (life_at lives) (sym same) ∙ e) in absurd cc

  other_life : (j : ℕ) → j ≢ i → life_at lives' j ≡ life_at lives j
  other_life j ne = get_or-set_other lives i j Free Free ne

  still : (j : ℕ) → life_at lives j ≡ Free → life_at lives' j ≡ Free
  still j e = other_life j (apart j e) ∙ e

  own : LaneShows z lives' l (given now i) (used' l)
  own = record {
    room = r.room;
    of_lane = of_lane;
    unused = unused;
    once = ((λ a. apart i (r.unused i a) refl), r.once);
    all = λ j o e. dite (ℕ_discrete i j) (λ (same : i ≡ j). inl same) (λ (ne : i ≢ j). inr (r.all j o (sym (other_life j (λ x. ne (sym x))) ∙ e)));
    count = omega (arith, r.count, counts l, count_own l 1);
  }
    where
      of_lane : (j : ℕ) → (i ≡ j) ⊎ Among now.free j → IsOfLane z l j
      of_lane j (inl same) = subst (λ (x : ℕ). IsOfLane z l x) same of
      of_lane j (inr a) = r.of_lane j a

      unused : (j : ℕ) → (i ≡ j) ⊎ Among now.free j → life_at lives' j ≡ Free
      unused j (inl same) = ap (life_at lives') (sym same) ∙ get_or-set_same lives i Free Free (omega (arith, lane_below lane of, lives_len))
      unused j (inr a) = still j (r.unused j a)

  others : (k : ℕ) → k ≢ l → k < z.lanes → LaneShows z lives' k (get_or stocks k no_stock) (used' k)
  others k ne b =
      let s = f.each k b in
      record {
        room = s.room;
        of_lane = s.of_lane;
        unused = λ j a. still j (s.unused j a);
        once = s.once;
        all = λ j o e. s.all j o (sym (other_life j (λ same. ne (same_lane o (subst (λ (x : ℕ). IsOfLane z l x) (sym same) of)))) ∙ e);
        count = omega (arith, s.count, counts k, count_other l k 1 ne);
      }

  pub free_pushed : FreeShows z (set names i None) lives' (set stocks l (given now i)) used'
  free_pushed = record {
    lanes = length-set stocks l (given now i) ∙ f.lanes;
    each = set_each stocks l (given now i) (λ k s. k < z.lanes → LaneShows z lives' k s (used' k)) (omega (arith, f.lanes)) (λ b. own) others;
    nameless = λ j e. dite (ℕ_discrete j i)
        (λ (here : j ≡ i). ap (name_at (set names i None)) here ∙ get_or-set_same names i None None (omega (arith, lane_below lane of, names_len)))
        (λ (ne : j ≢ i). get_or-set_other names i j None None ne ∙ f.nameless j (sym (other_life j ne) ∙ e));
  }
