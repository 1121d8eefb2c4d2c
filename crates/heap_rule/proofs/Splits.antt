-- A seat that is cut in two leaves the rule as it was.
use Rattle.std.proofs.Common.{◌≡◌, ◌≢◌, ℕ, zero, suc, eqb, refl, sym, ap, ◌∙◌, subst, cond, inl, inr, ⊎_elim, ◌⊎◌, Bool, true, false, not, ◌&&◌, List, [], ◌∷◌, ◌++◌, length, set, length-set}
use Rattle.std.proofs.lemmas.Bool.{eq-eqb, ne_eqb}
use mathlib.Core.Option.{some, some-injective, some-ne-none}
use lib.ListN.{get_elem?}
use Rattle.atomic_table.specs.Table.{Splits}
use Rattle.atomic_table.proofs.Lists.{at_set}
use Rattle.world_model.specs.Sizes.{Sizes}
use Rattle.world_model.specs.World.{unit_of, in_world, pair_of}
use Rattle.world_model.specs.Follows.{is_removed}
use Rattle.heap_rule.specs.Types.{Pass, PassSet, View}
use Rattle.heap_rule.specs.Types.part
use Rattle.heap_rule.specs.Views.{EachSeat}
use Rattle.heap_rule.specs.Sees.{SeesHistory}
use Rattle.heap_rule.specs.Seating.{in_set, view_for, dealt, kept}
use Rattle.heap_rule.specs.Rule.{Keeps}
use Rattle.heap_rule.proofs.Seatings.{history_for, lanes_for, markers_for, collector_for, knowns_for, lates_for, memos_for}

-- one seat more
at_end : (views : List View) (w : View) (j : ℕ) (u : View) → get_elem? (views ++ w ∷ []) j ≡ some u → (get_elem? views j ≡ some u) ⊎ ((j ≡ length views) × (w ≡ u))
at_end [] w zero u e = inr (refl, some-injective w u e)
at_end [] w (suc j) u e = absurd (some-ne-none u (sym e))
at_end (x ∷ xs) w zero u e = inl e
at_end (x ∷ xs) w (suc j) u e = ⊎_elim (λ a. inl a) (λ b. inr (ap suc b.0, b.1)) (at_end xs w j u e)

-- one seat has a new view, there is one seat more, and the others keep theirs
pub seats_split : (K L : ℕ → View → Type 0) (views : List View) (id : ℕ) (v left right : View) → get_elem? views id ≡ some v → (K id v → L id left) → (K id v → L (length views) right)
    → ((j : ℕ) (u : View) → j ≢ id → K j u → L j u) → EachSeat K views → EachSeat L (set views id left ++ right ∷ [])
seats_split K L views id v left right at mine new others each j u there =
    ⊎_elim (λ old. ⊎_elim (λ (t : (j ≡ id) × (left ≡ u)). subst (λ (x : ℕ × View). L x.0 x.1) (λ i. (sym t.0 i, t.1 i)) (mine (each id v at)))
    (λ (t : (j ≢ id) × (get_elem? views j ≡ some u)). others j u t.0 (each j u t.1)) (at_set views id j left u old))
    (λ (t : (j ≡ length (set views id left)) × (right ≡ u)). subst (λ (x : ℕ × View). L x.0 x.1) (λ i. (sym (t.0 ∙ length-set views id left) i, t.1 i)) (new (each id v at)))
    (at_end (set views id left) right j u there)

-- the seats that have the passes then
abbrev new_owner : PassSet → (Pass → ℕ) → ℕ → ℕ → Pass → ℕ
new_owner those owner id new p = cond (in_set those p && eqb (owner p) id) new (owner p)

pub splits : (z : Sizes) (those : PassSet) (id : ℕ) (v : View) → Splits (Keeps z) id v (kept those v) (dealt those v)
splits z those id v s k at = record {
  memory = k.memory;
  history = k.history;
  s = k.s;
  c = k.c;
  index = k.index;
  spot = k.spot;
  free = k.free;
  back = k.back;
  making = k.making;
  prepared = k.prepared;
  loose = k.loose;
  sweeping = k.sweeping;
  cursor = k.cursor;
  looking = k.looking;
  chain = k.chain;
  clearing = k.clearing;
  late = k.late;
  owner = now;
  shows = k.shows;
  past = record {
    legal = k.past.legal;
    left = k.past.left;
    parity_is = k.past.parity_is;
    sees = seats_split (SeesHistory k.owner k.history) (SeesHistory now k.history) s.views id v (kept those v) (dealt those v) at
        (history_for (λ p. not (in_set those p)) v k.owner now k.history id id mine)
        (history_for (in_set those) v k.owner now k.history id (length s.views) new)
        (λ j u other was. record { rest = was.rest; begins = was.begins; others = was.others; own = λ p is. others p j other (was.own p is) }) k.past.sees;
  };
  lawful = k.lawful;
  phase = k.phase;
  frames = k.frames;
  gate = k.gate;
  heads = k.heads;
  rows = k.rows;
  root_words = k.root_words;
  colours = k.colours;
  greys = k.greys;
  cells = k.cells;
  roots = k.roots;
  held = k.held;
  contents = k.contents;
  strongs = k.strongs;
  items = k.items;
  blank = k.blank;
  chains = k.chains;
  counts = k.counts;
  units = k.units;
  loosens = k.loosens;
  pairs = k.pairs;
  remains = k.remains;
  clearing_is = k.clearing_is;
  removed_units = k.removed_units;
  removed_chain = k.removed_chain;
  swept = k.swept;
  looks = k.looks;
  counters = k.counters;
  lane_licence = k.lane_licence;
  found_licence = k.found_licence;
  root_licence = k.root_licence;
  store_licence = k.store_licence;
  refs = both k.refs (λ of j h. h);
  lanes = both k.lanes (λ of j h. lanes_for of v k.c.hand k.c.lane_owes k.free k.making k.prepared k.loose id j h);
  markers = both k.markers (λ of j h. markers_for of v z k.index (unit_of k.s.world) k.c.place k.c.scan k.c.marker_owes k.c.marker_open k.s.slices id j h);
  collector =
      both k.collector (λ of j h. collector_for of v z k.c.job k.c.own_hand k.c.own_found k.c.dirty k.cursor k.looking k.sweeping k.chain k.clearing (λ l. k.memory (part.ReturnStock l)) id j h);
  known = both k.known (λ of j h. knowns_for of v k.memory k.spot (is_removed k.s.world) id j h);
  lates = both k.lates (λ of j h. lates_for of v k.late id j h);
  memos = both k.memos (λ of j h. memos_for of v z k.c.lane_open (λ i. k.memory (part.Serial i)) k.spot k.index (in_world k.s.world) (pair_of k.s.world) id j h);
}
  where
    now : Pass → ℕ
    now = new_owner those k.owner id (length s.views)

    mine : (p : Pass) → not (in_set those p) ≡ true → k.owner p ≡ id → now p ≡ id
    mine p out is = go (in_set those p) out
      where
        go : (b : Bool) → not b ≡ true → cond (b && eqb (k.owner p) id) (length s.views) (k.owner p) ≡ id
        go true h = absurd cc
        go false h = is

    new : (p : Pass) → in_set those p ≡ true → k.owner p ≡ id → now p ≡ length s.views
    new p is own = rw (is, eq-eqb (k.owner p) id own) refl

    others : (p : Pass) (j : ℕ) → j ≢ id → k.owner p ≡ j → now p ≡ j
    others p j other is = go (in_set those p) (ne_eqb (k.owner p) id (λ same. other (sym is ∙ same)))
      where
        go : (b : Bool) → eqb (k.owner p) id ≡ false → cond (b && eqb (k.owner p) id) (length s.views) (k.owner p) ≡ j
        go true off = rw off is
        go false off = is

    both : {K : ℕ → View → Type 0} → EachSeat K s.views → ((of : Pass → Bool) (j : ℕ) → K id v → K j (view_for of v)) → EachSeat K (set s.views id (kept those v) ++ dealt those v ∷ [])
    both each f = seats_split _ _ s.views id v (kept those v) (dealt those v) at (f (λ p. not (in_set those p)) id) (f (in_set those) (length s.views)) (λ j u other was. was) each
