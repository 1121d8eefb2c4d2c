-- Two seats that are made one leave the rule as it was.
use Rattle.std.proofs.Common.{◌≡◌, ◌≢◌, ℕ, eqb, rules, refl, sym, ap, ◌∙◌, subst, cond, ⊎_elim, ◌≤◌, Bool, true, false, List, [], ◌∷◌, ◌++◌, length, set}
use Rattle.std.specs.Prelude.{nat_le}
use Rattle.std.specs.List.{filter, AllByRecursion}
use Rattle.std.proofs.lemmas.Bool.{eq-eqb, ne_eqb}
use mathlib.Core.Option.{some}
use lib.ListN.{get_elem?}
use Rattle.atomic_table.specs.Table.{Joins}
use Rattle.atomic_table.proofs.Lists.{at_set, set_else}
use Rattle.world_model.specs.Sizes.{Sizes}
use Rattle.world_model.specs.World.{unit_of, in_world, pair_of, is_open}
use Rattle.world_model.specs.State as state
use Rattle.world_model.specs.Histories.{Legal, state_of, after}
use Rattle.world_model.specs.Follows.{is_removed}
use Rattle.world_model.proofs.Leaving.{markers_stay_holds}
use Rattle.heap_rule.specs.Types.{Pass, Lane, Marker, Collector, Entry, Memo, View}
use Rattle.heap_rule.specs.Types.part
use Rattle.heap_rule.specs.Removal.{Each}
use Rattle.heap_rule.specs.Views.{EachSeat, has_pass, by_passes}
use Rattle.heap_rule.specs.Sees.{SeesHistory, KnowsRef, SeesLanes, SeesMarkers, SeesCollector, SeesKnown, SeesLate, MemoHolds, SeesMemos}
use Rattle.heap_rule.specs.Counters.{counter_pass}
use Rattle.heap_rule.specs.Seating.{counts_for, longer, joined, spent, MayJoin}
use Rattle.heap_rule.specs.Rule.{Keeps}
use Rattle.heap_rule.proofs.Seatings.{lane_for, marker_for, known_for, late_for}
use Rattle.heap_rule.proofs.Joinings.{pass_both, none_both, none_behind, ends_with_rest, lane_first, lane_second, marker_first, marker_second, known_first, known_second, late_first, late_second, each_both, each_kept}

-- one seat takes in another, which is spent, and the others keep their views
pub seats_join : (K L : ℕ → View → Type 0) (views : List View) (id other : ℕ) (v w both spent : View) → get_elem? views id ≡ some v
    → get_elem? views other ≡ some w → (K id v → K other w → L id both) → L other spent
    → ((j : ℕ) (u : View) → j ≢ id → j ≢ other → K j u → L j u) → EachSeat K views → EachSeat L (set (set views id both) other spent)
seats_join K L views id other v w both spent at at_w mine none others each j u there =
    ⊎_elim (λ (t : (j ≡ other) × (spent ≡ u)). subst (λ (x : ℕ × View). L x.0 x.1) (λ i. (sym t.0 i, t.1 i)) none)
    (λ (t : (j ≢ other) × (get_elem? (set views id both) j ≡ some u)). ⊎_elim
    (λ (q : (j ≡ id) × (both ≡ u)). subst (λ (x : ℕ × View). L x.0 x.1) (λ i. (sym q.0 i, q.1 i)) (mine (each id v at) (each other w at_w)))
    (λ (q : (j ≢ id) × (get_elem? views j ≡ some u)). others j u q.0 t.0 (each j u q.1)) (at_set views id j both u t.1))
    (at_set (set views id both) other j spent u there)

none_of_none : (es : List Entry) → by_passes [] es ≡ []
none_of_none [] = refl
none_of_none (e ∷ es) = none_of_none es

-- entries of none of these passes are of others than one of them
pub others_of : (passes : List Pass) (p : Pass) → has_pass passes p ≡ true → (rest : List Entry) → by_passes passes rest ≡ [] → AllByRecursion (λ e. e.pass ≢ p) rest
others_of passes p own [] none = tt
others_of passes p own (e ∷ es) none = go (has_pass passes e.pass) refl none (λ h. others_of passes p own es h)
  where
    go : (b : Bool) → has_pass passes e.pass ≡ b → cond b (e ∷ by_passes passes es) (by_passes passes es) ≡ [] → (by_passes passes es ≡ [] → AllByRecursion (λ e. e.pass ≢ p) es)
        → (e.pass ≢ p) × AllByRecursion (λ e. e.pass ≢ p) es
    go true is h tail = absurd cc
    go false is h tail = ((λ (same : e.pass ≡ p). let wrong : false ≡ true = sym is ∙ (ap (has_pass passes) same ∙ own) in absurd cc), tail h)

-- the longer of two beginnings, and what is behind it
record SeesBoth (history : List Entry) (v w : View) : Type 0 where
  pub rest : List Entry
  pub begins : history ≡ longer v.front w.front ++ rest
  pub left : by_passes v.passes rest ≡ []
  pub right : by_passes w.passes rest ≡ []

sees_both : (owner : Pass → ℕ) (history : List Entry) (id other : ℕ) (v w : View) → SeesHistory owner history id v → SeesHistory owner history other w → SeesBoth history v w
sees_both owner history id other v w a b = go (nat_le (length w.front) (length v.front)) refl
  where
    go : (c : Bool) → nat_le (length w.front) (length v.front) ≡ c → SeesBoth history v w
    go true e =
        let less : length w.front ≤ length v.front = search rules in
        let mid = ends_with_rest v.front w.front a.rest b.rest (sym a.begins ∙ b.begins) less in
        record { rest = a.rest; begins = (rw e a.begins); left = a.others; right = none_behind w.passes mid.0 a.rest (ap (by_passes w.passes) (sym mid.1) ∙ b.others) }
    go false e =
        let less : length v.front ≤ length w.front = search rules in
        let mid = ends_with_rest w.front v.front b.rest a.rest (sym b.begins ∙ a.begins) less in
        record { rest = b.rest; begins = (rw e b.begins); left = none_behind v.passes mid.0 b.rest (ap (by_passes v.passes) (sym mid.1) ∙ a.others); right = b.others }

pub joins : (z : Sizes) (id other : ℕ) (v w : View) → MayJoin v w → Joins (Keeps z) id v other w (joined v w) spent
joins z id other v w may s k at apart at_new = record {
  memory = k.memory;
  history = k.history;
  s = k.s;
  c = k.c;
  index = k.index;
  spot = k.spot;
  free = k.free;
  back = k.back;
  making = k.making;
  prepared = k.prepared;
  loose = k.loose;
  sweeping = k.sweeping;
  cursor = k.cursor;
  looking = k.looking;
  chain = k.chain;
  clearing = k.clearing;
  late = k.late;
  owner = now;
  shows = k.shows;
  past = record {
    legal = k.past.legal;
    left = k.past.left;
    parity_is = k.past.parity_is;
    sees = seats_join (SeesHistory k.owner k.history) (SeesHistory now k.history) s.views id other v w (joined v w) spent at at_w
        (λ a b. record { rest = seen.rest; begins = seen.begins; others = none_both v.passes w.passes seen.rest seen.left seen.right; own = own_now })
        (record { rest = k.history; begins = refl; others = none_of_none k.history; own = λ p is. absurd cc })
        (λ j u off off_other was. record { rest = was.rest; begins = was.begins; others = was.others; own = λ p is. others_now p j off off_other (was.own p is) }) k.past.sees;
  };
  lawful = k.lawful;
  phase = k.phase;
  frames = k.frames;
  gate = k.gate;
  heads = k.heads;
  rows = k.rows;
  root_words = k.root_words;
  colours = k.colours;
  greys = k.greys;
  cells = k.cells;
  roots = k.roots;
  held = k.held;
  contents = k.contents;
  strongs = k.strongs;
  items = k.items;
  blank = k.blank;
  chains = k.chains;
  counts = k.counts;
  units = k.units;
  loosens = k.loosens;
  pairs = k.pairs;
  remains = k.remains;
  clearing_is = k.clearing_is;
  removed_units = k.removed_units;
  removed_chain = k.removed_chain;
  swept = k.swept;
  looks = k.looks;
  counters = k.counters;
  lane_licence = k.lane_licence;
  found_licence = k.found_licence;
  root_licence = k.root_licence;
  store_licence = k.store_licence;
  refs = both k.refs (λ a b. each_both (KnowsRef z k.index k.s.world.kinds) v.refs w.refs a b) tt;
  lanes = both k.lanes (λ a b. lanes_now a b) (λ l is. absurd cc);
  markers = both k.markers (λ a b. markers_now a b) (λ m is. absurd cc);
  collector = both k.collector (λ a b. collector_now a b) (λ is. absurd cc);
  known = both k.known (λ a b. known_now a b) (λ p q x is. absurd cc);
  lates = both k.lates (λ a b. lates_now a b) (λ q p counts is. absurd cc);
  memos = both k.memos (λ a b. memos_now a b) tt;
}
  where
    at_w : get_elem? s.views other ≡ some w
    at_w = sym (set_else s.views id other (joined v w) apart) ∙ at_new

    seen_v : SeesHistory k.owner k.history id v
    seen_v = k.past.sees id v at

    seen_w : SeesHistory k.owner k.history other w
    seen_w = k.past.sees other w at_w

    seen : SeesBoth k.history v w
    seen = sees_both k.owner k.history id other v w seen_v seen_w

    now : Pass → ℕ
    now p = cond (eqb (k.owner p) other) id (k.owner p)

    -- no pass is of both
    off_w : (p : Pass) → has_pass v.passes p ≡ true → has_pass w.passes p ≡ false
    off_w p is = go (has_pass w.passes p) refl
      where
        go : (b : Bool) → has_pass w.passes p ≡ b → b ≡ false
        go true e = absurd (apart (sym (seen_w.own p e) ∙ seen_v.own p is))
        go false e = refl

    off_v : (p : Pass) → has_pass w.passes p ≡ true → has_pass v.passes p ≡ false
    off_v p is = go (has_pass v.passes p) refl
      where
        go : (b : Bool) → has_pass v.passes p ≡ b → b ≡ false
        go true e = absurd (apart (sym (seen_w.own p is) ∙ seen_v.own p e))
        go false e = refl

    own_now : (p : Pass) → has_pass (v.passes ++ w.passes) p ≡ true → now p ≡ id
    own_now p is = ⊎_elim
        (λ (a : has_pass v.passes p ≡ true). let off : eqb (k.owner p) other ≡ false = ne_eqb (k.owner p) other (λ same. apart (sym same ∙ seen_v.own p a)) in rw off (seen_v.own p a))
        (λ (b : has_pass w.passes p ≡ true). rw (eq-eqb (k.owner p) other (seen_w.own p b)) refl) (pass_both v.passes w.passes p is)

    others_now : (p : Pass) (j : ℕ) → j ≢ id → j ≢ other → k.owner p ≡ j → now p ≡ j
    others_now p j off off_other is = rw (ne_eqb (k.owner p) other (λ same. off_other (sym is ∙ same))) is

    both : {K : ℕ → View → Type 0} → EachSeat K s.views → (K id v → K other w → K id (joined v w)) → K other spent → EachSeat K (set (set s.views id (joined v w)) other spent)
    both each f none = seats_join _ _ s.views id other v w (joined v w) spent at at_w f none (λ j u off off_other was. was) each

    lanes_now : SeesLanes k.c.hand k.c.lane_owes k.free k.making k.prepared k.loose id v → SeesLanes k.c.hand k.c.lane_owes k.free k.making k.prepared k.loose other w
        → SeesLanes k.c.hand k.c.lane_owes k.free k.making k.prepared k.loose id (joined v w)
    lanes_now a b l is = ⊎_elim
        (λ (h : has_pass v.passes (Lane l) ≡ true). rw (lane_first (has_pass v.passes) (has_pass w.passes) v.lanes w.lanes l h (off_w (Lane l) h)) (a l h))
        (λ (h : has_pass w.passes (Lane l) ≡ true). rw (
          lane_second (has_pass v.passes) v.lanes (filter (λ d. has_pass w.passes (Lane d.lane)) w.lanes) l (off_v (Lane l) h),
          lane_for
              (has_pass w.passes) w.lanes l h,
        ) (b l h))
        (pass_both v.passes w.passes (Lane l) is)

    -- a marker whose slice the seat has seen closed has it closed
    closed : (j m : ℕ) (u : View) → SeesHistory k.owner k.history j u → has_pass u.passes (Marker m) ≡ true → is_open (after u.front) (Marker m) ≡ false → k.c.marker_open m ≡ false
    closed j m u h own off =
        let legal : Legal z (u.front ++ h.rest) = subst (Legal z) h.begins k.past.legal in
        let same = (markers_stay_holds z u.front h.rest m legal (others_of u.passes (Marker m) own h.rest h.others)).opened in
        k.frames.markers m ∙ (subst (λ (t : state.State). is_open t.world (Marker m) ≡ is_open (after u.front) (Marker m)) (ap state_of (sym h.begins) ∙ k.past.left) same ∙ off)

    markers_now : SeesMarkers z k.index (unit_of k.s.world) k.c.place k.c.scan k.c.marker_owes k.c.marker_open k.s.slices id v
        → SeesMarkers z k.index (unit_of k.s.world) k.c.place k.c.scan k.c.marker_owes k.c.marker_open k.s.slices other w
        → SeesMarkers z k.index (unit_of k.s.world) k.c.place k.c.scan k.c.marker_owes k.c.marker_open k.s.slices id (joined v w)
    markers_now a b m is = ⊎_elim
        (λ (h : has_pass v.passes (Marker m) ≡ true). let was = a m h in rw (marker_first (has_pass v.passes) (has_pass w.passes) v.markers w.markers m h (off_w (Marker m) h))
        (record {
          stack_is = was.stack_is;
          scan_is = was.scan_is;
          first_is = was.first_is;
          owes_is = was.owes_is;
          zeros_are = λ op. let off = closed id m v seen_v h (may.left m h) in let wrong : false ≡ true = sym off ∙ op in absurd cc;
        }))
        (λ (h : has_pass w.passes (Marker m) ≡ true). let was = b m h in
        rw (marker_second (has_pass v.passes) v.markers (filter (λ d. has_pass w.passes (Marker d.marker)) w.markers) m (off_v (Marker m) h), marker_for (has_pass w.passes) w.markers m h)
        (record {
          stack_is = was.stack_is;
          scan_is = was.scan_is;
          first_is = was.first_is;
          owes_is = was.owes_is;
          zeros_are = λ op. let off = closed other m w seen_w h (may.right m h) in let wrong : false ≡ true = sym off ∙ op in absurd cc;
        }))
        (pass_both v.passes w.passes (Marker m) is)

    collector_now : SeesCollector z k.c.job k.c.own_hand k.c.own_found k.c.dirty k.cursor k.looking k.sweeping k.chain k.clearing (λ l. k.memory (part.ReturnStock l)) id v
        → SeesCollector z k.c.job k.c.own_hand k.c.own_found k.c.dirty k.cursor k.looking k.sweeping k.chain k.clearing (λ l. k.memory (part.ReturnStock l)) other w
        → SeesCollector z k.c.job k.c.own_hand k.c.own_found k.c.dirty k.cursor k.looking k.sweeping k.chain k.clearing (λ l. k.memory (part.ReturnStock l)) id (joined v w)
    collector_now a b is = ⊎_elim
        (λ (h : has_pass v.passes Collector ≡ true). let was = a h in rw h (record {
          job_is = was.job_is;
          hand_is = was.hand_is;
          found_is = was.found_is;
          clean_is = λ c. absurd cc;
          cursor_is = was.cursor_is;
          looking_is = was.looking_is;
          sweeping_is = was.sweeping_is;
          chain_is = was.chain_is;
          clearing_is = was.clearing_is;
          returned_is = was.returned_is;
        }))
        (λ (h : has_pass w.passes Collector ≡ true). let was = b h in rw (off_v Collector h) (record {
          job_is = was.job_is;
          hand_is = was.hand_is;
          found_is = was.found_is;
          clean_is = λ c. absurd cc;
          cursor_is = was.cursor_is;
          looking_is = was.looking_is;
          sweeping_is = was.sweeping_is;
          chain_is = was.chain_is;
          clearing_is = was.clearing_is;
          returned_is = was.returned_is;
        }))
        (pass_both v.passes w.passes Collector is)

    known_now : SeesKnown k.memory k.spot (is_removed k.s.world) id v → SeesKnown k.memory k.spot (is_removed k.s.world) other w → SeesKnown k.memory k.spot (is_removed k.s.world) id (joined v w)
    known_now a b p q x is e = ⊎_elim
        (λ (h : has_pass v.passes p ≡ true). a p q x h (sym (known_first (has_pass v.passes) (has_pass w.passes) v.known w.known p q h (off_w p h)) ∙ e))
        (λ (h : has_pass w.passes p ≡ true). b p q x h (sym (known_second (has_pass v.passes) v.known (filter (λ d. has_pass w.passes d.pass) w.known) p q (off_v p h)
        ∙ known_for (has_pass w.passes) w.known p q h) ∙ e))
        (pass_both v.passes w.passes p is)

    lates_now : SeesLate k.late id v → SeesLate k.late other w → SeesLate k.late id (joined v w)
    lates_now a b q p counts is = ⊎_elim
        (λ (h : has_pass v.passes p ≡ true). a q p counts h ∙ sym (late_first (has_pass v.passes) (has_pass w.passes) v.late w.late q p counts h (off_w p h)))
        (λ (h : has_pass w.passes p ≡ true). b q p counts h ∙ sym (late_second (has_pass v.passes) v.late (filter (λ r. counts_for (has_pass w.passes) (counter_pass r)) w.late) q p counts
        (off_v p h) ∙ late_for (has_pass w.passes) w.late q p counts h))
        (pass_both v.passes w.passes p is)

    Holds : Memo → Type 0
    Holds m = (k.c.lane_open m.lane ≡ true) × MemoHolds z (λ i. k.memory (part.Serial i)) k.spot k.index (in_world k.s.world) (pair_of k.s.world) m

    memos_of : (passes : List Pass) (memos : List Memo) → Each (λ m. has_pass passes (Lane m.lane) ≡ true → Holds m) memos
        → Each (λ m. has_pass (v.passes ++ w.passes) (Lane m.lane) ≡ true → Holds m) (filter (λ m. has_pass passes (Lane m.lane)) memos)
    memos_of passes memos h =
        each_kept (λ m. has_pass passes (Lane m.lane) ≡ true → Holds m) (λ m. has_pass (v.passes ++ w.passes) (Lane m.lane) ≡ true → Holds m) (λ m. has_pass passes (Lane m.lane)) memos
        (λ m is f has_it. f is) h

    memos_now : SeesMemos z k.c.lane_open (λ i. k.memory (part.Serial i)) k.spot k.index (in_world k.s.world) (pair_of k.s.world) id v
        → SeesMemos z k.c.lane_open (λ i. k.memory (part.Serial i)) k.spot k.index (in_world k.s.world) (pair_of k.s.world) other w
        → SeesMemos z k.c.lane_open (λ i. k.memory (part.Serial i)) k.spot k.index (in_world k.s.world) (pair_of k.s.world) id (joined v w)
    memos_now a b =
        each_both (λ m. has_pass (v.passes ++ w.passes) (Lane m.lane) ≡ true → Holds m) (filter (λ m. has_pass v.passes (Lane m.lane)) v.memos)
        (filter (λ m. has_pass w.passes (Lane m.lane)) w.memos) (memos_of v.passes v.memos a) (memos_of w.passes w.memos b)
