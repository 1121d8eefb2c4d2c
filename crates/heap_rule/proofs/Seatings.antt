-- What a view says of some of its passes is true where the view is.
use Rattle.std.proofs.Common.{◌≡◌, ℕ, refl, sym, ap, ◌∙◌, cond, eqb, inl, inr, ⊎_elim, Bool, true, false, ◌||◌, ◌&&◌, List, [], ◌∷◌, Option, Some}
use Rattle.std.specs.List.{filter}
use Rattle.std.proofs.lemmas.Bool.{eqb-true}
use Rattle.world_model.specs.Sizes.{Sizes}
use Rattle.world_model.specs.NameLists.{same_pass}
use Rattle.world_model.specs.State.{Slicing}
use Rattle.world_model.proofs.ListFacts.{or_true, or_right}
use Rattle.world_model.proofs.Frames.{same_pass_true}
use Rattle.mark_core.specs.Machine.{Scan}
use Rattle.heap_rule.specs.Types.{Name, Ref, Weak, Pass, Lane, Marker, Collector, Entry, Part, Place, Job, Looking, LaneView, MarkerView, Known, View}
use Rattle.heap_rule.specs.Memory.{Memory, same_part}
use Rattle.heap_rule.specs.Items.{Spot}
use Rattle.heap_rule.specs.Removal.{Each}
use Rattle.heap_rule.specs.Counters.{counter_pass}
use Rattle.heap_rule.specs.Views.{has_pass, by_passes, Absent, lane_in, marker_in, known_in, is_late}
use Rattle.heap_rule.specs.Sees.{SeesHistory, SeesLanes, ZerosHold, SeesMarkers, CleanHolds, SeesCollector, SeesKnown, SeesLate, MemoHolds, SeesMemos}
use Rattle.heap_rule.specs.Seating.{counts_for, view_for}
use Rattle.heap_rule.proofs.Placing.{same_part_true}

-- ---- lists of passes

-- a pass that is left is one of the seat, and passes the test
pub pass_for : (of : Pass → Bool) (passes : List Pass) (p : Pass) → has_pass (filter of passes) p ≡ true → (has_pass passes p ≡ true) × (of p ≡ true)
pass_for of [] p h = absurd cc
pass_for of (q ∷ qs) p h = go (of q) refl h (pass_for of qs p)
  where
    go : (b : Bool) → of q ≡ b → has_pass (cond b (q ∷ filter of qs) (filter of qs)) p ≡ true → (has_pass (filter of qs) p ≡ true → (has_pass qs p ≡ true) × (of p ≡ true))
        → ((same_pass p q || has_pass qs p) ≡ true) × (of p ≡ true)
    go true e h rest =
        ⊎_elim (λ (same : same_pass p q ≡ true). (rw same refl, ap of (same_pass_true p q same) ∙ e))
        (λ (t : has_pass (filter of qs) p ≡ true). let r = rest t in (or_right (same_pass p q) (has_pass qs p) r.0, r.1))
        (or_true (same_pass p q) (has_pass (filter of qs) p) h)
    go false e h rest = let r = rest h in (or_right (same_pass p q) (has_pass qs p) r.0, r.1)

pub pass_off : (of : Pass → Bool) (passes : List Pass) (p : Pass) → has_pass passes p ≡ false → has_pass (filter of passes) p ≡ false
pass_off of passes p off = go (has_pass (filter of passes) p) refl
  where
    go : (b : Bool) → has_pass (filter of passes) p ≡ b → b ≡ false
    go true e = let wrong : false ≡ true = sym off ∙ (pass_for of passes p e).0 in absurd cc
    go false e = refl

pub absent_for : (z : Sizes) (of : Pass → Bool) (passes : List Pass) → Absent z passes → Absent z (filter of passes)
absent_for z of passes h = (h.0, h.1, pass_off of passes h.0 h.2)

-- entries of none of the passes are of none of those that are left
pub none_for : (of : Pass → Bool) (passes : List Pass) (es : List Entry) → by_passes passes es ≡ [] → by_passes (filter of passes) es ≡ []
none_for of passes [] h = refl
none_for of passes (e ∷ es) h = go (has_pass passes e.pass) refl h (none_for of passes es)
  where
    go : (b : Bool) → has_pass passes e.pass ≡ b → cond b (e ∷ by_passes passes es) (by_passes passes es) ≡ [] → (by_passes passes es ≡ [] → by_passes (filter of passes) es ≡ [])
        → cond (has_pass (filter of passes) e.pass) (e ∷ by_passes (filter of passes) es) (by_passes (filter of passes) es) ≡ []
    go true is h rest = absurd cc
    go false is h rest = rw (pass_off of passes e.pass is) (rest h)

-- ---- what is looked up

pub lane_for : (of : Pass → Bool) (ds : List LaneView) (l : ℕ) → of (Lane l) ≡ true → lane_in (filter (λ d. of (Lane d.lane)) ds) l ≡ lane_in ds l
lane_for of [] l is = refl
lane_for of (d ∷ ds) l is = go (of (Lane d.lane)) refl (eqb l d.lane) refl (lane_for of ds l is)
  where
    go : (b : Bool) → of (Lane d.lane) ≡ b → (a : Bool) → eqb l d.lane ≡ a → lane_in (filter (λ e. of (Lane e.lane)) ds) l ≡ lane_in ds l
        → lane_in (cond b (d ∷ filter (λ e. of (Lane e.lane)) ds) (filter (λ e. of (Lane e.lane)) ds)) l ≡ cond (eqb l d.lane) d (lane_in ds l)
    go true e a f rest = ap (λ (x : LaneView). cond (eqb l d.lane) d x) rest
    go false e true f rest = let wrong : false ≡ true = sym e ∙ (ap (λ (i : ℕ). of (Lane i)) (sym (eqb-true l d.lane f)) ∙ is) in absurd cc
    go false e false f rest = rw f rest

pub marker_for : (of : Pass → Bool) (ds : List MarkerView) (m : ℕ) → of (Marker m) ≡ true → marker_in (filter (λ d. of (Marker d.marker)) ds) m ≡ marker_in ds m
marker_for of [] m is = refl
marker_for of (d ∷ ds) m is = go (of (Marker d.marker)) refl (eqb m d.marker) refl (marker_for of ds m is)
  where
    go : (b : Bool) → of (Marker d.marker) ≡ b → (a : Bool) → eqb m d.marker ≡ a → marker_in (filter (λ e. of (Marker e.marker)) ds) m ≡ marker_in ds m
        → marker_in (cond b (d ∷ filter (λ e. of (Marker e.marker)) ds) (filter (λ e. of (Marker e.marker)) ds)) m ≡ cond (eqb m d.marker) d (marker_in ds m)
    go true e a f rest = ap (λ (x : MarkerView). cond (eqb m d.marker) d x) rest
    go false e true f rest = let wrong : false ≡ true = sym e ∙ (ap (λ (i : ℕ). of (Marker i)) (sym (eqb-true m d.marker f)) ∙ is) in absurd cc
    go false e false f rest = rw f rest

pub known_for : (of : Pass → Bool) (ks : List Known) (p : Pass) (q : Part) → of p ≡ true → known_in (filter (λ k. of k.pass) ks) p q ≡ known_in ks p q
known_for of [] p q is = refl
known_for of (k ∷ ks) p q is = go (of k.pass) refl (same_pass p k.pass) refl (known_for of ks p q is)
  where
    go : (b : Bool) → of k.pass ≡ b → (a : Bool) → same_pass p k.pass ≡ a → known_in (filter (λ e. of e.pass) ks) p q ≡ known_in ks p q
        → known_in (cond b (k ∷ filter (λ e. of e.pass) ks) (filter (λ e. of e.pass) ks)) p q ≡ cond (same_pass p k.pass && same_part q k.part) (Some k.value) (known_in ks p q)
    go true e a f rest = ap (λ (x : Option ℕ). cond (same_pass p k.pass && same_part q k.part) (Some k.value) x) rest
    go false e true f rest = let wrong : false ≡ true = sym e ∙ (ap of (sym (same_pass_true p k.pass f)) ∙ is) in absurd cc
    go false e false f rest = rw f rest

pub late_for : (of : Pass → Bool) (qs : List Part) (q : Part) (p : Pass) → counter_pass q ≡ Some p → of p ≡ true → is_late (filter (λ r. counts_for of (counter_pass r)) qs) q ≡ is_late qs q
late_for of [] q p is own = refl
late_for of (r ∷ rs) q p is own = go (counts_for of (counter_pass r)) refl (same_part q r) refl (late_for of rs q p is own)
  where
    go : (b : Bool) → counts_for of (counter_pass r) ≡ b → (a : Bool) → same_part q r ≡ a → is_late (filter (λ e. counts_for of (counter_pass e)) rs) q ≡ is_late rs q
        → is_late (cond b (r ∷ filter (λ e. counts_for of (counter_pass e)) rs) (filter (λ e. counts_for of (counter_pass e)) rs)) q ≡ (same_part q r || is_late rs q)
    go true e a f rest = ap (λ (x : Bool). same_part q r || x) rest
    go false e true f rest =
        let wrong : false ≡ true = sym e ∙ (ap (λ (x : Part). counts_for of (counter_pass x)) (sym (same_part_true q r f)) ∙ (ap (counts_for of) is ∙ own)) in absurd cc
    go false e false f rest = rw f rest

pub each_for : {A : Type 0} (P Q : A → Type 0) (keep : A → Bool) (xs : List A) → ((x : A) → P x → Q x) → Each P xs → Each Q (filter keep xs)
each_for P Q keep [] f h = tt
each_for P Q keep (x ∷ xs) f h = go (keep x) (each_for P Q keep xs f h.1)
  where
    go : (b : Bool) → Each Q (filter keep xs) → Each Q (cond b (x ∷ filter keep xs) (filter keep xs))
    go true rest = (f x h.0, rest)
    go false rest = rest

-- ---- each fact of a seat

module _ (of : Pass → Bool) (v : View) where
  pub history_for : (owner now : Pass → ℕ) (history : List Entry) (id j : ℕ) → ((p : Pass) → of p ≡ true → owner p ≡ id → now p ≡ j)
      → SeesHistory owner history id v → SeesHistory now history j (view_for of v)
  history_for owner now history id j own h = record {
    rest = h.rest;
    begins = h.begins;
    others = none_for of v.passes h.rest h.others;
    own = λ p is. let t = pass_for of v.passes p is in own p t.1 (h.own p t.0);
  }

  pub lanes_for : (hand : ℕ → Option ℕ) (owes : ℕ → Bool) (free making : ℕ → List ℕ) (prepared loose : ℕ → Option ℕ) (id j : ℕ)
      → SeesLanes hand owes free making prepared loose id v → SeesLanes hand owes free making prepared loose j (view_for of v)
  lanes_for hand owes free making prepared loose id j h = λ l is. let t = pass_for of v.passes (Lane l) is in rw (lane_for of v.lanes l t.1) (h l t.0)

  zeros_for : (z : Sizes) (place : ℕ → Place) (m : ℕ) (slice : Slicing) (zeros : List ℕ) → ZerosHold z v.passes place m slice zeros → ZerosHold z (filter of v.passes) place m slice zeros
  zeros_for z place m slice zeros (inl t) = inl (t.0, absent_for z of v.passes t.1)
  zeros_for z place m slice zeros (inr (inl t)) = inr (inl (t.0, pass_off of v.passes Collector t.1))
  zeros_for z place m slice zeros (inr (inr t)) = inr (inr t)

  pub markers_for : (z : Sizes) (index : Name → ℕ) (unit : Name → List Name) (place : ℕ → Place) (scan : ℕ → Option Scan) (owes opened : ℕ → Bool) (slices : ℕ → Slicing) (id j : ℕ)
      → SeesMarkers z index unit place scan owes opened slices id v → SeesMarkers z index unit place scan owes opened slices j (view_for of v)
  markers_for z index unit place scan owes opened slices id j h = λ m is.
      let t = pass_for of v.passes (Marker m) is in
      let was = h m t.0 in
      rw (marker_for of v.markers m t.1)
      (record {
        stack_is = was.stack_is;
        scan_is = was.scan_is;
        first_is = was.first_is;
        owes_is = was.owes_is;
        zeros_are = λ op. zeros_for z place m (slices m) (marker_in v.markers m).zeros (was.zeros_are op);
      })

  clean_for : (z : Sizes) (dirty clean : Bool) → CleanHolds z v.passes dirty clean → CleanHolds z (filter of v.passes) dirty clean
  clean_for z dirty clean h is = ⊎_elim (λ a. inl a) (λ b. inr (absent_for z of v.passes b)) (h is)

  pub collector_for : (z : Sizes) (job : Job) (hand : Option ℕ) (found : ℕ → Bool) (dirty : Bool) (cursor : ℕ) (looking : Looking) (sweeping : List Name) (chain : List Ref)
      (clearing : Option Name) (stocks : ℕ → ℕ) (id j : ℕ)
      → SeesCollector z job hand found dirty cursor looking sweeping chain clearing stocks id v → SeesCollector z job hand found dirty cursor looking sweeping chain clearing stocks j (view_for of v)
  collector_for z job hand found dirty cursor looking sweeping chain clearing stocks id j h = λ is.
      let t = pass_for of v.passes Collector is in
      let was = h t.0 in
      rw t.1
      (record {
        job_is = was.job_is;
        hand_is = was.hand_is;
        found_is = was.found_is;
        clean_is = clean_for z dirty v.collector.clean was.clean_is;
        cursor_is = was.cursor_is;
        looking_is = was.looking_is;
        sweeping_is = was.sweeping_is;
        chain_is = was.chain_is;
        clearing_is = was.clearing_is;
        returned_is = was.returned_is;
      })

  pub knowns_for : (memory : Memory) (spot : ℕ → Spot) (removed : Name → Bool) (id j : ℕ) → SeesKnown memory spot removed id v → SeesKnown memory spot removed j (view_for of v)
  knowns_for memory spot removed id j h = λ p q x is k. let t = pass_for of v.passes p is in h p q x t.0 (sym (known_for of v.known p q t.1) ∙ k)

  pub lates_for : (late : Part → Bool) (id j : ℕ) → SeesLate late id v → SeesLate late j (view_for of v)
  lates_for late id j h = λ q p counts is. let t = pass_for of v.passes p is in h q p counts t.0 ∙ sym (late_for of v.late q p counts t.1)

  pub memos_for : (z : Sizes) (lane_open : ℕ → Bool) (serial : ℕ → ℕ) (spot : ℕ → Spot) (index : Name → ℕ) (living : Name → Bool) (pair_of : Name → Option Weak) (id j : ℕ)
      → SeesMemos z lane_open serial spot index living pair_of id v → SeesMemos z lane_open serial spot index living pair_of j (view_for of v)
  memos_for z lane_open serial spot index living pair_of id j h =
      each_for (λ m. has_pass v.passes (Lane m.lane) ≡ true → (lane_open m.lane ≡ true) × MemoHolds z serial spot index living pair_of m)
      (λ m. has_pass (filter of v.passes) (Lane m.lane) ≡ true → (lane_open m.lane ≡ true) × MemoHolds z serial spot index living pair_of m)
      (λ m. of (Lane m.lane)) v.memos (λ m f is. f (pass_for of v.passes (Lane m.lane) is).0) h
