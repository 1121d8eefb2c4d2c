-- The dirty bit: a lane or a marker sets it, and the collector clears it.
use Rattle.std.proofs.Common.{◌≡◌, ℕ, ◌+◌, ◌-◌, ◌^◌, eqb, refl, sym, ap, ◌∙◌, subst, cond, inl, inr, Bool, true, false}
use Rattle.std.proofs.lemmas.Bool.{eqb-true}
use Rattle.std.specs.Prelude.{slice_index, bit_or, bit_and, nat_lt}
use mathlib.Core.Option.{some}
use lib.ListN.{get_elem?}
use Rattle.atomic_table.specs.Table.{keeps}
use Rattle.atomic_table.specs.Table as tables
use Rattle.world_model.specs.Sizes.{Sizes, IsLawful}
use Rattle.world_model.specs.World.{unit_of}
use Rattle.world_model.specs.Histories.{after}
use Rattle.word_layout.specs.Places.{row_words}
use Rattle.word_layout.proofs.Changing.{dirty}
use Rattle.mark_core.specs.declared.types.Actor.TheVariants as actor
use Rattle.mark_core.specs.Changes.{set_at}
use Rattle.mark_core.specs.Steps as event
use Rattle.mark_core.specs.Steps.{first_look}
use Rattle.mark_core.proofs.Steps.{step_lawful}
use Rattle.mark_core.proofs.Tools.{at_set, not_false}
use Rattle.heap_rule.specs.Types.{Lane, Marker, Collector, Marking, NoJob, Look, MarkerView, View}
use Rattle.heap_rule.specs.Types.part
use Rattle.heap_rule.specs.Types.ask
use Rattle.heap_rule.specs.Types.lane_ask
use Rattle.heap_rule.specs.Types.marker_ask
use Rattle.heap_rule.specs.Types.collector_ask
use Rattle.heap_rule.specs.Units.{sizes_of}
use Rattle.heap_rule.specs.Licences.{WhileLook, WhileRoots}
use Rattle.heap_rule.specs.Views.{has_pass, Absent, lane_in, marker_in}
use Rattle.heap_rule.specs.Sees.{LaneSeen, MarkerSeen, SeesCollector}
use Rattle.heap_rule.specs.Telling.{with_lane, with_marker, with_collector}
use Rattle.heap_rule.specs.LaneTells.{unclean}
use Rattle.heap_rule.specs.CollectorMay.{AtRest}
use Rattle.heap_rule.specs.Rule.{Keeps}
use Rattle.heap_rule.specs.Operations.{Keeping}
use Rattle.heap_rule.proofs.Pasts.{NoMore, no_more}
use Rattle.heap_rule.proofs.Moments.{while_look}
use Rattle.heap_rule.proofs.Loads.{CollectorIsSeen}
use Rattle.heap_rule.proofs.Gates.{Turn, still, view_by, Turned, turned}
use Rattle.heap_rule.proofs.Looks.{gate_of, saw_gate}
use Rattle.heap_rule.proofs.Owns.{collector_now, not_theirs, lane_inside, marker_inside}

cleared : (f : ℕ → Bool) (l j : ℕ) → set_at f l false j ≡ true → f j ≡ true
cleared f l j h = at_set (λ (b : Bool). b ≡ true → f j ≡ true) f l false j (λ same e. absurd cc) (λ off e. e) h

-- the first look is none at the root set; and a clean gate needs no licence
no_roots : (z : Sizes) (P : Type 0) → WhileRoots (first_look (sizes_of z)) P
no_roots z P = go (nat_lt 0 (row_words z))
  where
    go : (b : Bool) → WhileRoots (cond b (Look 0 0) (Look (z.markers + 1) 0)) P
    go true = tt
    go false = tt

clean_look : (z : Sizes) (Q : Type 0) → WhileLook (first_look (sizes_of z)) (false ≡ true → Q)
clean_look z Q = go (nat_lt 0 (row_words z))
  where
    go : (b : Bool) → WhileLook (cond b (Look 0 0) (Look (z.markers + 1) 0)) (false ≡ true → Q)
    go true = λ h. absurd cc
    go false = λ h. absurd cc

-- another seat knows of the dirty bit what it knew, for a lane or marker that is not its own may have set it
unclean_others : (z : Sizes) (s : tables.State (Unit {0}) View) (k : Keeps z s) (j : ℕ) (u : View) → Absent z u.passes → CollectorIsSeen z s k j u
    → SeesCollector z k.c.job k.c.own_hand k.c.own_found true k.cursor k.looking k.sweeping k.chain k.clearing (λ l. k.memory (part.ReturnStock l)) j u
unclean_others z s k j u off h own = let was = h own in record {
  job_is = was.job_is;
  hand_is = was.hand_is;
  found_is = was.found_is;
  clean_is = λ c. inr off;
  cursor_is = was.cursor_is;
  looking_is = was.looking_is;
  sweeping_is = was.sweeping_is;
  chain_is = was.chain_is;
  clearing_is = was.clearing_is;
  returned_is = was.returned_is;
}

-- and the seat itself knows no more that the gate is clean
unclean_own : (z : Sizes) (s : tables.State (Unit {0}) View) (k : Keeps z s) (id : ℕ) (v w : View) → w.passes ≡ v.passes → w.collector ≡ record v.collector { clean = false } → CollectorIsSeen z s k id v
    → SeesCollector z k.c.job k.c.own_hand k.c.own_found true k.cursor k.looking k.sweeping k.chain k.clearing (λ l. k.memory (part.ReturnStock l)) id w
unclean_own z s k id v w same is h own = let was = h (ap (λ ps. has_pass ps Collector) (sym same) ∙ own) in rw (is, same) (record {
  job_is = was.job_is;
  hand_is = was.hand_is;
  found_is = was.found_is;
  clean_is = λ c. absurd cc;
  cursor_is = was.cursor_is;
  looking_is = was.looking_is;
  sweeping_is = was.sweeping_is;
  chain_is = was.chain_is;
  clearing_is = was.clearing_is;
  returned_is = was.returned_is;
})

module _ (z : Sizes) (l : ℕ) (limits : IsLawful z) (id : ℕ) (v : View) (own : has_pass v.passes (Lane l) ≡ true) (owing : (lane_in v.lanes l).owes ≡ true)
    (s : tables.State (Unit {0}) View) (k : Keeps z s) (at : get_elem? s.views id ≡ some v) where
  owes : k.c.lane_owes l ≡ true
  owes = sym (k.lanes id v at l own).owes_is ∙ owing

  opened : k.c.lane_open l ≡ true
  opened = not_false (k.c.lane_open l) (λ off. let wrong : false ≡ true = sym (k.lawful.lanes.owes_is l off) ∙ owes in absurd cc)

  abbrev pub lane_dirties : Turn
  lane_dirties = record (still k.c k.s v) {
    lane_owes = set_at k.c.lane_owes l false;
    dirty = true;
    lanes = (with_lane l (λ d. record d { owes = false }) v).lanes;
    collector = record v.collector { clean = false };
  }

  pub lane_none : NoMore z k.history k.s k.c.parity k.owner s.views id v (unclean (with_lane l (λ d. record d { owes = false }) v))
  lane_none = no_more z k.history k.s k.c.parity k.owner s.views id v (unclean (with_lane l (λ d. record d { owes = false }) v)) refl at k.past

  own_lane : (j : ℕ) (b : Bool) → eqb j l ≡ b → LaneSeen (k.c.hand j) (k.c.lane_owes j) (k.free j) (k.making j) (k.prepared j) (k.loose j) (lane_in v.lanes j)
      → LaneSeen (k.c.hand j) (cond b false (k.c.lane_owes j)) (k.free j) (k.making j) (k.prepared j) (k.loose j) (cond b (record (record (lane_in v.lanes l) { lane = l }) { owes = false }) (lane_in v.lanes j))
  own_lane j true e h = subst (λ (i : ℕ). LaneSeen (k.c.hand i) false (k.free i) (k.making i) (k.prepared i) (k.loose i) (record (record (lane_in v.lanes l) { lane = l }) { owes = false })) (sym (eqb-true j l e))
      (let was = k.lanes id v at l own in record { hand_is = was.hand_is; owes_is = refl; free_is = was.free_is; making_is = was.making_is; prepared_is = was.prepared_is; loose_is = was.loose_is })
  own_lane j false e h = h

  other_lane : (j : ℕ) (b : Bool) → eqb j l ≡ b → (u : View) → has_pass u.passes (Lane l) ≡ false → has_pass u.passes (Lane j) ≡ true
      → LaneSeen (k.c.hand j) (k.c.lane_owes j) (k.free j) (k.making j) (k.prepared j) (k.loose j) (lane_in u.lanes j)
      → LaneSeen (k.c.hand j) (cond b false (k.c.lane_owes j)) (k.free j) (k.making j) (k.prepared j) (k.loose j) (lane_in u.lanes j)
  other_lane j true e u off has_it h = let wrong : false ≡ true = sym off ∙ (ap (λ (i : ℕ). has_pass u.passes (Lane i)) (sym (eqb-true j l e)) ∙ has_it) in absurd cc
  other_lane j false e u off has_it h = h

  pub lane_dirtied : Turned z s k id v lane_dirties k.history (bit_or (slice_index s.words 0) 8)
  lane_dirtied = record {
    past = lane_none.past;
    lawful = step_lawful (sizes_of z) k.c (actor.Lane l) event.SetDirty (lane_inside z s k l opened, owes) k.lawful;
    frames = k.frames;
    gate = ap (λ (n : ℕ). bit_or n 8) (k.shows.each part.Gate tt ∙ k.gate) ∙ (dirty (gate_of z s k) (saw_gate z s k limits).gate).set;
    held = k.held;
    units = k.units;
    loosens = k.loosens;
    lane_licence = record { hands = k.lane_licence.hands; owing = λ j is. k.lane_licence.owing j (cleared k.c.lane_owes l j is) };
    found_licence = k.found_licence;
    root_licence = k.root_licence;
    store_licence = while_look k.c.job (λ h d. inr (inl (l, opened, k.lane_licence.owing l owes))) k.store_licence;
    lanes = record {
      mine = λ h j is. own_lane j (eqb j l) refl (h j is);
      others = λ i u other there h j is. other_lane j (eqb j l) refl u (not_theirs z s k id v at i u other there (Lane l) own) is (h j is);
    };
    markers = record { mine = λ h. h; others = λ j u other there h. h };
    collector = record {
      mine = unclean_own z s k id v (view_by v lane_dirties k.history) refl refl;
      others = λ j u other there h. unclean_others z s k j u (Lane l, lane_inside z s k l opened, not_theirs z s k id v at j u other there (Lane l) own) h;
    };
    memos = record { mine = λ h. h; others = λ j u other there h. h };
  }

module _ (z : Sizes) (m : ℕ) (limits : IsLawful z) (id : ℕ) (v : View) (own : has_pass v.passes (Marker m) ≡ true) (owing : (marker_in v.markers m).owes ≡ true)
    (s : tables.State (Unit {0}) View) (k : Keeps z s) (at : get_elem? s.views id ≡ some v) where
  owes_still : k.c.marker_owes m ≡ true
  owes_still = sym (k.markers id v at m own).owes_is ∙ owing

  slice_open : k.c.marker_open m ≡ true
  slice_open = not_false (k.c.marker_open m) (λ off. let wrong : false ≡ true = sym (k.lawful.markers.owes_is m off) ∙ owes_still in absurd cc)

  abbrev pub marker_dirties : Turn
  marker_dirties = record (still k.c k.s v) {
    marker_owes = set_at k.c.marker_owes m false;
    dirty = true;
    markers = (with_marker m (λ d. record d { owes = false }) v).markers;
    collector = record v.collector { clean = false };
  }

  pub marker_none : NoMore z k.history k.s k.c.parity k.owner s.views id v (unclean (with_marker m (λ d. record d { owes = false }) v))
  marker_none = no_more z k.history k.s k.c.parity k.owner s.views id v (unclean (with_marker m (λ d. record d { owes = false }) v)) refl at k.past

  abbrev Seen : View → ℕ → Bool → MarkerView → Type 0
  Seen u j owes d = MarkerSeen z u.passes k.index (unit_of k.s.world) k.c.place (k.c.scan j) owes (k.c.marker_open j) j (k.s.slices j) d

  own_marker : (j : ℕ) (b : Bool) → eqb j m ≡ b → Seen v j (k.c.marker_owes j) (marker_in v.markers j)
      → Seen v j (cond b false (k.c.marker_owes j)) (cond b (record (record (marker_in v.markers m) { marker = m }) { owes = false }) (marker_in v.markers j))
  own_marker j true e h = subst (λ (i : ℕ). Seen v i false (record (record (marker_in v.markers m) { marker = m }) { owes = false })) (sym (eqb-true j m e))
      (let was = k.markers id v at m own in record { stack_is = was.stack_is; scan_is = was.scan_is; first_is = was.first_is; owes_is = refl; zeros_are = was.zeros_are })
  own_marker j false e h = h

  other_marker : (j : ℕ) (b : Bool) → eqb j m ≡ b → (u : View) → has_pass u.passes (Marker m) ≡ false → has_pass u.passes (Marker j) ≡ true → Seen u j (k.c.marker_owes j) (marker_in u.markers j)
      → Seen u j (cond b false (k.c.marker_owes j)) (marker_in u.markers j)
  other_marker j true e u off has_it h = let wrong : false ≡ true = sym off ∙ (ap (λ (i : ℕ). has_pass u.passes (Marker i)) (sym (eqb-true j m e)) ∙ has_it) in absurd cc
  other_marker j false e u off has_it h = h

  pub marker_dirtied : Turned z s k id v marker_dirties k.history (bit_or (slice_index s.words 0) 8)
  marker_dirtied = record {
    past = marker_none.past;
    lawful = step_lawful (sizes_of z) k.c (actor.Marker m) event.SetDirty (marker_inside z s k m slice_open, owes_still) k.lawful;
    frames = k.frames;
    gate = ap (λ (n : ℕ). bit_or n 8) (k.shows.each part.Gate tt ∙ k.gate) ∙ (dirty (gate_of z s k) (saw_gate z s k limits).gate).set;
    held = k.held;
    units = k.units;
    loosens = k.loosens;
    lane_licence = k.lane_licence;
    found_licence = k.found_licence;
    root_licence = k.root_licence;
    store_licence = while_look k.c.job (λ h d. inr (inr (m, slice_open))) k.store_licence;
    lanes = record { mine = λ h. h; others = λ j u other there h. h };
    markers = record {
      mine = λ h j is. own_marker j (eqb j m) refl (h j is);
      others = λ i u other there h j is. other_marker j (eqb j m) refl u (not_theirs z s k id v at i u other there (Marker m) own) is (h j is);
    };
    collector = record {
      mine = unclean_own z s k id v (view_by v marker_dirties k.history) refl refl;
      others = λ j u other there h. unclean_others z s k j u (Marker m, marker_inside z s k m slice_open, not_theirs z s k id v at j u other there (Marker m) own) h;
    };
    memos = record { mine = λ h. h; others = λ j u other there h. h };
  }

-- the collector begins to look
module _ (z : Sizes) (limits : IsLawful z) (id : ℕ) (v : View) (rest : AtRest v) (marking : (after v.front).phase ≡ Marking) (s : tables.State (Unit {0}) View) (k : Keeps z s)
    (at : get_elem? s.views id ≡ some v) where
  idle : k.c.job ≡ NoJob
  idle = sym (k.collector id v at rest.pass).job_is ∙ rest.job

  phase : k.c.phase ≡ Marking
  phase = k.phase ∙ ((collector_now z s k id v at rest.pass).phase ∙ marking)

  abbrev pub clears : Turn
  clears = record (still k.c k.s v) {
    dirty = false;
    job = first_look (sizes_of z);
    collector = record v.collector { job = first_look (sizes_of z); clean = true };
  }

  pub clear_none : NoMore z k.history k.s k.c.parity k.owner s.views id v (with_collector (λ d. record d { job = first_look (sizes_of z); clean = true }) v)
  clear_none = no_more z k.history k.s k.c.parity k.owner s.views id v (with_collector (λ d. record d { job = first_look (sizes_of z); clean = true }) v) refl at k.past

  pub clean : Turned z s k id v clears k.history (bit_and (slice_index s.words 0) (2 ^ 64 - 1 - 8))
  clean = record {
    past = clear_none.past;
    lawful = step_lawful (sizes_of z) k.c actor.Collector event.ClearDirty (idle, phase) k.lawful;
    frames = k.frames;
    gate = ap (λ (n : ℕ). bit_and n (2 ^ 64 - 1 - 8)) (k.shows.each part.Gate tt ∙ k.gate) ∙ (dirty (gate_of z s k) (saw_gate z s k limits).gate).cleared;
    held = k.held;
    units = k.units;
    loosens = k.loosens;
    lane_licence = k.lane_licence;
    found_licence = k.found_licence;
    root_licence = record { start = no_roots z _; roots = k.root_licence.roots; shades = k.root_licence.shades; amid_is = k.root_licence.amid_is };
    store_licence = clean_look z _;
    lanes = record { mine = λ h. h; others = λ j u other there h. h };
    markers = record { mine = λ h. h; others = λ j u other there h. h };
    collector = record {
      mine = λ h own. let was = h own in record {
        job_is = refl;
        hand_is = was.hand_is;
        found_is = was.found_is;
        clean_is = λ c. inl refl;
        cursor_is = was.cursor_is;
        looking_is = was.looking_is;
        sweeping_is = was.sweeping_is;
        chain_is = was.chain_is;
        clearing_is = was.clearing_is;
        returned_is = was.returned_is;
      };
      others = λ j u other there h own. let wrong : false ≡ true = sym (not_theirs z s k id v at j u other there Collector rest.pass) ∙ own in absurd cc;
    };
    memos = record { mine = λ h. h; others = λ j u other there h. h };
  }

pub dirties_lane : (z : Sizes) (l : ℕ) → Keeping z (ask.Lane l lane_ask.SetDirty)
dirties_lane z l limits id word v may s k homes at range = rw may.2 (
  view_by v (lane_dirties z l limits id v may.0 may.1 s k at) k.history,
  keeps,
  tt,
  turned z s k id v (lane_dirties z l limits id v may.0 may.1 s k at) k.history _ at (lane_dirtied z l limits id v may.0 may.1 s k at),
  (refl, (k.history, (lane_none z l limits id v may.0 may.1 s k at).adds)),
)

pub dirties_marker : (z : Sizes) (m : ℕ) → Keeping z (ask.Marker m marker_ask.SetDirty)
dirties_marker z m limits id word v may s k homes at range = rw may.2 (
  view_by v (marker_dirties z m limits id v may.0 may.1 s k at) k.history,
  keeps,
  tt,
  turned z s k id v (marker_dirties z m limits id v may.0 may.1 s k at) k.history _ at (marker_dirtied z m limits id v may.0 may.1 s k at),
  (refl, (k.history, (marker_none z m limits id v may.0 may.1 s k at).adds)),
)

pub clears_dirty : (z : Sizes) → Keeping z (ask.Collector collector_ask.ClearDirty)
clears_dirty z limits id word v may s k homes at range = rw may.2 (
  view_by v (clears z limits id v may.0 may.1 s k at) k.history,
  keeps,
  tt,
  turned z s k id v (clears z limits id v may.0 may.1 s k at) k.history _ at (clean z limits id v may.0 may.1 s k at),
  (refl, (k.history, (clear_none z limits id v may.0 may.1 s k at).adds)),
)
