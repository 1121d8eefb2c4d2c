-- A lane closes its frame.
use Rattle.std.proofs.Common.{◌≡◌, ◌⊎◌, ℕ, suc, ◌+◌, ◌-◌, ◌%◌, ◌^◌, ◌<◌, eqb, refl, sym, ap, ◌∙◌, cond, inl, inr, ⊎_elim, Bool, true, false, not, ◌||◌, List, [], ◌∷◌, ◌++◌, length, arith, Option, Some, None}
use Rattle.std.proofs.lemmas.Bool.{eqb-true, or_left}
use Rattle.std.specs.Prelude.{slice_index}
use Rattle.std.specs.List.{list_any}
use mathlib.Core.Option.{some}
use lib.ListN.{get_elem?}
use Rattle.atomic_table.specs.Table.{keeps}
use Rattle.atomic_table.specs.Table as tables
use Rattle.world_model.specs.Sizes.{Sizes, IsLawful}
use Rattle.world_model.specs.NameLists as names
use Rattle.world_model.specs.NameLists.{same_pass}
use Rattle.world_model.specs.World.{is_open, in_world, unit_of, pair_of}
use Rattle.world_model.specs.State.{Frame, no_frame}
use Rattle.world_model.specs.Next.{next}
use Rattle.world_model.specs.Histories.{May}
use Rattle.world_model.specs.Follows.{entry}
use Rattle.world_model.proofs.ListFacts.{any_filter, or_right}
use Rattle.world_model.proofs.Opened.{others, open_others, open_none, one_less}
use Rattle.mark_core.specs.declared.types.Actor.TheVariants as actor
use Rattle.mark_core.specs.Changes.{set_at}
use Rattle.mark_core.specs.Machine.{Core}
use Rattle.mark_core.specs.Steps as event
use Rattle.mark_core.proofs.Steps.{step_lawful}
use Rattle.mark_core.proofs.Tools.{set_there}
use Rattle.mark_core.proofs.Frames.{frames_counted}
use Rattle.heap_rule.specs.Types.{Name, Pass, Lane, Marker, Entry, Memo, View}
use Rattle.heap_rule.specs.Types.act
use Rattle.heap_rule.specs.Types.part
use Rattle.heap_rule.specs.Types.ask
use Rattle.heap_rule.specs.Types.lane_ask
use Rattle.heap_rule.specs.Units.{sizes_of, number}
use Rattle.heap_rule.specs.Colours.{FramesShown, HeldShown}
use Rattle.heap_rule.specs.Removal.{Each}
use Rattle.heap_rule.specs.Licences.{StoresLicensed}
use Rattle.heap_rule.specs.Views.{has_pass, marker_in, memos_but}
use Rattle.heap_rule.specs.Sees.{MarkerSeen, MemoHolds}
use Rattle.heap_rule.specs.LaneMay.{IsReady, IsPaid}
use Rattle.heap_rule.specs.Rule.{Keeps}
use Rattle.heap_rule.specs.Operations.{Keeping}
use Rattle.heap_rule.proofs.Pasts.{OneMore, one_more}
use Rattle.heap_rule.proofs.Moments.{founds_seen, roots_seen, marker_seen, while_look}
use Rattle.heap_rule.proofs.Gates.{gate_sub, Turn, still, with_entry, view_by, Turned, turned}
use Rattle.heap_rule.proofs.Owns.{actors, lane_now, not_theirs, lane_inside}
use Rattle.heap_rule.proofs.Rests.{licensed_rest, units_rest, loosens_rest}

frames_close : (z : Sizes) (l : ℕ) (c : Core) (opened : List Pass) → l < z.lanes → event.IsFree c l → suc (length (others (Lane l) opened)) ≡ length opened
    → FramesShown z c.lane_open c.marker_open opened → FramesShown z (set_at c.lane_open l false) c.marker_open (others (Lane l) opened)
frames_close z l c opened inside may less h =
    let counted = (frames_counted (sizes_of z) c).closes (actor.Lane l) (inside, may) in
    record {
      lanes = λ j. go j (eqb j l) refl;
      markers = λ m. h.markers m ∙ sym (open_others (Lane l) (Marker m) refl opened);
      count = let was = h.count in omega (arith, counted, was, less);
    }
  where
    go : (j : ℕ) (b : Bool) → eqb j l ≡ b → cond b false (c.lane_open j) ≡ list_any (same_pass (Lane j)) (others (Lane l) opened)
    go j true e = sym (ap (λ (i : ℕ). list_any (same_pass (Lane i)) (others (Lane l) opened)) (eqb-true j l e) ∙ open_none (Lane l) opened)
    go j false e = h.lanes j ∙ sym (open_others (Lane l) (Lane j) e opened)

held_close : (l : ℕ) (index : Name → ℕ) (unit : Name → List Name) (frames : ℕ → Frame) (holds : ℕ → ℕ → Bool) → HeldShown index unit (λ j. (frames j).held) holds
    → HeldShown index unit (λ j. (names.set_at frames l no_frame j).held) (set_at holds l (λ u. false))
held_close l index unit frames holds h j n = go (eqb j l)
  where
    go : (b : Bool) → names.has (cond b no_frame (frames j)).held n ≡ true → cond b (λ (u : ℕ). false) (holds j) (number index (unit n)) ≡ true
    go true is = absurd cc
    go false is = h j n is

-- a frame that has marked a unit is one that was closed now, or is open still
stores_close : (l : ℕ) (c : Core) (frames : ℕ → Frame) (stored : Bool) → StoresLicensed c.job c.dirty stored c.lane_open c.marker_open (λ j. (frames j).shaded)
    → StoresLicensed c.job c.dirty (stored || (frames l).shaded) (set_at c.lane_open l false) c.marker_open (λ j. (names.set_at frames l no_frame j).shaded)
stores_close l c frames stored h = while_look c.job (λ f dirty. ⊎_elim (λ s. inl (or_left stored _ s))
    (λ o. ⊎_elim (λ (t : (j : ℕ) × (c.lane_open j ≡ true) × ((frames j).shaded ≡ true)). go t.0 (eqb t.0 l) refl t.1 t.2) (λ m. inr (inr m)) o) (f dirty)) h
  where
    go : (j : ℕ) (b : Bool) → eqb j l ≡ b → c.lane_open j ≡ true → (frames j).shaded ≡ true → ((stored || (frames l).shaded) ≡ true)
        ⊎ (((i : ℕ) × (set_at c.lane_open l false i ≡ true) × ((names.set_at frames l no_frame i).shaded ≡ true)) ⊎ ((m : ℕ) × (c.marker_open m ≡ true)))
    go j true e open_now shaded = inl (or_right stored (frames l).shaded (ap (λ (i : ℕ). (frames i).shaded) (sym (eqb-true j l e)) ∙ shaded))
    go j false e open_now shaded = inr (inl (j, (rw e open_now), (rw e shaded)))

-- the memos of the lane end with its frame, and others stand in open ones
module _ (l : ℕ) (lane_open : ℕ → Bool) (Q : Memo → Type 0) (passes : List Pass) where
  abbrev Stands : (ℕ → Bool) → Memo → Type 0
  Stands opened m = has_pass passes (Lane m.lane) ≡ true → (opened m.lane ≡ true) × Q m

  memos_close : (memos : List Memo) → Each (Stands lane_open) memos → Each (Stands (set_at lane_open l false)) (memos_but l memos)
  memos_close [] h = tt
  memos_close (m ∷ ms) h = go (eqb m.lane l) refl (memos_close ms h.1)
    where
      go : (b : Bool) → eqb m.lane l ≡ b → Each (Stands (set_at lane_open l false)) (memos_but l ms)
          → Each (Stands (set_at lane_open l false)) (cond (not b) (m ∷ memos_but l ms) (memos_but l ms))
      go true e rest = rest
      go false e rest = ((λ own. let was = h.0 own in (rw e was.0, was.1)), rest)

  memos_other : has_pass passes (Lane l) ≡ false → (memos : List Memo) → Each (Stands lane_open) memos → Each (Stands (set_at lane_open l false)) memos
  memos_other off [] h = tt
  memos_other off (m ∷ ms) h = ((λ own. let was = h.0 own in (set_there lane_open l false m.lane (mine own) ∙ was.0, was.1)), memos_other off ms h.1)
    where
      mine : has_pass passes (Lane m.lane) ≡ true → m.lane ≡ l → ⊥
      mine own same = let wrong : false ≡ true = sym off ∙ (ap (λ (i : ℕ). has_pass passes (Lane i)) (sym same) ∙ own) in absurd cc

module _ (z : Sizes) (l : ℕ) (limits : IsLawful z) (id : ℕ) (v : View) (ready : IsReady v l) (paid : IsPaid v l) (s : tables.State (Unit {0}) View) (k : Keeps z s)
    (at : get_elem? s.views id ≡ some v) where
  abbrev pub e : Entry
  e = entry (Lane l) act.FrameClose

  now_open : is_open k.s.world (Lane l) ≡ true
  now_open = (lane_now z s k id v at l ready.pass).opened ∙ ready.opened

  opened_now : k.c.lane_open l ≡ true
  opened_now = k.frames.lanes l ∙ now_open

  empty : k.c.hand l ≡ None
  empty = sym (k.lanes id v at l ready.pass).hand_is ∙ ready.empty

  clear : k.c.lane_owes l ≡ false
  clear = sym (k.lanes id v at l ready.pass).owes_is ∙ ready.clear

  free : event.IsFree k.c l
  free = record { opened = opened_now; hand = empty; owes = clear }

  unprepared : k.prepared l ≡ None
  unprepared = sym (k.lanes id v at l ready.pass).prepared_is ∙ ready.unprepared

  unloose : k.loose l ≡ None
  unloose = sym (k.lanes id v at l ready.pass).loose_is ∙ ready.cut

  inside : l < z.lanes
  inside = lane_inside z s k l opened_now

  less : suc (length (others (Lane l) k.s.world.opened)) ≡ length k.s.world.opened
  less = one_less (Lane l) k.s.world.opened now_open ((actors z s k).once (Lane l))

  room : length (others (Lane l) k.s.world.opened) < 255
  room = let most = (actors z s k).few in let lanes = limits.few_lanes in let markers = limits.few_markers in omega (arith, most, lanes, markers, less)

  none_of : (f : ℕ → Option ℕ) → f l ≡ None → (j i : ℕ) → f j ≡ Some i → j ≡ l → ⊥
  none_of f none j i is same = let wrong : None ≡ Some i = sym none ∙ (ap f (sym same) ∙ is) in absurd cc

  still_open : (j : ℕ) → (j ≡ l → ⊥) → k.c.lane_open j ≡ true → set_at k.c.lane_open l false j ≡ true
  still_open j off is = set_there k.c.lane_open l false j off ∙ is

  may : May z k.s e
  may =
      let mine = (lane_now z s k id v at l ready.pass).frame in
      let owed : (k.s.frames l).owed ≡ None = ap (λ (f : Frame). f.owed) mine ∙ paid in
      let whole : (k.s.frames l).broken ≡ [] = ap (λ (f : Frame). f.broken) mine ∙ ready.whole in
      record { in_range = inside; frame = record { opened = now_open; continues = rw owed tt; parts = rw whole tt }; may = tt }

  abbrev pub closing : Turn
  closing = with_entry k.s e (record (still k.c k.s v) { lane_open = set_at k.c.lane_open l false; holds = set_at k.c.holds l (λ u. false); memos = memos_but l v.memos })

  pub one : OneMore z k.history k.s k.c.parity k.owner s.views id v (record v { memos = memos_but l v.memos }) e
  one = one_more z k.history k.s k.c.parity k.owner s.views id v (record v { memos = memos_but l v.memos }) e refl at ready.pass may k.past

  abbrev Resolves : Memo → Type 0
  Resolves = MemoHolds z (λ i. k.memory (part.Serial i)) k.spot k.index (in_world k.s.world) (pair_of k.s.world)

  seen : (u : View) (m : ℕ) → MarkerSeen z u.passes k.index (unit_of k.s.world) k.c.place (k.c.scan m) (k.c.marker_owes m) (k.c.marker_open m) m (k.s.slices m) (marker_in u.markers m)
      → MarkerSeen z u.passes k.index (unit_of k.s.world) k.c.place (k.c.scan m) (k.c.marker_owes m) (k.c.marker_open m) m ((next k.s e).slices m) (marker_in u.markers m)
  seen u m h = marker_seen z u.passes k.index (unit_of k.s.world) k.c.place (k.c.scan m) (k.c.marker_owes m) (k.c.marker_open m) m (k.s.slices m) (next k.s e).world (marker_in u.markers m) h

  pub closed : Turned z s k id v closing (k.history ++ e ∷ []) ((slice_index s.words 0 + (2 ^ 64 - 256)) % 2 ^ 64)
  closed = record {
    past = one.past;
    lawful = step_lawful (sizes_of z) k.c (actor.Lane l) event.FrameClose (inside, free) k.lawful;
    frames = frames_close z l k.c k.s.world.opened inside free less k.frames;
    gate = rw (k.shows.each part.Gate tt, k.gate, sym less)
        (gate_sub (record { phase = k.c.phase; parity = k.c.parity; dirty = k.c.dirty; frames = length (others (Lane l) k.s.world.opened) }) room);
    held = held_close l k.index (unit_of k.s.world) k.s.frames k.c.holds k.held;
    units = units_rest l k.s.frames k.loose (λ i is. none_of k.loose unloose l i is refl) k.index (λ i. k.memory (part.Next i)) (unit_of k.s.world) k.units;
    loosens = loosens_rest l k.s.frames k.loose (λ i is. none_of k.loose unloose l i is refl) k.s.world.phase k.c.lane_open (set_at k.c.lane_open l false) k.spot (in_world k.s.world)
        (unit_of k.s.world) k.prepared (λ j i is. still_open j (none_of k.prepared unprepared j i is)) (λ j i is. still_open j (none_of k.loose unloose j i is)) k.loosens;
    lane_licence = licensed_rest l k.s.frames k.c.hand k.c.lane_owes empty clear k.lane_licence;
    found_licence = founds_seen k.index k.s.world.units k.c.scan (λ m. (k.s.slices m).moments) (next k.s e).world k.found_licence;
    root_licence = roots_seen k.index k.s.world.units k.c.job k.c.own_hand k.c.own_found k.s.collector.started k.s.collector.shading k.s.marks.moments k.s.world.opened
        (others (Lane l) k.s.world.opened) (λ m. (k.s.slices m).amid_begin) (λ m. (k.s.slices m).amid_begin || false) (next k.s e).world
        (λ m op. any_filter (same_pass (Marker m)) _ k.s.world.opened op) (λ m is. or_left _ false is) k.root_licence;
    store_licence = stores_close l k.c k.s.frames k.s.collector.stored k.store_licence;
    lanes = record { mine = λ h. h; others = λ j u other there h. h };
    markers = record { mine = λ h m is. seen v m (h m is); others = λ j u other there h m is. seen u m (h m is) };
    collector = record { mine = λ h. h; others = λ j u other there h. h };
    memos = record {
      mine = λ h. memos_close l k.c.lane_open Resolves v.passes v.memos h;
      others = λ j u other there h. memos_other l k.c.lane_open Resolves u.passes (not_theirs z s k id v at j u other there (Lane l) ready.pass) u.memos h;
    };
  }

pub closes : (z : Sizes) (l : ℕ) → Keeping z (ask.Lane l lane_ask.Close)
closes z l limits id word v may s k homes at range = rw may.2 (
  view_by v (closing z l limits id v may.0 may.1 s k at) (k.history ++ entry (Lane l) act.FrameClose ∷ []),
  keeps,
  tt,
  turned z s k id v (closing z l limits id v may.0 may.1 s k at) (k.history ++ entry (Lane l) act.FrameClose ∷ []) _ at (closed z l limits id v may.0 may.1 s k at),
  (refl, (k.history, (one z l limits id v may.0 may.1 s k at).adds)),
)
