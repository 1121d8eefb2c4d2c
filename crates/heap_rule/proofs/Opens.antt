-- A lane opens its frame.
use Rattle.std.proofs.Common.{◌≡◌, ℕ, ◌+◌, ◌%◌, ◌^◌, ◌<◌, eqb, refl, sym, ap, ◌∙◌, cond, inl, inr, ⊎_elim, Bool, true, false, ◌||◌, List, [], ◌∷◌, ◌++◌, length, arith, Some}
use Rattle.std.proofs.lemmas.Bool.{or_left}
use Rattle.std.specs.Prelude.{slice_index}
use Rattle.std.specs.List.{list_any}
use mathlib.Core.Option.{some}
use lib.ListN.{get_elem?}
use Rattle.atomic_table.specs.Table.{keeps}
use Rattle.atomic_table.specs.Table as tables
use Rattle.world_model.specs.Sizes.{Sizes, IsLawful}
use Rattle.world_model.specs.NameLists as names
use Rattle.world_model.specs.NameLists.{same_pass}
use Rattle.world_model.specs.World.{is_open, in_world, unit_of, pair_of}
use Rattle.world_model.specs.State.{Frame, no_frame}
use Rattle.world_model.specs.Next.{next}
use Rattle.world_model.specs.Histories.{after}
use Rattle.world_model.specs.Follows.{entry}
use Rattle.mark_core.specs.declared.types.Actor.TheVariants as actor
use Rattle.mark_core.specs.Changes.{set_at}
use Rattle.mark_core.specs.Machine.{Core}
use Rattle.mark_core.specs.Steps as event
use Rattle.mark_core.proofs.Steps.{step_lawful}
use Rattle.mark_core.proofs.Tools.{at_set}
use Rattle.mark_core.proofs.Frames.{frames_counted}
use Rattle.heap_rule.specs.Types.{Name, Pass, Lane, Entry, Memo, View}
use Rattle.heap_rule.specs.Types.act
use Rattle.heap_rule.specs.Types.part
use Rattle.heap_rule.specs.Types.ask
use Rattle.heap_rule.specs.Types.lane_ask
use Rattle.heap_rule.specs.Units.{sizes_of, number}
use Rattle.heap_rule.specs.Colours.{FramesShown, HeldShown}
use Rattle.heap_rule.specs.Removal.{Each}
use Rattle.heap_rule.specs.Licences.{StoresLicensed}
use Rattle.heap_rule.specs.Views.{has_pass, marker_in}
use Rattle.heap_rule.specs.Sees.{MarkerSeen, MemoHolds}
use Rattle.heap_rule.specs.Rule.{Keeps}
use Rattle.heap_rule.specs.Operations.{Keeping}
use Rattle.heap_rule.proofs.Pasts.{OneMore, one_more}
use Rattle.heap_rule.proofs.Moments.{founds_seen, roots_seen, marker_seen, while_look}
use Rattle.heap_rule.proofs.Gates.{gate_add, Turn, still, with_entry, Turned, turned}
use Rattle.heap_rule.proofs.Looks.{gate_of, saw_gate}
use Rattle.heap_rule.proofs.Owns.{actors, lane_now}
use Rattle.heap_rule.proofs.Rests.{licensed_rest, units_rest, loosens_rest}

frames_open : (z : Sizes) (l : ℕ) (c : Core) (opened : List Pass) → l < z.lanes → c.lane_open l ≡ false → FramesShown z c.lane_open c.marker_open opened
    → FramesShown z (set_at c.lane_open l true) c.marker_open (Lane l ∷ opened)
frames_open z l c opened inside closed h =
    let counted = (frames_counted (sizes_of z) c).opens (actor.Lane l) (inside, closed) in
    record { lanes = λ j. go j (eqb j l); markers = h.markers; count = let was = h.count in omega (arith, counted, was) }
  where
    go : (j : ℕ) (b : Bool) → cond b true (c.lane_open j) ≡ (b || list_any (same_pass (Lane j)) opened)
    go j true = refl
    go j false = h.lanes j

-- an empty frame holds nothing, and has marked nothing
held_open : (l : ℕ) (index : Name → ℕ) (unit : Name → List Name) (frames : ℕ → Frame) (holds : ℕ → ℕ → Bool) → HeldShown index unit (λ j. (frames j).held) holds
    → HeldShown index unit (λ j. (names.set_at frames l no_frame j).held) holds
held_open l index unit frames holds h j n = at_set (λ (f : Frame). names.has f.held n ≡ true → holds j (number index (unit n)) ≡ true) frames l no_frame j (λ same is. absurd cc) (λ off is. h j n is)

stores_open : (l : ℕ) (c : Core) (frames : ℕ → Frame) (stored : Bool) → c.lane_open l ≡ false → StoresLicensed c.job c.dirty stored c.lane_open c.marker_open (λ j. (frames j).shaded)
    → StoresLicensed c.job c.dirty (stored || false) (set_at c.lane_open l true) c.marker_open (λ j. (names.set_at frames l no_frame j).shaded)
stores_open l c frames stored closed h = while_look c.job (λ f dirty. ⊎_elim (λ s. inl (or_left stored false s))
    (λ o. inr (⊎_elim (λ (t : (j : ℕ) × (c.lane_open j ≡ true) × ((frames j).shaded ≡ true)). inl (t.0, still t.0 t.1, still_shaded t.0 t.1 t.2)) (λ m. inr m) o)) (f dirty)) h
  where
    other : (j : ℕ) → c.lane_open j ≡ true → j ≡ l → ⊥
    other j is same = let wrong : false ≡ true = sym closed ∙ (ap c.lane_open (sym same) ∙ is) in absurd cc

    still : (j : ℕ) → c.lane_open j ≡ true → set_at c.lane_open l true j ≡ true
    still j is = at_set (λ (b : Bool). b ≡ true) c.lane_open l true j (λ same. refl) (λ off. is)

    still_shaded : (j : ℕ) → c.lane_open j ≡ true → (frames j).shaded ≡ true → (names.set_at frames l no_frame j).shaded ≡ true
    still_shaded j is was = at_set (λ (f : Frame). f.shaded ≡ true) frames l no_frame j (λ same. absurd (other j is same)) (λ off. was)

memos_open : (l : ℕ) (lane_open : ℕ → Bool) (Q : Memo → Type 0) (passes : List Pass) (memos : List Memo) → Each (λ m. has_pass passes (Lane m.lane) ≡ true → (lane_open m.lane ≡ true) × Q m) memos
    → Each (λ m. has_pass passes (Lane m.lane) ≡ true → (set_at lane_open l true m.lane ≡ true) × Q m) memos
memos_open l lane_open Q passes [] h = tt
memos_open l lane_open Q passes (m ∷ ms) h =
    ((λ own. let was = h.0 own in (at_set (λ (b : Bool). b ≡ true) lane_open l true m.lane (λ same. refl) (λ off. was.0), was.1)), memos_open l lane_open Q passes ms h.1)

-- ---- the step

module _ (z : Sizes) (l : ℕ) (limits : IsLawful z) (id : ℕ) (v : View) (inside : l < z.lanes) (own : has_pass v.passes (Lane l) ≡ true) (closed : is_open (after v.front) (Lane l) ≡ false)
    (s : tables.State (Unit {0}) View) (k : Keeps z s) (at : get_elem? s.views id ≡ some v) where
  abbrev pub e : Entry
  e = entry (Lane l) (act.FrameOpen k.c.phase)

  now_closed : is_open k.s.world (Lane l) ≡ false
  now_closed = (lane_now z s k id v at l own).opened ∙ closed

  shut : k.c.lane_open l ≡ false
  shut = k.frames.lanes l ∙ now_closed

  unloose : (i : ℕ) → k.loose l ≡ Some i → ⊥
  unloose i is = let open_now = (k.loosens.leaves l i is).1.open_now in let wrong : false ≡ true = sym shut ∙ open_now in absurd cc

  still_open : (j : ℕ) → k.c.lane_open j ≡ true → set_at k.c.lane_open l true j ≡ true
  still_open j is = at_set (λ (b : Bool). b ≡ true) k.c.lane_open l true j (λ same. refl) (λ off. is)

  room : length k.s.world.opened < 255
  room = let most = (actors z s k).few in let lanes = limits.few_lanes in let markers = limits.few_markers in omega (arith, most, lanes, markers)

  pub one : OneMore z k.history k.s k.c.parity k.owner s.views id v v e
  one = one_more z k.history k.s k.c.parity k.owner s.views id v v e refl at own (record { in_range = inside; frame = now_closed; may = k.phase }) k.past

  abbrev pub opening : Turn
  opening = with_entry k.s e (record (still k.c k.s v) { lane_open = set_at k.c.lane_open l true })

  abbrev Resolves : Memo → Type 0
  Resolves = MemoHolds z (λ i. k.memory (part.Serial i)) k.spot k.index (in_world k.s.world) (pair_of k.s.world)

  seen : (u : View) (m : ℕ) → MarkerSeen z u.passes k.index (unit_of k.s.world) k.c.place (k.c.scan m) (k.c.marker_owes m) (k.c.marker_open m) m (k.s.slices m) (marker_in u.markers m)
      → MarkerSeen z u.passes k.index (unit_of k.s.world) k.c.place (k.c.scan m) (k.c.marker_owes m) (k.c.marker_open m) m ((next k.s e).slices m) (marker_in u.markers m)
  seen u m h = marker_seen z u.passes k.index (unit_of k.s.world) k.c.place (k.c.scan m) (k.c.marker_owes m) (k.c.marker_open m) m (k.s.slices m) (next k.s e).world (marker_in u.markers m) h

  pub opened : Turned z s k id v opening (k.history ++ e ∷ []) ((slice_index s.words 0 + 256) % 2 ^ 64)
  opened = record {
    past = one.past;
    lawful = step_lawful (sizes_of z) k.c (actor.Lane l) event.FrameOpen (inside, shut) k.lawful;
    frames = frames_open z l k.c k.s.world.opened inside shut k.frames;
    gate = rw (k.shows.each part.Gate tt, k.gate) (gate_add (gate_of z s k) room);
    held = held_open l k.index (unit_of k.s.world) k.s.frames k.c.holds k.held;
    units = units_rest l k.s.frames k.loose unloose k.index (λ i. k.memory (part.Next i)) (unit_of k.s.world) k.units;
    loosens = loosens_rest l k.s.frames k.loose unloose k.s.world.phase k.c.lane_open (set_at k.c.lane_open l true) k.spot (in_world k.s.world) (unit_of k.s.world) k.prepared
        (λ j i is. still_open j) (λ j i is. still_open j) k.loosens;
    lane_licence = licensed_rest l k.s.frames k.c.hand k.c.lane_owes (k.lawful.lanes.hand_is l shut) (k.lawful.lanes.owes_is l shut) k.lane_licence;
    found_licence = founds_seen k.index k.s.world.units k.c.scan (λ m. (k.s.slices m).moments) (next k.s e).world k.found_licence;
    root_licence = roots_seen k.index k.s.world.units k.c.job k.c.own_hand k.c.own_found k.s.collector.started k.s.collector.shading k.s.marks.moments k.s.world.opened (Lane l ∷ k.s.world.opened)
        (λ m. (k.s.slices m).amid_begin) (λ m. (k.s.slices m).amid_begin || false) (next k.s e).world (λ m op. op) (λ m is. or_left _ false is) k.root_licence;
    store_licence = stores_open l k.c k.s.frames k.s.collector.stored shut k.store_licence;
    lanes = record { mine = λ h. h; others = λ j u other there h. h };
    markers = record { mine = λ h m is. seen v m (h m is); others = λ j u other there h m is. seen u m (h m is) };
    collector = record { mine = λ h. h; others = λ j u other there h. h };
    memos = record { mine = λ h. memos_open l k.c.lane_open Resolves v.passes v.memos h; others = λ j u other there h. memos_open l k.c.lane_open Resolves u.passes u.memos h };
  }

pub opens : (z : Sizes) (l : ℕ) → Keeping z (ask.Lane l lane_ask.Open)
opens z l limits id word v may s k homes at range = rw may.3 (
  record v { front = k.history ++ entry (Lane l) (act.FrameOpen k.c.phase) ∷ [] },
  keeps,
  tt,
  turned z s k id v (opening z l limits id v may.0 may.1 may.2 s k at) (k.history ++ entry (Lane l) (act.FrameOpen k.c.phase) ∷ []) _ at (opened z l limits id v may.0 may.1 may.2 s k at),
  (refl, (k.history, (gate_of z s k, saw_gate z s k limits, (one z l limits id v may.0 may.1 may.2 s k at).adds))),
)
