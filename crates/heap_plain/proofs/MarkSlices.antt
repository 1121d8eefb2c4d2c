-- A slice of marking.
use Rattle.std.proofs.Common.{◌≡◌, ◌≢◌, ℕ, ◌+◌, ◌<◌, ◌≤◌, not, refl, sym, subst, ap, ◌∙◌, inl, inr, arith, true, false, List, [], ◌∷◌, ◌++◌, length, get_or, map, ◌⊎◌, filter, append_assoc, Option, Some, IsSome, is_some}
use Rattle.std.specs.List.{list_any, list_all}
use Rattle.std.proofs.lemmas.Bool.{and_from}
use Rattle.std.proofs.lemmas.List.{drop_all, drop_more}
use Rattle.world_model.specs.Sizes.{Sizes, item_count}
use Rattle.world_model.specs.NameLists.{same_pass, has}
use Rattle.world_model.specs.World.{World, is_open}
use Rattle.world_model.specs.State.{State, Slicing, is_grey, grey_in, grey_units, beginning}
use Rattle.world_model.specs.Reach.{graph, Refers}
use Rattle.world_model.specs.Next.{next, run}
use Rattle.world_model.specs.MarkerSteps.{member_count, WasWithin, MayStop}
use Rattle.world_model.specs.Histories.{MayBy, LegalFrom, Legal, after, state_of}
use Rattle.world_model.specs.Calls.{by, is_mark_note, Appends}
use Rattle.world_model.specs.Midway.{AreApart}
use Rattle.world_model.proofs.ListFacts.{Among, and_true}
use Rattle.world_model.proofs.NameFacts.{set_at_same}
use Rattle.world_model.proofs.Units.{units_apart}
use Rattle.world_model.proofs.Barrier.{barred}
use Rattle.world_model.proofs.Joins.{legal_join, legal_split, by-append}
use Rattle.heap_plain.specs.Types.{Name, Ref, Pass, Marker, Marking, MarkStop, Marked, Act, Entry}
use Rattle.heap_plain.specs.Types.act
use Rattle.heap_plain.specs.Types.stop
use Rattle.heap_plain.specs.Parts.{Parts, Shown, Holds, name_at, first_at, kind_at, target_at}
use Rattle.heap_plain.specs.Listing.{chained}
use Rattle.heap_plain.specs.Painted.{Painted, IsNextGrey, IsWorklist, all_greyed, blackened}
use Rattle.heap_plain.specs.Notes.{names_at, StopsBy}
use Rattle.heap_plain.specs.Shading.{InUnit, Shades}
use Rattle.heap_plain.specs.Units.{StandsAt, LivesAt}
use Rattle.heap_plain.specs.Colouring.{MarksShow}
use Rattle.heap_plain.specs.Destroying.{Destroying}
use Rattle.heap_plain.specs.Plain.{ShowsWorld, Shows, IsPlain, Sliced, IsSlicing}
use Rattle.heap_plain.proofs.WorldFacts.{same_pass_refl, none_out, state_more}
use Rattle.heap_plain.proofs.Shadings.{shades_len}
use Rattle.heap_plain.proofs.Resting.{rests, keeps}
use Rattle.heap_plain.proofs.Entries.{Done}
use Rattle.heap_plain.proofs.Standing.{member_at, name_below}
use Rattle.heap_plain.proofs.Listings.{linked_member}
use Rattle.heap_plain.proofs.Cells.{aims_target, aims_name, cell_ref, cell_below}
use Rattle.heap_plain.proofs.SliceSteps.{linked_place, count_cons, filter_none, no_marker, not_true, marking_or_not, grey_empty}
use Rattle.heap_plain.proofs.Needed.{keeps_append, keeps_opened}
use Rattle.heap_plain.proofs.UnitSteps.{AtUnit, UnitRun, unit_run}

-- ---- the slice opens

module _ (z : Sizes) (p : Parts) (h : List Entry) (marker budget : ℕ) (was : IsPlain z p h) (range : marker < z.markers) where
  abbrev open_entry : Entry
  open_entry = record { pass = Marker marker; act = act.SliceOpen }

  abbrev s1 : State
  s1 = next (state_of h) open_entry

  empty : (s1.slices marker).scanned ≡ []
  empty = ap (λ (x : Slicing). x.scanned) (set_at_same (state_of h).slices marker _)

  pub mark_starts : IsSlicing z (record { history = h; names = p.names }) marker budget 0 p (h ++ open_entry ∷ [])
  mark_starts = record {
    rest = was.rest;
    notes = [];
    grown = refl;
    only = refl;
    needed = tt;
    legal = legal_join z beginning h (open_entry ∷ []) was.legal (record { in_range = range; slice = no_marker (after h).opened marker (not_true _ was.rest.between.closed); may = tt }, tt);
    names = refl;
    sliced = subst (λ (s : State). Sliced z (state_of h) marker budget 0 p s) (sym (state_more h (open_entry ∷ []))) record {
      world = refl;
      earlier = [];
      moments = ap (λ (x : Slicing). s1.world ∷ x.moments) (set_at_same (state_of h).slices marker _);
      total_is = sym (ap (λ (us : List (List Name)). member_count us) empty);
      within = subst (λ (us : List (List Name)). WasWithin budget us) (sym empty) tt;
      shows = was.shows;
    };
  }

-- ---- a unit is scanned

module _ {z : Sizes} {old : Shown} {marker budget total : ℕ} {p : Parts} {history : List Entry} (i : IsSlicing z old marker budget total p history)
    (range : marker < z.markers) {head : ℕ} (first : IsNextGrey p.colours head) where
  abbrev s : State
  s = state_of history

  abbrev w : World
  w = after old.history

  abbrev k : ShowsWorld z p w s.marks.kept s.marks.fresh s.marks.scanned s.collector.asked
  k = i.sliced.shows

  apart : AreApart w.kinds w.units
  apart = units_apart z old.history (legal_split z beginning old.history (by (Marker marker) (act.SliceOpen ∷ i.notes)) (subst (λ (xs : List Entry). Legal z xs) i.grown i.legal)).0

  marking : p.phase ≡ Marking
  marking = go (marking_or_not p.phase)
    where
      go : (p.phase ≡ Marking) ⊎ (p.phase ≢ Marking) → p.phase ≡ Marking
      go (inl e) = e
      go (inr ne) = absurd (omega (arith, k.idle ne, first.some))

  -- what was scanned was kept
  scanned_kept : (v : List Name) → Among w.units v → list_any (has s.marks.scanned) v ≡ true → list_any (has s.marks.kept) v ≡ true
  scanned_kept v a =
      (barred z history i.legal).tricolour.scanned_kept (ap (λ (x : World). x.phase) i.sliced.world ∙ sym k.phase ∙ marking) v
      (subst (λ (x : World). Among x.units v) (sym i.sliced.world) a)

  abbrev m : MarksShow p.objects w.units p.colours s.marks.kept s.marks.fresh s.marks.scanned
  m = k.marks marking

  own : (u : List Name) × StandsAt p.objects w.units head u
  own = let r = m.grey_units head (rw (drop_more p.listed p.scanned 0 first.some) (inl (sym first.first))) in (r.0, r.1)

  abbrev u : List Name
  u = own.0

  abbrev stands : StandsAt p.objects w.units head u
  stands = own.1

  abbrev size : ℕ
  size = get_or p.sizes head 0

  abbrev At : ℕ → Type 0
  At = InUnit p.kinds z.slots p.targets p.next head size

  leader : (n : Name) × LivesAt p.names p.lives head n × (has u n ≡ true)
  leader = member_at k.units head u stands

  pub head_below : head < item_count z
  head_below = omega (arith, name_below p.names head leader.0 leader.1.name, k.names.items)

  pub head_named : IsSome (name_at p.names head)
  head_named = ap (λ (o : Option Name). is_some o) leader.1.name

  -- the object at an index of the unit
  member_of : (j : ℕ) → j < size → (n : Name) × LivesAt p.names p.lives (chained p.next head j) n × (has u n ≡ true)
  member_of j b =
      let r = linked_member p.names p.next head u stands.linked j (omega (arith, stands.size)) in
      let at = stands.inside r.0 r.2 in
      (r.0, subst (λ (x : ℕ). LivesAt p.names p.lives x r.0) (k.names.alone at.0 (chained p.next head j) r.0 at.1.name r.1) at.1, r.2)

  pub chain_below : (j : ℕ) → j < size → chained p.next head j < length p.next
  chain_below j b = let r = member_of j b in omega (arith, name_below p.names (chained p.next head j) r.0 r.1.name, k.names.items, k.units.links_len)

  leads : (t : ℕ) → At t → (v : Name) × LivesAt p.names p.lives t v × (from : Name) × (slot : ℕ) × (w.cell from slot ≡ Some v) × (has u from ≡ true)
  leads t (j, slot, b, low, at) =
      let r = member_of j b in
      let a = k.cells.aims (chained p.next head j) r.0 slot r.1 (omega (arith, k.kinds.fit (chained p.next head j))) in
      let there = aims_target (target_at z.slots p.targets (chained p.next head j) slot) (w.cell r.0 slot) t a at in
      (there.0, there.2, r.0, slot, there.1, r.2)

  pub lead_named : (t : ℕ) → At t → IsSome (name_at p.names (first_at p.firsts t))
  lead_named t a =
      let r = leads t a in
      let unit = k.units.each t r.1.life in
      let member = member_at k.units (first_at p.firsts t) unit.0 unit.1 in
      ap (λ (o : Option Name). is_some o) member.1.name

  -- a cell of a member is one of those that are looked at
  looked_at : (x : ℕ) (n : Name) (slot t : ℕ) (v : Name) → LivesAt p.names p.lives x n → has u n ≡ true → w.cell n slot ≡ Some v → target_at z.slots p.targets x slot ≡ Some t → At t
  looked_at x n slot t v there e cell at =
      let place = linked_place p.names p.next head u n stands.linked e in
      let same : x ≡ chained p.next head place.0 = k.names.alone x (chained p.next head place.0) n there.name place.2 in
      let low = cell_ref k.cells x n slot v there cell in
      (place.0, slot, omega (arith, stands.size, place.1), subst (λ (y : ℕ). slot < (kind_at p.kinds y).refs) same low, ap (λ (y : ℕ). target_at z.slots p.targets y slot) (sym same) ∙ at)

  reads : (v : List Name) → Refers (graph w) u v → (t : ℕ) × At t × (n : Name) × LivesAt p.names p.lives t n × (has v n ≡ true)
  reads v refers =
      let at = stands.inside refers.from refers.member in
      let low = cell_below k.kinds k.cells at.0 refers.from refers.slot refers.to at.1 refers.cell in
      let there = aims_name (target_at z.slots p.targets at.0 refers.slot) (w.cell refers.from refers.slot) refers.to (k.cells.aims at.0 refers.from refers.slot at.1 low) refers.cell in
      (there.0, looked_at at.0 refers.from refers.slot there.0 refers.to at.1 refers.member refers.cell there.1, refers.to, there.2, refers.target)

  pub worklist : IsWorklist p.colours
  worklist = m.worklist

  module _ {c' : Painted} {mid : List Entry} (less : total < budget) (n : Name) (named : name_at p.names head ≡ Some n)
      (sh : Shades p.names p.firsts At (Marker marker) p.colours c' history mid) where
    abbrev heads : List ℕ
    heads = sh.heads

    member : has u n ≡ true
    member = stands.whole head n (record { name = named; life = leader.1.life }) stands.own

    abbrev w1 : World
    w1 = record w { opened = Marker marker ∷ w.opened }

    -- the state, with its world written out
    abbrev t0 : State
    t0 = record { world = w1; marks = s.marks; frames = s.frames; slices = s.slices; collector = s.collector }

    same_state : t0 ≡ s
    same_state = λ t. record { world = sym i.sliced.world t; marks = s.marks; frames = s.frames; slices = s.slices; collector = s.collector }

    at_unit : AtUnit z p.objects w1 marker u head n At
    at_unit = record {
      range = range;
      apart = apart;
      names_show = k.names;
      units_show = k.units;
      marking = sym k.phase ∙ marking;
      opened = let e = same_pass_refl (Marker marker) in rw e refl;
      stands = stands;
      member = member;
      leads = leads;
      reads = reads;
    }

    abbrev acts : List Act
    acts = map act.Kept (names_at p.names heads) ++ act.Scanned n ∷ []

    abbrev es : List Entry
    es = by (Marker marker) acts

    ran : UnitRun z p.objects (blackened (all_greyed p.colours heads)) marker u t0 acts
    ran = unit_run marker u head n At t0 i.sliced.earlier p.colours heads at_unit
        (i.sliced.moments ∙ ap (λ (x : World). x ∷ i.sliced.earlier) i.sliced.world) k.marked_len first m
        sh.can scanned_kept (λ t a. sym (ap (λ (x : Painted). get_or x.marked (first_at p.firsts t) false) sh.colours) ∙ sh.each t a)

    abbrev q : Parts
    q = record p { colours = blackened c' }

    abbrev end : State
    end = run t0 es

    shows_end : ShowsWorld z q w end.marks.kept end.marks.fresh end.marks.scanned end.collector.asked
    shows_end = record {
      gate = k.gate;
      objects = k.objects;
      rows = k.rows;
      roots = k.roots;
      garbage = k.garbage;
      strong = k.strong;
      pairs = k.pairs;
      colours = record {
        marked_len = shades_len sh ∙ k.marked_len;
        idle = λ ne. absurd (ne marking);
        marks = λ e. subst (λ (x : Painted). MarksShow p.objects w.units (blackened x) end.marks.kept end.marks.fresh end.marks.scanned) (sym sh.colours) ran.marks;
      };
      stock = k.stock;
      ends = subst (λ (last : Option Name). Destroying z p.phase p.objects p.ends w.removals w.last_removed w.found w.swept last) (sym ran.asked) k.ends;
    }

    sliced_end : Sliced z (state_of old.history) marker budget (total + size) q end
    sliced_end = record {
      world = ran.world;
      earlier = ran.earlier;
      moments = ran.moments ∙ ap (λ (x : World). x ∷ ran.earlier) (sym ran.world);
      total_is =
          let sum : member_count (end.slices marker).scanned ≡ length u + member_count (s.slices marker).scanned =
          ap (λ (us : List (List Name)). member_count us) ran.scanned ∙ count_cons (λ (v : List Name). length v) u (s.slices marker).scanned in
          omega (arith, i.sliced.total_is, stands.size);
      within = subst (λ (us : List (List Name)). WasWithin budget us) (sym ran.scanned) (omega (arith, i.sliced.total_is));
      shows = shows_end;
    }

    abbrev scan_entry : Entry
    scan_entry = record { pass = Marker marker; act = act.Scanned n }

    whole : mid ++ scan_entry ∷ [] ≡ history ++ es
    whole =
        ap (λ (xs : List Entry). xs ++ scan_entry ∷ []) sh.entries
        ∙ append_assoc history (by (Marker marker) (map act.Kept (names_at p.names heads))) (scan_entry ∷ [])
        ∙ ap (λ (xs : List Entry). history ++ xs) (sym (by-append (Marker marker) (map act.Kept (names_at p.names heads)) (act.Scanned n ∷ [])))

    end_is : end ≡ run s es
    end_is = ap (λ (x : State). run x es) same_state

    all_notes : (of : List Name) → list_all is_mark_note (map act.Kept of ++ act.Scanned n ∷ []) ≡ true
    all_notes [] = refl
    all_notes (x ∷ of) = all_notes of

    both_notes : (xs ys : List Act) → list_all is_mark_note xs ≡ true → list_all is_mark_note ys ≡ true → list_all is_mark_note (xs ++ ys) ≡ true
    both_notes [] ys a b = b
    both_notes (x ∷ xs) ys a b = let parts = and_true (is_mark_note x) _ a in and_from _ _ parts.0 (both_notes xs ys parts.1 b)

    pub mark_scans : IsSlicing z old marker budget (total + size) q (mid ++ scan_entry ∷ [])
    mark_scans = subst (λ (xs : List Entry). IsSlicing z old marker budget (total + size) q xs) (sym whole) record {
      rest = i.rest;
      notes = i.notes ++ acts;
      grown = ap (λ (xs : List Entry). xs ++ es) i.grown ∙ append_assoc old.history (by (Marker marker) (act.SliceOpen ∷ i.notes)) es
          ∙ ap (λ (xs : List Entry). old.history ++ xs) (sym (by-append (Marker marker) (act.SliceOpen ∷ i.notes) acts));
      only = both_notes i.notes acts i.only (all_notes (names_at p.names heads));
      needed = keeps_append w i.notes acts i.needed (keeps_opened w w1.opened acts ran.needed);
      legal = legal_join z beginning history es i.legal (subst (λ (x : State). LegalFrom z x es) same_state ran.legal);
      names = i.names;
      sliced = subst (λ (x : State). Sliced z (state_of old.history) marker budget (total + size) q x) (end_is ∙ sym (state_more history es)) sliced_end;
    }

-- ---- the slice closes

module _ {z : Sizes} {old : Shown} {marker budget total : ℕ} {p : Parts} {history : List Entry} (i : IsSlicing z old marker budget total p history)
    (range : marker < z.markers) (why : MarkStop) (stops : StopsBy total budget why) (done : total < budget → length p.listed ≤ p.scanned) where
  abbrev c : State
  c = state_of history

  abbrev v : World
  v = after old.history

  abbrev h : ShowsWorld z p v c.marks.kept c.marks.fresh c.marks.scanned c.collector.asked
  h = i.sliced.shows

  abbrev reply : Marked
  reply = record { scanned = total; stop = why }

  abbrev slice_entry : Entry
  slice_entry = record { pass = Marker marker; act = act.Slice budget reply }

  grey_none : total < budget → grey_units c ≡ []
  grey_none less = subst (λ (x : World). grey_in x.phase c.marks x.units ≡ []) (sym i.sliced.world)
      (grey_empty v.phase c.marks v.units (λ e. filter_none (is_grey c.marks) v.units (λ unit a is.
      let at = h.units.all unit a in
      let among = (h.marks (h.phase ∙ e)).all_grey at.0 unit at.1 is in
      absurd (subst (λ (xs : List ℕ). Among xs at.0) (drop_all p.scanned p.listed (done less)) among))))

  may_stop : (how : MarkStop) → StopsBy total budget how → MayStop c marker budget reply how
  may_stop stop.Spent e = e
  may_stop stop.Idle e = (e, inl (grey_none e))

  opened_now : is_open c.world (Marker marker) ≡ true
  opened_now = subst (λ (x : World). is_open x (Marker marker) ≡ true) (sym i.sliced.world) (let e = same_pass_refl (Marker marker) in rw e refl)

  may_slice : MayBy z c (Marker marker) (act.Slice budget reply)
  may_slice = record { in_range = range; slice = opened_now; may = record { scanned = i.sliced.total_is; within = i.sliced.within; stop = may_stop why stops } }

  abbrev last : State
  last = next c slice_entry

  out_again : filter (λ q. not (same_pass (Marker marker) q)) (Marker marker ∷ v.opened) ≡ v.opened
  out_again = let e = same_pass_refl (Marker marker) in rw e (none_out (same_pass (Marker marker)) v.opened (no_marker v.opened marker (not_true _ i.rest.between.closed)))

  last_world : last.world ≡ v
  last_world = ap (λ (x : World). record x { opened = filter (λ q. not (same_pass (Marker marker) q)) x.opened }) i.sliced.world ∙ ap (λ (passes : List Pass). record v { opened = passes }) out_again

  legal_last : Legal z (history ++ slice_entry ∷ [])
  legal_last = legal_join z beginning history (slice_entry ∷ []) i.legal (may_slice, tt)

  state_is : run (state_of old.history) (by (Marker marker) (act.SliceOpen ∷ i.notes)) ≡ c
  state_is = sym (state_more old.history (by (Marker marker) (act.SliceOpen ∷ i.notes))) ∙ ap (λ (xs : List Entry). state_of xs) (sym i.grown)

  idle_then : why ≡ stop.Idle → (total < budget) × (grey_units (run (state_of old.history) (by (Marker marker) (act.SliceOpen ∷ i.notes))) ≡ [])
  idle_then e = let less : total < budget = subst (λ (how : MarkStop). StopsBy total budget how) e stops in (less, subst (λ (x : State). grey_units x ≡ []) (sym state_is) (grey_none less))

  then_idle : (how : MarkStop) → StopsBy total budget how → total < budget → how ≡ stop.Idle
  then_idle stop.Idle e less = refl
  then_idle stop.Spent e less = absurd (omega arith)

  sliced_entries : Appends z old.history (history ++ slice_entry ∷ []) (Marker marker) (act.Slice budget reply)
  sliced_entries = record {
    acts = (act.SliceOpen ∷ i.notes) ++ act.Slice budget reply ∷ [];
    call = (record { notes = i.notes; are = refl; only = i.only }, record { needed = i.needed; idle = (idle_then, λ both. then_idle why stops both.0) });
    grown = ap (λ (xs : List Entry). xs ++ slice_entry ∷ []) i.grown ∙ append_assoc old.history (by (Marker marker) (act.SliceOpen ∷ i.notes)) (slice_entry ∷ [])
        ∙ sym (ap (λ (xs : List Entry). old.history ++ xs) (by-append (Marker marker) (act.SliceOpen ∷ i.notes) (act.Slice budget reply ∷ [])));
    legal = legal_last;
  }

  pub slice_ends : Done z p old.history (history ++ slice_entry ∷ []) (Marker marker) (act.Slice budget reply)
  slice_ends = record {
    plain = record {
      legal = legal_last;
      rest = rests sliced_entries i.rest;
      shows = subst (λ (x : State). Shows z p x) (sym (state_more history (slice_entry ∷ [])))
          (subst (λ (x : World). ShowsWorld z p x c.marks.kept c.marks.fresh c.marks.scanned c.collector.asked) (sym last_world) h);
    };
    entries = sliced_entries;
  }

  pub slice_held : (lane : ℕ) (r : Ref) → Holds old lane r → Holds (record { history = history ++ slice_entry ∷ []; names = p.names }) lane r
  slice_held lane r held =
      subst (λ (ns : List (Option Name)). Holds (record { history = history ++ slice_entry ∷ []; names = ns }) lane r) (sym i.names)
      (keeps sliced_entries refl old.names lane r held)
