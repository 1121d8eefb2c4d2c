-- What the notes of a unit that is scanned do.
use Rattle.std.proofs.Common.{◌≡◌, ℕ, ◌<◌, refl, sym, subst, ap, ◌∙◌, inl, arith, true, false, List, [], ◌∷◌, ◌++◌, length, length-append, get_or, map, Option, Some}
use Rattle.std.specs.List.{list_any}
use Rattle.std.specs.Option.{option_to_list}
use Rattle.std.proofs.lemmas.List.{length-set, get_or_append_left, drop_more}
use Rattle.world_model.specs.Sizes.{Sizes, item_count}
use Rattle.world_model.specs.NameLists.{has}
use Rattle.world_model.specs.World.{World, unit_of, is_open}
use Rattle.world_model.specs.State.{State, Slicing, AtSomeMoment, is_grey, is_marked}
use Rattle.world_model.specs.Reach.{graph, IsUnit, Refers}
use Rattle.world_model.specs.Next.{next, run}
use Rattle.world_model.specs.Histories.{LegalFrom, MayBy}
use Rattle.world_model.specs.Calls.{by, KeepsForScans}
use Rattle.world_model.specs.Midway.{AreApart}
use Rattle.world_model.proofs.ListFacts.{Among, contains_among, among_contains}
use Rattle.world_model.proofs.NameFacts.{set_at_same}
use Rattle.world_model.proofs.Barrier.{member_lives, own_unit}
use Rattle.heap_plain.specs.Types.{Name, Marking, Marker, Act, Entry}
use Rattle.heap_plain.specs.Types.act
use Rattle.heap_plain.specs.Parts.{Objects, first_at}
use Rattle.heap_plain.specs.Notes.{names_at}
use Rattle.heap_plain.specs.Painted.{Painted, IsNextGrey, grey_of, greyed, all_greyed, blackened}
use Rattle.heap_plain.specs.Shading.{CanShade}
use Rattle.heap_plain.specs.Units.{NamesShow, UnitsShow, StandsAt, LivesAt}
use Rattle.heap_plain.specs.Colouring.{MarksShow}
use Rattle.heap_plain.proofs.Standing.{member_at, one_unit, head_of}
use Rattle.heap_plain.proofs.MarkSteps.{mark_one, kept_still}
use Rattle.heap_plain.proofs.Needed.{scanned_at_end}
use Rattle.heap_plain.proofs.SliceSteps.{scan_one}

-- the slice of a marker is at a unit, whose cells hold the objects at some indexes
pub record AtUnit (z : Sizes) (o : Objects) (w : World) (marker : ℕ) (u : List Name) (head : ℕ) (n : Name) (At : ℕ → Type 0) : Type 0 where
  pub range : marker < z.markers
  pub apart : AreApart w.kinds w.units
  pub names_show : NamesShow z o.names w.kinds
  pub units_show : UnitsShow z o w.units
  pub marking : w.phase ≡ Marking
  pub opened : is_open w (Marker marker) ≡ true
  pub stands : StandsAt o w.units head u
  pub member : has u n ≡ true
  pub leads : (t : ℕ) → At t → (m : Name) × LivesAt o.names o.lives t m × (from : Name) × (slot : ℕ) × (w.cell from slot ≡ Some m) × (has u from ≡ true)
  pub reads : (v : List Name) → Refers (graph w) u v → (t : ℕ) × At t × (m : Name) × LivesAt o.names o.lives t m × (has v m ≡ true)

-- what these notes do from a state on
pub record UnitRun (z : Sizes) (o : Objects) (c : Painted) (marker : ℕ) (u : List Name) (s : State) (acts : List Act) : Type 0 where
  pub legal : LegalFrom z s (by (Marker marker) acts)
  pub needed : KeepsForScans s.world acts
  pub world : (run s (by (Marker marker) acts)).world ≡ s.world
  pub asked : (run s (by (Marker marker) acts)).collector.asked ≡ s.collector.asked
  pub earlier : List World
  pub moments : ((run s (by (Marker marker) acts)).slices marker).moments ≡ s.world ∷ earlier
  pub scanned : ((run s (by (Marker marker) acts)).slices marker).scanned ≡ u ∷ (s.slices marker).scanned
  pub marks : MarksShow o s.world.units c (run s (by (Marker marker) acts)).marks.kept (run s (by (Marker marker) acts)).marks.fresh (run s (by (Marker marker) acts)).marks.scanned

module _ {z : Sizes} {o : Objects} (marker : ℕ) (u : List Name) (head : ℕ) (n : Name) (At : ℕ → Type 0) where
  -- the unit is grey, since it is the next one that is
  next_grey : (s : State) {c : Painted} → AtUnit z o s.world marker u head n At → IsNextGrey c head
      → MarksShow o s.world.units c s.marks.kept s.marks.fresh s.marks.scanned → is_grey s.marks u ≡ true
  next_grey s {c} at first marks =
      let there : Among (grey_of c) head = rw (drop_more c.listed c.scanned 0 first.some) (inl (sym first.first)) in
      let own = marks.grey_units head there in
      subst (λ (v : List Name). is_grey s.marks v ≡ true) (one_unit at.apart at.units_show head own.0 u own.1 at.stands) own.2

  pub unit_run : (s : State) (earlier : List World) (c : Painted) (heads : List ℕ)
      → AtUnit z o s.world marker u head n At → (s.slices marker).moments ≡ s.world ∷ earlier → length c.marked ≡ item_count z → IsNextGrey c head
      → MarksShow o s.world.units c s.marks.kept s.marks.fresh s.marks.scanned → CanShade o.firsts At c.marked heads
      → ((v : List Name) → Among s.world.units v → list_any (has s.marks.scanned) v ≡ true → list_any (has s.marks.kept) v ≡ true)
      → ((t : ℕ) → At t → get_or (all_greyed c heads).marked (first_at o.firsts t) false ≡ true)
      → UnitRun z o (blackened (all_greyed c heads)) marker u s (map act.Kept (names_at o.names heads) ++ act.Scanned n ∷ [])
  unit_run s earlier c [] at moments len first marks can sk each =
      let unit_is : unit_of s.world n ≡ u = own_unit s.world at.apart u n at.stands.among at.member in
      let entry : Entry = record { pass = Marker marker; act = act.Scanned n } in
      let grey : is_grey s.marks u ≡ true = next_grey s at first marks in
      let may : MayBy z s (Marker marker) (act.Scanned n) = record {
        in_range = at.range;
        slice = at.opened;
        may = record {
          marking = at.marking;
          living = member_lives s.world u n at.stands.among at.member;
          grey = rw unit_is grey;
          targets = λ v unit refers. marked_target v unit (subst (λ (x : List Name). Refers (graph s.world) x v) unit_is refers);
        };
      } in
      record {
        legal = (may, tt);
        needed = tt;
        world = refl;
        asked = refl;
        earlier = (s.slices marker).moments;
        moments = ap (λ (x : Slicing). s.world ∷ x.moments) (set_at_same s.slices marker _);
        scanned = ap (λ (x : Slicing). x.scanned) (set_at_same s.slices marker _) ∙ ap (λ (v : List Name). v ∷ (s.slices marker).scanned) unit_is;
        marks = scan_one at.names_show at.units_show at.apart head u n at.stands at.member first marks;
      }
    where
      marked_target : (v : List Name) → IsUnit (graph s.world) v → Refers (graph s.world) u v → is_marked s.marks v ≡ true
      marked_target v unit refers =
          let r = at.reads v refers in
          let there = at.units_show.all v (contains_among s.world.units v unit) in
          let first : first_at o.firsts r.0 ≡ there.0 = head_of at.names_show there.0 v there.1 r.0 r.2 r.3.name r.4 in
          sym (marks.bits there.0 v there.1) ∙ ap (λ (x : ℕ). get_or c.marked x false) (sym first) ∙ each r.0 r.1
  unit_run s earlier c (x ∷ heads) at moments len first marks can sk each =
      let r = can.0 in
      let lead = at.leads r.0 r.1 in
      let unit = at.units_show.each r.0 lead.1.life in
      let v = unit.0 in
      let stands : StandsAt o s.world.units x v = subst (λ (y : ℕ). StandsAt o s.world.units y v) r.2 unit.1 in
      let member = member_at at.units_show x v stands in
      let m = member.0 in
      let entry : Entry = record { pass = Marker marker; act = act.Kept m } in
      let inside : x < length c.marked = omega (arith, subst (λ (y : ℕ). y < item_count z) r.2 (at.units_show.in_range r.0)) in
      let unit_is : unit_of s.world m ≡ v = own_unit s.world at.apart v m stands.among member.2 in
      let target : has v lead.0 ≡ true = stands.whole r.0 lead.0 lead.1 r.2 in
      let refers : Refers (graph s.world) u (unit_of s.world m) =
      subst (λ (y : List Name). Refers (graph s.world) u y) (sym unit_is)
      (record { from = lead.2; slot = lead.3; to = lead.0; cell = lead.4; member = lead.5; target = target }) in
      let own_is : unit_of s.world n ≡ u = own_unit s.world at.apart u n at.stands.among at.member in
      let still : IsNextGrey (greyed c x) head = record {
        some = omega (arith, first.some, length-append c.listed (x ∷ []));
        few = omega (arith, first.few, length-set c.marked x true);
        first = first.first ∙ sym (get_or_append_left c.listed (x ∷ []) 0 c.scanned first.some);
      } in
      let tail = unit_run (next s entry) (s.slices marker).moments (greyed c x) heads at
      (ap (λ (y : Slicing). s.world ∷ y.moments) (set_at_same s.slices marker _)) (length-set c.marked x true ∙ len) still
      (mark_one at.names_show at.units_show at.apart x v m stands member.2 can.1 inside (sk v stands.among) marks) can.2
      (λ x a e. kept_still x s.marks.kept m (sk x a e)) each in
      let may : MayBy z s (Marker marker) (act.Kept m) = record {
        in_range = at.range;
        slice = at.opened;
        may = record {
          white = record { marking = at.marking; living = member_lives s.world v m stands.among member.2; unmarked = rw unit_is (sym (marks.bits x v stands) ∙ can.1) };
          from = u;
          unit = among_contains s.world.units u at.stands.among;
          grey = next_grey s at first marks;
          refers = subst (λ (ms : List World). AtSomeMoment ms (λ w. Refers (graph w) u (unit_of s.world m))) (sym moments) (inl refers);
        };
      } in
      let whole : UnitRun z o (blackened (all_greyed c (x ∷ heads))) marker u s (act.Kept m ∷ (map act.Kept (names_at o.names heads) ++ act.Scanned n ∷ [])) = record {
        legal = (may, tail.legal);
        needed = (scanned_at_end s.world m n (names_at o.names heads) (subst (λ (y : List Name). Refers (graph s.world) y (unit_of s.world m)) (sym own_is) refers), tail.needed);
        world = tail.world;
        asked = tail.asked;
        earlier = tail.earlier;
        moments = tail.moments;
        scanned = tail.scanned ∙ ap (λ (y : Slicing). u ∷ y.scanned) (set_at_same s.slices marker _);
        marks = tail.marks;
      } in
      subst
      (λ (q : Option Name).
      UnitRun z o (blackened (all_greyed c (x ∷ heads))) marker u s
      (map act.Kept (option_to_list q ++ names_at o.names heads) ++ act.Scanned n ∷ [])) (sym member.1.name) whole
