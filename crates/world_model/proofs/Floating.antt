-- What a collection keeps of the units that stood when it started.
use Rattle.std.proofs.Common.{◌≡◌, ℕ, refl, sym, subst, ap, ◌∙◌, inl, inr, Bool, true, false, not, ◌||◌, ◌==◌, List, [], ◌∷◌, ◌++◌, Option, Some, None, ◌⊎◌, Contains, append-nil, append_assoc}
use Rattle.std.specs.List.{list_any, AllByRecursion}
use Rattle.std.specs.Option.{option_to_list}
use Rattle.std.proofs.lemmas.Bool.{both_ways, eqb-true, eq-eqb}
use Rattle.std.proofs.lemmas.List.Folds.{list_any-append}
use Rattle.std.proofs.lemmas.List.Concat.{flat_map-append}
use Rattle.world_model.specs.Types.{Name, Marking, Pass, Lane, Marker, Collector, Act, Entry}
use Rattle.world_model.specs.Types.act
use Rattle.world_model.specs.Types.begin
use Rattle.world_model.specs.Types.commit
use Rattle.world_model.specs.Sizes.{Sizes}
use Rattle.world_model.specs.NameLists.{same_name, same_pass, has, names_from, set_at}
use Rattle.world_model.specs.World.{World, unit_of, in_world, is_open}
use Rattle.world_model.specs.Reach.{graph, IsUnit, Refers, IsRoot, IsRootUnit, Walk, IsReached}
use Rattle.world_model.specs.State.{State, AtSomeMoment, is_marked}
use Rattle.world_model.specs.Next.{next_world, next_marks, next_by, next, lane_of, own_slices, own_slice}
use Rattle.world_model.specs.LaneSteps.{PaysFor}
use Rattle.world_model.specs.Histories.{MayBy, May, Legal, state_of, after}
use Rattle.world_model.specs.Laws.{started, done}
use Rattle.world_model.specs.Follows.{IsMade, IsParted, made_by, is_done, stored_by, names_stored, IsReachedFrom, FloatingIsBounded, UnreachedIsRemoved}
use Rattle.world_model.specs.Midway.{AreApart}
use Rattle.world_model.proofs.ListFacts.{and_true, or_true, any_filter, Among, among_left, among_right, among_filter_test, test_among, among_contains, contains_among}
use Rattle.world_model.proofs.NameFacts.{same_name_true, among_has, set_at_same}
use Rattle.world_model.proofs.Joins.{histories_join}
use Rattle.world_model.proofs.Reaches.{reach_by_walks_holds, walk_on}
use Rattle.world_model.proofs.Units.{units_apart}
use Rattle.world_model.proofs.Quiet.{not_open}
use Rattle.world_model.proofs.Inductions.{by_more, one_more, one_more_of}
use Rattle.world_model.proofs.Sound.{sound, made_living, made_stays, is_new}
use Rattle.world_model.proofs.Barrier.{IsNamed, barred, own_unit, member_lives, cells_after, set_name_here, set_at_here, set_at_other, lived, loosens_may}
use Rattle.world_model.proofs.Removals.{still_marking, removal}
use Rattle.world_model.proofs.Frames.{set_at_miss, open_next}

-- ---- what the cells and the root set had at the start, or was stored since

pub record IsFromStart (w0 : World) (stored : List Name) (w : World) : Type 0 where
  pub cells : (f : Name) (slot : ℕ) (x : Name) → w.cell f slot ≡ Some x → Among stored x ⊎ (w0.cell f slot ≡ Some x)
  pub rooted : (x : Name) → w.rooted x ≡ true → Among stored x ⊎ (w0.rooted x ≡ true)
  pub strong : (lane number : ℕ) (x : Name) → w.strong lane number ≡ Some x → Among stored x ⊎ (w0.strong lane number ≡ Some x)

or_more : {A : Type 0} (stored more : List Name) (x : Name) → Among stored x ⊎ A → Among (stored ++ more) x ⊎ A
or_more stored more x (inl k) = inl (among_left stored more x k)
or_more stored more x (inr a) = inr a

more_stored : (w0 w : World) (stored more : List Name) → IsFromStart w0 stored w → IsFromStart w0 (stored ++ more) w
more_stored w0 w stored more h = record {
  cells = λ f slot x e. or_more stored more x (h.cells f slot x e);
  rooted = λ x e. or_more stored more x (h.rooted x e);
  strong = λ lane number x e. or_more stored more x (h.strong lane number x e);
}

-- what is stored is among what is stored
last_stored : (stored : List Name) (o : Option Name) (x : Name) → o ≡ Some x → Among (stored ++ option_to_list o) x
last_stored stored None x e = absurd cc
last_stored stored (Some n) x e = among_right stored (n ∷ []) x (inl cc)

from_start_next : (w0 : World) (stored : List Name) (s : State) (p : Pass) (a : Act) → is_done a ≡ false → IsFromStart w0 stored s.world
    → IsFromStart w0 (stored ++ option_to_list (stored_by a)) (next_world s.marks s.world p a)
from_start_next w0 stored s p (act.WriteRef at slot to old) other h = record {
  cells = λ f k x e. cells_after s.world.cell at slot to (λ f k c. c ≡ Some x → Among (stored ++ option_to_list to) x ⊎ (w0.cell f k ≡ Some x))
      (λ e. inl (last_stored stored to x e)) (λ f k e. or_more stored (option_to_list to) x (h.cells f k x e)) f k e;
  rooted = λ x e. or_more stored (option_to_list to) x (h.rooted x e);
  strong = λ lane number x e. or_more stored (option_to_list to) x (h.strong lane number x e);
}
from_start_next w0 stored s p (act.Root at on old) other h = record {
  cells = λ f k x e. or_more stored (option_to_list (stored_by (act.Root at on old))) x (h.cells f k x e);
  rooted = λ x e. set_name_here s.world.rooted at on (λ x b. b ≡ true → Among (stored ++ option_to_list (stored_by (act.Root at on old))) x ⊎ (w0.rooted x ≡ true))
      (rooting on) (λ x e. or_more stored (option_to_list (stored_by (act.Root at on old))) x (h.rooted x e)) x e;
  strong = λ lane number x e. or_more stored (option_to_list (stored_by (act.Root at on old))) x (h.strong lane number x e);
}
  where
    rooting : (on : Bool) → on ≡ true → Among (stored ++ option_to_list (stored_by (act.Root at on old))) at ⊎ (w0.rooted at ≡ true)
    rooting true e = inl (last_stored stored (Some at) at refl)
    rooting false e = absurd cc
from_start_next w0 stored s p (act.SetStrong number to old) other h = record {
  cells = λ f k x e. or_more stored (option_to_list to) x (h.cells f k x e);
  rooted = λ x e. or_more stored (option_to_list to) x (h.rooted x e);
  strong =
      λ l i x e.
      set_at_here s.world.strong (lane_of p) (set_at (s.world.strong (lane_of p)) number to)
      (λ l row. (i : ℕ) → row i ≡ Some x → Among (stored ++ option_to_list to) x ⊎ (w0.strong l i ≡ Some x))
      (set_at_here (s.world.strong (lane_of p)) number to (λ i c. c ≡ Some x → Among (stored ++ option_to_list to) x ⊎ (w0.strong (lane_of p) i ≡ Some x))
      (λ e. inl (last_stored stored to x e)) (λ i e. or_more stored (option_to_list to) x (h.strong (lane_of p) i x e)))
      (λ l i e. or_more stored (option_to_list to) x (h.strong l i x e)) l i e;
}
from_start_next w0 stored s p (act.CommitGc commit.Done) other h = absurd cc
from_start_next w0 stored s p (act.BeginGc begin.Started) other h = let all = more_stored w0 s.world stored [] h in record { cells = all.cells; rooted = all.rooted; strong = all.strong }
from_start_next w0 stored s p _ other h = let all = more_stored w0 s.world stored [] h in record { cells = all.cells; rooted = all.rooted; strong = all.strong }

-- each of these moments is so
abbrev pub AllFromStart : World → List Name → List World → Type 0
AllFromStart w0 stored [] = Unit {0}
AllFromStart w0 stored (w ∷ earlier) = IsFromStart w0 stored w × AllFromStart w0 stored earlier

all_more : (w0 : World) (stored more : List Name) (moments : List World) → AllFromStart w0 stored moments → AllFromStart w0 (stored ++ more) moments
all_more w0 stored more [] h = tt
all_more w0 stored more (w ∷ earlier) h = (more_stored w0 w stored more h.0, all_more w0 stored more earlier h.1)

-- what held at some moment held at one that is so
that_moment : (w0 : World) (stored : List Name) (Q : World → Type 0) (moments : List World) → AllFromStart w0 stored moments → AtSomeMoment moments Q → (w : World) × IsFromStart w0 stored w × Q w
that_moment w0 stored Q [] all h = absurd h
that_moment w0 stored Q (w ∷ earlier) all (inl h) = (w, all.0, h)
that_moment w0 stored Q (w ∷ earlier) all (inr h) = that_moment w0 stored Q earlier all.1 h

-- ---- what floats

-- a unit has an object that was stored, or one of a unit that an open lane has marked and is still to store
abbrev pub IsSource : List Name → State → List Name → Type 0
IsSource stored s v = ((n : Name) × (has v n ≡ true) × Among stored n)
    ⊎ ((lane : ℕ) × (m : Name) × (is_open s.world (Lane lane) ≡ true) × ((s.frames lane).owed ≡ Some m) × (has v m ≡ true))

-- at the start the unit was reached, or it is the end of a walk from a source
abbrev pub Floats : World → List Name → State → List Name → Type 0
Floats w0 stored s u = IsReached (graph w0) u
    ⊎ ((v : List Name) × (rest : List (List Name)) × Among w0.units v × IsSource stored s v × Walk (graph w0) v rest u)

pub record IsFloating (w0 : World) (stored : List Name) (s : State) : Type 0 where
  pub marking : s.world.phase ≡ Marking
  pub units : (u : List Name) → Among w0.units u → Among s.world.units u
  pub made : (n : Name) → IsMade w0 n → IsMade s.world n
  pub lived_then : (n : Name) → in_world s.world n ≡ true → IsMade w0 n → in_world w0 n ≡ true
  pub now : IsFromStart w0 stored s.world
  pub moments : AllFromStart w0 stored s.marks.moments
  pub in_slices : (m : ℕ) → is_open s.world (Marker m) ≡ true → AllFromStart w0 stored (s.slices m).moments
  pub fresh : (n : Name) → has s.marks.fresh n ≡ true → IsMade w0 n → ⊥
  pub kept : (k : Name) (u : List Name) → has s.marks.kept k ≡ true → Among w0.units u → has u k ≡ true → Floats w0 stored s u

-- a unit to which one that floats refers floats
floats_on : (w0 : World) (stored : List Name) (s : State) (u v : List Name) → Among w0.units v → Floats w0 stored s u → Refers (graph w0) u v → Floats w0 stored s v
floats_on w0 stored s u v k (inl reached) refers = inl ((reach_by_walks_holds (graph w0)).refers u v (among_contains _ v k) reached refers)
floats_on w0 stored s u v k (inr (root, rest, among, source, walk)) refers = inr (root, rest ++ v ∷ [], among, source, walk_on (graph w0) root rest u v walk (among_contains _ v k) refers)

-- ---- promises are kept

-- what pays for a mark stores an object of its unit
pays_stored : (w : World) (m : Name) (a : Act) → PaysFor w (Some m) a → (n : Name) × (stored_by a ≡ Some n) × (has (unit_of w m) n ≡ true)
pays_stored w m (act.WriteRef at slot (Some to) old) h = (to, refl, h)
pays_stored w m (act.WriteRef at slot None old) h = absurd h
pays_stored w m (act.SetStrong number (Some to) old) h = (to, refl, h)
pays_stored w m (act.SetStrong number None old) h = absurd h
pays_stored w m (act.Root at true old) h = (at, refl, h)
pays_stored w m (act.Root at false old) h = absurd h
pays_stored w m _ h = absurd h

own_pays : (z : Sizes) (s : State) (lane : ℕ) (m : Name) (a : Act) → MayBy z s (Lane lane) a → is_open s.world (Lane lane) ≡ true
    → (s.frames lane).owed ≡ Some m → (n : Name) × (stored_by a ≡ Some n) × (has (unit_of s.world m) n ≡ true)
own_pays z s lane m (act.FrameOpen phase) may opened owed = absurd (both_ways (is_open s.world (Lane lane)) may.frame opened)
own_pays z s lane m a may opened owed = pays_stored s.world m a (rw owed at may.frame.continues)

source_next : (z : Sizes) (w0 : World) (stored : List Name) (s : State) (p : Pass) (a : Act) → MayBy z s p a → AreApart s.world.kinds s.world.units
    → ((u : List Name) → Among w0.units u → Among s.world.units u)
    → (v : List Name) → Among w0.units v → IsSource stored s v → IsSource (stored ++ option_to_list (stored_by a)) (next_by s (next_world s.marks s.world p a) p a) v
source_next z w0 stored s p a may apart units v k (inl (n, has_n, among)) = inl (n, has_n, among_left stored (option_to_list (stored_by a)) n among)
source_next z w0 stored s (Marker marker) a may apart units v k (inr (lane, m, opened, owed, has_m)) =
    inr (lane, m, open_next s (Marker marker) a (Lane lane) (λ c. let wrong = c.0 in cc) opened, owed, has_m)
source_next z w0 stored s Collector a may apart units v k (inr (lane, m, opened, owed, has_m)) = inr (lane, m, open_next s Collector a (Lane lane) (λ c. let wrong = c.0 in cc) opened, owed, has_m)
source_next z w0 stored s (Lane l) a may apart units v k (inr (lane, m, opened, owed, has_m)) = go (lane == l) refl
  where
    go : (b : Bool) → (lane == l) ≡ b → IsSource (stored ++ option_to_list (stored_by a)) (next_by s (next_world s.marks s.world (Lane l) a) (Lane l) a) v
    go true e =
        let same : lane ≡ l = eqb-true lane l e in
        let paid = own_pays z s l m a may (subst (λ (i : ℕ). is_open s.world (Lane i) ≡ true) same opened) (subst (λ (i : ℕ). (s.frames i).owed ≡ Some m) same owed) in
        let unit : unit_of s.world m ≡ v = own_unit s.world apart v m (units v k) has_m in
        inl (paid.0, subst (λ (u : List Name). has u paid.0 ≡ true) unit paid.2, last_stored stored (stored_by a) paid.0 paid.1)
    go false e = inr (
      lane,
      m,
      open_next s (Lane l) a (Lane lane) (λ c. let same : l ≡ lane = lane_same c.0 in both_ways (lane == l) e (subst (λ (i : ℕ). (lane == i) ≡ true) (sym same) (own_eq lane))) opened,
      ap (λ f. f.owed) (set_at_miss s.frames l _ lane e) ∙ owed,
      has_m,
    )
      where
        lane_same : Lane l ≡ Lane lane → l ≡ lane
        lane_same e = cc

        own_eq : (i : ℕ) → (i == i) ≡ true
        own_eq i = eq-eqb i i refl

floats_next : (z : Sizes) (w0 : World) (stored : List Name) (s : State) (p : Pass) (a : Act) → MayBy z s p a → AreApart s.world.kinds s.world.units
    → ((u : List Name) → Among w0.units u → Among s.world.units u)
    → (u : List Name) → Floats w0 stored s u → Floats w0 (stored ++ option_to_list (stored_by a)) (next_by s (next_world s.marks s.world p a) p a) u
floats_next z w0 stored s p a may apart units u (inl reached) = inl reached
floats_next z w0 stored s p a may apart units u (inr (v, rest, k, source, walk)) = inr (v, rest, k, source_next z w0 stored s p a may apart units v k source, walk)

-- ---- a unit is marked

-- a unit to which a kept one referred floats
marker_floats : (w0 : World) (stored : List Name) (s : State) (w : World) (from u : List Name) → IsNamed w0 → AreApart s.world.kinds s.world.units → IsFloating w0 stored s → IsFromStart w0 stored w
    → Among s.world.units from → list_any (has s.marks.kept) from ≡ true → Among w0.units u → Refers (graph w) from u → Floats w0 stored s u
marker_floats w0 stored s w from u named apart h start among kept k r = go (start.cells r.from r.slot r.to r.cell)
  where
    go : Among stored r.to ⊎ (w0.cell r.from r.slot ≡ Some r.to) → Floats w0 stored s u
    go (inl was_stored) = inr (u, [], k, inl (r.to, r.target, was_stored), refl)
    go (inr e) =
        let lives = member_lives s.world from r.from among r.member in
        let then_lived = h.lived_then r.from lives (named.blank r.from r.slot r.to e) in
        let unit = test_among (λ v. has v r.from) w0.units then_lived in
        let same : from ≡ unit.0 = apart.apart from unit.0 r.from among (h.units unit.0 unit.1) r.member unit.2 in
        let some = test_among (has s.marks.kept) from kept in
        let floats = h.kept some.0 unit.0 some.2 unit.1 (subst (λ (v : List Name). has v some.0 ≡ true) same (among_has from some.0 some.1)) in
        floats_on w0 stored s unit.0 u k floats (record { from = r.from; slot = r.slot; to = r.to; cell = e; member = unit.2; target = r.target })

-- a unit that was a root unit at some moment floats
root_floats : (w0 : World) (stored : List Name) (s : State) (w : World) (u : List Name) → IsFromStart w0 stored w → Among w0.units u → IsRootUnit (graph w) u → Floats w0 stored s u
root_floats w0 stored s w u start k (n, has_n, root) = go root
  where
    from_root : IsRoot (graph w0) n → Floats w0 stored s u
    from_root root = inl ((reach_by_walks_holds (graph w0)).roots u (among_contains _ u k) (n, has_n, root))

    either : {A : Type 0} → (A → IsRoot (graph w0) n) → Among stored n ⊎ A → Floats w0 stored s u
    either f (inl was_stored) = inr (u, [], k, inl (n, has_n, was_stored), refl)
    either f (inr a) = from_root (f a)

    go : IsRoot (graph w) n → Floats w0 stored s u
    go (inl is) = either (λ e. inl e) (start.rooted n is)
    go (inr (lane, number, e)) = either (λ e. inr (lane, number, e)) (start.strong lane number n e)

-- ---- each entry

-- a slice that is open was open, or is opened now
slice_was_open : (z : Sizes) (s : State) (p : Pass) (a : Act) (m : ℕ) → MayBy z s p a → is_open (next_world s.marks s.world p a) (Marker m) ≡ true
    → (is_open s.world (Marker m) ≡ true) ⊎ ((p ≡ Marker m) × (a ≡ act.SliceOpen))
slice_was_open z s (Lane lane) (act.FrameOpen phase) m may h = inl h
slice_was_open z s (Marker marker) (act.FrameOpen phase) m may h = absurd may.may
slice_was_open z s Collector (act.FrameOpen phase) m may h = absurd may.may
slice_was_open z s (Marker marker) act.SliceOpen m may h = go (or_true (m == marker) _ h)
  where
    go : ((m == marker) ≡ true) ⊎ (is_open s.world (Marker m) ≡ true) → (is_open s.world (Marker m) ≡ true) ⊎ ((Marker marker ≡ Marker m) × (act.SliceOpen ≡ act.SliceOpen))
    go (inl e) = inr (ap (λ (i : ℕ). Marker i) (sym (eqb-true m marker e)), refl)
    go (inr e) = inl e
slice_was_open z s (Lane lane) act.SliceOpen m may h = absurd may.may
slice_was_open z s Collector act.SliceOpen m may h = absurd may.may
slice_was_open z s p act.FrameClose m may h = inl (any_filter (same_pass (Marker m)) (λ q. not (same_pass p q)) s.world.opened h)
slice_was_open z s p (act.Slice budget reply) m may h = inl (any_filter (same_pass (Marker m)) (λ q. not (same_pass p q)) s.world.opened h)
slice_was_open z s p (act.BeginGc begin.Started) m may h = inl h
slice_was_open z s p (act.CommitGc commit.Done) m may h = inl h
slice_was_open z s p _ m may h = inl h

module _ (w0 : World) (stored : List Name) where
  -- the moments of the slice of the marker that acts
  own_moments : (z : Sizes) (s : State) (k : ℕ) (a : Act) → MayBy z s (Marker k) a → ((m : ℕ) → is_open s.world (Marker m) ≡ true → AllFromStart w0 stored (s.slices m).moments)
      → is_open (next_world s.marks s.world (Marker k) a) (Marker k) ≡ true → AllFromStart w0 stored (own_slice s.collector.shading (next_world s.marks s.world (Marker k) a) (s.slices k) a).moments
  own_moments z s k act.SliceOpen may h opened = tt
  own_moments z s k (act.Scanned of) may h opened = h k opened
  own_moments z s k a may h opened = go (slice_was_open z s (Marker k) a k may opened)
    where
      go : (is_open s.world (Marker k) ≡ true) ⊎ ((Marker k ≡ Marker k) × (a ≡ act.SliceOpen)) → AllFromStart w0 stored (s.slices k).moments
      go (inl was) = h k was
      go (inr e) = let wrong = e.1 in absurd cc

  slices_next : (z : Sizes) (s : State) (p : Pass) (a : Act) → MayBy z s p a → ((m : ℕ) → is_open s.world (Marker m) ≡ true → AllFromStart w0 stored (s.slices m).moments)
      → (m : ℕ) → is_open (next_world s.marks s.world p a) (Marker m) ≡ true → AllFromStart w0 stored (own_slices s.collector.shading (next_world s.marks s.world p a) s.slices p a m).moments
  slices_next z s (Lane lane) a may h m opened = go (slice_was_open z s (Lane lane) a m may opened)
    where
      go : (is_open s.world (Marker m) ≡ true) ⊎ ((Lane lane ≡ Marker m) × (a ≡ act.SliceOpen)) → AllFromStart w0 stored (s.slices m).moments
      go (inl was) = h m was
      go (inr e) = let wrong = e.0 in absurd cc
  slices_next z s Collector a may h m opened = go (slice_was_open z s Collector a m may opened)
    where
      go : (is_open s.world (Marker m) ≡ true) ⊎ ((Collector ≡ Marker m) × (a ≡ act.SliceOpen)) → AllFromStart w0 stored (s.slices m).moments
      go (inl was) = h m was
      go (inr e) = let wrong = e.0 in absurd cc
  slices_next z s (Marker k) a may h m opened =
      set_at_other s.slices k (own_slice s.collector.shading (next_world s.marks s.world (Marker k) a) (s.slices k) a)
      (λ i f. is_open (next_world s.marks s.world (Marker k) a) (Marker i) ≡ true → AllFromStart w0 stored f.moments)
      (own_moments z s k a may h) (λ i other is. others i other (slice_was_open z s (Marker k) a i may is)) m opened
    where
      others : (i : ℕ) → (i == k) ≡ false → (is_open s.world (Marker i) ≡ true) ⊎ ((Marker k ≡ Marker i) × (a ≡ act.SliceOpen)) → AllFromStart w0 stored (s.slices i).moments
      others i other (inl was) = h i was
      others i other (inr e) = absurd (let wrong = e.0 in let same : i ≡ k = cc in both_ways (i == k) other (eq-eqb i k same))

  moments_next : (s : State) (p : Pass) (a : Act) (w : World) → IsFromStart w0 stored w → AllFromStart w0 stored s.marks.moments → AllFromStart w0 stored (next_marks s.marks w p a).moments
  moments_next s p (act.BeginGc begin.Started) w now h = (now, tt)
  moments_next s p (act.Kept of) w now h = (now, h)
  moments_next s p (act.Make kinds first) w now h = (now, h)
  moments_next s p (act.Scanned of) w now h = (now, h)
  moments_next s p _ w now h = (now, h)

-- what is made is new
fresh_next : (z : Sizes) (w0 : World) (s : State) (p : Pass) (a : Act) → MayBy z s p a → s.world.phase ≡ Marking
    → ((n : Name) → IsMade w0 n → IsMade s.world n) → ((n : Name) → has s.marks.fresh n ≡ true → IsMade w0 n → ⊥)
    → (n : Name) → has (next_marks s.marks (next_world s.marks s.world p a) p a).fresh n ≡ true → IsMade w0 n → ⊥
fresh_next z w0 s p (act.Make kinds first) may marking made h n is m = go (or_true _ _ (sym (list_any-append (same_name n) (names_from (lane_of p) first kinds) s.marks.fresh) ∙ is))
  where
    go : (has (names_from (lane_of p) first kinds) n ≡ true) ⊎ (has s.marks.fresh n ≡ true) → ⊥
    go (inl new) = (is_new z s p (act.Make kinds first) n may new).0 (made n m)
    go (inr old) = h n old m
fresh_next z w0 s p (act.Loose of) may marking made h n is m = (loosens_may z s p of may).2.unmarked marking
fresh_next z w0 s p (act.BeginGc begin.Started) may marking made h n is m = absurd cc
fresh_next z w0 s p (act.CommitGc commit.Done) may marking made h n is m = h n is m
fresh_next z w0 s p _ may marking made h n is m = h n is m

module _ (z : Sizes) (w0 : World) (stored : List Name) (s : State) (named : IsNamed w0) (apart : AreApart s.world.kinds s.world.units) (h : IsFloating w0 stored s) where
  -- a unit that is marked now floats
  marked_floats : (p : Pass) (of : Name) → MayBy z s p (act.Kept of) → (u : List Name) → Among w0.units u → has u of ≡ true → Floats w0 (stored ++ []) (next_by s s.world p (act.Kept of)) u
  marked_floats Collector of may u k has_of =
      let at = that_moment w0 stored (λ w. IsRootUnit (graph w) (unit_of s.world of)) s.marks.moments h.moments may.may.root in
      let unit : unit_of s.world of ≡ u = own_unit s.world apart u of (h.units u k) has_of in
      floats_next z w0 stored s Collector (act.Kept of) may apart h.units u (root_floats w0 stored s at.0 u at.1 k (subst (λ (v : List Name). IsRootUnit (graph at.0) v) unit at.2))
  marked_floats (Marker m) of may u k has_of =
      let at = that_moment w0 stored (λ w. Refers (graph w) may.may.from (unit_of s.world of)) (s.slices m).moments (h.in_slices m may.slice) may.may.refers in
      let unit : unit_of s.world of ≡ u = own_unit s.world apart u of (h.units u k) has_of in
      floats_next z w0 stored s (Marker m) (act.Kept of) may apart h.units u
      (marker_floats w0 stored s at.0 may.may.from u named apart h at.1 (contains_among _ _ may.may.unit) (and_true _ _ may.may.grey).0 k
      (subst (λ (v : List Name). Refers (graph at.0) may.may.from v) unit at.2))
  marked_floats (Lane lane) of may u k has_of = inr (u, [], k, inr (lane, of, may.frame.opened, ap (λ f. f.owed) (set_at_same s.frames lane _), has_of), refl)

  kept_next : (p : Pass) (a : Act) → MayBy z s p a → (k : Name) (u : List Name) → has (next_marks s.marks (next_world s.marks s.world p a) p a).kept k ≡ true → Among w0.units u → has u k ≡ true
      → Floats w0 (stored ++ option_to_list (stored_by a)) (next_by s (next_world s.marks s.world p a) p a) u
  kept_next p (act.Kept of) may k u is among has_k = go (or_true _ _ is)
    where
      go : (same_name k of ≡ true) ⊎ (has s.marks.kept k ≡ true) → Floats w0 (stored ++ []) (next_by s s.world p (act.Kept of)) u
      go (inl e) = marked_floats p of may u among (subst (λ (n : Name). has u n ≡ true) (same_name_true k of e) has_k)
      go (inr old) = floats_next z w0 stored s p (act.Kept of) may apart h.units u (h.kept k u old among has_k)
  kept_next p (act.BeginGc begin.Started) may k u is among has_k = absurd cc
  kept_next p (act.CommitGc commit.Done) may k u is among has_k = floats_next z w0 stored s p (act.CommitGc commit.Done) may apart h.units u (h.kept k u is among has_k)
  kept_next p a may k u is among has_k = floats_next z w0 stored s p a may apart h.units u (h.kept k u is among has_k)

  floating_next : (p : Pass) (a : Act) → MayBy z s p a → is_done a ≡ false → IsFloating w0 (stored ++ option_to_list (stored_by a)) (next_by s (next_world s.marks s.world p a) p a)
  floating_next p a may other = record {
    marking = still_marking z s p a may h.marking other;
    units = λ u k. stays u ((removal z s p a may).others u (among_contains _ u (h.units u k)));
    made = λ n m. made_stays s p a n (h.made n m);
    lived_then = λ n lives m. lived_before n m (lived s p a n lives);
    now = now_next;
    moments = moments_next w0 (stored ++ option_to_list (stored_by a)) s p a (next_world s.marks s.world p a) now_next (all_more w0 stored (option_to_list (stored_by a)) s.marks.moments h.moments);
    in_slices = λ m opened. (
      now_next,
      slices_next w0 (stored ++ option_to_list (stored_by a)) z s p a may (λ i o. all_more w0 stored (option_to_list (stored_by a)) (s.slices i).moments (h.in_slices i o)) m opened,
    );
    fresh = fresh_next z w0 s p a may h.marking h.made h.fresh;
    kept = kept_next p a may;
  }
    where
      now_next : IsFromStart w0 (stored ++ option_to_list (stored_by a)) (next_world s.marks s.world p a)
      now_next = from_start_next w0 stored s p a other h.now

      stays : (u : List Name) → IsUnit (graph (next_world s.marks s.world p a)) u ⊎ IsParted (next_world s.marks s.world p a) (record { pass = p; act = a }) u
          ⊎ ((◌≡◌ {A = Entry} (record { pass = p; act = a }) done) × Contains (next_world s.marks s.world p a).last_removed u) → Among (next_world s.marks s.world p a).units u
      stays u (inl unit) = contains_among _ u unit
      stays u (inr (inl parts)) = absurd ((loosens_may z s p parts.of (subst (MayBy z s p) parts.by may)).2.unmarked h.marking)
      stays u (inr (inr gone)) = absurd (both_ways (is_done a) other (ap (λ (e : Entry). is_done e.act) gone.0))

      lived_before : (n : Name) → IsMade w0 n → (in_world s.world n ≡ true) ⊎ (has (made_by p a) n ≡ true) → in_world w0 n ≡ true
      lived_before n m (inl lives) = h.lived_then n lives m
      lived_before n m (inr new) = absurd ((is_new z s p a n may new).0 (h.made n m))

-- ---- from the start to the commit

-- when a collection has just started
floating_first : (z : Sizes) (s : State) → May z s started → IsFloating s.world [] (next s started)
floating_first z s may = record {
  marking = refl;
  units = λ u k. k;
  made = λ n m. m;
  lived_then = λ n lives m. lives;
  now = start;
  moments = (start, tt);
  in_slices = λ m opened. absurd (not_open s.world (Marker m) opened may.may.1);
  fresh = λ n is. absurd cc;
  kept = λ k u is. absurd cc;
}
  where
    start : IsFromStart s.world [] (next s started).world
    start = record { cells = λ f slot x e. inr e; rooted = λ x e. inr e; strong = λ lane number x e. inr e }

stored_more : (ds : List Entry) (e : Entry) → names_stored (ds ++ e ∷ []) ≡ names_stored ds ++ option_to_list (stored_by e.act)
stored_more ds e =
    flat_map-append (λ (e : Entry). option_to_list (stored_by e.act)) ds (e ∷ []) ∙ ap (λ (ns : List Name). names_stored ds ++ ns) (append-nil (option_to_list (stored_by e.act)))

floating : (z : Sizes) (before during : List Entry) → Legal z (before ++ started ∷ during) → AllByRecursion (λ e. is_done e.act ≡ false) during
    → IsFloating (after before) (names_stored during) (state_of (before ++ started ∷ during))
floating z before during legal all =
    subst (λ (xs : List Entry). IsFloating (after before) (names_stored during) (state_of xs)) (append_assoc before (started ∷ []) during)
    (by_more z opened (λ ds. IsFloating (after before) (names_stored ds) (state_of (opened ++ ds))) (λ e. is_done e.act ≡ false) first step during whole all)
  where
    opened : List Entry
    opened = before ++ started ∷ []

    whole : Legal z (opened ++ during)
    whole = subst (Legal z) (sym (append_assoc before (started ∷ []) during)) legal

    parts : Legal z before × May z (state_of before) started
    parts = (histories_join.one_more z before started).0 ((histories_join.legal z opened during).0 whole).0

    first : IsFloating (after before) [] (state_of (opened ++ []))
    first = subst (λ (xs : List Entry). IsFloating (after before) [] (state_of xs)) (sym (append-nil opened))
        (subst (λ (s : State). IsFloating (after before) [] s) (sym (one_more before started)) (floating_first z (state_of before) parts.1))

    step : (ds : List Entry) (e : Entry) → Legal z (opened ++ ds) → May z (state_of (opened ++ ds)) e → is_done e.act ≡ false
        → IsFloating (after before) (names_stored ds) (state_of (opened ++ ds)) → IsFloating (after before) (names_stored (ds ++ e ∷ [])) (state_of (opened ++ (ds ++ e ∷ [])))
    step ds e legal may other h =
        subst (λ (s : State). IsFloating (after before) (names_stored (ds ++ e ∷ [])) s) (sym (one_more_of opened ds e))
        (subst (λ (ns : List Name). IsFloating (after before) ns (next (state_of (opened ++ ds)) e)) (sym (stored_more ds e))
        (floating_next z (after before) (names_stored ds) (state_of (opened ++ ds)) (barred z before parts.0).named (units_apart z (opened ++ ds) legal) h e.pass e.act may other))

pub floating_is_bounded_holds : FloatingIsBounded
floating_is_bounded_holds z before during legal all u unit stays =
    let whole : List Entry = before ++ started ∷ during in
    let parts = (histories_join.one_more z whole done).0 legal in
    let h = floating z before during parts.0 all in
    let left = contains_among _ u (subst (λ (s : State). IsUnit (graph s.world) u) (one_more whole done) stays) in
    let some = test_among (λ n. has (state_of whole).marks.kept n || has (state_of whole).marks.fresh n) u (among_filter_test (is_marked (state_of whole).marks) (after whole).units u left) in
    go parts.1.may.closed h some.0 (among_has u some.0 some.1) (or_true _ _ some.2)
  where
    start_legal : Legal z before
    start_legal = ((histories_join.legal z before (started ∷ during)).0 ((histories_join.one_more z (before ++ started ∷ during) done).0 legal).0).0

    closed_source : (v : List Name) (rest : List (List Name)) → Among (after before).units v → Walk (graph (after before)) v rest u → (after (before ++ started ∷ during)).opened ≡ []
        → IsSource (names_stored during) (state_of (before ++ started ∷ during)) v → IsReachedFrom (graph (after before)) (names_stored during) u
    closed_source v rest k walk closed (inl (n, has_n, was_stored)) =
        record { source = n; root = v; rest = rest; one = among_has (names_stored during) n was_stored; unit = among_contains _ v k; member = has_n; walk = walk }
    closed_source v rest k walk closed (inr (lane, m, opened, owed, has_m)) = absurd (not_open (after (before ++ started ∷ during)) (Lane lane) opened closed)

    ends : (after (before ++ started ∷ during)).opened ≡ [] → Floats (after before) (names_stored during) (state_of (before ++ started ∷ during)) u
        → IsReached (graph (after before)) u ⊎ IsReachedFrom (graph (after before)) (names_stored during) u
    ends closed (inl reached) = inl reached
    ends closed (inr (v, rest, k, source, walk)) = inr (closed_source v rest k walk closed source)

    go : (after (before ++ started ∷ during)).opened ≡ [] → IsFloating (after before) (names_stored during) (state_of (before ++ started ∷ during)) → (n : Name) → has u n ≡ true
        → (has (state_of (before ++ started ∷ during)).marks.kept n ≡ true) ⊎ (has (state_of (before ++ started ∷ during)).marks.fresh n ≡ true)
        → IsReached (graph (after before)) u ⊎ IsReachedFrom (graph (after before)) (names_stored during) u
    go closed h n has_n (inl kept) = ends closed (h.kept n u kept (contains_among _ u unit) has_n)
    go closed h n has_n (inr fresh) =
        absurd (h.fresh n fresh (made_living (after before) (sound z before start_legal).once n (member_lives (after before) u n (contains_among _ u unit) has_n)))

pub unreached_is_removed_holds : UnreachedIsRemoved
unreached_is_removed_holds z before during legal all u unit unreached unstored =
    let whole : List Entry = before ++ started ∷ during in
    let parts = (histories_join.one_more z whole done).0 legal in
    let h = floating z before during parts.0 all in
    let goes = (removal z (state_of whole) done.pass done.act parts.1).others u (among_contains _ u (h.units u (contains_among _ u unit))) in
    subst (λ (s : State). Contains s.world.last_removed u) (sym (one_more whole done)) (go goes)
  where
    neither : IsReached (graph (after before)) u ⊎ IsReachedFrom (graph (after before)) (names_stored during) u → ⊥
    neither (inl reached) = unreached reached
    neither (inr stored) = unstored stored

    go : IsUnit (graph (next (state_of (before ++ started ∷ during)) done).world) u
        ⊎ IsParted (next (state_of (before ++ started ∷ during)) done).world done u
        ⊎ ((done ≡ done) × Contains (next (state_of (before ++ started ∷ during)) done).world.last_removed u)
        → Contains (next (state_of (before ++ started ∷ during)) done).world.last_removed u
    go (inl stays) =
        absurd
        (neither
        (floating_is_bounded_holds z before during legal all u unit
        (subst (λ (s : State). IsUnit (graph s.world) u) (sym (one_more (before ++ started ∷ during) done)) stays)))
    go (inr (inl parts)) = absurd (let wrong = parts.by in cc)
    go (inr (inr gone)) = gone.1
