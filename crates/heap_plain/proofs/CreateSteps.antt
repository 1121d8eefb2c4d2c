-- Making a unit.
use Rattle.std.proofs.Common.{◌≡◌, ◌≢◌, ℕ, ◌+◌, ◌-◌, ◌<◌, ◌≤◌, ◌==◌, ◌||◌, ◌&&◌, not, refl, sym, subst, ap, ◌∙◌, inl, inr, arith, Bool, true, false, List, [], ◌∷◌, ◌++◌, length, length-append, get_or, ◌⊎◌, count_by, append-nil, slice_get, Option, Some, None}
use Rattle.std.specs.List.{list_any, list_all}
use Rattle.std.proofs.Math.ListN.{set}
use Rattle.std.proofs.Math.Logic.{dite}
use Rattle.std.proofs.Math.Decide.{ℕ_discrete}
use Rattle.std.proofs.lemmas.List.{length-set, get_or-set_same, get_or-set_other}
use Rattle.std.proofs.lemmas.List.Folds.{list_any-append}
use Rattle.std.proofs.lemmas.List.Sums.{sum_by-append}
use Rattle.std.proofs.lemmas.Grind.{flat_map-append}
use Rattle.world_model.specs.Sizes.{Sizes, item_count}
use Rattle.world_model.specs.NameLists.{same_name, has, names_from, members, set_at}
use Rattle.world_model.specs.World.{made, occupied, pair_of}
use Rattle.world_model.specs.State.{Marks}
use Rattle.world_model.specs.Next.{with_unit}
use Rattle.world_model.specs.LaneSteps.{is_lawful}
use Rattle.world_model.specs.Histories.{after, state_of, MayBy}
use Rattle.world_model.specs.Engines.{IsInFrame, IsOfLane}
use Rattle.world_model.proofs.ListFacts.{Among, among_append, and_true, or_right, among_left, among_right, test_among, among_test}
use Rattle.world_model.proofs.NameFacts.{names_from_range, set_at_same, has_among, among_has}
use Rattle.world_model.proofs.Barrier.{IsBarred, barred}
use Rattle.world_model.proofs.Giving.{given_is_held_holds}
use Rattle.world_model.proofs.Invalid.{garbage_is_marked_holds}
use Rattle.heap_plain.specs.Types.{Name, Ref, Kind, Lane, Marking, Entry, Weak}
use Rattle.heap_plain.specs.Types.act
use Rattle.heap_plain.specs.declared.life.Life.{Life}
use Rattle.heap_plain.specs.declared.life.Life.TheVariants.{Free, Live}
use Rattle.heap_plain.specs.Parts.{Parts, Objects, Lists, name_at, life_at, first_at, next_at, kind_at, target_at, plain_at, is_gone, stage_of, Holds}
use Rattle.heap_plain.specs.Sweeping.{removed_name}
use Rattle.heap_plain.specs.Filling.{FilledAt, RowsFilled}
use Rattle.heap_plain.specs.Units.{NamesShow, IsPlace, UnitsShow, StandsAt, LivesAt, AreLinked}
use Rattle.heap_plain.specs.Roots.{RootsShow, rooted_at, GarbageShow, StrongShow}
use Rattle.heap_plain.specs.Cells.{KindsShow, CellsShow, Aims}
use Rattle.heap_plain.specs.Painted.{grey_of}
use Rattle.heap_plain.specs.Colouring.{MarksShow}
use Rattle.heap_plain.specs.Stocked.{no_stock, free_of, taken, popped}
use Rattle.heap_plain.specs.Stocking.{FreeShows}
use Rattle.heap_plain.specs.Destroying.{RemovedShow, GoneShow, LiesAt}
use Rattle.heap_plain.specs.Plain.{Shows, IsPlain}
use Rattle.heap_plain.proofs.WorldFacts.{at_set, set_at_other, any_same}
use Rattle.heap_plain.proofs.Fillings.{Lists-set, Lists-same}
use Rattle.heap_plain.proofs.Resting.{in_open, holds_call}
use Rattle.heap_plain.proofs.Entries.{Done, does}
use Rattle.heap_plain.proofs.Queueing.{queue_more, gather_more}
use Rattle.heap_plain.proofs.Kinding.{slice_left, slice_right, lawful_fits}
use Rattle.heap_plain.proofs.Cells.{aims_map}
use Rattle.heap_plain.proofs.Finding.{removed_same_names}
use Rattle.heap_plain.proofs.Standing.{one_head, live_used, links_same, lives_at}
use Rattle.heap_plain.proofs.MarkSteps.{set_still}
use Rattle.heap_plain.proofs.Popping.{lane_below, Where, where_is, popped_lane, popped_free, free_popped}
use Rattle.heap_plain.proofs.NewNames.{length-names_from, has_in_row, row_place}
use Rattle.world_model.proofs.Places.{new_in_lane}
use Rattle.heap_plain.specs.Pairing.{PairsShow, IsPair, paired}
use Rattle.heap_plain.specs.Serials.{serial_at}
use Rattle.world_model.specs.Follows.{IsMade}
use Rattle.world_model.proofs.Pairs.{pair_found, pair_made}
use Rattle.heap_plain.proofs.Pointers.{strong_map}

-- a creation, and what its writes leave of the vectors
pub record Creation (z : Sizes) (p : Parts) (h : List Entry) (l m : ℕ) (more : List Kind) (ns : List (Option Name)) (fs nx : List ℕ) (ks : List Kind)
    (ts : List (Option ℕ)) (ps : List ℕ) (ls : List Life) (gs : List Bool) : Type 0 where
  pub was : IsPlain z p h
  pub frame : IsInFrame z h l
  pub is : m ≡ made (after h) l
  pub some : 1 ≤ length more
  pub few : length more ≤ 1024
  pub lawful : list_all (is_lawful z) more ≡ true
  pub names_left : m + length more ≤ z.names
  pub room : length more ≤ length (free_of p.stocks l)
  pub by_name : FilledAt p.names ns (popped (free_of p.stocks l)) (length more) (λ k. Some (record { lane = l; count = m + 1 + k }))
  pub by_first : FilledAt p.firsts fs (popped (free_of p.stocks l)) (length more) (λ k. popped (free_of p.stocks l) 0)
  pub by_life : FilledAt p.lives ls (popped (free_of p.stocks l)) (length more) (λ k. Live)
  pub by_kind : FilledAt p.kinds ks (popped (free_of p.stocks l)) (length more) (kind_at more)
  pub by_target : RowsFilled p.targets ts (popped (free_of p.stocks l)) (length more) z.slots None
  pub by_plain : RowsFilled p.plains ps (popped (free_of p.stocks l)) (length more) z.slots 0
  pub by_next : FilledAt p.next nx (popped (free_of p.stocks l)) (length more - 1) (λ k. popped (free_of p.stocks l) (k + 1))
  pub by_garbage : FilledAt p.garbage gs (popped (free_of p.stocks l)) (length more) (λ k. false)

module _ {z : Sizes} {p : Parts} {h : List Entry} {l m : ℕ} {more : List Kind} {ns : List (Option Name)} {fs nx : List ℕ} {ks : List Kind}
    {ts : List (Option ℕ)} {ps : List ℕ} {ls : List Life} {gs : List Bool} (new : Creation z p h l m more ns fs nx ks ts ps ls gs) where
  abbrev s : Shows z p (state_of h)
  s = new.was.shows

  abbrev at : ℕ → ℕ
  at = popped (free_of p.stocks l)

  -- the index of the new unit
  abbrev first : ℕ
  first = at 0

  abbrev unit : List Name
  unit = names_from l (m + 1) more

  abbrev new_units : List (List Name)
  new_units = (after h).units ++ unit ∷ []

  abbrev new_kinds : ℕ → List Kind
  new_kinds = set_at (after h).kinds l ((after h).kinds l ++ more)

  abbrev out_of : ℕ → Type 0
  out_of i = (k : ℕ) → k < length more → at k ≢ i

  abbrev sizes' : List ℕ
  sizes' = set p.sizes first (length more)

  abbrev marked' : List Bool
  marked' = set p.marked first true

  -- the objects after it
  abbrev o' : Objects
  o' = record { names = ns; firsts = fs; sizes = sizes'; next = nx; lives = ls }

  -- what barriers keep
  known : IsBarred (state_of h)
  known = barred z h new.was.legal

  within : first < item_count z
  within = lane_below new.frame.in_range (popped_lane s.free l (length more) new.frame.in_range new.room 0 new.some)

  -- no object was at a new index
  no_name : (k : ℕ) → k < length more → name_at p.names (at k) ≡ None
  no_name k below = s.free.nameless (at k) (popped_free s.free l (length more) new.frame.in_range new.room k below)

  named_out : (i : ℕ) (n : Name) → name_at p.names i ≡ Some n → out_of i
  named_out i n e = λ k below same. let none = no_name k below in let there : name_at p.names (at k) ≡ name_at p.names i = ap (name_at p.names) same in absurd cc

  name_in : (k i : ℕ) → k < length more → i ≡ at k → name_at ns i ≡ Some (record { lane = l; count = m + 1 + k })
  name_in k i below e = ap (name_at ns) e ∙ new.by_name.inside k None below

  life_in : (k i : ℕ) → k < length more → i ≡ at k → life_at ls i ≡ Live
  life_in k i below e = ap (life_at ls) e ∙ new.by_life.inside k Free below

  first_in : (k i : ℕ) → k < length more → i ≡ at k → first_at fs i ≡ first
  first_in k i below e = ap (first_at fs) e ∙ new.by_first.inside k 0 below

  name_out : (i : ℕ) → out_of i → name_at ns i ≡ name_at p.names i
  name_out i o = new.by_name.outside i None o

  life_out : (i : ℕ) → out_of i → life_at ls i ≡ life_at p.lives i
  life_out i o = new.by_life.outside i Free o

  first_out : (i : ℕ) → out_of i → first_at fs i ≡ first_at p.firsts i
  first_out i o = new.by_first.outside i 0 o

  not_first : (i : ℕ) → out_of i → i ≢ first
  not_first i o = λ e. o 0 new.some (sym e)

  -- a link of an old object, and of a new one
  next_out : (i : ℕ) → out_of i → next_at nx i ≡ next_at p.next i
  next_out i o = new.by_next.outside i 0 (λ k below. o k (omega arith))

  next_in : (k : ℕ) → k + 1 < length more → next_at nx (at k) ≡ at (k + 1)
  next_in k below = new.by_next.inside k 0 (omega arith)

  live_out : (i : ℕ) → life_at p.lives i ≡ Live → out_of i
  live_out i e = let n = s.units.named i (live_used p.lives i e) in named_out i n.0 n.1

  same_life : (i : ℕ) (n : Name) → LivesAt p.names p.lives i n → LivesAt ns ls i n
  same_life i n a = let o = named_out i n a.name in record { name = name_out i o ∙ a.name; life = life_out i o ∙ a.life }

  old_life : (i : ℕ) (n : Name) → out_of i → LivesAt ns ls i n → LivesAt p.names p.lives i n
  old_life i n o a = record { name = sym (name_out i o) ∙ a.name; life = sym (life_out i o) ∙ a.life }

  new_life : (k i : ℕ) → k < length more → i ≡ at k → LivesAt ns ls i (record { lane = l; count = m + 1 + k })
  new_life k i below e = record { name = name_in k i below e; life = life_in k i below e }

  name_is : (k i : ℕ) (n : Name) → k < length more → i ≡ at k → name_at ns i ≡ Some n → n ≡ record { lane = l; count = m + 1 + k }
  name_is k i n below e there = let t = name_in k i below e in cc

  -- an old name is none of the new ones
  old_name : (i : ℕ) (n : Name) → name_at p.names i ≡ Some n → has unit n ≡ true → ⊥
  old_name i n there e =
      let place = s.names.places i n there in
      let range = names_from_range l (m + 1) more n e in
      let lens : length ((after h).kinds n.lane) ≡ length ((after h).kinds l) = ap (λ (x : ℕ). length ((after h).kinds x)) range.0 in
      omega (arith, place.few, range.1)

  old_other : (i : ℕ) (n : Name) → name_at p.names i ≡ Some n → has unit n ≡ false
  old_other i n there = go (has unit n) refl
    where
      go : (b : Bool) → has unit n ≡ b → b ≡ false
      go true e = absurd (old_name i n there e)
      go false e = refl

  -- ---- names

  grown : (k : ℕ) → length ((after h).kinds k) ≤ length (new_kinds k)
  grown k = at_set (λ (x : List Kind). length ((after h).kinds k) ≤ length x) (after h).kinds l k ((after h).kinds l ++ more)
      (λ e. let len = length-append ((after h).kinds l) more in let lens : length ((after h).kinds k) ≡ length ((after h).kinds l) = ap (λ (x : ℕ). length ((after h).kinds x)) e in omega arith)
      (λ ne. omega arith)

  own_kinds : length (new_kinds l) ≡ m + length more
  own_kinds = let len = length-append ((after h).kinds l) more in
      ap (λ (x : List Kind). length x) (set_at_same (after h).kinds l ((after h).kinds l ++ more)) ∙ len ∙ ap (λ k. k + length more) (sym new.is)

  place_new : (i : ℕ) (n : Name) → Where at (length more) i → name_at ns i ≡ Some n → IsPlace z new_kinds n i
  place_new i n (inl w) e = subst (λ (x : Name). IsPlace z new_kinds x i) (sym (name_is w.0 i n w.1 w.2 e))
      (record {
        lane = new.frame.in_range;
        some = omega arith;
        few = omega (arith, own_kinds, w.1);
        at = subst (λ (j : ℕ). IsOfLane z l j) (sym w.2) (popped_lane s.free l (length more) new.frame.in_range new.room w.0 w.1);
      })
  place_new i n (inr o) e = let place = s.names.places i n (sym (name_out i o) ∙ e) in record { lane = place.lane; some = place.some; few = omega (arith, place.few, grown n.lane); at = place.at }

  new_name : (k i : ℕ) (n : Name) → k < length more → i ≡ at k → name_at ns i ≡ Some n → has unit n ≡ true
  new_name k i n below here e = subst (λ (x : Name). has unit x ≡ true) (sym (name_is k i n below here e)) (has_in_row l (m + 1) more k below)

  alone_new : (i j : ℕ) (n : Name) → name_at ns i ≡ Some n → name_at ns j ≡ Some n → Where at (length more) i → Where at (length more) j → i ≡ j
  alone_new i j n a b (inl v) (inl w) =
      let count : m + 1 + v.0 ≡ m + 1 + w.0 = ap (λ (x : Name). x.count) (sym (name_is v.0 i n v.1 v.2 a) ∙ name_is w.0 j n w.1 w.2 b) in
      let same : v.0 ≡ w.0 = omega arith in
      v.2 ∙ ap at same ∙ sym w.2
  alone_new i j n a b (inl v) (inr o) = absurd (old_name j n (sym (name_out j o) ∙ b) (new_name v.0 i n v.1 v.2 a))
  alone_new i j n a b (inr o) (inl w) = absurd (old_name i n (sym (name_out i o) ∙ a) (new_name w.0 j n w.1 w.2 b))
  alone_new i j n a b (inr o) (inr q) = s.names.alone i j n (sym (name_out i o) ∙ a) (sym (name_out j q) ∙ b)

  names_new : NamesShow z ns new_kinds
  names_new = record {
    items = new.by_name.len ∙ s.names.items;
    places = λ i n e. place_new i n (where_is at (length more) i) e;
    alone = λ i j n a b. alone_new i j n a b (where_is at (length more) i) (where_is at (length more) j);
  }

  made_new : Lists (set p.made l (m + length more)) z.lanes (λ k. length (new_kinds k))
  made_new = Lists-set p.made z.lanes l (m + length more) (λ k. length ((after h).kinds k)) (λ k. length (new_kinds k)) s.made new.frame.in_range own_kinds
      (λ k ne. ap (λ (x : List Kind). length x) (set_at_other (after h).kinds l k ((after h).kinds l ++ more) ne))

  -- ---- units

  stands_old : (head : ℕ) (u : List Name) → StandsAt p.objects (after h).units head u → StandsAt o' new_units head u
  stands_old head u t = let o = live_out head t.life in record {
    among = among_left (after h).units (unit ∷ []) u t.among;
    life = life_out head o ∙ t.life;
    own = first_out head o ∙ t.own;
    size = get_or-set_other p.sizes first head (length more) 0 (not_first head o) ∙ t.size;
    linked = links_same p.names ns p.next nx u (λ i n e there. let out = named_out i n there in (name_out i out ∙ there, next_out i out)) head t.linked;
    inside = λ n e. let j = t.inside n e in (j.0, same_life j.0 n j.1, first_out j.0 (named_out j.0 n j.1.name) ∙ j.2);
    whole = λ i n a f. go i n a f (where_is at (length more) i);
  }
    where
      go : (i : ℕ) (n : Name) → LivesAt ns ls i n → first_at fs i ≡ head → Where at (length more) i → has u n ≡ true
      go i n a f (inl w) = absurd (not_first head (live_out head t.life) (sym f ∙ first_in w.0 i w.1 w.2))
      go i n a f (inr o) = t.whole i n (old_life i n o a) (sym (first_out i o) ∙ f)

  -- from a new object on its unit is linked
  linked_new : (k count : ℕ) (kinds : List Kind) → k + length kinds ≡ length more → count ≡ m + 1 + k → AreLinked ns nx (at k) (names_from l count kinds)
  linked_new k count [] len at_count = tt
  linked_new k count (kind ∷ []) len at_count = (name_in k (at k) (omega arith) refl ∙ ap (λ (c : ℕ). Some (record { lane = l; count = c })) (sym at_count), tt)
  linked_new k count (kind ∷ next_kind ∷ kinds) len at_count = (
    name_in k (at k) (omega arith) refl ∙ ap (λ (c : ℕ). Some (record { lane = l; count = c })) (sym at_count),
    subst (λ (j : ℕ). AreLinked ns nx j (names_from l (count + 1) (next_kind ∷ kinds))) (sym (next_in k (omega arith)))
        (linked_new (k + 1) (count + 1) (next_kind ∷ kinds) (omega arith) (omega arith)),
  )

  stands_new : StandsAt o' new_units first unit
  stands_new = record {
    among = among_right (after h).units (unit ∷ []) unit (inl refl);
    life = life_in 0 first new.some refl;
    own = first_in 0 first new.some refl;
    size = get_or-set_same p.sizes first (length more) 0 (omega (arith, within, s.units.sizes_len)) ∙ sym (length-names_from l (m + 1) more);
    linked = linked_new 0 (m + 1) more (omega arith) (omega arith);
    inside = λ n e. let r = row_place l (m + 1) more n e in (at r.0, subst (λ (x : Name). LivesAt ns ls (at r.0) x) (sym r.2) (new_life r.0 (at r.0) r.1 refl), first_in r.0 (at r.0) r.1 refl);
    whole = λ i n a f. go i n a f (where_is at (length more) i);
  }
    where
      go : (i : ℕ) (n : Name) → LivesAt ns ls i n → first_at fs i ≡ first → Where at (length more) i → has unit n ≡ true
      go i n a f (inl w) = new_name w.0 i n w.1 w.2 a.name
      go i n a f (inr o) =
          let e = s.units.each i (old_life i n o a).life in
          absurd (not_first (first_at p.firsts i) (live_out (first_at p.firsts i) e.1.life) (sym (first_out i o) ∙ f))

  units_new : UnitsShow z o' new_units
  units_new = record {
    firsts_len = new.by_first.len ∙ s.units.firsts_len;
    sizes_len = length-set p.sizes first (length more) ∙ s.units.sizes_len;
    links_len = new.by_next.len ∙ s.units.links_len;
    lives_len = new.by_life.len ∙ s.units.lives_len;
    in_range = λ i. range i (where_is at (length more) i);
    small = λ i. small i;
    named = λ i ne. named i ne (where_is at (length more) i);
    each = λ i e. each i e (where_is at (length more) i);
    all = λ u a. all u (among_append (after h).units (unit ∷ []) u a);
  }
    where
      range : (i : ℕ) → Where at (length more) i → first_at fs i < item_count z
      range i (inl w) = let t = first_in w.0 i w.1 w.2 in omega (arith, within)
      range i (inr o) = let t = first_out i o in omega (arith, s.units.in_range i)

      small : (i : ℕ) → get_or sizes' i 0 ≤ 1024
      small i = dite (ℕ_discrete i first)
          (λ (e : i ≡ first). let t : get_or sizes' i 0 ≡ length more =
          ap (λ (j : ℕ). get_or sizes' j 0) e ∙ get_or-set_same p.sizes first (length more) 0 (omega (arith, within, s.units.sizes_len)) in
          omega arith)
          (λ (ne : i ≢ first). let t = get_or-set_other p.sizes first i (length more) 0 ne in omega (arith, s.units.small i))

      named : (i : ℕ) → life_at ls i ≢ Free → Where at (length more) i → (n : Name) × (name_at ns i ≡ Some n)
      named i ne (inl w) = (record { lane = l; count = m + 1 + w.0 }, name_in w.0 i w.1 w.2)
      named i ne (inr o) = let r = s.units.named i (λ e. ne (life_out i o ∙ e)) in (r.0, name_out i o ∙ r.1)

      each : (i : ℕ) → life_at ls i ≡ Live → Where at (length more) i → (u : List Name) × StandsAt o' new_units (first_at fs i) u
      each i e (inl w) = (unit, subst (λ (x : ℕ). StandsAt o' new_units x unit) (sym (first_in w.0 i w.1 w.2)) stands_new)
      each i e (inr o) = let r = s.units.each i (sym (life_out i o) ∙ e) in (r.0, subst (λ (x : ℕ). StandsAt o' new_units x r.0) (sym (first_out i o)) (stands_old (first_at p.firsts i) r.0 r.1))

      all : (u : List Name) → Among (after h).units u ⊎ ((unit ≡ u) ⊎ ⊥) → (head : ℕ) × StandsAt o' new_units head u
      all u (inl a) = let r = s.units.all u a in (r.0, stands_old r.0 u r.1)
      all u (inr (inl e)) = (first, subst (λ (x : List Name). StandsAt o' new_units first x) e stands_new)
      all u (inr (inr e)) = absurd e

  -- a unit is an old one, or the new one
  abbrev EitherUnit : ℕ → List Name → Type 0
  EitherUnit head u = StandsAt p.objects (after h).units head u ⊎ ((u ≡ unit) × (head ≡ first))

  either_unit : (head : ℕ) (u : List Name) → StandsAt o' new_units head u → EitherUnit head u
  either_unit head u t = go (among_append (after h).units (unit ∷ []) u t.among)
    where
      go : Among (after h).units u ⊎ ((unit ≡ u) ⊎ ⊥) → EitherUnit head u
      go (inl a) =
          let r = s.units.all u a in
          let same : r.0 ≡ head = one_head names_new units_new r.0 head u (stands_old r.0 u r.1) t in
          inl (subst (λ (x : ℕ). StandsAt p.objects (after h).units x u) same r.1)
      go (inr (inl e)) = inr (sym e, one_head names_new units_new head first u t (subst (λ (x : List Name). StandsAt o' new_units first x) e stands_new))
      go (inr (inr e)) = absurd e

  all_members : members new_units ≡ members (after h).units ++ unit
  all_members = flat_map-append (λ (u : List Name). u) (after h).units (unit ∷ []) ∙ ap (λ (x : List Name). members (after h).units ++ x) (append-nil unit)

  free_new : FreeShows z ns ls (set p.stocks l (taken (get_or p.stocks l no_stock) (length more))) (occupied (with_unit (after h) l more (m + 1)))
  free_new = free_popped s.free l (length more) new.frame.in_range new.room ns ls _ new.by_life name_out (λ k.
      let live : count_by (λ n. n.lane == k) (members new_units)
      ≡ count_by (λ n. n.lane == k) (members (after h).units) + count_by (λ n. n.lane == k) unit =
      ap (λ (x : List Name). count_by (λ n. n.lane == k) x) all_members ∙ sum_by-append _ (members (after h).units) unit in
      omega (arith, new_in_lane l (m + 1) k more))

  -- ---- roots

  not_rooted : (k : ℕ) → k < length more → (after h).rooted (record { lane = l; count = m + 1 + k }) ≡ false
  not_rooted k below = go ((after h).rooted (record { lane = l; count = m + 1 + k })) refl
    where
      go : (b : Bool) → (after h).rooted (record { lane = l; count = m + 1 + k }) ≡ b → b ≡ false
      go true e = let j = lives_at s.units _ (known.named.rooted _ e) in absurd (old_name j.0 _ j.1.name (has_in_row l (m + 1) more k below))
      go false e = refl

  same_root : (i : ℕ) → Where at (length more) i → rooted_at (after h).rooted (name_at ns i) ≡ rooted_at (after h).rooted (name_at p.names i)
  same_root i (inl w) = ap (rooted_at (after h).rooted) (name_in w.0 i w.1 w.2) ∙ not_rooted w.0 w.1 ∙ sym (ap (rooted_at (after h).rooted) (ap (name_at p.names) w.2 ∙ no_name w.0 w.1))
  same_root i (inr o) = ap (rooted_at (after h).rooted) (name_out i o)

  roots_new : RootsShow z ns p.roots (after h).rooted
  roots_new = record {
    bits = Lists-same p.roots (item_count z) (λ i. rooted_at (after h).rooted (name_at p.names i)) _ s.roots.bits (λ i. same_root i (where_is at (length more) i));
  }

  may_make : MayBy z (state_of h) (Lane l) (act.Make more (m + 1))
  may_make = record {
    in_range = new.frame.in_range;
    frame = in_open new.was.rest.between new.frame.opened;
    may = record {
      some = new.some;
      few = new.few;
      lawful = new.lawful;
      next = ap (λ k. k + 1) new.is;
      names = omega arith;
      room = omega (arith, (s.free.each l new.frame.in_range).count);
    };
  }

  -- ---- marks

  first_marked : get_or marked' first false ≡ true
  first_marked = get_or-set_same p.marked first true false (omega (arith, within, s.marked_len))

  none_kept : list_any (has (state_of h).marks.kept) unit ≡ true → ⊥
  none_kept e =
      let f = test_among (has (state_of h).marks.kept) unit e in
      let was_made = known.noted.kept_made f.0 f.2 in
      let range = names_from_range l (m + 1) more f.0 (among_has unit f.0 f.1) in
      let lens : length ((after h).kinds f.0.lane) ≡ length ((after h).kinds l) = ap (λ (x : ℕ). length ((after h).kinds x)) range.0 in
      omega (arith, was_made.1, range.1, new.is)

  unit_fresh : (kept fresh_now : List Name) → list_any (λ n. has kept n || has (unit ++ fresh_now) n) unit ≡ true
  unit_fresh kept fresh_now =
      let n : Name = record { lane = l; count = m + 1 + 0 } in
      let e = has_in_row l (m + 1) more 0 (omega arith) in
      among_test (λ n. has kept n || has (unit ++ fresh_now) n) unit n (has_among unit n e) (or_right (has kept n) _ (list_any-append (same_name n) unit fresh_now ∙ ap (λ b. b || has fresh_now n) e))

  old_fresh : (kept fresh_now u : List Name) (head : ℕ) → StandsAt p.objects (after h).units head u
      → list_any (λ n. has kept n || has fresh_now n) u ≡ list_any (λ n. has kept n || has (unit ++ fresh_now) n) u
  old_fresh kept fresh_now u head t = any_same _ _ u (λ n a. let j = t.inside n (among_has u n a) in
      ap (λ b. has kept n || b) (sym (list_any-append (same_name n) unit fresh_now ∙ ap (λ b. b || has fresh_now n) (old_other j.0 n j.1.name))))

  abbrev marks : Marks
  marks = (state_of h).marks

  marks_new : p.phase ≡ Marking → MarksShow o' new_units (record (p.colours) { marked = marked' }) marks.kept (unit ++ marks.fresh) marks.scanned
  marks_new marking = record {
    bits = λ head u t. bits head u (either_unit head u t);
    worklist = record { distinct = k.worklist.distinct; set = λ head a. set_still p.marked first head (k.worklist.set head a) };
    order = k.order;
    grey_units = λ head a. let r = k.grey_units head a in (r.0, stands_old head r.0 r.1, r.2);
    all_grey = λ head u t. all_grey head u (either_unit head u t);
  }
    where
      k : MarksShow p.objects (after h).units p.colours marks.kept marks.fresh marks.scanned
      k = s.marks marking

      bits : (head : ℕ) (u : List Name) → EitherUnit head u → get_or marked' head false ≡ list_any (λ n. has marks.kept n || has (unit ++ marks.fresh) n) u
      bits head u (inl t) = get_or-set_other p.marked first head true false (not_first head (live_out head t.life)) ∙ k.bits head u t ∙ old_fresh marks.kept marks.fresh u head t
      bits head u (inr (same, here)) =
          ap (λ (j : ℕ). get_or marked' j false) here ∙ first_marked
          ∙ sym (ap (λ (x : List Name). list_any (λ n. has marks.kept n || has (unit ++ marks.fresh) n) x) same ∙ unit_fresh marks.kept marks.fresh)

      all_grey : (head : ℕ) (u : List Name) → EitherUnit head u → (list_any (has marks.kept) u && not (list_any (has marks.scanned) u)) ≡ true → Among (grey_of p.colours) head
      all_grey head u (inl t) e = k.all_grey head u t e
      all_grey head u (inr (same, here)) e = absurd (none_kept (ap (λ (x : List Name). list_any (has marks.kept) x) (sym same) ∙ (and_true _ _ e).0))

  -- ---- removed objects

  -- a removed object is at an old index
  gone_out : (i : ℕ) → is_gone (life_at ls i) ≡ true → out_of i
  gone_out i e = go (where_is at (length more) i)
    where
      go : Where at (length more) i → out_of i
      go (inl w) = absurd (let live : is_gone (life_at ls i) ≡ false = ap is_gone (life_in w.0 i w.1 w.2) in cc)
      go (inr o) = o

  was_gone : (i : ℕ) → is_gone (life_at p.lives i) ≡ true → out_of i
  was_gone i e = λ k below same.
      let free : life_at p.lives (at k) ≡ Free = popped_free s.free l (length more) new.frame.in_range new.room k below in
      absurd (let none : is_gone (life_at p.lives i) ≡ false = ap is_gone (ap (life_at p.lives) (sym same) ∙ free) in cc)

  still_gone : (i : ℕ) → is_gone (life_at p.lives i) ≡ true → is_gone (life_at ls i) ≡ true
  still_gone i e = ap is_gone (life_out i (was_gone i e)) ∙ e

  before_gone : (i : ℕ) → is_gone (life_at ls i) ≡ true → is_gone (life_at p.lives i) ≡ true
  before_gone i e = ap is_gone (sym (life_out i (gone_out i e))) ∙ e

  keeps_name : (i : ℕ) (n : Name) → name_at p.names i ≡ Some n → name_at ns i ≡ Some n
  keeps_name i n e = name_out i (named_out i n e) ∙ e

  found_same : (i : ℕ) → removed_name (life_at ls i) (name_at ns i) ≡ removed_name (life_at p.lives i) (name_at p.names i)
  found_same i = go (where_is at (length more) i)
    where
      go : Where at (length more) i → removed_name (life_at ls i) (name_at ns i) ≡ removed_name (life_at p.lives i) (name_at p.names i)
      go (inl w) =
          let free : life_at p.lives i ≡ Free = ap (life_at p.lives) w.2 ∙ popped_free s.free l (length more) new.frame.in_range new.room w.0 w.1 in
          rw (life_in w.0 i w.1 w.2, free) refl
      go (inr o) = rw (life_out i o, name_out i o) refl

  removed_new : RemovedShow z ns ls p.polls p.left p.swept p.phase (after h).removals (after h).found (after h).swept
  removed_new = record {
    swept_is = s.removed.swept_is;
    swept_few = s.removed.swept_few;
    polls_len = s.removed.polls_len;
    removed = λ i n there e.
        let o = gone_out i e in
        subst (λ (life : Life). Among (after h).removals (record { name = n; stage = stage_of life; polls = get_or p.polls i 0 })) (sym (life_out i o))
        (s.removed.removed i n (sym (name_out i o) ∙ there) (before_gone i e));
    gone = λ r a. let j = s.removed.gone r a in (j.0, keeps_name j.0 r.name j.1, still_gone j.0 j.2);
    found_is = λ e. s.removed.found_is e ∙ sym (removed_same_names p.names ns p.lives ls found_same 0 p.swept);
    left_is = s.removed.left_is;
    left_few = s.removed.left_few;
  }

  -- ---- removed units

  lies_old : (head : ℕ) (u : List Name) → LiesAt p.objects p.waiting (after h).removals (after h).last_removed head u
      → LiesAt o' p.waiting (after h).removals (after h).last_removed head u
  lies_old head u t = let o = was_gone head t.life in record {
    among = t.among;
    life = still_gone head t.life;
    own = first_out head o ∙ t.own;
    size = get_or-set_other p.sizes first head (length more) 0 (not_first head o) ∙ t.size;
    linked = links_same p.names ns p.next nx u (λ i n e there. (keeps_name i n there, next_out i (named_out i n there))) head t.linked;
    inside = λ n e. let j = t.inside n e in
        (j.0, record { name = keeps_name j.0 n j.1.name; life = still_gone j.0 j.1.life }, first_out j.0 (was_gone j.0 j.1.life) ∙ j.2);
    whole = λ i n a f. let out = gone_out i a.life in
        t.whole i n (record { name = sym (name_out i out) ∙ a.name; life = before_gone i a.life }) (sym (first_out i out) ∙ f);
    waits = t.waits;
  }

  gone_new : GoneShow z o' p.waiting (after h).removals (after h).last_removed
  gone_new = record {
    waiting_len = s.gone.waiting_len;
    each = λ i e. let r = s.gone.each i (before_gone i e) in
        (r.0, subst (λ (x : ℕ). LiesAt o' p.waiting (after h).removals (after h).last_removed x r.0) (sym (first_out i (gone_out i e))) (lies_old (first_at p.firsts i) r.0 r.1));
    all = λ u n a e still. let r = s.gone.all u n a e still in (r.0, lies_old r.0 u r.1);
  }

  -- ---- kinds and cells

  kinds_new : KindsShow z ns ks new_kinds
  kinds_new = record { len = new.by_kind.len ∙ s.kinds.len; each = λ i n e. each i n e (where_is at (length more) i); fit = λ i. fit i (where_is at (length more) i) }
    where
      each : (i : ℕ) (n : Name) → name_at ns i ≡ Some n → Where at (length more) i → slice_get (new_kinds n.lane) (n.count - 1) ≡ Some (kind_at ks i)
      each i n e (inl w) =
          let own : new_kinds l ≡ (after h).kinds l ++ more = set_at_same (after h).kinds l ((after h).kinds l ++ more) in
          let place : m + 1 + w.0 - 1 ≡ length ((after h).kinds l) + w.0 = omega (arith, new.is) in
          let kind : kind_at ks i ≡ kind_at more w.0 = ap (kind_at ks) w.2 ∙ new.by_kind.inside w.0 _ w.1 in
          subst (λ (x : Name). slice_get (new_kinds x.lane) (x.count - 1) ≡ Some (kind_at ks i)) (sym (name_is w.0 i n w.1 w.2 e))
          ((λ t. slice_get (own t) (place t)) ∙ slice_right ((after h).kinds l) more w.0 w.1 ∙ ap (λ (k : Kind). Some k) (sym kind))
      each i n e (inr o) =
          let there = sym (name_out i o) ∙ e in
          let place = s.names.places i n there in
          sym (at_set (λ (kinds : List Kind). slice_get ((after h).kinds n.lane) (n.count - 1) ≡ slice_get kinds (n.count - 1)) (after h).kinds l n.lane ((after h).kinds l ++ more)
          (λ same. ap (λ (x : ℕ). slice_get ((after h).kinds x) (n.count - 1)) same
          ∙ sym (slice_left ((after h).kinds l) more (n.count - 1) (below same place.few place.some)))
          (λ ne. refl))
          ∙ s.kinds.each i n there ∙ ap (λ (k : Kind). Some k) (sym (new.by_kind.outside i _ o))
        where
          below : n.lane ≡ l → n.count ≤ length ((after h).kinds n.lane) → 1 ≤ n.count → n.count - 1 < length ((after h).kinds l)
          below same few some = let t : length ((after h).kinds n.lane) ≡ length ((after h).kinds l) = ap (λ (x : ℕ). length ((after h).kinds x)) same in omega arith

      fit : (i : ℕ) → Where at (length more) i → (kind_at ks i).refs + (kind_at ks i).plain ≤ z.slots
      fit i (inl w) =
          let kind : kind_at ks i ≡ kind_at more w.0 = ap (kind_at ks) w.2 ∙ new.by_kind.inside w.0 _ w.1 in
          subst (λ (k : Kind). k.refs + k.plain ≤ z.slots) (sym kind) (lawful_fits z more new.lawful w.0 w.1)
      fit i (inr o) = subst (λ (k : Kind). k.refs + k.plain ≤ z.slots) (sym (new.by_kind.outside i _ o)) (s.kinds.fit i)

  -- no cell of a new object was written
  no_cell : (k i : ℕ) (n : Name) (slot : ℕ) → k < length more → i ≡ at k → name_at ns i ≡ Some n → ((after h).cell n slot ≡ None) × ((after h).plain n slot ≡ 0)
  no_cell k i n slot below here e = (go ((after h).cell n slot) refl, s.cells.unmade_plain n slot more_made)
    where
      more_made : length ((after h).kinds n.lane) < n.count
      more_made = subst (λ (x : Name). length ((after h).kinds x.lane) < x.count) (sym (name_is k i n below here e)) (omega (arith, new.is))

      go : (c : Option Name) → (after h).cell n slot ≡ c → c ≡ None
      go None at_cell = refl
      go (Some x) at_cell = absurd (let was_made = known.named.blank n slot x at_cell in omega (arith, was_made.1, more_made))

  target_in : (k i slot : ℕ) → k < length more → i ≡ at k → slot < z.slots → target_at z.slots ts i slot ≡ None
  target_in k i slot below here low = ap (λ (x : ℕ). target_at z.slots ts x slot) here ∙ new.by_target.inside k slot None below low

  target_out : (i slot : ℕ) → out_of i → slot < z.slots → target_at z.slots ts i slot ≡ target_at z.slots p.targets i slot
  target_out i slot o low = new.by_target.outside i slot None low o

  cells_new : CellsShow z ns ls ks ts ps new_kinds (after h).cell (after h).plain
  cells_new = record {
    targets_len = new.by_target.len ∙ s.cells.targets_len;
    plains_len = new.by_plain.len ∙ s.cells.plains_len;
    in_range = λ i slot t low e. range i slot t low e (where_is at (length more) i);
    aims = λ i n slot there low. aims i n slot there low (where_is at (length more) i);
    no_more = λ i n slot there over. no_more i n slot there over (where_is at (length more) i);
    numbers = λ i n slot there low. numbers i n slot there low (where_is at (length more) i);
    unmade_plain = λ n slot over. s.cells.unmade_plain n slot (omega (arith, grown n.lane));
  }
    where
      range : (i slot t : ℕ) → slot < z.slots → target_at z.slots ts i slot ≡ Some t → Where at (length more) i → t < item_count z
      range i slot t low e (inl w) = absurd (let none = target_in w.0 i slot w.1 w.2 low in cc)
      range i slot t low e (inr o) = s.cells.in_range i slot t low (sym (target_out i slot o low) ∙ e)

      aims : (i : ℕ) (n : Name) (slot : ℕ) → LivesAt ns ls i n → slot < z.slots → Where at (length more) i → Aims ns ls (target_at z.slots ts i slot) ((after h).cell n slot)
      aims i n slot there low (inl w) =
          subst (λ (o : Option ℕ). Aims ns ls o ((after h).cell n slot)) (sym (target_in w.0 i slot w.1 w.2 low))
          (subst (λ (c : Option Name). Aims ns ls None c) (sym (no_cell w.0 i n slot w.1 w.2 there.name).0) tt)
      aims i n slot there low (inr o) =
          subst (λ (t : Option ℕ). Aims ns ls t ((after h).cell n slot)) (sym (target_out i slot o low))
          (aims_map (target_at z.slots p.targets i slot) ((after h).cell n slot) (λ t v e a. same_life t v a) (s.cells.aims i n slot (old_life i n o there) low))

      no_more : (i : ℕ) (n : Name) (slot : ℕ) → LivesAt ns ls i n → (kind_at ks i).refs ≤ slot → Where at (length more) i → (after h).cell n slot ≡ None
      no_more i n slot there over (inl w) = (no_cell w.0 i n slot w.1 w.2 there.name).0
      no_more i n slot there over (inr o) = s.cells.no_more i n slot (old_life i n o there) (subst (λ (k : Kind). k.refs ≤ slot) (new.by_kind.outside i _ o) over)

      numbers : (i : ℕ) (n : Name) (slot : ℕ) → LivesAt ns ls i n → slot < z.slots → Where at (length more) i → plain_at z.slots ps i slot ≡ (after h).plain n slot
      numbers i n slot there low (inl w) = ap (λ (x : ℕ). plain_at z.slots ps x slot) w.2 ∙ new.by_plain.inside w.0 slot 0 w.1 low ∙ sym (no_cell w.0 i n slot w.1 w.2 there.name).1
      numbers i n slot there low (inr o) = new.by_plain.outside i slot 0 low o ∙ s.cells.numbers i n slot (old_life i n o there) low

  -- ---- garbage

  -- what is new is not garbage
  not_garbage : (k : ℕ) → k < length more → (after h).garbage (record { lane = l; count = m + 1 + k }) ≡ false
  not_garbage k below = go ((after h).garbage (record { lane = l; count = m + 1 + k })) refl
    where
      go : (b : Bool) → (after h).garbage (record { lane = l; count = m + 1 + k }) ≡ b → b ≡ false
      go true e = absurd (let is_made = (garbage_is_marked_holds z h new.was.legal (record { lane = l; count = m + 1 + k })).made e in omega (arith, is_made.1, new.is))
      go false e = refl

  garbage_new : GarbageShow z ns ls gs (after h).garbage
  garbage_new = record { len = new.by_garbage.len ∙ s.garbage.len; each = λ i n there. each i n there (where_is at (length more) i) }
    where
      each : (i : ℕ) (n : Name) → LivesAt ns ls i n → Where at (length more) i → get_or gs i false ≡ (after h).garbage n
      each i n there (inl w) =
          let named : ◌≡◌ {A = Option Name} (Some (record { lane = l; count = m + 1 + w.0 })) (Some n) = sym (name_in w.0 i w.1 w.2) ∙ there.name in
          let same : record { lane = l; count = m + 1 + w.0 } ≡ n = cc in
          ap (λ (x : ℕ). get_or gs x false) w.2 ∙ new.by_garbage.inside w.0 false w.1 ∙ sym (not_garbage w.0 w.1) ∙ ap (λ (x : Name). (after h).garbage x) same
      each i n there (inr o) =
          new.by_garbage.outside i false o ∙ s.garbage.each i n (record { name = sym (name_out i o) ∙ there.name; life = sym (life_out i o) ∙ there.life })

  -- ---- strong and weak pointers

  strong_new : StrongShow z ns ls p.strong (after h).strong
  strong_new = strong_map (λ lane number t v e a. same_life t v a) s.strong

  -- what is new has no weak pointer
  not_paired : (k : ℕ) → k < length more → pair_of (after h) (record { lane = l; count = m + 1 + k }) ≡ None
  not_paired k below = go (pair_of (after h) (record { lane = l; count = m + 1 + k })) refl
    where
      go : (o : Option Weak) → pair_of (after h) (record { lane = l; count = m + 1 + k }) ≡ o → o ≡ None
      go None e = refl
      go (Some weak) e =
          let found = pair_found (after h) (record { lane = l; count = m + 1 + k }) weak e in
          let is_made = subst (λ (x : Name). IsMade (after h) x) found.2 (pair_made z h new.was.legal found.0 found.1) in
          absurd (omega (arith, is_made.1, new.is))

  pairs_new : PairsShow z ns p.pairs (after h).pairs
  pairs_new = record { len = s.pairs.len; drawn = s.pairs.drawn; own = λ i n e. own i n e (where_is at (length more) i); blank = λ i e. blank i e (where_is at (length more) i) }
    where
      own : (i : ℕ) (n : Name) → name_at ns i ≡ Some n → Where at (length more) i → IsPair i (serial_at p.serials i) (pair_of (paired (after h).pairs) n)
      own i n e (inl w) =
          let none : serial_at p.serials i ≡ 0 = s.pairs.blank i (ap (name_at p.names) w.2 ∙ no_name w.0 w.1) in
          subst (λ (x : Name). IsPair i (serial_at p.serials i) (pair_of (paired (after h).pairs) x)) (sym (name_is w.0 i n w.1 w.2 e))
          (subst (λ (o : Option Weak). IsPair i (serial_at p.serials i) o) (sym (not_paired w.0 w.1)) none)
      own i n e (inr o) = s.pairs.own i n (sym (name_out i o) ∙ e)

      blank : (i : ℕ) → name_at ns i ≡ None → Where at (length more) i → serial_at p.serials i ≡ 0
      blank i e (inl w) = absurd (let named = name_in w.0 i w.1 w.2 in cc)
      blank i e (inr o) = s.pairs.blank i (sym (name_out i o) ∙ e)

  -- ---- all of it

  abbrev made_entry : Entry
  made_entry = record { pass = Lane l; act = act.Make more (m + 1) }

  pub creates : Done z
      (record {
        gate = p.gate;
        objects = o';
        rows = record { kinds = ks; targets = ts; plains = ps };
        roots = p.roots;
        garbage = gs;
        strong = p.strong;
        pairs = p.pairs;
        colours = record (p.colours) { marked = marked' };
        stock = record { stocks = set p.stocks l (taken (get_or p.stocks l no_stock) (length more)); made = set p.made l (m + length more) };
        ends = p.ends;
      }) h (h ++ made_entry ∷ []) (Lane l) (act.Make more (m + 1))
  creates = does (Lane l) (act.Make more (m + 1)) (act.Make more (m + 1) ∷ []) new.was (refl, tt) (may_make, tt) record {
    gate = s.gate;
    objects = record { names = names_new; units = units_new };
    rows = record { kinds = kinds_new; cells = cells_new };
    roots = roots_new;
    garbage = garbage_new;
    strong = strong_new;
    pairs = pairs_new;
    colours = record { marked_len = length-set p.marked first true ∙ s.marked_len; idle = s.idle; marks = marks_new };
    stock = record { made = made_new; free = free_new };
    ends =
        record {
          removed = removed_new;
          gone = gone_new;
          room = s.room;
          gathers = λ e. gather_more keeps_name (s.gathers e);
          queue = λ e. queue_more keeps_name (s.queue e);
          none_asked = s.none_asked;
        };
  }

  -- what was held is held
  pub still_held : (k : ℕ) (r : Ref) → Holds record { history = h; names = p.names } k r → Holds record { history = h ++ made_entry ∷ []; names = ns } k r
  still_held k r held = record {
    given = holds_call creates.entries refl k r.name held.given;
    placed = name_out r.index (named_out r.index r.name held.placed) ∙ held.placed;
    alone = λ j there. alone j there (where_is at (length more) j);
  }
    where
      alone : (j : ℕ) → name_at ns j ≡ Some r.name → Where at (length more) j → j ≡ r.index
      alone j there (inl w) = absurd (old_name r.index r.name held.placed (new_name w.0 j r.name w.1 w.2 there))
      alone j there (inr o) = held.alone j (sym (name_out j o) ∙ there)

  -- the new objects are held
  pub new_held : (k : ℕ) → k < length more → Holds record { history = h ++ made_entry ∷ []; names = ns } l record { index = at k; name = record { lane = l; count = m + 1 + k } }
  new_held k below =
      let n : Name = record { lane = l; count = m + 1 + k } in
      let placed : name_at ns (at k) ≡ Some n = name_in k (at k) below refl in
      record {
        given = (given_is_held_holds z h l (act.Make more (m + 1)) creates.plain.legal n (has_in_row l (m + 1) more k below)).0;
        placed = placed;
        alone = λ j e. names_new.alone j (at k) n e placed;
      }
