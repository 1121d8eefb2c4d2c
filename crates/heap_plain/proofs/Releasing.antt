-- The step of destruction that releases a unit.
use Rattle.std.proofs.Common.{◌≡◌, ◌≢◌, ℕ, ◌+◌, ◌-◌, ◌<◌, ◌≤◌, ◌^◌, ◌==◌, ◌&&◌, ◌⊎◌, refl, sym, subst, ap, ◌∙◌, inl, inr, arith, Bool, cond, true, false, not, List, [], ◌∷◌, append-nil, length, filter, get_or, count_by, Option, Some, None}
use Rattle.std.specs.List.{list_all}
use Rattle.std.proofs.lemmas.List.{length-map}
use Rattle.std.proofs.lemmas.List.Sums.{length-filter}
use Rattle.world_model.specs.Sizes.{Sizes, item_count}
use Rattle.world_model.specs.NameLists.{same_name, has, members, begins_with}
use Rattle.world_model.specs.World.{World, Removal, Begun as AtBegun, Finished as AtFinished, is_at, destruction_order, occupied, pair_of}
use Rattle.world_model.specs.State.{State}
use Rattle.world_model.specs.Next.{released}
use Rattle.world_model.specs.Histories.{MayBy, state_of}
use Rattle.world_model.specs.Follows.{freed_by}
use Rattle.world_model.specs.DestructionQueue.{IsQueue}
use Rattle.world_model.proofs.ListFacts.{Among, among_filter, among_filter_test, filter_among, among_test, test_among}
use Rattle.world_model.proofs.NameFacts.{same_name_true, has_among, among_has}
use Rattle.world_model.proofs.Counts.{names_of, next_total}
use Rattle.world_model.proofs.Rounds.{in_removals_at, one_stage, is_at-released}
use Rattle.world_model.proofs.Queues.{queue_begun, queue_release, ready_unit, unit_in_order, names_left, all_at, begins_among}
use Rattle.world_model.proofs.Sound.{IsSound, sound}
use Rattle.world_model.proofs.Removals.{held_lives_holds, named_lives_holds}
use Rattle.heap_plain.specs.Types.{Name, Phase, Idle, Collector, Entry}
use Rattle.heap_plain.specs.Types.act
use Rattle.heap_plain.specs.declared.life.Life.{Life}
use Rattle.heap_plain.specs.declared.life.Life.TheVariants.{Free, Live}
use Rattle.heap_plain.specs.Parts.{Parts, Objects, name_at, life_at, is_gone, stage_of}
use Rattle.heap_plain.specs.Listing.{chained, chain}
use Rattle.heap_plain.specs.Purging.{Stocks, give_all, CanGive}
use Rattle.heap_plain.specs.Lists.{Distinct}
use Rattle.heap_plain.specs.Units.{NamesShow, UnitsShow, StandsAt, LivesAt, AreLinked}
use Rattle.heap_plain.specs.Roots.{RootsShow, rooted_at}
use Rattle.heap_plain.specs.Cells.{KindsShow, CellsShow}
use Rattle.heap_plain.specs.Destroying.{RemovedShow, removal_at, GoneAt, GoneShow, LiesAt, QueueShows, AreNamed, ReadyAt, gone_world, at_end, still_there}
use Rattle.heap_plain.specs.Plain.{ShowsWorld, Shows}
use Rattle.heap_plain.proofs.GarbageSteps.{garbage_fewer}
use Rattle.heap_plain.proofs.Cells.{cells_less}
use Rattle.heap_plain.proofs.WorldFacts.{no_longer, different_distinct}
use Rattle.heap_plain.proofs.Counting.{occupied_next, count_all, count_alike}
use Rattle.heap_plain.proofs.Fillings.{Lists-same}
use Rattle.heap_plain.proofs.Standing.{name_below, links_same, lives_at}
use Rattle.heap_plain.proofs.Listings.{linked_member, linked_named}
use Rattle.heap_plain.proofs.BeginSteps.{left_idle}
use Rattle.heap_plain.proofs.SweepSteps.{name_among, among_name}
use Rattle.heap_plain.proofs.Gathering.{filter_one, same_unit, distinct_unit}
use Rattle.heap_plain.proofs.Queueing.{named_none, named_in}
use Rattle.heap_plain.proofs.Emptying.{Emptying, Emptied, Empties, empties}
use Rattle.heap_plain.proofs.Restaging.{gone_index, free_lives}
use Rattle.heap_plain.proofs.PurgeSteps.{IsAmid}
use Rattle.heap_plain.specs.Serials.{serial_at, all_cleared}
use Rattle.heap_plain.specs.Pairing.{PairsShow, IsPair, paired}
use Rattle.heap_plain.proofs.Pointers.{strong_map, length-all_cleared, cleared_still, cleared_in, cleared_out, among_named}

-- ---- lists

distinct_kept : (f : Name → Bool) (xs : List Name) → Distinct xs → Distinct (filter f xs)
distinct_kept f [] d = tt
distinct_kept f (x ∷ xs) d = go (f x) (distinct_kept f xs d.1)
  where
    go : (b : Bool) → Distinct (filter f xs) → Distinct (cond b (x ∷ filter f xs) (filter f xs))
    go true rest = ((λ a. d.0 (among_filter f xs x a)), rest)
    go false rest = rest

-- the same names in another order
same_count : (f : Name → Bool) (xs ys : List Name) → Distinct xs → Distinct ys → ((n : Name) → Among xs n → Among ys n) → ((n : Name) → Among ys n → Among xs n) → count_by f xs ≡ count_by f ys
same_count f xs ys d e there back =
    let up = no_longer (filter f xs) (filter f ys) (distinct_kept f xs d) (λ n a. filter_among f ys n (there n (among_filter f xs n a)) (among_filter_test f xs n a)) in
    let down = no_longer (filter f ys) (filter f xs) (distinct_kept f ys e) (λ n a. filter_among f xs n (back n (among_filter f ys n a)) (among_filter_test f ys n a)) in
    omega (arith, length-filter f xs, length-filter f ys)

linked_first : (names : List (Option Name)) (links : List ℕ) (i : ℕ) (n : Name) (u : List Name) → AreLinked names links i u → begins_with n u ≡ true → name_at names i ≡ Some n
linked_first names links i n [] l h = absurd cc
linked_first names links i n (m ∷ u) l h = l.0 ∙ ap (λ (x : Name). Some x) (sym (same_name_true n m h))

-- names that stay
named_less : (names ns : List (Option Name)) (u : List Name) → ((i : ℕ) (n : Name) → name_at names i ≡ Some n → has u n ≡ false → name_at ns i ≡ Some n)
    → (at : List ℕ) (of : List Name) → ((n : Name) → Among of n → has u n ≡ false) → AreNamed names at of → AreNamed ns at of
named_less names ns u keep [] [] out h = tt
named_less names ns u keep [] (n ∷ of) out h = absurd h
named_less names ns u keep (i ∷ at) [] out h = absurd h
named_less names ns u keep (i ∷ at) (n ∷ of) out h = (keep i n h.0 (out n (inl refl)), named_less names ns u keep at of (λ m a. out m (inr a)) h.1)

-- ---- a unit is released

module _ {z : Sizes} {p : Parts} {h : List Entry} (amid : IsAmid z p h) (idle : p.phase ≡ Idle) (all : p.queue.todo ≡ []) (head : ℕ)
    (ready : p.done ≡ Some head) (few_items : item_count z < 2 ^ 32) where
  abbrev s : State
  s = state_of h

  abbrev k : Shows z p s
  k = amid.shows

  abbrev w : World
  w = s.world

  abbrev w0 : World
  w0 = gone_world w.removals w.last_removed w.found

  abbrev q : QueueShows p.names p.queue p.done w.removals w.last_removed w.found s.collector.asked
  q = k.queue idle

  -- what holds of the removed objects of every history
  known : IsSound s
  known = sound z h amid.legal

  once : Distinct (members w.last_removed)
  once = different_distinct _ known.destroying.units_different

  no_todo : q.todo ≡ []
  no_todo = named_none p.names q.todo (subst (λ (at : List ℕ). AreNamed p.names at q.todo) all q.todo_at)

  pub first : (n : Name) × (q.ready ≡ Some n) × (name_at p.names head ≡ Some n)
  first = go q.ready (subst (λ (done : Option ℕ). ReadyAt p.names done q.ready) ready q.ready_at)
    where
      go : (r : Option Name) → ReadyAt p.names (Some head) r → (n : Name) × (r ≡ Some n) × (name_at p.names head ≡ Some n)
      go None h = absurd h
      go (Some n) h = (n, refl, h)

  abbrev n : Name
  n = first.0

  waits : IsQueue w0 s.collector.asked [] q.ring (Some n)
  waits = subst (λ (r : Option Name). IsQueue w0 s.collector.asked [] q.ring r) first.1 (subst (λ (todo : List Name). IsQueue w0 s.collector.asked todo q.ring q.ready) no_todo q.queue)

  pub to_go : (u : List Name) × Among (destruction_order w0) u × (list_all (is_at w0 AtFinished) u ≡ true) × (begins_with n u ≡ true)
  to_go = ready_unit (list_all (is_at w0 AtFinished)) (destruction_order w0) n waits.ready_is.first

  abbrev u : List Name
  u = to_go.0

  finished : (m : Name) → Among u m → is_at w0 AtFinished m ≡ true
  finished m a = all_at (is_at w0 AtFinished) u m to_go.2 a

  there : (m : Name) → Among u m → still_there w.removals m ≡ true
  there m a = in_removals_at w0 AtFinished m (finished m a)

  in_units : Among w.last_removed u
  in_units = (unit_in_order w.last_removed w.found u to_go.1).0

  first_in : Among u n
  first_in = begins_among n u to_go.3

  lies : LiesAt p.objects p.waiting w.removals w.last_removed head u
  lies =
      let r = k.gone.all u n in_units (among_has u n first_in) (there n first_in) in
      let same = k.names.alone r.0 head n (linked_first p.names p.next r.0 n u r.1.linked to_go.3) first.2 in
      subst (λ (i : ℕ). LiesAt p.objects p.waiting w.removals w.last_removed i u) same r.1

  distinct_u : Distinct u
  distinct_u = distinct_unit w.last_removed u once in_units

  pub size_is : get_or p.sizes head 0 ≡ length u
  size_is = lies.size

  -- what the release leaves of the removed objects
  abbrev rs : List Removal
  rs = (released w n).removals

  names_are : members (filter (begins_with n) w.last_removed) ≡ u
  names_are = ap members (filter_one n w.last_removed u once in_units to_go.3) ∙ append-nil u

  rest_is : filter (λ r. not (has u r.name)) w.removals ≡ rs
  rest_is = ap (λ (us : List Name). filter (λ r. not (has us r.name)) w.removals) (sym names_are)

  at_idle : w.phase ≡ Idle
  at_idle = sym k.phase ∙ idle

  -- the removed objects are those of the unit and the others
  pub release_may : MayBy z s Collector (act.Released n)
  release_may = record {
    finishes = amid.agreed;
    may = record { gathered = λ e. let a = at_idle in absurd (let b = e in cc); begun = queue_begun waits; next = sym waits.ready_is.first };
  }

  -- it releases the members of the unit
  freed_is : (f : Name → Bool) → count_by f (freed_by w (act.Released n)) ≡ count_by f u
  freed_is f = ap (λ (us : List Name). count_by f (names_of (filter (λ r. has us r.name) w.removals))) names_are
      ∙ same_count f _ u (different_distinct _ (names_left (λ r. has u r.name) w.removals known.destroying.different)) distinct_u
      (λ m a. let r = among_name (filter (λ r. has u r.name) w.removals) m a in subst (λ (x : Name). Among u x) r.2 (has_among u r.0.name (among_filter_test (λ r. has u r.name) w.removals r.0 r.1)))
      (λ m a.
      let r = test_among (λ r. same_name m r.name) w.removals (there m a) in
      let is = same_name_true m r.0.name r.2 in
      subst (λ (x : Name). Among (names_of (filter (λ s. has u s.name) w.removals)) x) (sym is)
      (name_among (filter (λ s. has u s.name) w.removals) r.0 (filter_among (λ s. has u s.name) w.removals r.0 r.1 (among_has u r.0.name (subst (λ (x : Name). Among u x) is a)))))

  left_is : p.left ≡ length u + length rs
  left_is =
      let total = next_total z s Collector (act.Released n) release_may known.destroying.unmarked (λ m. true) in
      let idle_left : p.left ≡ length w.removals = left_idle p.phase w.removals w.found p.left k.removed.left_is idle in
      omega (
        arith,
        freed_is (λ m. true),
        count_all (λ (m : Name). true) u (λ m. refl),
        count_all (λ (m : Name). true) (names_of rs) (λ m. refl),
        count_all (λ (m : Name). true) (names_of w.removals) (λ m. refl),
        length-map rs (λ (r : Removal). r.name),
        length-map w.removals (λ (r : Removal). r.name),
      )

  pub size_few : get_or p.sizes head 0 ≤ p.left
  size_few = omega (arith, left_is, size_is)

  -- ---- the vectors

  abbrev before : Stocks
  before = record { names = p.names; lives = p.lives; stocks = p.stocks }

  -- how many objects of a lane are left
  abbrev used : ℕ → ℕ
  used = occupied (released w n)

  emptying : Emptying z before p.next head u used
  emptying = record {
    free = free_lives (λ i f. f) (λ i f. f)
        (λ lane. omega (arith, occupied_next z h (record { pass = Collector; act = act.Released n }) amid.legal release_may lane, freed_is (λ m. m.lane == lane))) k.free;
    by_name = k.names.items;
    by_life = k.units.lives_len;
    linked = lies.linked;
    distinct = distinct_u;
    place = λ j m h. let t = k.names.places j m h in (t.lane, t.at);
    alone = k.names.alone;
    gone = λ j m h a. gone_index k.names k.removed j m h (there m (has_among u m a));
  }

  emptied : Empties z before p.next head u used
  emptied = empties z before p.next head u used emptying

  pub release_can : (j : ℕ) → j < get_or p.sizes head 0 → CanGive (give_all before p.next head j) (chained p.next head j)
  release_can j b = emptied.can j (omega (arith, size_is))

  pub release_chain : (j : ℕ) → j < get_or p.sizes head 0 → chained p.next head j < length p.next
  release_chain j b =
      let m = linked_member p.names p.next head u lies.linked j (omega (arith, size_is)) in
      omega (arith, name_below p.names (chained p.next head j) m.0 m.1, k.names.items, k.units.links_len)

  abbrev t : Stocks
  t = give_all before p.next head (get_or p.sizes head 0)

  end : Emptied z before t u used
  end = subst (λ (size : ℕ). Emptied z before (give_all before p.next head size) u used) (sym size_is) emptied.end

  -- ---- the sections

  -- the objects after it
  abbrev o' : Objects
  o' = record (p.objects) { names = t.names; lives = t.lives }

  same_has : (m : Name) → (has u m ≡ true) ⊎ (has u m ≡ false)
  same_has m = go (has u m) refl
    where
      go : (b : Bool) → has u m ≡ b → (has u m ≡ true) ⊎ (has u m ≡ false)
      go true e = inl e
      go false e = inr e

  clash : (m : Name) → has u m ≡ true → has u m ≡ false → ⊥
  clash m a b = cc

  -- a named index of another object stays as it was
  stays : (i : ℕ) (m : Name) → name_at p.names i ≡ Some m → has u m ≡ false → (name_at t.names i ≡ Some m) × (life_at t.lives i ≡ life_at p.lives i)
  stays i m h out =
      let o = end.others i (λ x e. let same : x ≡ m = (let a = sym e ∙ h in cc) in ap (has u) same ∙ out) in
      (o.0 ∙ h, o.1)

  -- and an index without a name
  unnamed : (i : ℕ) → name_at p.names i ≡ None → (name_at t.names i ≡ None) × (life_at t.lives i ≡ life_at p.lives i)
  unnamed i h = let o = end.others i (λ x e. absurd (let a = h in cc)) in (o.0 ∙ h, o.1)

  pub was_named : (i : ℕ) (m : Name) → name_at t.names i ≡ Some m → (name_at p.names i ≡ Some m) × (has u m ≡ false)
  was_named i m h = go (name_at p.names i) refl
    where
      go : (o : Option Name) → name_at p.names i ≡ o → (name_at p.names i ≡ Some m) × (has u m ≡ false)
      go None e = absurd (let none = (unnamed i e).0 in cc)
      go (Some x) e = go' (same_has x)
        where
          go' : (has u x ≡ true) ⊎ (has u x ≡ false) → (name_at p.names i ≡ Some m) × (has u m ≡ false)
          go' (inl a) = absurd (let none = (end.out i x e a).0 in cc)
          go' (inr a) =
              let same : x ≡ m = (let b = sym (stays i x e a).0 ∙ h in cc) in
              (e ∙ ap (λ (y : Name). Some y) same, ap (has u) (sym same) ∙ a)

  -- an index that is used is as it was
  was_used : (i : ℕ) → life_at t.lives i ≢ Free → (life_at t.lives i ≡ life_at p.lives i) × ((m : Name) → name_at p.names i ≡ Some m → has u m ≡ false)
  was_used i ne = go (name_at p.names i) refl
    where
      go : (o : Option Name) → name_at p.names i ≡ o → (life_at t.lives i ≡ life_at p.lives i) × ((m : Name) → name_at p.names i ≡ Some m → has u m ≡ false)
      go None e = ((unnamed i e).1, λ m h. absurd (let a = e in cc))
      go (Some x) e = go' (same_has x)
        where
          go' : (has u x ≡ true) ⊎ (has u x ≡ false) → (life_at t.lives i ≡ life_at p.lives i) × ((m : Name) → name_at p.names i ≡ Some m → has u m ≡ false)
          go' (inl a) = absurd (ne (end.out i x e a).1)
          go' (inr a) = ((stays i x e a).1, λ m h. let same : x ≡ m = (let b = sym e ∙ h in cc) in ap (has u) (sym same) ∙ a)

  -- what lives is none of the unit
  live_out : (i : ℕ) (m : Name) → name_at p.names i ≡ Some m → life_at p.lives i ≡ Live → has u m ≡ false
  live_out i m h e = go (same_has m)
    where
      go : (has u m ≡ true) ⊎ (has u m ≡ false) → has u m ≡ false
      go (inl a) = absurd (let g = gone_index k.names k.removed i m h (there m (has_among u m a)) in let l : is_gone (life_at p.lives i) ≡ false = ap is_gone e in cc)
      go (inr a) = a

  still_lives : (i : ℕ) (m : Name) → LivesAt p.names p.lives i m → LivesAt t.names t.lives i m
  still_lives i m a = let o = stays i m a.name (live_out i m a.name a.life) in record { name = o.0; life = o.1 ∙ a.life }

  lived : (i : ℕ) (m : Name) → LivesAt t.names t.lives i m → LivesAt p.names p.lives i m
  lived i m a = let x = was_named i m a.name in record { name = x.0; life = sym (stays i m x.0 x.1).1 ∙ a.life }

  used_live : (i : ℕ) → life_at t.lives i ≡ Live → life_at p.lives i ≡ Live
  used_live i e = sym (was_used i (λ f. let a = e in cc)).0 ∙ e

  names' : NamesShow z t.names w.kinds
  names' = record {
    items = end.by_name;
    places = λ i m h. k.names.places i m (was_named i m h).0;
    alone = λ i j m g h. k.names.alone i j m (was_named i m g).0 (was_named j m h).0;
  }

  stands' : (at : ℕ) (v : List Name) → StandsAt p.objects w.units at v → StandsAt o' w.units at v
  stands' at v x =
      let member = k.units.named at (λ f. let a = x.life in absurd (let b = f in cc)) in
      record {
        among = x.among;
        life = (still_lives at member.0 (record { name = member.1; life = x.life })).life;
        own = x.own;
        size = x.size;
        linked = links_same p.names t.names p.next p.next v (λ i m a h. let j = x.inside m a in let here = k.names.alone i j.0 m h j.1.name in
            ((stays i m h (live_out i m h (ap (life_at p.lives) here ∙ j.1.life))).0, refl)) at x.linked;
        inside = λ m a. let j = x.inside m a in (j.0, still_lives j.0 m j.1, j.2);
        whole = λ i m a f. x.whole i m (lived i m a) f;
      }

  units' : UnitsShow z o' w.units
  units' = record {
    firsts_len = k.units.firsts_len;
    sizes_len = k.units.sizes_len;
    links_len = k.units.links_len;
    lives_len = end.by_life;
    in_range = k.units.in_range;
    small = k.units.small;
    named = λ i ne.
        let o = was_used i ne in
        let m = k.units.named i (λ f. ne (o.0 ∙ f)) in
        (m.0, (stays i m.0 m.1 (o.1 m.0 m.1)).0);
    each = λ i e. let r = k.units.each i (used_live i e) in (r.0, stands' _ r.0 r.1);
    all = λ v a. let r = k.units.all v a in (r.0, stands' r.0 v r.1);
  }

  roots' : RootsShow z t.names p.roots w.rooted
  roots' = record {
    bits = Lists-same p.roots (item_count z) (λ i. rooted_at w.rooted (name_at p.names i)) _ k.roots.bits (λ i. same i (name_at p.names i) refl);
  }
    where
      not_rooted : (m : Name) → has u m ≡ true → w.rooted m ≡ false
      not_rooted m a = go (w.rooted m) refl
        where
          go : (b : Bool) → w.rooted m ≡ b → b ≡ false
          go true e = let j = lives_at k.units m ((named_lives_holds z h amid.legal).rooted m e) in absurd (clash m a (live_out j.0 m j.1.name j.1.life))
          go false e = refl

      same : (i : ℕ) (o : Option Name) → name_at p.names i ≡ o → rooted_at w.rooted (name_at t.names i) ≡ rooted_at w.rooted (name_at p.names i)
      same i None e = ap (rooted_at w.rooted) ((unnamed i e).0 ∙ sym e)
      same i (Some m) e = go (same_has m)
        where
          go : (has u m ≡ true) ⊎ (has u m ≡ false) → rooted_at w.rooted (name_at t.names i) ≡ rooted_at w.rooted (name_at p.names i)
          go (inl a) = ap (rooted_at w.rooted) (end.out i m e a).0 ∙ sym (not_rooted m a) ∙ sym (ap (rooted_at w.rooted) e)
          go (inr a) = ap (rooted_at w.rooted) ((stays i m e a).0 ∙ sym e)

  kinds' : KindsShow z t.names p.kinds w.kinds
  kinds' = record { len = k.kinds.len; each = λ i m h. k.kinds.each i m (was_named i m h).0; fit = k.kinds.fit }

  cells' : CellsShow z t.names t.lives p.kinds p.targets p.plains w.kinds w.cell w.plain
  cells' = cells_less (λ i m a. lived i m a) (λ i m slot j v there e a. still_lives j v a) k.cells

  -- ---- weak pointers

  abbrev cleared : List ℕ
  cleared = all_cleared p.serials (chain p.next head (get_or p.sizes head 0))

  linked_names : AreNamed p.names (chain p.next head (get_or p.sizes head 0)) u
  linked_names = subst (λ (size : ℕ). AreNamed p.names (chain p.next head size) u) (sym size_is) (linked_named p.names p.next head u lies.linked)

  pairs' : PairsShow z t.names (record (p.pairs) { serials = cleared }) w.pairs
  pairs' = record {
    len = length-all_cleared p.serials (chain p.next head (get_or p.sizes head 0)) ∙ k.pairs.len;
    drawn = k.pairs.drawn;
    own = λ i m e.
        let o = was_named i m e in
        subst (λ (x : ℕ). IsPair i x (pair_of (paired w.pairs) m)) (sym (cleared_out p.serials (chain p.next head (get_or p.sizes head 0)) i (λ a.
        let x = named_in p.names _ u linked_names i a in
        let same : x.0 ≡ m = (let b = sym x.2 ∙ o.0 in cc) in
        clash x.0 (among_has u x.0 x.1) (ap (has u) same ∙ o.1))))
        (k.pairs.own i m o.0);
    blank = λ i e. blank i e (name_at p.names i) refl;
  }
    where
      blank : (i : ℕ) → name_at t.names i ≡ None → (o : Option Name) → name_at p.names i ≡ o → serial_at cleared i ≡ 0
      blank i e None at = cleared_still p.serials (chain p.next head (get_or p.sizes head 0)) i (k.pairs.blank i at)
      blank i e (Some m) at = go (same_has m)
        where
          go : (has u m ≡ true) ⊎ (has u m ≡ false) → serial_at cleared i ≡ 0
          go (inl a) = cleared_in p.serials (chain p.next head (get_or p.sizes head 0)) i
              (among_named p.names _ u linked_names i m at k.names.alone (has_among u m a))
          go (inr a) = absurd (let b = (stays i m at a).0 in cc)

  -- ---- removed objects

  gone_was : (i : ℕ) → is_gone (life_at t.lives i) ≡ true → (life_at t.lives i ≡ life_at p.lives i) × ((m : Name) → name_at p.names i ≡ Some m → has u m ≡ false)
  gone_was i g = was_used i (λ f. let a : is_gone (life_at t.lives i) ≡ false = ap is_gone f in absurd (let b = g in cc))

  in_rest : (r : Removal) → Among w.removals r → has u r.name ≡ false → Among rs r
  in_rest r a out = subst (λ (xs : List Removal). Among xs r) rest_is (filter_among (λ x. not (has u x.name)) w.removals r a (ap not out))

  of_rest : (r : Removal) → Among rs r → Among w.removals r × (has u r.name ≡ false)
  of_rest r a =
      let b = subst (λ (xs : List Removal). Among xs r) (sym rest_is) a in
      (among_filter (λ x. not (has u x.name)) w.removals r b, flip (has u r.name) (among_filter_test (λ x. not (has u x.name)) w.removals r b))
    where
      flip : (b : Bool) → not b ≡ true → b ≡ false
      flip false e = refl
      flip true e = absurd cc

  removed' : RemovedShow z t.names t.lives p.polls (p.left - get_or p.sizes head 0) p.swept p.phase rs w.found w.swept
  removed' = subst (λ (phase : Phase). RemovedShow z t.names t.lives p.polls (p.left - get_or p.sizes head 0) p.swept phase rs w.found w.swept) (sym idle) record {
    swept_is = k.removed.swept_is;
    swept_few = k.removed.swept_few;
    polls_len = k.removed.polls_len;
    removed = λ i m h g.
        let x = was_named i m h in
        let same = (gone_was i g).0 in
        let a = in_rest (removal_at p.lives p.polls i m) (k.removed.removed i m x.0 (ap is_gone (sym same) ∙ g)) x.1 in
        subst (λ (life : Life). Among rs (record { name = m; stage = stage_of life; polls = get_or p.polls i 0 })) (sym same) a;
    gone = λ r a.
        let b = of_rest r a in
        let j = k.removed.gone r b.0 in
        let o = stays j.0 r.name j.1 b.1 in
        (j.0, o.0, ap is_gone o.1 ∙ j.2);
    found_is = λ e. absurd cc;
    left_is = omega (arith, left_is, size_is);
    left_few = λ e. absurd cc;
  }

  abbrev Was : ℕ → List Name → Type 0
  Was at v = LiesAt p.objects p.waiting w.removals w.last_removed at v

  -- a unit with an object that is not released is another one
  other_unit : (v : List Name) (m x : Name) → Among w.last_removed v → has v m ≡ true → has u m ≡ false → has v x ≡ true → has u x ≡ false
  other_unit v m x a b out c = go (same_has x)
    where
      go : (has u x ≡ true) ⊎ (has u x ≡ false) → has u x ≡ false
      go (inr d) = d
      go (inl d) =
          let same = same_unit w.last_removed v u x once a in_units (has_among v x c) (has_among u x d) in
          absurd (clash m (ap (λ (y : List Name). has y m) (sym same) ∙ b) out)

  still_gone : (i : ℕ) (m : Name) → GoneAt p.names p.lives i m → has u m ≡ false → GoneAt t.names t.lives i m
  still_gone i m a out = let o = stays i m a.name out in record { name = o.0; life = ap is_gone o.1 ∙ a.life }

  lies' : (at : ℕ) (v : List Name) (m : Name) → Was at v → has v m ≡ true → has u m ≡ false → LiesAt o' p.waiting rs w.last_removed at v
  lies' at v m x b out = record {
    among = x.among;
    life =
        let h = k.units.named at (λ f. let a : is_gone (life_at p.lives at) ≡ false = ap is_gone f in absurd (let c = x.life in cc)) in
        let here : GoneAt p.names p.lives at h.0 = record { name = h.1; life = x.life } in
        (still_gone at h.0 here (other_unit v m h.0 x.among b out (x.whole at h.0 here x.own))).life;
    own = x.own;
    size = x.size;
    linked = links_same p.names t.names p.next p.next v (λ i y a h. ((stays i y h (other_unit v m y x.among b out a)).0, refl)) at x.linked;
    inside = λ y a. let j = x.inside y a in (j.0, still_gone j.0 y j.1 (other_unit v m y x.among b out a), j.2);
    whole = λ i y a f. let h = was_named i y a.name in x.whole i y (record { name = h.0; life = ap is_gone (sym (stays i y h.0 h.1).1) ∙ a.life }) f;
    waits = x.waits ∙ count_alike _ _ v (λ y a. ap not (sym (same_end y (other_unit v m y x.among b out (among_has v y a)))));
  }
    where
      same_end : (y : Name) → has u y ≡ false → at_end rs y ≡ at_end w.removals y
      same_end y e = is_at-released w0 n AtFinished y ∙ ap (λ (us : List Name). not (has us y) && at_end w.removals y) names_are ∙ ap (λ (b : Bool). not b && at_end w.removals y) e

  gone' : GoneShow z o' p.waiting rs w.last_removed
  gone' = record {
    waiting_len = k.gone.waiting_len;
    each = λ i g.
        let o = gone_was i g in
        let was : is_gone (life_at p.lives i) ≡ true = ap is_gone (sym o.0) ∙ g in
        let r = k.gone.each i was in
        let h = k.units.named i (λ f. let a : is_gone (life_at p.lives i) ≡ false = ap is_gone f in absurd (let c = was in cc)) in
        (r.0, lies' _ r.0 h.0 r.1 (r.1.whole i h.0 (record { name = h.1; life = was }) refl) (o.1 h.0 h.1));
    all = λ v m a b e.
        let r = test_among (λ r. same_name m r.name) rs e in
        let is = same_name_true m r.0.name r.2 in
        let o = of_rest r.0 r.1 in
        let old = k.gone.all v m a b (among_test (λ x. same_name m x.name) w.removals r.0 o.0 r.2) in
        (old.0, lies' old.0 v m old.1 b (ap (has u) is ∙ o.1));
  }

  -- ---- the queue

  ring_out : (m : Name) → Among q.ring m → has u m ≡ false
  ring_out m a = go (same_has m)
    where
      go : (has u m ≡ true) ⊎ (has u m ≡ false) → has u m ≡ false
      go (inr d) = d
      go (inl d) =
          let at = among_filter_test (is_at w0 AtBegun) _ m (subst (λ (ns : List Name). Among ns m) waits.ring_is a) in
          let not_at = one_stage w0 m AtFinished AtBegun known.destroying.different (finished m (has_among u m d)) refl in
          absurd (let b = at in cc)

  queue' : QueueShows t.names p.queue None rs w.last_removed w.found s.collector.asked
  queue' = record {
    todo = [];
    ring = q.ring;
    ready = None;
    todo_at =
        named_less p.names t.names u (λ i m h o. (stays i m h o).0) _ [] (λ m a. absurd a)
        (subst (λ (todo : List Name). AreNamed p.names p.queue.todo todo) no_todo q.todo_at);
    ring_at = named_less p.names t.names u (λ i m h o. (stays i m h o).0) _ q.ring ring_out q.ring_at;
    ready_at = tt;
    queue = queue_release waits;
  }

  pub release_shows : ShowsWorld z
      (record p {
        objects = o';
        pairs = record (p.pairs) { serials = cleared };
        stock = record (p.stock) { stocks = t.stocks };
        ends = record (p.ends) { left = p.left - get_or p.sizes head 0; done = None };
      }) (released w n) s.marks.kept s.marks.fresh s.marks.scanned
      s.collector.asked
  release_shows = record {
    gate = k.gate;
    objects = record { names = names'; units = units' };
    rows = record { kinds = kinds'; cells = cells' };
    roots = roots';
    garbage = garbage_fewer lived k.garbage;
    strong = strong_map (λ lane number i m e a. still_lives i m a) k.strong;
    pairs = pairs';
    colours = record { marked_len = k.marked_len; idle = k.idle; marks = λ e. absurd (let a = idle in cc) };
    stock = record { made = k.made; free = end.free };
    ends = record { removed = removed'; gone = gone'; room = k.room; gathers = λ e. absurd (let a = idle in cc); queue = λ e. queue'; none_asked = λ ne. absurd (ne idle) };
  }

  -- what a frame holds keeps its place
  pub still_held : (lane : ℕ) (m : Name) → has (s.frames lane).held m ≡ true → (i : ℕ) → name_at p.names i ≡ Some m → name_at t.names i ≡ Some m
  still_held lane m e i there =
      let j = lives_at k.units m (held_lives_holds z h amid.legal lane m e).0 in
      let here = k.names.alone i j.0 m there j.1.name in
      (stays i m there (live_out i m there (ap (life_at p.lives) here ∙ j.1.life))).0
