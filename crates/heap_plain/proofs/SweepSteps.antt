-- Sweeping.
use Rattle.std.proofs.Common.{◌≡◌, ◌≢◌, ℕ, ◌+◌, ◌<◌, ◌≤◌, ◌^◌, ◌&&◌, not, refl, sym, subst, subst₂, ap, ◌∙◌, inl, inr, zero, suc, arith, Bool, true, false, List, [], ◌∷◌, ◌++◌, length, length-append, append-nil, map, filter, ◌⊎◌, Option, Some, None}
use Rattle.std.proofs.Math.Logic.{dite}
use Rattle.std.proofs.Math.Decide.{dec_le}
use Rattle.std.proofs.Math.Nat.{lt_of_not-le}
use Rattle.std.proofs.lemmas.List.{length-map, length-take-le}
use Rattle.std.proofs.lemmas.Grind.{flat_map-append}
use Rattle.world_model.specs.Sizes.{Sizes, item_count}
use Rattle.world_model.specs.NameLists.{has, same_name, members, begins_with}
use Rattle.world_model.specs.World.{World, Removal, is_at, has_stage, left_in}
use Rattle.world_model.specs.World as model
use Rattle.world_model.specs.CollectorSteps.{Sweeps}
use Rattle.world_model.specs.Histories.{MayBy, after, state_of}
use Rattle.world_model.specs.DestructionQueue.{IsQueue}
use Rattle.world_model.proofs.ListFacts.{Among, among_append, among_left, among_right, among_test}
use Rattle.world_model.proofs.NameFacts.{same_name_refl, has_among, among_has, among_members}
use Rattle.world_model.proofs.Queues.{queue_start, named_any, unit_in_order, all_from}
use Rattle.world_model.proofs.Destroying.{order_of}
use Rattle.world_model.proofs.Sound.{IsSound, sound, next_sound}
use Rattle.heap_plain.specs.Types.{Name, Kind, Phase, Idle, Marking, Gathering, Collector, Swept, SweepStop, Entry}
use Rattle.heap_plain.specs.Types.act
use Rattle.heap_plain.specs.Types.sweep
use Rattle.heap_plain.specs.declared.life.Life.{Life}
use Rattle.heap_plain.specs.declared.life.Life.TheVariants.{Free, Live, Removed, Begun, Finished}
use Rattle.heap_plain.specs.Parts.{Parts, Ends, name_at, life_at, is_gone}
use Rattle.heap_plain.specs.Listing.{units_at, CanList}
use Rattle.heap_plain.specs.Sweeping.{removed_name, removed_names, Finds}
use Rattle.heap_plain.specs.Lists.{Distinct}
use Rattle.heap_plain.specs.Units.{NamesShow}
use Rattle.heap_plain.specs.Destroying.{RemovedShow, removal_at, count_left, GatherShows, AreNamed, ReadyAt, gone_world, still_there, Destroying}
use Rattle.heap_plain.specs.Plain.{Shows, IsPlain}
use Rattle.heap_plain.proofs.WorldFacts.{no_longer, different_distinct, distinct_different}
use Rattle.heap_plain.proofs.Entries.{Done, does}
use Rattle.heap_plain.proofs.Standing.{life_below}
use Rattle.heap_plain.proofs.NewNames.{members_among}
use Rattle.heap_plain.proofs.MarkSteps.{distinct_snoc}
use Rattle.heap_plain.proofs.Finding.{removed_append}
use Rattle.heap_plain.proofs.Queueing.{named_append}
use Rattle.heap_plain.proofs.Gathering.{order_distinct, few_named, not_begun, units_named, links_within}

-- ---- the names that are found

-- where a name of the list stands
abbrev Found : List (Option Name) → List Life → ℕ → ℕ → Name → Type 0
Found names lives from count n = (i : ℕ) × (from ≤ i) × (i < from + count) × (name_at names i ≡ Some n) × (life_at lives i ≡ Removed)

one_found : (names : List (Option Name)) (life : Life) (o : Option Name) (n : Name) → Among (removed_name life o) n → (o ≡ Some n) × (life ≡ Removed)
one_found names Removed (Some m) n (inl e) = (ap (λ (x : Name). Some x) e, refl)
one_found names Removed (Some m) n (inr e) = absurd e
one_found names Removed None n a = absurd a
one_found names Live o n a = absurd a
one_found names Free o n a = absurd a
one_found names Begun o n a = absurd a
one_found names Finished o n a = absurd a

found_at : (names : List (Option Name)) (lives : List Life) (from count : ℕ) (n : Name) → Among (removed_names names lives from count) n → Found names lives from count n
found_at names lives from zero n a = absurd a
found_at names lives from (suc count) n a = go (found_at names lives from count n) (among_append (removed_names names lives from count) _ n a)
  where
    go : (Among (removed_names names lives from count) n → Found names lives from count n)
        → Among (removed_names names lives from count) n ⊎ Among (removed_name (life_at lives (from + count)) (name_at names (from + count))) n
        → Found names lives from (suc count) n
    go rest (inl b) = let r = rest b in (r.0, r.1, omega (arith, r.2), r.3, r.4)
    go rest (inr b) = let r = one_found names (life_at lives (from + count)) (name_at names (from + count)) n b in (from + count, omega arith, omega arith, r.0, r.1)

at_found : (names : List (Option Name)) (lives : List Life) (from count i : ℕ) (n : Name) → from ≤ i → i < from + count → name_at names i ≡ Some n
    → life_at lives i ≡ Removed → Among (removed_names names lives from count) n
at_found names lives from zero i n low high at life = absurd (omega arith)
at_found names lives from (suc count) i n low high at life = dite (dec_le (from + count) i)
    (λ (b : from + count ≤ i).
    let e : from + count ≡ i = omega arith in
    among_right (removed_names names lives from count) _ n (here e))
    (λ (b : ¬ (from + count ≤ i)). among_left (removed_names names lives from count) _ n (at_found names lives from count i n low (lt_of_not-le b) at life))
  where
    here : from + count ≡ i → Among (removed_name (life_at lives (from + count)) (name_at names (from + count))) n
    here e = let l : life_at lives (from + count) ≡ Removed = ap (life_at lives) e ∙ life in let o : name_at names (from + count) ≡ Some n = ap (name_at names) e ∙ at in rw (l, o) (inl refl)

distinct_found : {z : Sizes} {names : List (Option Name)} {kinds : ℕ → List Kind} → NamesShow z names kinds → (lives : List Life) (from count : ℕ) → Distinct (removed_names names lives from count)
distinct_found ns lives from zero = tt
distinct_found {names} ns lives from (suc count) = go (life_at lives (from + count)) (name_at names (from + count)) refl (distinct_found ns lives from count)
  where
    go : (life : Life) (o : Option Name) → name_at names (from + count) ≡ o → Distinct (removed_names names lives from count) → Distinct (removed_names names lives from count ++ removed_name life o)
    go Removed (Some n) e d = distinct_snoc (removed_names names lives from count) n d
        (λ a. let r = found_at names lives from count n a in let same = ns.alone r.0 (from + count) n r.3 e in absurd (omega (arith, r.2)))
    go Removed None e d = subst (λ (xs : List Name). Distinct xs) (sym (append-nil (removed_names names lives from count))) d
    go Live o e d = subst (λ (xs : List Name). Distinct xs) (sym (append-nil (removed_names names lives from count))) d
    go Free o e d = subst (λ (xs : List Name). Distinct xs) (sym (append-nil (removed_names names lives from count))) d
    go Begun o e d = subst (λ (xs : List Name). Distinct xs) (sym (append-nil (removed_names names lives from count))) d
    go Finished o e d = subst (λ (xs : List Name). Distinct xs) (sym (append-nil (removed_names names lives from count))) d

-- ---- tests

pub name_among : (removals : List Removal) (r : Removal) → Among removals r → Among (map (λ (x : Removal). x.name) removals) r.name
name_among [] r a = absurd a
name_among (x ∷ removals) r (inl e) = inl (ap (λ (y : Removal). y.name) e)
name_among (x ∷ removals) r (inr a) = inr (name_among removals r a)

pub among_name : (removals : List Removal) (n : Name) → Among (map (λ (x : Removal). x.name) removals) n → (r : Removal) × Among removals r × (r.name ≡ n)
among_name [] n a = absurd a
among_name (x ∷ removals) n (inl e) = (x, inl refl, e)
among_name (x ∷ removals) n (inr a) = let r = among_name removals n a in (r.0, inr r.1, r.2)

-- ---- no collection gathers

pub refuses_sweep : (z : Sizes) (p : Parts) (h : List Entry) (budget : ℕ) → IsPlain z p h → p.phase ≢ Gathering
    → Done z p h
    (h ++ record { pass = Collector; act = act.Sweep budget (record { looked = 0; found = 0; stop = sweep.NotGathering p.phase }) [] } ∷ [])
    Collector (act.Sweep budget (record { looked = 0; found = 0; stop = sweep.NotGathering p.phase }) [])
refuses_sweep z p h budget was other =
    let s = was.shows in
    let reply : Swept = record { looked = 0; found = 0; stop = sweep.NotGathering p.phase } in
    does Collector (act.Sweep budget reply []) (act.Sweep budget reply [] ∷ []) was (refl, tt) (record { finishes = was.rest.between.agreed; may = (s.phase, other, refl, refl, refl) }, tt)
    record {
      gate = s.gate;
      objects = s.objects;
      rows = s.rows;
      roots = s.roots;
      garbage = s.garbage;
      strong = s.strong;
      pairs = s.pairs;
      colours = s.colours;
      stock = s.stock;
      ends =
          subst₂
          (λ (found : List Name) (looked : ℕ).
          Destroying z p.phase p.objects p.ends (after h).removals (after h).last_removed found looked (state_of h).collector.asked)
          (sym (append-nil (after h).found)) (nothing (after h).swept) s.ends;
    }
  where
    nothing : (looked : ℕ) → looked ≡ looked + 0
    nothing looked = omega arith

-- ---- a collection gathers

module _ {z : Sizes} {p : Parts} {h : List Entry} {budget looked count : ℕ} {out out' : List Name} (was : IsPlain z p h) (gathering : p.phase ≡ Gathering)
    (finds : Finds p.names p.lives p.swept budget looked count out out') (same : length out' ≡ length out) (few_items : item_count z < 2 ^ 32) where
  abbrev s : Shows z p (state_of h)
  s = was.shows

  abbrev names : List Name
  names = removed_names p.names p.lives p.swept looked

  len : length names ≡ count
  len = ap (λ (xs : List Name). length xs) (sym finds.found) ∙ length-take-le count out' (omega (arith, finds.room))

  phase_is : (after h).phase ≡ Gathering
  phase_is = sym s.phase ∙ gathering

  -- what holds of the removed objects of every history
  known : IsSound (state_of h)
  known = sound z h was.legal

  once : Distinct (members (after h).last_removed)
  once = different_distinct _ known.destroying.units_different

  unbegun : (r : Removal) → Among (after h).removals r → r.stage ≡ model.Removed
  unbegun = known.destroying.unbegun phase_is

  -- the removed objects, in the phase that is
  removed_is : RemovedShow z p.names p.lives p.polls p.left p.swept Gathering (after h).removals (after h).found (after h).swept
  removed_is = subst (λ (phase : Phase). RemovedShow z p.names p.lives p.polls p.left p.swept phase (after h).removals (after h).found (after h).swept) gathering s.removed

  gathers : GatherShows p.names p.queue p.done (after h).removals (after h).last_removed (after h).found
  gathers = s.gathers gathering

  abbrev found' : List Name
  found' = (after h).found ++ names

  -- all that is found, by rising index
  found_now : (k : ℕ) → (after h).found ++ removed_names p.names p.lives p.swept k ≡ removed_names p.names p.lives 0 (p.swept + k)
  found_now k = ap (λ (ns : List Name). ns ++ removed_names p.names p.lives p.swept k) (removed_is.found_is refl)
      ∙ ap (λ (from : ℕ). removed_names p.names p.lives 0 p.swept ++ removed_names p.names p.lives from k) from_zero ∙ sym (removed_append p.names p.lives 0 p.swept k)
    where
      from_zero : p.swept ≡ 0 + p.swept
      from_zero = omega arith

  gone_removed : (i : ℕ) → is_gone (life_at p.lives i) ≡ true → life_at p.lives i ≡ Removed
  gone_removed = not_begun s.names s.units removed_is s.gone once unbegun

  apart : (n : Name) → Among (after h).found n → Among names n → ⊥
  apart n a b =
      let low = found_at p.names p.lives 0 p.swept n (subst (λ (ns : List Name). Among ns n) (removed_is.found_is refl) a) in
      let high = found_at p.names p.lives p.swept looked n b in
      let same = s.names.alone low.0 high.0 n low.3 high.3 in
      absurd (omega (arith, low.2, high.1))

  removed_now : (n : Name) → Among names n → is_at (after h) model.Removed n ≡ true
  removed_now n b =
      let at = found_at p.names p.lives p.swept looked n b in
      let r = s.removed.removed at.0 n at.3 (ap is_gone at.4) in
      among_test (λ r. same_name n r.name && has_stage model.Removed r.stage) (after h).removals (removal_at p.lives p.polls at.0 n) r (let e = same_name_refl n in rw (e, at.4) refl)

  fresh : (n : Name) → Among names n → not (has (after h).found n) ≡ true
  fresh n b = go (has (after h).found n) refl
    where
      go : (x : Bool) → has (after h).found n ≡ x → not x ≡ true
      go false e = refl
      go true e = absurd (apart n (has_among (after h).found n e) b)

  sweeps : (stop : SweepStop) → Sweeps (state_of h) budget (record { looked = looked; found = count; stop = stop }) names
  sweeps stop = record {
    gathering = phase_is;
    within = finds.within;
    count = sym len;
    looked = omega (arith, len, finds.few);
    different = distinct_different names (distinct_found s.names p.lives p.swept looked);
    removed = all_from (is_at (after h) model.Removed) names removed_now;
    new = all_from (λ n. not (has (after h).found n)) names fresh;
  }

  distinct' : Distinct found'
  distinct' = subst (λ (ns : List Name). Distinct ns) (sym (found_now looked)) (distinct_found s.names p.lives 0 (p.swept + looked))

  found_are' : (n : Name) → Among found' n → (i : ℕ) × (i < p.swept + looked) × (name_at p.names i ≡ Some n) × (life_at p.lives i ≡ Removed)
  found_are' n a = let r = found_at p.names p.lives 0 (p.swept + looked) n (subst (λ (ns : List Name). Among ns n) (found_now looked) a) in (r.0, omega (arith, r.2), r.3, r.4)

  are_found' : (i : ℕ) (n : Name) → i < p.swept + looked → name_at p.names i ≡ Some n → life_at p.lives i ≡ Removed → Among found' n
  are_found' i n b at life = subst (λ (ns : List Name). Among ns n) (sym (found_now looked)) (at_found p.names p.lives 0 (p.swept + looked) i n (omega arith) (omega arith) at life)

  -- ---- the queue

  -- the members of the units that are found after k items
  abbrev listed_now : ℕ → List ℕ
  listed_now k = p.queue.todo ++ units_at p.lives p.firsts p.sizes p.next p.swept k

  named_now : (k : ℕ) → AreNamed p.names (listed_now k) (members (order_of (after h).last_removed ((after h).found ++ removed_names p.names p.lives p.swept k)))
  named_now k =
      let more = removed_names p.names p.lives p.swept k in
      let spread : members (order_of (after h).last_removed ((after h).found ++ more)) ≡ members (order_of (after h).last_removed (after h).found) ++ members (order_of (after h).last_removed more) =
      ap members (flat_map-append (λ n. filter (begins_with n) (after h).last_removed) (after h).found more)
      ∙ flat_map-append (λ (u : List Name). u) (order_of (after h).last_removed (after h).found) (order_of (after h).last_removed more) in
      subst (λ (ns : List Name). AreNamed p.names (listed_now k) ns) (sym spread)
      (named_append p.names _ _ _ _ gathers.listed_at (units_named s.names s.units removed_is s.gone once unbegun p.swept k))

  distinct_now : (k : ℕ) → Distinct (members (order_of (after h).last_removed ((after h).found ++ removed_names p.names p.lives p.swept k)))
  distinct_now k = order_distinct (after h).last_removed ((after h).found ++ removed_names p.names p.lives p.swept k) once
      (subst (λ (ns : List Name). Distinct ns) (sym (found_now k)) (distinct_found s.names p.lives 0 (p.swept + k)))

  listed_fits : (k : ℕ) → length p.queue.todo + length (units_at p.lives p.firsts p.sizes p.next p.swept k) ≤ item_count z
  listed_fits k =
      let few = few_named p.names (listed_now k) _ (named_now k) (distinct_now k) in
      let a = length-append p.queue.todo (units_at p.lives p.firsts p.sizes p.next p.swept k) in
      omega (arith, s.names.items)

  pub can_list : CanList p.lives p.firsts p.sizes p.next p.swept looked (length p.queue.todo) p.queue.room
  can_list = record {
    few = omega (arith, finds.range, s.units.lives_len, few_items);
    by_life = finds.range;
    by_first = omega (arith, finds.range, s.units.lives_len, s.units.firsts_len);
    by_size = omega (arith, finds.range, s.units.lives_len, s.units.sizes_len);
    within = links_within s.names s.units removed_is s.gone once unbegun;
    fits = λ k b. omega (arith, listed_fits k, s.room);
  }

  left_now : p.left ≡ length (after h).found
  left_now = removed_is.left_is

  found_len : p.left + count ≡ length found'
  found_len = let a = length-append (after h).found names in omega (arith, left_now, len)

  swept_below : p.swept + looked ≤ item_count z
  swept_below = omega (arith, finds.range, s.units.lives_len)

  not_marking : p.phase ≢ Marking
  not_marking e = let a = gathering in cc

  -- ---- more is left

  abbrev more_reply : Swept
  more_reply = record { looked = looked; found = count; stop = sweep.More }

  abbrev more_entry : Entry
  more_entry = record { pass = Collector; act = act.Sweep budget more_reply names }

  -- the ends after it
  abbrev swept_ends : Ends
  swept_ends = record (p.ends) { swept = p.swept + looked; left = p.left + count; queue = record (p.queue) { todo = listed_now looked } }

  pub sweeps_more : p.swept + looked < length p.lives → Done z (record p { ends = swept_ends }) h (h ++ more_entry ∷ []) Collector (act.Sweep budget more_reply names)
  sweeps_more below = does Collector (act.Sweep budget more_reply names) (act.Sweep budget more_reply names ∷ []) was (refl, tt)
      (record { finishes = was.rest.between.agreed; may = (sweeps sweep.More, omega (arith, s.removed.swept_is, s.units.lives_len)) }, tt) record {
        gate = s.gate;
        objects = s.objects;
        rows = s.rows;
        roots = s.roots;
        garbage = s.garbage;
        strong = s.strong;
        pairs = s.pairs;
        colours = s.colours;
        stock = s.stock;
        ends = record {
          removed = record {
            swept_is = ap (λ (k : ℕ). k + looked) s.removed.swept_is;
            swept_few = swept_below;
            polls_len = s.removed.polls_len;
            removed = s.removed.removed;
            gone = s.removed.gone;
            found_is = λ e. found_now looked;
            left_is = found_len ∙ sym (ap (λ (phase : Phase). count_left phase (after h).removals found') gathering);
            left_few = λ e. omega (arith, s.removed.left_few gathering, finds.few);
          };
          gone = s.gone;
          room = s.room;
          gathers = λ e. record { none_begun = gathers.none_begun; none_done = gathers.none_done; listed_at = named_now looked };
          queue = λ e. absurd (let a = gathering in cc);
          none_asked = s.none_asked;
        };
      }

  -- ---- all is found

  abbrev settled_reply : Swept
  settled_reply = record { looked = looked; found = count; stop = sweep.Settled }

  abbrev settled_entry : Entry
  settled_entry = record { pass = Collector; act = act.Sweep budget settled_reply names }

  all_found : length p.lives ≤ p.swept + looked → (r : Removal) → Among (after h).removals r → Among found' r.name
  all_found all r a =
      let j = s.removed.gone r a in
      let removed = gone_removed j.0 j.2 in
      are_found' j.0 r.name (omega (arith, life_below p.lives j.0 (λ free. cc))) j.1 removed

  same_length : length p.lives ≤ p.swept + looked → length found' ≡ length (after h).removals
  same_length all =
      let names_of : List Name = map (λ (x : Removal). x.name) (after h).removals in
      let len_names : length names_of ≡ length (after h).removals = length-map (after h).removals (λ (x : Removal). x.name) in
      let up : length found' ≤ length names_of =
      no_longer found' names_of distinct'
      (λ n a. let j = found_are' n a in
      name_among (after h).removals (removal_at p.lives p.polls j.0 n) (s.removed.removed j.0 n j.2 (ap is_gone j.3))) in
      let down : length names_of ≤ length found' =
      no_longer names_of found' (different_distinct _ known.destroying.different)
      (λ n a. let r = among_name (after h).removals n a in subst (λ (x : Name). Among found' x) r.2 (all_found all r.0 r.1)) in
      omega arith

  may_settle : length p.lives ≤ p.swept + looked → MayBy z (state_of h) Collector (act.Sweep budget settled_reply names)
  may_settle all = record {
    finishes = was.rest.between.agreed;
    may = (sweeps sweep.Settled, omega (arith, s.removed.swept_is, s.units.lives_len), all_from (λ r. has found' r.name) (after h).removals (λ r a. among_has found' r.name (all_found all r a)));
  }

  -- the order has exactly the removed objects
  in_order_is : length p.lives ≤ p.swept + looked → (n : Name) → still_there (after h).removals n ≡ has (members (order_of (after h).last_removed found')) n
  in_order_is all n = both (still_there (after h).removals n) _ ((next_sound z (state_of h) settled_entry (may_settle all) known).destroying.covered (λ e. cc) n) down
    where
      both : (a b : Bool) → (a ≡ true → b ≡ true) → (b ≡ true → a ≡ true) → a ≡ b
      both true b f g = sym (f refl)
      both false true f g = g refl
      both false false f g = refl

      down : has (members (order_of (after h).last_removed found')) n ≡ true → still_there (after h).removals n ≡ true
      down e =
          let v = among_members _ n (has_among _ n e) in
          let there = members_among (after h).last_removed v.0 n (unit_in_order (after h).last_removed found' v.0 v.1).0 v.2 in
          sym (named_any n (after h).removals) ∙ ap (λ (ns : List Name). has ns n) (known.destroying.all_there phase_is) ∙ among_has _ n there

  -- the queue of all that was removed
  queue_now : length p.lives ≤ p.swept + looked → IsQueue (gone_world (after h).removals (after h).last_removed found') None (members (order_of (after h).last_removed found')) [] None
  queue_now all =
      queue_start (gone_world (after h).removals (after h).last_removed found') (distinct_different _ (distinct_now looked))
      known.destroying.units_different known.destroying.different unbegun (in_order_is all)

  pub sweeps_all : length p.lives ≤ p.swept + looked
      → Done z (record p { gate = record (p.gate) { phase = Idle }; ends = swept_ends }) h (h ++ settled_entry ∷ []) Collector (act.Sweep budget settled_reply names)
  sweeps_all all = does Collector (act.Sweep budget settled_reply names) (act.Sweep budget settled_reply names ∷ []) was (refl, tt) (may_settle all, tt) record {
    gate = record { phase = refl; frames = s.frames };
    objects = s.objects;
    rows = s.rows;
    roots = s.roots;
    garbage = s.garbage;
    strong = s.strong;
    pairs = s.pairs;
    colours = record { marked_len = s.marked_len; idle = λ ne. s.idle not_marking; marks = λ e. absurd cc };
    stock = s.stock;
    ends = record {
      removed = record {
        swept_is = ap (λ (k : ℕ). k + looked) s.removed.swept_is;
        swept_few = swept_below;
        polls_len = s.removed.polls_len;
        removed = s.removed.removed;
        gone = s.removed.gone;
        found_is = λ e. absurd cc;
        left_is = found_len ∙ same_length all;
        left_few = λ e. absurd cc;
      };
      gone = s.gone;
      room = s.room;
      gathers = λ e. absurd cc;
      queue = λ e. record {
        todo = members (order_of (after h).last_removed found');
        ring = [];
        ready = None;
        todo_at = named_now looked;
        ring_at = subst (λ (at : List ℕ). AreNamed p.names at []) (sym gathers.none_begun) tt;
        ready_at = subst (λ (done : Option ℕ). ReadyAt p.names done None) (sym gathers.none_done) tt;
        queue = subst (λ (last : Option Name). IsQueue (gone_world (after h).removals (after h).last_removed found') last (members (order_of (after h).last_removed found')) [] None)
            (sym (s.none_asked (λ e. let a = gathering in cc))) (queue_now all);
      };
      none_asked = λ ne. absurd (ne refl);
    };
  }
