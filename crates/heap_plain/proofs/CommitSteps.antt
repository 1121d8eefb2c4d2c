-- Committing a collection.
use Rattle.std.proofs.Common.{◌≡◌, ◌≢◌, ℕ, ◌-◌, ◌<◌, ◌≤◌, ◌&&◌, ◌||◌, not, refl, sym, subst, ap, ◌∙◌, inl, inr, arith, Bool, true, false, List, [], ◌∷◌, ◌++◌, length, get_or, map, filter, count_by, count_ones, Option, Some, None}
use Rattle.std.proofs.Math.Logic.{dite}
use Rattle.std.proofs.Math.Decide.{dec_le}
use Rattle.std.proofs.Math.Nat.{lt_of_not-le}
use Rattle.std.proofs.lemmas.Bool.{both_ways, false_from_ne_true}
use Rattle.std.proofs.lemmas.List.{get_or_past, length-drop}
use Rattle.world_model.specs.Sizes.{Sizes, item_count}
use Rattle.world_model.specs.NameLists.{same_name, has, members}
use Rattle.world_model.specs.World.{World, Removal, Removed as AtRemoved, occupied}
use Rattle.world_model.specs.State.{State, Marks, is_marked, is_grey, grey_in, grey_units, white_units, beginning}
use Rattle.world_model.specs.Reach.{graph, IsUnit, IsReached}
use Rattle.world_model.specs.CollectorSteps.{CommitMay}
use Rattle.world_model.specs.Next.{committed, next, run}
use Rattle.world_model.specs.Histories.{MayBy, after, state_of}
use Rattle.world_model.specs.Calls.{by, CommitsAlone}
use Rattle.world_model.specs.Follows.{NamesLive}
use Rattle.world_model.proofs.ListFacts.{Among, among_contains, filter_among, among_filter, among_filter_test, among_left, among_right}
use Rattle.world_model.proofs.NameFacts.{has_among, among_members}
use Rattle.world_model.proofs.Joins.{legal_join}
use Rattle.world_model.proofs.Inductions.{one_more}
use Rattle.world_model.proofs.Sound.{IsSound, sound, next_sound}
use Rattle.world_model.proofs.Removals.{named_lives_holds, no_white_reached_holds}
use Rattle.heap_plain.specs.Types.{Name, Phase, Idle, Marking, Gathering, Commit, Collector, Entry}
use Rattle.heap_plain.specs.Types.act
use Rattle.heap_plain.specs.Types.commit
use Rattle.heap_plain.specs.declared.life.Life.{Life}
use Rattle.heap_plain.specs.declared.life.Life.TheVariants.{Free, Live, Removed, Begun, Finished}
use Rattle.heap_plain.specs.Parts.{Parts, Objects, name_at, life_at, first_at, is_gone, stage_of}
use Rattle.heap_plain.specs.Filling.{Filled}
use Rattle.heap_plain.specs.Notes.{MayEnd, is_done}
use Rattle.heap_plain.specs.Sweeping.{without, Removes}
use Rattle.heap_plain.specs.Lists.{Distinct}
use Rattle.heap_plain.specs.Units.{UnitsShow, StandsAt, LivesAt}
use Rattle.heap_plain.specs.Roots.{RootsShow, StrongShow, rooted_at}
use Rattle.heap_plain.proofs.Pointers.{strong_map}
use Rattle.heap_plain.specs.Cells.{CellsShow}
use Rattle.heap_plain.specs.Painted.{Painted, grey_of}
use Rattle.heap_plain.specs.Stocking.{FreeShows}
use Rattle.heap_plain.specs.Destroying.{RemovedShow, removal_of, removal_at, GoneShow, LiesAt, at_end}
use Rattle.heap_plain.specs.Plain.{Shows, IsPlain}
use Rattle.heap_plain.proofs.GarbageSteps.{garbage_fewer}
use Rattle.heap_plain.proofs.Fillings.{Lists-same, from_start}
use Rattle.heap_plain.proofs.Counting.{occupied_next, count_all}
use Rattle.heap_plain.proofs.Entries.{Done, does}
use Rattle.heap_plain.proofs.Standing.{lives_at, lives_in}
use Rattle.heap_plain.proofs.Cells.{cells_less}
use Rattle.heap_plain.proofs.Restaging.{free_lives}
use Rattle.heap_plain.proofs.NewNames.{members_among}
use Rattle.heap_plain.proofs.BeginSteps.{none_of_none}
use Rattle.heap_plain.proofs.SliceSteps.{filter_none, grey_empty, not_true}

-- ---- the worklist and the grey units

grey_len : (c : Painted) → length (grey_of c) ≡ length c.listed - c.scanned
grey_len c = length-drop c.scanned c.listed

none_grey : {z : Sizes} {p : Parts} (s : State) → Shows z p s → length p.listed - p.scanned ≡ 0 → grey_units s ≡ []
none_grey {p = p} s h e = grey_empty s.world.phase s.marks s.world.units (λ marking. filter_none (is_grey s.marks) s.world.units (λ u a is.
    let at = h.units.all u a in
    let among = (h.marks (h.phase ∙ marking)).all_grey at.0 u at.1 is in
    absurd (subst (λ (xs : List ℕ). Among xs at.0) (none_of_none (grey_of p.colours) (grey_len p.colours ∙ e)) among)))

grey_marking : (phase : Phase) (m : Marks) (units : List (List Name)) → phase ≡ Marking → grey_in phase m units ≡ filter (is_grey m) units
grey_marking Marking m units e = refl
grey_marking Idle m units e = absurd cc
grey_marking Gathering m units e = absurd cc

first_of : (xs : List ℕ) → 0 < length xs → (x : ℕ) × Among xs x
first_of [] h = absurd (omega arith)
first_of (x ∷ xs) h = (x, inl refl)

among_some : {A : Type 0} (xs : List A) (x : A) → Among xs x → 0 < length xs
among_some [] x a = absurd a
among_some (y ∷ xs) x a = omega arith

some_grey : {z : Sizes} {p : Parts} (s : State) → Shows z p s → p.phase ≡ Marking → 0 < length p.listed - p.scanned → 0 < length (grey_units s)
some_grey {p = p} s h e more =
    let first = first_of (grey_of p.colours) (omega (arith, grey_len p.colours)) in
    let r = (h.marks e).grey_units first.0 first.1 in
    rw (grey_marking s.world.phase s.marks s.world.units (sym h.phase ∙ e)) (among_some (filter (is_grey s.marks) s.world.units) r.0 (filter_among (is_grey s.marks) s.world.units r.0 r.1.among r.2))

-- ---- refusals

one_bit : count_ones 1 ≡ 1
unfolding lib.Count.ones
one_bit = refl

some_not_none : {A : Type 0} (xs : List A) → 0 < length xs → xs ≢ []
some_not_none xs h e = let len : length xs ≡ 0 = ap (λ (ys : List _). length ys) e in absurd (omega arith)

may_refuse : {z : Sizes} {p : Parts} {h : List Entry} (reply : Commit) → IsPlain z p h
    → MayEnd p.phase (length p.listed - p.scanned) (count_by (λ is_open. is_open) p.frames) reply → is_done reply ≡ false → CommitMay (state_of h) reply
may_refuse commit.Done was m other = absurd cc
may_refuse (commit.NotMarking at) was m other = (m.0 ∙ was.shows.phase, λ e. m.1 (sym m.0 ∙ e))
may_refuse {h = h} (commit.Unfinished word bits) was m other =
    let some = some_grey (state_of h) was.shows m.0 m.1 in
    let one = one_bit in
    rw m.3 (record { marking = sym was.shows.phase ∙ m.0; some = omega arith; few = omega arith })
may_refuse commit.Stores was m other = absurd m
may_refuse (commit.Frames n) was m other = (sym was.shows.phase ∙ m.0, (m.2 ∙ was.shows.frames.count, omega (arith, m.2, m.3)))

commits_alone : {z : Sizes} {p : Parts} {h : List Entry} (reply : Commit) → IsPlain z p h
    → MayEnd p.phase (length p.listed - p.scanned) (count_by (λ is_open. is_open) p.frames) reply → CommitsAlone (state_of h) reply
commits_alone {h = h} commit.Done was m = record { unfinished = λ e. ((λ t. absurd cc), (λ ne. absurd (ne (none_grey (state_of h) was.shows m.1)))); no_stores = λ e. cc }
commits_alone (commit.NotMarking at) was m = record { unfinished = λ e. absurd (m.1 (was.shows.phase ∙ e)); no_stores = λ e. cc }
commits_alone {h = h} (commit.Unfinished word bits) was m = record { unfinished = λ e. ((λ t. some_not_none _ (some_grey (state_of h) was.shows m.0 m.1)), (λ ne. refl)); no_stores = λ e. cc }
commits_alone commit.Stores was m = absurd m
commits_alone {h = h} (commit.Frames n) was m = record { unfinished = λ e. ((λ t. absurd cc), (λ ne. absurd (ne (none_grey (state_of h) was.shows m.1)))); no_stores = λ e. cc }

-- a refusal changes nothing
pub refuses_commit : {z : Sizes} {p : Parts} {h : List Entry} (reply : Commit) → IsPlain z p h
    → MayEnd p.phase (length p.listed - p.scanned) (count_by (λ is_open. is_open) p.frames) reply → is_done reply ≡ false
    → Done z p h (h ++ record { pass = Collector; act = act.CommitGc reply } ∷ []) Collector (act.CommitGc reply)
refuses_commit {z} {p} {h} reply was m other =
    does Collector (act.CommitGc reply) (act.CommitGc reply ∷ []) was (refl, commits_alone reply was m)
    (record { finishes = was.rest.between.agreed; may = may_refuse reply was m other }, tt) (stays reply other)
  where
    stays : (r : Commit) → is_done r ≡ false → Shows z p (run (state_of h) (by Collector (act.CommitGc r ∷ [])))
    stays commit.Done e = absurd cc
    stays _ e = was.shows

pub done_facts : (phase : Phase) (grey opened : ℕ) (reply : Commit) → MayEnd phase grey opened reply → is_done reply ≡ true → (reply ≡ commit.Done) × (phase ≡ Marking) × (grey ≡ 0) × (opened ≡ 0)
done_facts phase grey opened commit.Done m e = (refl, m.0, m.1, m.2)
done_facts phase grey opened (commit.NotMarking at) m e = absurd cc
done_facts phase grey opened (commit.Unfinished word bits) m e = absurd cc
done_facts phase grey opened commit.Stores m e = absurd m
done_facts phase grey opened (commit.Frames n) m e = absurd cc

-- ---- members of some of the units

pub distinct_left : (xs ys : List Name) → Distinct (xs ++ ys) → Distinct xs
distinct_left [] ys d = tt
distinct_left (x ∷ xs) ys d = ((λ a. d.0 (among_left xs ys x a)), distinct_left xs ys d.1)

pub distinct_right : (xs ys : List Name) → Distinct (xs ++ ys) → Distinct ys
distinct_right [] ys d = d
distinct_right (x ∷ xs) ys d = distinct_right xs ys d.1

pub distinct_both : (xs ys : List Name) → Distinct (xs ++ ys) → (n : Name) → Among xs n → Among ys n → ⊥
distinct_both [] ys d n a b = a
distinct_both (x ∷ xs) ys d n (inl e) b = d.0 (among_right xs ys x (subst (λ (m : Name). Among ys m) (sym e) b))
distinct_both (x ∷ xs) ys d n (inr a) b = distinct_both xs ys d.1 n a b

among_removals : (names : List Name) (n : Name) → Among names n → Among (map removal_of names) (removal_of n)
among_removals [] n a = absurd a
among_removals (m ∷ names) n (inl e) = inl (ap removal_of e)
among_removals (m ∷ names) n (inr a) = inr (among_removals names n a)

removals_among : (names : List Name) (r : Removal) → Among (map removal_of names) r → Among names r.name
removals_among [] r a = absurd a
removals_among (m ∷ names) r (inl e) = inl (ap (λ (x : Removal). x.name) e)
removals_among (m ∷ names) r (inr a) = inr (removals_among names r a)

none_at_end : (names : List Name) (n : Name) → at_end (map removal_of names) n ≡ false
none_at_end [] n = refl
none_at_end (m ∷ names) n = rw (none_at_end names n) (go (same_name n m))
  where
    go : (b : Bool) → ((b && false) || false) ≡ false
    go true = refl
    go false = refl

-- ---- a collection commits

module _ {z : Sizes} {p : Parts} {h : List Entry} {lives : List Life} (was : IsPlain z p h) (marking : p.phase ≡ Marking)
    (black : length p.listed - p.scanned ≡ 0) (open_none : count_by (λ is_open. is_open) p.frames ≡ 0)
    (removes : Removes p.firsts p.marked p.lives lives (length p.lives)) {polls waiting : List ℕ}
    (cleared : Filled p.polls polls 0 (length p.polls) (λ k. 0))
    (copied : Filled p.waiting waiting 0 (length p.sizes) (λ k. get_or p.sizes k 0)) where
  abbrev s : Shows z p (state_of h)
  s = was.shows

  abbrev w : World
  w = after h

  abbrev m : Marks
  m = (state_of h).marks

  abbrev bit : ℕ → Bool
  bit i = get_or p.marked (first_at p.firsts i) false

  abbrev Stands : ℕ → List Name → Type 0
  Stands head u = StandsAt p.objects w.units head u

  opened_none : w.opened ≡ []
  opened_none = none_of_none _ (sym s.frames.count ∙ open_none)

  -- ---- nothing white is reached

  black_all : grey_units (state_of h) ≡ []
  black_all = none_grey (state_of h) s black

  unreached : (u : List Name) → IsUnit (graph w) u → is_marked m u ≡ false → IsReached (graph w) u → ⊥
  unreached u unit white reached = both_ways _ white (no_white_reached_holds z h was.legal (sym s.phase ∙ marking) black_all (was.rest.roots (sym s.phase ∙ marking)) u reached)

  abbrev done_entry : Entry
  done_entry = record { pass = Collector; act = act.CommitGc commit.Done }

  may_commit : MayBy z (state_of h) Collector (act.CommitGc commit.Done)
  may_commit = record { finishes = was.rest.between.agreed; may = record { marking = sym s.phase ∙ marking; closed = opened_none; black = black_all; unreached = unreached } }

  -- the world that it leaves
  abbrev v : World
  v = committed m w

  now : IsSound (next (state_of h) done_entry)
  now = next_sound z (state_of h) done_entry may_commit (sound z h was.legal)

  -- ---- lives

  -- the objects after it
  abbrev o' : Objects
  o' = record (p.objects) { lives = lives }

  life_is : (i : ℕ) → life_at lives i ≡ without (life_at p.lives i) (bit i)
  life_is i = dite (dec_le (length p.lives) i)
      (λ (le : length p.lives ≤ i). let free : life_at p.lives i ≡ Free = get_or_past p.lives i Free le in removes.rest i le ∙ free ∙ sym (ap (λ (x : Life). without x (bit i)) free))
      (λ (le : ¬ (length p.lives ≤ i)). removes.done i (lt_of_not-le le))

  stays_live : (i : ℕ) → life_at p.lives i ≡ Live → bit i ≡ true → life_at lives i ≡ Live
  stays_live i e b = life_is i ∙ ap (λ (x : Life). without x (bit i)) e ∙ ap (λ (x : Bool). without Live x) b

  was_live : (i : ℕ) → life_at lives i ≡ Live → (life_at p.lives i ≡ Live) × (bit i ≡ true)
  was_live i e = go (life_at p.lives i) (bit i) refl refl (sym (life_is i) ∙ e)
    where
      go : (x : Life) (b : Bool) → life_at p.lives i ≡ x → bit i ≡ b → without x b ≡ Live → (life_at p.lives i ≡ Live) × (bit i ≡ true)
      go Live true e b is = (e, b)
      go Live false e b is = absurd cc
      go Free b e _ is = absurd cc
      go Removed b e _ is = absurd cc
      go Begun b e _ is = absurd cc
      go Finished b e _ is = absurd cc

  -- no removed object was left
  not_gone : (i : ℕ) → is_gone (life_at p.lives i) ≡ true → ⊥
  not_gone i e =
      let n = s.units.named i (λ free. let none : is_gone (life_at p.lives i) ≡ false = ap is_gone free in cc) in
      let a = s.removed.removed i n.0 n.1 e in
      subst (λ (rs : List Removal). Among rs (removal_at p.lives p.polls i n.0)) ((sound z h was.legal).destroying.unmarked (sym s.phase ∙ marking)) a

  now_gone : (i : ℕ) → is_gone (life_at lives i) ≡ true → (life_at p.lives i ≡ Live) × (bit i ≡ false)
  now_gone i e = go (life_at p.lives i) (bit i) refl refl (ap is_gone (sym (life_is i)) ∙ e)
    where
      go : (x : Life) (b : Bool) → life_at p.lives i ≡ x → bit i ≡ b → is_gone (without x b) ≡ true → (life_at p.lives i ≡ Live) × (bit i ≡ false)
      go Live true e b is = absurd cc
      go Live false e b is = (e, b)
      go Free b e _ is = absurd cc
      go Removed b e _ is = absurd (not_gone i (ap is_gone e))
      go Begun b e _ is = absurd (not_gone i (ap is_gone e))
      go Finished b e _ is = absurd (not_gone i (ap is_gone e))

  goes : (i : ℕ) → life_at p.lives i ≡ Live → bit i ≡ false → life_at lives i ≡ Removed
  goes i e b = life_is i ∙ ap (λ (x : Life). without x (bit i)) e ∙ ap (λ (x : Bool). without Live x) b

  -- ---- units

  abbrev kept : List (List Name)
  kept = filter (is_marked m) w.units

  abbrev white : List (List Name)
  white = white_units m w

  member_bit : (head : ℕ) (u : List Name) → Stands head u → (i : ℕ) → first_at p.firsts i ≡ head → bit i ≡ is_marked m u
  member_bit head u t i f = ap (λ (x : ℕ). get_or p.marked x false) f ∙ (s.marks marking).bits head u t

  stands_kept : (head : ℕ) (u : List Name) → Stands head u → is_marked m u ≡ true → StandsAt o' kept head u
  stands_kept head u t e = record {
    among = filter_among (is_marked m) w.units u t.among e;
    life = stays_live head t.life (member_bit head u t head t.own ∙ e);
    own = t.own;
    size = t.size;
    linked = t.linked;
    inside = λ n is. let j = t.inside n is in (j.0, record { name = j.1.name; life = stays_live j.0 j.1.life (member_bit head u t j.0 j.2 ∙ e) }, j.2);
    whole = λ i n a f. t.whole i n (record { name = a.name; life = (was_live i a.life).0 }) f;
  }

  units_kept : UnitsShow z o' kept
  units_kept = record {
    firsts_len = s.units.firsts_len;
    sizes_len = s.units.sizes_len;
    links_len = s.units.links_len;
    lives_len = removes.len ∙ s.units.lives_len;
    in_range = s.units.in_range;
    small = s.units.small;
    named = λ i ne. s.units.named i (λ free. ne (life_is i ∙ ap (λ (x : Life). without x (bit i)) free));
    each = λ i e. let l = was_live i e in let r = s.units.each i l.0 in (r.0, stands_kept (first_at p.firsts i) r.0 r.1 (sym (member_bit (first_at p.firsts i) r.0 r.1 i refl) ∙ l.1));
    all = λ u a. let r = s.units.all u (among_filter (is_marked m) w.units u a) in (r.0, stands_kept r.0 u r.1 (among_filter_test (is_marked m) w.units u a));
  }

  -- a member of a white unit
  white_member : (n : Name) → Among (members white) n → (i : ℕ) × LivesAt p.names p.lives i n × (bit i ≡ false)
  white_member n a =
      let v = among_members white n a in
      let unmarked = not_true _ (among_filter_test (λ u. not (is_marked m u)) w.units v.0 v.1) in
      let at = s.units.all v.0 (among_filter (λ u. not (is_marked m u)) w.units v.0 v.1) in
      let j = at.1.inside n v.2 in
      (j.0, j.1, member_bit at.0 v.0 at.1 j.0 j.2 ∙ unmarked)

  -- ---- roots and cells

  -- what is rooted lives on, and so do the objects that cells of what lives on name
  lives_on : NamesLive v
  lives_on = subst NamesLive (ap (λ (t : State). t.world) (one_more h done_entry)) (named_lives_holds z (h ++ done_entry ∷ []) (legal_join z beginning h (done_entry ∷ []) was.legal (may_commit, tt)))

  same_bit : (o : Option Name) → rooted_at v.rooted o ≡ rooted_at w.rooted o
  same_bit None = refl
  same_bit (Some n) = go (w.rooted n) refl
    where
      go : (b : Bool) → w.rooted n ≡ b → (b && not (has (members white) n)) ≡ b
      go false e = refl
      go true e = ap not (false_from_ne_true _ (λ is.
          let j = white_member n (has_among (members white) n is) in
          let u = s.units.each j.0 j.1.life in
          both_ways _ (sym (member_bit (first_at p.firsts j.0) u.0 u.1 j.0 refl) ∙ j.2)
          (was.rest.roots (sym s.phase ∙ marking) u.0 (among_contains w.units u.0 u.1.among) (n, u.1.whole j.0 n j.1 refl, inl e))))

  roots_kept : RootsShow z p.names p.roots v.rooted
  roots_kept = record {
    bits = Lists-same p.roots (item_count z) (λ i. rooted_at w.rooted (name_at p.names i)) _ s.roots.bits (λ i. same_bit (name_at p.names i));
  }

  strong_kept : StrongShow z p.names lives p.strong w.strong
  strong_kept = strong_map (λ lane number t x e a. let j = lives_at units_kept x (lives_on.strong lane number x e) in
      subst (λ (k : ℕ). LivesAt p.names lives k x) (s.names.alone j.0 t x j.1.name a.name) j.1) s.strong

  cells_kept : CellsShow z p.names lives p.kinds p.targets p.plains w.kinds w.cell w.plain
  cells_kept = cells_less (λ i n a. record { name = a.name; life = (was_live i a.life).0 })
      (λ i n slot t x there cell a. let j = lives_at units_kept x (lives_on.cells n slot x (lives_in units_kept i n there) cell) in
      subst (λ (k : ℕ). LivesAt p.names lives k x) (s.names.alone j.0 t x j.1.name a.name) j.1) s.cells

  -- ---- removed objects, free indexes

  no_polls : (i : ℕ) → get_or polls i 0 ≡ 0
  no_polls i = dite (dec_le (length p.polls) i)
      (λ (le : length p.polls ≤ i). get_or_past polls i 0 (omega (arith, cleared.len)))
      (λ (le : ¬ (length p.polls ≤ i)). from_start cleared i 0 (lt_of_not-le le))

  removal_is : (i : ℕ) (n : Name) → is_gone (life_at lives i) ≡ true → removal_of n ≡ removal_at lives polls i n
  removal_is i n e =
      let was = now_gone i e in
      let stage : stage_of (life_at lives i) ≡ AtRemoved = ap stage_of (goes i was.0 was.1) in
      λ t. record { name = n; stage = sym stage t; polls = sym (no_polls i) t }

  -- the unit of a removed object is white
  gone_unit : (i : ℕ) (u : List Name) → StandsAt p.objects w.units (first_at p.firsts i) u → bit i ≡ false → Among white u
  gone_unit i u t b =
      let unmarked : is_marked m u ≡ false = sym (member_bit (first_at p.firsts i) u t i refl) ∙ b in
      filter_among (λ u. not (is_marked m u)) w.units u t.among (ap not unmarked)

  removed_kept : RemovedShow z p.names lives polls 0 0 Gathering (map removal_of (members white)) [] 0
  removed_kept = record {
    swept_is = refl;
    swept_few = omega arith;
    polls_len = cleared.len ∙ s.removed.polls_len;
    removed = λ i n at life.
        let l = now_gone i life in
        let r = s.units.each i l.0 in
        let has_n = r.1.whole i n (record { name = at; life = l.0 }) refl in
        subst (λ (x : Removal). Among (map removal_of (members white)) x) (removal_is i n life)
        (among_removals (members white) n (members_among white r.0 n (gone_unit i r.0 r.1 l.1) has_n));
    gone = λ r a. let j = white_member r.name (removals_among (members white) r a) in (j.0, j.1.name, ap is_gone (goes j.0 j.1.life j.2));
    found_is = λ e. refl;
    left_is = refl;
    left_few = λ e. omega arith;
  }

  -- ---- removed units

  abbrev Lies : ℕ → List Name → Type 0
  Lies head u = LiesAt o' waiting (map removal_of (members white)) white head u

  waits_all : (head : ℕ) → get_or waiting head 0 ≡ get_or p.sizes head 0
  waits_all head = dite (dec_le (length p.sizes) head)
      (λ (le : length p.sizes ≤ head). get_or_past waiting head 0 (omega (arith, copied.len, s.gone.waiting_len, s.units.sizes_len)) ∙ sym (get_or_past p.sizes head 0 le))
      (λ (le : ¬ (length p.sizes ≤ head)). from_start copied head 0 (lt_of_not-le le))

  lies_white : (head : ℕ) (u : List Name) → Stands head u → is_marked m u ≡ false → Lies head u
  lies_white head u t e = record {
    among = filter_among (λ u. not (is_marked m u)) w.units u t.among (ap not e);
    life = ap is_gone (goes head t.life (member_bit head u t head t.own ∙ e));
    own = t.own;
    size = t.size;
    linked = t.linked;
    inside = λ n is. let j = t.inside n is in (j.0, record { name = j.1.name; life = ap is_gone (goes j.0 j.1.life (member_bit head u t j.0 j.2 ∙ e)) }, j.2);
    whole = λ i n a f. t.whole i n (record { name = a.name; life = (now_gone i a.life).0 }) f;
    waits = waits_all head ∙ t.size ∙ sym (count_all (λ n. not (at_end (map removal_of (members white)) n)) u (λ n. ap not (none_at_end (members white) n)));
  }

  gone_kept : GoneShow z o' waiting (map removal_of (members white)) white
  gone_kept = record {
    waiting_len = copied.len ∙ s.gone.waiting_len;
    each = λ i e.
        let l = now_gone i e in
        let r = s.units.each i l.0 in
        (r.0, lies_white (first_at p.firsts i) r.0 r.1 (sym (member_bit (first_at p.firsts i) r.0 r.1 i refl) ∙ l.1));
    all = λ u n a e still.
        let r = s.units.all u (among_filter (λ u. not (is_marked m u)) w.units u a) in
        (r.0, lies_white r.0 u r.1 (not_true _ (among_filter_test (λ u. not (is_marked m u)) w.units u a)));
  }

  -- what was free is free, and what is free was
  stays_free : (i : ℕ) → life_at p.lives i ≡ Free → life_at lives i ≡ Free
  stays_free i e = life_is i ∙ ap (λ (x : Life). without x (bit i)) e

  was_free : (i : ℕ) → life_at lives i ≡ Free → life_at p.lives i ≡ Free
  was_free i e = go (life_at p.lives i) (bit i) refl (sym (life_is i) ∙ e)
    where
      go : (x : Life) (b : Bool) → life_at p.lives i ≡ x → without x b ≡ Free → life_at p.lives i ≡ Free
      go Free b is e = is
      go Live true is e = absurd cc
      go Live false is e = absurd cc
      go Removed b is e = absurd cc
      go Begun b is e = absurd cc
      go Finished b is e = absurd cc

  free_kept : FreeShows z p.names lives p.stocks (occupied v)
  free_kept = free_lives stays_free was_free (λ lane. omega (arith, occupied_next z h done_entry was.legal may_commit lane)) s.free

  pub commits : Done z
      (record p {
        gate = record (p.gate) { phase = Gathering };
        objects = o';
        ends =
            record { left = 0; swept = 0; queue = record { room = p.queue.room; todo = []; ring = [] }; polls = polls; waiting = waiting; done = None };
      }) h (h ++ done_entry ∷ []) Collector (act.CommitGc commit.Done)
  commits = does Collector (act.CommitGc commit.Done) (act.CommitGc commit.Done ∷ []) was (refl, commits_alone commit.Done was (marking, black, open_none)) (may_commit, tt) record {
    gate = record { phase = refl; frames = s.frames };
    objects = record { names = s.names; units = units_kept };
    rows = record { kinds = s.kinds; cells = cells_kept };
    roots = roots_kept;
    garbage = garbage_fewer (λ i n a. record { name = a.name; life = (was_live i a.life).0 }) s.garbage;
    strong = strong_kept;
    pairs = s.pairs;
    colours = record { marked_len = s.marked_len; idle = λ ne. omega (arith, black, (s.marks marking).order); marks = λ e. absurd cc };
    stock = record { made = s.made; free = free_kept };
    ends = record {
      removed = removed_kept;
      gone = gone_kept;
      room = s.room;
      gathers = λ e. record { none_begun = refl; none_done = refl; listed_at = tt };
      queue = λ e. absurd cc;
      none_asked = λ ne. s.none_asked (λ e. let a = marking in cc);
    };
  }
