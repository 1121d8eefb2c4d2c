-- What a whole collection removes and finds in a legal history.
use Rattle.std.proofs.Common.{◌≡◌, ℕ, ◌+◌, ◌*◌, ◌<◌, ◌≤◌, arith, length, refl, sym, subst, ap, ◌∙◌, inl, inr, Bool, cond, true, false, not, ◌&&◌, ◌||◌, List, [], ◌∷◌, ◌++◌, append_assoc, map, Option, Some, None, ◌⊎◌, filter}
use Rattle.std.specs.List.{list_any, list_all, flat_map, range_with_len}
use Rattle.std.specs.Option.{is_some}
use Rattle.std.proofs.Math.Logic.{dite}
use Rattle.std.proofs.Math.Decide.{dec_le}
use Rattle.std.proofs.Math.Nat.{lt_of_not-le}
use Rattle.std.proofs.lemmas.List.{length-map}
use Rattle.std.proofs.lemmas.Bool.{both_ways, not-true, false_from_ne_true}
use Rattle.world_model.specs.Sizes.{Sizes}
use Rattle.world_model.specs.NameLists.{same_name, has, all_different, members}
use Rattle.world_model.specs.World.{World, Pair, Removal, Removed, is_at, pair_of, drawn}
use Rattle.world_model.specs.Reach.{graph, IsUnit, IsRoot, IsRootUnit, IsReached}
use Rattle.world_model.specs.State.{State, Marks, is_marked, white_units}
use Rattle.world_model.specs.CollectorSteps.{IsIdle, Sweeps, SweepMay}
use Rattle.world_model.specs.Next.{next, run, committed, with_found, settled}
use Rattle.world_model.specs.Histories.{state_of, after, Legal, LegalFrom}
use Rattle.world_model.specs.Calls.{by, by_marker}
use Rattle.world_model.specs.Laws.{started, done, KeepsReached}
use Rattle.world_model.proofs.ListFacts.{and_true, or_true, or_right, Among, contains_among, among_contains, filter_among, among_filter_test, among_test, test_among}
use Rattle.world_model.proofs.NameFacts.{same_name_true, same_name_refl, has_among, among_has}
use Rattle.world_model.proofs.Joins.{run-append, by-append, legal_split, legal_join}
use Rattle.world_model.proofs.Collections.{all_append, keeps_mark, slices_mark, collect_is_exact_holds}
use Rattle.world_model.proofs.Progress.{marks_leave}
use Rattle.world_play.specs.Header.{Header}
use Rattle.std.specs.Prelude.{slice_get}
use Rattle.world_play.specs.Types.{Name, Kind, Phase, Idle, Marking, Swept, SweepStop, Pass, Collector, Act, Entry}
use Rattle.world_play.specs.Types.act
use Rattle.world_play.specs.Types.sweep
use Rattle.world_play.specs.Collections.{SweepsMore, SweepsAll, Collected}
use Rattle.world_play.specs.Outcome.{Scene, is_named_by, is_named, is_root, is_reached, unreached, collected}
use Rattle.world_model.specs.Reached.{TellsRoots}
use Rattle.world_model.proofs.Reached.{range_among, reached_told, told_reached}
use Rattle.world_model.specs.Hooks.{class_of}
use Rattle.world_play.proofs.Order.{same_order}
use Rattle.world_play.proofs.Destroying.{weight, weight_most, names_of, removed_name, InTable, purges_end}
use Rattle.world_play.proofs.Different.{NoneShared, has_append, different_append, members_different}
use Rattle.world_model.proofs.Counts.{names_new}
use Rattle.world_model.proofs.Turns.{some_units}

-- ---- what a world shows

abbrev pub scene_of : World → Scene
scene_of w =
    record {
      kinds = w.kinds;
      cell = w.cell;
      units = w.units;
      rooted = w.rooted;
      strong = w.strong;
      paired = λ n. is_some (pair_of w n);
      drawn = λ lane. drawn w lane;
      opened = w.opened;
    }

-- no collection runs, nothing is removed that is not released, objects have so many cells, lanes so many strong pointers, no object is garbage, and indexes are below 2^32
pub record AreStill (z : Sizes) (phase : Phase) (removals : List Removal) (kinds : ℕ → List Kind) (cell : Name → ℕ → Option Name)
    (strong : ℕ → ℕ → Option Name) (garbage : Name → Bool) (pairs : List Pair) : Type 0 where
  pub idle : phase ≡ Idle
  pub released : removals ≡ []
  pub cells : (n : Name) (slot : ℕ) → z.slots ≤ slot → cell n slot ≡ None
  pub pointers : (lane number : ℕ) → (z.lanes ≤ lane) ⊎ (z.strong ≤ number) → strong lane number ≡ None
  pub fits : (lane i : ℕ) (k : Kind) → slice_get (kinds lane) i ≡ Some k → k.refs ≤ z.slots
  pub valid : (n : Name) → garbage n ≡ false
  pub small : (p : Pair) → Among pairs p → p.weak.index < 4294967296

abbrev pub IsCalm : Sizes → World → Type 0
IsCalm z w = AreStill z w.phase w.removals w.kinds w.cell w.strong w.garbage w.pairs

-- ---- what is reached

-- nothing is no object
none_some : {A : Type 0} (o : Option A) (x : A) → o ≡ None → o ≡ Some x → ⊥
none_some o x none some = absurd cc

-- the test of a strong pointer tells which object it names
named_some : (n : Name) (o : Option Name) → is_named_by n o ≡ true → o ≡ Some n
named_some n None e = absurd cc
named_some n (Some to) e = ap Some (sym (same_name_true n to e))

some_named : (n : Name) (o : Option Name) → o ≡ Some n → is_named_by n o ≡ true
some_named n o e = ap (is_named_by n) e ∙ same_name_refl n

named_strong : (z : Sizes) (w : World) (n : Name) → is_named z (scene_of w) n ≡ true → (lane : ℕ) × (number : ℕ) × (w.strong lane number ≡ Some n)
named_strong z w n e =
    let lane = test_among (λ lane. list_any (λ h. is_named_by n (w.strong lane h)) (range_with_len 0 z.strong)) (range_with_len 0 z.lanes) e in
    let number = test_among (λ h. is_named_by n (w.strong lane.0 h)) (range_with_len 0 z.strong) lane.2 in
    (lane.0, number.0, named_some n (w.strong lane.0 number.0) number.2)

strong_named : (z : Sizes) (w : World) (n : Name) (lane number : ℕ) → IsCalm z w → w.strong lane number ≡ Some n → is_named z (scene_of w) n ≡ true
strong_named z w n lane number calm e =
    let out : (z.lanes ≤ lane) ⊎ (z.strong ≤ number) → ⊥ = λ high. none_some (w.strong lane number) n (calm.pointers lane number high) e in
    among_test (λ lane. list_any (λ h. is_named_by n (w.strong lane h)) (range_with_len 0 z.strong)) (range_with_len 0 z.lanes) lane
    (range_among 0 z.lanes lane (omega arith) (dite (dec_le z.lanes lane) (λ high. absurd (out (inl high))) (λ low. omega (arith, lt_of_not-le low))))
    (among_test (λ h. is_named_by n (w.strong lane h)) (range_with_len 0 z.strong) number
    (range_among 0 z.strong number (omega arith) (dite (dec_le z.strong number) (λ high. absurd (out (inr high))) (λ low. omega (arith, lt_of_not-le low))))
    (some_named n (w.strong lane number) e))

-- a root unit is one with a member that is rooted or that a strong pointer names
roots_told : (z : Sizes) (w : World) → IsCalm z w → TellsRoots (graph w) (is_root z (scene_of w))
roots_told z w calm = record {
  sound = λ u h. let found = test_among member u h in (found.0, among_has u found.0 found.1, is found.0 (or_true (w.rooted found.0) (is_named z (scene_of w) found.0) found.2));
  whole = λ u root. told u root;
}
  where
    member : Name → Bool
    member n = w.rooted n || is_named z (scene_of w) n

    is : (n : Name) → (w.rooted n ≡ true) ⊎ (is_named z (scene_of w) n ≡ true) → IsRoot (graph w) n
    is n (inl rooted) = inl rooted
    is n (inr named) = inr (named_strong z w n named)

    told : (u : List Name) → IsRootUnit (graph w) u → is_root z (scene_of w) u ≡ true
    told u (n, own, inl rooted) = among_test member u n (has_among u n own) (rw rooted refl)
    told u (n, own, inr (lane, number, e)) =
        among_test member u n (has_among u n own) (or_right (w.rooted n) (is_named z (scene_of w) n) (strong_named z w n lane number calm e))

-- what is reached is seen in the scene, and what is seen is reached
reached_seen : (z : Sizes) (w : World) → IsCalm z w → (u : List Name) → IsReached (graph w) u → is_reached z (scene_of w) u ≡ true
reached_seen z w calm u h = reached_told z.slots (is_root z (scene_of w)) (graph w) u calm.cells (roots_told z w calm) h

seen_reached : (z : Sizes) (w : World) → IsCalm z w → (u : List Name) → IsUnit (graph w) u → is_reached z (scene_of w) u ≡ true → IsReached (graph w) u
seen_reached z w calm u unit h = told_reached z.slots (is_root z (scene_of w)) (graph w) u (roots_told z w calm) unit h

-- two tests of which each follows from the other
pub same_test : (a b : Bool) → (a ≡ true → b ≡ true) → (b ≡ true → a ≡ true) → a ≡ b
same_test true b f g = sym (f refl)
same_test false b f g = sym (false_from_ne_true b (λ e. both_ways false refl (g e)))

-- where the units that pass a test are the reached ones, the test says which are reached
passes_reached : (z : Sizes) (w new : World) (test : List Name → Bool) → IsCalm z w → new.units ≡ filter test w.units → KeepsReached (graph w) (graph new)
    → (u : List Name) → Among w.units u → test u ≡ is_reached z (scene_of w) u
passes_reached z w new test calm are keeps u among = same_test (test u) (is_reached z (scene_of w) u) reached passes
  where
    reached : test u ≡ true → is_reached z (scene_of w) u ≡ true
    reached e =
        let kept : Among new.units u = subst (λ (units : List (List Name)). Among units u) (sym are) (filter_among test w.units u among e) in
        reached_seen z w calm u ((keeps u).0 (among_contains new.units u kept))

    passes : is_reached z (scene_of w) u ≡ true → test u ≡ true
    passes e =
        let stays : IsUnit (graph new) u = (keeps u).1 (seen_reached z w calm u (among_contains w.units u among) e) in
        among_filter_test test w.units u (subst (λ (units : List (List Name)). Among units u) are (contains_among new.units u stays))

-- ---- a commit

filter_same : {A : Type 0} (p q : A → Bool) (xs : List A) → ((x : A) → Among xs x → p x ≡ q x) → filter p xs ≡ filter q xs
filter_same p q [] same = refl
filter_same p q (x ∷ xs) same =
    ap (λ (b : Bool). cond b (x ∷ filter p xs) (filter p xs)) (same x (inl refl))
    ∙ ap (λ (ys : List _). cond (q x) (x ∷ ys) ys) (filter_same p q xs (λ y h. same y (inr h)))

-- a commit that keeps the reached units leaves the scene that a collection leaves, and removes what is not reached
committed_scene : (z : Sizes) (m : Marks) (w : World) → IsCalm z w → KeepsReached (graph w) (graph (committed m w))
    → (scene_of (committed m w) ≡ collected z (scene_of w)) × (names_of (committed m w).removals ≡ unreached z (scene_of w))
committed_scene z m w calm keeps =
    let marks : (u : List Name) → Among w.units u → is_marked m u ≡ is_reached z (scene_of w) u = passes_reached z w (committed m w) (is_marked m) calm refl keeps in
    let stay : filter (is_marked m) w.units ≡ filter (is_reached z (scene_of w)) w.units = filter_same (is_marked m) (is_reached z (scene_of w)) w.units marks in
    let go : white_units m w ≡ filter (λ u. not (is_reached z (scene_of w) u)) w.units =
    filter_same (λ u. not (is_marked m u)) (λ u. not (is_reached z (scene_of w) u)) w.units (λ u h. ap not (marks u h)) in
    let gone : members (white_units m w) ≡ unreached z (scene_of w) = ap members go in (
      λ i.
          record {
            kinds = w.kinds;
            cell = w.cell;
            units = stay i;
            rooted = λ n. w.rooted n && not (has (gone i) n);
            strong = w.strong;
            paired = λ n. is_some (pair_of w n);
            drawn = λ lane. drawn w lane;
            opened = w.opened;
          },
      names_new (members (white_units m w)) ∙ gone,
    )

-- ---- sweeps

-- since this world sweeps have found different names of removed objects
record Finds (w now : World) : Type 0 where
  world : now ≡ record w { found = now.found; swept = now.swept }
  different : all_different now.found ≡ true
  removed : (n : Name) → has now.found n ≡ true → has (names_of w.removals) n ≡ true

-- they have found all, and no collection runs
record HasFound (w now : World) : Type 0 where
  world : now ≡ record w { found = now.found; swept = now.swept; phase = Idle }
  different : all_different now.found ≡ true
  same : (n : Name) → has now.found n ≡ has (names_of w.removals) n

-- what passes of all names passes of one of them
all_has : (test : Name → Bool) (names : List Name) (n : Name) → list_all test names ≡ true → has names n ≡ true → test n ≡ true
all_has test [] n all h = absurd cc
all_has test (m ∷ names) n all h =
    let both = and_true (test m) (list_all test names) all in
    go both.0 (all_has test names n both.1) (or_true (same_name n m) (has names n) h)
  where
    go : test m ≡ true → (has names n ≡ true → test n ≡ true) → (same_name n m ≡ true) ⊎ (has names n ≡ true) → test n ≡ true
    go first rest (inl e) = subst (λ (x : Name). test x ≡ true) (sym (same_name_true n m e)) first
    go first rest (inr e) = rest e

-- of the removals it passes of their names
all_names : (test : Name → Bool) (removals : List Removal) → list_all (λ r. test r.name) removals ≡ list_all test (names_of removals)
all_names test [] = refl
all_names test (r ∷ removals) = ap (λ (b : Bool). test r.name && b) (all_names test removals)

-- what a sweep finds is new, and removed
finds_more : (w : World) (s : State) (budget : ℕ) (r : Swept) (names : List Name) → Finds w s.world → Sweeps s budget r names
    → (all_different (s.world.found ++ names) ≡ true) × ((n : Name) → has (s.world.found ++ names) n ≡ true → has (names_of w.removals) n ≡ true)
finds_more w s budget r names h may = (
  different_append s.world.found names h.different may.different new,
  λ n e. removed n (or_true (has s.world.found n) (has names n) (sym (has_append s.world.found names n) ∙ e)),
)
  where
    new : NoneShared s.world.found names
    new n old = false_from_ne_true (has names n)
        (λ e. both_ways (has s.world.found n) (not-true (has s.world.found n) (all_has (λ m. not (has s.world.found m)) names n may.new e)) old)

    removed : (n : Name) → (has s.world.found n ≡ true) ⊎ (has names n ≡ true) → has (names_of w.removals) n ≡ true
    removed n (inl e) = h.removed n e
    removed n (inr e) =
        removed_name Removed w.removals n (subst (λ (v : World). is_at v Removed n ≡ true) h.world (all_has (is_at s.world Removed) names n may.removed e))

-- the world after a sweep
swept_world : (w : World) (s : State) (r : Swept) (names : List Name) (stop : SweepStop) → Finds w s.world → r.stop ≡ stop
    → with_found s.world r names ≡ record w { found = s.world.found ++ names; swept = s.world.swept + r.looked; phase = settled w.phase stop }
swept_world w s r names stop h is =
    ap (λ (v : World). with_found v r names) h.world
    ∙ ap (λ (why : SweepStop). record w { found = s.world.found ++ names; swept = s.world.swept + r.looked; phase = settled w.phase why }) is

finds_on : (z : Sizes) (w : World) (s : State) (budget : ℕ) (acts : List Act) → Finds w s.world → LegalFrom z s (by Collector acts) → SweepsMore budget acts
    → Finds w (run s (by Collector acts)).world
finds_on z w s budget [] h legal more = h
finds_on z w s budget (act.Sweep b r names ∷ rest) h legal more =
    let may : SweepMay z s b r names sweep.More = subst (SweepMay z s b r names) more.1 legal.0.may in
    let found = finds_more w s b r names h may.0 in
    let one : Finds w (with_found s.world r names) = record { world = swept_world w s r names sweep.More h more.1; different = found.0; removed = found.1 } in
    finds_on z w (next s (record { pass = Collector; act = act.Sweep b r names })) budget rest one legal.1 more.3
finds_on z w s budget (a ∷ rest) h legal more = absurd more

finds_last : (z : Sizes) (w : World) (s : State) (budget : ℕ) (r : Swept) (names : List Name)
    → Finds w s.world → LegalFrom z s (by Collector (act.Sweep budget r names ∷ [])) → r.stop ≡ sweep.Settled → HasFound w (with_found s.world r names)
finds_last z w s budget r names h legal is =
    let may : SweepMay z s budget r names sweep.Settled = subst (SweepMay z s budget r names) is legal.0.may in
    let found = finds_more w s budget r names h may.0 in
    let each : list_all (λ q. has (s.world.found ++ names) q.name) w.removals ≡ true =
    subst (λ (v : World). list_all (λ q. has (s.world.found ++ names) q.name) v.removals ≡ true) h.world may.2 in
    let all : list_all (has (s.world.found ++ names)) (names_of w.removals) ≡ true = sym (all_names (has (s.world.found ++ names)) w.removals) ∙ each in
    record {
      world = swept_world w s r names sweep.Settled h is;
      different = found.0;
      same = λ n. same_test _ _ (found.1 n) (all_has (has (s.world.found ++ names)) (names_of w.removals) n all);
    }

finds_all : (z : Sizes) (w : World) (s : State) (budget : ℕ) (sweeps : List Act)
    → Finds w s.world → LegalFrom z s (by Collector sweeps) → SweepsAll budget sweeps → HasFound w (run s (by Collector sweeps)).world
finds_all z w s budget sweeps h legal all =
    let first : List Entry = by Collector all.more in
    let last : List Act = act.Sweep budget all.last all.late ∷ [] in
    let entries : by Collector sweeps ≡ first ++ by Collector last = ap (by Collector) all.are ∙ by-append Collector all.more last in
    let parts = legal_split z s first (by Collector last) (subst (LegalFrom z s) entries legal) in
    let left : run s (by Collector sweeps) ≡ run (run s first) (by Collector last) = ap (run s) entries ∙ run-append s first (by Collector last) in
    subst (λ (t : State). HasFound w t.world) (sym left)
    (finds_last z w (run s first) budget all.last all.late (finds_on z w s budget all.more h parts.0 all.stopped) parts.1 all.settled)

-- ---- a whole collection

-- what a whole collection comes upon, finds and leaves
pub record HasCollected (z : Sizes) (w : World) (new : World) : Type 0 where
  pub closed : w.opened ≡ []
  pub gone : all_different (unreached z (scene_of w)) ≡ true
  pub found : all_different new.found ≡ true
  pub same : (n : Name) → has new.found n ≡ has (unreached z (scene_of w)) n
  pub scene : scene_of new ≡ collected z (scene_of w)
  pub calm : IsCalm z new
  -- it leaves the plain cells and the pairs
  pub plain : new.plain ≡ w.plain
  pub pairs : new.pairs ≡ w.pairs

module _ (z : Sizes) (budget : ℕ) (header : Header) (old piece : List Entry) (before : Legal z old) (calm : IsCalm z (after old)) (table : InTable header (after old))
    (whole : LegalFrom z (state_of old) piece) (h : Collected budget header (state_of old) piece) where
  abbrev s : State
  s = state_of old

  abbrev w : World
  w = s.world

  abbrev begins : List Entry
  begins = by Collector h.begins

  abbrev notes : List Entry
  notes = by Collector (map act.Kept h.begun.0.of)

  abbrev marks : List Entry
  marks = flat_map by_marker h.slices

  -- the entries before the commit, and those with it
  abbrev front : List Entry
  front = begins ++ marks

  abbrev half : List Entry
  half = front ++ done ∷ []

  abbrev to_commit : State
  to_commit = run s front

  front_is : front ≡ started ∷ (notes ++ marks)
  front_is = ap (λ (acts : List Act). by Collector acts ++ marks) h.begun.0.are

  -- the entries of the purges
  abbrev ends : List Entry
  ends = flat_map (by Collector) h.purges

  legal_parts : LegalFrom z s h.front × LegalFrom z (run s h.front) ends
  legal_parts = legal_split z s h.front ends (subst (LegalFrom z s) h.are whole)

  legal_half : LegalFrom z s half × LegalFrom z (run s half) (by Collector h.sweeps)
  legal_half = legal_split z s half (by Collector h.sweeps) (subst (LegalFrom z s) h.found legal_parts.0)

  legal_front : LegalFrom z s front × LegalFrom z to_commit (done ∷ [])
  legal_front = legal_split z s front (done ∷ []) legal_half.0

  start_may : IsIdle s × (w.opened ≡ [])
  start_may = (subst (LegalFrom z s) front_is legal_front.0).0.may

  -- until the commit only the phase changes
  committing : to_commit.world ≡ record w { phase = Marking }
  committing =
      let marking : State = run (next s started) (notes ++ marks) in
      let same : to_commit ≡ marking = ap (run s) front_is in
      let leaves = marks_leave (next s started) (notes ++ marks) (all_append notes marks (keeps_mark h.begun.0.of) (slices_mark _ budget h.slices h.marked.idle)) in
      let closed : marking.world.opened ≡ w.opened = ap (λ (t : State). t.world.opened) (sym same) ∙ legal_front.1.0.may.closed ∙ sym start_may.1 in
      ap (λ (t : State). t.world) same ∙ leaves ∙ ap (λ (opened : List Pass). record w { phase = Marking; opened = opened }) closed

  -- the world after the commit
  abbrev kept : World
  kept = committed to_commit.marks w

  half_world : (run s half).world ≡ kept
  half_world = ap (λ (t : State). t.world) (run-append s front (done ∷ [])) ∙ ap (committed to_commit.marks) committing

  keeps_reached : KeepsReached (graph w) (graph kept)
  keeps_reached =
      let world : after (old ++ half) ≡ kept = ap (λ (t : State). t.world) (run-append _ old half) ∙ half_world in
      let grown : old ++ half ≡ (old ++ begins) ++ (marks ++ done ∷ []) =
      ap (λ (xs : List Entry). old ++ xs) (append_assoc begins marks (done ∷ [])) ∙ sym (append_assoc old begins (marks ++ done ∷ [])) in
      let joined : Legal z (old ++ half) = legal_join z _ old half before legal_half.0 in
      subst (λ (v : World). KeepsReached (graph w) (graph v)) world
      (collect_is_exact_holds z old (old ++ half) budget
      (record { begins = h.begins; slices = h.slices; begun = h.begun; marked = h.marked.idle; grown = grown; legal = joined }))

  kept_scene : (scene_of kept ≡ collected z (scene_of w)) × (names_of kept.removals ≡ unreached z (scene_of w))
  kept_scene = committed_scene z to_commit.marks w calm keeps_reached

  -- the state after the sweeps
  abbrev swept : State
  swept = run s h.front

  has_found : HasFound kept swept.world
  has_found =
      let left : swept ≡ run (run s half) (by Collector h.sweeps) = ap (run s) h.found ∙ run-append s half (by Collector h.sweeps) in
      let none : Finds kept (run s half).world = subst (Finds kept) (sym half_world) (record { world = refl; different = refl; removed = λ n e. absurd cc }) in
      subst (λ (t : State). HasFound kept t.world) (sym left) (finds_all z kept (run s half) budget h.sweeps none legal_half.1 h.swept)

  none_agreed : swept.collector.agreed ≡ None
  none_agreed =
      let more : List Entry = by Collector h.swept.more in
      let last : List Act = act.Sweep budget h.swept.last h.swept.late ∷ [] in
      let entries : h.front ≡ half ++ (more ++ by Collector last) = h.found ∙ ap (λ (es : List Entry). half ++ es) (ap (by Collector) h.swept.are ∙ by-append Collector h.swept.more last) in
      ap (λ (es : List Entry). (run s es).collector.agreed) entries
      ∙ ap (λ (t : State). t.collector.agreed) (run-append s half (more ++ by Collector last) ∙ run-append (run s half) more (by Collector last))

  gone_different : all_different (unreached z (scene_of w)) ≡ true
  gone_different = some_units _ w.units (members_different z old before)

  -- the removed objects are those that no root reaches
  names_gone : names_of swept.world.removals ≡ unreached z (scene_of w)
  names_gone = ap (λ (v : World). names_of v.removals) has_found.world ∙ kept_scene.1

  found_same : (n : Name) → has swept.world.found n ≡ has (unreached z (scene_of w)) n
  found_same n = has_found.same n ∙ ap (λ (names : List Name). has names n) kept_scene.1

  -- and their number is that of the found ones
  few : weight swept.world.removals ≤ 103 * length swept.world.found
  few =
      let count : length swept.world.found ≡ length (unreached z (scene_of w)) = (same_order swept.world.found (unreached z (scene_of w)) has_found.different gone_different found_same).1 in
      let names : length swept.world.removals ≡ length (unreached z (scene_of w)) = sym (length-map swept.world.removals (λ (r : Removal). r.name)) ∙ ap length names_gone in
      omega (arith, weight_most swept.world.removals, count, names)

  -- the purges leave nothing of them
  ended : (run s piece).world ≡ record swept.world { removals = [] }
  ended =
      ap (λ (t : State). t.world) (ap (run s) h.are ∙ run-append s h.front ends)
      ∙ purges_end z budget header (103 * length swept.world.found) swept h.purges h.purged legal_parts.1
      (record { known = λ n. subst (λ (v : World). (class_of v n).0 < length header.classes.classes) (sym has_found.world) (table.known n); at_once = table.at_once })
      (record { different = ap all_different names_gone ∙ gone_different; agreed = λ n e. absurd (none_some swept.collector.agreed n none_agreed e) })
      none_agreed (ap (λ (v : World). v.phase) has_found.world) few

  pub has_collected : HasCollected z w (run s piece).world
  has_collected = record {
    closed = start_may.1;
    gone = gone_different;
    found = ap (λ (v : World). all_different v.found) ended ∙ has_found.different;
    same = λ n. ap (λ (v : World). has v.found n) ended ∙ found_same n;
    scene = ap scene_of ended ∙ ap scene_of has_found.world ∙ kept_scene.0;
    plain = ap (λ (v : World). v.plain) ended ∙ ap (λ (v : World). v.plain) has_found.world;
    pairs = ap (λ (v : World). v.pairs) ended ∙ ap (λ (v : World). v.pairs) has_found.world;
    calm =
        subst (IsCalm z) (sym (ended ∙ ap (λ (v : World). record v { removals = [] }) has_found.world))
        (record { idle = refl; released = refl; cells = calm.cells; pointers = calm.pointers; fits = calm.fits; valid = calm.valid; small = calm.small });
  }
