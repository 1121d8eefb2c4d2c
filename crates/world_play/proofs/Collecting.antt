-- Slices and sweeps, one more at a time.
use Rattle.std.proofs.Common.{min, ◌≡◌, ◌≢◌, ℕ, ◌+◌, ◌-◌, ◌*◌, ◌<◌, ◌≤◌, List, [], ◌∷◌, ◌++◌, append_assoc, append-nil, flat_map, length, length-append, refl, sym, ap, ◌∙◌, subst, arith, ◌⊎◌, inl, inr}
use Rattle.std.specs.Prelude.{Result, Ok, Err, IfOk, OnErr}
use Rattle.std.proofs.lemmas.Grind.{flat_map-append}
use Rattle.world_model.specs.Sizes.{Sizes, item_count}
use Rattle.world_model.specs.State.{State, beginning, grey_units}
use Rattle.world_model.specs.Next.{next, run, settled}
use Rattle.world_model.specs.MarkerSteps.{MayStop}
use Rattle.world_model.specs.CollectorSteps.{SweepMay}
use Rattle.world_model.specs.Histories.{Legal, LegalFrom, state_of, after}
use Rattle.world_model.specs.Calls.{by, CallOf, Slice, by_marker, SlicesUntilIdle, Appends}
use Rattle.world_model.proofs.Joins.{run-append, by-append, legal_split}
use Rattle.world_model.proofs.Solo.{state_after, state_after_one, legal_call}
use Rattle.world_model.proofs.Progress.{left_to_scan, slice_progress, slice_world, idle_black, commit_done, started_world}
use Rattle.world_model.specs.Engines.{Holdings, KeepsHeld}
use Rattle.std.specs.List.{AllByRecursion}
use Rattle.world_play.specs.Header.{Header}
use Rattle.world_play.specs.Types.{Name, Gathering, Marker, Collector, Begin, Commit, Marked, MarkStop, Swept, SweepStop, Act, Entry, Reply}
use Rattle.world_play.specs.Types.begin
use Rattle.world_play.specs.Types.commit
use Rattle.world_play.specs.Types.gc_cmd
use Rattle.world_play.specs.Types.act
use Rattle.world_play.specs.Types.stop
use Rattle.world_play.specs.Types.sweep
use Rattle.world_play.specs.Collections.{AreOfFirst, MarksUntilIdle, SlicesSpent, SweepsMore, PurgesAll, RefusesBegin, told_full}
use Rattle.class_schema.specs.Class.{Class}
use Rattle.world_play.specs.Text.{HasText}
use Rattle.world_play.proofs.KeptKinds.{IsNoLane, kinds_kept, by_no_lane, no_lane_append, slices_no_lane, marks_no_lane}
use Rattle.world_play.specs.Stages.{IsMarking, Marks, MarksOn, IsGathering, Finds, FindsOn, FindsSome, GoesOn, GoesOnSome, Collects, CollectsSome}

-- ---- slices

-- a reply by its two parts
marked_is : (reply : Marked) (why : MarkStop) → reply.stop ≡ why → reply ≡ record { scanned = reply.scanned; stop = why }
marked_is reply why e = λ i. record { scanned = reply.scanned; stop = e i }

spent_more : (s : State) (budget : ℕ) (slices : List Slice) (reply : Marked) (acts : List Act) → SlicesSpent s budget slices
    → CallOf (run s (flat_map by_marker slices)) (Marker 0) (act.Slice budget reply) acts → reply.stop ≡ stop.Spent
    → SlicesSpent s budget (slices ++ record { marker = 0; acts = acts } ∷ [])
spent_more s budget [] reply acts h one spent = (refl, (reply.scanned, subst (λ (r : Marked). CallOf s (Marker 0) (act.Slice budget r) acts) (marked_is reply stop.Spent spent) one, tt))
spent_more s budget (first ∷ rest) reply acts h one spent = (
  h.0,
  (
    h.1.0,
    h.1.1,
    spent_more (run s (by_marker first)) budget rest reply acts h.1.2
        (subst (λ (t : State). CallOf t (Marker 0) (act.Slice budget reply) acts) (run-append s (by_marker first) (flat_map by_marker rest)) one)
        spent,
  ),
)

spent_idle : (s : State) (budget : ℕ) (slices : List Slice) (reply : Marked) (acts : List Act) → SlicesSpent s budget slices
    → CallOf (run s (flat_map by_marker slices)) (Marker 0) (act.Slice budget reply) acts → reply.stop ≡ stop.Idle
    → SlicesUntilIdle s budget (slices ++ record { marker = 0; acts = acts } ∷ [])
spent_idle s budget [] reply acts h one idle = (reply.scanned, subst (λ (r : Marked). CallOf s (Marker 0) (act.Slice budget r) acts) (marked_is reply stop.Idle idle) one)
spent_idle s budget (first ∷ []) reply acts h one idle = (
  h.1.0,
  h.1.1,
  spent_idle (run s (by_marker first)) budget [] reply acts h.1.2
      (subst (λ (t : State). CallOf t (Marker 0) (act.Slice budget reply) acts) (run-append s (by_marker first) []) one) idle,
)
spent_idle s budget (first ∷ second ∷ rest) reply acts h one idle = (
  h.1.0,
  h.1.1,
  spent_idle (run s (by_marker first)) budget (second ∷ rest) reply acts h.1.2
      (subst (λ (t : State). CallOf t (Marker 0) (act.Slice budget reply) acts)
      (run-append s (by_marker first) (flat_map by_marker (second ∷ rest))) one) idle,
)

-- with one more they are all of marker 0
spent_own : (s : State) (budget : ℕ) (slices : List Slice) (acts : List Act) → SlicesSpent s budget slices → AreOfFirst (slices ++ record { marker = 0; acts = acts } ∷ [])
spent_own s budget [] acts h = (refl, tt)
spent_own s budget (first ∷ rest) acts h = (h.0, spent_own (run s (by_marker first)) budget rest acts h.1.2)

-- the history with one more slice
grown_more : (old mid new : List Entry) (slices : List Slice) (acts : List Act) → mid ≡ old ++ flat_map by_marker slices
    → new ≡ mid ++ by (Marker 0) acts → new ≡ old ++ flat_map by_marker (slices ++ record { marker = 0; acts = acts } ∷ [])
grown_more old mid new slices acts before grown =
    grown ∙ ap (λ (h : List Entry). h ++ by (Marker 0) acts) before ∙ append_assoc old (flat_map by_marker slices) (by (Marker 0) acts)
    ∙ ap (λ (es : List Entry). old ++ (flat_map by_marker slices ++ es)) (sym (append-nil (by (Marker 0) acts)))
    ∙ ap (λ (es : List Entry). old ++ es) (sym (flat_map-append by_marker slices (record { marker = 0; acts = acts } ∷ [])))

-- the state in which the next slice begins
so_far : (old mid : List Entry) (slices : List Slice) → mid ≡ old ++ flat_map by_marker slices → state_of mid ≡ run (state_of old) (flat_map by_marker slices)
so_far old mid slices grown = ap state_of grown ∙ run-append beginning old (flat_map by_marker slices)

still_marking : (z : Sizes) (mid new : List Entry) (budget : ℕ) (reply : Marked) → IsMarking z mid → Appends z mid new (Marker 0) (act.Slice budget reply) → IsMarking z new
still_marking z mid new budget reply now h =
    let world = slice_world z mid new 0 budget reply h in
    record {
      legal = h.legal;
      marking = world.0 ∙ now.marking;
      closed = world.1 now.closed;
    }

-- a slice that spent its budget
pub marks_more : (z : Sizes) (old mid new : List Entry) (budget : ℕ) (reply : Marked) → MarksOn z old mid budget
    → Appends z mid new (Marker 0) (act.Slice budget reply) → reply.stop ≡ stop.Spent → MarksOn z old new budget
marks_more z old mid new budget reply on h spent = record {
  slices = on.slices ++ record { marker = 0; acts = h.acts } ∷ [];
  marked =
      spent_more (state_of old) budget on.slices reply h.acts on.marked
      (subst (λ (t : State). CallOf t (Marker 0) (act.Slice budget reply) h.acts) (so_far old mid on.slices on.grown) h.call) spent;
  grown = grown_more old mid new on.slices h.acts on.grown h.grown;
  now = still_marking z mid new budget reply on.now h;
}

-- a slice that was idle
pub marks_all : (z : Sizes) (old mid new : List Entry) (budget : ℕ) (reply : Marked) → MarksOn z old mid budget
    → Appends z mid new (Marker 0) (act.Slice budget reply) → reply.stop ≡ stop.Idle → Marks z old new budget
marks_all z old mid new budget reply on h idle = record {
  slices = on.slices ++ record { marker = 0; acts = h.acts } ∷ [];
  marked = record {
    idle =
        spent_idle (state_of old) budget on.slices reply h.acts on.marked
        (subst (λ (t : State). CallOf t (Marker 0) (act.Slice budget reply) h.acts) (so_far old mid on.slices on.grown) h.call) idle;
    own = spent_own (state_of old) budget on.slices h.acts on.marked;
  };
  grown = grown_more old mid new on.slices h.acts on.grown h.grown;
  now = still_marking z mid new budget reply on.now h;
  black = idle_black z mid new 0 budget reply h idle;
}

-- a slice that spent its budget scanned as many objects
spent_scanned : (z : Sizes) (mid new : List Entry) (budget : ℕ) (reply : Marked) → Appends z mid new (Marker 0) (act.Slice budget reply) → reply.stop ≡ stop.Spent → budget ≤ reply.scanned
spent_scanned z mid new budget reply h spent =
    let opening : List Act = act.SliceOpen ∷ h.call.0.notes in
    let closing : Entry = record { pass = Marker 0; act = act.Slice budget reply } in
    let entries : by (Marker 0) h.acts ≡ by (Marker 0) opening ++ closing ∷ [] = ap (by (Marker 0)) h.call.0.are ∙ by-append (Marker 0) opening (act.Slice budget reply ∷ []) in
    let parts = legal_split z (state_of mid) (by (Marker 0) opening) (closing ∷ []) (subst (LegalFrom z (state_of mid)) entries (legal_call z mid new (Marker 0) (act.Slice budget reply) h)) in
    subst (λ (why : MarkStop). MayStop (run (state_of mid) (by (Marker 0) opening)) 0 budget reply why) spent parts.1.0.may.stop

-- and leaves less to scan
pub marks_less : (z : Sizes) (mid new : List Entry) (budget : ℕ) (reply : Marked) → Appends z mid new (Marker 0) (act.Slice budget reply)
    → reply.stop ≡ stop.Spent → 1 ≤ budget → left_to_scan (state_of new) < left_to_scan (state_of mid)
marks_less z mid new budget reply h spent some =
    let scanned = spent_scanned z mid new budget reply h spent in
    subst (λ (t : State). left_to_scan t < left_to_scan (state_of mid)) (sym (state_after z mid new (Marker 0) (act.Slice budget reply) h))
    (slice_progress z (state_of mid) 0 budget reply h.acts h.call.0 (legal_call z mid new (Marker 0) (act.Slice budget reply) h) (omega (arith, scanned)))

-- ---- sweeps

found_more : (budget : ℕ) (more : List Act) (names : List Name) (r : Swept) → SweepsMore budget more → r.stop ≡ sweep.More → r.looked ≡ budget
    → SweepsMore budget (more ++ act.Sweep budget r names ∷ [])
found_more budget [] names r h stopped looked = (refl, stopped, looked, tt)
found_more budget (act.Sweep b q first ∷ more) names r h stopped looked = (h.0, h.1, h.2, found_more budget more names r h.3 stopped looked)
found_more budget (a ∷ more) names r h stopped looked = absurd h

-- the history with one more sweep
swept_more : (old mid new : List Entry) (sweeps : List Act) (a : Act) (acts : List Act) → mid ≡ old ++ by Collector sweeps → acts ≡ a ∷ []
    → new ≡ mid ++ by Collector acts → new ≡ old ++ by Collector (sweeps ++ a ∷ [])
swept_more old mid new sweeps a acts before one grown =
    grown ∙ ap (λ (h : List Entry). h ++ by Collector acts) before ∙ ap (λ (xs : List Act). (old ++ by Collector sweeps) ++ by Collector xs) one
    ∙ append_assoc old (by Collector sweeps) (by Collector (a ∷ [])) ∙ ap (λ (es : List Entry). old ++ es) (sym (by-append Collector sweeps (a ∷ [])))

-- what is known of a sweep while a collection gathers
sweep_may : (z : Sizes) (mid new : List Entry) (budget : ℕ) (reply : Swept) (names : List Name)
    → Appends z mid new Collector (act.Sweep budget reply names) → SweepMay z (state_of mid) budget reply names reply.stop
sweep_may z mid new budget reply names h = (subst (LegalFrom z (state_of mid)) (ap (by Collector) h.call.0) (legal_call z mid new Collector (act.Sweep budget reply names) h)).0.may

-- why it stopped, and what it leaves
swept_world : (z : Sizes) (mid new : List Entry) (budget : ℕ) (reply : Swept) (names : List Name) → Appends z mid new Collector (act.Sweep budget reply names) → reply.stop ≡ sweep.More
    → ((after new).phase ≡ (after mid).phase) × ((after new).swept ≡ (after mid).swept + reply.looked)
    × ((after mid).swept + reply.looked < item_count z) × (reply.found ≡ length names) × (length names ≤ reply.looked) × (reply.looked ≤ budget)
    × ((after new).opened ≡ (after mid).opened)
swept_world z mid new budget reply names h more =
    let left = state_after_one z mid new Collector (act.Sweep budget reply names) h h.call.0 in
    let may = subst (SweepMay z (state_of mid) budget reply names) more (sweep_may z mid new budget reply names h) in (
      ap (λ (s : State). s.world.phase) left ∙ ap (λ (why : SweepStop). settled (after mid).phase why) more,
      ap (λ (s : State). s.world.swept) left,
      may.1,
      may.0.count,
      may.0.looked,
      may.0.within,
      ap (λ (s : State). s.world.opened) left,
    )

-- the names that a sweep found are found after those before it
swept_names : (z : Sizes) (old mid new : List Entry) (budget : ℕ) (reply : Swept) (found names : List Name)
    → (after mid).found ≡ (after old).found ++ found → Appends z mid new Collector (act.Sweep budget reply names)
    → (after new).found ≡ (after old).found ++ (found ++ names)
swept_names z old mid new budget reply found names was h =
    ap (λ (s : State). s.world.found) (state_after_one z mid new Collector (act.Sweep budget reply names) h h.call.0)
    ∙ ap (λ (xs : List Name). xs ++ names) was ∙ append_assoc (after old).found found names

-- a sweep that stopped for its budget, or because there was no more room than that, or than for all items
pub finds_more : (z : Sizes) (old mid new : List Entry) (budget : ℕ) (reply : Swept) (found names : List Name) → FindsOn z old mid budget found
    → Appends z mid new Collector (act.Sweep budget reply names) → reply.stop ≡ sweep.More
    → ((reply.looked ≡ budget) ⊎ (reply.found ≡ min budget (item_count z))) → FindsOn z old new budget (found ++ names)
finds_more z old mid new budget reply found names on h more why =
    let world = swept_world z mid new budget reply names h more in
    let looked : reply.looked ≡ budget = whole world.2 world.3 world.4 world.5 why in
    record {
      sweeps = on.sweeps ++ act.Sweep budget reply names ∷ [];
      swept = found_more budget on.sweeps names reply on.swept more looked;
      grown = swept_more old mid new on.sweeps (act.Sweep budget reply names) h.acts on.grown h.call.0 h.grown;
      names = swept_names z old mid new budget reply found names on.names h;
      few = rw world.1 (omega (arith, on.few, world.4, length-append found names));
      opened = world.6 ∙ on.opened;
      now = record { legal = h.legal; gathering = world.0 ∙ on.now.gathering };
    }
  where
    whole : (after mid).swept + reply.looked < item_count z → reply.found ≡ length names → length names ≤ reply.looked → reply.looked ≤ budget
        → ((reply.looked ≡ budget) ⊎ (reply.found ≡ min budget (item_count z))) → reply.looked ≡ budget
    whole few a b c (inl e) = e
    whole few a b c (inr e) = omega (arith, few, a, b, c, e)

-- and leaves fewer items to look at
pub finds_less : (z : Sizes) (mid new : List Entry) (budget : ℕ) (reply : Swept) (names : List Name) → Appends z mid new Collector (act.Sweep budget reply names) → reply.stop ≡ sweep.More
    → ((reply.looked ≡ budget) ⊎ (reply.found ≡ min budget (item_count z))) → 1 ≤ budget → item_count z - (after new).swept < item_count z - (after mid).swept
finds_less z mid new budget reply names h more why some =
    let world = swept_world z mid new budget reply names h more in
    let looked : 1 ≤ reply.looked = whole world.2 world.3 world.4 why in
    rw world.1 (omega (arith, looked, world.2))
  where
    whole : (after mid).swept + reply.looked < item_count z → reply.found ≡ length names → length names ≤ reply.looked
        → ((reply.looked ≡ budget) ⊎ (reply.found ≡ min budget (item_count z))) → 1 ≤ reply.looked
    whole few a b (inl e) = omega arith
    whole few a b (inr e) = omega (arith, few, a, b, e)

-- while a collection gathers a sweep that does not stop for its budget has settled
has_settled : (z : Sizes) (s : State) (budget : ℕ) (reply : Swept) (names : List Name) (why : SweepStop) → s.world.phase ≡ Gathering
    → SweepMay z s budget reply names why → why ≢ sweep.More → why ≡ sweep.Settled
has_settled z s budget reply names sweep.More gathering may other = absurd (other refl)
has_settled z s budget reply names sweep.Settled gathering may other = refl
has_settled z s budget reply names (sweep.NotGathering phase) gathering may other = absurd (may.1 (may.0 ∙ gathering))

pub finds_all : (z : Sizes) (old mid new : List Entry) (budget : ℕ) (reply : Swept) (found names : List Name) → FindsOn z old mid budget found
    → Appends z mid new Collector (act.Sweep budget reply names) → reply.stop ≢ sweep.More → Finds z old new budget (found ++ names)
finds_all z old mid new budget reply found names on h other =
    let settled_now : reply.stop ≡ sweep.Settled = has_settled z (state_of mid) budget reply names reply.stop on.now.gathering (sweep_may z mid new budget reply names h) other in
    let may = subst (SweepMay z (state_of mid) budget reply names) settled_now (sweep_may z mid new budget reply names h) in
    record {
      sweeps = on.sweeps ++ act.Sweep budget reply names ∷ [];
      swept = record { more = on.sweeps; last = reply; late = names; stopped = on.swept; settled = settled_now; are = refl };
      grown = swept_more old mid new on.sweeps (act.Sweep budget reply names) h.acts on.grown h.call.0 h.grown;
      names = swept_names z old mid new budget reply found names on.names h;
      few = omega (arith, on.few, may.0.looked, may.1, length-append found names);
      opened = ap (λ (s : State). s.world.opened) (state_after_one z mid new Collector (act.Sweep budget reply names) h h.call.0) ∙ on.opened;
      now = record {
        legal = h.legal;
        idle = ap (λ (s : State). s.world.phase) (state_after_one z mid new Collector (act.Sweep budget reply names) h h.call.0) ∙ ap (λ (why : SweepStop). settled (after mid).phase why) settled_now;
      };
    }

-- after one more sweep some sweeps were made, or all
pub finds_some : (z : Sizes) (old mid new : List Entry) (budget : ℕ) (reply : Swept) (found names : List Name) → FindsOn z old mid budget found
    → Appends z mid new Collector (act.Sweep budget reply names)
    → (reply.stop ≡ sweep.More → (reply.looked ≡ budget) ⊎ (reply.found ≡ min budget (item_count z))) → FindsSome z old new budget
finds_some z old mid new budget reply found names on h why = go reply.stop refl
  where
    all : reply.stop ≢ sweep.More → FindsSome z old new budget
    all other = let f = finds_all z old mid new budget reply found names on h other in record { sweeps = f.sweeps; swept = inr f.swept; grown = f.grown; legal = h.legal }

    go : (stop : SweepStop) → reply.stop ≡ stop → FindsSome z old new budget
    go sweep.More e = let f = finds_more z old mid new budget reply found names on h e (why e) in record { sweeps = f.sweeps; swept = inl f.swept; grown = f.grown; legal = h.legal }
    go sweep.Settled e = all (λ same. absurd cc)
    go (sweep.NotGathering phase) e = all (λ same. absurd cc)

-- no sweep was made yet
pub finds_none : (z : Sizes) (old : List Entry) (budget : ℕ) → Legal z old → FindsSome z old old budget
finds_none z old budget legal = record { sweeps = []; swept = inl tt; grown = sym (append-nil old); legal = legal }

-- ---- the stages together

-- where marking is at its end, a commit is done
pub committed_all : (z : Sizes) (mid new : List Entry) (reply : Commit) → Appends z mid new Collector (act.CommitGc reply) → IsMarking z mid → grey_units (state_of mid) ≡ []
    → IsGathering z new × ((after new).opened ≡ (after mid).opened) × (new ≡ mid ++ by Collector (act.CommitGc commit.Done ∷ [])) × ((after new).found ≡ [])
committed_all z mid new reply h now black =
    let may = (subst (LegalFrom z (state_of mid)) (ap (by Collector) h.call.0) (legal_call z mid new Collector (act.CommitGc reply) h)).0.may in
    let done : reply ≡ commit.Done = commit_done (state_of mid) reply h.call.1 may now.marking now.closed black in
    let one : h.acts ≡ act.CommitGc commit.Done ∷ [] = h.call.0 ∙ ap (λ (r : Commit). act.CommitGc r ∷ []) done in
    let left : state_of new ≡ next (state_of mid) (record { pass = Collector; act = act.CommitGc commit.Done }) =
    state_after z mid new Collector (act.CommitGc reply) h ∙ ap (λ (acts : List Act). run (state_of mid) (by Collector acts)) one in (
      record { legal = h.legal; gathering = ap (λ (s : State). s.world.phase) left },
      ap (λ (s : State). s.world.opened) left,
      h.grown ∙ ap (λ (acts : List Act). mid ++ by Collector acts) one,
      ap (λ (s : State). s.world.found) left,
    )

-- what there is of a collection where its sweeps were not made to their end
pub goes_on_some : (z : Sizes) (budget : ℕ) (old mid later new : List Entry) → Marks z old mid budget
    → later ≡ mid ++ by Collector (act.CommitGc commit.Done ∷ []) → FindsSome z later new budget → GoesOnSome z budget old new
goes_on_some z budget old mid later new marks committed finds = record {
  slices = marks.slices;
  sweeps = finds.sweeps;
  marked = marks.marked;
  swept = finds.swept;
  grown = finds.grown ∙ ap (λ (h : List Entry). h ++ by Collector finds.sweeps) (committed ∙ ap (λ (h : List Entry). h ++ by Collector (act.CommitGc commit.Done ∷ [])) marks.grown);
  legal = finds.legal;
}

-- a refusal opens and closes nothing
refused_opened : (z : Sizes) (old new : List Entry) (why : Begin) (r : Reply) → RefusesBegin why r → Appends z old new Collector (act.BeginGc why) → (after new).opened ≡ (after old).opened
refused_opened z old new begin.Started r tells h = absurd tells
refused_opened z old new (begin.Running phase) r tells h = ap (λ (s : State). s.world.opened) (state_after_one z old new Collector _ h h.call.0)
refused_opened z old new (begin.Purging left) r tells h = ap (λ (s : State). s.world.opened) (state_after_one z old new Collector _ h h.call.0)
refused_opened z old new (begin.Frames n) r tells h = ap (λ (s : State). s.world.opened) (state_after_one z old new Collector _ h h.call.0)

-- and tells no class
refused_told : (classes : List Class) (why : Begin) (r : Reply) → RefusesBegin why r → HasText classes r
refused_told classes begin.Started r tells = absurd tells
refused_told classes (begin.Running phase) r tells = subst (HasText classes) (sym tells) tt
refused_told classes (begin.Purging left) r tells = subst (HasText classes) (sym tells) tt
refused_told classes (begin.Frames n) r tells = subst (HasText classes) (sym tells) tt

-- where a collection starts nothing is open
pub start_closed : (z : Sizes) (old new : List Entry) → Appends z old new Collector (act.BeginGc begin.Started) → (after old).opened ≡ []
start_closed z old new h = (subst (LegalFrom z (state_of old)) (ap (by Collector) h.call.0.are) (legal_call z old new Collector (act.BeginGc begin.Started) h)).0.may.1

pub starts_marking : (z : Sizes) (old new : List Entry) → Appends z old new Collector (act.BeginGc begin.Started) → IsMarking z new
starts_marking z old new h =
    let world = started_world z old new h in
    record { legal = h.legal; marking = world.0; closed = world.1 }

-- the pieces of a whole collection in a row
pieces : (old mid new a b c : List Entry) (begins : List Entry) → mid ≡ old ++ begins → new ≡ ((mid ++ a) ++ b) ++ c → new ≡ old ++ (((begins ++ a) ++ b) ++ c)
pieces old mid new a b c begins begun grown =
    grown ∙ ap (λ (h : List Entry). ((h ++ a) ++ b) ++ c) begun
    ∙ ap (λ (h : List Entry). (h ++ b) ++ c) (append_assoc old begins a)
    ∙ ap (λ (h : List Entry). h ++ c) (append_assoc old (begins ++ a) b)
    ∙ append_assoc old ((begins ++ a) ++ b) c

-- what no lane did leaves the kinds
pub collected_kinds : (z : Sizes) (old new piece : List Entry) → new ≡ old ++ piece → Legal z new → AllByRecursion (λ (e : Entry). IsNoLane e.pass) piece → (after new).kinds ≡ (after old).kinds
collected_kinds z old new piece grown legal none =
    ap (λ (h : List Entry). (after h).kinds) grown
    ∙ ap (λ (s : State). s.world.kinds) (run-append beginning old piece)
    ∙ kinds_kept z (state_of old) piece none (legal_split z beginning old piece (subst (Legal z) grown legal)).1

pub collects_all : (z : Sizes) (budget : ℕ) (header : Header) (old mid new : List Entry) (before between now : Holdings) (r : Reply)
    → Appends z old mid Collector (act.BeginGc begin.Started) → KeepsHeld before between → GoesOn z budget header mid new between now r
    → Collects z budget header old new before now gc_cmd.Full r
collects_all z budget header old mid new before between now r h held on =
    let begins : List Entry = by Collector h.acts in
    let marks : List Entry = flat_map by_marker on.slices in
    let ends : List Entry = by Collector (act.CommitGc commit.Done ∷ []) in
    let finds : List Entry = by Collector on.sweeps in
    let swept : List Entry = ((begins ++ marks) ++ ends) ++ finds in
    let purges : List Entry = flat_map (by Collector) on.destroys.purges in
    let front : on.front ≡ old ++ swept = pieces old mid on.front marks ends finds begins h.grown on.grown in
    let grown : new ≡ old ++ (swept ++ purges) = on.destroys.grown ∙ ap (λ (es : List Entry). es ++ purges) front ∙ append_assoc old swept purges in
    let left : state_of new ≡ run (state_of old) (swept ++ purges) = ap state_of grown ∙ run-append beginning old (swept ++ purges) in
    let state : state_of on.front ≡ run (state_of old) swept = ap state_of front ∙ run-append beginning old swept in
    record {
      piece = swept ++ purges;
      grown = grown;
      turn = inr (
        record {
          begins = h.acts;
          slices = on.slices;
          sweeps = on.sweeps;
          purges = on.destroys.purges;
          front = swept;
          begun = h.call;
          marked = subst (λ (s : State). MarksUntilIdle s budget on.slices) (state_after z old mid Collector (act.BeginGc begin.Started) h) on.marked;
          swept = on.swept;
          found = refl;
          purged = subst (λ (s : State). PurgesAll budget header (103 * length s.world.found) s on.destroys.purges) state on.destroys.purged;
          are = refl;
        },
        on.answer ∙ ap (λ (s : State). told_full s.world) left,
      );
      kinds = collected_kinds z old new (swept ++ purges) grown on.destroys.legal
          (no_lane_append swept purges
          (no_lane_append ((begins ++ marks) ++ ends) finds
          (no_lane_append (begins ++ marks) ends (no_lane_append begins marks (by_no_lane Collector h.acts tt) (marks_no_lane on.slices)) (by_no_lane Collector (act.CommitGc commit.Done ∷ []) tt))
          (by_no_lane Collector on.sweeps tt))
          (slices_no_lane Collector on.destroys.purges tt));
      opened = on.destroys.opened ∙ on.opened ∙ (started_world z old mid h).1 ∙ sym (start_closed z old mid h);
      held = λ lane ref is. on.held lane ref (held lane ref is);
      told = subst (HasText header.classes.classes) (sym on.answer) tt;
    }

-- a collection that was begun and not told to its end
pub collects_some : (z : Sizes) (budget : ℕ) (old mid new : List Entry) → Appends z old mid Collector (act.BeginGc begin.Started)
    → GoesOnSome z budget mid new → CollectsSome z budget old new gc_cmd.Full
collects_some z budget old mid new h on =
    let begins : List Entry = by Collector h.acts in
    let marks : List Entry = flat_map by_marker on.slices in
    let ends : List Entry = by Collector (act.CommitGc commit.Done ∷ []) in
    let finds : List Entry = by Collector on.sweeps in
    let marked = subst (λ (s : State). MarksUntilIdle s budget on.slices) (state_after z old mid Collector (act.BeginGc begin.Started) h) on.marked in
    record {
      part = ((begins ++ marks) ++ ends) ++ finds;
      grown = pieces old mid new marks ends finds begins h.grown on.grown;
      made = inr (record { begins = h.acts; slices = on.slices; begun = h.call; calls = inr (inr (on.sweeps, marked, on.swept, refl)) });
      legal = on.legal;
    }

-- a refusal to begin: its one entry, the frames that it leaves open, and what is told
pub refuses : (z : Sizes) (budget : ℕ) (header : Header) (old new : List Entry) (before now : Holdings) (why : Begin) (r : Reply) → RefusesBegin why r
    → Appends z old new Collector (act.BeginGc why) → KeepsHeld before now → Collects z budget header old new before now gc_cmd.Full r
refuses z budget header old new before now why r tells h held = record {
  piece = by Collector h.acts;
  grown = h.grown;
  turn = inl (why, (h.acts, h.call, refl), tells);
  kinds = collected_kinds z old new (by Collector h.acts) h.grown h.legal (by_no_lane Collector h.acts tt);
  opened = refused_opened z old new why r tells h;
  held = held;
  told = refused_told header.classes.classes why r tells;
}

-- what follows for a value that there may be
pub each_err : {T E : Type 0} (P Q : Type 0) (r : Result T E) → (P → Q) → OnErr r P → OnErr r Q
each_err P Q (Ok x) f h = tt
each_err P Q (Err e) f h = f h

pub each_ok : {T E : Type 0} (P Q : T → Type 0) (r : Result T E) → ((x : T) → P x → Q x) → IfOk r P → IfOk r Q
each_ok P Q (Ok x) f h = f x h
each_ok P Q (Err e) f h = tt
