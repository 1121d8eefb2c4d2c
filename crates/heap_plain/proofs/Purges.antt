-- A purge, step by step.
use Rattle.std.proofs.Common.{unwrap_or, IsSome, is_some, subst₂, ◌≡◌, ◌≢◌, ℕ, ◌+◌, ◌-◌, ◌<◌, ◌≤◌, ◌^◌, ◌&&◌, refl, sym, subst, ap, ◌∙◌, arith, Bool, cond, true, false, List, [], ◌∷◌, ◌++◌, append_assoc, append-nil, length, drop, filter_map, get_or, count_by, slice_get, Option, Some, None}
use Rattle.std.specs.Option.{option_map_or}
use Rattle.std.specs.List.{list_all, AllByRecursion}
use Rattle.std.proofs.Math.ListN.{set}
use Rattle.std.proofs.Math.Seq.{drop-append_seam}
use Rattle.std.proofs.lemmas.List.Sums.{sum_by-append}
use Rattle.std.proofs.lemmas.List.Elements.{filter_map-append}
use Rattle.world_model.specs.Sizes.{Sizes, item_count}
use Rattle.world_model.specs.NameLists.{has}
use Rattle.world_model.specs.World.{World, Removal}
use Rattle.world_model.specs.State.{State, Frame, beginning}
use Rattle.world_model.specs.Next.{run}
use Rattle.world_model.specs.Hooks.{ReadyTest, SameTest, AreCalledFor, AreCalled, Meets, MeetTest, call_of, class_of}
use Rattle.world_model.specs.Calls.{by, Appends, is_purge_part, is_purge_step}
use Rattle.world_model.specs.Histories.{LegalFrom, MayBy, after, state_of}
use Rattle.world_model.proofs.Joins.{by-append, legal_join}
use Rattle.world_model.proofs.Sound.{sound}
use Rattle.heap_plain.specs.Types.{Name, Ref, ClassId, Kind, HookCall, Phase, Idle, Marking, Gathering, Collector, Purged, Act, Entry}
use Rattle.heap_plain.specs.Types.act
use Rattle.heap_plain.specs.Types.called
use Rattle.heap_plain.specs.Types.purge
use Rattle.heap_plain.specs.Parts.{Parts, Shown, Holds, name_at, name_of, class_at, first_at}
use Rattle.heap_plain.specs.declared.life.Life.TheVariants.{Begun, Finished}
use Rattle.heap_plain.specs.Listing.{chained, chain}
use Rattle.heap_plain.specs.Queue.{Queued, Begins}
use Rattle.heap_plain.specs.Purging.{Tells, next_poll, finished_unit, asked_acts, asked_calls, Stocks, give_all, CanGive}
use Rattle.heap_plain.specs.Destroying.{count_left}
use Rattle.heap_plain.specs.Plain.{Shows, IsPlain, IsPurging}
use Rattle.heap_plain.proofs.WorldFacts.{state_more}
use Rattle.heap_plain.proofs.Resting.{rests}
use Rattle.heap_plain.proofs.Entries.{Done, does}
use Rattle.heap_plain.proofs.Standing.{name_below}
use Rattle.heap_plain.proofs.PurgeSteps.{IsAmid, first, begin_may, begin_shows, asked_first, ask_some, some_wait, head_below, refused_legal, refused_shows, agreed_legal, agreed_shows}
use Rattle.heap_plain.proofs.Releasing as releasing
use Rattle.heap_plain.specs.Serials.{all_cleared}

-- ---- hooks

-- calls are added to what is told
tells_more : (w : World) (old new : List Entry) (before mid now : Option (List HookCall)) → AreCalledFor w old before mid
    → Tells mid now (filter_map (λ e. call_of w e.act) new) → AreCalledFor w (old ++ new) before now
tells_more w old new before mid None h t = tt
tells_more w old new before None (Some now) h t = absurd t
tells_more w old new None (Some mid) (Some now) h t = absurd h
tells_more w old new (Some before) (Some mid) (Some now) h t =
    t ∙ ap (λ (calls : List HookCall). calls ++ filter_map (λ e. call_of w e.act) new) h
    ∙ append_assoc before (filter_map (λ e. call_of w e.act) old) (filter_map (λ e. call_of w e.act) new)
    ∙ ap (λ (calls : List HookCall). before ++ calls) (sym (filter_map-append (λ e. call_of w e.act) old new))

all_more : (P : Entry → Type 0) (xs ys : List Entry) → AllByRecursion P xs → AllByRecursion P ys → AllByRecursion P (xs ++ ys)
all_more P [] ys a b = b
all_more P (x ∷ xs) ys a b = (a.0, all_more P xs ys a.1 b)

same_trans : {f g h : ReadyTest} → SameTest f g → SameTest g h → SameTest f h
same_trans a b n class poll answer = ((λ t. (b n class poll answer).0 ((a n class poll answer).0 t)), (λ t. (a n class poll answer).1 ((b n class poll answer).1 t)))

-- ---- one step more

list_all_more : (q : Act → Bool) (xs ys : List Act) → list_all q xs ≡ true → list_all q ys ≡ true → list_all q (xs ++ ys) ≡ true
list_all_more q [] ys a b = b
list_all_more q (x ∷ xs) ys a b = go (q x) a (list_all_more q xs ys)
  where
    go : (t : Bool) → (t && list_all q xs) ≡ true → (list_all q xs ≡ true → list_all q ys ≡ true → list_all q (xs ++ ys) ≡ true) → (t && list_all q (xs ++ ys)) ≡ true
    go true h rest = rest h b
    go false h rest = absurd cc

pub purges_more : {z : Sizes} {old : Shown} {before mid now : Option (List HookCall)} {was test test' : ReadyTest} {steps : ℕ} {p p' : Parts}
    {history : List Entry} (acts : List Act) (calls : List HookCall)
    → IsPurging z old before mid was test steps p history → LegalFrom z (state_of history) (by Collector acts) → list_all is_purge_part acts ≡ true → count_by is_purge_step acts ≡ 1
    → Shows z p' (run (state_of history) (by Collector acts)) → (run (state_of history) (by Collector acts)).collector.steps ≡ (state_of history).collector.steps + 1
    → (run (state_of history) (by Collector acts)).collector.agreed ≡ None
    → (run (state_of history) (by Collector acts)).world.kinds ≡ (after history).kinds
    → (run (state_of history) (by Collector acts)).frames ≡ (state_of history).frames → p'.phase ≢ Gathering
    → ((lane : ℕ) (r : Ref) → Holds (record { history = history; names = p.names }) lane r → Holds (record { history = history; names = p'.names }) lane r)
    → calls ≡ filter_map (λ e. call_of (after old.history) e.act) (by Collector acts) → Tells mid now calls
    → AllByRecursion (λ e. Meets (after old.history) was e.act) (by Collector acts) → SameTest test test'
    → IsPurging z old before now was test' (steps + 1) p' (history ++ by Collector acts)
purges_more {z} {old} {before} {mid} {now} {was} {test} {test'} {steps} {p} {p'} {history} acts calls i legal only one shows ran agreed kinds frames gathered holds calls_are told meets same = record {
  rest = i.rest;
  parts = i.parts ++ acts;
  grown =
      ap (λ (es : List Entry). es ++ by Collector acts) i.grown ∙ append_assoc old.history (by Collector i.parts) (by Collector acts)
      ∙ ap (λ (es : List Entry). old.history ++ es) (sym (by-append Collector i.parts acts));
  only = list_all_more is_purge_part i.parts acts i.only only;
  counted = let a = sum_by-append (λ x. cond {A = ℕ} (is_purge_step x) 1 0) i.parts acts in omega (arith, i.counted, one);
  legal = legal_join z beginning history (by Collector acts) i.legal legal;
  shows = subst (λ (s : State). Shows z p' s) (sym more) shows;
  agreed = ap (λ (s : State). s.collector.agreed) more ∙ agreed;
  ran = ap (λ (s : State). s.collector.steps) more ∙ ran ∙ ap (λ (n : ℕ). n + 1) i.ran;
  kinds = ap (λ (s : State). s.world.kinds) more ∙ kinds ∙ i.kinds;
  gathered = gathered;
  held = λ lane r h. let was = holds lane r (i.held lane r h) in
      record {
        given = subst (λ (f : ℕ → Frame). has (f lane).held r.name ≡ true) (sym (ap (λ (s : State). s.frames) more ∙ frames)) was.given;
        placed = was.placed;
        alone = was.alone;
      };
  called = subst (λ (es : List Entry). AreCalledFor (after old.history) es before now) (sym (by-append Collector i.parts acts))
      (tells_more (after old.history) (by Collector i.parts) (by Collector acts) before mid now i.called (subst (λ (cs : List HookCall). Tells mid now cs) calls_are told));
  tested =
      subst (λ (es : List Entry). AllByRecursion (λ e. Meets (after old.history) was e.act) es) (sym (by-append Collector i.parts acts))
      (all_more (λ e. Meets (after old.history) was e.act) (by Collector i.parts) (by Collector acts) i.tested meets);
  same = same_trans i.same same;
}
  where
    more : state_of (history ++ by Collector acts) ≡ run (state_of history) (by Collector acts)
    more = state_more history (by Collector acts)

-- no call is told
nothing_told : (calls : Option (List HookCall)) → Tells calls calls []
nothing_told None = tt
nothing_told (Some calls) = sym (append-nil calls)

-- ---- the steps

-- the parts after an object is begun, after one refused or agreed, and after a unit is released
abbrev pub begun_parts : Parts → ℕ → Queued → Parts
begun_parts p x next = record p { objects = record (p.objects) { lives = set p.lives x Begun }; ends = record (p.ends) { queue = next } }

abbrev pub refused_parts : Parts → ℕ → ℕ → Parts
refused_parts p y poll = record p { ends = record (p.ends) { queue = record (p.queue) { ring = drop 1 p.queue.ring ++ y ∷ [] }; polls = set p.polls y poll } }

abbrev pub agreed_parts : Parts → ℕ → ℕ → Parts
agreed_parts p y poll = record p {
  objects = record (p.objects) { lives = set p.lives y Finished };
  ends = record (p.ends) {
    queue = record (p.queue) { ring = drop 1 p.queue.ring };
    polls = set p.polls y poll;
    waiting = set p.waiting (first_at p.firsts y) (get_or p.waiting (first_at p.firsts y) 0 - 1);
    done = finished_unit (first_at p.firsts y) (get_or p.waiting (first_at p.firsts y) 0 - 1);
  };
}

abbrev pub released_parts : Parts → Stocks → ℕ → ℕ → Parts
released_parts p t head size =
    record p {
      objects = record (p.objects) { names = t.names; lives = t.lives };
      pairs = record (p.pairs) { serials = all_cleared p.serials (chain p.next head size) };
      stock = record (p.stock) { stocks = t.stocks };
      ends = record (p.ends) { left = p.left - size; done = None };
    }

left_gathered : (phase : Phase) (removals : List Removal) (found : List Name) (left : ℕ) → phase ≢ Gathering → left ≡ count_left phase removals found → left ≡ length removals
left_gathered Idle removals found left ne e = e
left_gathered Marking removals found left ne e = e
left_gathered Gathering removals found left ne e = absurd (ne refl)

pub purge_idle : {z : Sizes} {old : Shown} {before now : Option (List HookCall)} {was test : ReadyTest} {steps : ℕ} {p : Parts} {history : List Entry}
    → IsPurging z old before now was test steps p history → 0 < p.left → p.phase ≡ Idle
purge_idle {z} {p = p} {history} i some = go p.phase refl
  where
    go : (phase : Phase) → p.phase ≡ phase → phase ≡ Idle
    go Idle e = refl
    go Gathering e = absurd (i.gathered e)
    go Marking e =
        let none = (sound z history i.legal).destroying.unmarked (sym i.shows.phase ∙ e) in
        let len : length (after history).removals ≡ 0 = ap (λ (rs : List Removal). length rs) none in
        absurd (omega (arith, some, left_gathered p.phase (after history).removals (after history).found p.left i.gathered i.shows.removed.left_is))

module _ {z : Sizes} {old : Shown} {before mid : Option (List HookCall)} {was test : ReadyTest} {steps : ℕ} {p : Parts} {history : List Entry}
    (i : IsPurging z old before mid was test steps p history) (more : 0 < p.left) where
  abbrev s : State
  s = state_of history

  abbrev k : Shows z p s
  k = i.shows

  abbrev amid : IsAmid z p history
  amid = record { legal = i.legal; agreed = i.agreed; shows = i.shows }

  abbrev idle : p.phase ≡ Idle
  idle = purge_idle i more

  -- the class that a hook is told
  class_known : (x : ℕ) (n : Name) → name_at p.names x ≡ Some n → class_at p.kinds x ≡ class_of (after old.history) n
  class_known x n e =
      sym (ap (λ (kind : Option Kind). option_map_or (λ k. k.class) kind (record { 0 = 0 })) (k.kinds.each x n e))
      ∙ ap (λ (kinds : ℕ → List Kind). option_map_or (λ k. k.class) (slice_get (kinds n.lane) (n.count - 1)) (record { 0 = 0 })) i.kinds

  name_known : (x : ℕ) (n : Name) → name_at p.names x ≡ Some n → name_of p.names x ≡ n
  name_known x n e = ap (λ (o : Option Name). unwrap_or o (record { lane = 0; count = 0 })) e

  named_some : (x : ℕ) (n : Name) → name_at p.names x ≡ Some n → IsSome (name_at p.names x)
  named_some x n e = ap (λ (o : Option Name). is_some o) e

  below : (x : ℕ) (n : Name) → name_at p.names x ≡ Some n → x < item_count z
  below x n e = omega (arith, name_below p.names x n e, k.names.items)

  -- ---- an object is begun

  module _ {x : ℕ} {next : Queued} (begins : Begins p.queue next x) where
    abbrev n : (m : Name) × (name_at p.names x ≡ Some m)
    n = let f = first amid idle begins in (f.0, f.3)

    pub begin_named : IsSome (name_at p.names x)
    begin_named = named_some x n.0 n.1

    pub begin_below : x < item_count z
    begin_below = below x n.0 n.1

    pub purge_begins : {now : Option (List HookCall)} {test' : ReadyTest} → Tells mid now (called.Begin (name_of p.names x) (class_at p.kinds x) ∷ []) → SameTest test test'
        → IsPurging z old before now was test' (steps + 1) (begun_parts p x next) (history ++ by Collector (act.Begun (name_of p.names x) ∷ []))
    purge_begins {now} {test'} told same =
        let name = name_known x n.0 n.1 in
        subst (λ (m : Name). IsPurging z old before now was test' (steps + 1) (begun_parts p x next) (history ++ by Collector (act.Begun m ∷ []))) (sym name)
        (purges_more (act.Begun n.0 ∷ []) (called.Begin n.0 (class_of (after old.history) n.0) ∷ []) i (begin_may amid idle begins, tt) refl refl
        (begin_shows amid idle begins) refl refl refl refl i.gathered
        (λ lane r h. h) refl (subst₂ (λ (m : Name) (class : ClassId). Tells mid now (called.Begin m class ∷ [])) name (class_known x n.0 n.1) told) (tt, tt) same)

  -- ---- an object is asked

  module _ (all : p.queue.todo ≡ []) (none : p.done ≡ None) where
    abbrev y : ℕ
    y = get_or p.queue.ring 0 0

    abbrev m : (n : Name) × (name_at p.names y ≡ Some n)
    m = let f = asked_first amid idle all none more in (f.0, f.3)

    abbrev poll : ℕ
    poll = next_poll (get_or p.polls y 0)

    pub ask_waiting : 0 < length p.queue.ring
    ask_waiting = ask_some amid idle all none more

    pub ask_named : IsSome (name_at p.names y)
    ask_named = named_some y m.0 m.1

    pub ask_below : y < item_count z
    ask_below = below y m.0 m.1

    pub ask_head : first_at p.firsts y < item_count z
    ask_head = head_below amid idle all none more

    pub ask_waits : 0 < get_or p.waiting (first_at p.firsts y) 0
    ask_waits = some_wait amid idle all none more

    pub purge_refused : {now : Option (List HookCall)} {test' : ReadyTest}
        → Tells mid now (asked_calls (name_of p.names y) (class_at p.kinds y) poll false) → test (name_of p.names y) (class_at p.kinds y) poll false
        → SameTest test test'
        → IsPurging z old before now was test' (steps + 1) (refused_parts p y poll)
        (history ++ by Collector (asked_acts (name_of p.names y) poll false))
    purge_refused {now} {test'} told meets same =
        let name = name_known y m.0 m.1 in
        subst (λ (n : Name). IsPurging z old before now was test' (steps + 1) (refused_parts p y poll)
        (history ++ by Collector (asked_acts n poll false))) (sym name)
        (purges_more (asked_acts m.0 poll false) (asked_calls m.0 (class_of (after old.history) m.0) poll false) i
        (refused_legal amid idle all none more) refl refl (refused_shows amid idle all none more) refl refl refl refl i.gathered
        (λ lane r h. h) refl (subst₂ (λ (n : Name) (class : ClassId). Tells mid now (asked_calls n class poll false)) name (class_known y m.0 m.1) told)
        ((i.same m.0 (class_of (after old.history) m.0) poll false).1 (subst₂ (λ (n : Name) (class : ClassId). test n class poll false) name (class_known y m.0 m.1) meets), tt) same)

    pub purge_agreed : {now : Option (List HookCall)} {test' : ReadyTest}
        → Tells mid now (asked_calls (name_of p.names y) (class_at p.kinds y) poll true) → test (name_of p.names y) (class_at p.kinds y) poll true
        → SameTest test test'
        → IsPurging z old before now was test' (steps + 1)
        (agreed_parts p y poll)
        (history ++ by Collector (asked_acts (name_of p.names y) poll true))
    purge_agreed {now} {test'} told meets same =
        let name = name_known y m.0 m.1 in
        subst (λ (n : Name). IsPurging z old before now was test' (steps + 1)
        (agreed_parts p y poll)
        (history ++ by Collector (asked_acts n poll true))) (sym name)
        (purges_more (asked_acts m.0 poll true) (asked_calls m.0 (class_of (after old.history) m.0) poll true) i
        (agreed_legal amid idle all none more) refl refl (agreed_shows amid idle all none more) refl refl refl refl i.gathered
        (λ lane r h. h) refl (subst₂ (λ (n : Name) (class : ClassId). Tells mid now (asked_calls n class poll true)) name (class_known y m.0 m.1) told)
        ((i.same m.0 (class_of (after old.history) m.0) poll true).1 (subst₂ (λ (n : Name) (class : ClassId). test n class poll true) name (class_known y m.0 m.1) meets), (tt, tt)) same)

  -- ---- a unit is released

  module _ (all : p.queue.todo ≡ []) (head : ℕ) (ready : p.done ≡ Some head) (few_items : item_count z < 2 ^ 32) where
    abbrev size : ℕ
    size = get_or p.sizes head 0

    abbrev f : (n : Name) × (name_at p.names head ≡ Some n)
    f = let r = releasing.first amid idle all head ready few_items in (r.0, r.2)

    pub release_below : head < item_count z
    release_below = below head f.0 f.1

    pub release_named : IsSome (name_at p.names head)
    release_named = named_some head f.0 f.1

    pub release_few : size ≤ p.left
    release_few = releasing.size_few amid idle all head ready few_items

    pub release_chain : (j : ℕ) → j < size → chained p.next head j < length p.next
    release_chain = releasing.release_chain amid idle all head ready few_items

    pub release_can : (j : ℕ) → j < size → CanGive (give_all (record { names = p.names; lives = p.lives; stocks = p.stocks }) p.next head j) (chained p.next head j)
    release_can = releasing.release_can amid idle all head ready few_items

    abbrev t : Stocks
    t = give_all (record { names = p.names; lives = p.lives; stocks = p.stocks }) p.next head size

    -- what is held is none of what is released
    holds : (lane : ℕ) (r : Ref) → Holds (record { history = history; names = p.names }) lane r → Holds (record { history = history; names = t.names }) lane r
    holds lane r h = record {
      given = h.given;
      placed = releasing.still_held amid idle all head ready few_items lane r.name h.given r.index h.placed;
      alone = λ j e. h.alone j (releasing.was_named amid idle all head ready few_items j r.name e).0;
    }

    purge_releases : (n : Name) → name_at p.names head ≡ Some n
        → IsPurging z old before mid was test (steps + 1) (released_parts p t head size) (history ++ by Collector (act.Released n ∷ []))
    purge_releases n e =
        let same : f.0 ≡ n = (let a = f.1 in let b = e in cc) in
        subst (λ (m : Name). IsPurging z old before mid was test (steps + 1) (released_parts p t head size) (history ++ by Collector (act.Released m ∷ []))) same
        (purges_more (act.Released f.0 ∷ []) [] i (releasing.release_may amid idle all head ready few_items, tt) refl refl
        (releasing.release_shows amid idle all head ready few_items) refl refl refl refl i.gathered
        holds refl (nothing_told mid) (tt, tt) (λ n class poll answer. ((λ t. t), (λ t. t))))

    -- by the size and the vectors that the code has
    pub purge_released : (n : Name) → name_at p.names head ≡ Some n → (count : ℕ) → count ≡ size → (q : Stocks) → q ≡ t
        → IsPurging z old before mid was test (steps + 1) (released_parts p q head count) (history ++ by Collector (act.Released n ∷ []))
    purge_released n e count same q left =
        subst₂ (λ (c : ℕ) (x : Stocks). IsPurging z old before mid was test (steps + 1) (released_parts p x head c) (history ++ by Collector (act.Released n ∷ [])))
        (sym same) (sym left) (purge_releases n e)

-- ---- the call

-- before the first step
pub purge_starts : (z : Sizes) (old : Shown) (p : Parts) (calls : Option (List HookCall)) (test : ReadyTest) → IsPlain z p old.history
    → p.names ≡ old.names → p.phase ≢ Gathering → IsPurging z old calls calls test test 0 p old.history
purge_starts z old p calls test was names other = record {
  rest = was.rest;
  parts = [];
  grown = sym (append-nil old.history);
  only = refl;
  counted = refl;
  legal = was.legal;
  shows = was.shows;
  ran = was.rest.between.steps;
  agreed = was.rest.between.agreed;
  kinds = refl;
  gathered = other;
  held = λ lane r h. subst (λ (ns : List (Option Name)). Holds (record { history = old.history; names = ns }) lane r) (sym names) h;
  called = nothing_called (after old.history) calls;
  tested = tt;
  same = λ n class poll answer. ((λ t. t), (λ t. t));
}
  where
    nothing_called : (w : World) (calls : Option (List HookCall)) → AreCalledFor w [] calls calls
    nothing_called w None = tt
    nothing_called w (Some calls) = sym (append-nil calls)

-- the entry that closes the call is the last one
abbrev closing : ℕ → Purged → List Entry
closing budget reply = by Collector (act.PurgeGc budget reply ∷ [])

-- what the calls are behind the old history
called_behind : (w : World) (old new : List Entry) (before now : Option (List HookCall)) → AreCalledFor w new before now → AreCalled w old (old ++ new) before now
called_behind w old new before now h = subst (λ (es : List Entry). AreCalledFor w es before now) (sym (drop-append_seam old new)) h

met_behind : (w : World) (old new : List Entry) (test : ReadyTest) → AllByRecursion (λ e. Meets w test e.act) new → MeetTest w old (old ++ new) test
met_behind w old new test h = subst (λ (es : List Entry). AllByRecursion (λ e. Meets w test e.act) es) (sym (drop-append_seam old new)) h

module _ {z : Sizes} {old : Shown} {before now : Option (List HookCall)} {was test : ReadyTest} {steps : ℕ} {p : Parts} {history : List Entry} (i : IsPurging z old before now was test steps p history)
    (budget : ℕ) (within : steps ≤ budget) (early : steps < budget → p.left ≡ 0) where
  abbrev reply : Purged
  reply = purge.Ran steps p.left

  may_close : MayBy z (state_of history) Collector (act.PurgeGc budget reply)
  may_close =
      let k = i.shows in
      let other : (after history).phase ≢ Gathering = λ e. i.gathered (k.phase ∙ e) in
      record {
        finishes = i.agreed;
        may = record { gathered = other; ran = sym i.ran; within = within; rest = left_gathered _ _ _ _ i.gathered k.removed.left_is; early = early };
      }

  whole : history ++ closing budget reply ≡ old.history ++ by Collector (i.parts ++ act.PurgeGc budget reply ∷ [])
  whole = ap (λ (es : List Entry). es ++ closing budget reply) i.grown ∙ append_assoc old.history (by Collector i.parts) (closing budget reply)
      ∙ ap (λ (es : List Entry). old.history ++ es) (sym (by-append Collector i.parts (act.PurgeGc budget reply ∷ [])))

  split : history ++ closing budget reply ≡ old.history ++ (by Collector i.parts ++ closing budget reply)
  split = ap (λ (es : List Entry). es ++ closing budget reply) i.grown ∙ append_assoc old.history (by Collector i.parts) (closing budget reply)

  pub purge_ends : Done z p old.history (history ++ closing budget reply) Collector (act.PurgeGc budget reply)
  purge_ends = record {
    plain = record {
      legal = entries.legal;
      rest = rests entries i.rest;
      shows = subst (λ (s : State). Shows z p s) (sym (state_more history (closing budget reply))) i.shows;
    };
    entries = entries;
  }
    where
      entries : Appends z old.history (history ++ closing budget reply) Collector (act.PurgeGc budget reply)
      entries = record {
        acts = i.parts ++ act.PurgeGc budget reply ∷ [];
        call = (record { parts = i.parts; are = refl; only = i.only; counted = i.counted }, tt);
        grown = whole;
        legal = legal_join z beginning history (closing budget reply) i.legal (may_close, tt);
      }

  pub purge_calls : AreCalled (after old.history) old.history (history ++ closing budget reply) before now
  purge_calls = subst (λ (es : List Entry). AreCalled (after old.history) old.history es before now) (sym split)
      (called_behind (after old.history) old.history (by Collector i.parts ++ closing budget reply) before now
      (tells_more (after old.history) (by Collector i.parts) (closing budget reply) before now now i.called (nothing_told now)))

  pub purge_tested : MeetTest (after old.history) old.history (history ++ closing budget reply) was
  purge_tested = subst (λ (es : List Entry). MeetTest (after old.history) old.history es was) (sym split)
      (met_behind (after old.history) old.history (by Collector i.parts ++ closing budget reply) was
      (all_more (λ e. Meets (after old.history) was e.act) (by Collector i.parts) (closing budget reply) i.tested (tt, tt)))

  pub purge_held : (lane : ℕ) (r : Ref) → Holds old lane r → Holds (record { history = history ++ closing budget reply; names = p.names }) lane r
  purge_held lane r h = let was = i.held lane r h in
      record {
        given = subst (λ (s : State). has (s.frames lane).held r.name ≡ true) (sym (state_more history (closing budget reply))) was.given;
        placed = was.placed;
        alone = was.alone;
      }

-- ---- while removed objects are being found

pub waits : {z : Sizes} {p : Parts} {h : List Entry} (budget : ℕ) → IsPlain z p h → p.phase ≡ Gathering
    → Done z p h (h ++ closing budget purge.Gathering) Collector (act.PurgeGc budget purge.Gathering)
waits budget was e = does Collector (act.PurgeGc budget purge.Gathering) (act.PurgeGc budget purge.Gathering ∷ []) was (record { parts = []; are = refl; only = refl; counted = refl }, tt)
    (record { finishes = was.rest.between.agreed; may = sym was.shows.phase ∙ e }, tt) was.shows

pub waits_calls : (w : World) (h : List Entry) (budget : ℕ) (calls : Option (List HookCall)) → AreCalled w h (h ++ closing budget purge.Gathering) calls calls
waits_calls w h budget calls = called_behind w h (closing budget purge.Gathering) calls calls (go calls)
  where
    go : (calls : Option (List HookCall)) → AreCalledFor w (closing budget purge.Gathering) calls calls
    go None = tt
    go (Some calls) = sym (append-nil calls)

pub waits_tested : (w : World) (h : List Entry) (budget : ℕ) (test : ReadyTest) → MeetTest w h (h ++ closing budget purge.Gathering) test
waits_tested w h budget test = met_behind w h (closing budget purge.Gathering) test (tt, tt)
