-- The steps of destruction that begin and that ask.
use Rattle.std.proofs.Common.{◌≡◌, ◌≢◌, ℕ, ◌+◌, ◌-◌, ◌<◌, ◌==◌, ◌&&◌, ◌⊎◌, min, refl, sym, subst, subst₂, ap, ◌∙◌, inl, inr, zero, suc, arith, Bool, cond, if◌then◌else◌, true, false, not, List, [], ◌∷◌, ◌++◌, length, map, find, drop, get_or, count_by, Option, Some, None}
use Rattle.std.specs.List.{list_all}
use Rattle.std.specs.Option.{option_map_or}
use Rattle.std.proofs.Math.ListN.{set}
use Rattle.std.proofs.Math.Logic.{dite}
use Rattle.std.proofs.Math.Decide.{ℕ_discrete}
use Rattle.std.proofs.lemmas.Bool.Decides.{nat_tests}
use Rattle.std.proofs.lemmas.List.{length-set, get_or-set_same, get_or-set_other}
use Rattle.world_model.specs.Sizes.{Sizes, item_count}
use Rattle.world_model.specs.NameLists.{same_name, has, members, first_member}
use Rattle.world_model.specs.World.{World, Removal, Removed as AtRemoved, Begun as AtBegun, Finished as AtFinished, is_at, live_count, polls_of, destruction_order}
use Rattle.world_model.specs.State.{State}
use Rattle.world_model.specs.Next.{polled, at_stage}
use Rattle.world_model.specs.Histories.{MayBy, Legal, LegalFrom, state_of}
use Rattle.world_model.specs.Calls.{by}
use Rattle.world_model.specs.DestructionQueue.{IsQueue, in_order}
use Rattle.world_model.proofs.ListFacts.{Among, among_filter_test}
use Rattle.world_model.proofs.NameFacts.{same_name_true, same_name_refl, has_among, among_has, among_members}
use Rattle.world_model.proofs.Counts.{count-cons}
use Rattle.world_model.proofs.Sound.{IsSound, sound}
use Rattle.world_model.proofs.Rounds.{in_removals_at, one_stage, is_at-at_stage_same, is_at-at_stage_other, is_at-polled}
use Rattle.world_model.proofs.Queues.{queue_begin, queue_begun, queue_ask, queue_refused, queue_agreed, queue_least, unit_in_order}
use Rattle.heap_plain.specs.Types.{Name, Phase, Idle, Gathering, Collector, Entry}
use Rattle.heap_plain.specs.Types.act
use Rattle.heap_plain.specs.declared.life.Life.{Life}
use Rattle.heap_plain.specs.declared.life.Life.TheVariants.{Free, Begun, Finished}
use Rattle.heap_plain.specs.Parts.{Parts, name_at, life_at, first_at, is_gone, stage_of}
use Rattle.heap_plain.specs.Queue.{Queued, Begins}
use Rattle.heap_plain.specs.Purging.{next_poll, finished_unit, asked_acts}
use Rattle.heap_plain.specs.Lists.{Distinct}
use Rattle.heap_plain.specs.Units.{AreLinked}
use Rattle.heap_plain.specs.Destroying.{RemovedShow, removal_at, GoneShow, LiesAt, QueueShows, AreNamed, ReadyAt, gone_world, at_end, still_there}
use Rattle.heap_plain.specs.Plain.{ShowsWorld, Shows}
use Rattle.heap_plain.proofs.GarbageSteps.{garbage_fewer}
use Rattle.heap_plain.proofs.Pointers.{strong_map}
use Rattle.heap_plain.proofs.WorldFacts.{differs, different_distinct}
use Rattle.heap_plain.proofs.Counting.{count_alike}
use Rattle.heap_plain.proofs.Cells.{cells_less}
use Rattle.heap_plain.proofs.Queueing.{named_append, named_first, named_none}
use Rattle.heap_plain.proofs.SweepSteps.{name_among}
use Rattle.heap_plain.proofs.Gathering.{same_unit, distinct_unit}
use Rattle.heap_plain.proofs.Restaging.{SameLives, lives_same, lives_set, gone_below, units_lives, free_lives, changed, count_stays, there_changed, removed_changed, gone_changed, gone_index}

-- ---- the vectors after a step

purged_shows : {z : Sizes} {p : Parts} {w : World} {kept fresh black : List Name} {was asked : Option Name} {ls : List Life} {ps ws : List ℕ}
    {next : Queued} {done : Option ℕ} {rs : List Removal}
    → ShowsWorld z p w kept fresh black was → p.phase ≡ Idle → SameLives p.lives ls → RemovedShow z p.names ls ps p.left p.swept Idle rs w.found w.swept
    → GoneShow z (record (p.objects) { lives = ls }) ws rs w.last_removed → ((lane : ℕ) → count_by (λ r. r.name.lane == lane) rs ≡ count_by (λ r. r.name.lane == lane) w.removals)
    → next.room ≡ p.queue.room → QueueShows p.names next done rs w.last_removed w.found asked
    → ShowsWorld z (record p { objects = record (p.objects) { lives = ls }; ends = record (p.ends) { queue = next; polls = ps; waiting = ws; done = done } })
    (record w { removals = rs }) kept fresh black asked
purged_shows {z} {p} {w} {ls = ls} {ps} {rs = rs} k idle same removed gone counts room queue = record {
  gate = k.gate;
  objects = record { names = k.names; units = units_lives _ same k.units };
  rows = record {
    kinds = k.kinds;
    cells = cells_less (λ i n a. record { name = a.name; life = same.was_live i a.life }) (λ i n slot t m there e a. record { name = a.name; life = same.live t a.life }) k.cells;
  };
  roots = k.roots;
  garbage = garbage_fewer (λ i n a. record { name = a.name; life = same.was_live i a.life }) k.garbage;
  strong = strong_map (λ lane number t m e a. record { name = a.name; life = same.live t a.life }) k.strong;
  pairs = k.pairs;
  colours = record { marked_len = k.marked_len; idle = k.idle; marks = λ e. absurd (let a = idle in cc) };
  stock = record { made = k.made; free = free_lives same.free same.was_free (λ lane. ap (λ (c : ℕ). live_count w lane + c) (counts lane)) k.free };
  ends = record {
    removed = subst (λ (phase : Phase). RemovedShow z p.names ls ps p.left p.swept phase rs w.found w.swept) (sym idle) removed;
    gone = gone;
    room = room ∙ k.room;
    gathers = λ e. absurd (let a = idle in cc);
    queue = λ e. queue;
    none_asked = λ ne. absurd (ne idle);
  };
}

-- one that passed does not any more
count_less : (p q : Name → Bool) (n : Name) (u : List Name) → Distinct u → Among u n → p n ≡ true → q n ≡ false → ((m : Name) → same_name n m ≡ false → p m ≡ q m) → count_by q u + 1 ≡ count_by p u
count_less p q n [] d a passed fails others = absurd a
count_less p q n (m ∷ u) d a passed fails others = go a (count_less p q n u d.1)
  where
    first : count_by p (m ∷ u) ≡ cond {A = ℕ} (p m) 1 0 + count_by p u
    first = count-cons p m u

    second : count_by q (m ∷ u) ≡ cond {A = ℕ} (q m) 1 0 + count_by q u
    second = count-cons q m u

    go : (m ≡ n) ⊎ Among u n → (Among u n → p n ≡ true → q n ≡ false → ((x : Name) → same_name n x ≡ false → p x ≡ q x) → count_by q u + 1 ≡ count_by p u) → count_by q (m ∷ u) + 1 ≡ count_by p (m ∷ u)
    go (inl e) rest =
        let tail = count_alike p q u (λ x b. others x (differs n x (λ same. d.0 (subst (λ (y : Name). Among u y) (sym same ∙ sym e) b)))) in
        let one : cond {A = ℕ} (p m) 1 0 ≡ 1 = ap (λ (b : Bool). cond {A = ℕ} b 1 0) (ap p e ∙ passed) in
        let none : cond {A = ℕ} (q m) 1 0 ≡ 0 = ap (λ (b : Bool). cond {A = ℕ} b 1 0) (ap q e ∙ fails) in
        omega (arith, first, second)
    go (inr b) rest =
        let tail = rest b passed fails others in
        let same : cond {A = ℕ} (p m) 1 0 ≡ cond {A = ℕ} (q m) 1 0 = ap (λ (x : Bool). cond {A = ℕ} x 1 0) (others m (differs n m (λ e. d.0 (subst (λ (y : Name). Among u y) e b)))) in
        omega (arith, first, second)

-- none of the tests fails exactly where all pass
none_count : (q : Name → Bool) (u : List Name) → count_by (λ n. not (q n)) u ≡ 0 → list_all q u ≡ true
none_count q [] e = refl
none_count q (n ∷ u) e = go (q n) refl (none_count q u)
  where
    spread : count_by (λ m. not (q m)) (n ∷ u) ≡ cond {A = ℕ} (not (q n)) 1 0 + count_by (λ m. not (q m)) u
    spread = count-cons (λ m. not (q m)) n u

    go : (b : Bool) → q n ≡ b → (count_by (λ m. not (q m)) u ≡ 0 → list_all q u ≡ true) → (q n && list_all q u) ≡ true
    go true is rest = rw is (rest (omega (arith, spread, e)))
    go false is rest = absurd (let one : cond {A = ℕ} (not (q n)) 1 0 ≡ 1 = ap (λ (b : Bool). cond {A = ℕ} (not b) 1 0) is in omega (arith, spread, e))

some_count : (q : Name → Bool) (u : List Name) → 0 < count_by (λ n. not (q n)) u → list_all q u ≡ false
some_count q [] e = absurd (omega (arith, e))
some_count q (n ∷ u) e = go (q n) refl (some_count q u)
  where
    spread : count_by (λ m. not (q m)) (n ∷ u) ≡ cond {A = ℕ} (not (q n)) 1 0 + count_by (λ m. not (q m)) u
    spread = count-cons (λ m. not (q m)) n u

    go : (b : Bool) → q n ≡ b → (0 < count_by (λ m. not (q m)) u → list_all q u ≡ false) → (q n && list_all q u) ≡ false
    go true is rest = let none : cond {A = ℕ} (not (q n)) 1 0 ≡ 0 = ap (λ (b : Bool). cond {A = ℕ} (not b) 1 0) is in rw is (rest (omega (arith, spread, e)))
    go false is rest = rw is refl

-- a removal is found by its name
find_named : (rs : List Removal) (r : Removal) → Distinct (map (λ x. x.name) rs) → Among rs r → find (λ x. same_name r.name x.name) rs ≡ Some r
find_named [] r d a = absurd a
find_named (x ∷ rs) r d a = go (same_name r.name x.name) refl a (find_named rs r d.1)
  where
    go : (b : Bool) → same_name r.name x.name ≡ b → (x ≡ r) ⊎ Among rs r → (Among rs r → find (λ y. same_name r.name y.name) rs ≡ Some r)
        → cond b (Some x) (find (λ y. same_name r.name y.name) rs) ≡ Some r
    go true e (inl same) rest = ap (λ (y : Removal). Some y) same
    go true e (inr b) rest = absurd (d.0 (subst (λ (n : Name). Among (map (λ y. y.name) rs) n) (same_name_true r.name x.name e) (name_among rs r b)))
    go false e (inl same) rest = absurd (let yes : same_name r.name x.name ≡ true = ap (λ (y : Removal). same_name r.name y.name) same ∙ same_name_refl r.name in cc)
    go false e (inr b) rest = rest b

next_poll_is : (n : ℕ) → next_poll n ≡ min (n + 1) 65535
next_poll_is n = grind (arith, nat_tests)

-- a legal history between two steps of destruction, which the vectors show
pub record IsAmid (z : Sizes) (p : Parts) (h : List Entry) : Type 0 where
  pub legal : Legal z h
  pub agreed : (state_of h).collector.agreed ≡ None
  pub shows : Shows z p (state_of h)

module _ {z : Sizes} {p : Parts} {h : List Entry} (amid : IsAmid z p h) (idle : p.phase ≡ Idle) where
  abbrev s : State
  s = state_of h

  abbrev k : Shows z p s
  k = amid.shows

  abbrev w : World
  w = s.world

  abbrev w0 : World
  w0 = gone_world w.removals w.last_removed w.found

  abbrev q : QueueShows p.names p.queue p.done w.removals w.last_removed w.found s.collector.asked
  q = k.queue idle

  at_idle : w.phase ≡ Idle
  at_idle = sym k.phase ∙ idle

  gathered : w.phase ≢ Gathering
  gathered e = let a = at_idle in cc

  removed_idle : RemovedShow z p.names p.lives p.polls p.left p.swept Idle w.removals w.found w.swept
  removed_idle = subst (λ (phase : Phase). RemovedShow z p.names p.lives p.polls p.left p.swept phase w.removals w.found w.swept) idle k.removed

  -- what holds of the removed objects of every history
  known : IsSound s
  known = sound z h amid.legal

  once : Distinct (members w.last_removed)
  once = different_distinct _ known.destroying.units_different

  -- ---- an object is begun

  module _ {x : ℕ} {next : Queued} (begins : Begins p.queue next x) where
    pub first : (n : Name) × (rest : List Name) × (q.todo ≡ n ∷ rest) × (name_at p.names x ≡ Some n) × AreNamed p.names next.todo rest
    first = named_first p.names x next.todo q.todo (subst (λ (at : List ℕ). AreNamed p.names at q.todo) begins.first q.todo_at)

    abbrev n : Name
    n = first.0

    queue' : IsQueue w0 s.collector.asked (n ∷ first.1) q.ring q.ready
    queue' = subst (λ (todo : List Name). IsQueue w0 s.collector.asked todo q.ring q.ready) first.2 q.queue

    at_removed : is_at w0 AtRemoved n ≡ true
    at_removed = among_filter_test (is_at w0 AtRemoved) (in_order w0) n (subst (λ (ns : List Name). Among ns n) queue'.todo_is (inl refl))

    gone_x : is_gone (life_at p.lives x) ≡ true
    gone_x = gone_index k.names k.removed x n first.3 (in_removals_at w0 AtRemoved n at_removed)

    abbrev ls : List Life
    ls = set p.lives x Begun

    abbrev rs : List Removal
    rs = changed n (λ r. record r { stage = AtBegun }) w.removals

    same : SameLives p.lives ls
    same = lives_set p.lives x Begun gone_x refl

    removed' : RemovedShow z p.names ls p.polls p.left p.swept Idle rs w.found w.swept
    removed' = removed_changed n (λ r. record r { stage = AtBegun }) (λ r. refl) x k.names removed_idle first.3 same refl (λ i ne. (get_or-set_other p.lives x i Begun Free ne, refl))
        (λ t. record { name = n; stage = stage_of (sym (get_or-set_same p.lives x Begun Free (gone_below p.lives x gone_x)) t); polls = get_or p.polls x 0 })

    same_end : (m : Name) → at_end rs m ≡ at_end w.removals m
    same_end m = go (same_name n m) refl
      where
        here : at_end rs n ≡ at_end w.removals n
        here = is_at-at_stage_same w0 n AtBegun AtFinished ∙ sym (one_stage w0 n AtRemoved AtFinished known.destroying.different at_removed refl)

        go : (b : Bool) → same_name n m ≡ b → at_end rs m ≡ at_end w.removals m
        go true e = subst (λ (y : Name). at_end rs y ≡ at_end w.removals y) (same_name_true n m e) here
        go false e = is_at-at_stage_other w0 n AtBegun AtFinished m e

    gone' : GoneShow z (record (p.objects) { lives = ls }) p.waiting rs w.last_removed
    gone' = gone_changed same k.gone refl (there_changed n (λ r. record r { stage = AtBegun }) (λ r. refl) w.removals)
        (λ head u t. t.waits ∙ count_alike _ _ u (λ m a. ap not (sym (same_end m))))

    pub begin_may : MayBy z s Collector (act.Begun n)
    begin_may = record { finishes = amid.agreed; may = record { gathered = gathered; next = (queue_begin queue').0 } }

    pub begin_shows : ShowsWorld z (record p { objects = record (p.objects) { lives = ls }; ends = record (p.ends) { queue = next } })
        (at_stage w n AtBegun) s.marks.kept s.marks.fresh s.marks.scanned s.collector.asked
    begin_shows = purged_shows k idle same removed' gone' (λ lane. count_stays n (λ r. record r { stage = AtBegun }) (λ r. refl) lane w.removals) begins.room record {
      todo = first.1;
      ring = q.ring ++ n ∷ [];
      ready = q.ready;
      todo_at = first.4;
      ring_at = subst (λ (at : List ℕ). AreNamed p.names at (q.ring ++ n ∷ [])) (sym begins.asked) (named_append p.names _ _ _ _ q.ring_at (first.3, tt));
      ready_at = q.ready_at;
      queue = (queue_begin queue').1;
    }

  -- ---- an object is asked

  module _ (all : p.queue.todo ≡ []) (none : p.done ≡ None) (more : 0 < p.left) where
    no_todo : q.todo ≡ []
    no_todo = named_none p.names q.todo (subst (λ (at : List ℕ). AreNamed p.names at q.todo) all q.todo_at)

    no_ready : q.ready ≡ None
    no_ready = go q.ready (subst (λ (done : Option ℕ). ReadyAt p.names done q.ready) none q.ready_at)
      where
        go : (ready : Option Name) → ReadyAt p.names None ready → ready ≡ None
        go None h = refl
        go (Some m) h = absurd h

    asks : IsQueue w0 s.collector.asked [] q.ring None
    asks = subst₂ (λ (todo : List Name) (ready : Option Name). IsQueue w0 s.collector.asked todo q.ring ready) no_todo no_ready q.queue

    some_left : w.removals ≢ []
    some_left e = let len : length w.removals ≡ 0 = ap (λ (xs : List Removal). length xs) e in absurd (omega (arith, removed_idle.left_is, more))

    some_ring : q.ring ≢ []
    some_ring = queue_least asks some_left

    pub ask_some : 0 < length p.queue.ring
    ask_some = go p.queue.ring q.ring_at
      where
        go : (at : List ℕ) → AreNamed p.names at q.ring → 0 < length at
        go [] h = absurd (some_ring (named_none p.names q.ring h))
        go (i ∷ at) h = omega arith

    abbrev y : ℕ
    y = get_or p.queue.ring 0 0

    pub asked_first : (m : Name) × (rest : List Name) × (q.ring ≡ m ∷ rest) × (name_at p.names y ≡ Some m) × AreNamed p.names (drop 1 p.queue.ring) rest
    asked_first = go p.queue.ring q.ring_at
      where
        go : (at : List ℕ) → AreNamed p.names at q.ring → (m : Name) × (rest : List Name) × (q.ring ≡ m ∷ rest) × (name_at p.names (get_or at 0 0) ≡ Some m) × AreNamed p.names (drop 1 at) rest
        go [] h = absurd (some_ring (named_none p.names q.ring h))
        go (i ∷ at) h = named_first p.names i at q.ring h

    abbrev m : Name
    m = asked_first.0

    asks' : IsQueue w0 s.collector.asked [] (m ∷ asked_first.1) None
    asks' = subst (λ (ring : List Name). IsQueue w0 s.collector.asked [] ring None) asked_first.2 asks

    at_begun : is_at w0 AtBegun m ≡ true
    at_begun = among_filter_test (is_at w0 AtBegun) _ m (subst (λ (ns : List Name). Among ns m) asks'.ring_is (inl refl))

    there : still_there w.removals m ≡ true
    there = in_removals_at w0 AtBegun m at_begun

    pub asked_gone : is_gone (life_at p.lives y) ≡ true
    asked_gone = gone_index k.names k.removed y m asked_first.3 there

    abbrev poll : ℕ
    poll = next_poll (get_or p.polls y 0)

    polls_known : polls_of w0 m ≡ get_or p.polls y 0
    polls_known = ap (λ (o : Option Removal). option_map_or (λ (r : Removal). r.polls) o 0)
        (find_named w.removals (removal_at p.lives p.polls y m) (different_distinct _ known.destroying.different) (k.removed.removed y m asked_first.3 asked_gone))

    asked_may : (answer : Bool) → MayBy z s Collector (act.Asked m poll answer)
    asked_may answer = record {
      finishes = amid.agreed;
      may = record {
        gathered = gathered;
        begun = queue_begun asks';
        waiting = sym asks'.ready_is.first;
        next = queue_ask asks';
        number = next_poll_is (get_or p.polls y 0) ∙ ap (λ (n : ℕ). min (n + 1) 65535) (sym polls_known);
      };
    }

    abbrev ps : List ℕ
    ps = set p.polls y poll

    abbrev polled_rs : List Removal
    polled_rs = changed m (λ r. record r { polls = poll }) w.removals

    y_below : y < item_count z
    y_below = omega (arith, gone_below p.lives y asked_gone, k.units.lives_len)

    removed_polled : RemovedShow z p.names p.lives ps p.left p.swept Idle polled_rs w.found w.swept
    removed_polled = removed_changed m (λ r. record r { polls = poll }) (λ r. refl) y k.names removed_idle asked_first.3 (lives_same p.lives) (length-set p.polls y poll)
        (λ i ne. (refl, get_or-set_other p.polls y i poll 0 ne))
        (λ t. record { name = m; stage = stage_of (life_at p.lives y); polls = sym (get_or-set_same p.polls y poll 0 (omega (arith, y_below, k.removed.polls_len))) t })

    -- ---- it refuses

    none_waits : AreNamed p.names p.queue.todo []
    none_waits = subst (λ (at : List ℕ). AreNamed p.names at []) (sym all) tt

    pub refused_legal : LegalFrom z s (by Collector (asked_acts m poll false))
    refused_legal = (asked_may false, tt)

    pub refused_shows : ShowsWorld z
        (record p { ends = record (p.ends) { queue = record (p.queue) { ring = drop 1 p.queue.ring ++ y ∷ [] }; polls = ps } })
        (polled w m poll) s.marks.kept s.marks.fresh s.marks.scanned (Some m)
    refused_shows = purged_shows k idle (lives_same p.lives) removed_polled
        (gone_changed (lives_same p.lives) k.gone refl (there_changed m (λ r. record r { polls = poll }) (λ r. refl) w.removals)
        (λ head u t. t.waits ∙ count_alike _ _ u (λ n a. ap not (sym (is_at-polled w0 m poll AtFinished n)))))
        (λ lane. count_stays m (λ r. record r { polls = poll }) (λ r. refl) lane w.removals)
        refl
        (record {
          todo = [];
          ring = asked_first.1 ++ m ∷ [];
          ready = None;
          todo_at = none_waits;
          ring_at = named_append p.names _ _ _ _ asked_first.4 (asked_first.3, tt);
          ready_at = subst (λ (done : Option ℕ). ReadyAt p.names done None) (sym none) tt;
          queue = queue_refused asks' poll;
        })

    -- ---- it agrees

    abbrev head : ℕ
    head = first_at p.firsts y

    lies : (u : List Name) × LiesAt p.objects p.waiting w.removals w.last_removed head u
    lies = k.gone.each y asked_gone

    abbrev unit : List Name
    unit = lies.0

    has_m : has unit m ≡ true
    has_m = lies.1.whole y m (record { name = asked_first.3; life = asked_gone }) refl

    ordered : Among (destruction_order w0) unit
    ordered =
        let v = among_members (destruction_order w0) m (has_among (in_order w0) m (asks'.order.covered m there)) in
        let placed = unit_in_order w.last_removed w.found v.0 v.1 in
        let same = same_unit w.last_removed v.0 unit m once placed.0 lies.1.among (has_among v.0 m v.2) (has_among unit m has_m) in
        subst (λ (x : List Name). Among (destruction_order w0) x) same v.1

    unfinished : at_end w.removals m ≡ false
    unfinished = one_stage w0 m AtBegun AtFinished known.destroying.different at_begun refl

    abbrev agreed_rs : List Removal
    agreed_rs = changed m (λ r. record r { stage = AtFinished }) polled_rs

    now_finished : at_end agreed_rs m ≡ true
    now_finished = is_at-at_stage_same (polled w0 m poll) m AtFinished AtFinished ∙ there_changed m (λ r. record r { polls = poll }) (λ r. refl) w.removals m ∙ there

    as_before : (n : Name) → same_name m n ≡ false → at_end agreed_rs n ≡ at_end w.removals n
    as_before n e = is_at-at_stage_other (polled w0 m poll) m AtFinished AtFinished n e ∙ is_at-polled w0 m poll AtFinished n

    one_less : (u : List Name) → Among w.last_removed u → has u m ≡ true → count_by (λ n. not (at_end agreed_rs n)) u + 1 ≡ count_by (λ n. not (at_end w.removals n)) u
    one_less u a e = count_less (λ n. not (at_end w.removals n)) (λ n. not (at_end agreed_rs n)) m u (distinct_unit w.last_removed u once a) (has_among u m e)
        (ap not unfinished) (ap not now_finished) (λ n o. ap not (sym (as_before n o)))

    abbrev waits : ℕ
    waits = get_or p.waiting head 0

    pub some_wait : 0 < waits
    some_wait = omega (arith, lies.1.waits, one_less unit lies.1.among has_m)

    pub head_below : head < item_count z
    head_below = k.units.in_range y

    abbrev ws : List ℕ
    ws = set p.waiting head (waits - 1)

    abbrev agreed_ls : List Life
    agreed_ls = set p.lives y Finished

    lives_agreed : SameLives p.lives agreed_ls
    lives_agreed = lives_set p.lives y Finished asked_gone refl

    gone_agreed : GoneShow z (record (p.objects) { lives = agreed_ls }) ws agreed_rs w.last_removed
    gone_agreed = gone_changed lives_agreed k.gone (length-set p.waiting head (waits - 1))
        (λ n. there_changed m (λ r. record r { stage = AtFinished }) (λ r. refl) polled_rs n ∙ there_changed m (λ r. record r { polls = poll }) (λ r. refl) w.removals n) count
      where
        count : (at : ℕ) (u : List Name) → LiesAt p.objects p.waiting w.removals w.last_removed at u → get_or ws at 0 ≡ count_by (λ n. not (at_end agreed_rs n)) u
        count at u t = dite (ℕ_discrete at head)
            (λ (e : at ≡ head).
            let has_it = t.whole y m (record { name = asked_first.3; life = asked_gone }) (sym e) in
            let same : get_or p.waiting at 0 ≡ waits = ap (λ (i : ℕ). get_or p.waiting i 0) e in
            let now : get_or ws at 0 ≡ waits - 1 = ap (λ (i : ℕ). get_or ws i 0) e ∙ get_or-set_same p.waiting head (waits - 1) 0 (omega (arith, head_below, k.gone.waiting_len)) in
            omega (arith, one_less u t.among has_it, t.waits))
            (λ (ne : at ≢ head).
            get_or-set_other p.waiting head at (waits - 1) 0 ne ∙ t.waits ∙ count_alike _ _ u (λ n a. ap not (sym (as_before n (apart n a ne)))))
          where
            apart : (n : Name) → Among u n → at ≢ head → same_name m n ≡ false
            apart n a ne = differs m n (λ e.
                let j = t.inside n (among_has u n a) in
                let here = k.names.alone j.0 y m (j.1.name ∙ ap (λ (x : Name). Some x) (sym e)) asked_first.3 in
                ne (sym j.2 ∙ ap (first_at p.firsts) here))

    removed_agreed : RemovedShow z p.names agreed_ls ps p.left p.swept Idle agreed_rs w.found w.swept
    removed_agreed = removed_changed m (λ r. record r { stage = AtFinished }) (λ r. refl) y k.names removed_polled asked_first.3 lives_agreed refl
        (λ i ne. (get_or-set_other p.lives y i Finished Free ne, refl))
        (λ t. record { name = m; stage = stage_of (sym (get_or-set_same p.lives y Finished Free (gone_below p.lives y asked_gone)) t); polls = get_or ps y 0 })

    abbrev next_ready : Option Name
    next_ready = if list_all (at_end agreed_rs) unit then first_member unit else None

    ready_now : ReadyAt p.names (finished_unit head (waits - 1)) next_ready
    ready_now = go (waits - 1) (omega (arith, lies.1.waits, one_less unit lies.1.among has_m))
      where
        first : (u : List Name) → has u m ≡ true → AreLinked p.names p.next head u → ReadyAt p.names (Some head) (first_member u)
        first [] e l = absurd cc
        first (n ∷ u) e l = l.0

        go : (c : ℕ) → c ≡ count_by (λ n. not (at_end agreed_rs n)) unit → ReadyAt p.names (finished_unit head c) next_ready
        go zero e = subst (λ (b : Bool). ReadyAt p.names (Some head) (if b then first_member unit else None)) (sym (none_count (at_end agreed_rs) unit (sym e))) (first unit has_m lies.1.linked)
        go (suc c) e = subst (λ (b : Bool). ReadyAt p.names None (if b then first_member unit else None)) (sym (some_count (at_end agreed_rs) unit (omega (arith, e)))) tt

    pub agreed_legal : LegalFrom z s (by Collector (asked_acts m poll true))
    agreed_legal = (asked_may true, (record { finishes = refl; may = gathered }, tt))

    pub agreed_shows : ShowsWorld z
        (record p {
          objects = record (p.objects) { lives = agreed_ls };
          ends =
              record (p.ends)
              { queue = record (p.queue) { ring = drop 1 p.queue.ring }; polls = ps; waiting = ws; done = finished_unit head (waits - 1) };
        })
        (at_stage (polled w m poll) m AtFinished) s.marks.kept s.marks.fresh s.marks.scanned (Some m)
    agreed_shows = purged_shows k idle lives_agreed removed_agreed gone_agreed
        (λ lane. count_stays m (λ r. record r { stage = AtFinished }) (λ r. refl) lane polled_rs ∙ count_stays m (λ r. record r { polls = poll }) (λ r. refl) lane w.removals)
        refl
        (record {
          todo = [];
          ring = asked_first.1;
          ready = next_ready;
          todo_at = none_waits;
          ring_at = asked_first.4;
          ready_at = ready_now;
          queue = queue_agreed asks' poll unit ordered has_m;
        })
