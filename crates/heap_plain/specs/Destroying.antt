-- The removed objects: how far their destruction is, and the queue of it.
use Rattle.std.specs.Prelude.{◌≡◌, ◌≢◌, ℕ, ◌≤◌, ◌&&◌, not, Bool, true, List, [], ◌∷◌, length, get_or, count_by, Option, Some, None}
use Rattle.std.specs.List.{list_any}
use Rattle.heap_plain.specs.Types.{Name, Phase, Idle, Gathering}
use Rattle.world_model.specs.Sizes.{Sizes, item_count}
use Rattle.world_model.specs.NameLists.{same_name, has, members}
use Rattle.world_model.specs.World.{World, empty_world, Removal, Removed as AtRemoved, Finished as AtFinished, has_stage, destruction_order}
use Rattle.world_model.specs.DestructionQueue.{IsQueue}
use Rattle.world_model.specs.Lists.{Among}
use Rattle.heap_plain.specs.declared.life.Life.{Life}
use Rattle.heap_plain.specs.Queue.{Queued}
use Rattle.heap_plain.specs.Parts.{Objects, Ends, name_at, life_at, first_at, is_gone, stage_of}
use Rattle.heap_plain.specs.Sweeping.{removed_names}
use Rattle.heap_plain.specs.Units.{AreLinked}

-- ---- removed objects

-- how many removed objects are left: while they are being found, those that are found
abbrev pub count_left : Phase → List Removal → List Name → ℕ
count_left Gathering removals found = length found
count_left _ removals found = length removals

-- the removal of the object at an index, where its stage and the number of its polls are kept
abbrev pub removal_at : List Life → List ℕ → ℕ → Name → Removal
removal_at lives polls i n = record { name = n; stage = stage_of (life_at lives i); polls = get_or polls i 0 }

-- the removal of an object that is not begun
abbrev pub removal_of : Name → Removal
removal_of n = record { name = n; stage = AtRemoved; polls = 0 }

pub record RemovedShow (z : Sizes) (names : List (Option Name)) (lives : List Life) (polls : List ℕ) (left swept : ℕ) (phase : Phase)
    (removals : List Removal) (found : List Name) (looked : ℕ) : Type 0 where
  pub swept_is : swept ≡ looked
  pub swept_few : swept ≤ item_count z
  pub polls_len : length polls ≡ item_count z
  pub removed : (i : ℕ) (n : Name) → name_at names i ≡ Some n → is_gone (life_at lives i) ≡ true → Among removals (removal_at lives polls i n)
  pub gone : (r : Removal) → Among removals r → (i : ℕ) × (name_at names i ≡ Some r.name) × (is_gone (life_at lives i) ≡ true)
  pub found_is : phase ≡ Gathering → found ≡ removed_names names lives 0 swept
  pub left_is : left ≡ count_left phase removals found
  pub left_few : phase ≡ Gathering → left ≤ swept

-- ---- removed units

-- an object stands at the index that is removed and not released
pub record GoneAt (names : List (Option Name)) (lives : List Life) (i : ℕ) (n : Name) : Type 0 where
  pub name : name_at names i ≡ Some n
  pub life : is_gone (life_at lives i) ≡ true

-- whether a removed object is finished
abbrev pub at_end : List Removal → Name → Bool
at_end removals n = list_any (λ r. same_name n r.name && has_stage AtFinished r.stage) removals

-- whether an object is removed and not released
abbrev pub still_there : List Removal → Name → Bool
still_there removals n = list_any (λ r. same_name n r.name) removals

-- the removed unit stands at the index of its first member, as a living one does, and waits for those of its members that are not finished
pub record LiesAt (o : Objects) (waiting : List ℕ) (removals : List Removal) (units : List (List Name)) (head : ℕ) (u : List Name) : Type 0 where
  pub among : Among units u
  pub life : is_gone (life_at o.lives head) ≡ true
  pub own : first_at o.firsts head ≡ head
  pub size : get_or o.sizes head 0 ≡ length u
  pub linked : AreLinked o.names o.next head u
  pub inside : (n : Name) → has u n ≡ true → (i : ℕ) × GoneAt o.names o.lives i n × (first_at o.firsts i ≡ head)
  pub whole : (i : ℕ) (n : Name) → GoneAt o.names o.lives i n → first_at o.firsts i ≡ head → has u n ≡ true
  pub waits : get_or waiting head 0 ≡ count_by (λ n. not (at_end removals n)) u

-- the units of the last commit, while they are not released
pub record GoneShow (z : Sizes) (o : Objects) (waiting : List ℕ) (removals : List Removal) (units : List (List Name)) : Type 0 where
  pub waiting_len : length waiting ≡ item_count z
  pub each : (i : ℕ) → is_gone (life_at o.lives i) ≡ true → (u : List Name) × LiesAt o waiting removals units (first_at o.firsts i) u
  pub all : (u : List Name) (n : Name) → Among units u → has u n ≡ true → still_there removals n ≡ true → (head : ℕ) × LiesAt o waiting removals units head u

-- ---- the queue of destruction

-- these objects stand at these indexes
abbrev pub AreNamed : List (Option Name) → List ℕ → List Name → Type 0
AreNamed names [] [] = Unit {0}
AreNamed names [] (n ∷ ns) = ⊥
AreNamed names (i ∷ is) [] = ⊥
AreNamed names (i ∷ is) (n ∷ ns) = (name_at names i ≡ Some n) × AreNamed names is ns

abbrev pub ReadyAt : List (Option Name) → Option ℕ → Option Name → Type 0
ReadyAt names None None = Unit {0}
ReadyAt names (Some i) (Some n) = name_at names i ≡ Some n
ReadyAt names _ _ = ⊥

-- a world of these removed objects
abbrev pub gone_world : List Removal → List (List Name) → List Name → World
gone_world removals units found = record empty_world { removals = removals; last_removed = units; found = found }

-- The queue, while removed objects are being destroyed.
pub record QueueShows (names : List (Option Name)) (q : Queued) (done : Option ℕ) (removals : List Removal) (units : List (List Name)) (found : List Name) (asked : Option Name) : Type 0 where
  pub todo : List Name
  pub ring : List Name
  pub ready : Option Name
  pub todo_at : AreNamed names q.todo todo
  pub ring_at : AreNamed names q.ring ring
  pub ready_at : ReadyAt names done ready
  pub queue : IsQueue (gone_world removals units found) asked todo ring ready

-- The queue, while removed objects are being found: the members of the units that are found.
pub record GatherShows (names : List (Option Name)) (q : Queued) (done : Option ℕ) (removals : List Removal) (units : List (List Name)) (found : List Name) : Type 0 where
  pub none_begun : q.ring ≡ []
  pub none_done : done ≡ None
  pub listed_at : AreNamed names q.todo (members (destruction_order (gone_world removals units found)))

-- ---- all of it

-- the ends show the removed objects and units, and how they are destroyed; none is asked before all are found
pub record Destroying (z : Sizes) (phase : Phase) (o : Objects) (e : Ends) (removals : List Removal) (units : List (List Name)) (found : List Name) (looked : ℕ) (asked : Option Name) : Type 0 where
  pub removed : RemovedShow z o.names o.lives e.polls e.left e.swept phase removals found looked
  pub gone : GoneShow z o e.waiting removals units
  pub room : e.queue.room ≡ item_count z
  pub gathers : phase ≡ Gathering → GatherShows o.names e.queue e.done removals units found
  pub queue : phase ≡ Idle → QueueShows o.names e.queue e.done removals units found asked
  pub none_asked : phase ≢ Idle → asked ≡ None
