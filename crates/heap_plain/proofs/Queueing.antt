-- The queue of destruction, by index.
use Rattle.std.proofs.Common.{◌≡◌, ℕ, refl, sym, ap, ◌∙◌, inl, inr, suc, List, [], ◌∷◌, ◌++◌, length, Option, Some, None}
use Rattle.world_model.specs.World.{Removal}
use Rattle.world_model.proofs.ListFacts.{Among}
use Rattle.heap_plain.specs.Types.{Name}
use Rattle.heap_plain.specs.Queue.{Queued}
use Rattle.heap_plain.specs.Parts.{name_at}
use Rattle.heap_plain.specs.Destroying.{AreNamed, ReadyAt, QueueShows, GatherShows}

-- ---- names at indexes

-- where named indexes keep their names
pub named_more : (names ns : List (Option Name)) → ((i : ℕ) (n : Name) → name_at names i ≡ Some n → name_at ns i ≡ Some n) → (at : List ℕ) (of : List Name) → AreNamed names at of → AreNamed ns at of
named_more names ns keep [] [] h = tt
named_more names ns keep [] (n ∷ of) h = absurd h
named_more names ns keep (i ∷ at) [] h = absurd h
named_more names ns keep (i ∷ at) (n ∷ of) h = (keep i n h.0, named_more names ns keep at of h.1)

pub ready_more : (names ns : List (Option Name)) → ((i : ℕ) (n : Name) → name_at names i ≡ Some n → name_at ns i ≡ Some n)
    → (done : Option ℕ) (ready : Option Name) → ReadyAt names done ready → ReadyAt ns done ready
ready_more names ns keep None None h = tt
ready_more names ns keep None (Some n) h = absurd h
ready_more names ns keep (Some i) None h = absurd h
ready_more names ns keep (Some i) (Some n) h = keep i n h

pub queue_more : {names ns : List (Option Name)} {q : Queued} {done : Option ℕ} {removals : List Removal}
    {units : List (List Name)} {found : List Name} {asked : Option Name}
    → ((i : ℕ) (n : Name) → name_at names i ≡ Some n → name_at ns i ≡ Some n)
    → QueueShows names q done removals units found asked
    → QueueShows ns q done removals units found asked
queue_more {names} {ns} keep k = record {
  todo = k.todo;
  ring = k.ring;
  ready = k.ready;
  todo_at = named_more names ns keep _ k.todo k.todo_at;
  ring_at = named_more names ns keep _ k.ring k.ring_at;
  ready_at = ready_more names ns keep _ k.ready k.ready_at;
  queue = k.queue;
}

pub gather_more : {names ns : List (Option Name)} {q : Queued} {done : Option ℕ} {removals : List Removal} {units : List (List Name)} {found : List Name}
    → ((i : ℕ) (n : Name) → name_at names i ≡ Some n → name_at ns i ≡ Some n) → GatherShows names q done removals units found
    → GatherShows ns q done removals units found
gather_more {names} {ns} keep g = record {
  none_begun = g.none_begun;
  none_done = g.none_done;
  listed_at = named_more names ns keep _ _ g.listed_at;
}

-- in a row
pub named_append : (names : List (Option Name)) (at : List ℕ) (of : List Name) (at' : List ℕ) (of' : List Name) → AreNamed names at of → AreNamed names at' of' → AreNamed names (at ++ at') (of ++ of')
named_append names [] [] at' of' h k = k
named_append names [] (n ∷ of) at' of' h k = absurd h
named_append names (i ∷ at) [] at' of' h k = absurd h
named_append names (i ∷ at) (n ∷ of) at' of' h k = (h.0, named_append names at of at' of' h.1 k)

pub named_length : (names : List (Option Name)) (at : List ℕ) (of : List Name) → AreNamed names at of → length at ≡ length of
named_length names [] [] h = refl
named_length names [] (n ∷ of) h = absurd h
named_length names (i ∷ at) [] h = absurd h
named_length names (i ∷ at) (n ∷ of) h = ap suc (named_length names at of h.1)

-- an index has its name
pub named_in : (names : List (Option Name)) (at : List ℕ) (of : List Name) → AreNamed names at of → (i : ℕ) → Among at i → (n : Name) × Among of n × (name_at names i ≡ Some n)
named_in names [] [] h i a = absurd a
named_in names [] (n ∷ of) h i a = absurd h
named_in names (j ∷ at) [] h i a = absurd h
named_in names (j ∷ at) (n ∷ of) h i (inl e) = (n, inl refl, ap (name_at names) (sym e) ∙ h.0)
named_in names (j ∷ at) (n ∷ of) h i (inr a) = let r = named_in names at of h.1 i a in (r.0, inr r.1, r.2)

-- the first name is at the first index
pub named_first : (names : List (Option Name)) (i : ℕ) (at : List ℕ) (of : List Name) → AreNamed names (i ∷ at) of
    → (n : Name) × (rest : List Name) × (of ≡ n ∷ rest) × (name_at names i ≡ Some n) × AreNamed names at rest
named_first names i at [] h = absurd h
named_first names i at (n ∷ of) h = (n, of, refl, h.0, h.1)

-- at no index stands no name
pub named_none : (names : List (Option Name)) (of : List Name) → AreNamed names [] of → of ≡ []
named_none names [] h = refl
named_none names (n ∷ of) h = absurd h
