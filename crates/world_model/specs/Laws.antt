-- Laws of histories and of reachability.
use Rattle.std.specs.Prelude.{◌≡◌, ◌↔◌, ℕ, Bool, true, false, List, [], ◌∷◌, ◌++◌, IsTrue}
use Rattle.std.specs.List.{AllByRecursion}
use Rattle.world_model.specs.Types.{Name, Collector, Act, Entry}
use Rattle.world_model.specs.Types.act
use Rattle.world_model.specs.Types.begin
use Rattle.world_model.specs.Types.commit
use Rattle.world_model.specs.Sizes.{Sizes}
use Rattle.world_model.specs.Reach.{Graph, graph, IsUnit, Refers, IsRootUnit, IsReached}
use Rattle.world_model.specs.Next.{run}
use Rattle.world_model.specs.Histories.{state_of, after, Step, Legal, LegalFrom}
use Rattle.world_model.specs.Calls.{Collects}

-- Histories can be joined: the second goes on from what the first leaves, and is legal from there.
pub record HistoriesJoin : Type 0 where
  pub state : (xs ys : List Entry) → state_of (xs ++ ys) ≡ run (state_of xs) ys
  pub legal : (z : Sizes) (xs ys : List Entry) → Legal z (xs ++ ys) ↔ (Legal z xs × LegalFrom z (state_of xs) ys)
  pub one_more : (z : Sizes) (xs : List Entry) (e : Entry) → Legal z (xs ++ e ∷ []) ↔ (Legal z xs × Step z xs e)

abbrev pub started : Entry
started = record { pass = Collector; act = act.BeginGc begin.Started }

abbrev pub done : Entry
done = record { pass = Collector; act = act.CommitGc commit.Done }

-- quiet: nothing is made, and no reference or root is written
abbrev pub is_quiet : Act → Bool
is_quiet (act.Make kinds first) = false
is_quiet (act.WriteRef at slot to old) = false
is_quiet (act.Root at on old) = false
is_quiet (act.SetStrong h to old) = false
is_quiet _ = true

-- the units of the new graph are the reached ones of the old graph
abbrev pub KeepsReached : Graph → Graph → Type 0
KeepsReached old new = (u : List Name) → IsUnit new u ↔ IsReached old u

-- A collection that is quiet from its start to its commit keeps the reached units and no others.
abbrev pub QuietIsExact : Type 0
QuietIsExact =
    (z : Sizes) (before during : List Entry)
    → Legal z ((before ++ started ∷ during) ++ done ∷ [])
    → AllByRecursion (λ e. IsTrue (is_quiet e.act)) during
    → KeepsReached (graph (after (before ++ started ∷ during))) (graph (after ((before ++ started ∷ during) ++ done ∷ [])))

-- A whole collection while nothing else runs keeps the units that were reached when it was asked for, and no others.
abbrev pub CollectIsExact : Type 0
CollectIsExact = (z : Sizes) (old new : List Entry) (budget : ℕ) → Collects z old new budget → KeepsReached (graph (after old)) (graph (after new))

-- a set of units has the root units and each unit to which one of its units refers
pub record IsClosed (g : Graph) (set : List Name → Bool) : Type 0 where
  pub roots : (u : List Name) → IsUnit g u → IsRootUnit g u → IsTrue (set u)
  pub refers : (u v : List Name) → IsUnit g v → IsTrue (set u) → Refers g u v → IsTrue (set v)

-- The reached units are the least set that has the root units and is closed under references.
pub record ReachByWalks (g : Graph) : Type 0 where
  pub roots : (u : List Name) → IsUnit g u → IsRootUnit g u → IsReached g u
  pub refers : (u v : List Name) → IsUnit g v → IsReached g u → Refers g u v → IsReached g v
  pub least : (set : List Name → Bool) → IsClosed g set → (u : List Name) → IsReached g u → IsTrue (set u)
