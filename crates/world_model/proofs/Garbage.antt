-- Garbage that outlives a collection.
use Rattle.std.proofs.Common.{◌≡◌, ℕ, refl, sym, subst, ap, ◌∙◌, inl, inr, lit<, lit≤, Bool, true, false, ◌==◌, ◌||◌, List, [], ◌∷◌, ◌++◌, take, Option, Some, None, IfSome, ◌⊎◌}
use Rattle.std.specs.List.{list_all}
use Rattle.std.proofs.lemmas.Bool.{or_cases, or_left, or_right, eqb-true}
use Rattle.std.proofs.lemmas.List.Folds.{list_all-append}
use Rattle.world_model.specs.Types.{Name, Pass, Act, Entry}
use Rattle.world_model.specs.Types.act
use Rattle.world_model.specs.Types.begin
use Rattle.world_model.specs.Sizes.{small}
use Rattle.world_model.specs.NameLists.{has}
use Rattle.world_model.specs.World.{World}
use Rattle.world_model.specs.Reach.{graph, IsUnit, IsRoot, IsReached, Refers}
use Rattle.world_model.specs.State.{State, beginning, is_marked}
use Rattle.world_model.specs.Next.{next_world, next, run}
use Rattle.world_model.specs.Histories.{Legal, state_of, after}
use Rattle.world_model.specs.Laws.{started, done}
use Rattle.world_model.specs.Examples.{name, garbage, garbage_stored, garbage_scanned, garbage_marked, GarbageStays}
use Rattle.world_model.proofs.ListFacts.{and_true, all_contain}
use Rattle.world_model.proofs.Joins.{legal_join}
use Rattle.world_model.proofs.Busy.{AllCells, all_cells_set}
use Rattle.world_model.proofs.Removals.{held_lives_holds}

-- ---- no root

-- an act that puts nothing into the root set
abbrev roots_none : Act → Bool
roots_none (act.Root at on old) = false
roots_none (act.SetStrong h to old) = false
roots_none (act.CommitGc reply) = false
roots_none _ = true

-- nothing is in the root set
abbrev Rootless : World → Type 0
Rootless w = (n : Name) → IsRoot (graph w) n → ⊥

rootless_next : (s : State) (p : Pass) (a : Act) → roots_none a ≡ true → Rootless s.world → Rootless (next_world s.marks s.world p a)
rootless_next s p (act.Root at on old) none h = absurd cc
rootless_next s p (act.SetStrong number to old) none h = absurd cc
rootless_next s p (act.CommitGc reply) none h = absurd cc
rootless_next s p (act.BeginGc begin.Started) none h = λ n root. h n root
rootless_next s p _ none h = λ n root. h n root

rootless : (s : State) (entries : List Entry) → list_all (λ e. roots_none e.act) entries ≡ true → Rootless s.world → Rootless (run s entries).world
rootless s [] none h = h
rootless s (e ∷ entries) none h = let parts = and_true _ _ none in rootless (next s e) entries parts.1 (rootless_next s e.pass e.act parts.0 h)

first_rootless : Rootless beginning.world
first_rootless n (inl is) = absurd cc
first_rootless n (inr (lane, number, e)) = absurd cc

-- where nothing is in the root set nothing is reached
unreached : (xs ys : List Entry) → xs ++ ys ≡ garbage_marked → (u : List Name) → IsReached (graph (after xs)) u → ⊥
unreached xs ys whole u reached =
    let all : list_all (λ e. roots_none e.act) (xs ++ ys) ≡ true = ap (list_all (λ (e : Entry). roots_none e.act)) whole in
    let parts = and_true _ _ (sym (list_all-append (λ (e : Entry). roots_none e.act) xs ys) ∙ all) in
    rootless beginning xs parts.0 first_rootless reached.is_root.0 reached.is_root.2

-- ---- the history is legal

garbage_legal : Legal small garbage
garbage_legal = (
  record { in_range = lit< tt; frame = refl; may = refl },
  (
    record {
      in_range = lit< tt;
      frame = record { opened = refl; continues = tt; parts = tt };
      may = record { some = lit≤ tt; few = lit≤ tt; lawful = refl; next = refl; names = lit≤ tt; room = lit≤ tt };
    },
    (
      record { in_range = lit< tt; frame = record { opened = refl; continues = tt; parts = tt }; may = record { held = refl; pair = record { left = lit< tt; serial = refl; index = lit< tt } } },
      (
        record {
          in_range = lit< tt;
          frame = record { opened = refl; continues = tt; parts = tt };
          may = record { some = lit≤ tt; few = lit≤ tt; lawful = refl; next = refl; names = lit≤ tt; room = lit≤ tt };
        },
        (
          record { in_range = lit< tt; frame = record { opened = refl; continues = tt; parts = tt }; may = record { held = refl; pair = record { left = lit< tt; serial = refl; index = lit< tt } } },
          (
            record {
              in_range = lit< tt;
              frame = record { opened = refl; continues = tt; parts = tt };
              may = record { some = lit≤ tt; few = lit≤ tt; lawful = refl; next = refl; names = lit≤ tt; room = lit≤ tt };
            },
            (
              record {
                in_range = lit< tt;
                frame = record { opened = refl; continues = tt; parts = tt };
                may = record { place = record { held = refl; in_range = lit< tt }; held = refl; was = refl; shaded = λ marking. absurd cc };
              },
              (
                record { in_range = lit< tt; frame = record { opened = refl; continues = tt; parts = tt }; may = tt },
                tt,
              ),
            ),
          ),
        ),
      ),
    ),
  ),
)

stored_legal : Legal small (garbage ++ started ∷ garbage_stored)
stored_legal = legal_join small beginning garbage (started ∷ garbage_stored) garbage_legal (
  record { finishes = refl; may = (record { idle = refl; released = refl }, refl) },
  (
    record { in_range = lit< tt; frame = refl; may = refl },
    (
      record { in_range = lit< tt; frame = record { opened = refl; continues = tt; parts = tt }; may = refl },
      (
        record { in_range = lit< tt; frame = record { opened = refl; continues = tt; parts = tt }; may = refl },
        (
          record { in_range = lit< tt; frame = record { opened = refl; continues = tt; parts = tt }; may = record { white = record { marking = refl; living = refl; unmarked = refl }; held = refl } },
          (
            record {
              in_range = lit< tt;
              frame = record { opened = refl; continues = refl; parts = tt };
              may = record { place = record { held = refl; in_range = lit< tt }; held = refl; was = refl; shaded = λ marking. refl };
            },
            tt,
          ),
        ),
      ),
    ),
  ),
)

-- the state in which the third object is marked
abbrev third_marked : State
third_marked = state_of ((garbage ++ started ∷ garbage_stored) ++ take 3 garbage_scanned)

-- each reference names the second object or the third
one_of_two : AllCells (λ n. (n ≡ name 2) ⊎ (n ≡ name 3)) third_marked.world.cell
one_of_two = all_cells_set (λ n. (n ≡ name 2) ⊎ (n ≡ name 3)) _ (name 1) 0 (Some (name 2))
    (all_cells_set (λ n. (n ≡ name 2) ⊎ (n ≡ name 3)) (λ n slot. None) (name 2) 0 (Some (name 3)) (λ n slot. tt) (inr refl)) (inl refl)

-- and these are marked
targets_marked : (u v : List Name) → IsUnit (graph third_marked.world) v → Refers (graph third_marked.world) u v → is_marked third_marked.marks v ≡ true
targets_marked u v unit r =
    all_contain (λ v. (has v (name 2) || has v (name 3)) ≡ true → is_marked third_marked.marks v ≡ true) third_marked.world.units
    (λ h. absurd cc, (λ h. refl, (λ h. refl, tt))) v unit
    (go (subst (λ (o : Option Name). IfSome o (λ n. (n ≡ name 2) ⊎ (n ≡ name 3))) r.cell (one_of_two r.from r.slot)))
  where
    go : (r.to ≡ name 2) ⊎ (r.to ≡ name 3) → (has v (name 2) || has v (name 3)) ≡ true
    go (inl e) = or_left _ _ (subst (λ (n : Name). has v n ≡ true) e r.target)
    go (inr e) = or_right _ _ (subst (λ (n : Name). has v n ≡ true) e r.target)

marked_legal : Legal small ((garbage ++ started ∷ garbage_stored) ++ garbage_scanned)
marked_legal = legal_join small beginning (garbage ++ started ∷ garbage_stored) garbage_scanned stored_legal (
  record { in_range = lit< tt; frame = record { opened = refl; continues = tt; parts = tt }; may = tt },
  (
    record { in_range = lit< tt; slice = refl; may = tt },
    (
      record {
        in_range = lit< tt;
        slice = refl;
        may =
            record {
              white = record { marking = refl; living = refl; unmarked = refl };
              from = name 2 ∷ [];
              unit = (1, lit< tt, refl);
              grey = refl;
              refers = inl (record { from = name 2; slot = 0; to = name 3; cell = refl; member = refl; target = refl });
            };
      },
      (
        record { in_range = lit< tt; slice = refl; may = record { marking = refl; living = refl; grey = refl; targets = λ v unit r. targets_marked (name 2 ∷ []) v unit r } },
        (
          record { in_range = lit< tt; slice = refl; may = record { marking = refl; living = refl; grey = refl; targets = λ v unit r. targets_marked (name 3 ∷ []) v unit r } },
          (
            record { in_range = lit< tt; slice = refl; may = record { scanned = refl; within = lit< tt; stop = (lit< tt, inl refl) } },
            tt,
          ),
        ),
      ),
    ),
  ),
)

whole_legal : Legal small (garbage_marked ++ done ∷ [])
whole_legal = legal_join small beginning garbage_marked (done ∷ []) marked_legal (
  record { finishes = refl; may = record { marking = refl; closed = refl; black = refl; unreached = λ u unit white reached. unreached garbage_marked [] refl u reached } },
  tt,
)

-- the one open lane does not hold the third object
unheld : (lane : ℕ) → has ((state_of (garbage ++ started ∷ garbage_stored)).frames lane).held (name 3) ≡ true → ⊥
unheld lane held = go (or_cases _ _ (held_lives_holds small (garbage ++ started ∷ garbage_stored) stored_legal lane (name 3) held).1)
  where
    go : ((lane == 0) ≡ true) ⊎ (false ≡ true) → ⊥
    go (inl e) =
        let wrong : has ((state_of (garbage ++ started ∷ garbage_stored)).frames 0).held (name 3) ≡ true =
        subst (λ (i : ℕ). has ((state_of (garbage ++ started ∷ garbage_stored)).frames i).held (name 3) ≡ true) (eqb-true lane 0 e) held in
        cc
    go (inr e) = cc

pub garbage_stays : GarbageStays
garbage_stays = record {
  legal = whole_legal;
  unreached = unreached;
  unheld = unheld;
  unnamed = refl;
  stays = (1, lit< tt, refl);
}
