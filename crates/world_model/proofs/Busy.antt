-- The busy history is legal.
use Rattle.std.proofs.Common.{◌≡◌, ℕ, refl, sym, subst, inl, inr, lit<, lit≤, arith, Bool, cond, List, [], ◌∷◌, drop, take, true, false, Option, Some, None, IfSome, ◌==◌}
use Rattle.std.specs.Int.RustNames.{count_ones}
use Rattle.std.proofs.lemmas.Option.{cond_some}
use Rattle.world_model.specs.Types.{Name}
use Rattle.world_model.specs.Sizes.{small}
use Rattle.world_model.specs.NameLists.{same_name, has, set_at, set_name}
use Rattle.world_model.specs.Reach.{graph, IsUnit, IsRoot, IsRootUnit, Refers}
use Rattle.world_model.specs.State.{State, beginning, is_marked}
use Rattle.world_model.specs.Histories.{Legal, state_of}
use Rattle.world_model.specs.Laws.{IsClosed}
use Rattle.world_model.specs.Examples.{name, four_made, four_linked, root_marked, slice_opened, second_met, second_marked, cluster_removed, half_begun, all_begun, half_finished, cluster_released, busy}
use Rattle.world_model.proofs.ListFacts.{all_contain}
use Rattle.world_model.proofs.NameFacts.{member_of_one}
use Rattle.world_model.proofs.Joins.{legal_join}
use Rattle.world_model.proofs.Reaches.{outside_closed}

pub four_made_legal : Legal small four_made
four_made_legal = (
  record { in_range = lit< tt; frame = refl; may = refl },
  (
    record {
      in_range = lit< tt;
      frame = record { opened = refl; continues = tt; parts = tt };
      may = record { some = lit≤ tt; few = lit≤ tt; lawful = refl; next = refl; names = lit≤ tt; room = lit≤ tt };
    },
    (
      record { in_range = lit< tt; frame = record { opened = refl; continues = tt; parts = tt }; may = record { number = lit< tt; held = refl; was = refl; shaded = λ marking. absurd cc } },
      (
        record {
          in_range = lit< tt;
          frame = record { opened = refl; continues = tt; parts = tt };
          may = record { some = lit≤ tt; few = lit≤ tt; lawful = refl; next = refl; names = lit≤ tt; room = lit≤ tt };
        },
        (
          record { in_range = lit< tt; frame = record { opened = refl; continues = tt; parts = tt }; may = record { held = refl; pair = record { left = lit< tt; serial = refl; index = lit< tt } } },
          (
            record {
              in_range = lit< tt;
              frame = record { opened = refl; continues = tt; parts = tt };
              may = record { some = lit≤ tt; few = lit≤ tt; lawful = refl; next = refl; names = lit≤ tt; room = lit≤ tt };
            },
            tt,
          ),
        ),
      ),
    ),
  ),
)

pub four_linked_legal : Legal small four_linked
four_linked_legal = legal_join small beginning four_made (drop 6 four_linked) four_made_legal (
  record { in_range = lit< tt; frame = record { opened = refl; continues = tt; parts = tt }; may = record { held = refl; pair = record { left = lit< tt; serial = refl; index = lit< tt } } },
  (
    record {
      in_range = lit< tt;
      frame = record { opened = refl; continues = tt; parts = tt };
      may = record { place = record { held = refl; in_range = lit< tt }; held = refl; was = refl; shaded = λ marking. absurd cc };
    },
    (
      record { in_range = lit< tt; frame = record { opened = refl; continues = tt; parts = tt }; may = (record { held = refl; first = lit≤ tt; last = lit< tt }, refl) },
      (
        record { in_range = lit< tt; frame = record { opened = refl; continues = tt; parts = tt }; may = tt },
        tt,
      ),
    ),
  ),
)

pub root_marked_legal : Legal small root_marked
root_marked_legal = legal_join small beginning four_linked (drop 10 root_marked) four_linked_legal (
  record { finishes = refl; may = (record { idle = refl; released = refl }, refl) },
  (
    record { finishes = refl; may = record { white = record { marking = refl; living = refl; unmarked = refl }; started = refl; root = inl (name 1, refl, inr (0, 0, refl)) } },
    tt,
  ),
)

pub slice_opened_legal : Legal small slice_opened
unfolding count_ones
slice_opened_legal = legal_join small beginning root_marked (drop 12 slice_opened) root_marked_legal (
  record { finishes = refl; may = record { marking = refl; some = lit< tt; few = lit≤ tt } },
  (
    record { in_range = lit< tt; slice = refl; may = tt },
    tt,
  ),
)

-- the cells of the first object are empty
scans_first : (v : List Name) → IsUnit (graph (state_of slice_opened).world) v → Refers (graph (state_of slice_opened).world) (name 1 ∷ []) v → is_marked (state_of slice_opened).marks v ≡ true
scans_first v unit r =
    let first : r.from ≡ name 1 = member_of_one r.from (name 1) r.member in
    let wrong : ◌≡◌ {A = Option Name} None (Some r.to) = subst (λ (n : Name). (state_of slice_opened).world.cell n r.slot ≡ Some r.to) first r.cell in
    absurd cc

pub second_met_legal : Legal small second_met
second_met_legal = legal_join small beginning slice_opened (drop 14 second_met) slice_opened_legal (
  record { in_range = lit< tt; slice = refl; may = record { marking = refl; living = refl; grey = refl; targets = scans_first } },
  (
    record { in_range = lit< tt; slice = refl; may = record { scanned = refl; within = lit< tt; stop = lit≤ tt } },
    (
      record { in_range = lit< tt; frame = refl; may = refl },
      (
        record { in_range = lit< tt; frame = record { opened = refl; continues = tt; parts = tt }; may = (lit< tt, refl) },
        (
          record { in_range = lit< tt; frame = record { opened = refl; continues = tt; parts = tt }; may = refl },
          tt,
        ),
      ),
    ),
  ),
)

pub second_marked_legal : Legal small second_marked
second_marked_legal = legal_join small beginning second_met (drop 19 second_marked) second_met_legal (
  record { in_range = lit< tt; frame = record { opened = refl; continues = tt; parts = tt }; may = record { white = record { marking = refl; living = refl; unmarked = refl }; held = refl } },
  tt,
)

-- ---- the commit

-- the state in which the collection is to commit
abbrev pub to_commit : State
to_commit = state_of (take 25 cluster_removed)

-- what a choice gives, one side gives
either_side : {A : Type 0} (Q : A → Type 0) (b : Bool) (x y : Option A) → IfSome x Q → IfSome y Q → IfSome (cond b x y) Q
either_side Q true x y p q = p
either_side Q false x y p q = q

-- each cell that is not empty names an object with Q
abbrev pub AllCells : (Name → Type 0) → (Name → ℕ → Option Name) → Type 0
AllCells Q cell = (n : Name) (slot : ℕ) → IfSome (cell n slot) Q

pub all_cells_set : (Q : Name → Type 0) (cell : Name → ℕ → Option Name) (at : Name) (slot : ℕ) (to : Option Name) → AllCells Q cell → IfSome to Q
    → AllCells Q (set_name cell at (set_at (cell at) slot to))
all_cells_set Q cell at slot to all new n k = go (same_name n at)
  where
    go : (b : Bool) → IfSome ((cond b (set_at (cell at) slot to) (cell n)) k) Q
    go true = either_side Q _ to (cell at k) new (all at k)
    go false = all n k

-- each reference names the second object
all_second : AllCells (λ n. n ≡ name 2) to_commit.world.cell
all_second = all_cells_set (λ n. n ≡ name 2) _ (name 1) 0 (Some (name 2)) (all_cells_set (λ n. n ≡ name 2) (λ n slot. None) (name 4) 0 (Some (name 2)) (λ n slot. tt) refl) refl

is_second : (u v : List Name) (r : Refers (graph to_commit.world) u v) → r.to ≡ name 2
is_second u v r = subst (λ (o : Option Name). IfSome o (λ n. n ≡ name 2)) r.cell (all_second r.from r.slot)

-- the root set is the first object
pub is_first : (n : Name) → IsRoot (graph (state_of four_linked).world) n → name 1 ≡ n
is_first n (inl rooted) = absurd (let wrong : false ≡ true = rooted in cc)
is_first n (inr strong) = (cond_some _ _ _ (inner strong.0 strong.1 strong.2)).1
  where
    inner : (lane number : ℕ) → (state_of four_linked).world.strong lane number ≡ Some n → cond (number == 0) (Some (name 1)) None ≡ Some n
    inner lane number e = go (lane == 0) e
      where
        go : (b : Bool) → (cond {A = ℕ → Option Name} b (λ k. cond (k == 0) (Some (name 1)) None) (λ k. None)) number ≡ Some n → cond (number == 0) (Some (name 1)) None ≡ Some n
        go true h = h
        go false h = absurd (let wrong : ◌≡◌ {A = Option Name} None (Some n) = h in cc)

-- a unit without the first object is no root unit
pub no_root : (u : List Name) → has u (name 1) ≡ false → IsRootUnit (graph (state_of four_linked).world) u → ⊥
no_root u out r = let wrong : has u (name 1) ≡ true = subst (λ (n : Name). has u n ≡ true) (sym (is_first r.0 r.2)) r.1 in cc

-- the marked units are closed: the first is marked, and the second
marked_closed : IsClosed (graph to_commit.world) (is_marked to_commit.marks)
marked_closed = record {
  roots =
      all_contain (λ u. IsRootUnit (graph to_commit.world) u → is_marked to_commit.marks u ≡ true) to_commit.world.units
      (λ r. refl, (λ r. refl, (λ r. absurd (no_root (name 3 ∷ name 4 ∷ []) refl r), tt)));
  refers = λ u v unit is r. all_contain (λ v. has v (name 2) ≡ true → is_marked to_commit.marks v ≡ true) to_commit.world.units (λ h. refl, (λ h. refl, (λ h. absurd cc, tt))) v unit
      (subst (λ (n : Name). has v n ≡ true) (is_second u v r) r.target);
}

-- the cells of the second object are empty
scans_second : (v : List Name) → IsUnit (graph to_commit.world) v → Refers (graph to_commit.world) (name 2 ∷ []) v → is_marked to_commit.marks v ≡ true
scans_second v unit r =
    let second : r.from ≡ name 2 = member_of_one r.from (name 2) r.member in
    let wrong : ◌≡◌ {A = Option Name} None (Some r.to) = subst (λ (n : Name). to_commit.world.cell n r.slot ≡ Some r.to) second r.cell in
    absurd cc

pub cluster_removed_legal : Legal small cluster_removed
cluster_removed_legal = legal_join small beginning second_marked (drop 20 cluster_removed) second_marked_legal (
  record {
    in_range = lit< tt;
    frame = record { opened = refl; continues = refl; parts = tt };
    may = record { place = record { held = refl; in_range = lit< tt }; held = refl; was = refl; shaded = λ marking. refl };
  },
  (
    record { in_range = lit< tt; frame = record { opened = refl; continues = tt; parts = tt }; may = tt },
    (
      record { in_range = lit< tt; slice = refl; may = tt },
      (
        record { in_range = lit< tt; slice = refl; may = record { marking = refl; living = refl; grey = refl; targets = scans_second } },
        (
          record { in_range = lit< tt; slice = refl; may = record { scanned = refl; within = lit< tt; stop = (lit< tt, inl refl) } },
          (
            record {
              finishes = refl;
              may =
                  record {
                    marking = refl;
                    closed = refl;
                    black = refl;
                    unreached = λ u unit white. outside_closed (graph to_commit.world) (is_marked to_commit.marks) marked_closed u white;
                  };
            },
            tt,
          ),
        ),
      ),
    ),
  ),
)

-- ---- destruction

pub half_begun_legal : Legal small half_begun
half_begun_legal = legal_join small beginning cluster_removed (drop 26 half_begun) cluster_removed_legal (
  record { finishes = refl; may = (record { gathering = refl; within = lit≤ tt; count = refl; looked = lit≤ tt; different = refl; removed = refl; new = refl }, lit< tt) },
  (
    record { finishes = refl; may = (record { gathering = refl; within = lit≤ tt; count = refl; looked = lit≤ tt; different = refl; removed = refl; new = refl }, refl, refl) },
    (
      record { finishes = refl; may = record { gathered = λ e. cc; next = refl } },
      tt,
    ),
  ),
)

pub all_begun_legal : Legal small all_begun
all_begun_legal = legal_join small beginning half_begun (drop 29 all_begun) half_begun_legal (
  record { finishes = refl; may = record { gathered = λ e. cc; next = refl } },
  (
    record { finishes = refl; may = record { gathered = λ e. cc; ran = refl; within = lit≤ tt; rest = refl; early = λ h. absurd (omega arith) } },
    (
      record { finishes = refl; may = (refl, refl, lit< tt) },
      tt,
    ),
  ),
)

pub half_finished_legal : Legal small half_finished
half_finished_legal = legal_join small beginning all_begun (drop 32 half_finished) all_begun_legal (
  record { finishes = refl; may = record { gathered = λ e. cc; begun = refl; waiting = refl; next = refl; number = refl } },
  (
    record { finishes = refl; may = record { gathered = λ e. cc; begun = refl; waiting = refl; next = refl; number = refl } },
    (
      record { finishes = refl; may = record { gathered = λ e. cc; begun = refl; waiting = refl; next = refl; number = refl } },
      (
        record { finishes = refl; may = λ e. cc },
        tt,
      ),
    ),
  ),
)

pub cluster_released_legal : Legal small cluster_released
cluster_released_legal = legal_join small beginning half_finished (drop 36 cluster_released) half_finished_legal (
  record { finishes = refl; may = record { gathered = λ e. cc; begun = refl; waiting = refl; next = refl; number = refl } },
  (
    record { finishes = refl; may = λ e. cc },
    (
      record { finishes = refl; may = record { gathered = λ e. cc; begun = refl; next = refl } },
      (
        record { finishes = refl; may = record { gathered = λ e. cc; ran = refl; within = lit≤ tt; rest = refl; early = λ h. refl } },
        (
          record { in_range = lit< tt; frame = refl; may = refl },
          (
            record { in_range = lit< tt; frame = record { opened = refl; continues = tt; parts = tt }; may = refl },
            tt,
          ),
        ),
      ),
    ),
  ),
)

-- ---- the second collection

-- the state in which it is to commit
abbrev pub to_commit_again : State
to_commit_again = state_of (take 51 busy)

-- both units that are left are marked
all_marked : (u : List Name) → IsUnit (graph to_commit_again.world) u → is_marked to_commit_again.marks u ≡ true
all_marked = all_contain (λ u. is_marked to_commit_again.marks u ≡ true) to_commit_again.world.units (refl, (refl, tt))

pub busy_legal : Legal small busy
busy_legal = legal_join small beginning cluster_released (drop 42 busy) cluster_released_legal (
  record { in_range = lit< tt; frame = record { opened = refl; continues = tt; parts = tt }; may = refl },
  (
    record { in_range = lit< tt; frame = record { opened = refl; continues = tt; parts = tt }; may = tt },
    (
      record { finishes = refl; may = (record { idle = refl; released = refl }, refl) },
      (
        record { finishes = refl; may = record { white = record { marking = refl; living = refl; unmarked = refl }; started = refl; root = inl (name 1, refl, inr (0, 0, refl)) } },
        (
          record { in_range = lit< tt; slice = refl; may = tt },
          (
            record {
              in_range = lit< tt;
              slice = refl;
              may =
                  record {
                    white = record { marking = refl; living = refl; unmarked = refl };
                    from = name 1 ∷ [];
                    unit = (0, lit< tt, refl);
                    grey = refl;
                    refers = inl (record { from = name 1; slot = 0; to = name 2; cell = refl; member = refl; target = refl });
                  };
            },
            (
              record { in_range = lit< tt; slice = refl; may = record { marking = refl; living = refl; grey = refl; targets = λ v unit r. all_marked v unit } },
              (
                record { in_range = lit< tt; slice = refl; may = record { marking = refl; living = refl; grey = refl; targets = λ v unit r. all_marked v unit } },
                (
                  record { in_range = lit< tt; slice = refl; may = record { scanned = refl; within = lit< tt; stop = (lit< tt, inl refl) } },
                  (
                    record {
                      finishes = refl;
                      may =
                          record {
                            marking = refl;
                            closed = refl;
                            black = refl;
                            unreached = λ u unit white reached. let marked : is_marked to_commit_again.marks u ≡ true = all_marked u unit in
                                cc;
                          };
                    },
                    (
                      record { finishes = refl; may = (record { gathering = refl; within = lit≤ tt; count = refl; looked = lit≤ tt; different = refl; removed = refl; new = refl }, refl, refl) },
                      tt,
                    ),
                  ),
                ),
              ),
            ),
          ),
        ),
      ),
    ),
  ),
)
