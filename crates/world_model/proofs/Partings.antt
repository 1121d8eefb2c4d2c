-- The histories of units that are taken apart and of garbage are legal, and the wrong entries after them are refused.
use Rattle.std.proofs.Common.{◌≡◌, ℕ, refl, subst, ap, inl, inr, lit<, lit≤, arith, List, [], ◌∷◌, length, drop, true, false, Option, Some, None}
use Rattle.world_model.specs.Types.{Name, Idle, Marking}
use Rattle.world_model.specs.Sizes.{small}
use Rattle.world_model.specs.NameLists.{has}
use Rattle.world_model.specs.Reach.{graph, IsUnit, IsRoot, IsRootUnit}
use Rattle.world_model.specs.State.{State, beginning, is_marked}
use Rattle.world_model.specs.Histories.{Legal, state_of}
use Rattle.world_model.specs.Laws.{IsClosed}
use Rattle.world_model.specs.Examples.{name}
use Rattle.world_model.specs.Partings.{three_made, one_left, two_left, cluster_apart, single_marked, singles_removed, pair_held, pair_marked, pair_apart, valid_held, garbage_held, garbage_marked, garbage_kept, two_units, unit_shared, PartingsShow, PartingRefusals}
use Rattle.world_model.proofs.ListFacts.{all_contain}
use Rattle.world_model.proofs.NameFacts.{member_of_one}
use Rattle.world_model.proofs.Joins.{legal_join}
use Rattle.world_model.proofs.Reaches.{outside_closed}

-- ---- a cluster of three

three_made_legal : Legal small three_made
three_made_legal = (
  record { in_range = lit< tt; frame = refl; may = refl },
  (
    record {
      in_range = lit< tt;
      frame = record { opened = refl; continues = tt; parts = tt };
      may = record { some = lit≤ tt; few = lit≤ tt; lawful = refl; next = refl; names = lit≤ tt; room = lit≤ tt };
    },
    (
      record { in_range = lit< tt; frame = record { opened = refl; continues = tt; parts = tt }; may = record { held = refl; was = refl; shaded = λ on marking. absurd cc } },
      tt,
    ),
  ),
)

one_left_legal : Legal small one_left
one_left_legal = legal_join small beginning three_made (drop 3 one_left) three_made_legal (
  record { in_range = lit< tt; frame = record { opened = refl; continues = tt; parts = tt }; may = record { held = refl; own = refl; unmarked = λ e. cc; last = refl } },
  tt,
)

two_left_legal : Legal small two_left
two_left_legal = legal_join small beginning one_left (drop 4 two_left) one_left_legal (
  record { in_range = lit< tt; frame = record { opened = refl; continues = tt; parts = refl }; may = record { held = refl; own = refl; unmarked = λ e. cc; last = refl } },
  tt,
)

cluster_apart_legal : Legal small cluster_apart
cluster_apart_legal = legal_join small beginning two_left (drop 5 cluster_apart) two_left_legal (
  record { in_range = lit< tt; frame = record { opened = refl; continues = tt; parts = tt }; may = record { held = refl; own = refl; unmarked = λ e. cc; loose = (refl, refl, refl) } },
  (
    record { in_range = lit< tt; frame = record { opened = refl; continues = tt; parts = tt }; may = record { held = refl; own = refl; unmarked = λ e. cc; loose = (refl, refl) } },
    (
      record { in_range = lit< tt; frame = record { opened = refl; continues = tt; parts = tt }; may = tt },
      tt,
    ),
  ),
)

single_marked_legal : Legal small single_marked
single_marked_legal = legal_join small beginning cluster_apart (drop 8 single_marked) cluster_apart_legal (
  record { finishes = refl; may = (record { idle = refl; released = refl }, refl) },
  (
    record { finishes = refl; may = record { white = record { marking = refl; living = refl; unmarked = refl }; started = refl; root = inl (name 2, refl, inl refl) } },
    tt,
  ),
)

-- the state in which that collection is to commit
abbrev marked_singles : State
marked_singles = state_of single_marked

-- an object alone is in the root set only where it is rooted
single_root : (n m : Name) → has (n ∷ []) m ≡ true → IsRoot (graph marked_singles.world) m → marked_singles.world.rooted n ≡ true
single_root n m h (inl rooted) = subst (λ (x : Name). marked_singles.world.rooted x ≡ true) (member_of_one m n h) rooted
single_root n m h (inr strong) = absurd (let wrong : ◌≡◌ {A = Option Name} None (Some m) = strong.2 in cc)

singles_closed : IsClosed (graph marked_singles.world) (is_marked marked_singles.marks)
singles_closed = record {
  roots = all_contain (λ u. IsRootUnit (graph marked_singles.world) u → is_marked marked_singles.marks u ≡ true) marked_singles.world.units
      (λ r. absurd (let wrong : false ≡ true = single_root (name 1) r.0 r.1 r.2 in cc), (λ r. refl, (λ r. absurd (let wrong : false ≡ true = single_root (name 3) r.0 r.1 r.2 in cc), tt)));
  refers = λ u v unit is r. absurd (let wrong : ◌≡◌ {A = Option Name} None (Some r.to) = r.cell in cc);
}

pub singles_removed_legal : Legal small singles_removed
singles_removed_legal = legal_join small beginning single_marked (drop 10 singles_removed) single_marked_legal (
  record { in_range = lit< tt; slice = refl; may = tt },
  (
    record {
      in_range = lit< tt;
      slice = refl;
      may =
          record {
            marking = refl;
            living = refl;
            grey = refl;
            targets = λ v unit r. absurd (let wrong : ◌≡◌ {A = Option Name} None (Some r.to) = r.cell in cc);
          };
    },
    (
      record { in_range = lit< tt; slice = refl; may = record { scanned = refl; within = lit< tt; stop = (lit< tt, inl refl) } },
      (
        record {
          finishes = refl;
          may =
              record {
                marking = refl;
                closed = refl;
                black = refl;
                unreached = λ u unit white. outside_closed (graph marked_singles.world) (is_marked marked_singles.marks) singles_closed u white;
              };
        },
        (
          record { finishes = refl; may = (record { gathering = refl; within = lit≤ tt; count = refl; looked = lit≤ tt; different = refl; removed = refl; new = refl }, refl, refl) },
          tt,
        ),
      ),
    ),
  ),
)

-- ---- a unit of two

pair_held_legal : Legal small pair_held
pair_held_legal = (
  record { in_range = lit< tt; frame = refl; may = refl },
  (
    record {
      in_range = lit< tt;
      frame = record { opened = refl; continues = tt; parts = tt };
      may = record { some = lit≤ tt; few = lit≤ tt; lawful = refl; next = refl; names = lit≤ tt; room = lit≤ tt };
    },
    (
      record { in_range = lit< tt; frame = record { opened = refl; continues = tt; parts = tt }; may = record { number = lit< tt; held = refl; was = refl; shaded = λ marking. absurd cc } },
      (
        record { in_range = lit< tt; frame = record { opened = refl; continues = tt; parts = tt }; may = tt },
        (
          record { finishes = refl; may = (record { idle = refl; released = refl }, refl) },
          (
            record { finishes = refl; may = record { white = record { marking = refl; living = refl; unmarked = refl }; started = refl; root = inl (name 2, refl, inr (0, 0, refl)) } },
            (
              record { in_range = lit< tt; frame = refl; may = refl },
              (
                record { in_range = lit< tt; frame = record { opened = refl; continues = tt; parts = tt }; may = (lit< tt, refl) },
                tt,
              ),
            ),
          ),
        ),
      ),
    ),
  ),
)

pair_marked_legal : Legal small pair_marked
pair_marked_legal = legal_join small beginning pair_held (drop 8 pair_marked) pair_held_legal (
  record { in_range = lit< tt; frame = record { opened = refl; continues = tt; parts = tt }; may = record { held = refl; own = refl; marking = refl } },
  (
    record { in_range = lit< tt; frame = record { opened = refl; continues = tt; parts = tt }; may = tt },
    (
      record { in_range = lit< tt; slice = refl; may = tt },
      (
        record {
          in_range = lit< tt;
          slice = refl;
          may =
              record {
                marking = refl;
                living = refl;
                grey = refl;
                targets = λ v unit r. absurd (let wrong : ◌≡◌ {A = Option Name} None (Some r.to) = r.cell in cc);
              };
        },
        (
          record { in_range = lit< tt; slice = refl; may = record { scanned = refl; within = lit< tt; stop = (lit< tt, inl refl) } },
          tt,
        ),
      ),
    ),
  ),
)

-- the one unit is marked
no_white_pair : (u : List Name) → IsUnit (graph (state_of pair_marked).world) u → is_marked (state_of pair_marked).marks u ≡ false → ⊥
no_white_pair = all_contain (λ u. is_marked (state_of pair_marked).marks u ≡ false → ⊥) ((name 1 ∷ name 2 ∷ []) ∷ []) (λ e. absurd cc, tt)

pub pair_apart_legal : Legal small pair_apart
pair_apart_legal = legal_join small beginning pair_marked (drop 13 pair_apart) pair_marked_legal (
  record { finishes = refl; may = record { marking = refl; closed = refl; black = refl; unreached = λ u unit white reached. no_white_pair u unit white } },
  (
    record { in_range = lit< tt; frame = refl; may = refl },
    (
      record { in_range = lit< tt; frame = record { opened = refl; continues = tt; parts = tt }; may = (lit< tt, refl) },
      (
        record { in_range = lit< tt; frame = record { opened = refl; continues = tt; parts = tt }; may = record { held = refl; own = refl; unmarked = λ e. cc; last = refl } },
        (
          record { in_range = lit< tt; frame = record { opened = refl; continues = tt; parts = tt }; may = record { held = refl; own = refl; unmarked = λ e. cc; loose = (refl, refl, refl) } },
          tt,
        ),
      ),
    ),
  ),
)

-- ---- garbage

valid_held_legal : Legal small valid_held
valid_held_legal = (
  record { in_range = lit< tt; frame = refl; may = refl },
  (
    record {
      in_range = lit< tt;
      frame = record { opened = refl; continues = tt; parts = tt };
      may = record { some = lit≤ tt; few = lit≤ tt; lawful = refl; next = refl; names = lit≤ tt; room = lit≤ tt };
    },
    (
      record { in_range = lit< tt; frame = record { opened = refl; continues = tt; parts = tt }; may = record { number = lit< tt; held = refl; was = refl; shaded = λ marking. absurd cc } },
      (
        record { in_range = lit< tt; frame = record { opened = refl; continues = tt; parts = tt }; may = record { held = refl; pair = record { left = lit< tt; serial = refl; index = lit< tt } } },
        (
          record { in_range = lit< tt; frame = record { opened = refl; continues = tt; parts = tt }; may = (refl, refl) },
          (
            record { in_range = lit< tt; frame = record { opened = refl; continues = tt; parts = tt }; may = refl },
            tt,
          ),
        ),
      ),
    ),
  ),
)

garbage_held_legal : Legal small garbage_held
garbage_held_legal = legal_join small beginning valid_held (drop 6 garbage_held) valid_held_legal (
  record { in_range = lit< tt; frame = record { opened = refl; continues = tt; parts = tt }; may = (refl, refl) },
  tt,
)

garbage_marked_legal : Legal small garbage_marked
garbage_marked_legal = legal_join small beginning garbage_held (drop 7 garbage_marked) garbage_held_legal (
  record { in_range = lit< tt; frame = record { opened = refl; continues = tt; parts = tt }; may = (refl, refl) },
  (
    record { in_range = lit< tt; frame = record { opened = refl; continues = tt; parts = tt }; may = (refl, refl) },
    (
      record { in_range = lit< tt; frame = record { opened = refl; continues = tt; parts = tt }; may = refl },
      (
        record { in_range = lit< tt; frame = record { opened = refl; continues = tt; parts = tt }; may = record { held = refl; pair = refl } },
        (
          record { in_range = lit< tt; frame = record { opened = refl; continues = tt; parts = tt }; may = tt },
          (
            record { finishes = refl; may = (record { idle = refl; released = refl }, refl) },
            (
              record { finishes = refl; may = record { white = record { marking = refl; living = refl; unmarked = refl }; started = refl; root = inl (name 1, refl, inr (0, 0, refl)) } },
              (
                record { in_range = lit< tt; slice = refl; may = tt },
                (
                  record {
                    in_range = lit< tt;
                    slice = refl;
                    may =
                        record {
                          marking = refl;
                          living = refl;
                          grey = refl;
                          targets = λ v unit r. absurd (let wrong : ◌≡◌ {A = Option Name} None (Some r.to) = r.cell in cc);
                        };
                  },
                  (
                    record { in_range = lit< tt; slice = refl; may = record { scanned = refl; within = lit< tt; stop = (lit< tt, inl refl) } },
                    tt,
                  ),
                ),
              ),
            ),
          ),
        ),
      ),
    ),
  ),
)

no_white_garbage : (u : List Name) → IsUnit (graph (state_of garbage_marked).world) u → is_marked (state_of garbage_marked).marks u ≡ false → ⊥
no_white_garbage = all_contain (λ u. is_marked (state_of garbage_marked).marks u ≡ false → ⊥) ((name 1 ∷ []) ∷ []) (λ e. absurd cc, tt)

pub garbage_kept_legal : Legal small garbage_kept
garbage_kept_legal = legal_join small beginning garbage_marked (drop 17 garbage_kept) garbage_marked_legal (
  record { finishes = refl; may = record { marking = refl; closed = refl; black = refl; unreached = λ u unit white reached. no_white_garbage u unit white } },
  (
    record { finishes = refl; may = (record { gathering = refl; within = lit≤ tt; count = refl; looked = lit≤ tt; different = refl; removed = refl; new = refl }, refl, refl) },
    (
      record { in_range = lit< tt; frame = refl; may = refl },
      (
        record { in_range = lit< tt; frame = record { opened = refl; continues = tt; parts = tt }; may = (lit< tt, refl) },
        (
          record { in_range = lit< tt; frame = record { opened = refl; continues = tt; parts = tt }; may = (refl, refl) },
          tt,
        ),
      ),
    ),
  ),
)

-- ---- what they show

pub partings_show : PartingsShow
partings_show = record { alone = (refl, refl, refl); kept = refl; removed = (refl, refl); given = refl; given_none = (refl, refl) }

-- ---- wrong entries

two_units_legal : Legal small two_units
two_units_legal = (
  record { in_range = lit< tt; frame = refl; may = refl },
  (
    record {
      in_range = lit< tt;
      frame = record { opened = refl; continues = tt; parts = tt };
      may = record { some = lit≤ tt; few = lit≤ tt; lawful = refl; next = refl; names = lit≤ tt; room = lit≤ tt };
    },
    (
      record {
        in_range = lit< tt;
        frame = record { opened = refl; continues = tt; parts = tt };
        may = record { some = lit≤ tt; few = lit≤ tt; lawful = refl; next = refl; names = lit≤ tt; room = lit≤ tt };
      },
      (
        record { in_range = lit< tt; frame = record { opened = refl; continues = tt; parts = tt }; may = record { held = refl; own = refl; unmarked = λ e. cc; last = refl } },
        tt,
      ),
    ),
  ),
)

unit_shared_legal : Legal small unit_shared
unit_shared_legal = (
  record { in_range = lit< tt; frame = refl; may = refl },
  (
    record {
      in_range = lit< tt;
      frame = record { opened = refl; continues = tt; parts = tt };
      may = record { some = lit≤ tt; few = lit≤ tt; lawful = refl; next = refl; names = lit≤ tt; room = lit≤ tt };
    },
    (
      record { in_range = lit< tt; frame = record { opened = refl; continues = tt; parts = tt }; may = record { held = refl; pair = record { left = lit< tt; serial = refl; index = lit< tt } } },
      (
        record { in_range = lit< tt; frame = refl; may = refl },
        (
          record { in_range = lit< tt; frame = record { opened = refl; continues = tt; parts = tt }; may = refl },
          tt,
        ),
      ),
    ),
  ),
)

-- lists of different lengths are not equal
same_length : (xs ys : List Name) → xs ≡ ys → length xs ≡ length ys
same_length xs ys e = ap (λ (ns : List Name). length ns) e

pub parting_refusals : PartingRefusals
parting_refusals = record {
  half_apart = record { before = one_left_legal; wrong = λ may. let wrong : ◌≡◌ {A = ℕ} 1 2 = same_length (name 3 ∷ []) (name 2 ∷ name 3 ∷ []) may.may.loose.1 in omega (arith, wrong) };
  miscounted = record { before = two_left_legal; wrong = λ may. let wrong : ◌≡◌ {A = ℕ} 2 3 = may.may.loose.2 in omega (arith, wrong) };
  not_begun = record { before = three_made_legal; wrong = λ may. let wrong : ◌≡◌ {A = ℕ} 3 1 = may.may.loose.1 in omega (arith, wrong) };
  closed_halfway = record { before = one_left_legal; wrong = λ may. may.frame.parts };
  read_halfway = record { before = one_left_legal; wrong = λ may. may.frame.parts };
  other_unit = record { before = two_units_legal; wrong = λ may. let wrong : false ≡ true = may.frame.parts in cc };
  not_last = record { before = three_made_legal; wrong = λ may. let wrong : false ≡ true = may.may.last in cc };
  left_twice = record { before = one_left_legal; wrong = λ may. let wrong : false ≡ true = may.may.last in cc };
  left_alone = record { before = two_left_legal; wrong = λ may. let wrong : false ≡ true = may.may.last in cc };
  not_own = record { before = unit_shared_legal; wrong = λ may. let wrong : ◌≡◌ {A = ℕ} 0 1 = may.may.own in omega (arith, wrong) };
  not_own_refused = record { before = unit_shared_legal; wrong = λ may. let wrong : ◌≡◌ {A = ℕ} 0 1 = may.may.own in omega (arith, wrong) };
  apart_marking = record { before = pair_held_legal; wrong = λ may. may.may.unmarked refl };
  refused_idle = record { before = three_made_legal; wrong = λ may. let wrong : Idle ≡ Marking = may.may.marking in cc };
  garbage_given = record { before = garbage_held_legal; wrong = λ may. let wrong : ◌≡◌ {A = Option Name} (Some (name 1)) None = may.may in cc };
  valid_not_given = record { before = valid_held_legal; wrong = λ may. let wrong : ◌≡◌ {A = Option Name} None (Some (name 1)) = may.may in cc };
  called_garbage = record { before = valid_held_legal; wrong = λ may. let wrong : true ≡ false = may.may.1 in cc };
  called_valid = record { before = garbage_held_legal; wrong = λ may. let wrong : true ≡ false = may.may.1 in cc };
  marked_twice = record { before = garbage_held_legal; wrong = λ may. let wrong : false ≡ true = may.may.1 in cc };
}
