-- The edges of the rules: what is allowed, and what is refused.
use Rattle.std.proofs.Common.{◌≡◌, ℕ, ◌<◌, ◌≤◌, ◌==◌, Bool, cond, refl, subst, inl, inr, lit<, lit≤, arith, List, [], ◌∷◌, drop, take, true, false, Option, Some, None}
use Rattle.std.specs.Int.RustNames.{count_ones}
use Rattle.world_model.specs.Types.{Name}
use Rattle.world_model.specs.Sizes.{level, small}
use Rattle.world_model.specs.Reach.{graph, IsUnit, Refers}
use Rattle.world_model.specs.State.{beginning, is_grey, AtSomeMoment}
use Rattle.world_model.specs.Histories.{Legal, state_of}
use Rattle.world_model.specs.Examples.{name, made_one, rooted_one, four_linked, root_marked, slice_opened, second_met, second_marked, cluster_removed, all_begun, half_finished, busy}
use Rattle.world_model.specs.Edges.{asked_again, two_lanes, frame_again, in_company, closed_unmarked, closed_marked, two_scanned, made_amid, removed_frame, agreed, reference_read, taken_before, taken_within, Edges}
use Rattle.world_model.proofs.ListFacts.{all_contain}
use Rattle.world_model.proofs.NameFacts.{member_of_one}
use Rattle.world_model.proofs.Joins.{legal_join, legal_split}
use Rattle.world_model.proofs.Worked.{made_one_legal, rooted_one_legal}
use Rattle.world_model.proofs.Busy.{four_made_legal, four_linked_legal, root_marked_legal, slice_opened_legal, second_met_legal, second_marked_legal, cluster_removed_legal, all_begun_legal, half_finished_legal, cluster_released_legal, busy_legal}
use Rattle.world_model.proofs.Refused.{refusals}

-- ---- the histories are legal

asked_again_legal : Legal level asked_again
asked_again_legal = legal_join level beginning rooted_one (drop 5 asked_again) rooted_one_legal (record { finishes = refl; may = (refl, λ e. cc) }, tt)

two_lanes_legal : Legal level two_lanes
two_lanes_legal = legal_join level beginning made_one (drop 2 two_lanes) made_one_legal (record { in_range = lit< tt; frame = refl; may = refl }, tt)

frame_again_legal : Legal small frame_again
frame_again_legal = legal_join small beginning four_linked (drop 10 frame_again) four_linked_legal (record { in_range = lit< tt; frame = refl; may = refl }, tt)

in_company_legal : Legal small in_company
in_company_legal = legal_join small beginning slice_opened (drop 14 in_company) slice_opened_legal (
  record { in_range = lit< tt; frame = refl; may = refl },
  (record { in_range = lit< tt; frame = record { opened = refl; continues = tt; parts = tt }; may = tt }, tt),
)

closed_unmarked_legal : Legal small closed_unmarked
closed_unmarked_legal = legal_join small beginning root_marked (drop 12 closed_unmarked) root_marked_legal (
  record { in_range = lit< tt; frame = refl; may = refl },
  (record { in_range = lit< tt; frame = record { opened = refl; continues = tt; parts = tt }; may = tt }, tt),
)

closed_marked_legal : Legal small closed_marked
closed_marked_legal = legal_join small beginning second_marked (drop 20 closed_marked) second_marked_legal (
  record {
    in_range = lit< tt;
    frame = record { opened = refl; continues = refl; parts = tt };
    may = record { place = record { held = refl; in_range = lit< tt }; held = refl; was = refl; shaded = λ marking. refl };
  },
  (record { in_range = lit< tt; frame = record { opened = refl; continues = tt; parts = tt }; may = tt }, tt),
)

two_scanned_legal : Legal small two_scanned
two_scanned_legal = (legal_split small beginning (take 50 busy) (drop 50 busy) busy_legal).0

made_amid_legal : Legal small made_amid
made_amid_legal = legal_join small beginning second_met (drop 19 made_amid) second_met_legal (
  record {
    in_range = lit< tt;
    frame = record { opened = refl; continues = tt; parts = tt };
    may = record { some = lit≤ tt; few = lit≤ tt; lawful = refl; next = refl; names = lit≤ tt; room = lit≤ tt };
  },
  tt,
)

removed_frame_legal : Legal small removed_frame
removed_frame_legal = legal_join small beginning cluster_removed (drop 26 removed_frame) cluster_removed_legal (record { in_range = lit< tt; frame = refl; may = refl }, tt)

agreed_legal : Legal small agreed
agreed_legal = (legal_split small beginning (take 35 half_finished) (drop 35 half_finished) half_finished_legal).0

two_begun_legal : Legal small (take 30 all_begun)
two_begun_legal = (legal_split small beginning (take 30 all_begun) (drop 30 all_begun) all_begun_legal).0

reference_read_legal : Legal small reference_read
reference_read_legal = (
  record { in_range = lit< tt; frame = refl; may = refl },
  (
    record {
      in_range = lit< tt;
      frame = record { opened = refl; continues = tt; parts = tt };
      may = record { some = lit≤ tt; few = lit≤ tt; lawful = refl; next = refl; names = lit≤ tt; room = lit≤ tt };
    },
    (
      record { in_range = lit< tt; frame = record { opened = refl; continues = tt; parts = tt }; may = record { number = lit< tt; held = refl; was = refl; shaded = λ marking. absurd cc } },
      (
        record {
          in_range = lit< tt;
          frame = record { opened = refl; continues = tt; parts = tt };
          may = record { some = lit≤ tt; few = lit≤ tt; lawful = refl; next = refl; names = lit≤ tt; room = lit≤ tt };
        },
        (
          record {
            in_range = lit< tt;
            frame = record { opened = refl; continues = tt; parts = tt };
            may = record { place = record { held = refl; in_range = lit< tt }; held = refl; was = refl; shaded = λ marking. absurd cc };
          },
          (
            record { in_range = lit< tt; frame = record { opened = refl; continues = tt; parts = tt }; may = tt },
            (
              record { finishes = refl; may = (record { idle = refl; released = refl }, refl) },
              (
                record { finishes = refl; may = record { white = record { marking = refl; living = refl; unmarked = refl }; started = refl; root = inl (name 1, refl, inr (0, 0, refl)) } },
                (
                  record { in_range = lit< tt; frame = refl; may = refl },
                  (record { in_range = lit< tt; frame = record { opened = refl; continues = tt; parts = tt }; may = (lit< tt, refl) }, tt),
                ),
              ),
            ),
          ),
        ),
      ),
    ),
  ),
)

taken_before_legal : Legal small taken_before
taken_before_legal = legal_join small beginning reference_read (drop 10 taken_before) reference_read_legal (
  record {
    in_range = lit< tt;
    frame = record { opened = refl; continues = tt; parts = tt };
    may = record { place = record { held = refl; in_range = lit< tt }; held = tt; was = refl; shaded = λ marking. tt };
  },
  (record { in_range = lit< tt; slice = refl; may = tt }, tt),
)

taken_within_legal : Legal small taken_within
taken_within_legal = legal_join small beginning reference_read (drop 10 taken_within) reference_read_legal (
  record { in_range = lit< tt; slice = refl; may = tt },
  (
    record {
      in_range = lit< tt;
      frame = record { opened = refl; continues = tt; parts = tt };
      may = record { place = record { held = refl; in_range = lit< tt }; held = tt; was = refl; shaded = λ marking. tt };
    },
    tt,
  ),
)

-- ---- behind a reference that was taken away before the slice

-- the cells of the first object are empty
emptied : (slot : ℕ) → (state_of taken_before).world.cell (name 1) slot ≡ None
emptied slot = go (slot == 0)
  where
    go : (b : Bool) → cond {A = Option Name} b None (cond b (Some (name 2)) None) ≡ None
    go true = refl
    go false = refl

-- the grey unit is the first object
first_is_grey : (from : List Name) → IsUnit (graph (state_of taken_before).world) from → is_grey (state_of taken_before).marks from ≡ true → from ≡ name 1 ∷ []
first_is_grey = all_contain (λ u. is_grey (state_of taken_before).marks u ≡ true → u ≡ name 1 ∷ []) (state_of taken_before).world.units (λ e. refl, (λ e. absurd cc, tt))

no_reference : (to : List Name) → Refers (graph (state_of taken_before).world) (name 1 ∷ []) to → ⊥
no_reference to r =
    let first : r.from ≡ name 1 = member_of_one r.from (name 1) r.member in
    let is : (state_of taken_before).world.cell (name 1) r.slot ≡ Some r.to = subst (λ (n : Name). (state_of taken_before).world.cell n r.slot ≡ Some r.to) first r.cell in
    let none = emptied r.slot in
    cc

never_referred : (from : List Name) → from ≡ name 1 ∷ [] → AtSomeMoment ((state_of taken_before).slices 0).moments (λ w. Refers (graph w) from (name 2 ∷ [])) → ⊥
never_referred from is (inl now) = no_reference (name 2 ∷ []) (subst (λ (u : List Name). Refers (graph (state_of taken_before).world) u (name 2 ∷ [])) is now)
never_referred from is (inr never) = never

-- ---- the edges

pub edges : Edges
unfolding count_ones
edges = record {
  notes_end = record {
    allowed =
        record {
          before = rooted_one_legal;
          right =
              record {
                finishes = refl;
                may =
                    record { white = record { marking = refl; living = refl; unmarked = refl }; started = refl; root = inl (name 1, refl, inl refl) };
              };
        };
    refused = record { before = asked_again_legal; wrong = λ may. let wrong : false ≡ true = may.may.started in cc };
  };
  held_in_frame = record {
    allowed =
        record {
          before = four_made_legal;
          right =
              record {
                in_range = lit< tt;
                frame = record { opened = refl; continues = tt; parts = tt };
                may = record { held = refl; was = refl; shaded = λ on marking. absurd cc };
              };
        };
    refused = record { before = frame_again_legal; wrong = λ may. let wrong : false ≡ true = may.may.held in cc };
  };
  held_by_lane = record {
    allowed =
        record {
          before = two_lanes_legal;
          right =
              record {
                in_range = lit< tt;
                frame = record { opened = refl; continues = tt; parts = tt };
                may = record { held = refl; was = refl; shaded = λ on marking. absurd cc };
              };
        };
    refused = record { before = two_lanes_legal; wrong = λ may. let wrong : false ≡ true = may.may.held in cc };
  };
  idle_in_company = record {
    allowed = record { before = in_company_legal; right = record { in_range = lit< tt; slice = refl; may = record { scanned = refl; within = tt; stop = (lit< tt, inr (inl (inr (inl refl)))) } } };
    refused = refusals.idle_early;
  };
  spent_by_last = record {
    allowed = record { before = two_scanned_legal; right = record { in_range = lit< tt; slice = refl; may = record { scanned = refl; within = lit< tt; stop = lit≤ tt } } };
    refused = record { before = two_scanned_legal; wrong = λ may. let wrong : 1 < 1 = may.may.within in omega (arith, wrong) };
  };
  stores_marked = record {
    allowed = record { before = closed_marked_legal; right = record { finishes = refl; may = (refl, refl, refl) } };
    refused = record { before = closed_unmarked_legal; wrong = λ may. let wrong : false ≡ true = may.may.2 in cc };
  };
  shows_grey = record {
    allowed = record { before = root_marked_legal; right = record { finishes = refl; may = record { marking = refl; some = lit< tt; few = lit≤ tt } } };
    refused = record { before = root_marked_legal; wrong = λ may. let wrong : 2 ≤ 1 = may.may.few in omega (arith, wrong) };
  };
  shows_some = record {
    allowed = record { before = root_marked_legal; right = record { finishes = refl; may = record { marking = refl; some = lit< tt; few = lit≤ tt } } };
    refused = record { before = root_marked_legal; wrong = λ may. let wrong : 0 < 0 = may.may.some in omega (arith, wrong) };
  };
  made_is_marked = record {
    allowed =
        record {
          before = made_amid_legal;
          right =
              record {
                in_range = lit< tt;
                frame = record { opened = refl; continues = tt; parts = tt };
                may = record { place = record { held = refl; in_range = lit< tt }; held = refl; was = refl; shaded = λ marking. refl };
              };
        };
    refused = record { before = made_amid_legal; wrong = λ may. let wrong : false ≡ true = may.may.shaded refl in cc };
  };
  mark_is_paid = record {
    allowed =
        record {
          before = second_marked_legal;
          right =
              record {
                in_range = lit< tt;
                frame = record { opened = refl; continues = refl; parts = tt };
                may = record { place = record { held = refl; in_range = lit< tt }; held = refl; was = refl; shaded = λ marking. refl };
              };
        };
    refused = record { before = second_marked_legal; wrong = λ may. may.frame.continues };
  };
  referred_within = record {
    allowed =
        record {
          before = taken_within_legal;
          right =
              record {
                in_range = lit< tt;
                slice = refl;
                may =
                    record {
                      white = record { marking = refl; living = refl; unmarked = refl };
                      from = name 1 ∷ [];
                      unit = (0, lit< tt, refl);
                      grey = refl;
                      refers = inr (inl (record { from = name 1; slot = 0; to = name 2; cell = refl; member = refl; target = refl }));
                    };
              };
        };
    refused = record { before = taken_before_legal; wrong = λ may. never_referred may.may.from (first_is_grey may.may.from may.may.unit may.may.grey) may.may.refers };
  };
  none_from_commit = record {
    allowed = record { before = removed_frame_legal; right = record { in_range = lit< tt; frame = record { opened = refl; continues = tt; parts = tt }; may = refl } };
    refused = record { before = removed_frame_legal; wrong = λ may. let wrong : ◌≡◌ {A = Option Name} (Some (name 3)) None = may.may in cc };
  };
  full_until_release = record {
    allowed =
        record {
          before = removed_frame_legal;
          right =
              record {
                in_range = lit< tt;
                frame = record { opened = refl; continues = tt; parts = tt };
                may = record { names = lit≤ tt; rest = refl; short = lit< tt };
              };
        };
    refused = record { before = cluster_released_legal; wrong = λ may. let wrong : ◌≡◌ {A = ℕ} 4 6 = may.may.rest in omega (arith, wrong) };
  };
  finished_next = record {
    allowed = record { before = agreed_legal; right = record { finishes = refl; may = λ e. cc } };
    refused = record { before = agreed_legal; wrong = λ may. let wrong : ◌≡◌ {A = Option Name} (Some (name 3)) None = may.finishes in cc };
  };
  stops_late = record {
    allowed =
        record {
          before = two_begun_legal;
          right =
              record {
                finishes = refl;
                may = record { gathered = λ e. cc; ran = refl; within = lit≤ tt; rest = refl; early = λ h. absurd (omega arith) };
              };
        };
    refused = record { before = two_begun_legal; wrong = λ may. let wrong : ◌≡◌ {A = ℕ} 2 0 = may.may.early (lit< tt) in omega (arith, wrong) };
  };
}
