-- The history of the smallest script is legal.
use Rattle.std.proofs.Common.{◌≡◌, ℕ, ◌+◌, ◌*◌, zero, suc, refl, inl, lit<, lit≤, arith, List, [], ◌∷◌, drop, false, Option, Some, None}
use Rattle.world_model.specs.Types.{Name, Gathering}
use Rattle.world_model.specs.Sizes.{level}
use Rattle.world_model.specs.Reach.{graph, IsUnit}
use Rattle.world_model.specs.State.{State, beginning, is_marked}
use Rattle.world_model.specs.Histories.{Legal, LegalFrom, state_of}
use Rattle.world_model.specs.Examples.{name, made_one, rooted_one, kept_one, sweeps, smallest}
use Rattle.world_model.proofs.ListFacts.{all_contain}
use Rattle.world_model.proofs.Joins.{legal_join}

pub made_one_legal : Legal level made_one
made_one_legal = (
  record { in_range = lit< tt; frame = refl; may = refl },
  (
    record {
      in_range = lit< tt;
      frame = record { opened = refl; continues = tt; parts = tt };
      may = record { some = lit≤ tt; few = lit≤ tt; lawful = refl; next = refl; names = lit≤ tt; room = lit≤ tt };
    },
    tt,
  ),
)

pub rooted_one_legal : Legal level rooted_one
rooted_one_legal = legal_join level beginning made_one (drop 2 rooted_one) made_one_legal (
  record { in_range = lit< tt; frame = record { opened = refl; continues = tt; parts = tt }; may = record { held = refl; was = refl; shaded = λ on marking. absurd cc } },
  (
    record { in_range = lit< tt; frame = record { opened = refl; continues = tt; parts = tt }; may = tt },
    (
      record { finishes = refl; may = (record { idle = refl; released = refl }, refl) },
      tt,
    ),
  ),
)

pub kept_one_legal : Legal level kept_one
kept_one_legal = legal_join level beginning rooted_one (drop 5 kept_one) rooted_one_legal (
  record { finishes = refl; may = record { white = record { marking = refl; living = refl; unmarked = refl }; started = refl; root = inl (name 1, refl, inl refl) } },
  (
    record { in_range = lit< tt; slice = refl; may = tt },
    (
      record {
        in_range = lit< tt;
        slice = refl;
        may =
            record {
              marking = refl;
              living = refl;
              grey = refl;
              targets = λ v unit r. let e : ◌≡◌ {A = Option Name} None (Some r.to) = r.cell in
                  absurd cc;
            };
      },
      (
        record { in_range = lit< tt; slice = refl; may = record { scanned = refl; within = lit< tt; stop = (lit< tt, inl refl) } },
        (
          record { finishes = refl; may = record { marking = refl; closed = refl; black = refl; unreached = λ u unit white reached. white_none u unit white } },
          tt,
        ),
      ),
    ),
  ),
)
  where
    -- the one unit is marked
    white_none : (u : List Name) → IsUnit (graph (state_of rooted_one).world) u → is_marked (state_of kept_one).marks u ≡ false → ⊥
    white_none = all_contain (λ u. is_marked (state_of kept_one).marks u ≡ false → ⊥) ((name 1 ∷ []) ∷ []) (λ e. absurd cc, tt)

-- while nothing is removed, sweeps of 1,000 items are legal up to the last one, which has 768 left
sweeps_legal : (n : ℕ) (s : State) → s.world.phase ≡ Gathering → s.world.removals ≡ [] → s.collector.agreed ≡ None → s.world.swept + n * 1000 + 768 ≡ 32768 → LegalFrom level s (sweeps n)
sweeps_legal zero s gathering none agreed left = (
  record { finishes = agreed; may = (record { gathering = gathering; within = lit≤ tt; count = refl; looked = lit≤ tt; different = refl; removed = refl; new = refl }, omega arith, rw none refl) },
  tt,
)
sweeps_legal (suc n) s gathering none agreed left = (
  record { finishes = agreed; may = (record { gathering = gathering; within = lit≤ tt; count = refl; looked = lit≤ tt; different = refl; removed = refl; new = refl }, omega arith) },
  sweeps_legal n _ gathering none refl (omega arith),
)

pub smallest_legal : Legal level smallest
smallest_legal = legal_join level beginning kept_one (sweeps 32) kept_one_legal (sweeps_legal 32 (state_of kept_one) refl refl refl refl)
