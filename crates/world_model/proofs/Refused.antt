-- Entries that are refused after a legal history.
use Rattle.std.proofs.Common.{◌≡◌, ℕ, refl, ap, subst, inl, inr, lit<, arith, List, [], ◌∷◌, true, false, Option, Some, None, ◌⊎◌}
use Rattle.std.specs.Option.{option_map_or}
use Rattle.world_model.specs.Types.{Name, Pass, Lane}
use Rattle.world_model.specs.Reach.{graph, IsUnit, IsRootUnit, Refers}
use Rattle.world_model.specs.State.{AtSomeMoment, is_grey}
use Rattle.world_model.specs.Histories.{state_of}
use Rattle.world_model.specs.Examples.{name, root_marked, slice_opened, Refusals}
use Rattle.world_model.proofs.ListFacts.{all_contain}
use Rattle.world_model.proofs.NameFacts.{member_of_one}
use Rattle.world_model.proofs.Worked.{made_one_legal, rooted_one_legal}
use Rattle.world_model.proofs.Busy.{no_root, four_made_legal, four_linked_legal, root_marked_legal, slice_opened_legal, second_met_legal, second_marked_legal, cluster_removed_legal, half_begun_legal, all_begun_legal, half_finished_legal, cluster_released_legal}

-- at no moment since the start was the second object a root unit
never_root : AtSomeMoment (state_of root_marked).marks.moments (λ w. IsRootUnit (graph w) (name 2 ∷ [])) → ⊥
never_root (inl now) = no_root (name 2 ∷ []) refl now
never_root (inr (inl start)) = no_root (name 2 ∷ []) refl start
never_root (inr (inr never)) = never

-- the grey unit is the first object, whose cells are empty
first_is_grey : (from : List Name) → IsUnit (graph (state_of slice_opened).world) from → is_grey (state_of slice_opened).marks from ≡ true → from ≡ name 1 ∷ []
first_is_grey = all_contain (λ u. is_grey (state_of slice_opened).marks u ≡ true → u ≡ name 1 ∷ []) (state_of slice_opened).world.units (λ e. refl, (λ e. absurd cc, (λ e. absurd cc, tt)))

no_reference : (to : List Name) → Refers (graph (state_of slice_opened).world) (name 1 ∷ []) to → ⊥
no_reference to r =
    let first : r.from ≡ name 1 = member_of_one r.from (name 1) r.member in
    let wrong : ◌≡◌ {A = Option Name} None (Some r.to) = subst (λ (n : Name). (state_of slice_opened).world.cell n r.slot ≡ Some r.to) first r.cell in
    cc

-- at no moment of the slice did the first object refer to the second
never_referred : (from : List Name) → from ≡ name 1 ∷ [] → AtSomeMoment ((state_of slice_opened).slices 0).moments (λ w. Refers (graph w) from (name 2 ∷ [])) → ⊥
never_referred from is (inl now) = no_reference (name 2 ∷ []) (subst (λ (u : List Name). Refers (graph (state_of slice_opened).world) u (name 2 ∷ [])) is now)
never_referred from is (inr never) = never

-- the slice is alone, and the collector has answered since its notes
no_reason : (◌≡◌ {A = List (List Name)} ((name 1 ∷ []) ∷ []) []) ⊎ ((false ≡ true) ⊎ ⊥) ⊎ (false ≡ true) → ⊥
no_reason (inl grey) = cc
no_reason (inr (inl (inl company))) = let wrong : false ≡ true = company in cc
no_reason (inr (inl (inr never))) = never
no_reason (inr (inr begun)) = let wrong : false ≡ true = begun in cc

-- equal objects have equal counts
same_count : (j k : ℕ) → ◌≡◌ {A = Option Name} (Some (name j)) (Some (name k)) → j ≡ k
same_count j k e = ap (λ (o : Option Name). option_map_or (λ n. n.count) o 0) e

pub refusals : Refusals
refusals = record {
  made_outside = record { before = tt; wrong = λ may. let wrong : false ≡ true = may.frame.opened in cc };
  out_of_sequence = record { before = made_one_legal; wrong = λ may. let wrong : ◌≡◌ {A = ℕ} 3 2 = may.may.next in omega (arith, wrong) };
  too_wide = record { before = made_one_legal; wrong = λ may. let wrong : false ≡ true = may.may.lawful in cc };
  full_early = record { before = made_one_legal; wrong = λ may. let wrong : ◌≡◌ {A = ℕ} 0 8191 = may.may.rest in omega (arith, wrong) };
  closed_twice = record { before = four_linked_legal; wrong = λ may. let wrong : false ≡ true = may.frame.opened in cc };
  begun_in_frame = record { before = made_one_legal; wrong = λ may. let wrong : ◌≡◌ {A = List Pass} (Lane 0 ∷ []) [] = may.may.1 in cc };
  no_frames = record { before = tt; wrong = λ may. let wrong : ◌≡◌ {A = ℕ} 1 0 = may.may.1.0 in omega (arith, wrong) };
  pair_twice = record { before = four_made_legal; wrong = λ may. let wrong : ◌≡◌ {A = ℕ} 16 32 = may.may.pair.serial in omega (arith, wrong) };
  forged = record { before = made_one_legal; wrong = λ may. let wrong : ◌≡◌ {A = Option Name} (Some (name 1)) None = may.may in cc };
  dead_resolved = record { before = cluster_released_legal; wrong = λ may. let wrong : ◌≡◌ {A = Option Name} (Some (name 3)) None = may.may in cc };
  kept_by_collector = record { before = root_marked_legal; wrong = λ may. never_root may.may.root };
  kept_by_lane = record { before = second_met_legal; wrong = λ may. let wrong : false ≡ true = may.may.held in cc };
  kept_by_marker = record { before = slice_opened_legal; wrong = λ may. never_referred may.may.from (first_is_grey may.may.from may.may.unit may.may.grey) may.may.refers };
  white_scanned = record { before = slice_opened_legal; wrong = λ may. let wrong : false ≡ true = may.may.grey in cc };
  idle_early = record { before = slice_opened_legal; wrong = λ may. no_reason may.may.stop.1 };
  unshaded = record { before = second_met_legal; wrong = λ may. let wrong : false ≡ true = may.may.shaded refl in cc };
  unstored = record { before = second_marked_legal; wrong = λ may. may.frame.continues };
  grey_commit = record { before = root_marked_legal; wrong = λ may. let wrong : ◌≡◌ {A = List (List Name)} ((name 1 ∷ []) ∷ []) [] = may.may.black in cc };
  lost_root = record {
    before = rooted_one_legal;
    wrong = λ may. may.may.unreached (name 1 ∷ []) (0, lit< tt, refl) refl
        (record { root = name 1 ∷ []; rest = []; unit = (0, lit< tt, refl); is_root = (name 1, refl, inl refl); walk = refl });
  };
  settled_early = record { before = cluster_removed_legal; wrong = λ may. let wrong : ◌≡◌ {A = ℕ} 10 16 = may.may.1 in omega (arith, wrong) };
  settled_short = record { before = cluster_removed_legal; wrong = λ may. let wrong : false ≡ true = may.may.2 in cc };
  begun_twice = record { before = half_begun_legal; wrong = λ may. let wrong : ◌≡◌ {A = Option Name} (Some (name 4)) (Some (name 3)) = may.may.next in omega (arith, same_count 4 3 wrong) };
  asked_early = record { before = half_begun_legal; wrong = λ may. let wrong : ◌≡◌ {A = Option Name} (Some (name 4)) None = may.may.begun in cc };
  finished_early = record { before = half_begun_legal; wrong = λ may. let wrong : ◌≡◌ {A = Option Name} None (Some (name 3)) = may.finishes in cc };
  polled_out_of_order = record { before = all_begun_legal; wrong = λ may. let wrong : ◌≡◌ {A = Option Name} (Some (name 3)) (Some (name 4)) = may.may.next in omega (arith, same_count 3 4 wrong) };
  poll_miscounted = record { before = all_begun_legal; wrong = λ may. let wrong : ◌≡◌ {A = ℕ} 2 1 = may.may.number in omega (arith, wrong) };
  half_released = record { before = half_finished_legal; wrong = λ may. let wrong : ◌≡◌ {A = Option Name} None (Some (name 3)) = may.may.next in cc };
}
