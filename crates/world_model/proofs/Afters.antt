-- What the units are after an entry, and what is removed.
use Rattle.std.proofs.Common.{◌≡◌, ◌≢◌, ◌↔◌, refl, sym, subst, ap, ◌∙◌, inl, inr, arith, true, false, not, List, [], ◌∷◌, ◌≤◌, ◌++◌, filter, length, ◌⊎◌, Contains}
use Rattle.std.specs.List.{list_any}
use Rattle.std.proofs.lemmas.Bool.{both_ways, not-true, not_from_false, false_from_ne_true, and_from}
use Rattle.world_model.specs.Types.{Name, Kind, Pass, Lane, Marker, Collector, Act}
use Rattle.world_model.specs.Types.act
use Rattle.world_model.specs.Types.begin
use Rattle.world_model.specs.Types.commit
use Rattle.world_model.specs.Sizes.{Sizes}
use Rattle.world_model.specs.NameLists.{same_name, has, members, ends_with, but_last, parted, names_from}
use Rattle.world_model.specs.World.{World, Removal, Begun, Finished, unit_of, in_world}
use Rattle.world_model.specs.Reach.{graph, IsUnit}
use Rattle.world_model.specs.State.{State, is_marked, white_units}
use Rattle.world_model.specs.Next.{next_world, with_loose, at_stage, polled}
use Rattle.world_model.specs.Histories.{MayBy, state_of, after}
use Rattle.world_model.specs.Follows.{is_done, is_removed, made_by, freed_by, loosens, parts_by, StaysBy, UnitsAfter, RemovedAfter}
use Rattle.world_model.specs.Midway.{AreApart}
use Rattle.world_model.proofs.ListFacts.{and_true, Contains-none, Among, among_append, among_left, among_right, among_filter, among_filter_test, filter_among, test_among, among_test, among_contains, contains_among}
use Rattle.world_model.proofs.NameFacts.{found_unit, has_among, among_has}
use Rattle.world_model.proofs.Joins.{histories_join}
use Rattle.world_model.proofs.Units.{units_apart}
use Rattle.world_model.proofs.Rounds.{named, released_by, has-members}
use Rattle.world_model.proofs.Queues.{named_any}
use Rattle.world_model.proofs.Inductions.{one_more}
use Rattle.world_model.proofs.Counts.{names_of, names_new, names_filter}
use Rattle.world_model.proofs.Destroying.{named_kept, left_after}
use Rattle.world_model.proofs.Sound.{IsSound, sound, commits_may}
use Rattle.world_model.proofs.Barrier.{own_unit, member_lives, unit_lives, loosens_may}
use Rattle.world_model.proofs.Loosening.{ends_own, among_parted, parted_among, which_part, whole_part}

-- ---- units

-- the units after an act
abbrev UnitsNext : State → Pass → Act → List Name → Type 0
UnitsNext s p a u = IsUnit (graph (next_world s.marks s.world p a)) u ↔ (((made_by p a ≢ []) × (u ≡ made_by p a)) ⊎ Contains (parts_by s.world a) u ⊎ StaysBy s a u)

-- where nothing is made, parted or removed
same_units : (s : State) (a : Act) (u : List Name) → loosens a u ≡ false → is_done a ≡ false → Contains s.world.units u ↔ ((◌≢◌ {A = List Name} [] [] × (u ≡ [])) ⊎ Contains [] u ⊎ StaysBy s a u)
same_units s a u whole other = (λ k. inr (inr (record { unit = k; whole = whole; marked = λ e. absurd (both_ways _ other e) })), now)
  where
    now : (◌≢◌ {A = List Name} [] [] × (u ≡ [])) ⊎ Contains [] u ⊎ StaysBy s a u → Contains s.world.units u
    now (inl is) = absurd (is.0 refl)
    now (inr (inl none)) = absurd (Contains-none u none)
    now (inr (inr old)) = old.unit

units_next : (z : Sizes) (s : State) (p : Pass) (a : Act) → MayBy z s p a → AreApart s.world.kinds s.world.units → (u : List Name) → UnitsNext s p a u
units_next z s (Lane lane) (act.Make kinds first) may apart u = (λ k. before (among_append s.world.units (new ∷ []) u (contains_among _ u k)), now)
  where
    new : List Name
    new = names_from lane first kinds

    some : (kinds : List Kind) → 1 ≤ length kinds → names_from lane first kinds ≢ []
    some [] less = absurd (omega arith)
    some (k ∷ kinds) less = λ e. cc

    before : Among s.world.units u ⊎ ((new ≡ u) ⊎ ⊥) → ((new ≢ []) × (u ≡ new)) ⊎ Contains [] u ⊎ StaysBy s (act.Make kinds first) u
    before (inl k) = inr (inr (record { unit = among_contains _ u k; whole = refl; marked = λ e. absurd cc }))
    before (inr (inl e)) = inl (some kinds may.may.some, sym e)
    before (inr (inr e)) = absurd e

    now : ((new ≢ []) × (u ≡ new)) ⊎ Contains [] u ⊎ StaysBy s (act.Make kinds first) u → Contains (s.world.units ++ new ∷ []) u
    now (inl is) = among_contains _ u (among_right s.world.units (new ∷ []) u (inl (sym is.1)))
    now (inr (inl none)) = absurd (Contains-none u none)
    now (inr (inr old)) = among_contains _ u (among_left s.world.units (new ∷ []) u (contains_among _ u old.unit))
units_next z s (Marker marker) (act.Make kinds first) may apart u = absurd may.may
units_next z s Collector (act.Make kinds first) may apart u = absurd may.may
units_next z s p (act.CommitGc commit.Done) may apart u = (
  λ k. let left = contains_among _ u k in inr (inr (record {
    unit = among_contains _ u (among_filter (is_marked s.marks) s.world.units u left);
    whole = refl;
    marked = λ e. among_filter_test (is_marked s.marks) s.world.units u left;
  })),
  now,
)
  where
    now : (◌≢◌ {A = List Name} [] [] × (u ≡ [])) ⊎ Contains [] u ⊎ StaysBy s (act.CommitGc commit.Done) u → Contains (filter (is_marked s.marks) s.world.units) u
    now (inl is) = absurd (is.0 refl)
    now (inr (inl none)) = absurd (Contains-none u none)
    now (inr (inr old)) = among_contains _ u (filter_among (is_marked s.marks) s.world.units u (contains_among _ u old.unit) (old.marked refl))
units_next z s p (act.Loose of) may apart u = (λ k. before (among_parted of s.world.units u (contains_among _ u k)), now)
  where
    unit : List Name
    unit = unit_of s.world of

    -- the unit that is parted is that of the member
    own : (v : List Name) → Among s.world.units v → ends_with of v ≡ true → unit ≡ v
    own v k e = own_unit s.world apart v of k (ends_own of v e)

    before : (v : List Name) × Among s.world.units v × Among (parted of v) u → (◌≢◌ {A = List Name} [] [] × (u ≡ [])) ⊎ Contains (parted of unit) u ⊎ StaysBy s (act.Loose of) u
    before (v, k, part) = go (which_part of v u part)
      where
        go : ((ends_with of v ≡ true) × ((but_last v ≡ u) ⊎ (of ∷ [] ≡ u))) ⊎ ((ends_with of v ≡ false) × (v ≡ u))
            → (◌≢◌ {A = List Name} [] [] × (u ≡ [])) ⊎ Contains (parted of unit) u ⊎ StaysBy s (act.Loose of) u
        go (inl (e, which)) = inr (inl (among_contains _ u (subst (λ (x : List Name). Among (parted of x) u) (sym (own v k e)) part)))
        go (inr (e, same)) =
            inr
            (inr
            (record {
              unit = among_contains _ u (subst (λ (x : List Name). Among s.world.units x) same k);
              whole = ap (ends_with of) (sym same) ∙ e;
              marked = λ e. absurd cc;
            }))

    now : (◌≢◌ {A = List Name} [] [] × (u ≡ [])) ⊎ Contains (parted of unit) u ⊎ StaysBy s (act.Loose of) u → Contains (with_loose s.world of).units u
    now (inl is) = absurd (is.0 refl)
    now (inr (inl part)) = among_contains _ u (parted_among of s.world.units unit u (found_unit s.world.units of lives).0 (contains_among _ u part))
      where
        lives : in_world s.world of ≡ true
        lives = unit_lives s.world of of (ends_own of unit (loosens_may z s p of may).2.last)
    now (inr (inr old)) = among_contains _ u (parted_among of s.world.units u u (contains_among _ u old.unit) (whole_part of u old.whole))
units_next z s p (act.BeginGc begin.Started) may apart u = same_units s (act.BeginGc begin.Started) u refl refl
units_next z s p a may apart u = same_units s a u refl refl

pub units_after_holds : UnitsAfter
units_after_holds z history e legal u =
    let parts = (histories_join.one_more z history e).0 legal in
    subst (λ (s : State). IsUnit (graph s.world) u ↔ (((made_by e.pass e.act ≢ []) × (u ≡ made_by e.pass e.act)) ⊎ Contains (parts_by (after history) e.act) u ⊎ StaysBy (state_of history) e.act u))
    (sym (one_more history e)) (units_next z (state_of history) e.pass e.act parts.1 (units_apart z history parts.0) u)

-- ---- removed objects

-- what is removed after an act
abbrev RemovedNext : State → Act → Name → Type 0
RemovedNext s a n = ((is_done a ≡ true) × (in_world s.world n ≡ true) × (is_marked s.marks (unit_of s.world n) ≡ false)) ⊎ ((is_removed s.world n ≡ true) × (has (freed_by s.world a) n ≡ false))

-- where what is removed stays so
same_removed : (rs rs' : List Removal) (n : Name) (A B : Type 0) → list_any (named n) rs' ≡ list_any (named n) rs
    → (list_any (named n) rs' ≡ true) ↔ (((false ≡ true) × A × B) ⊎ ((list_any (named n) rs ≡ true) × (has [] n ≡ false)))
same_removed rs rs' n A B same = (λ k. inr (sym same ∙ k, refl), now)
  where
    now : ((false ≡ true) × A × B) ⊎ ((list_any (named n) rs ≡ true) × (has [] n ≡ false)) → list_any (named n) rs' ≡ true
    now (inl e) = absurd (let wrong = e.0 in cc)
    now (inr old) = same ∙ old.0

removed_next : (z : Sizes) (s : State) (p : Pass) (a : Act) → MayBy z s p a → AreApart s.world.kinds s.world.units → IsSound s → (n : Name)
    → (is_removed (next_world s.marks s.world p a) n ≡ true) ↔ RemovedNext s a n
removed_next z s p (act.CommitGc commit.Done) may apart known n = (λ k. let was = white_was (sym is_named ∙ k) in inl (refl, was.0, was.1), now)
  where
    white : List Name
    white = members (white_units s.marks s.world)

    is_named : is_removed (next_world s.marks s.world p (act.CommitGc commit.Done)) n ≡ has white n
    is_named = sym (named_any n (next_world s.marks s.world p (act.CommitGc commit.Done)).removals) ∙ ap (λ (ns : List Name). has ns n) (names_new white)

    white_was : has white n ≡ true → (in_world s.world n ≡ true) × (is_marked s.marks (unit_of s.world n) ≡ false)
    white_was k =
        let unit = test_among (λ u. has u n) (white_units s.marks s.world) (sym (has-members (white_units s.marks s.world) n) ∙ k) in
        let in_units = among_filter (λ u. not (is_marked s.marks u)) s.world.units unit.0 unit.1 in (
          member_lives s.world unit.0 n in_units unit.2,
          subst (λ (u : List Name). is_marked s.marks u ≡ false) (sym (own_unit s.world apart unit.0 n in_units unit.2))
              (not-true _ (among_filter_test (λ u. not (is_marked s.marks u)) s.world.units unit.0 unit.1)),
        )

    now : RemovedNext s (act.CommitGc commit.Done) n → is_removed (next_world s.marks s.world p (act.CommitGc commit.Done)) n ≡ true
    now (inl (e, lives, unmarked)) =
        let unit = found_unit s.world.units n lives in
        is_named ∙ has-members (white_units s.marks s.world) n
        ∙ among_test (λ u. has u n) (white_units s.marks s.world) (unit_of s.world n)
        (filter_among (λ u. not (is_marked s.marks u)) s.world.units (unit_of s.world n) unit.0 (not_from_false _ unmarked)) unit.1
    now (inr old) = absurd (both_ways (is_removed s.world n) (ap (list_any (λ r. same_name n r.name)) (known.destroying.unmarked (commits_may z s p may).marking)) old.0)
removed_next z s p (act.Released of) may apart known n = (λ k. inr (before k), now)
  where
    w : World
    w = s.world

    names : freed_by w (act.Released of) ≡ filter (has (released_by w of)) (names_of w.removals)
    names = names_filter (has (released_by w of)) w.removals

    before : is_removed (next_world s.marks w p (act.Released of)) n ≡ true → (is_removed w n ≡ true) × (has (freed_by w (act.Released of)) n ≡ false)
    before k =
        let parts = and_true (not (has (released_by w of) n)) (is_removed w n) (sym (left_after w of n) ∙ k) in (
          parts.1,
          false_from_ne_true _ (λ out. both_ways (has (released_by w of) n) (not-true _ parts.0)
              (among_filter_test (has (released_by w of)) (names_of w.removals) n
              (has_among (filter (has (released_by w of)) (names_of w.removals)) n (ap (λ (ns : List Name). has ns n) (sym names) ∙ out)))),
        )

    now : RemovedNext s (act.Released of) n → is_removed (next_world s.marks w p (act.Released of)) n ≡ true
    now (inl e) = absurd (let wrong = e.0 in cc)
    now (inr old) = left_after w of n ∙ and_from _ _ (not_from_false _ (false_from_ne_true _ (λ out. both_ways (has (freed_by w (act.Released of)) n) old.1
        (ap (λ (ns : List Name). has ns n) names
        ∙ among_has (filter (has (released_by w of)) (names_of w.removals)) n
        (filter_among (has (released_by w of)) (names_of w.removals) n (has_among (names_of w.removals) n (named_any n w.removals ∙ old.0))
        out))))) old.0
removed_next z s p (act.Begun of) may apart known n =
    same_removed s.world.removals (at_stage s.world of Begun).removals n (in_world s.world n ≡ true) (is_marked s.marks (unit_of s.world n) ≡ false)
    (named_kept of (λ r. record r { stage = Begun }) (λ r. refl) s.world.removals n)
removed_next z s p (act.Finished of) may apart known n =
    same_removed s.world.removals (at_stage s.world of Finished).removals n (in_world s.world n ≡ true)
    (is_marked s.marks (unit_of s.world n) ≡ false) (named_kept of (λ r. record r { stage = Finished }) (λ r. refl) s.world.removals n)
removed_next z s p (act.Asked of poll answer) may apart known n =
    same_removed s.world.removals (polled s.world of poll).removals n (in_world s.world n ≡ true) (is_marked s.marks (unit_of s.world n) ≡ false)
    (named_kept of (λ r. record r { polls = poll }) (λ r. refl) s.world.removals n)
removed_next z s p (act.BeginGc begin.Started) may apart known n = same_removed s.world.removals s.world.removals n (in_world s.world n ≡ true) (is_marked s.marks (unit_of s.world n) ≡ false) refl
removed_next z s p _ may apart known n = same_removed s.world.removals s.world.removals n (in_world s.world n ≡ true) (is_marked s.marks (unit_of s.world n) ≡ false) refl

pub removed_after_holds : RemovedAfter
removed_after_holds z history e legal n =
    let parts = (histories_join.one_more z history e).0 legal in
    subst (λ (s : State). (is_removed s.world n ≡ true) ↔ RemovedNext (state_of history) e.act n) (sym (one_more history e))
    (removed_next z (state_of history) e.pass e.act parts.1 (units_apart z history parts.0) (sound z history parts.0) n)
