-- In every legal history what is held, and what is named, lives; and while a collection marks, a black unit names marked units alone.
use Rattle.std.proofs.Common.{◌≡◌, ℕ, refl, sym, subst, ap, ◌∙◌, inl, inr, Bool, cond, true, false, not, ◌||◌, ◌&&◌, ◌==◌, if◌then◌else◌, List, [], ◌∷◌, ◌++◌, filter, flat_map, Option, Some, None, unwrap_or, ◌⊎◌, IfSome, option_and_then}
use Rattle.std.specs.List.{list_any, find}
use Rattle.std.specs.Option.{option_to_list}
use Rattle.std.proofs.lemmas.Bool.{both_ways, false_from_ne_true, true_from_ne_false, or_left, eqb-true, and_from}
use Rattle.std.proofs.lemmas.List.Folds.{list_any-append}
use Rattle.world_model.specs.Types.{Name, Weak, Kind, SweepStop, Phase, Marking, Pass, Lane, Marker, Collector, Act, Entry}
use Rattle.world_model.specs.Types.act
use Rattle.world_model.specs.Types.begin
use Rattle.world_model.specs.Types.commit
use Rattle.world_model.specs.Types.sweep
use Rattle.world_model.specs.Sizes.{Sizes}
use Rattle.world_model.specs.NameLists.{same_name, same_weak, has, members, names_from, set_at, set_name}
use Rattle.world_model.specs.World.{World, Pair, unit_of, in_world, is_given, is_open, resolved}
use Rattle.world_model.specs.Reach.{graph, IsRootUnit}
use Rattle.world_model.specs.State.{State, Frame, beginning, is_marked, is_grey, grey_in, grey_units}
use Rattle.world_model.specs.Next.{next_world, with_loose, next_frame, next_by, next, settled, given, lane_of}
use Rattle.world_model.specs.LaneSteps.{IsWhite, WritesRef, SetsStrong, SetsRoot, Loosens}
use Rattle.world_model.specs.MarkerSteps.{Scans}
use Rattle.world_model.specs.CollectorSteps.{Commits}
use Rattle.world_model.specs.Histories.{MayBy, May, Legal, state_of}
use Rattle.world_model.specs.Follows.{IsMade, is_done, made_by}
use Rattle.world_model.specs.Midway.{AreApart}
use Rattle.world_model.proofs.ListFacts.{and_true, or_true, or_right, any_filter, Among, among_append, among_filter, among_filter_test, filter_among, test_among, among_test, among_contains}
use Rattle.world_model.proofs.NameFacts.{same_name_true, found_unit, any_more, has_among, among_has}
use Rattle.world_model.proofs.Reaches.{reach_by_walks_holds}
use Rattle.world_model.proofs.Rounds.{has-members}
use Rattle.world_model.proofs.Loosening.{lives_loose}
use Rattle.world_model.proofs.Units.{units_apart}
use Rattle.world_model.proofs.Quiet.{not_open, still_open, other_lane, no_lane, no_collector}
use Rattle.world_model.proofs.Inductions.{by_states}
use Rattle.world_model.proofs.Sound.{IsSound, sound, made_living, made_stays, is_new, commits_may}

-- ---- what lives

-- what lives stays, but for a commit
pub living_stays : (s : State) (p : Pass) (a : Act) (n : Name) → is_done a ≡ false → in_world s.world n ≡ true → in_world (next_world s.marks s.world p a) n ≡ true
living_stays s p (act.Make kinds first) n other h = list_any-append (λ u. has u n) s.world.units _ ∙ or_left (in_world s.world n) _ h
living_stays s p (act.BeginGc begin.Started) n other h = h
living_stays s p (act.CommitGc commit.Done) n other h = absurd cc
living_stays s p (act.Loose of) n other h = lives_loose s.world of n ∙ h
living_stays s p _ n other h = h

-- what lives lived, or is made now
pub lived : (s : State) (p : Pass) (a : Act) (n : Name) → in_world (next_world s.marks s.world p a) n ≡ true → (in_world s.world n ≡ true) ⊎ (has (made_by p a) n ≡ true)
lived s p (act.Make kinds first) n h = go (or_true (in_world s.world n) _ (sym (list_any-append (λ u. has u n) s.world.units (made_by p (act.Make kinds first) ∷ [])) ∙ h))
  where
    or_none : (b : Bool) → (b || false) ≡ true → b ≡ true
    or_none true e = refl
    or_none false e = e

    go : (in_world s.world n ≡ true) ⊎ ((has (made_by p (act.Make kinds first)) n || false) ≡ true) → (in_world s.world n ≡ true) ⊎ (has (made_by p (act.Make kinds first)) n ≡ true)
    go (inl e) = inl e
    go (inr e) = inr (or_none _ e)
lived s p (act.BeginGc begin.Started) n h = inl h
lived s p (act.Loose of) n h = inl (sym (lives_loose s.world of n) ∙ h)
lived s p (act.CommitGc commit.Done) n h = inl (any_filter (λ u. has u n) (is_marked s.marks) s.world.units h)
lived s p _ n h = inl h

-- a member of a unit in the world lives
pub member_lives : (w : World) (u : List Name) (n : Name) → Among w.units u → has u n ≡ true → in_world w n ≡ true
member_lives w u n k h = among_test (λ v. has v n) w.units u k h

pub makes_living : (s : State) (p : Pass) (kinds : List Kind) (first : ℕ) (n : Name) → has (names_from (lane_of p) first kinds) n ≡ true
    → in_world (next_world s.marks s.world p (act.Make kinds first)) n ≡ true
makes_living s p kinds first n h = list_any-append (λ u. has u n) s.world.units (names_from (lane_of p) first kinds ∷ []) ∙ or_right (in_world s.world n) _ (or_left _ false h)

-- ---- what is named lives

pub record IsNamed (w : World) : Type 0 where
  pub cells : (at : Name) (slot : ℕ) (n : Name) → in_world w at ≡ true → w.cell at slot ≡ Some n → in_world w n ≡ true
  -- what was not made has empty cells
  pub blank : (at : Name) (slot : ℕ) (n : Name) → w.cell at slot ≡ Some n → IsMade w at
  pub rooted : (n : Name) → w.rooted n ≡ true → in_world w n ≡ true
  pub strong : (lane number : ℕ) (n : Name) → w.strong lane number ≡ Some n → in_world w n ≡ true

-- what an open frame holds lives
pub record IsHolding (w : World) (frames : ℕ → Frame) : Type 0 where
  pub lives : (lane : ℕ) (n : Name) → has (frames lane).held n ≡ true → in_world w n ≡ true
  pub opened : (lane : ℕ) (n : Name) → has (frames lane).held n ≡ true → is_open w (Lane lane) ≡ true

-- ---- marks

abbrev pub marked : List Name → List Name → List Name → Bool
marked kept fresh u = list_any (λ n. has kept n || has fresh n) u

abbrev pub grey : List Name → List Name → List Name → Bool
grey kept scanned u = list_any (has kept) u && not (list_any (has scanned) u)

-- while a collection marks, a marked unit that is not grey names members of marked units alone
pub record IsTricolour (phase : Phase) (units : List (List Name)) (cell : Name → ℕ → Option Name) (kept fresh scanned : List Name) : Type 0 where
  pub black : phase ≡ Marking → (u v : List Name) (from : Name) (slot : ℕ) (to : Name) → Among units u → Among units v → has u from ≡ true → has v to ≡ true → cell from slot ≡ Some to
      → marked kept fresh u ≡ true → grey kept scanned u ≡ false → marked kept fresh v ≡ true
  pub scanned_kept : phase ≡ Marking → (u : List Name) → Among units u → list_any (has scanned) u ≡ true → list_any (has kept) u ≡ true

-- what a note names was made
pub record IsNoted (w : World) (kept fresh scanned : List Name) : Type 0 where
  pub kept_made : (n : Name) → has kept n ≡ true → IsMade w n
  pub fresh_made : (n : Name) → has fresh n ≡ true → IsMade w n
  pub scanned_made : (n : Name) → has scanned n ≡ true → IsMade w n

abbrev pub Tricolour : State → Type 0
Tricolour s = IsTricolour s.world.phase s.world.units s.world.cell s.marks.kept s.marks.fresh s.marks.scanned

abbrev pub Noted : State → Type 0
Noted s = IsNoted s.world s.marks.kept s.marks.fresh s.marks.scanned

pub record IsBarred (s : State) : Type 0 where
  pub named : IsNamed s.world
  pub holding : IsHolding s.world s.frames
  pub tricolour : Tricolour s
  pub noted : Noted s

-- ---- one value changed

pub set_name_here : {A : Type 0} (f : Name → A) (n : Name) (value : A) (P : Name → A → Type 0) → P n value → ((m : Name) → P m (f m)) → (m : Name) → P m (set_name f n value m)
set_name_here {A} f n value P here others m = go (same_name m n) refl
  where
    go : (b : Bool) → same_name m n ≡ b → P m (cond b value (f m))
    go true e = subst (λ (x : Name). P x value) (sym (same_name_true m n e)) here
    go false e = others m

pub set_at_here : {A : Type 0} (f : ℕ → A) (k : ℕ) (value : A) (P : ℕ → A → Type 0) → P k value → ((i : ℕ) → P i (f i)) → (i : ℕ) → P i (set_at f k value i)
set_at_here {A} f k value P here others i = go (i == k) refl
  where
    go : (b : Bool) → (i == k) ≡ b → P i (cond b value (f i))
    go true e = subst (λ (x : ℕ). P x value) (sym (eqb-true i k e)) here
    go false e = others i

-- what holds of the new cell and of the old ones
pub cells_after : (cell : Name → ℕ → Option Name) (at : Name) (slot : ℕ) (to : Option Name) (P : Name → ℕ → Option Name → Type 0) → P at slot to → ((n : Name) (k : ℕ) → P n k (cell n k))
    → (n : Name) (k : ℕ) → P n k (set_name cell at (set_at (cell at) slot to) n k)
cells_after cell at slot to P here others =
    set_name_here cell at (set_at (cell at) slot to) (λ n row. (k : ℕ) → P n k (row k)) (set_at_here (cell at) slot to (P at) here (others at)) others

-- of what is perhaps there
pub of_some : (P : Name → Type 0) (to : Option Name) → IfSome to P → (n : Name) → to ≡ Some n → P n
of_some P None h n e = absurd cc
of_some P (Some m) h n e = let same : m ≡ n = cc in subst P same h

-- ---- marks that become more

any_more_pass : {A : Type 0} (p q : A → Bool) (xs : List A) → ((x : A) → p x ≡ true → q x ≡ true) → list_any p xs ≡ true → list_any q xs ≡ true
any_more_pass p q xs more h = let r = test_among p xs h in among_test q xs r.0 r.1 (more r.0 r.2)

-- the one unit of a name that lives
pub own_unit : (w : World) → AreApart w.kinds w.units → (u : List Name) (n : Name) → Among w.units u → has u n ≡ true → unit_of w n ≡ u
own_unit w apart u n k h =
    let unit = found_unit w.units n (member_lives w u n k h) in
    apart.apart (unit_of w n) u n unit.0 k unit.1 h

-- a name has a unit only while it lives
pub unit_lives : (w : World) (n m : Name) → has (unit_of w n) m ≡ true → in_world w n ≡ true
unit_lives w n m h = go w.units h
  where
    go : (units : List (List Name)) → has (unwrap_or (find (λ u. has u n) units) []) m ≡ true → list_any (λ u. has u n) units ≡ true
    go [] h = absurd cc
    go (u ∷ units) h = one (has u n) (go units) h
      where
        one : (b : Bool) → (has (unwrap_or (find (λ v. has v n) units) []) m ≡ true → list_any (λ v. has v n) units ≡ true)
            → has (unwrap_or (cond b (Some u) (find (λ v. has v n) units)) []) m ≡ true → (b || list_any (λ v. has v n) units) ≡ true
        one true rest h = refl
        one false rest h = rest h

-- one more object is noted
noted_more : (of : Name) (noted : List Name) (n : Name) → has noted n ≡ true → has (of ∷ noted) n ≡ true
noted_more of noted n h = or_right (same_name n of) _ h

pub marked_more : (kept kept' fresh fresh' u : List Name) → ((n : Name) → has kept n ≡ true → has kept' n ≡ true) → ((n : Name) → has fresh n ≡ true → has fresh' n ≡ true)
    → marked kept fresh u ≡ true → marked kept' fresh' u ≡ true
marked_more kept kept' fresh fresh' u a b h = any_more_pass (λ n. has kept n || has fresh n) (λ n. has kept' n || has fresh' n) u (λ n m. go n (or_true _ _ m)) h
  where
    go : (n : Name) → (has kept n ≡ true) ⊎ (has fresh n ≡ true) → (has kept' n || has fresh' n) ≡ true
    go n (inl e) = or_left _ _ (a n e)
    go n (inr e) = or_right _ _ (b n e)

kept_marked : (kept fresh u : List Name) → list_any (has kept) u ≡ true → marked kept fresh u ≡ true
kept_marked kept fresh u h = any_more_pass (has kept) (λ n. has kept n || has fresh n) u (λ n e. or_left _ _ e) h

-- a white unit is kept
module _ (units : List (List Name)) (cell : Name → ℕ → Option Name) (phase : Phase) (kept fresh scanned : List Name) (h : IsTricolour phase units cell kept fresh scanned) (of : Name) where
  was_marked : phase ≡ Marking → (u : List Name) → Among units u → (s : Bool) → list_any (has scanned) u ≡ s → (k : Bool) → list_any (has (of ∷ kept)) u ≡ k
      → marked (of ∷ kept) fresh u ≡ true → (k && not s) ≡ false → marked kept fresh u ≡ true
  was_marked marking u among true e k f m not_grey = kept_marked kept fresh u (h.scanned_kept marking u among e)
  was_marked marking u among false e true f m not_grey = absurd cc
  was_marked marking u among false e false f m not_grey =
      let r = test_among (λ n. has (of ∷ kept) n || has fresh n) u m in
      among_test (λ n. has kept n || has fresh n) u r.0 r.1 (pick r.0 r.1 (or_true (has (of ∷ kept) r.0) (has fresh r.0) r.2))
    where
      pick : (n : Name) → Among u n → (has (of ∷ kept) n ≡ true) ⊎ (has fresh n ≡ true) → (has kept n || has fresh n) ≡ true
      pick n k (inl e) = absurd (both_ways _ f (among_test (has (of ∷ kept)) u n k e))
      pick n k (inr e) = or_right _ _ e

  kept_tricolour : IsTricolour phase units cell (of ∷ kept) fresh scanned
  kept_tricolour = record {
    black = λ marking u v from slot to k l a b e m not_grey.
        marked_more kept (of ∷ kept) fresh fresh v (λ n. noted_more of kept n) (λ n e. e)
        (h.black marking u v from slot to k l a b e (was_marked marking u k (list_any (has scanned) u) refl (list_any (has (of ∷ kept)) u) refl m not_grey)
        (false_from_ne_true _ (λ g. let parts = and_true (list_any (has kept) u) (not (list_any (has scanned) u)) g in
        both_ways _ not_grey (and_from _ _ (any_more_pass (has kept) (has (of ∷ kept)) u (noted_more of kept) parts.0) parts.1))));
    scanned_kept = λ marking u k is. any_more_pass (has kept) (has (of ∷ kept)) u (noted_more of kept) (h.scanned_kept marking u k is);
  }

-- a grey unit is scanned
scanned_tricolour : (s : State) (of : Name) → AreApart s.world.kinds s.world.units → Scans s of → Tricolour s
    → IsTricolour s.world.phase s.world.units s.world.cell s.marks.kept s.marks.fresh (of ∷ s.marks.scanned)
scanned_tricolour s of apart may h = record {
  black = λ marking u v from slot to k l a b e m not_grey. go marking u v from slot to k l a b e m (list_any (has s.marks.kept) u) refl (list_any (has s.marks.scanned) u) refl not_grey;
  scanned_kept = λ marking u k is. kept marking u k (any_more of s.marks.scanned u is);
}
  where
    -- the unit of the scanned object
    own : (u : List Name) → Among s.world.units u → has u of ≡ true → unit_of s.world of ≡ u
    own u k e = own_unit s.world apart u of k e

    kept : s.world.phase ≡ Marking → (u : List Name) → Among s.world.units u → (has u of ≡ true) ⊎ (list_any (has s.marks.scanned) u ≡ true) → list_any (has s.marks.kept) u ≡ true
    kept marking u k (inl e) = subst (λ (v : List Name). list_any (has s.marks.kept) v ≡ true) (own u k e) (and_true _ _ may.grey).0
    kept marking u k (inr e) = h.scanned_kept marking u k e

    go : s.world.phase ≡ Marking → (u v : List Name) (from : Name) (slot : ℕ) (to : Name) → Among s.world.units u → Among s.world.units v
        → has u from ≡ true → has v to ≡ true → s.world.cell from slot ≡ Some to
        → is_marked s.marks u ≡ true → (a : Bool) → list_any (has s.marks.kept) u ≡ a → (b : Bool) → list_any (has s.marks.scanned) u ≡ b
        → (a && not (list_any (has (of ∷ s.marks.scanned)) u)) ≡ false → is_marked s.marks v ≡ true
    go marking u v from slot to k l a b e m false f sc g not_grey = h.black marking u v from slot to k l a b e m (rw f refl)
    go marking u v from slot to k l a b e m true f true g not_grey = h.black marking u v from slot to k l a b e m (rw (f, g) refl)
    go marking u v from slot to k l a b e m true f false g not_grey = split (any_more of s.marks.scanned u (now _ not_grey))
      where
        now : (x : Bool) → not x ≡ false → x ≡ true
        now true e = refl
        now false e = absurd cc

        split : (has u of ≡ true) ⊎ (list_any (has s.marks.scanned) u ≡ true) → is_marked s.marks v ≡ true
        split (inl own_of) = may.targets v (among_contains s.world.units v l)
            (record { from = from; slot = slot; to = to; cell = e; member = subst (λ (x : List Name). has x from ≡ true) (sym (own u k own_of)) a; target = b })
        split (inr is) = absurd (both_ways _ g is)

-- a unit is made
made_tricolour : (z : Sizes) (s : State) (p : Pass) (kinds : List Kind) (first : ℕ) → MayBy z s p (act.Make kinds first) → IsSound s → IsNamed s.world → Noted s → Tricolour s
    → IsTricolour s.world.phase (s.world.units ++ names_from (lane_of p) first kinds ∷ []) s.world.cell s.marks.kept (names_from (lane_of p) first kinds ++ s.marks.fresh) s.marks.scanned
made_tricolour z s p kinds first may known named noted h = record {
  black = λ marking u v from slot to k l a b e m not_grey. black marking u v from slot to (among_append s.world.units (new ∷ []) u k) (among_append s.world.units (new ∷ []) v l) a b e m not_grey;
  scanned_kept = λ marking u k is. scanned_kept marking u (among_append s.world.units (new ∷ []) u k) is;
}
  where
    new : List Name
    new = names_from (lane_of p) first kinds

    unmade : (n : Name) → has new n ≡ true → IsMade s.world n → ⊥
    unmade n e = (is_new z s p (act.Make kinds first) n may e).0

    -- no member of an old unit is new
    old : (u : List Name) (n : Name) → Among s.world.units u → Among u n → has new n ≡ true → ⊥
    old u n k m e = unmade n e (made_living s.world known.once n (member_lives s.world u n k (among_has u n m)))

    marked_before : (u : List Name) → Among s.world.units u → marked s.marks.kept (new ++ s.marks.fresh) u ≡ true → is_marked s.marks u ≡ true
    marked_before u k m =
        let r = test_among (λ n. has s.marks.kept n || has (new ++ s.marks.fresh) n) u m in
        among_test (λ n. has s.marks.kept n || has s.marks.fresh n) u r.0 r.1 (pick r.0 r.1 (or_true _ _ r.2))
      where
        later : (n : Name) → Among u n → (has new n ≡ true) ⊎ (has s.marks.fresh n ≡ true) → (has s.marks.kept n || has s.marks.fresh n) ≡ true
        later n m (inl e) = absurd (old u n k m e)
        later n m (inr e) = or_right _ _ e

        pick : (n : Name) → Among u n → (has s.marks.kept n ≡ true) ⊎ (has (new ++ s.marks.fresh) n ≡ true) → (has s.marks.kept n || has s.marks.fresh n) ≡ true
        pick n m (inl e) = or_left _ _ e
        pick n m (inr e) = later n m (or_true _ _ (sym (list_any-append (same_name n) new s.marks.fresh) ∙ e))

    fresh_more : (n : Name) → has s.marks.fresh n ≡ true → has (new ++ s.marks.fresh) n ≡ true
    fresh_more n e = list_any-append (same_name n) new s.marks.fresh ∙ or_right (has new n) _ e

    black : s.world.phase ≡ Marking → (u v : List Name) (from : Name) (slot : ℕ) (to : Name) → Among s.world.units u ⊎ ((new ≡ u) ⊎ ⊥) → Among s.world.units v ⊎ ((new ≡ v) ⊎ ⊥)
        → has u from ≡ true → has v to ≡ true → s.world.cell from slot ≡ Some to
        → marked s.marks.kept (new ++ s.marks.fresh) u ≡ true → grey s.marks.kept s.marks.scanned u ≡ false → marked s.marks.kept (new ++ s.marks.fresh) v ≡ true
    black marking u v from slot to (inr (inl e)) l a b c m g = absurd (unmade from (subst (λ (x : List Name). has x from ≡ true) (sym e) a) (named.blank from slot to c))
    black marking u v from slot to (inr (inr e)) l a b c m g = absurd e
    black marking u v from slot to (inl k) (inr (inr e)) a b c m g = absurd e
    black marking u v from slot to (inl k) (inr (inl e)) a b c m g =
        let there : has new to ≡ true = subst (λ (x : List Name). has x to ≡ true) (sym e) b in
        among_test (λ n. has s.marks.kept n || has (new ++ s.marks.fresh) n) v to (has_among v to b) (or_right _ _ (list_any-append (same_name to) new s.marks.fresh ∙ or_left _ _ there))
    black marking u v from slot to (inl k) (inl l) a b c m g =
        marked_more s.marks.kept s.marks.kept s.marks.fresh (new ++ s.marks.fresh) v (λ n e. e) fresh_more (h.black marking u v from slot to k l a b c (marked_before u k m) g)

    scanned_kept : s.world.phase ≡ Marking → (u : List Name) → Among s.world.units u ⊎ ((new ≡ u) ⊎ ⊥) → list_any (has s.marks.scanned) u ≡ true → list_any (has s.marks.kept) u ≡ true
    scanned_kept marking u (inl k) is = h.scanned_kept marking u k is
    scanned_kept marking u (inr (inl e)) is =
        let r = test_among (has s.marks.scanned) u is in
        absurd (unmade r.0 (subst (λ (x : List Name). has x r.0 ≡ true) (sym e) (among_has u r.0 r.1)) (noted.scanned_made r.0 r.2))
    scanned_kept marking u (inr (inr e)) is = absurd e

-- a reference is stored: its target is marked
stored_tricolour : (s : State) (at : Name) (slot : ℕ) (to : Option Name) → AreApart s.world.kinds s.world.units
    → (s.world.phase ≡ Marking → (n : Name) → to ≡ Some n → is_marked s.marks (unit_of s.world n) ≡ true)
    → Tricolour s → IsTricolour s.world.phase s.world.units (set_name s.world.cell at (set_at (s.world.cell at) slot to)) s.marks.kept s.marks.fresh s.marks.scanned
stored_tricolour s at slot to apart shaded h = record {
  black =
      λ marking u v from k_slot target k l a b e m g.
      cells_after s.world.cell at slot to (Black marking) (λ u v target k l a b e m g. new marking v target l b e)
      (λ n k u v target x y a b e m g. h.black marking u v n k target x y a b e m g) from k_slot u v target k l a b e m g;
  scanned_kept = h.scanned_kept;
}
  where
    Black : s.world.phase ≡ Marking → Name → ℕ → Option Name → Type 0
    Black marking from slot c = (u v : List Name) (target : Name) → Among s.world.units u → Among s.world.units v → has u from ≡ true → has v target ≡ true → c ≡ Some target
        → is_marked s.marks u ≡ true → is_grey s.marks u ≡ false → is_marked s.marks v ≡ true

    new : s.world.phase ≡ Marking → (v : List Name) (target : Name) → Among s.world.units v → has v target ≡ true → to ≡ Some target → is_marked s.marks v ≡ true
    new marking v target l b e = subst (λ (x : List Name). is_marked s.marks x ≡ true) (own_unit s.world apart v target l b) (shaded marking target e)

other_phase : (phase phase' : Phase) (units : List (List Name)) (cell : Name → ℕ → Option Name) (kept fresh scanned : List Name) → (phase' ≡ Marking → phase ≡ Marking)
    → IsTricolour phase units cell kept fresh scanned → IsTricolour phase' units cell kept fresh scanned
other_phase phase phase' units cell kept fresh scanned back h = record { black = λ marking. h.black (back marking); scanned_kept = λ marking. h.scanned_kept (back marking) }

pub settled_marking : (phase : Phase) (stop : SweepStop) → settled phase stop ≡ Marking → phase ≡ Marking
settled_marking phase sweep.More e = e
settled_marking phase sweep.Settled e = absurd cc
settled_marking phase (sweep.NotGathering p) e = e

none_marked : (u : List Name) → marked [] [] u ≡ true → ⊥
none_marked [] h = cc
none_marked (n ∷ u) h = none_marked u h

-- ---- which pass an act is of

pub writes : (z : Sizes) (s : State) (p : Pass) (at : Name) (slot : ℕ) (to old : Option Name) → MayBy z s p (act.WriteRef at slot to old)
    → (lane : ℕ) × (p ≡ Lane lane) × WritesRef s lane at slot to old
writes z s (Lane lane) at slot to old may = (lane, refl, may.may)
writes z s (Marker marker) at slot to old may = absurd may.may
writes z s Collector at slot to old may = absurd may.may

pub roots : (z : Sizes) (s : State) (p : Pass) (at : Name) (on old : Bool) → MayBy z s p (act.Root at on old) → (lane : ℕ) × (p ≡ Lane lane) × SetsRoot s lane at on old
roots z s (Lane lane) at on old may = (lane, refl, may.may)
roots z s (Marker marker) at on old may = absurd may.may
roots z s Collector at on old may = absurd may.may

pub sets : (z : Sizes) (s : State) (p : Pass) (h : ℕ) (to old : Option Name) → MayBy z s p (act.SetStrong h to old) → (lane : ℕ) × (p ≡ Lane lane) × SetsStrong z s lane h to old
sets z s (Lane lane) h to old may = (lane, refl, may.may)
sets z s (Marker marker) h to old may = absurd may.may
sets z s Collector h to old may = absurd may.may

pub keeps : (z : Sizes) (s : State) (p : Pass) (of : Name) → MayBy z s p (act.Kept of) → IsWhite s of
keeps z s (Lane lane) of may = may.may.white
keeps z s (Marker marker) of may = may.may.white
keeps z s Collector of may = may.may.white

pub loosens_may : (z : Sizes) (s : State) (p : Pass) (of : Name) → MayBy z s p (act.Loose of) → (lane : ℕ) × (p ≡ Lane lane) × Loosens s lane of
loosens_may z s (Lane lane) of may = (lane, refl, may.may)
loosens_may z s (Marker marker) of may = absurd may.may
loosens_may z s Collector of may = absurd may.may

pub scans : (z : Sizes) (s : State) (p : Pass) (of : Name) → MayBy z s p (act.Scanned of) → Scans s of
scans z s (Lane lane) of may = absurd may.may
scans z s (Marker marker) of may = may.may
scans z s Collector of may = absurd may.may

-- ---- each step

next_tricolour : (z : Sizes) (s : State) (p : Pass) (a : Act) → MayBy z s p a → AreApart s.world.kinds s.world.units → IsSound s → IsBarred s
    → Tricolour (next_by s (next_world s.marks s.world p a) p a)
next_tricolour z s p (act.Kept of) may apart known h = kept_tricolour s.world.units s.world.cell s.world.phase s.marks.kept s.marks.fresh s.marks.scanned h.tricolour of
next_tricolour z s p (act.Scanned of) may apart known h = scanned_tricolour s of apart (scans z s p of may) h.tricolour
next_tricolour z s p (act.Make kinds first) may apart known h = made_tricolour z s p kinds first may known h.named h.noted h.tricolour
next_tricolour z s p (act.WriteRef at slot to old) may apart known h =
    stored_tricolour s at slot to apart (λ marking n e. of_some (λ n. is_marked s.marks (unit_of s.world n) ≡ true) to ((writes z s p at slot to old may).2.shaded marking) n e) h.tricolour
next_tricolour z s p (act.BeginGc begin.Started) may apart known h = record { black = λ marking u v from slot to k l a b e m. absurd (none_marked u m); scanned_kept = λ marking u k is. is }
next_tricolour z s p (act.CommitGc commit.Done) may apart known h = record { black = λ marking. absurd cc; scanned_kept = λ marking. absurd cc }
next_tricolour z s p (act.Sweep budget reply names) may apart known h =
    other_phase s.world.phase (settled s.world.phase reply.stop) s.world.units s.world.cell s.marks.kept s.marks.fresh s.marks.scanned (settled_marking s.world.phase reply.stop) h.tricolour
next_tricolour z s p (act.Loose of) may apart known h =
    record {
      black = λ marking. absurd ((loosens_may z s p of may).2.unmarked marking);
      scanned_kept = λ marking. absurd ((loosens_may z s p of may).2.unmarked marking);
    }
next_tricolour z s p _ may apart known h = h.tricolour

next_noted : (z : Sizes) (s : State) (p : Pass) (a : Act) → MayBy z s p a → IsSound s → Noted s → Noted (next_by s (next_world s.marks s.world p a) p a)
next_noted z s p (act.Kept of) may known h = record { kept_made = λ n e. kept n (or_true _ _ e); fresh_made = h.fresh_made; scanned_made = h.scanned_made }
  where
    kept : (n : Name) → (same_name n of ≡ true) ⊎ (has s.marks.kept n ≡ true) → IsMade s.world n
    kept n (inl e) = subst (λ (x : Name). IsMade s.world x) (sym (same_name_true n of e)) (made_living s.world known.once of (keeps z s p of may).living)
    kept n (inr e) = h.kept_made n e
next_noted z s p (act.Scanned of) may known h = record { kept_made = h.kept_made; fresh_made = h.fresh_made; scanned_made = λ n e. scanned n (or_true _ _ e) }
  where
    scanned : (n : Name) → (same_name n of ≡ true) ⊎ (has s.marks.scanned n ≡ true) → IsMade s.world n
    scanned n (inl e) = subst (λ (x : Name). IsMade s.world x) (sym (same_name_true n of e)) (made_living s.world known.once of (scans z s p of may).living)
    scanned n (inr e) = h.scanned_made n e
next_noted z s p (act.Make kinds first) may known h = record {
  kept_made = λ n e. made_stays s p (act.Make kinds first) n (h.kept_made n e);
  fresh_made = λ n e. fresh n (or_true _ _ (sym (list_any-append (same_name n) (names_from (lane_of p) first kinds) s.marks.fresh) ∙ e));
  scanned_made = λ n e. made_stays s p (act.Make kinds first) n (h.scanned_made n e);
}
  where
    fresh : (n : Name) → (has (names_from (lane_of p) first kinds) n ≡ true) ⊎ (has s.marks.fresh n ≡ true) → IsMade (next_world s.marks s.world p (act.Make kinds first)) n
    fresh n (inl e) = (is_new z s p (act.Make kinds first) n may e).1
    fresh n (inr e) = made_stays s p (act.Make kinds first) n (h.fresh_made n e)
next_noted z s p (act.Loose of) may known h =
    record {
      kept_made = h.kept_made;
      fresh_made = λ n e. fresh n (or_true _ _ (sym (list_any-append (same_name n) (members (with_loose s.world of).units) s.marks.fresh) ∙ e));
      scanned_made = h.scanned_made;
    }
  where
    fresh : (n : Name) → (has (members (with_loose s.world of).units) n ≡ true) ⊎ (has s.marks.fresh n ≡ true) → IsMade s.world n
    fresh n (inl e) = made_living s.world known.once n (sym (lives_loose s.world of n) ∙ sym (has-members (with_loose s.world of).units n) ∙ e)
    fresh n (inr e) = h.fresh_made n e
next_noted z s p (act.BeginGc begin.Started) may known h = record { kept_made = λ n e. absurd cc; fresh_made = λ n e. absurd cc; scanned_made = λ n e. absurd cc }
next_noted z s p (act.CommitGc commit.Done) may known h = record { kept_made = h.kept_made; fresh_made = h.fresh_made; scanned_made = h.scanned_made }
next_noted z s p _ may known h = record { kept_made = h.kept_made; fresh_made = h.fresh_made; scanned_made = h.scanned_made }

-- ---- a commit

-- where nothing is grey, no unit is
pub no_grey : (s : State) → s.world.phase ≡ Marking → grey_units s ≡ [] → (u : List Name) → Among s.world.units u → is_grey s.marks u ≡ false
no_grey s marking none u k = false_from_ne_true _ (λ g. subst (λ (us : List (List Name)). Among us u) all (filter_among (is_grey s.marks) s.world.units u k g))
  where
    all : filter (is_grey s.marks) s.world.units ≡ []
    all = ap (λ (phase : Phase). grey_in phase s.marks s.world.units) (sym marking) ∙ none

-- what lives in a marked unit outlives the commit
outlives : (s : State) (u : List Name) (n : Name) → Among s.world.units u → is_marked s.marks u ≡ true → has u n ≡ true → list_any (λ v. has v n) (filter (is_marked s.marks) s.world.units) ≡ true
outlives s u n k m h = among_test (λ v. has v n) (filter (is_marked s.marks) s.world.units) u (filter_among (is_marked s.marks) s.world.units u k m) h

-- what is in the root set is in a marked unit
root_outlives : (s : State) (n : Name) → Commits s → in_world s.world n ≡ true → ((u : List Name) → has u n ≡ true → IsRootUnit (graph s.world) u)
    → list_any (λ v. has v n) (filter (is_marked s.marks) s.world.units) ≡ true
root_outlives s n may lives root =
    let unit = test_among (λ u. has u n) s.world.units lives in
    let is_unit = among_contains s.world.units unit.0 unit.1 in
    outlives s unit.0 n unit.1 (true_from_ne_false _ (λ white. may.unreached unit.0 is_unit white ((reach_by_walks_holds (graph s.world)).roots unit.0 is_unit (root unit.0 unit.2)))) unit.2

committed_named : (z : Sizes) (s : State) (p : Pass) → Commits s → IsBarred s → IsNamed (next_world s.marks s.world p (act.CommitGc commit.Done))
committed_named z s p may h = record {
  cells = λ at slot n lives e. cells at slot n e (test_among (λ u. has u at) (filter (is_marked s.marks) s.world.units) lives);
  blank = λ at slot n e. h.named.blank at slot n e;
  rooted = λ n is. let root = (and_true _ _ is).0 in root_outlives s n may (h.named.rooted n root) (λ u k. (n, k, inl root));
  strong = λ lane number n e. root_outlives s n may (h.named.strong lane number n e) (λ u k. (n, k, inr (lane, number, e)));
}
  where
    cells : (at : Name) (slot : ℕ) (n : Name) → s.world.cell at slot ≡ Some n → ((u : List Name) × Among (filter (is_marked s.marks) s.world.units) u × (has u at ≡ true))
        → list_any (λ v. has v n) (filter (is_marked s.marks) s.world.units) ≡ true
    cells at slot n e (u, k, m) =
        let in_units = among_filter (is_marked s.marks) s.world.units u k in
        let lives = h.named.cells at slot n (member_lives s.world u at in_units m) e in
        let target = test_among (λ v. has v n) s.world.units lives in
        outlives s target.0 n target.1
        (h.tricolour.black may.marking u target.0 at slot n in_units target.1 m target.2 e (among_filter_test (is_marked s.marks) s.world.units u k)
        (no_grey s may.marking may.black u in_units)) target.2

-- ---- what is named

held_live : (s : State) → IsHolding s.world s.frames → (lane : ℕ) (to : Option Name) → IfSome to (λ n. has (s.frames lane).held n ≡ true) → IfSome to (λ n. in_world s.world n ≡ true)
held_live s h lane None held = tt
held_live s h lane (Some n) held = h.lives lane n held

next_named : (z : Sizes) (s : State) (p : Pass) (a : Act) → MayBy z s p a → IsSound s → IsBarred s → IsNamed (next_world s.marks s.world p a)
next_named z s p (act.Make kinds first) may known h = record {
  cells = λ at slot n lives e. cells at slot n e (lived s p (act.Make kinds first) at lives);
  blank = λ at slot n e. made_stays s p (act.Make kinds first) at (h.named.blank at slot n e);
  rooted = λ n is. living_stays s p (act.Make kinds first) n refl (h.named.rooted n is);
  strong = λ lane number n e. living_stays s p (act.Make kinds first) n refl (h.named.strong lane number n e);
}
  where
    cells : (at : Name) (slot : ℕ) (n : Name) → s.world.cell at slot ≡ Some n → (in_world s.world at ≡ true) ⊎ (has (made_by p (act.Make kinds first)) at ≡ true)
        → in_world (next_world s.marks s.world p (act.Make kinds first)) n ≡ true
    cells at slot n e (inl lives) = living_stays s p (act.Make kinds first) n refl (h.named.cells at slot n lives e)
    cells at slot n e (inr new) = absurd ((is_new z s p (act.Make kinds first) at may new).0 (h.named.blank at slot n e))
next_named z s p (act.WriteRef at slot to old) may known h =
    let lane = (writes z s p at slot to old may).0 in
    let writing = (writes z s p at slot to old may).2 in
    record {
      cells = λ n k x lives e. cells_after s.world.cell at slot to (λ n k c. in_world s.world n ≡ true → c ≡ Some x → in_world s.world x ≡ true)
          (λ l e. of_some (λ n. in_world s.world n ≡ true) to (held_live s h.holding lane to writing.held) x e) (λ n k l e. h.named.cells n k x l e) n k lives e;
      blank = λ n k x e. cells_after s.world.cell at slot to (λ n k c. c ≡ Some x → IsMade s.world n)
          (λ e. made_living s.world known.once at (h.holding.lives lane at writing.place.held)) (λ n k e. h.named.blank n k x e) n k e;
      rooted = h.named.rooted;
      strong = h.named.strong;
    }
next_named z s p (act.Root at on old) may known h = record {
  cells = h.named.cells;
  blank = h.named.blank;
  rooted =
      λ n is.
      set_name_here s.world.rooted at on (λ n b. b ≡ true → in_world s.world n ≡ true)
      (λ e. h.holding.lives (roots z s p at on old may).0 at (roots z s p at on old may).2.held) (λ n e. h.named.rooted n e) n is;
  strong = h.named.strong;
}
next_named z s p (act.SetStrong number to old) may known h = record {
  cells = h.named.cells;
  blank = h.named.blank;
  rooted = h.named.rooted;
  strong = λ l k n e. set_at_here s.world.strong (lane_of p) (set_at (s.world.strong (lane_of p)) number to) (λ l row. (k : ℕ) → row k ≡ Some n → in_world s.world n ≡ true)
      (set_at_here (s.world.strong (lane_of p)) number to (λ k c. c ≡ Some n → in_world s.world n ≡ true)
      (λ e.
      of_some (λ n. in_world s.world n ≡ true) to
      (held_live s h.holding (sets z s p number to old may).0 to (sets z s p number to old may).2.held) n e)
      (λ k e. h.named.strong (lane_of p) k n e))
      (λ l k e. h.named.strong l k n e) l k e;
}
next_named z s p (act.Loose of) may known h = record {
  cells = λ at slot n lives e. living_stays s p (act.Loose of) n refl (h.named.cells at slot n (sym (lives_loose s.world of at) ∙ lives) e);
  blank = h.named.blank;
  rooted = λ n is. living_stays s p (act.Loose of) n refl (h.named.rooted n is);
  strong = λ lane number n e. living_stays s p (act.Loose of) n refl (h.named.strong lane number n e);
}
next_named z s p (act.CommitGc commit.Done) may known h = committed_named z s p (commits_may z s p may) h
next_named z s p (act.BeginGc begin.Started) may known h = record { cells = h.named.cells; blank = h.named.blank; rooted = h.named.rooted; strong = h.named.strong }
next_named z s p _ may known h = record { cells = h.named.cells; blank = h.named.blank; rooted = h.named.rooted; strong = h.named.strong }

-- ---- what is held

pub perhaps : (o : Option Name) (m : Name) → Among (option_to_list o) m → o ≡ Some m
perhaps None m k = absurd k
perhaps (Some n) m (inl e) = ap Some e
perhaps (Some n) m (inr k) = absurd k

pub resolved_lives : (w : World) (pair : Weak) (n : Name) → resolved w pair ≡ Some n → in_world w n ≡ true
resolved_lives w pair n e = go (find (λ p. same_weak pair p.weak) w.pairs) e
  where
    if_given : (p : Pair) (b : Bool) → is_given w p.name ≡ b → (if b then Some p.name else None) ≡ Some n → in_world w n ≡ true
    if_given p true given e = let same : p.name ≡ n = cc in subst (λ (m : Name). in_world w m ≡ true) same (and_true _ _ given).0
    if_given p false given e = absurd cc

    go : (o : Option Pair) → option_and_then (λ p. if is_given w p.name then Some p.name else None) o ≡ Some n → in_world w n ≡ true
    go None e = absurd cc
    go (Some p) e = if_given p (is_given w p.name) refl e

-- what an entry gives to its lane lives
pub given_lives : (z : Sizes) (s : State) (lane : ℕ) (a : Act) → MayBy z s (Lane lane) a → IsNamed s.world → IsHolding s.world s.frames → (m : Name) → Among (given lane a) m
    → in_world (next_world s.marks s.world (Lane lane) a) m ≡ true
given_lives z s lane (act.Make kinds first) may named h m k = makes_living s (Lane lane) kinds first m (among_has (names_from lane first kinds) m k)
given_lives z s lane (act.ReadRef at slot got) may named h m k = named.cells at slot m (h.lives lane at may.may.0.held) (sym may.may.1 ∙ perhaps got m k)
given_lives z s lane (act.WriteRef at slot to old) may named h m k = named.cells at slot m (h.lives lane at may.may.place.held) (sym may.may.was ∙ perhaps old m k)
given_lives z s lane (act.SetStrong number to old) may named h m k = named.strong lane number m (sym may.may.was ∙ perhaps old m k)
given_lives z s lane (act.GetStrong number got) may named h m k = named.strong lane number m (sym may.may.1 ∙ perhaps got m k)
given_lives z s lane (act.Resolve pair got) may named h m k = resolved_lives s.world pair m (sym may.may ∙ perhaps got m k)
given_lives z s lane _ may named h m k = absurd k

-- all members of the units of names that live do
all_members_live : (w : World) (ns : List Name) → ((m : Name) → Among ns m → in_world w m ≡ true) → (n : Name) → has (flat_map (unit_of w) ns) n ≡ true → in_world w n ≡ true
all_members_live w [] live n h = absurd cc
all_members_live w (m ∷ ns) live n h = go (all_members_live w ns (λ x k. live x (inr k)) n) (or_true _ _ (sym (list_any-append (same_name n) (unit_of w m) (flat_map (unit_of w) ns)) ∙ h))
  where
    go : (has (flat_map (unit_of w) ns) n ≡ true → in_world w n ≡ true) → (has (unit_of w m) n ≡ true) ⊎ (has (flat_map (unit_of w) ns) n ≡ true) → in_world w n ≡ true
    go rest (inl e) = member_lives w (unit_of w m) n (found_unit w.units m (live m (inl refl))).0 e
    go rest (inr e) = rest e

-- a lane that acts holds what lives
own_holding : (z : Sizes) (s : State) (lane : ℕ) (a : Act) → MayBy z s (Lane lane) a → IsNamed s.world → IsHolding s.world s.frames
    → (n : Name) → has (next_frame lane s.world (next_world s.marks s.world (Lane lane) a) (s.frames lane) a).held n ≡ true
    → (in_world (next_world s.marks s.world (Lane lane) a) n ≡ true) × (is_open (next_world s.marks s.world (Lane lane) a) (Lane lane) ≡ true)
own_holding z s lane (act.FrameOpen phase) may named h n e = absurd cc
own_holding z s lane act.FrameClose may named h n e = absurd cc
own_holding z s lane (act.Kept of) may named h n e = (h.lives lane n e, h.opened lane n e)
own_holding z s lane (act.Loose of) may named h n e = (living_stays s (Lane lane) (act.Loose of) n refl (h.lives lane n e), may.frame.opened)
own_holding z s lane act.SliceOpen may named h n e = absurd may.may
own_holding z s lane (act.Slice budget reply) may named h n e = absurd may.may
own_holding z s lane (act.BeginGc reply) may named h n e = absurd may.may
own_holding z s lane (act.CommitGc reply) may named h n e = absurd may.may
own_holding z s lane a may named h n e = (
  go
      (or_true _ _
      (sym (list_any-append (same_name n) (flat_map (unit_of (next_world s.marks s.world (Lane lane) a)) (given lane a)) (s.frames lane).held)
      ∙ e)),
  may.frame.opened,
)
  where
    go : (has (flat_map (unit_of (next_world s.marks s.world (Lane lane) a)) (given lane a)) n ≡ true) ⊎ (has (s.frames lane).held n ≡ true)
        → in_world (next_world s.marks s.world (Lane lane) a) n ≡ true
    go (inl new) = all_members_live (next_world s.marks s.world (Lane lane) a) (given lane a) (given_lives z s lane a may named h) n new
    go (inr old) = living_stays s (Lane lane) a n refl (h.lives lane n old)

pub by_no_lane : (z : Sizes) (s : State) (lane : ℕ) (a : Act) → MayBy z s (Lane lane) a → is_done a ≡ false
by_no_lane z s lane (act.CommitGc reply) may = absurd may.may
by_no_lane z s lane _ may = refl

pub by_no_marker : (z : Sizes) (s : State) (marker : ℕ) (a : Act) → MayBy z s (Marker marker) a → is_done a ≡ false
by_no_marker z s marker (act.CommitGc reply) may = absurd may.may
by_no_marker z s marker _ may = refl

-- what holds of the new value and of those at other places
pub set_at_other : {A : Type 0} (f : ℕ → A) (k : ℕ) (value : A) (P : ℕ → A → Type 0) → P k value → ((i : ℕ) → (i == k) ≡ false → P i (f i)) → (i : ℕ) → P i (set_at f k value i)
set_at_other {A} f k value P here others i = go (i == k) refl
  where
    go : (b : Bool) → (i == k) ≡ b → P i (cond b value (f i))
    go true e = subst (λ (x : ℕ). P x value) (sym (eqb-true i k e)) here
    go false e = others i e

-- what a lane holds lives, and its frame is open
abbrev HoldsLiving : World → ℕ → Frame → Type 0
HoldsLiving w lane f = (n : Name) → has f.held n ≡ true → (in_world w n ≡ true) × (is_open w (Lane lane) ≡ true)

holding_from : (w : World) (frames : ℕ → Frame) → ((lane : ℕ) → HoldsLiving w lane (frames lane)) → IsHolding w frames
holding_from w frames h = record { lives = λ lane n e. (h lane n e).0; opened = λ lane n e. (h lane n e).1 }

next_holding : (z : Sizes) (s : State) (p : Pass) (a : Act) → MayBy z s p a → IsNamed s.world → IsHolding s.world s.frames
    → IsHolding (next_world s.marks s.world p a) (next_by s (next_world s.marks s.world p a) p a).frames
next_holding z s (Lane lane) a may named h =
    holding_from (next_world s.marks s.world (Lane lane) a) _
    (set_at_other s.frames lane (next_frame lane s.world (next_world s.marks s.world (Lane lane) a) (s.frames lane) a) (HoldsLiving (next_world s.marks s.world (Lane lane) a))
    (own_holding z s lane a may named h)
    (λ i ne n e. (living_stays s (Lane lane) a n (by_no_lane z s lane a may) (h.lives i n e), still_open s (Lane lane) a i (λ x. other_lane i lane x ne) (h.opened i n e))))
next_holding z s (Marker marker) a may named h =
    holding_from (next_world s.marks s.world (Marker marker) a) s.frames
    (λ i n e. (living_stays s (Marker marker) a n (by_no_marker z s marker a may) (h.lives i n e), still_open s (Marker marker) a i (no_lane i marker) (h.opened i n e)))
next_holding z s Collector (act.CommitGc commit.Done) may named h =
    holding_from (next_world s.marks s.world Collector (act.CommitGc commit.Done)) s.frames (λ i n e. absurd (not_open s.world (Lane i) (h.opened i n e) may.may.closed))
next_holding z s Collector a may named h =
    holding_from (next_world s.marks s.world Collector a) s.frames
    (λ i n e. (living_stays s Collector a n refl (h.lives i n e), still_open s Collector a i (no_collector i) (h.opened i n e)))

-- ---- whole histories

first_barred : IsBarred beginning
first_barred = record {
  named = record { cells = λ at slot n lives. absurd cc; blank = λ at slot n e. absurd cc; rooted = λ n e. absurd cc; strong = λ lane number n e. absurd cc };
  holding = record { lives = λ lane n e. absurd cc; opened = λ lane n e. absurd cc };
  tricolour = record { black = λ marking. absurd cc; scanned_kept = λ marking u k. absurd k };
  noted = record { kept_made = λ n e. absurd cc; fresh_made = λ n e. absurd cc; scanned_made = λ n e. absurd cc };
}

next_barred : (z : Sizes) (s : State) (e : Entry) → May z s e → AreApart s.world.kinds s.world.units → IsSound s → IsBarred s → IsBarred (next s e)
next_barred z s e may apart known h = record {
  named = next_named z s e.pass e.act may known h;
  holding = next_holding z s e.pass e.act may h.named h.holding;
  tricolour = next_tricolour z s e.pass e.act may apart known h;
  noted = next_noted z s e.pass e.act may known h.noted;
}

pub barred : (z : Sizes) (history : List Entry) → Legal z history → IsBarred (state_of history)
barred z = by_states z IsBarred first_barred (λ xs e legal may h. next_barred z (state_of xs) e may (units_apart z xs legal) (sound z xs legal) h)
