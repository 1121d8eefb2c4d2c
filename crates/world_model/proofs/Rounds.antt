-- Rounds of objects that are asked in turn, from behind the one that was asked last; and what is read of a removed object after each change.
use Rattle.std.proofs.Common.{◌≡◌, ℕ, refl, sym, subst, ap, ◌∙◌, inl, inr, Bool, cond, true, false, not, ◌&&◌, ◌||◌, if◌then◌else◌, List, [], ◌∷◌, ◌++◌, map, append_assoc, Option, Some, None, ◌⊎◌, filter}
use Rattle.std.specs.List.{list_any, find}
use Rattle.std.specs.Option.{option_map_or}
use Rattle.std.proofs.Math.Bool.{or_comm, and_comm}
use Rattle.std.proofs.lemmas.Bool.{both_ways, not-true, false_from_ne_true, cond_both}
use Rattle.std.proofs.lemmas.List.{append-nil}
use Rattle.std.proofs.lemmas.List.Elements.{filter-append}
use Rattle.std.proofs.lemmas.List.Folds.{list_any-append}
use Rattle.std.proofs.lemmas.Map.Views.{any-filter_same}
use Rattle.world_model.specs.Types.{Name}
use Rattle.world_model.specs.NameLists.{same_name, has, all_different, members, begins_with, first_member, after_name}
use Rattle.world_model.specs.World.{World, Stage, Removed, Begun, Finished, Removal, has_stage, is_at, polls_of}
use Rattle.world_model.specs.Next.{at_stage, polled, released}
use Rattle.world_model.specs.CollectorSteps.{round_from}
use Rattle.world_model.specs.DestructionQueue.{rotated, up_to_name, in_removals}
use Rattle.world_model.proofs.ListFacts.{and_true, or_true, or_false, or_right, any_filter, Among, among_filter, filter_among, among_filter_test, among_test}
use Rattle.world_model.proofs.NameFacts.{same_name_true, same_name_refl}

-- ---- a round

up_to_and_after : (n : Name) (names : List Name) → up_to_name n names ++ after_name n names ≡ names
up_to_and_after n [] = refl
up_to_and_after n (m ∷ names) = go (same_name n m) (up_to_and_after n names)
  where
    go : (b : Bool) → up_to_name n names ++ after_name n names ≡ names
        → cond b (m ∷ []) (m ∷ up_to_name n names) ++ cond b names (after_name n names) ≡ m ∷ names
    go true e = refl
    go false e = ap (λ (rest : List Name). m ∷ rest) e

-- what passes of all names, by where it stands
filter_parts : (p : Name → Bool) (n : Name) (names : List Name) → filter p (up_to_name n names) ++ filter p (after_name n names) ≡ filter p names
filter_parts p n names = sym (filter-append p (up_to_name n names) (after_name n names)) ∙ ap (filter p) (up_to_and_after n names)

find_first : (p : Name → Bool) (names : List Name) → find p names ≡ first_member (filter p names)
find_first p [] = refl
find_first p (m ∷ names) = go (p m) (find_first p names)
  where
    go : (b : Bool) → find p names ≡ first_member (filter p names)
        → cond b (Some m) (find p names) ≡ first_member (cond b (m ∷ filter p names) (filter p names))
    go true e = refl
    go false e = e

-- The first that passes behind the one that was asked last, and then from the first on, is the first of the round that passes.
pub find_in_round : (p : Name → Bool) (asked : Option Name) (names : List Name)
    → find p (round_from asked names) ≡ first_member (filter p (rotated asked names))
find_in_round p None names = find_first p names
find_in_round p (Some last) names =
    find_first p (after_name last names ++ names) ∙ ap first_member (filter-append p (after_name last names) names)
    ∙ ap (λ (all : List Name). first_member (filter p (after_name last names) ++ all)) (sym (filter_parts p last names))
    ∙ once (filter p (up_to_name last names)) (filter p (after_name last names))
    ∙ ap first_member (sym (filter-append p (after_name last names) (up_to_name last names)))
  where
    once : (before behind : List Name) → first_member (behind ++ (before ++ behind)) ≡ first_member (behind ++ before)
    once before [] = ap first_member (append-nil before)
    once before (m ∷ behind) = refl

-- A round has the same names.
pub has-rotated : (asked : Option Name) (names : List Name) (n : Name) → has (rotated asked names) n ≡ has names n
has-rotated None names n = refl
has-rotated (Some last) names n =
    list_any-append (same_name n) (after_name last names) (up_to_name last names)
    ∙ or_comm (has (after_name last names) n) (has (up_to_name last names) n)
    ∙ sym (list_any-append (same_name n) (up_to_name last names) (after_name last names))
    ∙ ap (λ (all : List Name). has all n) (up_to_and_after last names)

filter_alike : (p q : Name → Bool) (names : List Name) → ((n : Name) → has names n ≡ true → p n ≡ q n) → filter p names ≡ filter q names
filter_alike p q [] alike = refl
filter_alike p q (m ∷ names) alike =
    ap (λ (b : Bool). cond b (m ∷ filter p names) (filter p names)) (alike m (rw (same_name_refl m) refl))
    ∙ ap (λ (rest : List Name). cond (q m) (m ∷ rest) rest) (filter_alike p q names (λ n h. alike n (or_right (same_name n m) _ h)))

-- Tests that agree on all names pass the same of a round.
pub alike_in_round : (p q : Name → Bool) (asked : Option Name) (names : List Name) → ((n : Name) → has names n ≡ true → p n ≡ q n)
    → filter p (rotated asked names) ≡ filter q (rotated asked names)
alike_in_round p q asked names alike = filter_alike p q (rotated asked names) (λ n h. alike n (sym (has-rotated asked names n) ∙ h))

-- ---- the next round

pub same_name_sym : (a b : Name) → same_name a b ≡ false → same_name b a ≡ false
same_name_sym a b h = false_from_ne_true (same_name b a) (λ same. both_ways (same_name a b) h (ap (same_name a) (same_name_true b a same) ∙ same_name_refl a))

different_filter : (p : Name → Bool) (names : List Name) → all_different names ≡ true → all_different (filter p names) ≡ true
different_filter p [] h = h
different_filter p (m ∷ names) h =
    let parts = and_true (not (has names m)) (all_different names) h in
    let rest = different_filter p names parts.1 in
    let none = still_none (not-true (has names m) parts.0) in
    cond_both (p m) (m ∷ filter p names) (filter p names) (λ ns. all_different ns ≡ true) (λ e. rw none rest) (λ e. rest)
  where
    still_none : has names m ≡ false → has (filter p names) m ≡ false
    still_none none = false_from_ne_true _ (λ h. both_ways (has names m) none (any_filter (same_name m) p names h))

-- of different names, one is not among those before it or those behind it
different_split : (x : Name) (before behind : List Name) → all_different (before ++ x ∷ behind) ≡ true
    → (has before x ≡ false) × (has behind x ≡ false)
different_split x [] behind h = (refl, not-true (has behind x) (and_true _ _ h).0)
different_split x (m ∷ before) behind h =
    let parts = and_true _ _ h in
    let rest = different_split x before behind parts.1 in
    let others = or_false _ _ (sym (list_any-append (same_name m) before (x ∷ behind)) ∙ not-true _ parts.0) in
    let other = same_name_sym m x (or_false _ _ others.1).0 in
    (rw other rest.0, rest.1)

after_split : (x : Name) (before behind : List Name) → has before x ≡ false → after_name x (before ++ x ∷ behind) ≡ behind
after_split x [] behind h = rw (same_name_refl x) refl
after_split x (m ∷ before) behind h = let parts = or_false (same_name x m) (has before x) h in rw parts.0 (after_split x before behind parts.1)

up_to_split : (x : Name) (before behind : List Name) → has before x ≡ false → up_to_name x (before ++ x ∷ behind) ≡ before ++ x ∷ []
up_to_split x [] behind h = rw (same_name_refl x) refl
up_to_split x (m ∷ before) behind h =
    let parts = or_false (same_name x m) (has before x) h in
    rw parts.0 (ap (λ (rest : List Name). m ∷ rest) (up_to_split x before behind parts.1))

-- behind a name stand those behind it, those before it, and it
rotated_split : (x : Name) (before behind : List Name) → has before x ≡ false → rotated (Some x) (before ++ x ∷ behind) ≡ (behind ++ before) ++ x ∷ []
rotated_split x before behind h = rw (after_split x before behind h, up_to_split x before behind h) (sym (append_assoc behind before (x ∷ [])))

-- a name that passes stands among those that pass as it stands among all
filter_after : (p : Name → Bool) (x : Name) → p x ≡ true → (names : List Name) → filter p (after_name x names) ≡ after_name x (filter p names)
filter_after p x is [] = refl
filter_after p x is (m ∷ names) = go (same_name x m) refl (filter_after p x is names)
  where
    go : (b : Bool) → same_name x m ≡ b → filter p (after_name x names) ≡ after_name x (filter p names)
        → filter p (cond b names (after_name x names)) ≡ after_name x (filter p (m ∷ names))
    go true same rest = let t : p m ≡ true = subst (λ (n : Name). p n ≡ true) (same_name_true x m same) is in rw (t, same) refl
    go false other rest =
        cond_both (p m) (m ∷ filter p names) (filter p names) (λ ns. filter p (after_name x names) ≡ after_name x ns) (λ e. rw other rest) (λ e. rest)

filter_up_to : (p : Name → Bool) (x : Name) → p x ≡ true → (names : List Name) → filter p (up_to_name x names) ≡ up_to_name x (filter p names)
filter_up_to p x is [] = refl
filter_up_to p x is (m ∷ names) = go (same_name x m) refl (p m) refl (filter_up_to p x is names)
  where
    go : (b : Bool) → same_name x m ≡ b → (c : Bool) → p m ≡ c → filter p (up_to_name x names) ≡ up_to_name x (filter p names)
        → filter p (cond b (m ∷ []) (m ∷ up_to_name x names)) ≡ up_to_name x (cond c (m ∷ filter p names) (filter p names))
    go true same true e rest = rw (e, same) refl
    go true same false e rest = absurd (let t : p m ≡ true = subst (λ (n : Name). p n ≡ true) (same_name_true x m same) is in cc)
    go false other true e rest = rw (e, other) (ap (λ (more : List Name). m ∷ more) rest)
    go false other false e rest = rw e rest

-- different names in two parts, and what stands behind the first of the round that begins with the second part
turned : (x : Name) (before behind rest : List Name) → behind ++ before ≡ x ∷ rest → all_different (before ++ behind) ≡ true
    → (rotated (Some x) (before ++ behind) ≡ rest ++ x ∷ []) × (has rest x ≡ false)
turned x before [] rest e different =
    let all : before ++ [] ≡ x ∷ rest = append-nil before ∙ e in (
      ap (rotated (Some x)) all ∙ rotated_split x [] rest refl ∙ ap (λ (names : List Name). names ++ x ∷ []) (append-nil rest),
      (different_split x [] rest (subst (λ (names : List Name). all_different names ≡ true) all different)).1,
    )
turned x before (y ∷ behind) rest e different =
    let first : y ≡ x = cc in
    let others : behind ++ before ≡ rest = cc in
    let all : before ++ y ∷ behind ≡ before ++ x ∷ behind = ap (λ (n : Name). before ++ n ∷ behind) first in
    let apart = different_split x before behind (subst (λ (names : List Name). all_different names ≡ true) all different) in (
      ap (rotated (Some x)) all ∙ rotated_split x before behind apart.0 ∙ ap (λ (names : List Name). names ++ x ∷ []) others,
      ap (λ (names : List Name). has names x) (sym others) ∙ list_any-append (same_name x) behind before ∙ (rw (apart.1, apart.0) refl),
    )

-- the round behind this one has the first one last, and it stands in no other place
pub next_round : (p : Name → Bool) (asked : Option Name) (names : List Name) (x : Name) (rest : List Name)
    → all_different names ≡ true → filter p (rotated asked names) ≡ x ∷ rest
    → (filter p (rotated (Some x) names) ≡ rest ++ x ∷ []) × (has rest x ≡ false)
next_round p asked names x rest different e =
    let passes : p x ≡ true = among_filter_test p (rotated asked names) x (subst (λ (ns : List Name). Among ns x) (sym e) (inl refl)) in
    let turn = go asked e in
    (filter-append p (after_name x names) (up_to_name x names) ∙ (rw (filter_after p x passes names, filter_up_to p x passes names) turn.0), turn.1)
  where
    from : (before behind : List Name) → before ++ behind ≡ filter p names → behind ++ before ≡ x ∷ rest
        → (rotated (Some x) (filter p names) ≡ rest ++ x ∷ []) × (has rest x ≡ false)
    from before behind all e =
        let apart = subst (λ (ns : List Name). all_different ns ≡ true) (sym all) (different_filter p names different) in
        let turn = turned x before behind rest e apart in
        (ap (rotated (Some x)) (sym all) ∙ turn.0, turn.1)

    go : (asked : Option Name) → filter p (rotated asked names) ≡ x ∷ rest
        → (rotated (Some x) (filter p names) ≡ rest ++ x ∷ []) × (has rest x ≡ false)
    go None e = from (filter p names) [] (append-nil (filter p names)) e
    go (Some last) e =
        from (filter p (up_to_name last names)) (filter p (after_name last names)) (filter_parts p last names)
        (sym (filter-append p (after_name last names) (up_to_name last names)) ∙ e)

-- The object that was asked stands last in the next round.
pub asked_last : (p : Name → Bool) (asked : Option Name) (names : List Name) (x : Name) (rest : List Name)
    → all_different names ≡ true → filter p (rotated asked names) ≡ x ∷ rest
    → filter p (rotated (Some x) names) ≡ rest ++ x ∷ []
asked_last p asked names x rest different e = (next_round p asked names x rest different e).0

-- Where it does not pass any more, and the others do as before, the next round is the rest of this one.
pub asked_out : (p q : Name → Bool) (asked : Option Name) (names : List Name) (x : Name) (rest : List Name)
    → all_different names ≡ true → filter p (rotated asked names) ≡ x ∷ rest
    → q x ≡ false → ((n : Name) → same_name x n ≡ false → q n ≡ p n) → filter q (rotated (Some x) names) ≡ rest
asked_out p q asked names x rest different e out others =
    let next = next_round p asked names x rest different e in
    filter_others (rotated (Some x) names) ∙ ap (filter (λ n. not (same_name x n))) next.0 ∙ without_last rest next.1
  where
    filter_others : (ns : List Name) → filter q ns ≡ filter (λ n. not (same_name x n)) (filter p ns)
    filter_others [] = refl
    filter_others (m ∷ ns) = go (same_name x m) refl (p m) refl (filter_others ns)
      where
        go : (b : Bool) → same_name x m ≡ b → (c : Bool) → p m ≡ c → filter q ns ≡ filter (λ n. not (same_name x n)) (filter p ns)
            → cond (q m) (m ∷ filter q ns) (filter q ns) ≡ filter (λ n. not (same_name x n)) (cond c (m ∷ filter p ns) (filter p ns))
        go true same true e rest = let f : q m ≡ false = subst (λ (n : Name). q n ≡ false) (same_name_true x m same) out in rw (f, same) rest
        go true same false e rest = let f : q m ≡ false = subst (λ (n : Name). q n ≡ false) (same_name_true x m same) out in rw f rest
        go false other true e rest = rw (others m other ∙ e, other) (ap (λ (more : List Name). m ∷ more) rest)
        go false other false e rest = rw (others m other ∙ e) rest

    without_last : (ns : List Name) → has ns x ≡ false → filter (λ n. not (same_name x n)) (ns ++ x ∷ []) ≡ ns
    without_last [] h = rw (same_name_refl x) refl
    without_last (m ∷ ns) h =
        let parts = or_false (same_name x m) (has ns x) h in
        rw parts.0 (ap (λ (more : List Name). m ∷ more) (without_last ns parts.1))

-- ---- removed objects

abbrev pub named : Name → Removal → Bool
named n r = same_name n r.name

abbrev pub stands : Name → Stage → Removal → Bool
stands n stage r = same_name n r.name && has_stage stage r.stage

pub has_stage_true : (a b : Stage) → has_stage a b ≡ true → a ≡ b
has_stage_true Removed Removed h = refl
has_stage_true Begun Begun h = refl
has_stage_true Finished Finished h = refl
has_stage_true a b h = absurd cc

any_map : {A B : Type 0} (f : A → B) (q : B → Bool) (t : A → Bool) → ((x : A) → q (f x) ≡ t x) → (xs : List A) → list_any q (map f xs) ≡ list_any t xs
any_map f q t same [] = refl
any_map f q t same (x ∷ xs) = rw (same x, any_map f q t same xs) refl

any_and : {A : Type 0} (b : Bool) (t : A → Bool) (xs : List A) → list_any (λ x. b && t x) xs ≡ (b && list_any t xs)
any_and true t xs = refl
any_and false t [] = refl
any_and false t (x ∷ xs) = any_and false t xs

stands_named : (n : Name) (stage : Stage) (rs : List Removal) → list_any (stands n stage) rs ≡ true → list_any (named n) rs ≡ true
stands_named n stage [] h = h
stands_named n stage (r ∷ rs) h = go (named n r) (stands_named n stage rs) h
  where
    go : (b : Bool) → (list_any (stands n stage) rs ≡ true → list_any (named n) rs ≡ true)
        → ((b && has_stage stage r.stage) || list_any (stands n stage) rs) ≡ true → (b || list_any (named n) rs) ≡ true
    go true rest h = refl
    go false rest h = rest h

-- An object at a stage is removed.
pub in_removals_at : (w : World) (stage : Stage) (n : Name) → is_at w stage n ≡ true → in_removals w n ≡ true
in_removals_at w stage n h = stands_named n stage w.removals h

-- Where the removed objects have different names, each is at one stage.
pub one_stage : (w : World) (n : Name) (stage other : Stage) → all_different (map (λ r. r.name) w.removals) ≡ true
    → is_at w stage n ≡ true → has_stage other stage ≡ false → is_at w other n ≡ false
one_stage w n stage other different at apart = go w.removals different at
  where
    none : (s : Stage) (rs : List Removal) → list_any (named n) rs ≡ false → list_any (stands n s) rs ≡ false
    none s rs gone = false_from_ne_true _ (λ h. both_ways (list_any (named n) rs) gone (stands_named n s rs h))

    or_first : (a b : Bool) → b ≡ false → (a || b) ≡ true → a ≡ true
    or_first true b e h = refl
    or_first false b e h = absurd cc

    go : (rs : List Removal) → all_different (map (λ r. r.name) rs) ≡ true → list_any (stands n stage) rs ≡ true → list_any (stands n other) rs ≡ false
    go [] different h = refl
    go (r ∷ rs) different h = first (named n r) refl (and_true _ _ different) (go rs) h
      where
        first : (b : Bool) → named n r ≡ b → (not (has (map (λ r. r.name) rs) r.name) ≡ true) × (all_different (map (λ r. r.name) rs) ≡ true)
            → (all_different (map (λ r. r.name) rs) ≡ true → list_any (stands n stage) rs ≡ true → list_any (stands n other) rs ≡ false)
            → ((b && has_stage stage r.stage) || list_any (stands n stage) rs) ≡ true
            → ((b && has_stage other r.stage) || list_any (stands n other) rs) ≡ false
        first false same parts rest h = rest parts.1 h
        first true same parts rest h =
            let as_names = any_map (λ (s : Removal). s.name) (same_name n) (named n) (λ s. refl) rs in
            let gone : list_any (named n) rs ≡ false = sym as_names ∙ ap (has (map (λ r. r.name) rs)) (same_name_true n r.name same) ∙ not-true _ parts.0 in
            let here : stage ≡ r.stage = has_stage_true stage r.stage (or_first _ _ (none stage rs gone) h) in
            let not_here : has_stage other r.stage ≡ false = ap (has_stage other) (sym here) ∙ apart in
            rw not_here (none other rs gone)

-- ---- what is read of a removed object after a change

-- the removals of an object with a new stage, or a new number of polls
abbrev restaged : Name → Stage → Removal → Removal
restaged of new r = if same_name of r.name then record r { stage = new } else r

abbrev repolled : Name → ℕ → Removal → Removal
repolled of polls r = if same_name of r.name then record r { polls = polls } else r

-- The stage of an object after its own stage changed: the new one, if it is removed at all.
pub is_at-at_stage_same : (w : World) (of : Name) (new stage : Stage) → is_at (at_stage w of new) stage of ≡ (has_stage stage new && in_removals w of)
is_at-at_stage_same w of new stage =
    any_map (restaged of new) (stands of stage) (λ r. has_stage stage new && named of r) each w.removals
    ∙ any_and (has_stage stage new) (named of) w.removals
  where
    each : (r : Removal) → stands of stage (restaged of new r) ≡ (has_stage stage new && named of r)
    each r = go (named of r) refl
      where
        go : (b : Bool) → named of r ≡ b → stands of stage (cond b (record r { stage = new }) r) ≡ (has_stage stage new && named of r)
        go true e = and_comm (named of r) (has_stage stage new)
        go false e = rw e (sym (and_comm (has_stage stage new) false))

-- after the stage of another object changed
pub is_at-at_stage_other : (w : World) (of : Name) (new stage : Stage) (n : Name) → same_name of n ≡ false
    → is_at (at_stage w of new) stage n ≡ is_at w stage n
is_at-at_stage_other w of new stage n other = any_map (restaged of new) (stands n stage) (stands n stage) each w.removals
  where
    each : (r : Removal) → stands n stage (restaged of new r) ≡ stands n stage r
    each r = cond_both (named of r) (record r { stage = new }) r (λ s. stands n stage s ≡ stands n stage r) another (λ e. refl)
      where
        another : named of r ≡ true → stands n stage (record r { stage = new }) ≡ stands n stage r
        another e = let f : named n r ≡ false = ap (same_name n) (sym (same_name_true of r.name e)) ∙ same_name_sym of n other in rw f refl

-- after a poll
pub is_at-polled : (w : World) (of : Name) (polls : ℕ) (stage : Stage) (n : Name) → is_at (polled w of polls) stage n ≡ is_at w stage n
is_at-polled w of polls stage n = any_map (repolled of polls) (stands n stage) (stands n stage) each w.removals
  where
    each : (r : Removal) → stands n stage (repolled of polls r) ≡ stands n stage r
    each r = cond_both (named of r) (record r { polls = polls }) r (λ s. stands n stage s ≡ stands n stage r) (λ e. refl) (λ e. refl)

-- the members of the removed units that begin with this name
abbrev pub released_by : World → Name → List Name
released_by w of = members (filter (begins_with of) w.last_removed)

-- after a release: what it releases is at no stage
pub is_at-released : (w : World) (of : Name) (stage : Stage) (n : Name)
    → is_at (released w of) stage n ≡ (not (has (released_by w of) n) && is_at w stage n)
is_at-released w of stage n =
    any-filter_same (stands n stage) (λ r. stays r.name) (stays n) (λ r h. ap stays (sym (same_name_true n r.name (and_true _ _ h).0))) w.removals
  where
    stays : Name → Bool
    stays m = not (has (released_by w of) m)

-- the polls that are found in removals of which each is changed
polls_map : (f : Removal → Removal) (t : Removal → Bool) (h : Removal → ℕ) → ((r : Removal) → t (f r) ≡ t r)
    → ((r : Removal) → t r ≡ true → (f r).polls ≡ h r) → (rs : List Removal)
    → option_map_or (λ r. r.polls) (find t (map f rs)) 0 ≡ option_map_or h (find t rs) 0
polls_map f t h same value [] = refl
polls_map f t h same value (r ∷ rs) = rw (same r) (go (t r) refl (polls_map f t h same value rs))
  where
    go : (b : Bool) → t r ≡ b → option_map_or (λ r. r.polls) (find t (map f rs)) 0 ≡ option_map_or h (find t rs) 0
        → option_map_or (λ r. r.polls) (cond b (Some (f r)) (find t (map f rs))) 0 ≡ option_map_or h (cond b (Some r) (find t rs)) 0
    go true e rest = value r e
    go false e rest = rest

-- The polls of an object after a stage changed.
pub polls_of-at_stage : (w : World) (of : Name) (new : Stage) (n : Name) → polls_of (at_stage w of new) n ≡ polls_of w n
polls_of-at_stage w of new n =
    polls_map (restaged of new) (named n) (λ r. r.polls)
    (λ r. cond_both (named of r) (record r { stage = new }) r (λ s. named n s ≡ named n r) (λ e. refl) (λ e. refl))
    (λ r h. cond_both (named of r) (record r { stage = new }) r (λ s. s.polls ≡ r.polls) (λ e. refl) (λ e. refl)) w.removals

repolled_name : (of n : Name) (polls : ℕ) (r : Removal) → named n (repolled of polls r) ≡ named n r
repolled_name of n polls r = cond_both (named of r) (record r { polls = polls }) r (λ s. named n s ≡ named n r) (λ e. refl) (λ e. refl)

-- after it was polled: the new number, if it is removed at all
pub polls_of-polled_same : (w : World) (of : Name) (polls : ℕ) → polls_of (polled w of polls) of ≡ (if in_removals w of then polls else 0)
polls_of-polled_same w of polls =
    polls_map (repolled of polls) (named of) (λ r. polls) (repolled_name of of polls) (λ r h. rw h refl) w.removals ∙ found w.removals
  where
    found : (rs : List Removal) → option_map_or (λ r. polls) (find (named of) rs) 0 ≡ cond (list_any (named of) rs) polls 0
    found [] = refl
    found (r ∷ rs) = go (named of r) (found rs)
      where
        go : (b : Bool) → option_map_or (λ r. polls) (find (named of) rs) 0 ≡ cond (list_any (named of) rs) polls 0
            → option_map_or (λ r. polls) (cond b (Some r) (find (named of) rs)) 0 ≡ cond (b || list_any (named of) rs) polls 0
        go true e = refl
        go false e = e

-- after another object was polled
pub polls_of-polled_other : (w : World) (of : Name) (polls : ℕ) (n : Name) → same_name of n ≡ false → polls_of (polled w of polls) n ≡ polls_of w n
polls_of-polled_other w of polls n other = polls_map (repolled of polls) (named n) (λ r. r.polls) (repolled_name of n polls) same w.removals
  where
    same : (r : Removal) → named n r ≡ true → (repolled of polls r).polls ≡ r.polls
    same r h = let f : named of r ≡ false = ap (same_name of) (sym (same_name_true n r.name h)) ∙ other in rw f refl

-- after a release, where it does not release the object
pub polls_of-released : (w : World) (of n : Name) → has (released_by w of) n ≡ false → polls_of (released w of) n ≡ polls_of w n
polls_of-released w of n other =
    ap (λ (r : Option Removal). option_map_or (λ r. r.polls) r 0) (find_kept (named n) (λ r. not (has (released_by w of) r.name)) stays w.removals)
  where
    stays : (r : Removal) → named n r ≡ true → not (has (released_by w of) r.name) ≡ true
    stays r h = ap (λ (m : Name). not (has (released_by w of) m)) (sym (same_name_true n r.name h)) ∙ ap not other

    find_kept : {A : Type 0} (t k : A → Bool) → ((x : A) → t x ≡ true → k x ≡ true) → (xs : List A) → find t (filter k xs) ≡ find t xs
    find_kept t k kept [] = refl
    find_kept t k kept (x ∷ xs) = go (t x) refl (find_kept t k kept xs)
      where
        go : (b : Bool) → t x ≡ b → find t (filter k xs) ≡ find t xs → find t (filter k (x ∷ xs)) ≡ cond b (Some x) (find t xs)
        go true e rest = rw (kept x e, e) refl
        go false e rest = cond_both (k x) (x ∷ filter k xs) (filter k xs) (λ ys. find t ys ≡ find t xs) (λ f. rw e rest) (λ f. rest)

-- ---- the unit that is released

pub begins_has : (n : Name) (u : List Name) → begins_with n u ≡ true → has u n ≡ true
begins_has n [] h = absurd cc
begins_has n (m ∷ u) h = rw h refl

pub has-members : (units : List (List Name)) (n : Name) → has (members units) n ≡ list_any (λ u. has u n) units
has-members [] n = refl
has-members (u ∷ units) n = list_any-append (same_name n) u (members units) ∙ ap (λ (b : Bool). has u n || b) (has-members units n)

-- a test that some element passes, where all elements are this one
any_same : {A : Type 0} (p : A → Bool) (xs : List A) (x : A) → ((y : A) → Among xs y → y ≡ x) → list_any p xs ≡ true → p x ≡ true
any_same p [] x same h = absurd cc
any_same p (y ∷ xs) x same h = go (or_true (p y) _ h) (any_same p xs x (λ z k. same z (inr k)))
  where
    go : (p y ≡ true) ⊎ (list_any p xs ≡ true) → (list_any p xs ≡ true → p x ≡ true) → p x ≡ true
    go (inl e) rest = ap p (sym (same y (inl refl))) ∙ e
    go (inr e) rest = rest e

-- Where this is the one removed unit that begins with the name, a release releases its members.
pub has-released_by : (w : World) (of : Name) (u : List Name) → Among w.last_removed u → begins_with of u ≡ true
    → ((v : List Name) → Among w.last_removed v → begins_with of v ≡ true → v ≡ u) → (n : Name) → has (released_by w of) n ≡ has u n
has-released_by w of u among begins one n = has-members (filter (begins_with of) w.last_removed) n ∙ go (has u n) refl
  where
    same : (v : List Name) → Among (filter (begins_with of) w.last_removed) v → v ≡ u
    same v k = one v (among_filter (begins_with of) w.last_removed v k) (among_filter_test (begins_with of) w.last_removed v k)

    go : (b : Bool) → has u n ≡ b → list_any (λ v. has v n) (filter (begins_with of) w.last_removed) ≡ b
    go true e = among_test (λ (v : List Name). has v n) _ u (filter_among (begins_with of) w.last_removed u among begins) e
    go false e = false_from_ne_true _ (λ h. let t = any_same (λ (v : List Name). has v n) _ u same h in absurd cc)

-- different names in two parts: none stands in both, and those of the second are different
different_parts : (ns ms : List Name) → all_different (ns ++ ms) ≡ true
    → ((n : Name) → has ns n ≡ true → has ms n ≡ true → ⊥) × (all_different ms ≡ true)
different_parts [] ms h = (λ n k. absurd cc, h)
different_parts (m ∷ ns) ms h =
    let parts = and_true _ _ h in
    let rest = different_parts ns ms parts.1 in
    let none : has ms m ≡ false = (or_false (has ns m) (has ms m) (sym (list_any-append (same_name m) ns ms) ∙ not-true _ parts.0)).1 in
    (λ n k l. apart n none rest.0 l (or_true (same_name n m) (has ns n) k), rest.1)
  where
    apart : (n : Name) → has ms m ≡ false → ((n : Name) → has ns n ≡ true → has ms n ≡ true → ⊥)
        → has ms n ≡ true → (same_name n m ≡ true) ⊎ (has ns n ≡ true) → ⊥
    apart n none rest l (inl e) = both_ways (has ms n) (ap (has ms) (same_name_true n m e) ∙ none) l
    apart n none rest l (inr k) = rest n k l

-- It is so where the members of the removed units have different names.
pub one_begins : (of : Name) (units : List (List Name)) (u v : List Name) → all_different (members units) ≡ true → Among units u → Among units v
    → begins_with of u ≡ true → begins_with of v ≡ true → v ≡ u
one_begins of [] u v different k l a b = absurd k
one_begins of (x ∷ units) u v different k l a b =
    let parts = different_parts x (members units) different in
    go k l parts.0 (one_begins of units u v parts.1)
  where
    -- the first unit begins with the name, and so does a later one
    twice : ((n : Name) → has x n ≡ true → has (members units) n ≡ true → ⊥)
        → (y z : List Name) → x ≡ y → Among units z → begins_with of y ≡ true → begins_with of z ≡ true → ⊥
    twice apart y z e m a b =
        apart of (ap (λ (us : List Name). has us of) e ∙ begins_has of y a)
        (has-members units of ∙ among_test (λ (us : List Name). has us of) units z m (begins_has of z b))

    go : (x ≡ u) ⊎ Among units u → (x ≡ v) ⊎ Among units v → ((n : Name) → has x n ≡ true → has (members units) n ≡ true → ⊥)
        → (Among units u → Among units v → begins_with of u ≡ true → begins_with of v ≡ true → v ≡ u) → v ≡ u
    go (inl e) (inl f) apart rest = sym f ∙ e
    go (inl e) (inr l) apart rest = absurd (twice apart u v e l a b)
    go (inr k) (inl f) apart rest = absurd (twice apart v u f k b a)
    go (inr k) (inr l) apart rest = rest k l a b
