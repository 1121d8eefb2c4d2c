-- How destruction ends: each step takes something from what is left to do.
use Rattle.std.proofs.Common.{◌≡◌, ℕ, ◌+◌, ◌-◌, ◌*◌, ◌<◌, ◌≤◌, min, refl, sym, subst, ap, ◌∙◌, inl, inr, arith, Bool, cond, true, false, not, ◌&&◌, ◌||◌, List, [], ◌∷◌, ◌++◌, map, length, Option, Some, None, ◌⊎◌, filter}
use Rattle.std.specs.Prelude.{nat_lt}
use Rattle.std.specs.List.{count_by}
use Rattle.std.specs.List.{list_any, list_all, flat_map, find, AllByRecursion}
use Rattle.std.specs.Option.{option_and_then}
use Rattle.std.proofs.lemmas.Bool.Decides.{nat_tests}
use Rattle.world_model.specs.Sizes.{Sizes}
use Rattle.world_model.specs.NameLists.{same_name, has, all_different, members, begins_with, first_member}
use Rattle.world_model.specs.World.{World, Stage, Removal, Removed, Begun, Finished, has_stage, is_at, destruction_order, left_in, left_of}
use Rattle.world_model.specs.State.{State}
use Rattle.world_model.specs.CollectorSteps.{to_release}
use Rattle.world_model.specs.Next.{next, run}
use Rattle.world_model.specs.Histories.{StepOfCollector, LegalFrom}
use Rattle.world_model.specs.Calls.{by, is_purge_part, is_purge_step, PurgeEntries}
use Rattle.world_model.proofs.Joins.{run-append, by-append, legal_split}
use Rattle.world_model.proofs.ListFacts.{and_true, or_true, or_right, or_false, Among, among_append, among_filter, filter_among}
use Rattle.world_model.proofs.NameFacts.{same_name_true, same_name_refl}
use Rattle.class_schema.specs.Ancestry.{class_at}
use Rattle.world_play.specs.Header.{Header}
use Rattle.world_play.specs.Types.{Name, ClassId, Phase, Idle, Purged, Collector, Act, Entry}
use Rattle.world_play.specs.Types.ready
use Rattle.world_play.specs.Types.act
use Rattle.world_play.specs.Types.purge
use Rattle.world_model.specs.Hooks.{class_of}
use Rattle.world_play.specs.Collections.{AnswersBy, PurgesAll}
use Rattle.world_play.proofs.Different.{has_append}
use Rattle.std.proofs.lemmas.List.Sums.{sum_by-cons}
use Rattle.world_model.proofs.Queues.{find_some, member_of}
use Rattle.world_model.proofs.Rounds.{has_stage_true}

-- ---- what is left to do

-- for a removed object: to begin it, to finish it, and to release it
abbrev pub stage_weight : Stage → ℕ
stage_weight Removed = 3
stage_weight Begun = 2
stage_weight Finished = 1

abbrev pub weight : List Removal → ℕ
weight [] = 0
weight (r ∷ removals) = stage_weight r.stage + weight removals

abbrev pub names_of : List Removal → List Name
names_of removals = map (λ (r : Removal). r.name) removals

some_weight : (stage : Stage) → 1 ≤ stage_weight stage
some_weight Removed = omega arith
some_weight Begun = omega arith
some_weight Finished = omega arith

most_weight : (stage : Stage) → stage_weight stage ≤ 3
most_weight Removed = omega arith
most_weight Begun = omega arith
most_weight Finished = omega arith

pub weight_none : (removals : List Removal) → weight removals ≡ 0 → removals ≡ []
weight_none [] h = refl
weight_none (r ∷ removals) h = absurd (omega (arith, h, some_weight r.stage))

pub weight_most : (removals : List Removal) → weight removals ≤ 3 * length removals
weight_most [] = omega arith
weight_most (r ∷ removals) = omega (arith, weight_most removals, most_weight r.stage)

-- an object that is removed, at any stage
pub removed_name : (stage : Stage) (removals : List Removal) (n : Name)
    → list_any (λ r. same_name n r.name && has_stage stage r.stage) removals ≡ true → has (names_of removals) n ≡ true
removed_name stage [] n h = absurd cc
removed_name stage (r ∷ removals) n h = go (removed_name stage removals n) (or_true (same_name n r.name && has_stage stage r.stage) _ h)
  where
    go : (list_any (λ q. same_name n q.name && has_stage stage q.stage) removals ≡ true → has (names_of removals) n ≡ true)
        → ((same_name n r.name && has_stage stage r.stage) ≡ true) ⊎ (list_any (λ q. same_name n q.name && has_stage stage q.stage) removals ≡ true)
        → has (names_of (r ∷ removals)) n ≡ true
    go rest (inl e) = let same : same_name n r.name ≡ true = (and_true _ _ e).0 in rw same refl
    go rest (inr e) = or_right (same_name n r.name) _ (rest e)

-- ---- an object at another stage

abbrev staged : Name → Stage → Removal → Removal
staged of stage r = cond (same_name of r.name) (record r { stage = stage }) r

-- the names stay
pub names_staged : (of : Name) (stage : Stage) (removals : List Removal) → names_of (map (staged of stage) removals) ≡ names_of removals
names_staged of stage [] = refl
names_staged of stage (r ∷ removals) = either (same_name of r.name) (names_staged of stage removals)
  where
    either : (b : Bool) → names_of (map (staged of stage) removals) ≡ names_of removals
        → (cond b (record r { stage = stage }) r).name ∷ names_of (map (staged of stage) removals) ≡ r.name ∷ names_of removals
    either true e = ap (λ (ns : List Name). r.name ∷ ns) e
    either false e = ap (λ (ns : List Name). r.name ∷ ns) e

-- an object that is not among them changes nothing
staged_none : (of : Name) (stage : Stage) (removals : List Removal) → has (names_of removals) of ≡ false → weight (map (staged of stage) removals) ≡ weight removals
staged_none of stage [] h = refl
staged_none of stage (r ∷ removals) h =
    let both = or_false (same_name of r.name) (has (names_of removals) of) h in
    let other : same_name of r.name ≡ false = both.0 in
    let rest : weight (map (staged of stage) removals) ≡ weight removals = staged_none of stage removals both.1 in
    rw (other, rest) refl

restaged : (of : Name) (old new : Stage) (removals : List Removal) → all_different (names_of removals) ≡ true
    → list_any (λ r. same_name of r.name && has_stage old r.stage) removals ≡ true
    → weight (map (staged of new) removals) + stage_weight old ≡ weight removals + stage_weight new
restaged of old new [] different at = absurd cc
restaged of old new (r ∷ removals) different at =
    let parts = and_true (not (has (names_of removals) r.name)) (all_different (names_of removals)) different in
    go (same_name of r.name) refl parts.0 (or_true (same_name of r.name && has_stage old r.stage) _ at) (restaged of old new removals parts.1)
  where
    out : (b : Bool) → not b ≡ true → b ≡ true → ⊥
    out true n y = cc
    out false n y = cc

    gone : (b : Bool) → not b ≡ true → b ≡ false
    gone true n = absurd cc
    gone false n = refl

    go : (b : Bool) → same_name of r.name ≡ b → not (has (names_of removals) r.name) ≡ true
        → ((same_name of r.name && has_stage old r.stage) ≡ true) ⊎ (list_any (λ q. same_name of q.name && has_stage old q.stage) removals ≡ true)
        → (list_any (λ q. same_name of q.name && has_stage old q.stage) removals ≡ true → weight (map (staged of new) removals) + stage_weight old ≡ weight removals + stage_weight new)
        → (stage_weight (staged of new r).stage + weight (map (staged of new) removals)) + stage_weight old ≡ (stage_weight r.stage + weight removals) + stage_weight new
    go true same apart (inl here) rest =
        let name : of ≡ r.name = same_name_true of r.name same in
        let stage : old ≡ r.stage = has_stage_true old r.stage (and_true _ _ here).1 in
        let others : weight (map (staged of new) removals) ≡ weight removals
        = staged_none of new removals (ap (has (names_of removals)) name ∙ gone (has (names_of removals) r.name) apart) in
        let weights : stage_weight old ≡ stage_weight r.stage = ap stage_weight stage in
        rw same (omega (arith, others, weights))
    go true same apart (inr later) rest =
        let name : of ≡ r.name = same_name_true of r.name same in
        absurd (out (has (names_of removals) r.name) apart (ap (has (names_of removals)) (sym name) ∙ removed_name old removals of later))
    go false other apart (inl here) rest = absurd (let t : same_name of r.name ≡ true = (and_true _ _ here).0 in cc)
    go false other apart (inr later) rest = rw other (omega (arith, rest later))

-- ---- a unit is released

weight_filter : (p : Removal → Bool) (removals : List Removal) → weight (filter p removals) ≤ weight removals
weight_filter p [] = omega arith
weight_filter p (r ∷ removals) = either (p r) (weight_filter p removals)
  where
    either : (b : Bool) → weight (filter p removals) ≤ weight removals → weight (cond b (r ∷ filter p removals) (filter p removals)) ≤ stage_weight r.stage + weight removals
    either true h = omega (arith, h)
    either false h = omega (arith, h)

-- an object that does not pass is not left
weight_less : (p : Removal → Bool) (stage : Stage) (of : Name) (removals : List Removal) → ((r : Removal) → same_name of r.name ≡ true → p r ≡ false)
    → list_any (λ r. same_name of r.name && has_stage stage r.stage) removals ≡ true → weight (filter p removals) + 1 ≤ weight removals
weight_less p stage of [] out at = absurd cc
weight_less p stage of (r ∷ removals) out at =
    go (or_true (same_name of r.name && has_stage stage r.stage) _ at) (weight_filter p removals) (weight_less p stage of removals out)
  where
    either : (b : Bool) → weight (filter p removals) + 1 ≤ weight removals → weight (cond b (r ∷ filter p removals) (filter p removals)) + 1 ≤ stage_weight r.stage + weight removals
    either true h = omega (arith, h)
    either false h = omega (arith, h)

    go : ((same_name of r.name && has_stage stage r.stage) ≡ true) ⊎ (list_any (λ q. same_name of q.name && has_stage stage q.stage) removals ≡ true)
        → weight (filter p removals) ≤ weight removals
        → (list_any (λ q. same_name of q.name && has_stage stage q.stage) removals ≡ true → weight (filter p removals) + 1 ≤ weight removals)
        → weight (cond (p r) (r ∷ filter p removals) (filter p removals)) + 1 ≤ stage_weight r.stage + weight removals
    go (inl here) fewer rest = let no : p r ≡ false = out r (and_true _ _ here).0 in rw no (omega (arith, fewer, some_weight r.stage))
    go (inr later) fewer rest = either (p r) (rest later)

neither : (a b : Bool) → not (a || b) ≡ true → (a ≡ false) × (not b ≡ true)
neither true b n = absurd cc
neither false b n = (refl, n)

names_filter : (p : Removal → Bool) (removals : List Removal) → all_different (names_of removals) ≡ true → all_different (names_of (filter p removals)) ≡ true
names_filter p [] h = refl
names_filter p (r ∷ removals) h =
    let parts = and_true (not (has (names_of removals) r.name)) (all_different (names_of removals)) h in
    either (p r) (absent removals parts.0) (names_filter p removals parts.1)
  where
    absent : (rs : List Removal) → not (has (names_of rs) r.name) ≡ true → not (has (names_of (filter p rs)) r.name) ≡ true
    absent [] e = refl
    absent (q ∷ rs) e = step (p q) (absent rs)
      where
        step : (b : Bool) → (not (has (names_of rs) r.name) ≡ true → not (has (names_of (filter p rs)) r.name) ≡ true) → not (has (names_of (cond b (q ∷ filter p rs) (filter p rs))) r.name) ≡ true
        step true more = let apart = neither (same_name r.name q.name) (has (names_of rs) r.name) e in let first : same_name r.name q.name ≡ false = apart.0 in rw first (more apart.1)
        step false more = more (neither (same_name r.name q.name) (has (names_of rs) r.name) e).1

    either : (b : Bool) → not (has (names_of (filter p removals)) r.name) ≡ true → all_different (names_of (filter p removals)) ≡ true
        → all_different (names_of (cond b (r ∷ filter p removals) (filter p removals))) ≡ true
    either true out rest = rw (out, rest) refl
    either false out rest = rest

-- ---- the unit that is released

then_some : {A B : Type 0} (f : A → Option B) (o : Option A) (y : B) → option_and_then f o ≡ Some y → (x : A) × (o ≡ Some x) × (f x ≡ Some y)
then_some f None y e = absurd cc
then_some f (Some x) y e = (x, refl, e)

in_order : (units : List (List Name)) (found : List Name) (u : List Name) → Among (flat_map (λ n. filter (begins_with n) units) found) u → Among units u
in_order units [] u h = absurd h
in_order units (n ∷ found) u h = go (among_append (filter (begins_with n) units) _ u h) (in_order units found u)
  where
    go : Among (filter (begins_with n) units) u ⊎ Among (flat_map (λ m. filter (begins_with m) units) found) u
        → (Among (flat_map (λ m. filter (begins_with m) units) found) u → Among units u) → Among units u
    go (inl a) rest = among_filter (begins_with n) units u a
    go (inr b) rest = rest b

-- its first member is finished, and is released with it
release_first : (w : World) (of : Name) → to_release w ≡ Some of → (is_at w Finished of ≡ true) × (has (members (filter (begins_with of) w.last_removed)) of ≡ true)
release_first w of e =
    let unit = then_some first_member (find (list_all (is_at w Finished)) (destruction_order w)) of e in
    let found = find_some (list_all (is_at w Finished)) (destruction_order w) unit.0 unit.1 in
    go unit.0 unit.2 found.1 (in_order w.last_removed w.found unit.0 found.0)
  where
    go : (u : List Name) → first_member u ≡ Some of → list_all (is_at w Finished) u ≡ true → Among w.last_removed u
        → (is_at w Finished of ≡ true) × (has (members (filter (begins_with of) w.last_removed)) of ≡ true)
    go [] first all among = absurd cc
    go (n ∷ rest) first all among =
        let same : n ≡ of = cc in
        let begins : begins_with of (n ∷ rest) ≡ true = subst (λ (m : Name). same_name of m ≡ true) (sym same) (same_name_refl of) in
        let own : has (n ∷ rest) of ≡ true = ap (λ (b : Bool). b || has rest of) begins in (
          subst (λ (m : Name). is_at w Finished m ≡ true) same (and_true (is_at w Finished n) _ all).0,
          member_of (filter (begins_with of) w.last_removed) (n ∷ rest) of (filter_among (begins_with of) w.last_removed (n ∷ rest) among begins) own,
        )

-- ---- parts of a purge

-- an object that agreed is still to be finished
abbrev pub due : Option Name → ℕ
due None = 0
due (Some n) = 1

-- what is known between two parts: no name is removed twice, and an object that agreed is begun
pub record IsDestroying (s : State) : Type 0 where
  pub different : all_different (names_of s.world.removals) ≡ true
  pub agreed : (n : Name) → s.collector.agreed ≡ Some n → is_at s.world Begun n ≡ true

-- each object that is asked agrees
abbrev pub AgreesAtOnce : Act → Type 0
AgreesAtOnce (act.Asked of poll answer) = answer ≡ true
AgreesAtOnce a = Unit {0}

-- what a part takes
pub record Takes (s t : State) (steps : ℕ) : Type 0 where
  pub well : IsDestroying t
  pub less : weight t.world.removals + steps + due s.collector.agreed ≤ weight s.world.removals + due t.collector.agreed

-- another number of polls changes no stage and no name
abbrev asked_again : Name → ℕ → Removal → Removal
asked_again of polls r = cond (same_name of r.name) (record r { polls = polls }) r

again_names : (of : Name) (polls : ℕ) (removals : List Removal) → names_of (map (asked_again of polls) removals) ≡ names_of removals
again_names of polls [] = refl
again_names of polls (r ∷ removals) = either (same_name of r.name) (again_names of polls removals)
  where
    either : (b : Bool) → names_of (map (asked_again of polls) removals) ≡ names_of removals
        → (cond b (record r { polls = polls }) r).name ∷ names_of (map (asked_again of polls) removals) ≡ r.name ∷ names_of removals
    either true e = ap (λ (ns : List Name). r.name ∷ ns) e
    either false e = ap (λ (ns : List Name). r.name ∷ ns) e

again_weight : (of : Name) (polls : ℕ) (removals : List Removal) → weight (map (asked_again of polls) removals) ≡ weight removals
again_weight of polls [] = refl
again_weight of polls (r ∷ removals) = either (same_name of r.name) (again_weight of polls removals)
  where
    either : (b : Bool) → weight (map (asked_again of polls) removals) ≡ weight removals
        → stage_weight (cond b (record r { polls = polls }) r).stage + weight (map (asked_again of polls) removals) ≡ stage_weight r.stage + weight removals
    either true e = ap (λ (k : ℕ). stage_weight r.stage + k) e
    either false e = ap (λ (k : ℕ). stage_weight r.stage + k) e

again_at : (of : Name) (polls : ℕ) (stage : Stage) (n : Name) (removals : List Removal)
    → list_any (λ r. same_name n r.name && has_stage stage r.stage) (map (asked_again of polls) removals) ≡ list_any (λ r. same_name n r.name && has_stage stage r.stage) removals
again_at of polls stage n [] = refl
again_at of polls stage n (r ∷ removals) = either (same_name of r.name) (again_at of polls stage n removals)
  where
    either : (b : Bool) → list_any (λ q. same_name n q.name && has_stage stage q.stage) (map (asked_again of polls) removals) ≡ list_any (λ q. same_name n q.name && has_stage stage q.stage) removals
        → ((same_name n (cond b (record r { polls = polls }) r).name && has_stage stage (cond b (record r { polls = polls }) r).stage)
        || list_any (λ q. same_name n q.name && has_stage stage q.stage) (map (asked_again of polls) removals))
        ≡ ((same_name n r.name && has_stage stage r.stage) || list_any (λ q. same_name n q.name && has_stage stage q.stage) removals)
    either true e = ap (λ (x : Bool). (same_name n r.name && has_stage stage r.stage) || x) e
    either false e = ap (λ (x : Bool). (same_name n r.name && has_stage stage r.stage) || x) e

abbrev entry_of : Act → Entry
entry_of a = record { pass = Collector; act = a }

takes_begun : (z : Sizes) (s : State) (of : Name) → StepOfCollector z s (act.Begun of) → IsDestroying s → Takes s (next s (entry_of (act.Begun of))) 1
takes_begun z s of step well =
    let at = (find_some (is_at s.world Removed) _ of step.may.next).1 in
    let less = restaged of Removed Begun s.world.removals well.different at in
    let none : due s.collector.agreed ≡ 0 = ap due step.finishes in
    record {
      well = record { different = ap all_different (names_staged of Begun s.world.removals) ∙ well.different; agreed = λ n e. absurd cc };
      less = omega (arith, less, none);
    }

takes_asked : (z : Sizes) (s : State) (of : Name) (poll : ℕ) → StepOfCollector z s (act.Asked of poll true) → IsDestroying s → Takes s (next s (entry_of (act.Asked of poll true))) 1
takes_asked z s of poll step well =
    let at = (find_some (is_at s.world Begun) _ of step.may.next).1 in
    let same = again_weight of poll s.world.removals in
    let none : due s.collector.agreed ≡ 0 = ap due step.finishes in
    record {
      well = record {
        different = ap all_different (again_names of poll s.world.removals) ∙ well.different;
        agreed = λ n e. again_at of poll Begun n s.world.removals ∙ subst (λ (m : Name). is_at s.world Begun m ≡ true) (let is : of ≡ n = cc in is) at;
      };
      less = omega (arith, same, none);
    }

takes_finished : (z : Sizes) (s : State) (of : Name) → StepOfCollector z s (act.Finished of) → IsDestroying s → Takes s (next s (entry_of (act.Finished of))) 0
takes_finished z s of step well =
    let less = restaged of Begun Finished s.world.removals well.different (well.agreed of step.finishes) in
    let one : due s.collector.agreed ≡ 1 = ap due step.finishes in
    record {
      well = record { different = ap all_different (names_staged of Finished s.world.removals) ∙ well.different; agreed = λ n e. absurd cc };
      less = omega (arith, less, one);
    }

takes_released : (z : Sizes) (s : State) (of : Name) → StepOfCollector z s (act.Released of) → IsDestroying s → Takes s (next s (entry_of (act.Released of))) 1
takes_released z s of step well =
    let first = release_first s.world of step.may.next in
    let gone : List Name = members (filter (begins_with of) s.world.last_removed) in
    let out : (r : Removal) → same_name of r.name ≡ true → not (has gone r.name) ≡ false =
    λ r e. ap not (subst (λ (n : Name). has gone n ≡ true) (same_name_true of r.name e) first.1) in
    let less = weight_less (λ r. not (has gone r.name)) Finished of s.world.removals out first.0 in
    let none : due s.collector.agreed ≡ 0 = ap due step.finishes in
    record {
      well = record { different = names_filter (λ r. not (has gone r.name)) s.world.removals well.different; agreed = λ n e. absurd cc };
      less = omega (arith, less, none);
    }

takes : (z : Sizes) (s : State) (a : Act) → StepOfCollector z s a → IsDestroying s → is_purge_part a ≡ true → AgreesAtOnce a → Takes s (next s (entry_of a)) (cond (is_purge_step a) 1 0)
takes z s (act.Begun of) step well part agrees = takes_begun z s of step well
takes z s (act.Asked of poll true) step well part agrees = takes_asked z s of poll step well
takes z s (act.Asked of poll false) step well part agrees = absurd cc
takes z s (act.Finished of) step well part agrees = takes_finished z s of step well
takes z s (act.Released of) step well part agrees = takes_released z s of step well
takes z s a step well part agrees = absurd cc

takes_none : (s : State) → IsDestroying s → Takes s s 0
takes_none s well = record { well = well; less = omega arith }

takes_both : (s t u : State) (m n : ℕ) → Takes s t m → Takes t u n → Takes s u (m + n)
takes_both s t u m n a b = record { well = b.well; less = omega (arith, a.less, b.less) }

takes_parts : (z : Sizes) (s : State) (parts : List Act) → LegalFrom z s (by Collector parts) → IsDestroying s → list_all is_purge_part parts ≡ true → AllByRecursion AgreesAtOnce parts
    → Takes s (run s (by Collector parts)) (count_by is_purge_step parts)
takes_parts z s [] legal well parts agree = takes_none s well
takes_parts z s (a ∷ rest) legal well parts agree =
    let both = and_true (is_purge_part a) (list_all is_purge_part rest) parts in
    let one = takes z s a legal.0 well both.0 agree.0 in
    let more = takes_parts z (next s (entry_of a)) rest legal.1 one.well both.1 agree.1 in
    subst (Takes s (run (next s (entry_of a)) (by Collector rest))) (sym (sum_by-cons (λ x. cond (is_purge_step x) 1 0) a rest)) (takes_both s _ _ _ _ one more)

-- the rest of the world stays
abbrev pub OnlyRemovals : World → World → Type 0
OnlyRemovals w v = v ≡ record w { removals = v.removals }

pub part_keeps : (s : State) (a : Act) → is_purge_part a ≡ true → OnlyRemovals s.world (next s (entry_of a)).world
part_keeps s (act.Begun of) part = refl
part_keeps s (act.Asked of poll answer) part = refl
part_keeps s (act.Finished of) part = refl
part_keeps s (act.Released of) part = refl
part_keeps s a part = absurd cc

only_both : (u v w : World) → OnlyRemovals u v → OnlyRemovals v w → OnlyRemovals u w
only_both u v w a b = b ∙ ap (λ (x : World). record x { removals = w.removals }) a

pub parts_keep : (s : State) (parts : List Act) → list_all is_purge_part parts ≡ true → OnlyRemovals s.world (run s (by Collector parts)).world
parts_keep s [] all = refl
parts_keep s (a ∷ rest) all =
    let both = and_true (is_purge_part a) (list_all is_purge_part rest) all in
    only_both s.world _ _ (part_keeps s a both.0) (parts_keep (next s (entry_of a)) rest both.1)

-- ---- what classes answer

-- the class of each object is one of the table, and each class is ready as soon as it is asked
pub record InTable (header : Header) (w : World) : Type 0 where
  pub known : (n : Name) → (class_of w n).0 < length header.classes.classes
  pub at_once : (class : ClassId) → (class_at header.classes.classes class).ready ≡ ready.After 0

part_agrees : (z : Sizes) (header : Header) (w : World) (s : State) (a : Act) → StepOfCollector z s a → InTable header w → AnswersBy header w a → AgreesAtOnce a
part_agrees z header w s (act.Asked of poll answer) step table says =
    let known = table.known of in
    let class : nat_lt (class_of w of).0 (length header.classes.classes) ≡ true = grind (arith, nat_tests, known) in
    let some : nat_lt 0 poll ≡ true = let number = step.may.number in grind (arith, nat_tests, number) in
    says ∙ rw (class, table.at_once (class_of w of), some) refl
part_agrees z header w s a step table says = tt

parts_agree : (z : Sizes) (header : Header) (w : World) (s : State) (acts : List Act) → LegalFrom z s (by Collector acts) → InTable header w
    → AllByRecursion (AnswersBy header w) acts → AllByRecursion AgreesAtOnce acts
parts_agree z header w s [] legal table says = tt
parts_agree z header w s (a ∷ rest) legal table says = (part_agrees z header w s a legal.0 table says.0, parts_agree z header w (next s (entry_of a)) rest legal.1 table says.1)

-- ---- one purge

-- what a purge leaves
record HasPurged (s t : State) (steps : ℕ) : Type 0 where
  well : IsDestroying t
  none : t.collector.agreed ≡ None
  less : weight t.world.removals + steps ≤ weight s.world.removals
  rest : OnlyRemovals s.world t.world

pub all_front : {A : Type 0} (P : A → Type 0) (xs ys : List A) → AllByRecursion P (xs ++ ys) → AllByRecursion P xs
all_front P [] ys h = tt
all_front P (x ∷ xs) ys h = (h.0, all_front P xs ys h.1)

closed : (s : State) (budget : ℕ) (reply : Purged) (steps : ℕ) → IsDestroying s → s.collector.agreed ≡ None → IsDestroying (next s (entry_of (act.PurgeGc budget reply)))
closed s budget reply steps well none = record { different = well.different; agreed = λ n e. absurd cc }

purge_takes : (z : Sizes) (header : Header) (s : State) (budget steps left : ℕ) (acts : List Act) → PurgeEntries budget (purge.Ran steps left) acts → LegalFrom z s (by Collector acts)
    → InTable header s.world → AllByRecursion (AnswersBy header s.world) acts → IsDestroying s → s.collector.agreed ≡ None → HasPurged s (run s (by Collector acts)) steps
purge_takes z header s budget steps left acts h legal table says well none =
    let last : List Act = act.PurgeGc budget (purge.Ran steps left) ∷ [] in
    let entries : by Collector acts ≡ by Collector h.parts ++ by Collector last = ap (by Collector) h.are ∙ by-append Collector h.parts last in
    let halves = legal_split z s (by Collector h.parts) (by Collector last) (subst (LegalFrom z s) entries legal) in
    let end : State = run s (by Collector h.parts) in
    let left_is : run s (by Collector acts) ≡ run end (by Collector last) = ap (run s) entries ∙ run-append s (by Collector h.parts) (by Collector last) in
    let agree = parts_agree z header s.world s h.parts halves.0 table (all_front (AnswersBy header s.world) h.parts last (subst (AllByRecursion (AnswersBy header s.world)) h.are says)) in
    let took = takes_parts z s h.parts halves.0 well h.only agree in
    let over : end.collector.agreed ≡ None = halves.1.0.finishes in
    let first : due s.collector.agreed ≡ 0 = ap due none in
    let last_due : due end.collector.agreed ≡ 0 = ap due over in
    subst (λ (t : State). HasPurged s t steps) (sym left_is) (record {
      well = closed end budget (purge.Ran steps left) steps took.well over;
      none = refl;
      less = omega (arith, took.less, first, last_due, h.counted);
      rest = parts_keep s h.parts h.only;
    })

-- ---- all purges of a whole collection

left_none : (removals : List Removal) → length removals ≡ 0 → removals ≡ []
left_none [] h = refl
left_none (r ∷ removals) h = absurd (omega (arith, h))

-- they leave no removed object
pub purges_end : (z : Sizes) (budget : ℕ) (header : Header) (bound : ℕ) (s : State) (purges : List (List Act)) → PurgesAll budget header bound s purges → LegalFrom z s (flat_map (by Collector) purges)
    → InTable header s.world → IsDestroying s → s.collector.agreed ≡ None → s.world.phase ≡ Idle → weight s.world.removals ≤ bound
    → (run s (flat_map (by Collector) purges)).world ≡ record s.world { removals = [] }
unfolding PurgesAll
purges_end z budget header bound s [] h legal table well none idle few = ap (λ (rs : List Removal). record s.world { removals = rs }) (go h)
  where
    go : (left_of s.world ≡ 0) ⊎ (bound ≡ 0) → s.world.removals ≡ []
    go (inl nothing) = left_none s.world.removals (ap (λ (phase : Phase). left_in phase s.world) (sym idle) ∙ nothing)
    go (inr spent) = weight_none s.world.removals (omega (arith, few, spent))
purges_end z budget header bound s (acts ∷ rest) (some, more, (steps, left, call, says, others)) legal table well none idle few =
    let parts = legal_split z s (by Collector acts) (flat_map (by Collector) rest) legal in
    let t : State = run s (by Collector acts) in
    let one = purge_takes z header s (min budget bound) steps left acts call.0 parts.0 table says well none in
    let same : InTable header t.world = record { known = λ n. subst (λ (w : World). (class_of w n).0 < length header.classes.classes) (sym one.rest) (table.known n); at_once = table.at_once } in
    let still : t.world.phase ≡ Idle = ap (λ (w : World). w.phase) one.rest ∙ idle in
    let fewer : weight t.world.removals ≤ bound - steps = let l = one.less in omega (arith, l, few) in
    ap (λ (u : State). u.world) (run-append s (by Collector acts) (flat_map (by Collector) rest))
    ∙ purges_end z budget header (bound - steps) t rest others parts.1 same one.well one.none still fewer
    ∙ ap (λ (w : World). record w { removals = [] }) one.rest
