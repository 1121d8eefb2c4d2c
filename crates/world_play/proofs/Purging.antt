-- Purges, one more at a time.
use Rattle.std.proofs.Common.{◌≡◌, ℕ, ◌+◌, ◌-◌, ◌*◌, ◌<◌, ◌≤◌, min, zero, suc, Bool, refl, sym, subst, ap, ◌∙◌, inl, inr, arith, List, [], ◌∷◌, ◌++◌, append_assoc, append-nil, flat_map, drop, length, ◌⊎◌}
use Rattle.std.specs.List.{AllByRecursion}
use Rattle.std.proofs.Math.Seq.{drop-append_seam}
use Rattle.std.proofs.lemmas.Grind.{flat_map-append}
use Rattle.world_model.specs.Sizes.{Sizes}
use Rattle.world_model.specs.World.{World, left_in, left_of}
use Rattle.world_model.specs.State.{State, beginning}
use Rattle.world_model.specs.Next.{run}
use Rattle.world_model.specs.Histories.{LegalFrom, state_of, after}
use Rattle.world_model.specs.Calls.{by, CallOf, PurgeEntries, Appends}
use Rattle.world_model.specs.Hooks.{ReadyTest, Meets, MeetTest, SameTest, class_of}
use Rattle.world_model.proofs.Joins.{run-append, by-append, legal_split}
use Rattle.world_model.proofs.Solo.{state_after, legal_call}
use Rattle.world_play.specs.Header.{Header}
use Rattle.world_play.specs.Types.{Name, ClassId, Phase, Idle, Purged, Collector, Act, Entry}
use Rattle.world_play.specs.Types.act
use Rattle.world_play.specs.Types.purge
use Rattle.world_play.specs.Collections.{is_ready, AnswersBy, PurgesAll}
use Rattle.world_play.specs.Stages.{HasSwept, Destroys}
use Rattle.world_play.proofs.Destroying.{OnlyRemovals, parts_keep}

-- some purges of a whole collection were made, and so many steps are left to the bound
unfoldable pub PurgesSome : ℕ → Header → ℕ → State → List (List Act) → ℕ → Type 0
PurgesSome budget header bound s [] rest = rest ≡ bound
PurgesSome budget header bound s (acts ∷ more) rest =
    (0 < left_of s.world) × (0 < bound)
    × ((steps : ℕ) × (left : ℕ) × CallOf s Collector (act.PurgeGc (min budget bound) (purge.Ran steps left)) acts
    × AllByRecursion (AnswersBy header s.world) acts × PurgesSome budget header (bound - steps) (run s (by Collector acts)) more rest)

some_more : (budget : ℕ) (header : Header) (bound : ℕ) (s : State) (purges : List (List Act)) (rest steps left : ℕ) (acts : List Act) → PurgesSome budget header bound s purges rest
    → 0 < left_of (run s (flat_map (by Collector) purges)).world → 0 < rest → PurgeEntries (min budget rest) (purge.Ran steps left) acts
    → AllByRecursion (AnswersBy header (run s (flat_map (by Collector) purges)).world) acts → PurgesSome budget header bound s (purges ++ acts ∷ []) (rest - steps)
unfolding PurgesSome
some_more budget header bound s [] rest steps left acts was some more call says = (
  some,
  subst (λ (k : ℕ). 0 < k) was more,
  (steps, left, (subst (λ (k : ℕ). PurgeEntries (min budget k) (purge.Ran steps left) acts) was call, tt), says, ap (λ (k : ℕ). k - steps) was),
)
some_more budget header bound s (first ∷ purges) rest steps left acts (a, b, (n, m, one, answers, others)) some more call says =
    let t : State = run s (by Collector first) in
    let same : run s (by Collector first ++ flat_map (by Collector) purges) ≡ run t (flat_map (by Collector) purges) = run-append s (by Collector first) (flat_map (by Collector) purges) in (
      a,
      b,
      (
        n,
        m,
        one,
        answers,
        some_more budget header (bound - n) t purges rest steps left acts others (subst (λ (u : State). 0 < left_of u.world) same some) more call
            (subst (λ (u : State). AllByRecursion (AnswersBy header u.world) acts) same says),
      ),
    )

some_all : (budget : ℕ) (header : Header) (bound : ℕ) (s : State) (purges : List (List Act)) (rest : ℕ) → PurgesSome budget header bound s purges rest
    → (left_of (run s (flat_map (by Collector) purges)).world ≡ 0) ⊎ (rest ≡ 0) → PurgesAll budget header bound s purges
unfolding PurgesSome PurgesAll
some_all budget header bound s [] rest was (inl nothing) = inl nothing
some_all budget header bound s [] rest was (inr spent) = inr (sym was ∙ spent)
some_all budget header bound s (first ∷ purges) rest (a, b, (n, m, one, answers, others)) over =
    let same : run s (by Collector first ++ flat_map (by Collector) purges) ≡ run (run s (by Collector first)) (flat_map (by Collector) purges) =
    run-append s (by Collector first) (flat_map (by Collector) purges) in
    (a, b, (n, m, one, answers, some_all budget header (bound - n) (run s (by Collector first)) purges rest others (subst (λ (u : State). (left_of u.world ≡ 0) ⊎ (rest ≡ 0)) same over)))

-- ---- one purge more

-- what a purge is by its own entry, and what it leaves
pub record PurgeLeaves (z : Sizes) (mid new : List Entry) (budget steps left : ℕ) : Type 0 where
  pub world : OnlyRemovals (after mid) (after new)
  pub within : steps ≤ budget
  pub rest : left ≡ length (after new).removals
  pub early : steps < budget → left ≡ 0

module _ (z : Sizes) (mid new : List Entry) (budget : ℕ) (reply : Purged) (h : Appends z mid new Collector (act.PurgeGc budget reply)) where
  abbrev last : List Act
  last = act.PurgeGc budget reply ∷ []

  abbrev parts : List Act
  parts = h.call.0.parts

  entries : by Collector h.acts ≡ by Collector parts ++ by Collector last
  entries = ap (by Collector) h.call.0.are ∙ by-append Collector parts last

  halves : LegalFrom z (state_of mid) (by Collector parts) × LegalFrom z (run (state_of mid) (by Collector parts)) (by Collector last)
  halves = legal_split z (state_of mid) (by Collector parts) (by Collector last) (subst (LegalFrom z (state_of mid)) entries (legal_call z mid new Collector (act.PurgeGc budget reply) h))

  -- the last entry changes nothing of the world
  same_world : after new ≡ (run (state_of mid) (by Collector parts)).world
  same_world =
      ap (λ (s : State). s.world)
      (state_after z mid new Collector (act.PurgeGc budget reply) h ∙ ap (run (state_of mid)) entries
      ∙ run-append (state_of mid) (by Collector parts) (by Collector last))

  kept_world : OnlyRemovals (after mid) (run (state_of mid) (by Collector parts)).world
  kept_world = parts_keep (state_of mid) parts h.call.0.only

purge_leaves : (z : Sizes) (mid new : List Entry) (budget steps left : ℕ) → Appends z mid new Collector (act.PurgeGc budget (purge.Ran steps left)) → PurgeLeaves z mid new budget steps left
purge_leaves z mid new budget steps left h =
    let may = (halves z mid new budget (purge.Ran steps left) h).1.0.may in
    let same = same_world z mid new budget (purge.Ran steps left) h in
    record {
      world = same ∙ kept_world z mid new budget (purge.Ran steps left) h ∙ ap (λ (w : World). record (after mid) { removals = w.removals }) (sym same);
      within = may.within;
      rest = may.rest ∙ ap (λ (w : World). length w.removals) (sym same);
      early = may.early;
    }

-- no collection runs, so no purge is refused
pub never_gathering : (z : Sizes) (mid new : List Entry) (budget : ℕ) → Appends z mid new Collector (act.PurgeGc budget purge.Gathering) → (after mid).phase ≡ Idle → ⊥
never_gathering z mid new budget h idle =
    let gathering = (halves z mid new budget purge.Gathering h).1.0.may in
    let still : (run (state_of mid) (by Collector (parts z mid new budget purge.Gathering h))).world.phase ≡ Idle =
    ap (λ (w : World). w.phase) (kept_world z mid new budget purge.Gathering h) ∙ idle in
    cc

-- ---- the purges so far

pub record DestroysOn (z : Sizes) (budget : ℕ) (header : Header) (old mid : List Entry) (bound rest : ℕ) : Type 0 where
  pub purges : List (List Act)
  pub some : PurgesSome budget header bound (state_of old) purges rest
  pub grown : mid ≡ old ++ flat_map (by Collector) purges
  pub found : (after mid).found ≡ (after old).found
  pub opened : (after mid).opened ≡ (after old).opened
  pub swept : HasSwept z mid

pub destroys_none : (z : Sizes) (budget : ℕ) (header : Header) (old : List Entry) (bound rest : ℕ) → rest ≡ bound → HasSwept z old → DestroysOn z budget header old old bound rest
unfolding PurgesSome
destroys_none z budget header old bound rest e swept = record { purges = []; some = e; grown = sym (append-nil old); found = refl; opened = refl; swept = swept }

state_so_far : (old mid : List Entry) (purges : List (List Act)) → mid ≡ old ++ flat_map (by Collector) purges → state_of mid ≡ run (state_of old) (flat_map (by Collector) purges)
state_so_far old mid purges grown = ap state_of grown ∙ run-append beginning old (flat_map (by Collector) purges)

-- how many are left where no collection runs
left_idle : (w : World) (n : ℕ) → w.phase ≡ Idle → n ≡ length w.removals → n ≡ left_of w
left_idle w n idle e = e ∙ ap (λ (phase : Phase). left_in phase w) (sym idle)

pub destroys_more : (z : Sizes) (budget : ℕ) (header : Header) (old mid new : List Entry) (bound rest b steps left : ℕ) → b ≡ min budget rest → DestroysOn z budget header old mid bound rest
    → (h : Appends z mid new Collector (act.PurgeGc b (purge.Ran steps left))) → 0 < left_of (after mid) → 0 < rest → AllByRecursion (AnswersBy header (after mid)) h.acts
    → DestroysOn z budget header old new bound (rest - steps) × (left ≡ left_of (after new)) × (steps ≤ rest) × (steps < b → left ≡ 0)
destroys_more z budget header old mid new bound rest b steps left e on h some more says =
    let leaves = purge_leaves z mid new b steps left h in
    let state = state_so_far old mid on.purges on.grown in
    let idle : (after new).phase ≡ Idle = ap (λ (w : World). w.phase) leaves.world ∙ on.swept.idle in (
      record {
        purges = on.purges ++ h.acts ∷ [];
        some = some_more budget header bound (state_of old) on.purges rest steps left h.acts on.some (subst (λ (s : State). 0 < left_of s.world) state some) more
            (subst (λ (k : ℕ). PurgeEntries k (purge.Ran steps left) h.acts) e h.call.0) (subst (λ (s : State). AllByRecursion (AnswersBy header s.world) h.acts) state says);
        grown = h.grown ∙ ap (λ (es : List Entry). es ++ by Collector h.acts) on.grown ∙ append_assoc old (flat_map (by Collector) on.purges) (by Collector h.acts)
            ∙ ap (λ (es : List Entry). old ++ es)
            (ap (λ (es : List Entry). flat_map (by Collector) on.purges ++ es) (sym (append-nil (by Collector h.acts)))
            ∙ sym (flat_map-append (by Collector) on.purges (h.acts ∷ [])));
        found = ap (λ (w : World). w.found) leaves.world ∙ on.found;
        opened = ap (λ (w : World). w.opened) leaves.world ∙ on.opened;
        swept = record { legal = h.legal; idle = idle };
      },
      left_idle (after new) left idle leaves.rest,
      omega (arith, leaves.within, e),
      leaves.early,
    )

-- each purge makes a step, or leaves nothing
pub purge_less : (bound steps rest left b : ℕ) → steps ≤ bound → (steps < b → rest ≡ 0) → 0 < b → 0 < left → (bound - steps) + min rest 1 < bound + min left 1
purge_less bound zero rest left b within early some more = let none : rest ≡ 0 = early (omega arith) in omega (arith, none)
purge_less bound (suc k) rest left b within early some more = omega arith

pub destroys_all : (z : Sizes) (budget : ℕ) (header : Header) (old mid : List Entry) (rest : ℕ)
    → DestroysOn z budget header old mid (103 * length (after old).found) rest → (left_of (after mid) ≡ 0) ⊎ (rest ≡ 0)
    → Destroys z budget header old mid
destroys_all z budget header old mid rest on over = record {
  purges = on.purges;
  purged =
      some_all budget header (103 * length (after old).found) (state_of old) on.purges rest on.some
      (subst (λ (s : State). (left_of s.world ≡ 0) ⊎ (rest ≡ 0)) (state_so_far old mid on.purges on.grown) over);
  grown = on.grown;
  found = on.found;
  opened = on.opened;
  legal = on.swept.legal;
}

-- ---- what the hooks answer

-- the answers are those of the classes
abbrev pub IsByClass : Header → ReadyTest → Type 0
IsByClass header test = (n : Name) (class : ClassId) (poll : ℕ) (answer : Bool) → test n class poll answer → answer ≡ is_ready header.classes class poll

answer_by : (header : Header) (w : World) (test : ReadyTest) (a : Act) → IsByClass header test → Meets w test a → AnswersBy header w a
answer_by header w test (act.Asked of poll answer) is meets = is of (class_of w of) poll answer meets
answer_by header w test a is meets = tt

answers_by : (header : Header) (w : World) (test : ReadyTest) (acts : List Act) → IsByClass header test
    → AllByRecursion (λ (e : Entry). Meets w test e.act) (by Collector acts) → AllByRecursion (AnswersBy header w) acts
answers_by header w test [] is meets = tt
answers_by header w test (a ∷ acts) is meets = (answer_by header w test a is meets.0, answers_by header w test acts is meets.1)

pub purge_answers : (z : Sizes) (header : Header) (mid new : List Entry) (budget : ℕ) (reply : Purged) (test : ReadyTest)
    (h : Appends z mid new Collector (act.PurgeGc budget reply)) → IsByClass header test
    → MeetTest (after mid) mid new test → AllByRecursion (AnswersBy header (after mid)) h.acts
purge_answers z header mid new budget reply test h is meets =
    let added : drop (length mid) new ≡ by Collector h.acts = ap (drop (length mid)) h.grown ∙ drop-append_seam mid (by Collector h.acts) in
    answers_by header (after mid) test h.acts is (subst (AllByRecursion (λ (e : Entry). Meets (after mid) test e.act)) added meets)

pub still_by_class : (header : Header) (old new : ReadyTest) → SameTest old new → IsByClass header old → IsByClass header new
still_by_class header old new same is n class poll answer h = is n class poll answer ((same n class poll answer).1 h)
