-- Beginning a collection.
use Rattle.std.proofs.Common.{◌≡◌, ◌≢◌, ℕ, ◌<◌, ◌≤◌, ◌||◌, refl, sym, subst, ap, ◌∙◌, inl, inr, arith, Bool, true, false, List, [], ◌∷◌, ◌++◌, length, get_or, map, replicate, ◌⊎◌, count_by, append_assoc, Option, Some, None, IsSome, is_some}
use Rattle.std.specs.List.{list_any, AllByRecursion}
use Rattle.std.specs.Option.{option_to_list}
use Rattle.std.proofs.Math.ListN.{set}
use Rattle.std.proofs.Math.Logic.{dite}
use Rattle.std.proofs.Math.Decide.{ℕ_discrete, dec_le}
use Rattle.std.proofs.Math.Nat.{lt_of_not-le}
use Rattle.std.proofs.lemmas.List.{length-set, get_or-set_other, get_or-replicate, length-replicate, get_or_past}
use Rattle.world_model.specs.Sizes.{Sizes, item_count}
use Rattle.world_model.specs.NameLists.{has}
use Rattle.world_model.specs.World.{World, unit_of, in_world, Removal}
use Rattle.world_model.specs.State.{State, AtSomeMoment}
use Rattle.world_model.specs.Reach.{graph, IsUnit, IsRootUnit}
use Rattle.world_model.specs.Next.{next, run}
use Rattle.world_model.specs.Histories.{LegalFrom, MayBy, after, state_of}
use Rattle.world_model.specs.Calls.{by}
use Rattle.world_model.specs.Midway.{AreApart}
use Rattle.world_model.proofs.ListFacts.{Among, contains_among, and_true, among_test, among_right}
use Rattle.world_model.proofs.Units.{units_apart}
use Rattle.world_model.proofs.Barrier.{member_lives, own_unit}
use Rattle.world_model.proofs.Removals.{named_lives_holds}
use Rattle.heap_plain.specs.Types.{Name, Kind, Phase, Idle, Marking, Gathering, Begin, Collector, Entry}
use Rattle.heap_plain.specs.Types.act
use Rattle.heap_plain.specs.Types.begin
use Rattle.heap_plain.specs.Parts.{Parts, Objects, name_at, first_at, target_at}
use Rattle.heap_plain.specs.Painted.{Painted, greyed, all_greyed}
use Rattle.heap_plain.specs.Notes.{MayStart, starts, names_at}
use Rattle.heap_plain.specs.Shading.{InRoots, CanShade, Shades, InStrong}
use Rattle.heap_plain.specs.Units.{NamesShow, UnitsShow, StandsAt, LivesAt}
use Rattle.heap_plain.specs.Roots.{RootsShow, StrongShow, rooted_at}
use Rattle.heap_plain.specs.Colouring.{MarksShow}
use Rattle.heap_plain.specs.Destroying.{RemovedShow, count_left}
use Rattle.heap_plain.specs.Plain.{ShowsWorld, Shows, IsPlain}
use Rattle.heap_plain.proofs.Entries.{Done, does}
use Rattle.heap_plain.proofs.Standing.{member_at, bit_below, name_below, lives_at}
use Rattle.heap_plain.proofs.MarkSteps.{mark_one}
use Rattle.heap_plain.proofs.Cells.{aims_target}
use Rattle.heap_plain.proofs.Pointers.{strong_target}
use Rattle.heap_plain.proofs.Shadings.{shades_len, shades_join}
use Rattle.world_model.proofs.Quiet.{any_none}

-- ---- refusals

pub none_of_none : {A : Type 0} (xs : List A) → length xs ≡ 0 → xs ≡ []
none_of_none [] e = refl
none_of_none (x ∷ xs) e = absurd (omega arith)

pub left_idle : (phase : Phase) (removals : List Removal) (found : List Name) (left : ℕ) → left ≡ count_left phase removals found → phase ≡ Idle → left ≡ length removals
left_idle Idle removals found left e is = e
left_idle Marking removals found left e is = e
left_idle Gathering removals found left e is = absurd cc

pub refuses_begin : {z : Sizes} {p : Parts} {h : List Entry} (reply : Begin) → IsPlain z p h → MayStart p.phase p.left (count_by (λ is_open. is_open) p.frames) reply → starts reply ≡ false
    → Done z p h (h ++ record { pass = Collector; act = act.BeginGc reply } ∷ []) Collector (act.BeginGc reply)
refuses_begin begin.Started was m other = absurd cc
refuses_begin (begin.Running at) was m other =
    does Collector (act.BeginGc (begin.Running at)) (act.BeginGc (begin.Running at) ∷ []) was (refl, tt)
    (record { finishes = was.rest.between.agreed; may = (m.0 ∙ was.shows.phase, λ e. m.1 (sym m.0 ∙ e)) }, tt) was.shows
refuses_begin (begin.Purging n) was m other =
    let s = was.shows in
    does Collector (act.BeginGc (begin.Purging n)) (act.BeginGc (begin.Purging n) ∷ []) was (refl, tt)
    (record { finishes = was.rest.between.agreed; may = (sym s.phase ∙ m.0, m.1 ∙ left_idle _ _ _ _ s.removed.left_is m.0, omega (arith, m.1, m.2)) }, tt) s
refuses_begin (begin.Frames n) was m other =
    let s = was.shows in
    does Collector (act.BeginGc (begin.Frames n)) (act.BeginGc (begin.Frames n) ∷ []) was (refl, tt) (
      record {
        finishes = was.rest.between.agreed;
        may = (record { idle = sym s.phase ∙ m.0; released = none_of_none _ (sym (left_idle _ _ _ _ s.removed.left_is m.0) ∙ m.1) }, (m.2 ∙ s.frames.count, omega (arith, m.2, m.3)));
      },
      tt,
    ) s

-- ---- the notes

-- bits that are set are among the old ones or the new ones
set_among : (c : Painted) (xs : List ℕ) (x : ℕ) → get_or (all_greyed c xs).marked x false ≡ true → (get_or c.marked x false ≡ true) ⊎ Among xs x
set_among c [] x e = inl e
set_among c (y ∷ xs) x e = go (set_among (greyed c y) xs x e)
  where
    go : (get_or (set c.marked y true) x false ≡ true) ⊎ Among xs x → (get_or c.marked x false ≡ true) ⊎ ((y ≡ x) ⊎ Among xs x)
    go (inl is) = dite (ℕ_discrete y x) (λ (e : y ≡ x). inr (inl e)) (λ (ne : y ≢ x). inl (sym (get_or-set_other c.marked y x true false (λ e. ne (sym e))) ∙ is))
    go (inr a) = inr (inr a)

among_names_at : (names : List (Option Name)) (xs : List ℕ) (x : ℕ) (n : Name) → Among xs x → name_at names x ≡ Some n → Among (names_at names xs) n
among_names_at names [] x n a e = absurd a
among_names_at names (y ∷ xs) x n (inl same) e = let t : name_at names y ≡ Some n = ap (name_at names) same ∙ e in rw t (inl refl)
among_names_at names (y ∷ xs) x n (inr a) e = among_right (option_to_list (name_at names y)) (names_at names xs) n (among_names_at names xs x n a e)

none_any : (u : List Name) → list_any (λ n. has [] n || has [] n) u ≡ false
none_any [] = refl
none_any (n ∷ u) = none_any u

-- what the notes of these units do from a state on
pub record KeepRun (z : Sizes) (o : Objects) (c : Painted) (s : State) (of : List Name) : Type 0 where
  pub legal : LegalFrom z s (by Collector (map act.Kept of))
  pub world : (run s (by Collector (map act.Kept of))).world ≡ s.world
  pub asked : (run s (by Collector (map act.Kept of))).collector.asked ≡ s.collector.asked
  pub marks : MarksShow o s.world.units c (run s (by Collector (map act.Kept of))).marks.kept
      (run s (by Collector (map act.Kept of))).marks.fresh (run s (by Collector (map act.Kept of))).marks.scanned
  pub roots : AllByRecursion (λ n. IsRootUnit (graph s.world) (unit_of s.world n)) of

-- the object behind a root bit
root_at : {z : Sizes} {o : Objects} {kinds : ℕ → List Kind} {units : List (List Name)} {roots : List Bool} {rooted : Name → Bool}
    → NamesShow z o.names kinds → UnitsShow z o units → RootsShow z o.names roots rooted
    → ((n : Name) → rooted n ≡ true → list_any (λ u. has u n) units ≡ true) → (i : ℕ) → get_or roots i false ≡ true → (n : Name) × LivesAt o.names o.lives i n × (rooted n ≡ true)
root_at {o = o} {roots = roots} {rooted = rooted} ns us rs living i e = go (name_at o.names i) refl
  where
    bit : rooted_at rooted (name_at o.names i) ≡ true
    bit = sym (rs.bits.each i false (omega (arith, bit_below roots i e, rs.bits.len))) ∙ e

    go : (q : Option Name) → name_at o.names i ≡ q → (n : Name) × LivesAt o.names o.lives i n × (rooted n ≡ true)
    go None at = absurd (let wrong : false ≡ true = sym (ap (rooted_at rooted) at) ∙ bit in cc)
    go (Some n) at =
        let is : rooted n ≡ true = sym (ap (rooted_at rooted) at) ∙ bit in
        let j = lives_at us n (living n is) in
        let same : j.0 ≡ i = ns.alone j.0 i n j.1.name at in
        (n, subst (λ (k : ℕ). LivesAt o.names o.lives k n) same j.1, is)

-- which indexes the root set holds: those with a root bit, and those of strong pointers
abbrev pub InRootSet : Sizes → List Bool → List (Option ℕ) → ℕ → Type 0
InRootSet z roots strong t = InRoots roots (length roots) t ⊎ InStrong strong z.strong z.lanes t

-- first the root bits are looked at, and then the strong pointers
pub root_set_shaded : (z : Sizes) (roots : List Bool) (strong : List (Option ℕ)) {names : List (Option Name)} {firsts : List ℕ} {c mid c' : Painted} {old between new : List Entry}
    → Shades names firsts (InRoots roots (length roots)) Collector c mid old between → Shades names firsts (InStrong strong z.strong z.lanes) Collector mid c' between new
    → Shades names firsts (InRootSet z roots strong) Collector c c' old new
root_set_shaded z roots strong a b = shades_join (λ t h. inl h) (λ t h. inr h) (λ t h. h) a b

-- the object at such an index is in the root set
pub in_root_set : {z : Sizes} {o : Objects} {kinds : ℕ → List Kind} {units : List (List Name)} {roots : List Bool} {strong : List (Option ℕ)}
    {rooted : Name → Bool} {held : ℕ → ℕ → Option Name} → NamesShow z o.names kinds → UnitsShow z o units → RootsShow z o.names roots rooted
    → StrongShow z o.names o.lives strong held → ((n : Name) → rooted n ≡ true → list_any (λ u. has u n) units ≡ true)
    → (i : ℕ) → InRootSet z roots strong i → (n : Name) × LivesAt o.names o.lives i n × ((rooted n ≡ true) ⊎ ((lane : ℕ) × (number : ℕ) × (held lane number ≡ Some n)))
in_root_set ns us rs ss living i (inl r) = let root = root_at ns us rs living i r.1 in (root.0, root.1, inl root.2)
in_root_set {z} {strong = strong} {held = held} ns us rs ss living i (inr (lane, number, a, b, e)) =
    let r = aims_target (target_at z.strong strong lane number) (held lane number) i (ss.aims lane number a b) e in
    (r.0, r.2, inr (lane, number, r.1))

pub keep_run : (z : Sizes) (o : Objects) (roots : List Bool) (strong : List (Option ℕ)) (s : State) (earlier : List World) (c : Painted) (heads : List ℕ)
    → AreApart s.world.kinds s.world.units → NamesShow z o.names s.world.kinds → UnitsShow z o s.world.units
    → RootsShow z o.names roots s.world.rooted → StrongShow z o.names o.lives strong s.world.strong → ((n : Name) → s.world.rooted n ≡ true → in_world s.world n ≡ true)
    → s.world.phase ≡ Marking → s.collector.started ≡ true → s.collector.agreed ≡ None → s.marks.moments ≡ s.world ∷ earlier → s.marks.scanned ≡ [] → length c.marked ≡ item_count z
    → MarksShow o s.world.units c s.marks.kept s.marks.fresh s.marks.scanned → CanShade o.firsts (InRootSet z roots strong) c.marked heads
    → KeepRun z o (all_greyed c heads) s (names_at o.names heads)
keep_run z o roots strong s earlier c [] apart ns us rs ss living marking started agreed moments black len marks can = record {
  legal = tt;
  world = refl;
  asked = refl;
  marks = marks;
  roots = tt;
}
keep_run z o roots strong s earlier c (head ∷ heads) apart ns us rs ss living marking started agreed moments black len marks can =
    let r = can.0 in
    let root = in_root_set ns us rs ss living r.0 r.1 in
    let unit = us.each r.0 root.1.life in
    let u = unit.0 in
    let stands : StandsAt o s.world.units head u = subst (λ (x : ℕ). StandsAt o s.world.units x u) r.2 unit.1 in
    let member = member_at us head u stands in
    let n = member.0 in
    let entry : Entry = record { pass = Collector; act = act.Kept n } in
    let inside : head < length c.marked = omega (arith, subst (λ (x : ℕ). x < item_count z) r.2 (us.in_range r.0)) in
    let unit_is : unit_of s.world n ≡ u = own_unit s.world apart u n stands.among member.2 in
    let has_root : has u root.0 ≡ true = stands.whole r.0 root.0 root.1 r.2 in
    let is_root : IsRootUnit (graph s.world) (unit_of s.world n) = subst (λ (v : List Name). IsRootUnit (graph s.world) v) (sym unit_is) (root.0, has_root, root.2) in
    let rest = keep_run z o roots strong (next s entry) s.marks.moments (greyed c head) heads apart ns us rs ss living marking started refl refl black
    (length-set c.marked head true ∙ len)
    (mark_one ns us apart head u n stands member.2 can.1 inside
    (λ e. absurd (any_none u (subst (λ (ns : List Name). list_any (has ns) u ≡ true) black e))) marks) can.2 in
    let may : MayBy z s Collector (act.Kept n) = record {
      finishes = agreed;
      may = record {
        white = record { marking = marking; living = member_lives s.world u n stands.among member.2; unmarked = rw unit_is (sym (marks.bits head u stands) ∙ can.1) };
        started = started;
        root = subst (λ (ms : List World). AtSomeMoment ms (λ w. IsRootUnit (graph w) (unit_of s.world n))) (sym moments) (inl is_root);
      };
    } in
    let whole : KeepRun z o (all_greyed c (head ∷ heads)) s (n ∷ names_at o.names heads) = record {
      legal = (may, rest.legal);
      world = rest.world;
      asked = rest.asked;
      marks = rest.marks;
      roots = (is_root, rest.roots);
    } in
    subst (λ (q : Option Name). KeepRun z o (all_greyed c (head ∷ heads)) s (option_to_list q ++ names_at o.names heads)) (sym member.1.name) whole

-- ---- a collection starts

-- nothing is marked
abbrev pub unpainted : ℕ → Painted
unpainted n = record { marked = replicate n false; listed = []; scanned = 0 }

pub none_marked : (n i : ℕ) → get_or (replicate n false) i false ≡ false
none_marked n i = dite (dec_le n i)
    (λ (past : n ≤ i). get_or_past (replicate n false) i false (omega (arith, length-replicate n false)))
    (λ (inside : ¬ (n ≤ i)). get_or-replicate n i false false (lt_of_not-le inside))

unmarked : (o : Objects) (units : List (List Name)) (n : ℕ) → MarksShow o units (unpainted n) [] [] []
unmarked o units n = record {
  bits = λ head u t. none_marked n head ∙ sym (none_any u);
  worklist = record { distinct = tt; set = λ head a. absurd a };
  order = omega arith;
  grey_units = λ head a. absurd a;
  all_grey = λ head u t e. absurd (any_none u (and_true _ _ e).0);
}

module _ {z : Sizes} {p : Parts} {h new : List Entry} {c : Painted} (was : IsPlain z p h)
    (open_none : count_by (λ is_open. is_open) p.frames ≡ 0) (idle : p.phase ≡ Idle) (none_left : p.left ≡ 0)
    (sh : Shades p.names p.firsts (InRootSet z p.roots p.strong) Collector (unpainted (length p.marked)) c (h ++ record { pass = Collector; act = act.BeginGc begin.Started } ∷ []) new) where
  abbrev s : Shows z p (state_of h)
  s = was.shows

  abbrev started_entry : Entry
  started_entry = record { pass = Collector; act = act.BeginGc begin.Started }

  abbrev s1 : State
  s1 = next (state_of h) started_entry

  abbrev heads : List ℕ
  heads = sh.heads

  abbrev of : List Name
  of = names_at p.names heads

  abbrev notes : List Entry
  notes = by Collector (map act.Kept of)

  removals_none : (after h).removals ≡ []
  removals_none = none_of_none _ (sym (left_idle _ _ _ _ s.removed.left_is idle) ∙ none_left)

  ran : KeepRun z p.objects (all_greyed (unpainted (length p.marked)) heads) s1 of
  ran =
      keep_run z p.objects p.roots p.strong s1 [] (unpainted (length p.marked)) heads (units_apart z h was.legal) s.names s.units s.roots s.strong
      (named_lives_holds z h was.legal).rooted refl refl refl refl refl (length-replicate (length p.marked) false ∙ s.marked_len)
      (unmarked p.objects (after h).units (length p.marked)) sh.can

  may_start : MayBy z (state_of h) Collector (act.BeginGc begin.Started)
  may_start = record { finishes = was.rest.between.agreed; may = (record { idle = sym s.phase ∙ idle; released = removals_none }, none_of_none _ (sym s.frames.count ∙ open_none)) }

  abbrev q : Parts
  q = record p { gate = record (p.gate) { phase = Marking }; colours = c }

  abbrev end : State
  end = run s1 notes

  -- no removed object was left
  removed_marking : RemovedShow z p.names p.lives p.polls p.left p.swept Marking (after h).removals (after h).found (after h).swept
  removed_marking = record {
    swept_is = s.removed.swept_is;
    swept_few = s.removed.swept_few;
    polls_len = s.removed.polls_len;
    removed = s.removed.removed;
    gone = s.removed.gone;
    found_is = λ e. absurd cc;
    left_is = left_idle _ _ _ _ s.removed.left_is idle;
    left_few = λ e. absurd cc;
  }

  -- the vectors show the world that the start leaves
  shows_end : ShowsWorld z q s1.world end.marks.kept end.marks.fresh end.marks.scanned end.collector.asked
  shows_end = record {
    gate = record { phase = refl; frames = s.frames };
    objects = s.objects;
    rows = s.rows;
    roots = s.roots;
    garbage = s.garbage;
    strong = s.strong;
    pairs = s.pairs;
    colours = record {
      marked_len = shades_len sh ∙ length-replicate (length p.marked) false ∙ s.marked_len;
      idle = λ ne. absurd (ne refl);
      marks = λ e. subst (λ (x : Painted). MarksShow p.objects (after h).units x end.marks.kept end.marks.fresh end.marks.scanned) (sym sh.colours) ran.marks;
    };
    stock = s.stock;
    ends = record { removed = removed_marking; gone = s.gone; room = s.room; gathers = λ e. absurd cc; queue = λ e. absurd cc; none_asked = λ ne. ran.asked };
  }

  whole : new ≡ h ++ started_entry ∷ notes
  whole = sh.entries ∙ append_assoc h (started_entry ∷ []) notes

  -- the unit of an object of the root set is marked
  kept_unit : (j : ℕ) (at : ℕ) (u : List Name) → StandsAt p.objects (after h).units at u → first_at p.firsts j ≡ at → InRootSet z p.roots p.strong j → list_any (has u) of ≡ true
  kept_unit j at u stands is root =
      let set_now : get_or (all_greyed (unpainted (length p.marked)) heads).marked at false ≡ true =
      ap (λ (x : Painted). get_or x.marked at false) (sym sh.colours) ∙ ap (λ (x : ℕ). get_or c.marked x false) (sym is) ∙ sh.each j root in
      let member = member_at s.units at u stands in
      among_test (has u) of member.0 (among_names_at p.names heads at member.0 (listed at (set_among (unpainted (length p.marked)) heads at set_now)) member.1.name) member.2
    where
      listed : (x : ℕ) → (get_or (replicate (length p.marked) false) x false ≡ true) ⊎ Among heads x → Among heads x
      listed x (inl e) = absurd (let t = none_marked (length p.marked) x in cc)
      listed x (inr a) = a

  each_root : (u : List Name) → IsUnit (graph (after h)) u → IsRootUnit (graph (after h)) u → list_any (has u) of ≡ true
  each_root u unit (r, has_r, inl rooted) =
      let at = s.units.all u (contains_among (after h).units u unit) in
      let j = at.1.inside r has_r in
      let below : j.0 < item_count z = omega (arith, name_below p.names j.0 r j.1.name, s.names.items) in
      let bit : get_or p.roots j.0 false ≡ true = s.roots.bits.each j.0 false below ∙ ap (rooted_at (after h).rooted) j.1.name ∙ rooted in
      kept_unit j.0 at.0 u at.1 j.2 (inl (omega (arith, s.roots.bits.len), bit))
  each_root u unit (r, has_r, inr (lane, number, is)) =
      let at = s.units.all u (contains_among (after h).units u unit) in
      let j = at.1.inside r has_r in
      let named = strong_target s.strong lane number r is in
      let same : named.2.0 ≡ j.0 = s.names.alone named.2.0 j.0 r named.2.2.name j.1.name in
      kept_unit named.2.0 at.0 u at.1 (ap (first_at p.firsts) same ∙ j.2) (inr (lane, number, named.0, named.1, named.2.1))

  pub started : Done z q h new Collector (act.BeginGc begin.Started)
  started = subst (λ (es : List Entry). Done z q h es Collector (act.BeginGc begin.Started)) (sym whole)
      (does Collector (act.BeginGc begin.Started) (act.BeginGc begin.Started ∷ map act.Kept of) was
      (record { of = of; are = refl }, record { roots = ran.roots; each = each_root }) (may_start, ran.legal)
      (subst (λ (w : World). ShowsWorld z q w end.marks.kept end.marks.fresh end.marks.scanned end.collector.asked) (sym ran.world) shows_end))

-- ---- what the call finds

-- the answer Started has its cause
pub start_facts : (phase : Phase) (left opened : ℕ) (reply : Begin) → MayStart phase left opened reply → starts reply ≡ true → (reply ≡ begin.Started) × (phase ≡ Idle) × (left ≡ 0) × (opened ≡ 0)
start_facts phase left opened begin.Started m e = (refl, m.0, m.1, m.2)
start_facts phase left opened (begin.Running at) m e = absurd cc
start_facts phase left opened (begin.Purging n) m e = absurd cc
start_facts phase left opened (begin.Frames n) m e = absurd cc

-- there is a name at the head of the unit of an object of the root set
pub head_named : {z : Sizes} {p : Parts} {h : List Entry} → IsPlain z p h → (i : ℕ) → InRootSet z p.roots p.strong i → IsSome (name_at p.names (first_at p.firsts i))
head_named {z} {p} {h} was i r =
    let s = was.shows in
    let root = in_root_set s.names s.units s.roots s.strong (named_lives_holds z h was.legal).rooted i r in
    let unit = s.units.each i root.1.life in
    let member = member_at s.units (first_at p.firsts i) unit.0 unit.1 in
    ap (λ (o : Option Name). is_some o) member.1.name

-- a strong pointer holds an index
pub strong_below : {z : Sizes} {p : Parts} {h : List Entry} → IsPlain z p h → (t : ℕ) → InStrong p.strong z.strong z.lanes t → t < item_count z
strong_below {z} {p} {h} was t (lane, number, a, b, e) =
    let s = was.shows in
    let r = aims_target (target_at z.strong p.strong lane number) ((after h).strong lane number) t (s.strong.aims lane number a b) e in
    omega (arith, name_below p.names t r.0 r.2.name, s.names.items)
