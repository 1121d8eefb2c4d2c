-- However a legal history plays a whole script, each line tells and leaves what the outcome of the script says.
use Rattle.std.proofs.Common.{◌≡◌, ℕ, ◌+◌, ◌-◌, ◌<◌, ◌≤◌, ◌==◌, refl, sym, subst, ap, ◌∙◌, inl, inr, ◌⊎◌, zero, suc, arith, Bool, cond, true, false, List, [], ◌∷◌, ◌++◌, length, Option, Some, None, Result, Ok, Err, count_by}
use Rattle.std.specs.Prelude.{nat_lt, nat_le, slice_get, slice_index_or, ◌&&◌, IsTrue}
use Rattle.std.specs.List.{list_all}
use Rattle.std.proofs.Common.{filter, not}
use Rattle.world_model.specs.LaneSteps.{is_lawful}
use Rattle.world_model.proofs.ListFacts.{and_true, Among, among_append, among_left, among_right}
use Rattle.std.specs.List.{AllByRecursion}
use Rattle.std.specs.Option.{option_map_or}
use Rattle.std.proofs.lemmas.Bool.Decides.{nat_tests}
use Rattle.world_model.specs.Sizes.{Sizes, IsLawful, item_count}
use Rattle.std.specs.Prelude.{◌%◌, MatchOption, option_map, if◌then◌else◌}
use Rattle.std.specs.List.{find}
use Rattle.std.specs.Option.{is_some}
use Rattle.std.proofs.lemmas.Bool.{eqb-true, eq-eqb}
use Rattle.std.proofs.lemmas.List.{length-map}
use Rattle.word_layout.specs.Values.{weak_word}
use Rattle.world_model.specs.LaneSteps.{DrawsPair}
use Rattle.world_model.proofs.Counts.{count-append, count-cons}
use Rattle.world_model.proofs.Pairs.{pair_found}
use Rattle.class_schema.specs.Lawful.{IsSchema}
use Rattle.world_model.specs.NameLists.{members, names_from, set_at, same_pass}
use Rattle.world_model.specs.World as world
use Rattle.world_model.specs.World.{World, Pair, Removal, left_in, left_of}
use Rattle.world_model.specs.State.{State, beginning}
use Rattle.world_model.specs.Next.{run}
use Rattle.world_model.specs.Histories.{state_of, after, Legal, LegalFrom}
use Rattle.world_model.specs.Calls.{by, StoreEntries}
use Rattle.world_model.proofs.Joins.{run-append, legal_split, legal_join}
use Rattle.level_script.specs.Frames.{IsAtOnce}
use Rattle.class_schema.specs.Class.{Class}
use Rattle.class_schema.specs.Ancestry.{object}
use Rattle.class_schema.specs.Table.{kind_of}
use Rattle.world_play.specs.Header.{Header}
use Rattle.world_play.specs.Types.{Name, Weak, ClassId, Kind, FieldKind, Phase, Idle, Begin, Pass, Lane, Collector, Act, Entry, Reply, Line, Cmd, LaneCmd, Member, GcCmd}
use Rattle.world_play.specs.Types.act
use Rattle.world_play.specs.Types.create
use Rattle.world_play.specs.Types.begin
use Rattle.world_play.specs.Types.reply
use Rattle.world_play.specs.Types.cmd
use Rattle.world_play.specs.Types.lane_cmd
use Rattle.world_play.specs.Types.gc_cmd
use Rattle.world_model.specs.NameLists.{same_name, same_weak, set_name}
use Rattle.world_play.specs.Spots.{Element, is_int, is_weak, kind_at, value_of, set_spot, get_spot, int_spot, weak_spot, told_object}
use Rattle.world_play.specs.Bindings.{Bindings, no_bindings, bound, members_bound, weak_bound, ended}
use Rattle.world_play.specs.Pairs.{no_pair, pair_in, has_serial, forged, stored}
use Rattle.world_play.specs.Values.{Value, Nothing, Number, Own, Forged, number_of, pair_of, is_pair, same_value, Seen}
use Rattle.world_play.specs.Lanes.{OneCall, Calls, Says, OnObject, OnElement, Makes, kinds_of, GivesPair, ReadsPair, object_of, LaneTurn}
use Rattle.world_play.specs.Collections.{Collected, RefusesBegin, told_full, GcTurn}
use Rattle.world_play.specs.Plays.{TurnBy, Plays, text, entries_of}
use Rattle.world_play.specs.Outcome.{Scene, names_left, free, next_name, make_reply, with_made, with_unit, root_reply, with_root, on_element, where_element, with_cell, with_plain, pair_at, with_strong, weak_reply, weak_given, with_pair, with_weak, given, Told, unreached, collection, full_reply, with_collection, outcome_of, replies_from}
use Rattle.world_play.specs.Laws.{LaneClass, HasClass, OneText}
use Rattle.world_play.proofs.Members.{lists_more, IsKind, one_kind, members_kinds, members_weaks, members_objects}
use Rattle.world_play.proofs.Order.{same_order}
use Rattle.world_play.proofs.Removing.{scene_of, IsCalm, HasCollected, has_collected}
use Rattle.world_play.proofs.Destroying.{InTable}
use Rattle.world_play.proofs.Meaning.{Means, means_small, Points, points, serial_told, same_told, given_told, IsCell, cell_of, Has, number_told, pair_told, is_pair_of, has_word, IsBeside, beside_more, beside_weak, beside_plain}

-- the class of each object that was made is one of the table
abbrev pub AreKnown : Header → World → Type 0
AreKnown header w = (lane i : ℕ) (k : Kind) → slice_get (w.kinds lane) i ≡ Some k → k.class.0 < length header.classes.classes

-- so is that of each name
known_class : (count : ℕ) (o : Option Kind) → 0 < count → ((k : Kind) → o ≡ Some k → k.class.0 < count) → (option_map_or (λ k. k.class) o (record { 0 = 0 })).0 < count
known_class count None some h = some
known_class count (Some k) some h = h k refl

-- the class of an id is ready at once where all classes are
at_once_there : (classes : List Class) (i : ℕ) → AllByRecursion IsAtOnce classes → IsAtOnce (slice_index_or classes i object)
at_once_there [] i h = refl
at_once_there (c ∷ classes) zero h = h.0
at_once_there (c ∷ classes) (suc i) h = at_once_there classes i h.1

in_table : (header : Header) (w : World) → 0 < length header.classes.classes → AllByRecursion IsAtOnce header.classes.classes → AreKnown header w → InTable header w
in_table header w some at_once known = record {
  known = λ n. known_class (length header.classes.classes) (world.kind_of w n) some (λ k e. known n.lane (n.count - 1) k e);
  at_once = λ class. at_once_there header.classes.classes class.0 at_once;
}

-- lawful kinds have no more references than an object has cells
lawful_fits : (z : Sizes) (kinds : List Kind) → list_all (is_lawful z) kinds ≡ true → AllByRecursion (λ k. k.refs ≤ z.slots) kinds
lawful_fits z [] h = tt
lawful_fits z (kind ∷ kinds) h =
    let one = and_true (is_lawful z kind) _ h in
    let both = and_true (nat_lt kind.class.0 4096 && nat_le (kind.refs + kind.plain) z.slots) _ one.0 in
    let sum : nat_le (kind.refs + kind.plain) z.slots ≡ true = (and_true (nat_lt kind.class.0 4096) _ both.0).1 in
    (grind (arith, nat_tests, sum), lawful_fits z kinds one.1)

-- the classes of kinds of the table are there
known_kinds : (header : Header) (kinds : List Kind) → AllByRecursion (IsKind header) kinds → AllByRecursion (λ k. k.class.0 < length header.classes.classes) kinds
known_kinds header [] all = tt
known_kinds header (k ∷ kinds) all = (all.0.0, known_kinds header kinds all.1)

-- these are the values of the weak variables and of the plain cells of a world
abbrev Beside : Header → World → (ℕ → Weak) → (ℕ → Value) → (Name → ℕ → Value) → Type 0
Beside header w weaks values cells = IsBeside header w.kinds w.pairs w.plain weaks values cells

-- what the entries of a command tell and leave, with these pairs of weak variables, and these values of them and of plain cells
record Leaves (z : Sizes) (header : Header) (s : State) (piece : List Entry) (r what : Reply) (scene : Scene) (weaks : ℕ → Weak) (values : ℕ → Value) (cells : Name → ℕ → Value) : Type 0 where
  told : r ≡ what
  left : scene_of (run s piece).world ≡ scene
  calm : IsCalm z (run s piece).world
  table : AreKnown header (run s piece).world
  beside : Beside header (run s piece).world weaks values cells

-- what is seen of variables and cells with these values
abbrev seen_of : Bindings → (ℕ → Value) → (Name → ℕ → Value) → Seen
seen_of names values cells = record { names = record { objects = names.objects; weaks = values }; plain = cells }

-- what the outcome says of a line
abbrev said_of : Sizes → Header → State → Bindings → (ℕ → Value) → (Name → ℕ → Value) → Cmd → Told
said_of z header s names values cells what = outcome_of z header (scene_of s.world) (seen_of names values cells) what

-- so do those of a line, and the variables and cells are those of the outcome
pub record Tells (z : Sizes) (header : Header) (s : State) (names new : Bindings) (values : ℕ → Value) (cells : Name → ℕ → Value) (what : Cmd) (piece : List Entry) (r : Reply) : Type 0 where
  pub told : r ≡ (said_of z header s names values cells what).reply
  pub left : scene_of (run s piece).world ≡ (said_of z header s names values cells what).scene
  pub objects : new.objects ≡ (said_of z header s names values cells what).seen.names.objects
  pub calm : IsCalm z (run s piece).world
  pub table : AreKnown header (run s piece).world
  pub beside : Beside header (run s piece).world new.weaks (said_of z header s names values cells what).seen.names.weaks (said_of z header s names values cells what).seen.plain

-- a call of one entry, which is legal
module _ (z : Sizes) (header : Header) (s : State) (lane : ℕ) (a : Act) (piece : List Entry) (acts : List Act) (one : acts ≡ a ∷ []) (is : piece ≡ by (Lane lane) acts) where
  entries : piece ≡ record { pass = Lane lane; act = a } ∷ []
  entries = is ∙ ap (by (Lane lane)) one

  here : (P : List Entry → Type 0) → P (record { pass = Lane lane; act = a } ∷ []) → P piece
  here P h = subst P (sym entries) h

  now : LegalFrom z s piece → LegalFrom z s (record { pass = Lane lane; act = a } ∷ [])
  now legal = subst (LegalFrom z s) entries legal

-- ---- a lane makes objects

free_same : (z : Sizes) (w : World) (lane : ℕ) → w.removals ≡ [] → world.free z w lane ≡ free z (scene_of w) lane
free_same z w lane none =
    let removed : world.occupied w lane ≡ count_by (λ n. n.lane == lane) (members w.units) + 0
    = ap (λ (rs : List Removal). count_by (λ n. n.lane == lane) (members w.units) + count_by (λ (r : Removal). r.name.lane == lane) rs) none in
    omega (arith, removed)

-- which of the three replies there is
module _ (z : Sizes) (c : Scene) (lane count : ℕ) (told : Name → Reply) where
  made_reply : count ≤ names_left z c lane → count ≤ free z c lane → make_reply z c lane count told ≡ told (next_name c lane)
  made_reply left room =
      let some : nat_lt (names_left z c lane) count ≡ false = grind (arith, nat_tests) in
      let place : nat_lt (free z c lane) count ≡ false = grind (arith, nat_tests) in
      rw (some, place) refl

  room_reply : count ≤ names_left z c lane → free z c lane < count → make_reply z c lane count told ≡ reply.Full lane (free z c lane)
  room_reply left none =
      let some : nat_lt (names_left z c lane) count ≡ false = grind (arith, nat_tests) in
      let place : nat_lt (free z c lane) count ≡ true = grind (arith, nat_tests) in
      rw (some, place) refl

  spent_reply : names_left z c lane < count → make_reply z c lane count told ≡ reply.NamesSpent lane (names_left z c lane)
  spent_reply none = let spent : nat_lt (names_left z c lane) count ≡ true = grind (arith, nat_tests) in rw spent refl

get_more : {A : Type 0} (xs ys : List A) (i : ℕ) (k : A) → slice_get xs i ≡ Some k → slice_get (xs ++ ys) i ≡ Some k
get_more [] ys i k e = absurd cc
get_more (x ∷ xs) ys zero k e = e
get_more (x ∷ xs) ys (suc i) k e = get_more xs ys i k e

-- an object keeps its kind as more are made
kinds_keep : (kinds : ℕ → List Kind) (lane : ℕ) (more : List Kind) (m : Name) (k : Kind) → kind_at kinds m ≡ Some k → kind_at (set_at kinds lane (kinds lane ++ more)) m ≡ Some k
kinds_keep kinds lane more m k e = go (m.lane == lane) refl
  where
    go : (b : Bool) → (m.lane == lane) ≡ b → slice_get (cond b (kinds lane ++ more) (kinds m.lane)) (m.count - 1) ≡ Some k
    go true t = get_more (kinds lane) more (m.count - 1) k (subst (λ (l : ℕ). slice_get (kinds l) (m.count - 1) ≡ Some k) (eqb-true m.lane lane t) e)
    go false t = e

module _ (z : Sizes) (header : Header) (s : State) (lane : ℕ) (kinds : List Kind) (asked : ℕ) (many : asked ≡ length kinds) (told : Name → Reply) (piece : List Entry) (r : Reply)
    (weaks : ℕ → Weak) (values : ℕ → Value) (cells : Name → ℕ → Value) (beside : Beside header s.world weaks values cells)
    (all : AllByRecursion (IsKind header) kinds) (calm : IsCalm z s.world) (known : AreKnown header s.world) (legal : LegalFrom z s piece)
    (unit : (n : Name) → with_unit (scene_of s.world) lane kinds (told n) ≡ with_made (scene_of s.world) lane kinds) where
  abbrev Made : List Entry → Type 0
  Made es =
      let c : Scene = scene_of s.world in
      let what : Reply = make_reply z c lane asked told in
      Leaves z header s es r what (with_unit c lane kinds what) weaks values cells

  makes : Makes s lane kinds told piece r → Made piece
  makes (inl (count, (acts, call, is), tells)) =
      let a : Act = act.Make kinds count in
      let c : Scene = scene_of s.world in
      let may = (now z header s lane a piece acts call.0 is legal).0.may in
      let left : asked ≤ names_left z c lane = omega (arith, may.names, many) in
      let room : asked ≤ free z c lane = omega (arith, may.room, many, free_same z s.world lane calm.released) in
      let made : make_reply z c lane asked told ≡ told (next_name c lane) = made_reply z c lane asked told left room in
      here z header s lane a piece acts call.0 is Made
      (record {
        told = tells ∙ ap (λ (n : ℕ). told (record { lane = lane; count = n })) may.next ∙ sym made;
        left =
            ap (λ (n : ℕ). record c { kinds = set_at c.kinds lane (c.kinds lane ++ kinds); units = c.units ++ names_from lane n kinds ∷ [] }) may.next
            ∙ sym (ap (with_unit c lane kinds) made ∙ unit (next_name c lane));
        calm =
            record {
              idle = calm.idle;
              released = calm.released;
              cells = calm.cells;
              pointers = calm.pointers;
              fits = λ l i k e. lists_more (λ (k : Kind). k.refs ≤ z.slots) s.world.kinds lane kinds (lawful_fits z kinds may.lawful) l i k e (calm.fits l i k);
              valid = calm.valid;
              small = calm.small;
            };
        table =
            λ l i k e. lists_more (λ (k : Kind). k.class.0 < length header.classes.classes) s.world.kinds lane kinds (known_kinds header kinds all) l i k e (known l i k);
        beside = beside_more header s.world.kinds s.world.pairs s.world.plain weaks values cells beside _ s.world.pairs (kinds_keep s.world.kinds lane kinds) (λ p k. k);
      })
  makes (inr (create.Full room, (acts, call, is), tells)) =
      let c : Scene = scene_of s.world in
      let may = (now z header s lane (act.Full (length kinds) room) piece acts call.0 is legal).0.may in
      let same : room ≡ free z c lane = may.rest ∙ free_same z s.world lane calm.released in
      let none : free z c lane < asked = omega (arith, may.short, same, many) in
      let full : make_reply z c lane asked told ≡ reply.Full lane (free z c lane) = room_reply z c lane asked told (omega (arith, may.names, many)) none in
      here z header s lane (act.Full (length kinds) room) piece acts call.0 is Made
      (record { told = tells ∙ ap (reply.Full lane) same ∙ sym full; left = ap (with_unit c lane kinds) (sym full); calm = calm; table = known; beside = beside })
  makes (inr (create.NamesSpent left, (acts, call, is), tells)) =
      let c : Scene = scene_of s.world in
      let may = (now z header s lane (act.NamesSpent (length kinds) left) piece acts call.0 is legal).0.may in
      let none : names_left z c lane < asked = omega (arith, may.short, may.rest, many) in
      let spent : make_reply z c lane asked told ≡ reply.NamesSpent lane (names_left z c lane) = spent_reply z c lane asked told none in
      here z header s lane (act.NamesSpent (length kinds) left) piece acts call.0 is Made
      (record { told = tells ∙ ap (reply.NamesSpent lane) may.rest ∙ sym spent; left = ap (with_unit c lane kinds) (sym spent); calm = calm; table = known; beside = beside })

-- ---- objects and cells

-- an object has no more references than it has cells
few_refs : (slots : ℕ) (o : Option Kind) → ((k : Kind) → o ≡ Some k → k.refs ≤ slots) → option_map_or (λ k. k.refs) o 0 ≤ slots
few_refs slots None h = omega arith
few_refs slots (Some k) h = h k refl

-- a store below the last cell leaves those from there on empty
still_empty : (slots slot : ℕ) (cell : Name → ℕ → Option Name) (at : Name) (to : Option Name) → slot < slots
    → ((n : Name) (j : ℕ) → slots ≤ j → cell n j ≡ None) → (n : Name) (j : ℕ) → slots ≤ j → set_name cell at (set_at (cell at) slot to) n j ≡ None
still_empty slots slot cell at to below empty n j high = go (same_name n at)
  where
    inner : (b : Bool) → (j == slot) ≡ b → cond b to (cell at j) ≡ None
    inner true t = absurd (let same : j ≡ slot = grind (arith, nat_tests, t) in omega (arith, below, high, same))
    inner false t = empty at j high

    go : (b : Bool) → cond b (set_at (cell at) slot to) (cell n) j ≡ None
    go true = inner (j == slot) refl
    go false = empty n j high

stored_calm : (z : Sizes) (w : World) (at : Name) (slot : ℕ) (to : Option Name) → IsCalm z w → slot < world.refs_of w at
    → IsCalm z (record w { cell = set_name w.cell at (set_at (w.cell at) slot to) })
stored_calm z w at slot to calm below =
    let few = few_refs z.slots (world.kind_of w at) (λ k e. calm.fits at.lane (at.count - 1) k e) in
    record {
      idle = calm.idle;
      released = calm.released;
      cells = still_empty z.slots slot w.cell at to (omega (arith, below, few)) calm.cells;
      pointers = calm.pointers;
      fits = calm.fits;
      valid = calm.valid;
      small = calm.small;
    }

-- a store into a strong pointer of the shape leaves the others empty
strong_calm : (z : Sizes) (w : World) (lane h : ℕ) (to : Option Name) → IsCalm z w → lane < z.lanes → h < z.strong
    → IsCalm z (record w { strong = set_at w.strong lane (set_at (w.strong lane) h to) })
strong_calm z w lane h to calm in_lanes in_strong = record {
  idle = calm.idle;
  released = calm.released;
  cells = calm.cells;
  pointers = λ l n out. go l n out (l == lane) refl;
  fits = calm.fits;
  valid = calm.valid;
  small = calm.small;
}
  where
    inner : (l n : ℕ) → l ≡ lane → (z.lanes ≤ l) ⊎ (z.strong ≤ n) → (b : Bool) → (n == h) ≡ b → cond b to (w.strong lane n) ≡ None
    inner l n same (inl high) b t = absurd (omega (arith, same, high, in_lanes))
    inner l n same (inr high) true t = absurd (let one : n ≡ h = eqb-true n h t in omega (arith, one, high, in_strong))
    inner l n same (inr high) false t = calm.pointers lane n (inr high)

    go : (l n : ℕ) → (z.lanes ≤ l) ⊎ (z.strong ≤ n) → (b : Bool) → (l == lane) ≡ b → cond {A = ℕ → Option Name} b (set_at (w.strong lane) h to) (w.strong l) n ≡ None
    go l n out true t = inner l n (eqb-true l lane t) out (n == h) refl
    go l n out false t = calm.pointers l n out

-- ---- serials

paired_more : (pairs : List Pair) (q : Pair) (m : Name) → is_some (option_map (λ (p : Pair). p.weak) (find (λ p. same_name m p.name) (pairs ++ q ∷ [])))
    ≡ cond (same_name m q.name) true (is_some (option_map (λ (p : Pair). p.weak) (find (λ p. same_name m p.name) pairs)))
paired_more [] q m = go (same_name m q.name)
  where
    go : (b : Bool) → is_some (option_map (λ (p : Pair). p.weak) (cond b (Some q) None)) ≡ cond b true false
    go true = refl
    go false = refl
paired_more (x ∷ pairs) q m = go (same_name m x.name) (same_name m q.name) (paired_more pairs q m)
  where
    go : (b c : Bool)
        → is_some (option_map (λ (p : Pair). p.weak) (find (λ p. same_name m p.name) (pairs ++ q ∷ []))) ≡ cond c true (is_some (option_map (λ (p : Pair). p.weak) (find (λ p. same_name m p.name) pairs)))
        → is_some (option_map (λ (p : Pair). p.weak) (cond b (Some x) (find (λ p. same_name m p.name) (pairs ++ q ∷ []))))
        ≡ cond c true (is_some (option_map (λ (p : Pair). p.weak) (cond b (Some x) (find (λ p. same_name m p.name) pairs))))
    go true true rest = refl
    go true false rest = refl
    go false c rest = rest

drawn_more : (pairs : List Pair) (q : Pair) (l : ℕ) → count_by (λ (p : Pair). p.lane == l) (pairs ++ q ∷ [])
    ≡ cond (l == q.lane) (count_by (λ (p : Pair). p.lane == q.lane) pairs + 1) (count_by (λ (p : Pair). p.lane == l) pairs)
drawn_more pairs q l = count-append (λ (p : Pair). p.lane == l) pairs (q ∷ []) ∙ go (l == q.lane) refl
  where
    last : (b : Bool) → (q.lane == l) ≡ b → count_by (λ (p : Pair). p.lane == l) (q ∷ []) ≡ cond b 1 0
    last b t = count-cons (λ (p : Pair). p.lane == l) q [] ∙ ap (λ (c : Bool). cond c 1 0 + 0) t ∙ plus_none b
      where
        plus_none : (b : Bool) → cond b 1 0 + 0 ≡ cond b 1 0
        plus_none true = refl
        plus_none false = refl

    go : (b : Bool) → (l == q.lane) ≡ b → count_by (λ (p : Pair). p.lane == l) pairs + count_by (λ (p : Pair). p.lane == l) (q ∷ [])
        ≡ cond b (count_by (λ (p : Pair). p.lane == q.lane) pairs + 1) (count_by (λ (p : Pair). p.lane == l) pairs)
    go true t =
        let one : l ≡ q.lane = eqb-true l q.lane t in
        let own = last true (eq-eqb q.lane l (sym one)) in
        let same = ap (λ (k : ℕ). count_by (λ (p : Pair). p.lane == k) pairs) one in
        omega (arith, own, same)
    go false t =
        let other : (q.lane == l) ≡ false = grind (arith, nat_tests, t) in
        let none = last false other in
        omega (arith, none)

module _ (z : Sizes) (header : Header) (s : State) (lane : ℕ) (piece : List Entry) (r : Reply) (calm : IsCalm z s.world) (known : AreKnown header s.world) (legal : LegalFrom z s piece)
    (lawful : IsLawful z) (schema : IsSchema header.classes) (points : Points z s.world) (names : Bindings) (values : ℕ → Value) (cells : Name → ℕ → Value)
    (beside : Beside header s.world names.weaks values cells) where
  -- what a command leaves that changes no weak variable and no plain cell
  abbrev Same : List Entry → Reply → Scene → Type 0
  Same es what scene = Leaves z header s es r what scene names.weaks values cells

  -- no entry
  says : (what : Reply) → Says what piece r → Same piece what (scene_of s.world)
  says what (none, tells) = subst (λ (es : List Entry). Same es what (scene_of s.world)) (sym none) (record { told = tells; left = refl; calm = calm; table = known; beside = beside })

  -- an object joins or leaves the root set; a note before the store changes nothing of the world
  roots : (n : Name) (on was : Bool) (acts : List Act) → StoreEntries (act.Root n on was) acts → piece ≡ by (Lane lane) acts
      → r ≡ reply.WasRoot lane was → Same piece (reply.WasRoot lane (s.world.rooted n)) (with_root (scene_of s.world) (Some n) on)
  roots n on was acts (inl one) is tells =
      let may = (now z header s lane (act.Root n on was) piece acts one is legal).0.may in
      here z header s lane (act.Root n on was) piece acts one is (λ es. Same es (reply.WasRoot lane (s.world.rooted n)) (with_root (scene_of s.world) (Some n) on))
      (record { told = tells ∙ ap (reply.WasRoot lane) may.was; left = refl; calm = calm; table = known; beside = beside })
  roots n on was acts (inr noted) is tells =
      let entries = is ∙ ap (by (Lane lane)) noted.1 in
      let may = (subst (LegalFrom z s) entries legal).1.0.may in
      subst (λ (es : List Entry). Same es (reply.WasRoot lane (s.world.rooted n)) (with_root (scene_of s.world) (Some n) on)) (sym entries)
      (record { told = tells ∙ ap (reply.WasRoot lane) may.was; left = refl; calm = calm; table = known; beside = beside })

  root : (o : Option Name) (on : Bool) → OnObject lane o (λ n. Calls s lane (λ was. act.Root n on was) (λ was. reply.WasRoot lane was)) piece r
      → Same piece (root_reply (scene_of s.world) lane o) (with_root (scene_of s.world) o on)
  root None on h = says (reply.NoObject lane) h
  root (Some n) on (was, (acts, call, is), tells) = roots n on was acts call.0 is tells

  -- a store into a cell
  stores : (e : Element) (to old : Option Name) (acts : List Act) → StoreEntries (act.WriteRef e.at e.slot to old) acts → piece ≡ by (Lane lane) acts
      → r ≡ reply.Was lane old → Same piece (reply.Was lane (s.world.cell e.at e.slot)) (with_cell (scene_of s.world) to e)
  stores e to old acts (inl one) is tells =
      let may = (now z header s lane (act.WriteRef e.at e.slot to old) piece acts one is legal).0.may in
      here z header s lane (act.WriteRef e.at e.slot to old) piece acts one is (λ es. Same es (reply.Was lane (s.world.cell e.at e.slot)) (with_cell (scene_of s.world) to e))
      (record { told = tells ∙ ap (reply.Was lane) may.was; left = refl; calm = stored_calm z s.world e.at e.slot to calm may.place.in_range; table = known; beside = beside })
  stores e to old acts (inr noted) is tells =
      let entries = is ∙ ap (by (Lane lane)) noted.1 in
      let may = (subst (LegalFrom z s) entries legal).1.0.may in
      subst (λ (es : List Entry). Same es (reply.Was lane (s.world.cell e.at e.slot)) (with_cell (scene_of s.world) to e)) (sym entries)
      (record { told = tells ∙ ap (reply.Was lane) may.was; left = refl; calm = stored_calm z s.world e.at e.slot to calm may.place.in_range; table = known; beside = beside })

  set : (to : Option Name) (x : Result Element Reply) → OnElement x (λ e. Calls s lane (λ old. act.WriteRef e.at e.slot to old) (λ old. reply.Was lane old)) piece r
      → Same piece (on_element (λ e. reply.Was lane (s.world.cell e.at e.slot)) x) (where_element (scene_of s.world) (with_cell (scene_of s.world) to) x)
  set to (Err why) h = says why h
  set to (Ok e) (old, (acts, call, is), tells) = stores e to old acts call.0 is tells

  get : (x : Result Element Reply) → OnElement x (λ e. Calls s lane (λ got. act.ReadRef e.at e.slot got) (λ got. reply.Is lane got)) piece r
      → Same piece (on_element (λ e. reply.Is lane (s.world.cell e.at e.slot)) x) (scene_of s.world)
  get (Err why) h = says why h
  get (Ok e) (got, (acts, call, is), tells) =
      let may = (now z header s lane (act.ReadRef e.at e.slot got) piece acts call.0 is legal).0.may in
      here z header s lane (act.ReadRef e.at e.slot got) piece acts call.0 is (λ es. Same es (reply.Is lane (s.world.cell e.at e.slot)) (scene_of s.world))
      (record { told = tells ∙ ap (reply.Is lane) may.1; left = refl; calm = calm; table = known; beside = beside })

  -- the class of an object is known
  known_at : (n : Name) (k : Kind) → kind_at s.world.kinds n ≡ Some k → k.class.0 < length header.classes.classes
  known_at n k e = known n.lane (n.count - 1) k e

  abbrev seen : Seen
  seen = seen_of names values cells

  -- an element is the cell of a field of a kind that is wanted
  abbrev AreCells : (FieldKind → Bool) → Result Element Reply → Type 0
  AreCells wanted x = (e : Element) → x ≡ Ok e → IsCell header s.world.kinds e.at e.slot wanted

  -- what a command leaves that writes a value into a plain cell
  abbrev Puts : Value → Result Element Reply → List Entry → Reply → Type 0
  Puts v x es what =
      Leaves z header s es r what (scene_of s.world) names.weaks (where_element seen (with_plain seen v) x).names.weaks (where_element seen (with_plain seen v) x).plain

  puts : (value word : ℕ) (v : Value) (e : Element) (told : Reply) (acts : List Act) (old : ℕ) → acts ≡ act.WritePlain e.at e.slot word old ∷ [] → piece ≡ by (Lane lane) acts
      → Has header s.world.kinds s.world.pairs e.at e.slot word v → r ≡ told → Puts v (Ok e) piece told
  puts value word v e told acts old one is has tells =
      here z header s lane (act.WritePlain e.at e.slot word old) piece acts one is (λ es. Puts v (Ok e) es told)
      (record {
        told = tells;
        left = refl;
        calm = calm;
        table = known;
        beside = beside_plain header s.world.kinds s.world.pairs s.world.plain names.weaks values cells beside e.at e.slot word v has;
      })

  put : (value : ℕ) (x : Result Element Reply) → AreCells is_int x → OnElement x (λ e. Calls s lane (λ old. act.WritePlain e.at e.slot value old) (λ old. reply.WasNumber lane old)) piece r
      → Puts (Number value) x piece (on_element (λ e. reply.WasNumber lane (number_of (cells e.at e.slot))) x)
  put value (Err why) cell h = says why h
  put value (Ok e) cell (old, (acts, call, is), tells) =
      let may = (now z header s lane (act.WritePlain e.at e.slot value old) piece acts call.0 is legal).0.may in
      let told = number_told header s.world.kinds s.world.pairs e.at e.slot (s.world.plain e.at e.slot) (cells e.at e.slot) schema (known_at e.at) (cell e refl) (beside.cells_have e.at e.slot) in
      puts value value (Number value) e _ acts old call.0 is (refl, cell e refl) (tells ∙ ap (reply.WasNumber lane) (may.1 ∙ told))

  take : (x : Result Element Reply) → AreCells is_int x → OnElement x (λ e. Calls s lane (λ got. act.ReadPlain e.at e.slot got) (λ got. reply.IsNumber lane got)) piece r
      → Same piece (on_element (λ e. reply.IsNumber lane (number_of (cells e.at e.slot))) x) (scene_of s.world)
  take (Err why) cell h = says why h
  take (Ok e) cell (got, (acts, call, is), tells) =
      let may = (now z header s lane (act.ReadPlain e.at e.slot got) piece acts call.0 is legal).0.may in
      let told = number_told header s.world.kinds s.world.pairs e.at e.slot (s.world.plain e.at e.slot) (cells e.at e.slot) schema (known_at e.at) (cell e refl) (beside.cells_have e.at e.slot) in
      here z header s lane (act.ReadPlain e.at e.slot got) piece acts call.0 is (λ es. Same es (reply.IsNumber lane (number_of (cells e.at e.slot))) (scene_of s.world))
      (record { told = tells ∙ ap (reply.IsNumber lane) (may.1 ∙ told); left = refl; calm = calm; table = known; beside = beside })

  -- ---- weak pointers

  -- what a command leaves that gives a weak variable a pair
  abbrev Binds : ℕ → Weak → Value → Scene → List Entry → Reply → Type 0
  Binds i pair v scene es what = Leaves z header s es r what scene (set_at names.weaks i pair) (set_at values i v) cells

  -- an entry, or none, that leaves the world
  weak_bound_by : (i : ℕ) (pair : Weak) (v : Value) → Means s.world.pairs pair v → Beside header s.world (set_at names.weaks i pair) (set_at values i v) cells
  weak_bound_by i pair v m = beside_weak header s.world.kinds s.world.pairs s.world.plain names.weaks values cells beside i pair v m

  says_weak : (i : ℕ) (pair : Weak) (v : Value) (what : Reply) → Means s.world.pairs pair v → Says what piece r → Binds i pair v (scene_of s.world) piece what
  says_weak i pair v what m (none, tells) =
      subst (λ (es : List Entry). Binds i pair v (scene_of s.world) es what) (sym none)
      (record { told = tells; left = refl; calm = calm; table = known; beside = weak_bound_by i pair v m })

  -- the pair in a plain cell
  pair_here : (e : Element) → IsCell header s.world.kinds e.at e.slot is_weak → Means s.world.pairs (pair_in (s.world.plain e.at e.slot)) (pair_of (cells e.at e.slot))
  pair_here e cell =
      pair_told header s.world.kinds s.world.pairs e.at e.slot (s.world.plain e.at e.slot) (cells e.at e.slot) schema (known_at e.at) cell (beside.cells_have e.at e.slot)

  serial_here : (e : Element) → IsCell header s.world.kinds e.at e.slot is_weak → has_serial (pair_in (s.world.plain e.at e.slot)) ≡ is_pair (cells e.at e.slot)
  serial_here e cell = serial_told z lawful s.world points (pair_in (s.world.plain e.at e.slot)) (pair_of (cells e.at e.slot)) (pair_here e cell) ∙ is_pair_of (cells e.at e.slot)

  stored_means : (weak : Option ℕ) → Means s.world.pairs (stored no_pair names.weaks weak) (stored Nothing values weak)
  stored_means None = refl
  stored_means (Some weak) = beside.weaks_mean weak

  store : (weak : Option ℕ) (x : Result Element Reply) → AreCells is_weak x
      → OnElement x (λ e. Calls s lane (λ old. act.WritePlain e.at e.slot (weak_word (stored no_pair names.weaks weak)) old) (λ old. reply.WasWeak lane (has_serial (pair_in old)))) piece r
      → Puts (stored Nothing values weak) x piece (on_element (λ e. reply.WasWeak lane (is_pair (cells e.at e.slot))) x)
  store weak (Err why) cell h = says why h
  store weak (Ok e) cell (old, (acts, call, is), tells) =
      let pair : Weak = stored no_pair names.weaks weak in
      let may = (now z header s lane (act.WritePlain e.at e.slot (weak_word pair) old) piece acts call.0 is legal).0.may in
      let means = stored_means weak in
      let small = means_small s.world.pairs pair (stored Nothing values weak) calm.small means in
      puts 0 (weak_word pair) (stored Nothing values weak) e _ acts old call.0 is (has_word header s.world.kinds s.world.pairs e.at e.slot pair (stored Nothing values weak) small (cell e refl) means)
      (tells ∙ ap (λ (word : ℕ). reply.WasWeak lane (has_serial (pair_in word))) may.1 ∙ ap (reply.WasWeak lane) (serial_here e (cell e refl)))

  load : (i : ℕ) (pair : Weak) (x : Result Element Reply) → AreCells is_weak x → ReadsPair s lane x pair piece r
      → Binds i pair (pair_at seen x) (scene_of s.world) piece (on_element (λ e. reply.IsWeak lane (is_pair (cells e.at e.slot))) x)
  load i pair (Err why) cell (h, none) = says_weak i pair Nothing why none h
  load i pair (Ok e) cell (got, (acts, call, is), tells, same) =
      let may = (now z header s lane (act.ReadPlain e.at e.slot got) piece acts call.0 is legal).0.may in
      let here_is : pair ≡ pair_in (s.world.plain e.at e.slot) = same ∙ ap pair_in may.1 in
      let means = subst (λ (p : Weak). Means s.world.pairs p (pair_of (cells e.at e.slot))) (sym here_is) (pair_here e (cell e refl)) in
      here z header s lane (act.ReadPlain e.at e.slot got) piece acts call.0 is
      (λ es. Binds i pair (pair_of (cells e.at e.slot)) (scene_of s.world) es (reply.IsWeak lane (is_pair (cells e.at e.slot))))
      (record {
        told = tells ∙ ap (λ (p : Weak). reply.IsWeak lane (has_serial p)) here_is ∙ ap (reply.IsWeak lane) (serial_here e (cell e refl));
        left = refl;
        calm = calm;
        table = known;
        beside = weak_bound_by i pair (pair_of (cells e.at e.slot)) means;
      })

  -- a weak pointer is given
  abbrev c : Scene
  c = scene_of s.world

  abbrev Gives : ℕ → Weak → Option Name → List Entry → Type 0
  Gives i pair o es = Binds i pair (weak_given (weak_reply z c lane o)) (with_weak c lane (weak_reply z c lane o)) es (weak_reply z c lane o)

  -- where the reply is this, and these are left
  gives_by : (i : ℕ) (pair : Weak) (o : Option Name) (es : List Entry) (what : Reply) → weak_reply z c lane o ≡ what
      → Binds i pair (weak_given what) (with_weak c lane what) es what → Gives i pair o es
  gives_by i pair o es what is h = subst (λ (q : Reply). Binds i pair (weak_given q) (with_weak c lane q) es q) (sym is) h

  -- to an object that has one
  gives_old : (i : ℕ) (n : Name) (pair own : Weak) → world.pair_of s.world n ≡ Some own → pair ≡ own → r ≡ reply.WeakMade lane n
      → Gives i pair (Some n) (record { pass = Lane lane; act = act.WeakOf n pair } ∷ [])
  gives_old i n pair own e same tells =
      let t : c.paired n ≡ true = ap is_some e in
      let es : List Entry = record { pass = Lane lane; act = act.WeakOf n pair } ∷ [] in
      let w : World = s.world in
      let left : (run s es).world ≡ w = ap (λ (b : Bool). record w { pairs = if b then w.pairs else w.pairs ++ record { weak = pair; name = n; lane = lane } ∷ [] }) t in
      let found = pair_found w n own e in
      let means : Means w.pairs pair (Own n) = (found.0, found.1, found.2, found.3 ∙ sym same) in
      gives_by i pair (Some n) es (reply.WeakMade lane n) (rw t refl)
      (record {
        told = tells;
        left = ap scene_of left ∙ ap (λ (b : Bool). if b then c else with_pair c lane n) (sym t);
        calm = subst (IsCalm z) (sym left) calm;
        table = known;
        beside = subst (λ (v : World). Beside header v (set_at names.weaks i pair) (set_at values i (Own n)) cells) (sym left) (weak_bound_by i pair (Own n) means);
      })

  -- to one that has none: the lane draws a serial
  gives_new : (i : ℕ) (n : Name) (pair : Weak) → world.pair_of s.world n ≡ None → DrawsPair z s.world lane pair → r ≡ reply.WeakMade lane n
      → Gives i pair (Some n) (record { pass = Lane lane; act = act.WeakOf n pair } ∷ [])
  gives_new i n pair e draws tells =
      let t : c.paired n ≡ false = ap is_some e in
      let lt : nat_lt (c.drawn lane) z.serials ≡ true = grind (arith, nat_tests, draws.left) in
      let es : List Entry = record { pass = Lane lane; act = act.WeakOf n pair } ∷ [] in
      let w : World = s.world in
      let q : Pair = record { weak = pair; name = n; lane = lane } in
      let more : List Pair = w.pairs ++ q ∷ [] in
      let left : (run s es).world ≡ record w { pairs = more } = ap (λ (b : Bool). record w { pairs = if b then w.pairs else more }) t in
      let scene : scene_of (record w { pairs = more }) ≡ with_pair c lane n =
      λ k.
      record {
        kinds = w.kinds;
        cell = w.cell;
        units = w.units;
        rooted = w.rooted;
        strong = w.strong;
        paired = λ m. paired_more w.pairs q m k;
        drawn = λ l. drawn_more w.pairs q l k;
        opened = w.opened;
      } in
      let few : item_count z ≤ 1048576 = lawful.few_items in
      let small : (p : Pair) → Among more p → p.weak.index < 4294967296 = λ p k. small_more w.pairs q p calm.small (omega (arith, draws.index, few)) (among_append w.pairs (q ∷ []) p k) in
      let grown = beside_more header w.kinds w.pairs w.plain names.weaks values cells beside w.kinds more (λ m k e. e) (λ p k. among_left w.pairs (q ∷ []) p k) in
      let bound_now = beside_weak header w.kinds more w.plain names.weaks values cells grown i pair (Own n) (q, among_right w.pairs (q ∷ []) q (inl refl), refl, refl) in
      gives_by i pair (Some n) es (reply.WeakMade lane n) (rw (t, lt) refl)
      (record {
        told = tells;
        left = ap scene_of left ∙ scene ∙ ap (λ (b : Bool). if b then c else with_pair c lane n) (sym t);
        calm = subst (IsCalm z) (sym left)
            (record { idle = calm.idle; released = calm.released; cells = calm.cells; pointers = calm.pointers; fits = calm.fits; valid = calm.valid; small = small });
        table = known;
        beside = subst (λ (v : World). Beside header v (set_at names.weaks i pair) (set_at values i (Own n)) cells) (sym left) bound_now;
      })
    where
      small_more : (pairs : List Pair) (q p : Pair) → ((x : Pair) → Among pairs x → x.weak.index < 4294967296) → q.weak.index < 4294967296
          → Among pairs p ⊎ Among (q ∷ []) p → p.weak.index < 4294967296
      small_more pairs q p old new (inl k) = old p k
      small_more pairs q p old new (inr (inl same)) = subst (λ (x : Pair). x.weak.index < 4294967296) same new
      small_more pairs q p old new (inr (inr none)) = absurd none

  gives_some : (i : ℕ) (n : Name) (pair : Weak) (o : Option Weak) → world.pair_of s.world n ≡ o → MatchOption o (DrawsPair z s.world lane pair) (λ own. pair ≡ own)
      → r ≡ reply.WeakMade lane n → Gives i pair (Some n) (record { pass = Lane lane; act = act.WeakOf n pair } ∷ [])
  gives_some i n pair None e draws tells = gives_new i n pair e draws tells
  gives_some i n pair (Some own) e same tells = gives_old i n pair own e same tells

  -- it is refused
  gives_none : (i : ℕ) (n : Name) (pair : Weak) (count : ℕ) (acts : List Act) → acts ≡ act.NoSerial n count ∷ [] → piece ≡ by (Lane lane) acts → r ≡ reply.SerialsSpent lane count
      → pair ≡ no_pair → Gives i pair (Some n) piece
  gives_none i n pair count acts one is tells none =
      let may = (now z header s lane (act.NoSerial n count) piece acts one is legal).0.may in
      let t : c.paired n ≡ false = ap is_some may.none in
      let all : c.drawn lane ≡ z.serials = sym may.all ∙ may.spent in
      let lt : nat_lt (c.drawn lane) z.serials ≡ false = grind (arith, nat_tests, all) in
      here z header s lane (act.NoSerial n count) piece acts one is (Gives i pair (Some n))
      (gives_by i pair (Some n) _ (reply.SerialsSpent lane (c.drawn lane)) (rw (t, lt) refl)
      (record { told = tells ∙ ap (reply.SerialsSpent lane) may.all; left = refl; calm = calm; table = known; beside = weak_bound_by i pair Nothing none }))

  gives : (i : ℕ) (pair : Weak) (o : Option Name) → GivesPair s lane o pair piece r → Gives i pair o piece
  gives i pair None (h, none) = says_weak i pair Nothing (reply.NoObject lane) none h
  gives i pair (Some n) (inl ((acts, call, is), tells)) =
      let may = (now z header s lane (act.WeakOf n pair) piece acts call.0 is legal).0.may in
      here z header s lane (act.WeakOf n pair) piece acts call.0 is (Gives i pair (Some n)) (gives_some i n pair (world.pair_of s.world n) refl may.pair tells)
  gives i pair (Some n) (inr ((count, (acts, call, is), tells), none)) = gives_none i n pair count acts call.0 is tells none

  resolve : (weak : ℕ) → Calls s lane (λ got. act.Resolve (names.weaks weak) got) (λ got. reply.Is lane got) piece r → Same piece (reply.Is lane (given c (values weak))) c
  resolve weak (got, (acts, call, is), tells) =
      let may = (now z header s lane (act.Resolve (names.weaks weak) got) piece acts call.0 is legal).0.may in
      let told = given_told z lawful s.world points calm.valid (names.weaks weak) (values weak) (beside.weaks_mean weak) in
      here z header s lane (act.Resolve (names.weaks weak) got) piece acts call.0 is (λ es. Same es (reply.Is lane (given c (values weak))) c)
      (record { told = tells ∙ ap (reply.Is lane) (may ∙ told); left = refl; calm = calm; table = known; beside = beside })

  same : (left right : ℕ) → Says (reply.Same lane (same_weak (names.weaks left) (names.weaks right))) piece r → Same piece (reply.Same lane (same_value (values left) (values right))) c
  same left right (none, tells) =
      let told = same_told z lawful s.world points (names.weaks left) (names.weaks right) (values left) (values right) (beside.weaks_mean left) (beside.weaks_mean right) in
      says (reply.Same lane (same_value (values left) (values right))) (none, tells ∙ ap (reply.Same lane) told)

  -- ---- strong pointers

  holds : (h : ℕ) (to old : Option Name) (acts : List Act) → StoreEntries (act.SetStrong h to old) acts → piece ≡ by (Lane lane) acts
      → r ≡ reply.Was lane old → Same piece (reply.Was lane (s.world.strong lane h)) (with_strong c lane h to)
  holds h to old acts (inl one) is tells =
      let step = (now z header s lane (act.SetStrong h to old) piece acts one is legal).0 in
      here z header s lane (act.SetStrong h to old) piece acts one is (λ es. Same es (reply.Was lane (s.world.strong lane h)) (with_strong c lane h to))
      (record { told = tells ∙ ap (reply.Was lane) step.may.was; left = refl; calm = strong_calm z s.world lane h to calm step.in_range step.may.number; table = known; beside = beside })
  holds h to old acts (inr noted) is tells =
      let entries = is ∙ ap (by (Lane lane)) noted.1 in
      let step = (subst (LegalFrom z s) entries legal).1.0 in
      subst (λ (es : List Entry). Same es (reply.Was lane (s.world.strong lane h)) (with_strong c lane h to)) (sym entries)
      (record { told = tells ∙ ap (reply.Was lane) step.may.was; left = refl; calm = strong_calm z s.world lane h to calm step.in_range step.may.number; table = known; beside = beside })

  held : (h : ℕ) → Calls s lane (λ got. act.GetStrong h got) (λ got. reply.Is lane got) piece r → Same piece (reply.Is lane (s.world.strong lane h)) c
  held h (got, (acts, call, is), tells) =
      let may = (now z header s lane (act.GetStrong h got) piece acts call.0 is legal).0.may in
      here z header s lane (act.GetStrong h got) piece acts call.0 is (λ es. Same es (reply.Is lane (s.world.strong lane h)) c)
      (record { told = tells ∙ ap (reply.Is lane) may.1; left = refl; calm = calm; table = known; beside = beside })

  opens : (phase : Phase) (acts : List Act) → acts ≡ act.FrameOpen phase ∷ [] → piece ≡ by (Lane lane) acts → r ≡ reply.Opened lane phase
      → Same piece (reply.Opened lane Idle) (record (scene_of s.world) { opened = Lane lane ∷ s.world.opened })
  opens phase acts one is tells =
      let idle : phase ≡ Idle = (now z header s lane (act.FrameOpen phase) piece acts one is legal).0.may ∙ calm.idle in
      here z header s lane (act.FrameOpen phase) piece acts one is (λ es. Same es (reply.Opened lane Idle) (record (scene_of s.world) { opened = Lane lane ∷ s.world.opened }))
      (record { told = tells ∙ ap (reply.Opened lane) idle; left = refl; calm = calm; table = known; beside = beside })

  closes : (acts : List Act) → acts ≡ act.FrameClose ∷ [] → piece ≡ by (Lane lane) acts → r ≡ reply.Closed lane
      → Same piece (reply.Closed lane)
      (record (scene_of s.world) { opened = filter (λ q. not (same_pass (Lane lane) q)) s.world.opened })
  closes acts one is tells =
      here z header s lane act.FrameClose piece acts one is
      (λ es.
      Same es (reply.Closed lane)
      (record (scene_of s.world) { opened = filter (λ q. not (same_pass (Lane lane) q)) s.world.opened }))
      (record { told = tells; left = refl; calm = calm; table = known; beside = beside })

-- ---- the commands of a lane

-- the variables are these, and the rest is as the command leaves it
tells_of : (z : Sizes) (header : Header) (s : State) (names new by_names : Bindings) (values : ℕ → Value) (cells : Name → ℕ → Value) (what : Cmd) (piece : List Entry) (r : Reply) → new ≡ by_names
    → by_names.objects ≡ (said_of z header s names values cells what).seen.names.objects
    → Leaves z header s piece r (said_of z header s names values cells what).reply (said_of z header s names values cells what).scene
    by_names.weaks (said_of z header s names values cells what).seen.names.weaks (said_of z header s names values cells what).seen.plain
    → Tells z header s names new values cells what piece r
tells_of z header s names new by_names values cells what piece r same objects h = record {
  told = h.told;
  left = h.left;
  objects = ap (λ (n : Bindings). n.objects) same ∙ objects;
  calm = h.calm;
  table = h.table;
  beside =
      let told : Told = said_of z header s names values cells what in
      subst (λ (n : Bindings). Beside header (run s piece).world n.weaks told.seen.names.weaks told.seen.plain) (sym same) h.beside;
}

-- a store into a plain cell leaves the objects of the variables
plain_objects : (before : Seen) (v : Value) (x : Result Element Reply) → before.names.objects ≡ (where_element before (with_plain before v) x).names.objects
plain_objects before v (Ok e) = refl
plain_objects before v (Err r) = refl

-- a variable is bound to what the reply gives
objects_bound : (names : Bindings) (lane var : ℕ) (r what : Reply) → r ≡ what → (bound names lane var (object_of r)).objects ≡ (bound names lane var (object_of what)).objects
objects_bound names lane var r what told = ap (λ (q : Reply). (bound names lane var (object_of q)).objects) told

module _ (z : Sizes) (header : Header) (s : State) (names new : Bindings) (values : ℕ → Value) (cells : Name → ℕ → Value) (lane : ℕ) (piece : List Entry) (r : Reply)
    (calm : IsCalm z s.world) (known : AreKnown header s.world) (legal : LegalFrom z s piece) (lawful : IsLawful z) (schema : IsSchema header.classes) (points : Points z s.world)
    (beside : Beside header s.world names.weaks values cells) where
  abbrev Own_objects : ℕ → Option Name
  Own_objects = names.objects lane

  tells_lane : (what : LaneCmd) → LaneClass header what → LaneTurn header s names lane what piece r new → Tells z header s names new values cells (cmd.Lane lane what) piece r
  tells_lane lane_cmd.Open has ((phase, (acts, call, is), tells), same) =
      tells_of z header s names new names values cells _ piece r same refl
      (opens z header s lane piece r calm known legal lawful schema points names values cells beside phase acts call.0 is tells)
  tells_lane lane_cmd.Close has ((acts, call, is), tells, same) =
      tells_of z header s names new (ended names lane) values cells _ piece r same refl
      (closes z header s lane piece r calm known legal lawful schema points names values cells beside acts call.0 is tells)
  tells_lane (lane_cmd.New var class) has (h, same) =
      let leaves =
      makes z header s lane (kind_of header.classes class ∷ []) 1 refl (reply.New lane) piece r names.weaks values cells beside (one_kind header class has) calm known legal (λ n. refl) h
      in
      tells_of z header s names new (bound names lane var (object_of r)) values cells _ piece r same (objects_bound names lane var r _ leaves.told) leaves
  tells_lane (lane_cmd.Cluster members) has (h, same) =
      let told : Name → Reply = λ first. reply.Cluster lane first (length members) in
      let leaves = makes z header s lane (kinds_of header members) (length members) (sym (length-map members (λ (m : Member). kind_of header.classes m.class))) told piece r names.weaks values cells beside (members_kinds header members has) calm known legal (λ n. refl) h in
      let what : Reply = make_reply z (scene_of s.world) lane (length members) told in
      let seen : Seen = seen_of names values cells in
      let scene : Scene = with_unit (scene_of s.world) lane (kinds_of header members) what in
      tells_of z header s names new (members_bound names lane members (object_of r)) values cells (cmd.Lane lane (lane_cmd.Cluster members)) piece r same
      (ap (λ (q : Reply). (members_bound names lane members (object_of q)).objects) leaves.told ∙ members_objects names seen.names lane members (object_of what) refl)
      (subst (λ (v : ℕ → Value). Leaves z header s piece r what scene (members_bound names lane members (object_of r)).weaks v cells)
      (sym (members_weaks seen.names lane members (object_of what)))
      (subst (λ (w : ℕ → Weak). Leaves z header s piece r what scene w values cells) (sym (members_weaks names lane members (object_of r))) leaves))
  tells_lane (lane_cmd.Root var on) has (h, same) =
      tells_of z header s names new names values cells _ piece r same refl
      (root z header s lane piece r calm known legal lawful schema points names values cells beside (Own_objects var) on h)
  tells_lane (lane_cmd.Set spot to) has (h, same) =
      tells_of z header s names new names values cells _ piece r same refl
      (set z header s lane piece r calm known legal lawful schema points names values cells beside (value_of Own_objects to)
      (set_spot header s.world.kinds lane Own_objects spot to) h)
  tells_lane (lane_cmd.Get var spot) has (h, same) =
      let leaves = get z header s lane piece r calm known legal lawful schema points names values cells beside (get_spot header s.world.kinds lane Own_objects spot) h in
      tells_of z header s names new (bound names lane var (object_of r)) values cells _ piece r same (objects_bound names lane var r _ leaves.told) leaves
  tells_lane (lane_cmd.Put spot value) has (h, same) =
      let x = int_spot header s.world.kinds lane Own_objects spot in
      tells_of z header s names new names values cells _ piece r same (plain_objects (seen_of names values cells) (Number value) x)
      (put z header s lane piece r calm known legal lawful schema points names values cells beside value x
      (λ e is. cell_of header s.world.kinds lane is_int (Own_objects spot.var) spot e is) h)
  tells_lane (lane_cmd.Take spot) has (h, same) =
      tells_of z header s names new names values cells _ piece r same refl
      (take z header s lane piece r calm known legal lawful schema points names values cells beside (int_spot header s.world.kinds lane Own_objects spot)
      (λ e is. cell_of header s.world.kinds lane is_int (Own_objects spot.var) spot e is) h)
  tells_lane (lane_cmd.Print var) has (h, same) =
      tells_of z header s names new names values cells _ piece r same refl
      (says z header s lane piece r calm known legal lawful schema points names values cells beside (told_object s.world.kinds lane (Own_objects var)) h)
  tells_lane (lane_cmd.Store spot weak) has (h, same) =
      let x = weak_spot header s.world.kinds lane Own_objects spot in
      tells_of z header s names new names values cells _ piece r same (plain_objects (seen_of names values cells) (stored Nothing values weak) x)
      (store z header s lane piece r calm known legal lawful schema points names values cells beside weak x
      (λ e is. cell_of header s.world.kinds lane is_weak (Own_objects spot.var) spot e is) h)
  tells_lane (lane_cmd.Load weak spot) has (pair, h, same) =
      tells_of z header s names new (weak_bound names weak pair) values cells _ piece r same refl
      (load z header s lane piece r calm known legal lawful schema points names values cells beside weak pair (weak_spot header s.world.kinds lane Own_objects spot)
      (λ e is. cell_of header s.world.kinds lane is_weak (Own_objects spot.var) spot e is) h)
  tells_lane (lane_cmd.Hold h to) has ((old, (acts, call, is), tells), same) =
      tells_of z header s names new names values cells _ piece r same refl
      (holds z header s lane piece r calm known legal lawful schema points names values cells beside h (value_of Own_objects to) old acts call.0 is tells)
  tells_lane (lane_cmd.Held var h) has (call, same) =
      let leaves = held z header s lane piece r calm known legal lawful schema points names values cells beside h call in
      tells_of z header s names new (bound names lane var (object_of r)) values cells _ piece r same (objects_bound names lane var r _ leaves.told) leaves
  tells_lane (lane_cmd.Weak weak var) has (pair, h, same) =
      tells_of z header s names new (weak_bound names weak pair) values cells _ piece r same refl
      (gives z header s lane piece r calm known legal lawful schema points names values cells beside weak pair (Own_objects var) h)
  tells_lane (lane_cmd.Resolve var weak) has (call, same) =
      let leaves = resolve z header s lane piece r calm known legal lawful schema points names values cells beside weak call in
      tells_of z header s names new (bound names lane var (object_of r)) values cells _ piece r same (objects_bound names lane var r _ leaves.told) leaves
  tells_lane (lane_cmd.Forge weak index) has (h, same) =
      tells_of z header s names new (weak_bound names weak (forged index)) values cells _ piece r same refl
      (says_weak z header s lane piece r calm known legal lawful schema points names values cells beside weak (forged index) (Forged (index % 4294967296)) (reply.Forged lane)
      (refl, (let small : index % 4294967296 < 4294967296 = omega arith in small)) h)
  tells_lane (lane_cmd.Same left right) has (h, eq) =
      tells_of z header s names new names values cells _ piece r eq refl (same z header s lane piece r calm known legal lawful schema points names values cells beside left right h)

-- ---- a collection that does not begin

pending : (opened : List Pass) (gone : List Name) → 0 < length opened → reply.Pending (length opened) ≡ collection opened gone
pending [] gone some = absurd (omega arith)
pending (p ∷ opened) gone some = refl

refused : (z : Sizes) (header : Header) (s : State) (why : Begin) (piece : List Entry) (r : Reply) (weaks : ℕ → Weak) (values : ℕ → Value) (cells : Name → ℕ → Value)
    → Beside header s.world weaks values cells → IsCalm z s.world → AreKnown header s.world → LegalFrom z s piece
    → OneCall s Collector (act.BeginGc why) piece → RefusesBegin why r
    → Leaves z header s piece r (full_reply z (scene_of s.world)) (with_collection z (scene_of s.world) (full_reply z (scene_of s.world))) weaks values cells
refused z header s begin.Started piece r weaks values cells beside calm known legal h tells = absurd tells
refused z header s (begin.Running phase) piece r weaks values cells beside calm known legal h tells =
    let may = (subst (LegalFrom z s) (h.2 ∙ ap (by Collector) h.1.0) legal).0.may in
    absurd (may.1 (may.0 ∙ calm.idle))
refused z header s (begin.Purging left) piece r weaks values cells beside calm known legal h tells =
    let may = (subst (LegalFrom z s) (h.2 ∙ ap (by Collector) h.1.0) legal).0.may in
    let nothing : length s.world.removals ≡ 0 = ap length calm.released in
    absurd (omega (arith, may.1, may.2, nothing))
refused z header s (begin.Frames n) piece r weaks values cells beside calm known legal h tells =
    let c : Scene = scene_of s.world in
    let entries : piece ≡ record { pass = Collector; act = act.BeginGc (begin.Frames n) } ∷ [] = h.2 ∙ ap (by Collector) h.1.0 in
    let may = (subst (LegalFrom z s) entries legal).0.may in
    let answer : reply.Pending n ≡ full_reply z c = ap reply.Pending may.1.0 ∙ pending s.world.opened (unreached z c) (omega (arith, may.1.0, may.1.1)) in
    subst (λ (es : List Entry). Leaves z header s es r (full_reply z c) (with_collection z c (full_reply z c)) weaks values cells) (sym entries)
    (record { told = tells ∙ answer; left = ap (with_collection z c) answer; calm = calm; table = known; beside = beside })

-- ---- a whole collection

collected_reply : (z : Sizes) (w new : World) → HasCollected z w new → told_full new ≡ full_reply z (scene_of w)
collected_reply z w new h =
    let gone : List Name = unreached z (scene_of w) in
    let order = same_order new.found gone h.found h.gone h.same in
    let left : left_of new ≡ 0 = ap (λ (phase : Phase). left_in phase new) h.calm.idle ∙ ap length h.calm.released in
    let none : collection w.opened gone ≡ collection [] gone = rw h.closed refl in
    (λ i. reply.FullGc (order.1 i) (left i) (order.0 i)) ∙ sym none

collects : (z : Sizes) (budget : ℕ) (header : Header) (old piece : List Entry) (r : Reply) (weaks : ℕ → Weak) (values : ℕ → Value) (cells : Name → ℕ → Value)
    → Beside header (after old) weaks values cells → 0 < length header.classes.classes
    → AllByRecursion IsAtOnce header.classes.classes → Legal z old → IsCalm z (after old) → AreKnown header (after old)
    → LegalFrom z (state_of old) piece
    → Collected budget header (state_of old) piece → r ≡ told_full (run (state_of old) piece).world
    → Leaves z header (state_of old) piece r (full_reply z (scene_of (after old)))
    (with_collection z (scene_of (after old)) (full_reply z (scene_of (after old)))) weaks values cells
collects z budget header old piece r weaks values cells beside some at_once before calm known legal h tells =
    let c : Scene = scene_of (after old) in
    let new : World = (run (state_of old) piece).world in
    let all = has_collected z budget header old piece before calm (in_table header (after old) some at_once known) legal h in
    let told : told_full new ≡ full_reply z c = collected_reply z (after old) new all in
    record {
      told = tells ∙ told;
      left = all.scene ∙ ap (with_collection z c) told;
      calm = all.calm;
      table = subst (λ (kinds : ℕ → List Kind). (l i : ℕ) (k : Kind) → slice_get (kinds l) i ≡ Some k → k.class.0 < length header.classes.classes) (sym (ap (λ (c : Scene). c.kinds) all.scene)) known;
      beside =
          subst (λ (kinds : ℕ → List Kind). IsBeside header kinds new.pairs new.plain weaks values cells) (sym (ap (λ (c : Scene). c.kinds) all.scene))
          (subst (λ (pairs : List Pair). IsBeside header (after old).kinds pairs new.plain weaks values cells) (sym all.pairs)
          (subst (λ (plain : Name → ℕ → ℕ). IsBeside header (after old).kinds (after old).pairs plain weaks values cells) (sym all.plain) beside));
    }

-- ---- line after line

tells_gc : (z : Sizes) (budget : ℕ) (header : Header) (old : List Entry) (s : State) (names new : Bindings)
    (values : ℕ → Value) (cells : Name → ℕ → Value) (what : GcCmd) (piece : List Entry) (r : Reply)
    → 0 < length header.classes.classes → AllByRecursion IsAtOnce header.classes.classes → state_of old ≡ s → Legal z old → IsCalm z s.world
    → AreKnown header s.world → Beside header s.world names.weaks values cells → LegalFrom z s piece → GcTurn budget header s what piece r → new ≡ names
    → Tells z header s names new values cells (cmd.Gc what) piece r
tells_gc z budget header old s names new values cells gc_cmd.Full piece r some at_once is before calm known beside legal (inl (why, call, tells)) same =
    tells_of z header s names new names values cells _ piece r same refl (refused z header s why piece r names.weaks values cells beside calm known legal call tells)
tells_gc z budget header old s names new values cells gc_cmd.Full piece r some at_once is before calm known beside legal (inr (h, tells)) same =
    tells_of z header s names new names values cells _ piece r same refl
    (subst
    (λ (t : State). Beside header t.world names.weaks values cells → IsCalm z t.world → AreKnown header t.world → LegalFrom z t piece → Collected budget header t piece
    → r ≡ told_full (run t piece).world
    → Leaves z header t piece r (full_reply z (scene_of t.world)) (with_collection z (scene_of t.world) (full_reply z (scene_of t.world))) names.weaks values cells) is
    (λ beside. collects z budget header old piece r names.weaks values cells beside some at_once before) beside calm known legal h tells)

-- a line tells and leaves what the outcome says
pub tells : (z : Sizes) (budget : ℕ) (header : Header) (old : List Entry) (s : State) (names new : Bindings)
    (values : ℕ → Value) (cells : Name → ℕ → Value) (what : Cmd) (piece : List Entry) (r : Reply)
    → IsLawful z → IsSchema header.classes → AllByRecursion IsAtOnce header.classes.classes → HasClass header what → state_of old ≡ s → Legal z old
    → IsCalm z s.world → AreKnown header s.world → Beside header s.world names.weaks values cells → LegalFrom z s piece → TurnBy budget header s names what piece r new
    → Tells z header s names new values cells what piece r
tells z budget header old s names new values cells (cmd.Lane lane what) piece r lawful schema at_once has is before calm known beside legal h =
    tells_lane z header s names new values cells lane piece r calm known legal lawful schema (subst (λ (t : State). Points z t.world) is (points z lawful old before)) beside what has h
tells z budget header old s names new values cells (cmd.Gc what) piece r lawful schema at_once has is before calm known beside legal h =
    tells_gc z budget header old s names new values cells what piece r schema.some at_once is before calm known beside legal h.0 h.1

lines_tell : (z : Sizes) (budget : ℕ) (header : Header) (old : List Entry) (s : State) (names : Bindings) (values : ℕ → Value) (cells : Name → ℕ → Value)
    (lines : List Line) (pieces : List (List Entry)) (replies : List Reply) (last : Bindings)
    → IsLawful z → IsSchema header.classes → AllByRecursion IsAtOnce header.classes.classes → AllByRecursion (λ l. HasClass header l.cmd) lines
    → state_of old ≡ s → Legal z old → IsCalm z s.world → AreKnown header s.world → Beside header s.world names.weaks values cells
    → LegalFrom z s (entries_of pieces) → Plays budget header s names lines pieces replies last
    → replies ≡ replies_from z header (scene_of s.world) (seen_of names values cells) lines
unfolding Plays replies_from
lines_tell z budget header old s names values cells [] [] [] last lawful schema at_once has is before calm known beside legal plays = refl
lines_tell z budget header old s names values cells (l ∷ ls) (p ∷ ps) (r ∷ rs) last lawful schema at_once has is before calm known beside legal (mid, turn, plays) =
    let parts = legal_split z s p (entries_of ps) legal in
    let told : Told = said_of z header s names values cells l.cmd in
    let one = tells z budget header old s names mid values cells l.cmd p r lawful schema at_once has.0 is before calm known beside parts.0 turn in
    let joined : Legal z (old ++ p) = legal_join z beginning old p before (subst (λ (t : State). LegalFrom z t p) (sym is) parts.0) in
    let state : state_of (old ++ p) ≡ run s p = run-append beginning old p ∙ ap (λ (t : State). run t p) is in
    let rest : rs ≡ replies_from z header (scene_of (run s p).world) (seen_of mid told.seen.names.weaks told.seen.plain) ls =
    lines_tell z budget header (old ++ p) (run s p) mid told.seen.names.weaks told.seen.plain ls ps rs last lawful schema at_once has.1 state joined one.calm one.table one.beside parts.1 plays in
    let seen : seen_of mid told.seen.names.weaks told.seen.plain ≡ told.seen =
    λ i. record { names = record { objects = one.objects i; weaks = told.seen.names.weaks }; plain = told.seen.plain } in
    let more : rs ≡ replies_from z header told.scene told.seen ls = rest ∙ (λ i. replies_from z header (one.left i) (seen i) ls) in
    λ i. one.told i ∷ more i
lines_tell z budget header old s names values cells [] [] (r ∷ replies) last lawful schema at_once has is before calm known beside legal plays = absurd plays
lines_tell z budget header old s names values cells [] (p ∷ pieces) replies last lawful schema at_once has is before calm known beside legal plays = absurd plays
lines_tell z budget header old s names values cells (l ∷ ls) [] replies last lawful schema at_once has is before calm known beside legal plays = absurd plays
lines_tell z budget header old s names values cells (l ∷ ls) (p ∷ ps) [] last lawful schema at_once has is before calm known beside legal plays = absurd plays

pub one_text_holds : OneText
one_text_holds z budget header lines pieces replies last lawful schema at_once has legal plays =
    let calm : IsCalm z (after []) = record {
      idle = refl;
      released = refl;
      cells = λ n slot high. refl;
      pointers = λ lane number out. refl;
      fits = λ lane i k e. absurd cc;
      valid = λ n. refl;
      small = λ p k. absurd k;
    } in
    let known : AreKnown header (after []) = λ lane i k e. absurd cc in
    let beside : Beside header (after []) no_bindings.weaks (λ weak. Nothing) (λ n slot. Nothing) = record { weaks_mean = λ weak. refl; cells_have = λ n slot. refl } in
    ap (text header.classes.classes)
    (lines_tell z budget header [] beginning no_bindings (λ weak. Nothing) (λ n slot. Nothing) lines pieces replies last lawful schema at_once has refl tt calm known beside legal plays)
