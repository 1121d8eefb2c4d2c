-- A unit is taken apart by one call.
use Rattle.std.proofs.Common.{◌≡◌, ◌≢◌, ℕ, ◌-◌, ◌<◌, ◌≤◌, suc, refl, sym, subst, subst₂, ap, ◌∙◌, arith, true, List, [], ◌∷◌, ◌++◌, map, length, append_assoc, append-nil, get_or, Option, Some, IsSome, is_some}
use Rattle.std.proofs.Math.ListN.{set}
use Rattle.std.proofs.lemmas.List.{map-append}
use Rattle.world_model.specs.Sizes.{Sizes, item_count}
use Rattle.world_model.specs.NameLists.{has, ends_with, but_last}
use Rattle.world_model.specs.World.{unit_of}
use Rattle.world_model.specs.State.{State}
use Rattle.world_model.specs.Next.{next}
use Rattle.world_model.specs.Histories.{May, Legal, after, state_of}
use Rattle.world_model.specs.Engines.{IsInFrame}
use Rattle.world_model.specs.Calls.{by, Appends}
use Rattle.world_model.specs.Follows.{MayAsk}
use Rattle.world_model.specs.Midway.{IsMidway}
use Rattle.world_model.proofs.Joins.{histories_join, by-append}
use Rattle.world_model.proofs.Inductions.{one_more}
use Rattle.world_model.proofs.Loosening.{ends_some}
use Rattle.world_model.proofs.Dissolving.{none_loosened}
use Rattle.world_model.proofs.Answering.{starts_midway, last_of, leaves, midway1, ready_closes}
use Rattle.heap_plain.specs.Types.{Name, Ref, Lane, Marking, Entry}
use Rattle.heap_plain.specs.Types.act
use Rattle.heap_plain.specs.Parts.{Parts, Objects, Shown, Holds, name_at, first_at}
use Rattle.heap_plain.specs.Filling.{Filled}
use Rattle.heap_plain.specs.Listing.{chained}
use Rattle.heap_plain.specs.Units.{UnitsShow, StandsAt}
use Rattle.heap_plain.specs.Destroying.{GoneShow}
use Rattle.heap_plain.specs.Plain.{Shows, IsPlain}
use Rattle.heap_plain.specs.Parting.{IsParting}
use Rattle.heap_plain.proofs.Counting.{occupied_next}
use Rattle.heap_plain.proofs.Fillings.{from_start}
use Rattle.heap_plain.proofs.Resting.{in_open, rests, keeps}
use Rattle.heap_plain.proofs.Entries.{Done, does}
use Rattle.heap_plain.proofs.Listings.{linked_member}
use Rattle.heap_plain.proofs.Restaging.{free_lives}
use Rattle.heap_plain.proofs.Standing.{member_at, name_below}
use Rattle.heap_plain.proofs.PartSteps.{named_last, front_size, units_left, gone_left, stands_front}
use Rattle.heap_plain.proofs.RootSteps as root

-- ---- the start

module _ {z : Sizes} {p : Parts} {h : List Entry} {l : ℕ} {at : Ref} (was : IsPlain z p h) (frame : IsInFrame z h l)
    (held : Holds record { history = h; names = p.names } l at) (own : at.name.lane ≡ l) where
  abbrev s : Shows z p (state_of h)
  s = was.shows

  abbrev head : ℕ
  head = first_at p.firsts at.index

  abbrev count : ℕ
  count = get_or p.sizes head 0

  abbrev u : List Name
  u = root.u was frame held

  stands : StandsAt p.objects (after h).units head u
  stands = root.stands was frame held

  pub room : count ≤ 1024
  room = s.units.small head

  module _ (unmarked : p.phase ≢ Marking) (old members : List ℕ) (listed : Filled old members 0 count (chained p.next head)) (enough : count ≤ length old) where
    pub starts : IsParting z (record { history = h; names = p.names }) l at.name head count count members p h
    starts =
        let unit_is = root.unit_is was frame held in
        let ask : MayAsk (state_of h) l at.name = record { held = held.given; own = own; none_owed = was.rest.between.paid l; none_broken = was.rest.between.whole l } in
        record {
          rest = was.rest;
          of = [];
          grown = sym (append-nil h);
          legal = was.legal;
          shows = s;
          front = u;
          stands = stands;
          midway = subst (λ (v : List Name). IsMidway z (state_of h) l (unit_of (after h) at.name) v) unit_is (starts_midway z h l at.name was.legal frame.in_range ask (λ e. unmarked (s.phase ∙ e)));
          counted = stands.size ∙ ap (λ (v : List Name). length v) (sym unit_is);
          size = stands.size;
          room = omega (arith, enough, listed.len);
          listed = λ k b. from_start listed k 0 b;
          member = ap (λ (v : List Name). has v at.name) unit_is ∙ root.member was frame held;
          own = own;
          unmarked = unmarked;
          names = refl;
        }

  -- while a collection marks it is refused
  pub refused : p.phase ≡ Marking → Done z p h (h ++ record { pass = Lane l; act = act.NoDissolve at.name } ∷ []) (Lane l) (act.NoDissolve at.name)
  refused marking = does (Lane l) (act.NoDissolve at.name) (act.NoDissolve at.name ∷ []) was (refl, tt)
      (record { in_range = frame.in_range; frame = in_open was.rest.between frame.opened; may = record { held = held.given; own = own; marking = sym s.phase ∙ marking } }, tt) s

-- ---- one member

leaving_more : (lane : ℕ) (of : List Name) (n : Name) → by (Lane lane) (map act.Loose (of ++ n ∷ [])) ≡ by (Lane lane) (map act.Loose of) ++ record { pass = Lane lane; act = act.Loose n } ∷ []
leaving_more lane of n = ap (by (Lane lane)) (map-append act.Loose of (n ∷ [])) ∙ by-append (Lane lane) (map act.Loose of) (act.Loose n ∷ [])

module _ {z : Sizes} {old : Shown} {lane : ℕ} {at : Name} {head count left : ℕ} {members : List ℕ} {p : Parts} {h : List Entry} (i : IsParting z old lane at head count left members p h) where
  abbrev k : Shows z p (state_of h)
  k = i.shows

  abbrev next_to : ℕ
  next_to = left - 1

  abbrev gone_to : ℕ
  gone_to = chained p.next head next_to

  pub last_listed : 1 < left → get_or members next_to 0 ≡ gone_to
  last_listed more = i.listed next_to (omega arith)

  last_member : 1 < left → (n : Name) × (name_at p.names gone_to ≡ Some n) × (has i.front n ≡ true)
  last_member more = linked_member p.names p.next head i.front i.stands.linked next_to (let s = i.size in omega arith)

  pub last_named : 1 < left → IsSome (name_at p.names gone_to)
  last_named more = ap (λ (o : Option Name). is_some o) (last_member more).1

  head_first : (n : Name) × (name_at p.names head ≡ Some n) × (has i.front n ≡ true)
  head_first = let m = member_at k.units head i.front i.stands in (m.0, m.1.name, m.2)

  head_within : head < item_count z
  head_within = let m = head_first in omega (arith, name_below p.names head m.0 m.1, k.names.items)

  module _ (more : 1 < left) (firsts' sizes' : List ℕ) (new : List Entry) (name : Name) (named : name_at p.names gone_to ≡ Some name)
      (noted : new ≡ h ++ record { pass = Lane lane; act = act.Loose name } ∷ []) (parted : firsts' ≡ set p.firsts gone_to gone_to)
      (sized : sizes' ≡ set (set p.sizes gone_to 1) head next_to) where
    last : (n : Name) × (ends_with n i.front ≡ true)
    last = last_of i.front (left - 2) (let s = i.size in omega arith)

    abbrev n : Name
    n = last.0

    long : length i.front ≡ suc next_to
    long = let s = i.size in omega arith

    name_is : name ≡ n
    name_is = let e : ◌≡◌ {A = Option Name} (Some name) (Some n) = sym named ∙ named_last k.names k.units i.midway.apart head i.front i.stands n last.1 next_to long in cc

    abbrev e : Entry
    e = record { pass = Lane lane; act = act.Loose n }

    grown_one : new ≡ h ++ e ∷ []
    grown_one = noted ∙ ap (λ (m : Name). h ++ record { pass = Lane lane; act = act.Loose m } ∷ []) name_is

    left_is : state_of new ≡ next (state_of h) e
    left_is = ap state_of grown_one ∙ one_more h e

    some : but_last i.front ≢ []
    some = ends_some n i.front last.1

    abbrev q : Parts
    q = record p { objects = record (p.objects) { firsts = firsts'; sizes = sizes' } }

    over : (P : Objects → Type 0) → P (record (p.objects) { firsts = set p.firsts gone_to gone_to; sizes = set (set p.sizes gone_to 1) head next_to }) → P q.objects
    over P it = subst₂ (λ (fs zs : List ℕ). P (record (p.objects) { firsts = fs; sizes = zs })) (sym parted) (sym sized) it

    may_leave : May z (state_of h) e
    may_leave = leaves z (state_of h) lane (unit_of (after old.history) at) i.front i.midway n last.1

    shows_next : Shows z q (next (state_of h) e)
    shows_next = record {
      gate = k.gate;
      objects =
          record {
            names = k.names;
            units =
                over (λ (o : Objects). UnitsShow z o (next (state_of h) e).world.units)
                (units_left k.names k.units i.midway.apart head i.front i.stands n last.1 next_to long some head_within);
          };
      rows = k.rows;
      roots = k.roots;
      garbage = k.garbage;
      strong = k.strong;
      pairs = k.pairs;
      colours = record { marked_len = k.marked_len; idle = k.idle; marks = λ m. absurd (i.unmarked m) };
      stock = record { made = k.made; free = free_lives (λ i f. f) (λ i f. f) (λ l. let t = occupied_next z h e i.legal may_leave l in omega arith) k.free };
      ends = record {
        removed = k.removed;
        gone =
            over (λ (o : Objects). GoneShow z o p.waiting (after h).removals (after h).last_removed)
            (gone_left k.names k.units i.midway.apart head i.front i.stands n last.1 next_to long some head_within k.gone);
        room = k.room;
        gathers = k.gathers;
        queue = k.queue;
        none_asked = k.none_asked;
      };
    }

    pub goes_on : IsParting z old lane at head count next_to members q new
    goes_on = record {
      rest = i.rest;
      of = i.of ++ n ∷ [];
      grown =
          grown_one ∙ ap (λ (es : List Entry). es ++ e ∷ []) i.grown ∙ append_assoc old.history (by (Lane lane) (map act.Loose i.of)) (e ∷ [])
          ∙ ap (λ (es : List Entry). old.history ++ es) (sym (leaving_more lane i.of n));
      legal = subst (Legal z) (sym grown_one) ((histories_join.one_more z h e).1 (i.legal, may_leave));
      shows = subst (λ (t : State). Shows z q t) (sym left_is) shows_next;
      front = but_last i.front;
      stands = subst (λ (t : State). StandsAt q.objects t.world.units head (but_last i.front)) (sym left_is)
          (over (λ (o : Objects). StandsAt o (next (state_of h) e).world.units head (but_last i.front))
          (stands_front k.names k.units i.midway.apart head i.front i.stands n last.1 next_to long some head_within));
      midway =
          subst (λ (t : State). IsMidway z t lane (unit_of (after old.history) at) (but_last i.front)) (sym left_is)
          (midway1 z (state_of h) lane (unit_of (after old.history) at) i.front i.midway n last.1 (none_loosened z h i.legal lane));
      counted = i.counted;
      size = sym (front_size k.names k.units i.midway.apart head i.front i.stands n last.1 next_to long);
      room = let r = i.room in omega arith;
      listed = λ j b. i.listed j (omega arith);
      member = i.member;
      own = i.own;
      unmarked = i.unmarked;
      names = i.names;
    }

  -- ---- the answer

  module _ (few : left ≤ 1) where
    abbrev last_entry : Entry
    last_entry = record { pass = Lane lane; act = act.Dissolve at count }

    one_front : (first : Name) × (i.front ≡ first ∷ [])
    one_front = go i.front i.size head_first.2
      where
        go : (front : List Name) → left ≡ length front → has front head_first.0 ≡ true → (first : Name) × (front ≡ first ∷ [])
        go [] size k = absurd cc
        go (n ∷ []) size k = (n, refl)
        go (n ∷ m ∷ front) size k = absurd (omega arith)

    may_close : May z (state_of h) last_entry
    may_close = subst (λ (c : ℕ). May z (state_of h) (record { pass = Lane lane; act = act.Dissolve at c })) (sym i.counted)
        (ready_closes z (state_of h) lane (unit_of (after old.history) at) one_front.0 at i.member i.own
        (subst (λ (u : List Name). IsMidway z (state_of h) lane (unit_of (after old.history) at) u) one_front.1 i.midway))

    pub parts : Done z p old.history (h ++ last_entry ∷ []) (Lane lane) (act.Dissolve at count)
    parts = record {
      plain = record { legal = legal_end; rest = rests entries i.rest; shows = subst (λ (t : State). Shows z p t) (sym (one_more h last_entry)) k };
      entries = entries;
    }
      where
        legal_end : Legal z (h ++ last_entry ∷ [])
        legal_end = (histories_join.one_more z h last_entry).1 (i.legal, may_close)

        entries : Appends z old.history (h ++ last_entry ∷ []) (Lane lane) (act.Dissolve at count)
        entries = record {
          acts = map act.Loose i.of ++ act.Dissolve at count ∷ [];
          call = (record { of = i.of; are = refl }, i.rest.between.whole lane);
          grown =
              ap (λ (es : List Entry). es ++ last_entry ∷ []) i.grown
              ∙ append_assoc old.history (by (Lane lane) (map act.Loose i.of)) (last_entry ∷ [])
              ∙ ap (λ (es : List Entry). old.history ++ es) (sym (by-append (Lane lane) (map act.Loose i.of) (act.Dissolve at count ∷ [])));
          legal = legal_end;
        }

    pub parts_held : (j : ℕ) (r : Ref) → Holds old j r → Holds record { history = h ++ last_entry ∷ []; names = p.names } j r
    parts_held j r was = subst (λ (ns : List (Option Name)). Holds (record { history = h ++ last_entry ∷ []; names = ns }) j r) (sym i.names) (keeps parts.entries refl old.names j r was)
