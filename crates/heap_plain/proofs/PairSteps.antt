-- Giving weak pointers, and resolving them.
use Rattle.std.proofs.Common.{◌≡◌, ◌≢◌, ℕ, ◌+◌, ◌*◌, ◌<◌, ◌==◌, ◌&&◌, not, refl, sym, subst, ap, ◌∙◌, arith, Bool, cond, true, false, if◌then◌else◌, nat_lt, List, [], ◌∷◌, ◌++◌, length, get_or, Option, Some, None, IsSome, is_some, find, option_map, Result, Ok, Err}
use Rattle.std.proofs.Math.ListN.{set}
use Rattle.std.proofs.Math.Logic.{dite}
use Rattle.std.proofs.Math.Decide.{ℕ_discrete}
use Rattle.std.proofs.lemmas.Bool.{both_ways, false_from_ne_true, eq-eqb, eqb-true, lt-ltb}
use Rattle.std.proofs.lemmas.List.{length-set, get_or-set_same, get_or-set_other}
use Rattle.world_model.specs.Sizes.{Sizes, IsLawful, item_count}
use Rattle.world_model.specs.NameLists.{same_name}
use Rattle.world_model.specs.World.{World, Pair, pair_of, drawn, resolved, in_world, is_given}
use Rattle.world_model.specs.Histories.{after, state_of}
use Rattle.world_model.specs.Engines.{IsInFrame, name_of, act_of_weak}
use Rattle.world_model.proofs.ListFacts.{and_true}
use Rattle.world_model.proofs.NameFacts.{same_name_refl}
use Rattle.world_model.proofs.Counts.{count-append, count-cons}
use Rattle.world_model.proofs.Pairs.{pair_gives, no_pair_gives, some_serial}
use Rattle.heap_plain.specs.Types.{Name, Ref, Kind, Weak, SerialsSpent, Lane, Entry}
use Rattle.heap_plain.specs.Types.act
use Rattle.heap_plain.specs.declared.life.Life.{Life}
use Rattle.heap_plain.specs.declared.life.Life.TheVariants.{Free, Live, Removed, Begun, Finished}
use Rattle.heap_plain.specs.Serials.{Serials, serial_at, weak_at, is_weak_at, weak_index, next_serial, Draws}
use Rattle.heap_plain.specs.Parts.{Parts, Holds, name_at, life_at}
use Rattle.heap_plain.specs.Storing.{Refers}
use Rattle.heap_plain.specs.Units.{NamesShow, LivesAt}
use Rattle.heap_plain.specs.Cells.{Aims}
use Rattle.heap_plain.specs.Pairing.{PairsShow, IsPair, paired, is_live, given_at, given_of}
use Rattle.heap_plain.specs.Plain.{Shows, IsPlain}
use Rattle.heap_plain.proofs.WorldFacts.{differs}
use Rattle.heap_plain.proofs.Fillings.{Lists-set}
use Rattle.heap_plain.proofs.Standing.{name_below, lives_at, lives_in}
use Rattle.heap_plain.proofs.Resting.{in_open, is_staying}
use Rattle.heap_plain.proofs.Entries.{Done, does}
use Rattle.heap_plain.proofs.Handing.{Gives, refers_name, given_held, gives_it}
use Rattle.heap_plain.proofs.RootSteps as root

-- ---- the pair of an object

-- where it has a serial, that is its pair
has_weak : (serials : List ℕ) (i : ℕ) (o : Option Weak) (weak : Weak) → IsPair i (serial_at serials i) o → weak_at serials i ≡ Some weak → o ≡ Some weak
has_weak serials i o weak pair e = go (serial_at serials i == 0) refl o pair
  where
    go : (b : Bool) → (serial_at serials i == 0) ≡ b → (o : Option Weak) → IsPair i (serial_at serials i) o → o ≡ Some weak
    go true is o pair = absurd (let none : weak_at serials i ≡ None = rw is refl in cc)
    go false is None pair = absurd (both_ways _ is (eq-eqb (serial_at serials i) 0 pair))
    go false is (Some other) pair = ap Some pair ∙ sym (let some : weak_at serials i ≡ Some (record { index = i; serial = serial_at serials i }) = rw is refl in some) ∙ e

no_serial : (serials : List ℕ) (i : ℕ) → weak_at serials i ≡ None → serial_at serials i ≡ 0
no_serial serials i e = go (serial_at serials i == 0) refl
  where
    go : (b : Bool) → (serial_at serials i == 0) ≡ b → serial_at serials i ≡ 0
    go true is = eqb-true (serial_at serials i) 0 is
    go false is = absurd (let some : weak_at serials i ≡ Some (record { index = i; serial = serial_at serials i }) = rw is refl in cc)

no_zero : (n : ℕ) → 0 < n → (n == 0) ≡ false
no_zero n some = false_from_ne_true _ (λ e. let zero = eqb-true n 0 e in absurd (omega arith))

-- ---- one pair more

one_more_drawn : (pairs : List Pair) (p : Pair) (lane : ℕ) → drawn (paired (pairs ++ p ∷ [])) lane ≡ drawn (paired pairs) lane + cond (p.lane == lane) 1 0
one_more_drawn pairs p lane =
    count-append (λ q. q.lane == lane) pairs (p ∷ []) ∙ ap (λ (k : ℕ). drawn (paired pairs) lane + k) (count-cons (λ q. q.lane == lane) p [] ∙ omega arith)

find_other : (q : Pair → Bool) (pairs : List Pair) (p : Pair) → q p ≡ false → find q (pairs ++ p ∷ []) ≡ find q pairs
find_other q [] p e = rw e refl
find_other q (x ∷ pairs) p e = ap (λ (rest : Option Pair). cond (q x) (Some x) rest) (find_other q pairs p e)

find_last : (q : Pair → Bool) (pairs : List Pair) (p : Pair) → find q pairs ≡ None → q p ≡ true → find q (pairs ++ p ∷ []) ≡ Some p
find_last q [] p none e = rw e refl
find_last q (x ∷ pairs) p none e = go (q x) none (λ rest. find_last q pairs p rest e)
  where
    go : (b : Bool) → cond b (Some x) (find q pairs) ≡ None → (find q pairs ≡ None → find q (pairs ++ p ∷ []) ≡ Some p) → cond b (Some x) (find q (pairs ++ p ∷ [])) ≡ Some p
    go true none rest = absurd cc
    go false none rest = rest none

not_found : (w : World) (n : Name) → pair_of w n ≡ None → find (λ p. same_name n p.name) w.pairs ≡ None
not_found w n e = go (find (λ p. same_name n p.name) w.pairs) refl e
  where
    go : (o : Option Pair) → find (λ p. same_name n p.name) w.pairs ≡ o → option_map (λ (p : Pair). p.weak) o ≡ None → o ≡ None
    go None f e = refl
    go (Some p) f e = absurd cc

module _ {z : Sizes} {names : List (Option Name)} {kinds : ℕ → List Kind} {s : Serials} {pairs : List Pair} (i l : ℕ) (n : Name)
    (ns : NamesShow z names kinds) (low : l < z.lanes) (here : name_at names i ≡ Some n) (none : pair_of (paired pairs) n ≡ None) (k : PairsShow z names s pairs) where
  abbrev new : Pair
  new = record { weak = record { index = i; serial = next_serial s.drawn l }; name = n; lane = l }

  own_lane : drawn (paired pairs) l + cond (l == l) 1 0 ≡ get_or s.drawn l 0 + 1
  own_lane = let t : (l == l) ≡ true = eq-eqb l l refl in let d = k.drawn.each l 0 low in rw t (omega (arith, d))

  other_lane : (lane : ℕ) → lane ≢ l → drawn (paired pairs) lane + cond (l == lane) 1 0 ≡ drawn (paired pairs) lane
  other_lane lane ne = go (l == lane) refl
    where
      go : (b : Bool) → (l == lane) ≡ b → drawn (paired pairs) lane + cond b 1 0 ≡ drawn (paired pairs) lane
      go true e = absurd (ne (sym (eqb-true l lane e)))
      go false e = omega arith

  here_now : (j : ℕ) (m : Name) → name_at names j ≡ Some m → j ≡ i → IsPair j (serial_at (set s.serials i (next_serial s.drawn l)) j) (pair_of (paired (pairs ++ new ∷ [])) m)
  here_now j m e same =
      let named : ◌≡◌ {A = Option Name} (Some m) (Some n) = sym e ∙ ap (name_at names) same ∙ here in
      let is : m ≡ n = cc in
      let found : pair_of (paired (pairs ++ new ∷ [])) m ≡ Some new.weak =
      ap (λ (x : Name). pair_of (paired (pairs ++ new ∷ [])) x) is
      ∙ ap (λ (o : Option Pair). option_map (λ (p : Pair). p.weak) o) (find_last (λ p. same_name n p.name) pairs new (not_found (paired pairs) n none) (same_name_refl n)) in
      let serial : serial_at (set s.serials i (next_serial s.drawn l)) j ≡ next_serial s.drawn l =
      ap (λ (x : ℕ). serial_at (set s.serials i (next_serial s.drawn l)) x) same
      ∙ get_or-set_same s.serials i (next_serial s.drawn l) 0 (omega (arith, name_below names i n here, ns.items, k.len)) in
      let pair : new.weak ≡ record { index = j; serial = serial_at (set s.serials i (next_serial s.drawn l)) j } = (λ t. record { index = sym same t; serial = sym serial t }) in
      subst (λ (o : Option Weak). IsPair j (serial_at (set s.serials i (next_serial s.drawn l)) j) o) (sym found) pair

  elsewhere : (j : ℕ) (m : Name) → name_at names j ≡ Some m → j ≢ i → IsPair j (serial_at (set s.serials i (next_serial s.drawn l)) j) (pair_of (paired (pairs ++ new ∷ [])) m)
  elsewhere j m e ne =
      let other : same_name m n ≡ false = differs m n (λ is. ne (ns.alone j i n (e ∙ ap (λ (x : Name). Some x) is) here)) in
      let found : pair_of (paired (pairs ++ new ∷ [])) m ≡ pair_of (paired pairs) m =
      ap (λ (o : Option Pair). option_map (λ (p : Pair). p.weak) o) (find_other (λ p. same_name m p.name) pairs new other) in
      subst (λ (x : ℕ). IsPair j x (pair_of (paired (pairs ++ new ∷ [])) m)) (sym (get_or-set_other s.serials i j (next_serial s.drawn l) 0 ne))
      (subst (λ (o : Option Weak). IsPair j (serial_at s.serials j) o) (sym found) (k.own j m e))

  pairs_more : PairsShow z names (record { serials = set s.serials i (next_serial s.drawn l); drawn = set s.drawn l (get_or s.drawn l 0 + 1) }) (pairs ++ new ∷ [])
  pairs_more = record {
    len = length-set s.serials i (next_serial s.drawn l) ∙ k.len;
    drawn = Lists-set s.drawn z.lanes l (get_or s.drawn l 0 + 1) (λ lane. drawn (paired pairs) lane) _ k.drawn low
        (one_more_drawn pairs new l ∙ own_lane)
        (λ lane ne. one_more_drawn pairs new lane ∙ other_lane lane ne);
    own = λ j m e. dite (ℕ_discrete j i) (λ (same : j ≡ i). here_now j m e same) (λ (ne : j ≢ i). elsewhere j m e ne);
    blank = λ j e. dite (ℕ_discrete j i)
        (λ (same : j ≡ i). absurd (let a : name_at names i ≡ None = ap (name_at names) (sym same) ∙ e in cc))
        (λ (ne : j ≢ i). get_or-set_other s.serials i j (next_serial s.drawn l) 0 ne ∙ k.blank j e);
  }

module _ {z : Sizes} {p : Parts} {h : List Entry} {l : ℕ} (lawful : IsLawful z) (was : IsPlain z p h) (frame : IsInFrame z h l) where
  abbrev s : Shows z p (state_of h)
  s = was.shows

  -- ---- a weak pointer is given

  module _ {at : Ref} (held : Holds record { history = h; names = p.names } l at) where
    abbrev n : Name
    n = at.name

    here : LivesAt p.names p.lives at.index n
    here = root.here was frame held

    own : IsPair at.index (serial_at p.serials at.index) (pair_of (after h) n)
    own = s.pairs.own at.index n here.name

    pub weak_below : at.index < length p.serials
    weak_below = omega (arith, root.index_below was frame held, s.pairs.len)

    pub gives_old : (weak : Weak) → weak_at p.serials at.index ≡ Some weak → Done z p h (h ++ record { pass = Lane l; act = act.WeakOf n weak } ∷ []) (Lane l) (act.WeakOf n weak)
    gives_old weak e =
        let pair = has_weak p.serials at.index (pair_of (after h) n) weak own e in
        let same : (if is_some (pair_of (after h) n) then (after h).pairs else ((after h).pairs ++ record { weak = weak; name = n; lane = l } ∷ [])) ≡ (after h).pairs = rw pair refl in
        does (Lane l) (act.WeakOf n weak) (act.WeakOf n weak ∷ []) was (refl, tt)
        (record { in_range = frame.in_range; frame = in_open was.rest.between frame.opened; may = record { held = held.given; pair = rw pair refl } }, tt)
        record {
          gate = s.gate;
          objects = s.objects;
          rows = s.rows;
          roots = s.roots;
          garbage = s.garbage;
          strong = s.strong;
          pairs = subst (λ (ps : List Pair). PairsShow z p.names p.pairs ps) (sym same) s.pairs;
          colours = s.colours;
          stock = s.stock;
          ends = s.ends;
        }

    has_none : weak_at p.serials at.index ≡ None → pair_of (after h) n ≡ None
    has_none e = go (pair_of (after h) n) refl
      where
        go : (o : Option Weak) → pair_of (after h) n ≡ o → o ≡ None
        go None is = refl
        go (Some weak) is =
            let pair : weak ≡ record { index = at.index; serial = serial_at p.serials at.index } = subst (λ (o : Option Weak). IsPair at.index (serial_at p.serials at.index) o) is own in
            let serial : weak.serial ≡ serial_at p.serials at.index = ap (λ (x : Weak). x.serial) pair in
            absurd (omega (arith, serial, no_serial p.serials at.index e, some_serial z lawful h was.legal n weak is))

    pub drawn_is : get_or p.drawn l 0 ≡ drawn (after h) l
    drawn_is = s.pairs.drawn.each l 0 frame.in_range

    pub gives_new : (q : Serials) (got : Result Weak SerialsSpent) → weak_at p.serials at.index ≡ None → Draws l at.index z.serials p.pairs q got
        → Done z (record p { pairs = q }) h (h ++ record { pass = Lane l; act = act_of_weak n got } ∷ []) (Lane l) (act_of_weak n got)
    gives_new q (Ok weak) none d =
        let unpaired = has_none none in
        let new : Pair = record { weak = weak; name = n; lane = l } in
        let same : (if is_some (pair_of (after h) n) then (after h).pairs else ((after h).pairs ++ new ∷ [])) ≡ (after h).pairs ++ new ∷ [] = rw unpaired refl in
        let serial : weak.serial ≡ (drawn (after h) l + 1) * 16 + l = ap (λ (x : Weak). x.serial) d.1 ∙ ap (λ (x : ℕ). (x + 1) * 16 + l) drawn_is in
        let index : weak.index ≡ at.index = ap (λ (x : Weak). x.index) d.1 in
        does (Lane l) (act.WeakOf n weak) (act.WeakOf n weak ∷ []) was (refl, tt) (
          record {
            in_range = frame.in_range;
            frame = in_open was.rest.between frame.opened;
            may = record { held = held.given; pair = rw unpaired (record { left = omega (arith, d.0, drawn_is); serial = serial; index = omega (arith, index, root.index_below was frame held) }) };
          },
          tt,
        )
        record {
          gate = s.gate;
          objects = s.objects;
          rows = s.rows;
          roots = s.roots;
          garbage = s.garbage;
          strong = s.strong;
          pairs = subst (λ (ps : List Pair). PairsShow z p.names q ps) (sym same)
              (subst (λ (x : Weak). PairsShow z p.names q ((after h).pairs ++ record { weak = x; name = n; lane = l } ∷ [])) (sym d.1)
              (subst (λ (x : Serials). PairsShow z p.names x ((after h).pairs ++ record { weak = record { index = at.index; serial = next_serial p.drawn l }; name = n; lane = l } ∷ [])) (sym d.2)
              (pairs_more at.index l n s.names frame.in_range here.name unpaired s.pairs)));
          colours = s.colours;
          stock = s.stock;
          ends = s.ends;
        }
    gives_new q (Err spent) none d =
        subst (λ (x : Serials). Done z (record p { pairs = x }) h (h ++ record { pass = Lane l; act = act.NoSerial n spent.made } ∷ []) (Lane l) (act.NoSerial n spent.made)) (sym d.2)
        (does (Lane l) (act.NoSerial n spent.made) (act.NoSerial n spent.made ∷ []) was (refl, tt) (
          record {
            in_range = frame.in_range;
            frame = in_open was.rest.between frame.opened;
            may = record { held = held.given; none = has_none none; all = d.0 ∙ drawn_is; spent = d.1 };
          },
          tt,
        ) s)

  -- ---- a weak pointer is resolved

  -- what the vectors give for a pair
  abbrev pub found : Weak → Option ℕ
  found weak = given_of p.lives p.garbage (weak_index p.serials weak)

  -- the object that stands there has this pair
  paired_there : (weak : Weak) → is_weak_at p.serials weak ≡ true → (n : Name) × (name_at p.names weak.index ≡ Some n) × (pair_of (after h) n ≡ Some weak)
  paired_there weak e = go (name_at p.names weak.index) refl
    where
      parts : (nat_lt weak.index (length p.serials) ≡ true) × ((not (weak.serial == 0) && (serial_at p.serials weak.index == weak.serial)) ≡ true)
      parts = and_true _ _ e

      more : (not (weak.serial == 0) ≡ true) × ((serial_at p.serials weak.index == weak.serial) ≡ true)
      more = and_true _ _ parts.1

      serial : serial_at p.serials weak.index ≡ weak.serial
      serial = eqb-true (serial_at p.serials weak.index) weak.serial more.1

      some : weak.serial ≡ 0 → ⊥
      some zero = let t : (weak.serial == 0) ≡ true = eq-eqb weak.serial 0 zero in let f : not (weak.serial == 0) ≡ true = more.0 in both_ways _ (flip (weak.serial == 0) f) t
        where
          flip : (b : Bool) → not b ≡ true → b ≡ false
          flip false e = refl
          flip true e = absurd cc

      go : (o : Option Name) → name_at p.names weak.index ≡ o → (n : Name) × (name_at p.names weak.index ≡ Some n) × (pair_of (after h) n ≡ Some weak)
      go None at = absurd (some (sym serial ∙ s.pairs.blank weak.index at))
      go (Some n) at = (n, at, pair (pair_of (after h) n) (s.pairs.own weak.index n at))
        where
          pair : (o : Option Weak) → IsPair weak.index (serial_at p.serials weak.index) o → o ≡ Some weak
          pair None is = absurd (some (sym serial ∙ is))
          pair (Some other) is = ap Some (is ∙ (λ t. record { index = weak.index; serial = serial t }))

  -- what does not live is not given
  gone_there : (n : Name) (i : ℕ) → name_at p.names i ≡ Some n → (x : Life) → life_at p.lives i ≡ x → is_live x ≡ false
      → Aims p.names p.lives (given_at p.lives p.garbage i) (if is_given (after h) n then Some n else None)
  gone_there n i at x life gone =
      let out : in_world (after h) n ≡ false = false_from_ne_true _ (λ lives.
      let j = lives_at s.units n lives in
      let same : j.0 ≡ i = s.names.alone j.0 i n j.1.name at in
      let live : life_at p.lives i ≡ Live = ap (life_at p.lives) (sym same) ∙ j.1.life in
      let bit : is_live x ≡ true = ap is_live (sym life ∙ live) in
      both_ways _ gone bit) in
      let none : is_live (life_at p.lives i) ≡ false = ap is_live life ∙ gone in
      rw (none, out) tt

  -- an object that lives is given for its pair
  is_given_there : (n : Name) (i : ℕ) → name_at p.names i ≡ Some n → (x : Life) → life_at p.lives i ≡ x → Aims p.names p.lives (given_at p.lives p.garbage i) (if is_given (after h) n then Some n else None)
  is_given_there n i at Live life = go (get_or p.garbage i false) refl
    where
      there : LivesAt p.names p.lives i n
      there = record { name = at; life = life }

      go : (b : Bool) → get_or p.garbage i false ≡ b → Aims p.names p.lives (given_at p.lives p.garbage i) (if is_given (after h) n then Some n else None)
      go b bit =
          let lives : in_world (after h) n ≡ true = lives_in s.units i n there in
          let valid : (after h).garbage n ≡ b = sym (s.garbage.each i n there) ∙ bit in
          rw (life, bit, lives, valid) (both b)
        where
          both : (b : Bool) → Aims p.names p.lives (if b then None else Some i) (if not b then Some n else None)
          both true = tt
          both false = there
  is_given_there n i at Free life = gone_there n i at Free life refl
  is_given_there n i at Removed life = gone_there n i at Removed life refl
  is_given_there n i at Begun life = gone_there n i at Begun life refl
  is_given_there n i at Finished life = gone_there n i at Finished life refl

  pub resolves : (weak : Weak) (got : Option Ref) → Refers p.names (found weak) got
      → Gives z p h (h ++ record { pass = Lane l; act = act.Resolve weak (name_of got) } ∷ []) l (act.Resolve weak (name_of got)) got
  resolves weak got refers =
      let got_is = refers_name p.names p.lives (found weak) (resolved (after h) weak) got aims refers in
      let done =
      does (Lane l) (act.Resolve weak (name_of got)) (act.Resolve weak (name_of got) ∷ []) was (refl, tt)
      (record { in_range = frame.in_range; frame = in_open was.rest.between frame.opened; may = got_is }, tt) s in
      record { done = done; given = given_held was frame (found weak) got h (act.Resolve weak (name_of got)) done.plain.legal (gives_it got) refers }
    where
      -- the pair of an object that lives is at its index
      has_it : (n : Name) → in_world (after h) n ≡ true → pair_of (after h) n ≡ Some weak → is_weak_at p.serials weak ≡ true
      has_it n lives pair =
          let j = lives_at s.units n lives in
          let own : weak ≡ record { index = j.0; serial = serial_at p.serials j.0 } = subst (λ (o : Option Weak). IsPair j.0 (serial_at p.serials j.0) o) pair (s.pairs.own j.0 n j.1.name) in
          let index : weak.index ≡ j.0 = ap (λ (x : Weak). x.index) own in
          let serial : serial_at p.serials weak.index ≡ weak.serial = ap (λ (x : ℕ). serial_at p.serials x) index ∙ sym (ap (λ (x : Weak). x.serial) own) in
          let below : nat_lt weak.index (length p.serials) ≡ true = lt-ltb _ _ (omega (arith, index, name_below p.names j.0 n j.1.name, s.names.items, s.pairs.len)) in
          let same : (serial_at p.serials weak.index == weak.serial) ≡ true = eq-eqb _ _ serial in
          let some : (weak.serial == 0) ≡ false = no_zero _ (some_serial z lawful h was.legal n weak pair) in
          rw (below, same, some) refl

      aims : Aims p.names p.lives (found weak) (resolved (after h) weak)
      aims = go (is_weak_at p.serials weak) refl
        where
          go : (b : Bool) → is_weak_at p.serials weak ≡ b → Aims p.names p.lives (given_of p.lives p.garbage (if b then Some weak.index else None)) (resolved (after h) weak)
          go true e =
              let there = paired_there weak e in
              subst (λ (o : Option Name). Aims p.names p.lives (given_at p.lives p.garbage weak.index) o) (sym (pair_gives z lawful h was.legal there.0 weak there.2))
              (is_given_there there.0 weak.index there.1 (life_at p.lives weak.index) refl)
          go false e =
              subst (λ (o : Option Name). Aims p.names p.lives None o) (sym (no_pair_gives z lawful h was.legal weak (λ n lives pair. both_ways _ e (has_it n lives pair)))) tt

  -- where a pair leads, an object may stand
  pub found_below : (weak : Weak) (i : ℕ) → weak_index p.serials weak ≡ Some i → i < item_count z
  found_below weak i e = go (is_weak_at p.serials weak) refl
    where
      go : (b : Bool) → is_weak_at p.serials weak ≡ b → i < item_count z
      go false is = absurd (let none : None ≡ Some i = rw is at e in cc)
      go true is =
          let some : Some weak.index ≡ Some i = rw is at e in
          let same : weak.index ≡ i = cc in
          let there = paired_there weak is in
          omega (arith, same, name_below p.names weak.index there.0 there.1, s.names.items)

  pub live_named : (i : ℕ) → life_at p.lives i ≡ Live → IsSome (name_at p.names i)
  live_named i e = let m = s.units.named i (λ f. absurd (let a = e in cc)) in ap (λ (o : Option Name). is_some o) m.1

-- what was held is held after it
pub stays : (n : Name) (got : Result Weak SerialsSpent) → is_staying (act_of_weak n got) ≡ true
stays n (Ok weak) = refl
stays n (Err spent) = refl
