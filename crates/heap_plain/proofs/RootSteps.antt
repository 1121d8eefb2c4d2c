-- Setting a root.
use Rattle.std.proofs.Common.{◌≡◌, ◌≢◌, ℕ, ◌<◌, ◌&&◌, not, refl, sym, subst, ap, ◌∙◌, inl, inr, arith, Bool, cond, true, false, List, [], ◌∷◌, ◌++◌, append_assoc, length, get_or, Option, Some, None}
use Rattle.std.proofs.Math.ListN.{set}
use Rattle.std.proofs.lemmas.List.{length-set, get_or-set_same}
use Rattle.world_model.specs.Sizes.{Sizes, item_count}
use Rattle.world_model.specs.NameLists.{same_name, has, set_name}
use Rattle.world_model.specs.World.{unit_of}
use Rattle.world_model.specs.State.{Frame, is_marked}
use Rattle.world_model.specs.LaneSteps.{PaysFor, InOpenFrame}
use Rattle.world_model.specs.Next.{next}
use Rattle.world_model.specs.Histories.{MayBy, after, state_of}
use Rattle.world_model.specs.Engines.{IsInFrame}
use Rattle.world_model.specs.Midway.{AreApart}
use Rattle.world_model.proofs.ListFacts.{and_true}
use Rattle.world_model.proofs.NameFacts.{same_name_true, same_name_refl, set_at_same}
use Rattle.world_model.proofs.Units.{units_apart}
use Rattle.world_model.proofs.Barrier.{member_lives, own_unit, barred}
use Rattle.world_model.proofs.Removals.{held_lives_holds}
use Rattle.heap_plain.specs.Types.{Name, Ref, Lane, Phase, Idle, Marking, Gathering, Act, Entry}
use Rattle.heap_plain.specs.Types.act
use Rattle.heap_plain.specs.declared.life.Life.{Life}
use Rattle.heap_plain.specs.Painted.{Painted, greyed}
use Rattle.heap_plain.specs.Parts.{Parts, Holds, name_at, first_at, is_marking}
use Rattle.heap_plain.specs.Shading.{MarksIf, must_shade, head_of, shade_notes, rooting}
use Rattle.heap_plain.specs.Units.{NamesShow, StandsAt, LivesAt}
use Rattle.heap_plain.specs.Roots.{RootsShow, rooted_at}
use Rattle.heap_plain.specs.Colouring.{MarksShow, Colouring}
use Rattle.heap_plain.specs.Plain.{Shows, IsPlain}
use Rattle.heap_plain.proofs.Fillings.{Lists-set}
use Rattle.heap_plain.proofs.Resting.{in_open, holds_next}
use Rattle.heap_plain.proofs.Entries.{Done, does}
use Rattle.heap_plain.proofs.Standing.{name_below, lives_at}
use Rattle.heap_plain.proofs.MarkSteps.{mark_one, worklist_room}

-- ---- when a store marks

marking_is : (phase : Phase) → is_marking phase ≡ true → phase ≡ Marking
marking_is Marking e = refl
marking_is Idle e = absurd cc
marking_is Gathering e = absurd cc

pub must : (phase : Phase) (b : Bool) → (is_marking phase && not b) ≡ true → (phase ≡ Marking) × (b ≡ false)
must phase b e = let parts = and_true (is_marking phase) (not b) e in (marking_is phase parts.0, flip b parts.1)
  where
    flip : (c : Bool) → not c ≡ true → c ≡ false
    flip false h = refl
    flip true h = absurd cc

pub need_not : (phase : Phase) (b : Bool) → (is_marking phase && not b) ≡ false → phase ≡ Marking → b ≡ true
need_not phase true e m = refl
need_not phase false e m = absurd (let both : (is_marking phase && true) ≡ true = rw m refl in cc)

-- ---- the root bits

pub roots_set : {z : Sizes} {names : List (Option Name)} {kinds : _} {lives : List Life} {roots : List Bool} {rooted : Name → Bool} (i : ℕ) (n : Name) (on : Bool)
    → NamesShow z names kinds → LivesAt names lives i n → RootsShow z names roots rooted → RootsShow z names (set roots i on) (set_name rooted n on)
roots_set {z} {names} {lives} {roots} {rooted} i n on ns here s = record {
  bits = Lists-set roots (item_count z) i on (λ j. rooted_at rooted (name_at names j)) _ s.bits (omega (arith, name_below names i n here.name, ns.items))
      (ap (rooted_at (set_name rooted n on)) here.name ∙ (let t = same_name_refl n in rw t refl))
      (λ j ne. others j ne (name_at names j) refl);
}
  where
    others : (j : ℕ) → j ≢ i → (o : Option Name) → name_at names j ≡ o → rooted_at (set_name rooted n on) o ≡ rooted_at rooted o
    others j ne None at = refl
    others j ne (Some m) at = go (same_name m n) refl
      where
        go : (b : Bool) → same_name m n ≡ b → cond b on (rooted m) ≡ rooted m
        go false e = refl
        go true e = absurd (ne (ns.alone j i n (at ∙ ap (λ (x : Name). Some x) (same_name_true m n e)) here.name))

-- ---- an object that a lane holds

-- the frame of a lane that marked a unit
abbrev pub marking_frame : Frame → Name → Frame
marking_frame f of = record f { owed = Some of; shaded = true }

module _ {z : Sizes} {p : Parts} {h : List Entry} {l : ℕ} {at : Ref} (was : IsPlain z p h) (frame : IsInFrame z h l) (held : Holds record { history = h; names = p.names } l at) where
  abbrev s : Shows z p (state_of h)
  s = was.shows

  abbrev n : Name
  n = at.name

  abbrev head : ℕ
  head = first_at p.firsts at.index

  pub apart : AreApart (after h).kinds (after h).units
  apart = units_apart z h was.legal

  pub here : LivesAt p.names p.lives at.index n
  here = let j = lives_at s.units n (held_lives_holds z h was.legal l n held.given).0 in subst (λ (i : ℕ). LivesAt p.names p.lives i n) (held.alone j.0 j.1.name) j.1

  abbrev pub u : List Name
  u = (s.units.each at.index here.life).0

  pub stands : StandsAt p.objects (after h).units head u
  stands = (s.units.each at.index here.life).1

  pub member : has u n ≡ true
  member = stands.whole at.index n here refl

  pub unit_is : unit_of (after h) n ≡ u
  unit_is = own_unit (after h) apart u n stands.among member

  pub head_below : head < item_count z
  head_below = s.units.in_range at.index

  pub index_below : at.index < item_count z
  index_below = omega (arith, name_below p.names at.index n here.name, s.names.items)

  -- what the root bit was
  was_rooted : (old : Bool) → old ≡ get_or p.roots at.index false → old ≡ (after h).rooted n
  was_rooted old e = e ∙ s.roots.bits.each at.index false index_below ∙ ap (rooted_at (after h).rooted) here.name

  -- the unit is marked where its bit is set
  pub marked_is : p.phase ≡ Marking → get_or p.marked head false ≡ is_marked (state_of h).marks (unit_of (after h) n)
  marked_is e = (s.marks e).bits head u stands ∙ sym (ap (is_marked (state_of h).marks) unit_is)

  roots_plain : (on old : Bool) → old ≡ get_or p.roots at.index false → (on ≡ true → p.phase ≡ Marking → get_or p.marked head false ≡ true)
      → Done z (record p { roots = set p.roots at.index on }) h (h ++ record { pass = Lane l; act = act.Root n on old } ∷ []) (Lane l) (act.Root n on old)
  roots_plain on old is shaded = does (Lane l) (act.Root n on old) (act.Root n on old ∷ []) was (inl refl, tt) (
    record {
      in_range = frame.in_range;
      frame = in_open was.rest.between frame.opened;
      may = record { held = held.given; was = was_rooted old is; shaded = λ o e. sym (marked_is (s.phase ∙ e)) ∙ shaded o (s.phase ∙ e) };
    },
    tt,
  )
      record { gate = s.gate; objects = s.objects; rows = s.rows; roots = roots_set at.index n on s.names here s.roots; garbage = s.garbage; strong = s.strong; pairs = s.pairs; colours = s.colours; stock = s.stock; ends = s.ends }

  pub has_room : p.phase ≡ Marking → get_or p.marked head false ≡ false → length p.listed < length p.marked
  has_room e white = worklist_room head (s.marks e).worklist (omega (arith, head_below, s.marked_len)) white

  -- ---- the unit is marked first

  module _ (e : p.phase ≡ Marking) (white : get_or p.marked head false ≡ false) where
    inside : head < length p.marked
    inside = omega (arith, head_below, s.marked_len)

    after_mark : MarksShow p.objects (after h).units (greyed p.colours head) (n ∷ (state_of h).marks.kept) (state_of h).marks.fresh (state_of h).marks.scanned
    after_mark = mark_one s.names s.units apart head u n stands member white inside ((barred z h was.legal).tricolour.scanned_kept (sym s.phase ∙ e) u stands.among) (s.marks e)

    pub may_keep : MayBy z (state_of h) (Lane l) (act.Kept n)
    may_keep = record {
      in_range = frame.in_range;
      frame = in_open was.rest.between frame.opened;
      may = record {
        white = record { marking = sym s.phase ∙ e; living = member_lives (after h) u n stands.among member; unmarked = sym (marked_is e) ∙ white };
        held = held.given;
      };
    }

    -- what the vectors show of marks then
    pub shaded : Colouring z p.phase p.objects (greyed p.colours head) (after h).units (n ∷ (state_of h).marks.kept) (state_of h).marks.fresh (state_of h).marks.scanned
    shaded = record { marked_len = length-set p.marked head true ∙ s.marked_len; idle = λ ne. absurd (ne e); marks = λ m. after_mark }

    -- the unit is marked, and the lane may store it
    pub now_shaded : is_marked (record (state_of h).marks { kept = n ∷ (state_of h).marks.kept }) (unit_of (after h) n) ≡ true
    now_shaded = ap (is_marked (record (state_of h).marks { kept = n ∷ (state_of h).marks.kept })) unit_is ∙ sym (after_mark.bits head u stands) ∙ get_or-set_same p.marked head true false inside

    abbrev f1 : Frame
    f1 = marking_frame ((state_of h).frames l) n

    -- what that lane does next stands in its frame where it stores the object
    pub pays : {a : Act} → PaysFor (after h) (Some n) a → InOpenFrame (next (state_of h) (record { pass = Lane l; act = act.Kept n })) l a
    pays paid = record { opened = frame.opened; continues = rw (set_at_same (state_of h).frames l f1) paid; parts = rw (set_at_same (state_of h).frames l f1) (rw (was.rest.between.whole l) tt) }

    pub own_member : has (unit_of (after h) n) n ≡ true
    own_member = ap (λ (v : List Name). has v n) unit_is ∙ member

  abbrev both : Bool → List Entry
  both old = record { pass = Lane l; act = act.Kept n } ∷ record { pass = Lane l; act = act.Root n true old } ∷ []

  roots_shaded : (old : Bool) → old ≡ get_or p.roots at.index false → p.phase ≡ Marking → get_or p.marked head false ≡ false
      → Done z (record p { roots = set p.roots at.index true; colours = greyed p.colours head }) h (h ++ both old) (Lane l) (act.Root n true old)
  roots_shaded old is e white = does (Lane l) (act.Root n true old) (act.Kept n ∷ act.Root n true old ∷ []) was (inr (n, refl), tt) (
    may_keep e white,
    (
      record {
        in_range = frame.in_range;
        frame = pays e white (own_member e white);
        may = record { held = holds_next (state_of h) (Lane l) (act.Kept n) refl l n held.given; was = was_rooted old is; shaded = λ o m. now_shaded e white };
      },
      tt,
    ),
  )
      record {
        gate = s.gate;
        objects = s.objects;
        rows = s.rows;
        roots = roots_set at.index n true s.names here s.roots;
        garbage = s.garbage;
        strong = s.strong;
        pairs = s.pairs;
        colours = shaded e white;
        stock = s.stock;
        ends = s.ends;
      }

  -- a root bit is set, where the barrier did its part
  pub sets_root : (on old : Bool) → old ≡ get_or p.roots at.index false → {c : Painted} {mid : List Entry}
      → MarksIf (must_shade p.phase p.firsts p.marked (rooting on at)) (head_of p.firsts (rooting on at)) (shade_notes l (rooting on at)) p.colours c h mid
      → Done z (record p { roots = set p.roots at.index on; colours = c }) h (mid ++ record { pass = Lane l; act = act.Root n on old } ∷ []) (Lane l) (act.Root n on old)
  sets_root false old is mi = let m = mi.stays refl in rw (m.0, m.1) (roots_plain false old is (λ e. absurd cc))
  sets_root true old is {c} {mid} mi = go (is_marking p.phase && not (get_or p.marked head false)) refl
    where
      go : (b : Bool) → (is_marking p.phase && not (get_or p.marked head false)) ≡ b
          → Done z (record p { roots = set p.roots at.index true; colours = c }) h (mid ++ record { pass = Lane l; act = act.Root n true old } ∷ []) (Lane l) (act.Root n true old)
      go false e = let m = mi.stays e in rw (m.0, m.1) (roots_plain true old is (λ o. need_not p.phase (get_or p.marked head false) e))
      go true e =
          let m = mi.marks e in
          let d = must p.phase (get_or p.marked head false) e in
          rw (m.0, m.1, append_assoc h (record { pass = Lane l; act = act.Kept n } ∷ []) (record { pass = Lane l; act = act.Root n true old } ∷ [])) (roots_shaded old is d.0 d.1)
