-- Reading and writing cells.
use Rattle.std.proofs.Common.{◌≡◌, ℕ, ◌+◌, ◌*◌, ◌-◌, ◌<◌, ◌≤◌, refl, sym, subst, ap, ◌∙◌, inl, inr, arith, Bool, true, false, List, [], ◌∷◌, ◌++◌, append_assoc, length, get_or, Option, Some, None, IsSome, is_some}
use Rattle.std.specs.Option.{option_map_or}
use Rattle.std.proofs.Math.ListN.{set}
use Rattle.world_model.specs.Sizes.{Sizes}
use Rattle.world_model.specs.NameLists.{set_at, set_name}
use Rattle.world_model.specs.World.{kind_of, refs_of, plain_of}
use Rattle.world_model.specs.Histories.{after, state_of}
use Rattle.world_model.specs.Engines.{IsInFrame, name_of}
use Rattle.heap_plain.specs.Types.{Name, Ref, Kind, Lane, Marking, Act, Entry}
use Rattle.heap_plain.specs.Types.act
use Rattle.heap_plain.specs.Painted.{Painted, greyed}
use Rattle.heap_plain.specs.Parts.{Parts, Rows, Holds, name_at, first_at, kind_at, target_at}
use Rattle.heap_plain.specs.Shading.{MarksIf, must_shade, head_of, shade_notes, rooting}
use Rattle.heap_plain.specs.Storing.{Refers}
use Rattle.heap_plain.specs.Units.{LivesAt}
use Rattle.heap_plain.specs.Cells.{Aims, CellsShow}
use Rattle.heap_plain.specs.Plain.{Shows, IsPlain}
use Rattle.heap_plain.proofs.Resting.{in_open, holds_next}
use Rattle.heap_plain.proofs.Entries.{Done, does}
use Rattle.heap_plain.proofs.Cells.{place_below, cells_write, numbers_write, aims_target}
use Rattle.heap_plain.proofs.Handing.{Gives, Stored, index_of, refers_name, given_held, gives_it, stored_aims, stored_below, stored_names, stored_shaded}
use Rattle.heap_plain.proofs.RootSteps as root

-- ---- references

-- the rows with another value in one place
abbrev pub with_target : Parts → ℕ → Option ℕ → Rows
with_target p place to = record (p.rows) { targets = set p.targets place to }

abbrev pub with_plain : Parts → ℕ → ℕ → Rows
with_plain p place value = record (p.rows) { plains = set p.plains place value }

module _ {z : Sizes} {p : Parts} {h : List Entry} {l : ℕ} {at : Ref} (was : IsPlain z p h) (frame : IsInFrame z h l) (held : Holds record { history = h; names = p.names } l at) where
  abbrev s : Shows z p (state_of h)
  s = was.shows

  abbrev n : Name
  n = at.name

  here : LivesAt p.names p.lives at.index n
  here = root.here was frame held

  -- ---- the kind

  pub kind_is : kind_of (after h) n ≡ Some (kind_at p.kinds at.index)
  kind_is = s.kinds.each at.index n here.name

  refs_are : refs_of (after h) n ≡ (kind_at p.kinds at.index).refs
  refs_are = ap (λ (o : Option Kind). option_map_or (λ k. k.refs) o 0) kind_is

  pub ref_below : (slot : ℕ) → slot < refs_of (after h) n → slot < z.slots
  ref_below slot b = omega (arith, refs_are, s.kinds.fit at.index)

  pub target_place : (slot : ℕ) → slot < z.slots → at.index * z.slots + slot < length p.targets
  target_place slot b = let t = place_below at.index n slot s.names here b s.cells in omega (arith, s.cells.targets_len)

  pub plain_place : (slot : ℕ) → slot < z.slots → at.index * z.slots + slot < length p.plains
  plain_place slot b = let t = place_below at.index n slot s.names here b s.cells in omega (arith, s.cells.plains_len)

  aims : (slot : ℕ) → slot < z.slots → Aims p.names p.lives (target_at z.slots p.targets at.index slot) ((after h).cell n slot)
  aims slot b = s.cells.aims at.index n slot here b

  pub target_named : (slot : ℕ) → slot < z.slots → (t : ℕ) → target_at z.slots p.targets at.index slot ≡ Some t → IsSome (name_at p.names t)
  target_named slot b t e = let r = aims_target (target_at z.slots p.targets at.index slot) ((after h).cell n slot) t (aims slot b) e in ap (λ (o : Option Name). is_some o) r.2.name

  -- ---- plain cells

  pub plain_read : (slot got : ℕ) → z.slots - plain_of (after h) n ≤ slot → slot < z.slots → got ≡ get_or p.plains (at.index * z.slots + slot) 0
      → Done z p h (h ++ record { pass = Lane l; act = act.ReadPlain n slot got } ∷ []) (Lane l) (act.ReadPlain n slot got)
  plain_read slot got low high is = does (Lane l) (act.ReadPlain n slot got) (act.ReadPlain n slot got ∷ []) was (refl, tt) (
    record {
      in_range = frame.in_range;
      frame = in_open was.rest.between frame.opened;
      may = (record { held = held.given; first = low; last = high }, is ∙ s.cells.numbers at.index n slot here high);
    },
    tt,
  ) s

  pub plain_write : (slot value got : ℕ) → z.slots - plain_of (after h) n ≤ slot → slot < z.slots → got ≡ get_or p.plains (at.index * z.slots + slot) 0
      → Done z (record p { rows = with_plain p (at.index * z.slots + slot) value }) h
      (h ++ record { pass = Lane l; act = act.WritePlain n slot value got } ∷ []) (Lane l) (act.WritePlain n slot value got)
  plain_write slot value got low high is = does (Lane l) (act.WritePlain n slot value got) (act.WritePlain n slot value got ∷ []) was (refl, tt) (
    record {
      in_range = frame.in_range;
      frame = in_open was.rest.between frame.opened;
      may = (record { held = held.given; first = low; last = high }, is ∙ s.cells.numbers at.index n slot here high);
    },
    tt,
  )
      record {
        gate = s.gate;
        objects = s.objects;
        rows = record { kinds = s.kinds; cells = numbers_write at.index n slot s.names here high s.cells value };
        roots = s.roots;
        garbage = s.garbage;
        strong = s.strong;
        pairs = s.pairs;
        colours = s.colours;
        stock = s.stock;
        ends = s.ends;
      }

  -- ---- a reference is read

  abbrev read_act : ℕ → Option Ref → Act
  read_act slot got = act.ReadRef n slot (name_of got)

  pub ref_read : (slot : ℕ) → slot < refs_of (after h) n → (got : Option Ref) → Refers p.names (target_at z.slots p.targets at.index slot) got
      → Gives z p h (h ++ record { pass = Lane l; act = read_act slot got } ∷ []) l (read_act slot got) got
  ref_read slot is_ref got refers =
      let got_is = refers_name p.names p.lives (target_at z.slots p.targets at.index slot) ((after h).cell n slot) got (aims slot (ref_below slot is_ref)) refers in
      let done =
      does (Lane l) (read_act slot got) (read_act slot got ∷ []) was (refl, tt) (
        record {
          in_range = frame.in_range;
          frame = in_open was.rest.between frame.opened;
          may = (record { held = held.given; in_range = is_ref }, got_is);
        },
        tt,
      ) s in
      record { done = done; given = given_held was frame (target_at z.slots p.targets at.index slot) got h (read_act slot got) done.plain.legal (gives_it got) refers }

  -- ---- a reference is written

  pub stored_root : (on : Bool) → Stored was frame (rooting on at)
  stored_root true = held
  stored_root false = tt

  module _ (slot : ℕ) (is_ref : slot < refs_of (after h) n) (old : Option Ref) (refers : Refers p.names (target_at z.slots p.targets at.index slot) old) where
    abbrev place : ℕ
    place = at.index * z.slots + slot

    in_row : slot < z.slots
    in_row = ref_below slot is_ref

    old_is : name_of old ≡ (after h).cell n slot
    old_is = refers_name p.names p.lives (target_at z.slots p.targets at.index slot) ((after h).cell n slot) old (aims slot in_row) refers

    abbrev write_act : Option Ref → Act
    write_act to = act.WriteRef n slot (name_of to) (name_of old)

    abbrev write_entry : Option Ref → Entry
    write_entry to = record { pass = Lane l; act = write_act to }

    -- the rows after a store
    rows_written : (to : Option Ref) → Stored was frame to
        → CellsShow z p.names p.lives p.kinds (set p.targets place (index_of to)) p.plains (after h).kinds
        (set_name (after h).cell n (set_at ((after h).cell n) slot (name_of to))) (after h).plain
    rows_written to k = cells_write at.index n slot s.names here in_row s.cells (index_of to) (name_of to) (omega (arith, refs_are)) (stored_aims was frame to k) (stored_below was frame to k)

    -- what a store does
    abbrev Written : Option Ref → Painted → List Entry → Type 0
    Written to c new = Gives z (record p { colours = c; rows = with_target p place (index_of to) }) h new l (write_act to) old

    -- nothing is marked
    stays : (to : Option Ref) → Stored was frame to → must_shade p.phase p.firsts p.marked to ≡ false → Written to p.colours (h ++ write_entry to ∷ [])
    stays to k e =
        let done = does (Lane l) (write_act to) (write_act to ∷ []) was (inl refl, tt) (
          record {
            in_range = frame.in_range;
            frame = in_open was.rest.between frame.opened;
            may = record { place = record { held = held.given; in_range = is_ref }; held = stored_names was frame to k; was = old_is; shaded = stored_shaded was frame to k e };
          },
          tt,
        )
        record {
          gate = s.gate;
          objects = s.objects;
          rows = record { kinds = s.kinds; cells = rows_written to k };
          roots = s.roots;
          garbage = s.garbage;
          strong = s.strong;
          pairs = s.pairs;
          colours = s.colours;
          stock = s.stock;
          ends = s.ends;
        } in
        record { done = done; given = given_held was frame (target_at z.slots p.targets at.index slot) old h (write_act to) done.plain.legal (gives_it old) refers }

    -- the unit of the target is marked first
    shades : (r : Ref) (k : Holds record { history = h; names = p.names } l r) (e : p.phase ≡ Marking) → get_or p.marked (first_at p.firsts r.index) false ≡ false
        → Written (Some r) (greyed p.colours (first_at p.firsts r.index)) ((h ++ record { pass = Lane l; act = act.Kept r.name } ∷ []) ++ write_entry (Some r) ∷ [])
    shades r k e white =
        let note : Entry = record { pass = Lane l; act = act.Kept r.name } in
        let whole : h ++ note ∷ write_entry (Some r) ∷ [] ≡ (h ++ note ∷ []) ++ write_entry (Some r) ∷ [] = sym (append_assoc h (note ∷ []) (write_entry (Some r) ∷ [])) in
        let done =
        subst
        (λ (es : List Entry).
        Done z (record p { colours = greyed p.colours (first_at p.firsts r.index); rows = with_target p place (Some r.index) }) h es (Lane l)
        (write_act (Some r))) whole
        (does (Lane l) (write_act (Some r)) (act.Kept r.name ∷ write_act (Some r) ∷ []) was (inr (r.name, refl), tt) (
          root.may_keep was frame k e white,
          (
            record {
              in_range = frame.in_range;
              frame = root.pays was frame k e white (root.own_member was frame k e white);
              may = record {
                place = record { held = holds_next (state_of h) (Lane l) (act.Kept r.name) refl l n held.given; in_range = is_ref };
                held = holds_next (state_of h) (Lane l) (act.Kept r.name) refl l r.name k.given;
                was = old_is;
                shaded = λ m. root.now_shaded was frame k e white;
              };
            },
            tt,
          ),
        )
        record {
          gate = s.gate;
          objects = s.objects;
          rows = record { kinds = s.kinds; cells = rows_written (Some r) k };
          roots = s.roots;
          garbage = s.garbage;
          strong = s.strong;
          pairs = s.pairs;
          colours = root.shaded was frame k e white;
          stock = s.stock;
          ends = s.ends;
        }) in
        record { done = done; given = given_held was frame (target_at z.slots p.targets at.index slot) old (h ++ note ∷ []) (write_act (Some r)) done.plain.legal (gives_it old) refers }

    pub writes : (to : Option Ref) → Stored was frame to → {c : Painted} {mid : List Entry}
        → MarksIf (must_shade p.phase p.firsts p.marked to) (head_of p.firsts to) (shade_notes l to) p.colours c h mid → Written to c (mid ++ write_entry to ∷ [])
    writes None k mi = let m = mi.stays refl in rw (m.0, m.1) (stays None k refl)
    writes (Some r) k {c} {mid} mi = go (must_shade p.phase p.firsts p.marked (Some r)) refl
      where
        go : (b : Bool) → must_shade p.phase p.firsts p.marked (Some r) ≡ b → Written (Some r) c (mid ++ write_entry (Some r) ∷ [])
        go false e = let m = mi.stays e in rw (m.0, m.1) (stays (Some r) k e)
        go true e = let m = mi.marks e in let d = root.must p.phase (get_or p.marked (first_at p.firsts r.index) false) e in rw (m.0, m.1) (shades r k d.0 d.1)
