-- Reading and writing strong pointers.
use Rattle.std.proofs.Common.{◌≡◌, ℕ, ◌+◌, ◌*◌, ◌<◌, refl, sym, subst, ap, ◌∙◌, inl, inr, arith, Bool, true, false, List, [], ◌∷◌, ◌++◌, append_assoc, length, get_or, Option, Some, None, IsSome, is_some}
use Rattle.std.proofs.Math.ListN.{set}
use Rattle.std.proofs.lemmas.Bool.{both_ways, eq-eqb}
use Rattle.std.proofs.lemmas.List.{length-set, get_or-set_same, get_or-set_other}
use Rattle.world_model.specs.Sizes.{Sizes}
use Rattle.world_model.specs.NameLists.{set_at}
use Rattle.world_model.specs.Histories.{after, state_of}
use Rattle.world_model.specs.Engines.{IsInFrame, name_of}
use Rattle.heap_plain.specs.Types.{Name, Ref, Lane, Marking, Act, Entry}
use Rattle.heap_plain.specs.Types.act
use Rattle.heap_plain.specs.declared.life.Life.{Life}
use Rattle.heap_plain.specs.Painted.{Painted, greyed}
use Rattle.heap_plain.specs.Parts.{Parts, Holds, name_at, first_at, target_at}
use Rattle.heap_plain.specs.Shading.{MarksIf, must_shade, head_of, shade_notes}
use Rattle.heap_plain.specs.Storing.{Refers}
use Rattle.heap_plain.specs.Roots.{StrongShow}
use Rattle.heap_plain.specs.Cells.{Aims}
use Rattle.heap_plain.specs.Plain.{Shows, IsPlain}
use Rattle.heap_plain.proofs.WorldFacts.{at_set}
use Rattle.heap_plain.proofs.Fillings.{same_row, row_below}
use Rattle.heap_plain.proofs.Resting.{in_open, holds_next}
use Rattle.heap_plain.proofs.Entries.{Done, does}
use Rattle.heap_plain.proofs.Cells.{aims_target}
use Rattle.heap_plain.proofs.Handing.{Gives, Stored, index_of, refers_name, given_held, gives_it, stored_aims, stored_names, stored_shaded}
use Rattle.heap_plain.proofs.RootSteps as root

-- another strong pointer is written
module _ {z : Sizes} {names : List (Option Name)} {lives : List Life} {targets : List (Option ℕ)} {strong : ℕ → ℕ → Option Name} (l number : ℕ) (to : Option ℕ) (name : Option Name)
    (low : l < z.lanes) (small : number < z.strong) (new : Aims names lives to name) (s : StrongShow z names lives targets strong) where
  abbrev rewritten : List (Option ℕ)
  rewritten = set targets (l * z.strong + number) to

  own : (lane k : ℕ) → lane ≡ l → k ≡ number → target_at z.strong rewritten lane k ≡ to
  own lane k same here = (λ t. get_or rewritten (same t * z.strong + here t) None)
      ∙ get_or-set_same targets (l * z.strong + number) to None (omega (arith, row_below z.strong l z.lanes number low small, s.len))

  other : (lane k : ℕ) → lane < z.lanes → k < z.strong → ((lane ≡ l) × (k ≡ number) → ⊥) → Aims names lives (target_at z.strong rewritten lane k) (strong lane k)
  other lane k a b ne =
      subst (λ (o : Option ℕ). Aims names lives o (strong lane k))
      (sym (get_or-set_other targets (l * z.strong + number) (lane * z.strong + k) to None (λ e.
      let same = same_row z.strong lane l k number b small e in
      let rows : lane * z.strong ≡ l * z.strong = ap (λ (x : ℕ). x * z.strong) same in
      ne (same, omega (arith, e)))))
      (s.aims lane k a b)

  strong_set : StrongShow z names lives rewritten (set_at strong l (set_at (strong l) number name))
  strong_set = record {
    len = length-set targets (l * z.strong + number) to ∙ s.len;
    aims = λ lane k a b. at_set (λ (f : ℕ → Option Name). Aims names lives (target_at z.strong rewritten lane k) (f k)) strong l lane (set_at (strong l) number name)
        (λ same. at_set (λ (o : Option Name). Aims names lives (target_at z.strong rewritten lane k) o) (strong l) number k name
        (λ here. subst (λ (o : Option ℕ). Aims names lives o name) (sym (own lane k same here)) new)
        (λ ne. subst (λ (x : ℕ). Aims names lives (target_at z.strong rewritten lane k) (strong x k)) same (other lane k a b (λ both. both_ways _ ne (eq-eqb k number both.1)))))
        (λ ne. other lane k a b (λ both. both_ways _ ne (eq-eqb lane l both.0)));
    no_more = λ lane k out. at_set (λ (f : ℕ → Option Name). f k ≡ None) strong l lane (set_at (strong l) number name)
        (λ same. at_set (λ (o : Option Name). o ≡ None) (strong l) number k name
        (λ here. absurd (out (omega arith) (omega arith)))
        (λ ne. s.no_more l k (λ a b. out (omega arith) b)))
        (λ ne. s.no_more lane k out);
  }

module _ {z : Sizes} {p : Parts} {h : List Entry} {l : ℕ} (was : IsPlain z p h) (frame : IsInFrame z h l) (number : ℕ) (small : number < z.strong) where
  abbrev s : Shows z p (state_of h)
  s = was.shows

  abbrev place : ℕ
  place = l * z.strong + number

  pub place_below : place < length p.strong
  place_below = omega (arith, row_below z.strong l z.lanes number frame.in_range small, s.strong.len)

  aims : Aims p.names p.lives (target_at z.strong p.strong l number) ((after h).strong l number)
  aims = s.strong.aims l number frame.in_range small

  pub strong_named : (t : ℕ) → target_at z.strong p.strong l number ≡ Some t → IsSome (name_at p.names t)
  strong_named t e = let r = aims_target (target_at z.strong p.strong l number) ((after h).strong l number) t aims e in ap (λ (o : Option Name). is_some o) r.2.name

  pub strong_read : (got : Option Ref) → Refers p.names (target_at z.strong p.strong l number) got
      → Gives z p h (h ++ record { pass = Lane l; act = act.GetStrong number (name_of got) } ∷ []) l (act.GetStrong number (name_of got)) got
  strong_read got refers =
      let got_is = refers_name p.names p.lives (target_at z.strong p.strong l number) ((after h).strong l number) got aims refers in
      let done =
      does (Lane l) (act.GetStrong number (name_of got)) (act.GetStrong number (name_of got) ∷ []) was (refl, tt)
      (record { in_range = frame.in_range; frame = in_open was.rest.between frame.opened; may = (small, got_is) }, tt) s in
      record { done = done; given = given_held was frame (target_at z.strong p.strong l number) got h (act.GetStrong number (name_of got)) done.plain.legal (gives_it got) refers }

  module _ (old : Option Ref) (refers : Refers p.names (target_at z.strong p.strong l number) old) where
    old_is : name_of old ≡ (after h).strong l number
    old_is = refers_name p.names p.lives (target_at z.strong p.strong l number) ((after h).strong l number) old aims refers

    abbrev write_act : Option Ref → Act
    write_act to = act.SetStrong number (name_of to) (name_of old)

    abbrev write_entry : Option Ref → Entry
    write_entry to = record { pass = Lane l; act = write_act to }

    written : (to : Option Ref) → Stored was frame to
        → StrongShow z p.names p.lives (set p.strong place (index_of to)) (set_at (after h).strong l (set_at ((after h).strong l) number (name_of to)))
    written to k = strong_set l number (index_of to) (name_of to) frame.in_range small (stored_aims was frame to k) s.strong

    -- what a store does
    abbrev Written : Option Ref → Painted → List Entry → Type 0
    Written to c new = Gives z (record p { strong = set p.strong place (index_of to); colours = c }) h new l (write_act to) old

    -- nothing is marked
    stays : (to : Option Ref) → Stored was frame to → must_shade p.phase p.firsts p.marked to ≡ false → Written to p.colours (h ++ write_entry to ∷ [])
    stays to k e =
        let done = does (Lane l) (write_act to) (write_act to ∷ []) was (inl refl, tt) (
          record {
            in_range = frame.in_range;
            frame = in_open was.rest.between frame.opened;
            may = record { number = small; held = stored_names was frame to k; was = old_is; shaded = stored_shaded was frame to k e };
          },
          tt,
        )
        record {
          gate = s.gate;
          objects = s.objects;
          rows = s.rows;
          roots = s.roots;
          garbage = s.garbage;
          strong = written to k;
          pairs = s.pairs;
          colours = s.colours;
          stock = s.stock;
          ends = s.ends;
        } in
        record { done = done; given = given_held was frame (target_at z.strong p.strong l number) old h (write_act to) done.plain.legal (gives_it old) refers }

    -- the unit of the target is marked first
    shades : (r : Ref) (k : Holds record { history = h; names = p.names } l r) (e : p.phase ≡ Marking) → get_or p.marked (first_at p.firsts r.index) false ≡ false
        → Written (Some r) (greyed p.colours (first_at p.firsts r.index)) ((h ++ record { pass = Lane l; act = act.Kept r.name } ∷ []) ++ write_entry (Some r) ∷ [])
    shades r k e white =
        let note : Entry = record { pass = Lane l; act = act.Kept r.name } in
        let whole : h ++ note ∷ write_entry (Some r) ∷ [] ≡ (h ++ note ∷ []) ++ write_entry (Some r) ∷ [] = sym (append_assoc h (note ∷ []) (write_entry (Some r) ∷ [])) in
        let done =
        subst
        (λ (es : List Entry).
        Done z (record p { strong = set p.strong place (Some r.index); colours = greyed p.colours (first_at p.firsts r.index) }) h es (Lane l)
        (write_act (Some r))) whole
        (does (Lane l) (write_act (Some r)) (act.Kept r.name ∷ write_act (Some r) ∷ []) was (inr (r.name, refl), tt) (
          root.may_keep was frame k e white,
          (
            record {
              in_range = frame.in_range;
              frame = root.pays was frame k e white (root.own_member was frame k e white);
              may = record {
                number = small;
                held = holds_next (state_of h) (Lane l) (act.Kept r.name) refl l r.name k.given;
                was = old_is;
                shaded = λ m. root.now_shaded was frame k e white;
              };
            },
            tt,
          ),
        )
        record {
          gate = s.gate;
          objects = s.objects;
          rows = s.rows;
          roots = s.roots;
          garbage = s.garbage;
          strong = written (Some r) k;
          pairs = s.pairs;
          colours = root.shaded was frame k e white;
          stock = s.stock;
          ends = s.ends;
        }) in
        record { done = done; given = given_held was frame (target_at z.strong p.strong l number) old (h ++ note ∷ []) (write_act (Some r)) done.plain.legal (gives_it old) refers }

    pub strong_writes : (to : Option Ref) → Stored was frame to → {c : Painted} {mid : List Entry}
        → MarksIf (must_shade p.phase p.firsts p.marked to) (head_of p.firsts to) (shade_notes l to) p.colours c h mid → Written to c (mid ++ write_entry to ∷ [])
    strong_writes None k mi = let m = mi.stays refl in rw (m.0, m.1) (stays None k refl)
    strong_writes (Some r) k {c} {mid} mi = go (must_shade p.phase p.firsts p.marked (Some r)) refl
      where
        go : (b : Bool) → must_shade p.phase p.firsts p.marked (Some r) ≡ b → Written (Some r) c (mid ++ write_entry (Some r) ∷ [])
        go false e = let m = mi.stays e in rw (m.0, m.1) (stays (Some r) k e)
        go true e = let m = mi.marks e in let d = root.must p.phase (get_or p.marked (first_at p.firsts r.index) false) e in rw (m.0, m.1) (shades r k d.0 d.1)
