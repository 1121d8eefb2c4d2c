-- Opening and closing a frame.
use Rattle.std.proofs.Common.{◌≡◌, ◌≢◌, ℕ, ◌<◌, ◌==◌, Bool, cond, true, false, not, List, [], ◌∷◌, ◌++◌, get_or, refl, sym, ap, ◌∙◌, subst, arith, filter}
use Rattle.std.specs.List.{list_any}
use Rattle.std.proofs.Math.ListN.{set}
use Rattle.std.proofs.lemmas.Bool.{both_ways, ne_eqb}
use Rattle.std.proofs.lemmas.List.Sums.{sum_by-set}
use Rattle.world_model.specs.Sizes.{Sizes}
use Rattle.world_model.specs.NameLists.{same_pass, has}
use Rattle.world_model.specs.World.{is_open}
use Rattle.world_model.specs.State.{Frame, no_frame}
use Rattle.world_model.specs.Histories.{after, state_of}
use Rattle.world_model.proofs.Frames.{same_pass_true, few_open_holds, any_kept}
use Rattle.world_model.proofs.Inductions.{one_more}
use Rattle.world_model.proofs.Removals.{held_lives_holds}
use Rattle.heap_plain.specs.Types.{Ref, Pass, Lane, Entry}
use Rattle.heap_plain.specs.Types.act
use Rattle.heap_plain.specs.Parts.{Parts, Holds}
use Rattle.heap_plain.specs.Gates.{FramesShow}
use Rattle.heap_plain.specs.Plain.{IsPlain}
use Rattle.heap_plain.proofs.WorldFacts.{at_set, set_at_other, same_pass_refl, any_left, one_out}
use Rattle.heap_plain.proofs.Fillings.{Lists-set}
use Rattle.heap_plain.proofs.Resting.{in_open}
use Rattle.heap_plain.proofs.Entries.{Done, does}

-- the gate with another frame bit
abbrev pub with_frame : Parts → ℕ → Bool → Parts
with_frame p l on = record p { gate = record (p.gate) { frames = set p.frames l on } }

-- ---- opening

frames_open : (z : Sizes) (frames : List Bool) (opened : List Pass) (l : ℕ) → FramesShow z frames opened → l < z.lanes
    → list_any (same_pass (Lane l)) opened ≡ false → FramesShow z (set frames l true) (Lane l ∷ opened)
frames_open z frames opened l s lane closed = record {
  lanes =
      Lists-set frames z.lanes l true (λ k. list_any (same_pass (Lane k)) opened) _ s.lanes lane (let t = same_pass_refl (Lane l) in rw t refl)
      (λ k ne. let t : (k == l) ≡ false = ne_eqb k l ne in rw t refl);
  count = let t = sum_by-set (λ b. cond {A = ℕ} b 1 0) frames l true false (omega (arith, s.lanes.len)) in
      let bit : cond {A = ℕ} (get_or frames l false) 1 0 ≡ 0 = ap (λ (b : Bool). cond {A = ℕ} b 1 0) (s.lanes.each l false lane ∙ closed) in
      omega (arith, s.count);
}

pub opens : (z : Sizes) (p : Parts) (h : List Entry) (l : ℕ) → IsPlain z p h → l < z.lanes → is_open (after h) (Lane l) ≡ false
    → Done z (with_frame p l true) h (h ++ record { pass = Lane l; act = act.FrameOpen p.phase } ∷ []) (Lane l) (act.FrameOpen p.phase)
opens z p h l was lane closed =
    let s = was.shows in
    does (Lane l) (act.FrameOpen p.phase) (act.FrameOpen p.phase ∷ []) was (refl, tt) (record { in_range = lane; frame = closed; may = s.phase }, tt)
    record {
      gate = record { phase = s.phase; frames = frames_open z p.frames _ l s.frames lane closed };
      objects = s.objects;
      rows = s.rows;
      roots = s.roots;
      garbage = s.garbage;
      strong = s.strong;
      pairs = s.pairs;
      colours = s.colours;
      stock = s.stock;
      ends = s.ends;
    }

-- what others hold they hold, and the lane held nothing
pub held_opens : (z : Sizes) (p : Parts) (h : List Entry) (l : ℕ) → IsPlain z p h → is_open (after h) (Lane l) ≡ false → (k : ℕ) (r : Ref)
    → Holds record { history = h; names = p.names } k r → Holds record { history = h ++ record { pass = Lane l; act = act.FrameOpen p.phase } ∷ []; names = p.names } k r
held_opens z p h l was closed k r held = record {
  given = ap (λ s. has (s.frames k).held r.name) (one_more h (record { pass = Lane l; act = act.FrameOpen p.phase }))
      ∙ at_set (λ (f : Frame). has f.held r.name ≡ true) (state_of h).frames l k no_frame
      (λ e. absurd (both_ways _ closed (subst (λ (i : ℕ). is_open (after h) (Lane i) ≡ true) e (held_lives_holds z h was.legal k r.name held.given).1))) (λ ne. held.given);
  placed = held.placed;
  alone = held.alone;
}

-- ---- closing

other_lane : (l k : ℕ) (q : Pass) → k ≢ l → same_pass (Lane k) q ≡ true → not (same_pass (Lane l) q) ≡ true
other_lane l k q ne h = subst (λ (x : Pass). not (same_pass (Lane l) x) ≡ true) (same_pass_true (Lane k) q h) (let t : (l == k) ≡ false = ne_eqb l k (λ e. ne (sym e)) in rw t refl)

pub closes : (z : Sizes) (p : Parts) (h : List Entry) (l : ℕ) → IsPlain z p h → l < z.lanes → is_open (after h) (Lane l) ≡ true
    → Done z (with_frame p l false) h (h ++ record { pass = Lane l; act = act.FrameClose } ∷ []) (Lane l) act.FrameClose
closes z p h l was lane is =
    let s = was.shows in
    does (Lane l) act.FrameClose (act.FrameClose ∷ []) was (refl, tt) (record { in_range = lane; frame = in_open was.rest.between is; may = tt }, tt)
    record {
      gate = record { phase = s.phase; frames = frames_close s.frames };
      objects = s.objects;
      rows = s.rows;
      roots = s.roots;
      garbage = s.garbage;
      strong = s.strong;
      pairs = s.pairs;
      colours = s.colours;
      stock = s.stock;
      ends = s.ends;
    }
  where
    frames_close : FramesShow z p.frames (after h).opened → FramesShow z (set p.frames l false) (filter (λ q. not (same_pass (Lane l) q)) (after h).opened)
    frames_close s = record {
      lanes =
          Lists-set p.frames z.lanes l false (λ k. list_any (same_pass (Lane k)) (after h).opened) _ s.lanes lane
          (any_left (same_pass (Lane l)) (after h).opened) (λ k ne. any_kept (same_pass (Lane k)) _ (after h).opened (λ q. other_lane l k q ne));
      count = let t = sum_by-set (λ b. cond {A = ℕ} b 1 0) p.frames l false false (omega (arith, s.lanes.len)) in
          let bit : cond {A = ℕ} (get_or p.frames l false) 1 0 ≡ 1 = ap (λ (b : Bool). cond {A = ℕ} b 1 0) (s.lanes.each l false lane ∙ is) in
          omega (arith, s.count, one_out (Lane l) (after h).opened ((few_open_holds z h was.legal).once (Lane l)) is);
    }

pub held_closes : (h : List Entry) (names : List _) (l k : ℕ) (r : Ref) → k ≢ l → Holds record { history = h; names = names } k r
    → Holds record { history = h ++ record { pass = Lane l; act = act.FrameClose } ∷ []; names = names } k r
held_closes h names l k r ne held = record {
  given = ap (λ s. has (s.frames k).held r.name) (one_more h (record { pass = Lane l; act = act.FrameClose })) ∙ (rw (set_at_other (state_of h).frames l k no_frame ne) held.given);
  placed = held.placed;
  alone = held.alone;
}
