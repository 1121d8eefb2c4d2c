-- The lists of a new machine.
use Rattle.std.proofs.Common.{◌≡◌, ℕ, ◌*◌, ◌-◌, ◌||◌, not, nat_le, refl, sym, subst, ap, ◌∙◌, zero, suc, Bool, cond, nat_lt, true, false, List, [], length, replicate, Option, Some, None}
use Rattle.std.proofs.Math.Path.{fun_ext}
use Rattle.std.proofs.Math.ListN.{get_or}
use Rattle.std.proofs.lemmas.List.{length-replicate, get_or-replicate}
use Rattle.mark_core.specs.declared.types.ScanAt.{ScanAt}
use Rattle.mark_core.specs.Machine.{Idle, Nowhere, NoJob}
use Rattle.mark_core.specs.Shown.{Shown, state, sizes, own_cells, scan_of, root_of, IsShape, IsInUnit, HasSizes}
use Rattle.mark_core.specs.Start.{start}
use Rattle.mark_core.specs.Units.{Painted, Standing, marked_in, doomed_in}

pub record IsMade (s : Shown) : Type 0 where
  pub shape : IsShape s.shape
  pub phase : s.phase ≡ Idle
  pub dirty : s.dirty ≡ false
  pub lane_open : s.lane_open ≡ replicate s.shape.lanes false
  pub marker_open : s.marker_open ≡ replicate s.shape.markers false
  pub colours : s.colours ≡ record { parity = false; colour = replicate s.shape.units false; doomed = replicate s.shape.units false }
  pub targets : s.targets ≡ replicate (s.shape.units * s.shape.cells) None
  pub rooted : s.rooted ≡ replicate s.shape.units false
  pub strong : s.strong ≡ replicate s.shape.lanes None
  pub places : s.places ≡ record { places = replicate s.shape.units Nowhere; markers = s.shape.markers }
  pub scanned : s.scanned ≡ replicate s.shape.units false
  pub holds : s.holds ≡ replicate s.shape.lanes (replicate s.shape.units false)
  pub hand : s.hand ≡ replicate s.shape.lanes None
  pub lane_owes : s.lane_owes ≡ replicate s.shape.lanes false
  pub scan : s.scan ≡ replicate s.shape.markers None
  pub marker_owes : s.marker_owes ≡ replicate s.shape.markers false
  pub job : s.job ≡ NoJob
  pub own_hand : s.own_hand ≡ None
  pub own_found : s.own_found ≡ replicate s.shape.units false

-- a list of one thing is that thing everywhere
all_same : {A : Type 0} (d : A) (n i : ℕ) → get_or (replicate n d) i d ≡ d
all_same {A} d zero i = refl
all_same {A} d (suc n) zero = refl
all_same {A} d (suc n) (suc i) = all_same d n i

len_of : {A : Type 0} (xs : List A) (n : ℕ) (d : A) → xs ≡ replicate n d → length xs ≡ n
len_of {A} xs n d e = ap (λ (ys : List A). length ys) e ∙ length-replicate n d

each_of : {A : Type 0} (xs : List A) (n : ℕ) (d : A) → xs ≡ replicate n d → (i : ℕ) → get_or xs i d ≡ d
each_of {A} xs n d e i = ap (λ (ys : List A). get_or ys i d) e ∙ all_same d n i

no_scan_in : (s : Shown) (m : ℕ) → s.scan ≡ replicate s.shape.markers None → IsInUnit s.shape (get_or s.scan m None)
no_scan_in s m e = subst (λ (o : Option ScanAt). IsInUnit s.shape o) (sym (each_of {A = Option ScanAt} s.scan s.shape.markers None e m)) tt

pub made_sizes : (s : Shown) → IsMade s → HasSizes s
made_sizes s h = record {
  shape = h.shape;
  lane_open_len = len_of s.lane_open s.shape.lanes false h.lane_open;
  marker_open_len = len_of s.marker_open s.shape.markers false h.marker_open;
  colours_len = ap (λ (p : Painted). length p.colour) h.colours ∙ length-replicate s.shape.units false;
  targets_len = len_of s.targets (s.shape.units * s.shape.cells) None h.targets;
  rooted_len = len_of s.rooted s.shape.units false h.rooted;
  strong_len = len_of s.strong s.shape.lanes None h.strong;
  places_len = ap (λ (p : Standing). length p.places) h.places ∙ length-replicate s.shape.units Nowhere;
  stacks_len = ap (λ (p : Standing). p.markers) h.places;
  scanned_len = len_of s.scanned s.shape.units false h.scanned;
  holds_len = len_of s.holds s.shape.lanes (replicate s.shape.units false) h.holds;
  held_len =
      λ l lt.
      ap (λ (xs : List (List Bool)). length (get_or xs l [])) h.holds
      ∙ (ap (λ (xs : List Bool). length xs) (get_or-replicate s.shape.lanes l (replicate s.shape.units false) [] lt)
      ∙ length-replicate s.shape.units false);
  hand_len = len_of s.hand s.shape.lanes None h.hand;
  lane_owes_len = len_of s.lane_owes s.shape.lanes false h.lane_owes;
  scan_len = len_of s.scan s.shape.markers None h.scan;
  scan_in = λ m. no_scan_in s m h.scan;
  marker_owes_len = len_of s.marker_owes s.shape.markers false h.marker_owes;
  found_len = len_of s.own_found s.shape.units false h.own_found;
}

held_none : (lanes units l u : ℕ) → get_or (get_or (replicate lanes (replicate units false)) l []) u false ≡ false
held_none zero units l u = refl
held_none (suc n) units zero u = all_same false units u
held_none (suc n) units (suc l) u = held_none n units l u

no_root : (units : ℕ) (rooted : List Bool) (strong : List (Option ℕ)) (n : ℕ) → rooted ≡ replicate units false → strong ≡ replicate n None → (p : ℕ) → root_of units rooted strong p ≡ None
no_root units rooted strong n e f p = go (nat_lt p units) (get_or rooted p false) (each_of rooted units false e p) (each_of {A = Option ℕ} strong n None f (p - units))
  where
    go : (b on : Bool) → on ≡ false → get_or strong (p - units) None ≡ None → cond b (cond on (Some p) None) (get_or strong (p - units) None) ≡ None
    go true true h k = absurd cc
    go true false h k = refl
    go false on h k = k

not_doomed : (units u : ℕ) → doomed_in (record { parity = false; colour = replicate units false; doomed = replicate units false }) u ≡ nat_le units u
not_doomed units u =
    ap (λ (n : ℕ). nat_le n u || get_or (replicate units false) u false) (length-replicate units false)
    ∙ (ap (λ (b : Bool). nat_le units u || b) (all_same false units u) ∙ or_false (nat_le units u))
  where
    or_false : (b : Bool) → (b || false) ≡ b
    or_false true = refl
    or_false false = refl

all_marked : (units u : ℕ) → marked_in (record { parity = false; colour = replicate units false; doomed = replicate units false }) u ≡ true
all_marked units u = ap (λ (b : Bool). not b) (all_same false units u)

pub made_state : (s : Shown) → IsMade s → state s ≡ start (sizes s.shape) (own_cells s.shape)
made_state s h =
    let lane_open = fun_ext (each_of s.lane_open s.shape.lanes false h.lane_open) in
    let marker_open = fun_ext (each_of s.marker_open s.shape.markers false h.marker_open) in
    let doomed = ap doomed_in h.colours ∙ fun_ext (not_doomed s.shape.units) in
    let marked = ap marked_in h.colours ∙ fun_ext (all_marked s.shape.units) in
    let parity = ap (λ (p : Painted). p.parity) h.colours in
    let cell = fun_ext (each_of {A = Option ℕ} s.targets (s.shape.units * s.shape.cells) None h.targets) in
    let root = fun_ext (no_root s.shape.units s.rooted s.strong s.shape.lanes h.rooted h.strong) in
    let place = ap (λ (p : Standing). λ (u : ℕ). get_or p.places u Nowhere) h.places ∙ fun_ext (all_same Nowhere s.shape.units) in
    let scanned = fun_ext (each_of s.scanned s.shape.units false h.scanned) in
    let holds = ap (λ (xs : List (List Bool)). λ (l u : ℕ). get_or (get_or xs l []) u false) h.holds ∙ fun_ext (λ l. fun_ext (held_none s.shape.lanes s.shape.units l)) in
    let hand = fun_ext (each_of {A = Option ℕ} s.hand s.shape.lanes None h.hand) in
    let lane_owes = fun_ext (each_of s.lane_owes s.shape.lanes false h.lane_owes) in
    let scan = fun_ext (λ m. ap (scan_of s.shape) (each_of {A = Option ScanAt} s.scan s.shape.markers None h.scan m)) in
    let marker_owes = fun_ext (each_of s.marker_owes s.shape.markers false h.marker_owes) in
    let own_found = fun_ext (each_of s.own_found s.shape.units false h.own_found) in
    λ i. record {
      phase = h.phase i;
      parity = parity i;
      dirty = h.dirty i;
      lane_open = lane_open i;
      marker_open = marker_open i;
      doomed = doomed i;
      marked = marked i;
      cells = own_cells s.shape;
      cell = cell i;
      root = root i;
      place = place i;
      scanned = scanned i;
      holds = holds i;
      hand = hand i;
      lane_owes = lane_owes i;
      scan = scan i;
      marker_owes = marker_owes i;
      job = h.job i;
      own_hand = h.own_hand i;
      own_found = own_found i;
    }
