-- Marking units in a row.
use Rattle.std.proofs.Common.{◌≡◌, ◌≢◌, ℕ, ◌+◌, ◌*◌, ◌<◌, ◌≤◌, ◌⊎◌, refl, sym, subst, ap, ◌∙◌, inl, inr, arith, Bool, true, false, List, [], ◌∷◌, ◌++◌, append_assoc, append-nil, length, length-append, get_or, map, Option, Some, None}
use Rattle.std.proofs.Math.ListN.{set}
use Rattle.std.proofs.Math.Logic.{dite}
use Rattle.std.proofs.Math.Decide.{ℕ_discrete}
use Rattle.std.proofs.lemmas.List.{length-set, get_or-set_same, map-append}
use Rattle.world_model.specs.Calls.{by}
use Rattle.heap_plain.specs.Types.{Name, Kind, Act, Pass, Entry}
use Rattle.heap_plain.specs.Types.act
use Rattle.heap_plain.specs.Parts.{name_at, first_at, kind_at, target_at}
use Rattle.heap_plain.specs.Listing.{chained}
use Rattle.heap_plain.specs.Notes.{names_at}
use Rattle.heap_plain.specs.Painted.{Painted, IsNextGrey, IsWorklist, greyed, all_greyed}
use Rattle.heap_plain.specs.Shading.{InRoots, InRow, InStrong, InUnit, CanShade, Shades, root_bit}
use Rattle.heap_plain.proofs.Noting.{names_at-append, one_name}
use Rattle.heap_plain.proofs.MarkSteps.{set_still, worklist_push}
use Rattle.world_model.proofs.Joins.{by-append}

-- ---- lists of units

pub all_greyed-append : (c : Painted) (xs ys : List ℕ) → all_greyed c (xs ++ ys) ≡ all_greyed (all_greyed c xs) ys
all_greyed-append c [] ys = refl
all_greyed-append c (x ∷ xs) ys = all_greyed-append (greyed c x) xs ys

all_still : (c : Painted) (xs : List ℕ) (i : ℕ) → get_or c.marked i false ≡ true → get_or (all_greyed c xs).marked i false ≡ true
all_still c [] i e = e
all_still c (x ∷ xs) i e = all_still (greyed c x) xs i (set_still c.marked x i e)

marked_len : (c : Painted) (xs : List ℕ) → length (all_greyed c xs).marked ≡ length c.marked
marked_len c [] = refl
marked_len c (x ∷ xs) = marked_len (greyed c x) xs ∙ length-set c.marked x true

scanned_is : (c : Painted) (xs : List ℕ) → (all_greyed c xs).scanned ≡ c.scanned
scanned_is c [] = refl
scanned_is c (x ∷ xs) = scanned_is (greyed c x) xs

can_shade : (firsts : List ℕ) {At All : ℕ → Type 0} → ((t : ℕ) → At t → All t) → (bits : List Bool) (xs : List ℕ) → CanShade firsts At bits xs → CanShade firsts All bits xs
can_shade firsts more bits [] h = tt
can_shade firsts more bits (x ∷ xs) h = ((h.0.0, more h.0.0 h.0.1, h.0.2), h.1, can_shade firsts more (set bits x true) xs h.2)

can_join : (firsts : List ℕ) (At : ℕ → Type 0) (c : Painted) (xs ys : List ℕ) → CanShade firsts At c.marked xs → CanShade firsts At (all_greyed c xs).marked ys
    → CanShade firsts At c.marked (xs ++ ys)
can_join firsts At c [] ys a b = b
can_join firsts At c (x ∷ xs) ys a b = (a.0, a.1, can_join firsts At (greyed c x) xs ys a.2 b)

-- ---- units in a row

module _ {names : List (Option Name)} {firsts : List ℕ} {pass : Pass} where
  -- where all units are marked, nothing changes
  pub shades_stay : {At : ℕ → Type 0} {c : Painted} {diary : List Entry} → IsWorklist c → ((t : ℕ) → At t → get_or c.marked (first_at firsts t) false ≡ true)
      → Shades names firsts At pass c c diary diary
  shades_stay {diary = diary} fits each = record { heads = []; colours = refl; entries = sym (append-nil diary); can = tt; each = each; fits = fits }

  -- one white unit
  pub shades_one : {At : ℕ → Type 0} {c : Painted} {diary : List Entry} (t : ℕ) (n : Name) → At t → ((r : ℕ) → At r → r ≡ t) → first_at firsts t < length c.marked
      → get_or c.marked (first_at firsts t) false ≡ false → name_at names (first_at firsts t) ≡ Some n → IsWorklist c
      → Shades names firsts At pass c (greyed c (first_at firsts t)) diary (diary ++ record { pass = pass; act = act.Kept n } ∷ [])
  shades_one {c = c} {diary} t n there alone inside white named fits = record {
    heads = first_at firsts t ∷ [];
    colours = refl;
    entries = ap (λ (ns : List Name). diary ++ by pass (map act.Kept ns)) (sym (one_name names (first_at firsts t) n named));
    can = ((t, there, refl), white, tt);
    each = λ r a. ap (λ (x : ℕ). get_or (set c.marked (first_at firsts t) true) (first_at firsts x) false) (alone r a) ∙ get_or-set_same c.marked (first_at firsts t) true false inside;
    fits = worklist_push (first_at firsts t) fits inside white;
  }

  -- first those of some indexes, and then those of the others
  pub shades_join : {First Second All : ℕ → Type 0} {c mid c' : Painted} {old diary new : List Entry}
      → ((t : ℕ) → First t → All t) → ((t : ℕ) → Second t → All t) → ((t : ℕ) → All t → First t ⊎ Second t)
      → Shades names firsts First pass c mid old diary → Shades names firsts Second pass mid c' diary new → Shades names firsts All pass c c' old new
  shades_join {First = First} {Second = Second} {All = All} {c} {mid} {c'} {old} {diary} {new} left right either a b = record {
    heads = a.heads ++ b.heads;
    colours = b.colours ∙ ap (λ (x : Painted). all_greyed x b.heads) a.colours ∙ sym (all_greyed-append c a.heads b.heads);
    entries = b.entries ∙ ap (λ (es : List Entry). es ++ by pass (map act.Kept (names_at names b.heads))) a.entries
        ∙ append_assoc old (by pass (map act.Kept (names_at names a.heads))) (by pass (map act.Kept (names_at names b.heads)))
        ∙ ap (λ (es : List Entry). old ++ es) (sym notes);
    can =
        can_join firsts All c a.heads b.heads (can_shade firsts left c.marked a.heads a.can)
        (subst (λ (x : Painted). CanShade firsts All x.marked b.heads) a.colours (can_shade firsts right mid.marked b.heads b.can));
    each = λ t h. each t (either t h);
    fits = b.fits;
  }
    where
      notes : by pass (map act.Kept (names_at names (a.heads ++ b.heads))) ≡ by pass (map act.Kept (names_at names a.heads)) ++ by pass (map act.Kept (names_at names b.heads))
      notes =
          ap (λ (ns : List Name). by pass (map act.Kept ns)) (names_at-append names a.heads b.heads)
          ∙ ap (λ (acts : List Act). by pass acts) (map-append act.Kept (names_at names a.heads) (names_at names b.heads))
          ∙ by-append pass (map act.Kept (names_at names a.heads)) (map act.Kept (names_at names b.heads))

      each : (t : ℕ) → First t ⊎ Second t → get_or c'.marked (first_at firsts t) false ≡ true
      each t (inl h) = ap (λ (x : Painted). get_or x.marked (first_at firsts t) false) b.colours ∙ all_still mid b.heads (first_at firsts t) (a.each t h)
      each t (inr h) = b.each t h

pub shades_len : {names : List (Option Name)} {firsts : List ℕ} {At : ℕ → Type 0} {pass : Pass} {c c' : Painted} {old new : List Entry}
    → Shades names firsts At pass c c' old new → length c'.marked ≡ length c.marked
shades_len {c = c} k = ap (λ (x : Painted). length x.marked) k.colours ∙ marked_len c k.heads

pub black_is : {names : List (Option Name)} {firsts : List ℕ} {At : ℕ → Type 0} {pass : Pass} {c c' : Painted} {old new : List Entry}
    → Shades names firsts At pass c c' old new → c'.scanned ≡ c.scanned
black_is {c = c} k = ap (λ (x : Painted). x.scanned) k.colours ∙ scanned_is c k.heads

-- what was grey is listed still
pub black_few : {names : List (Option Name)} {firsts : List ℕ} {At : ℕ → Type 0} {pass : Pass} {c c' : Painted} {old new : List Entry} {head : ℕ}
    → IsNextGrey c head → Shades names firsts At pass c c' old new → c'.scanned < length c'.listed
black_few {c = c} {c'} first k = let e = ap (λ (x : Painted). length x.listed) k.colours in omega (arith, e, black_is k, more c k.heads, first.some)
  where
    more : (c : Painted) (xs : List ℕ) → length c.listed ≤ length (all_greyed c xs).listed
    more c [] = omega arith
    more c (x ∷ xs) = omega (arith, more (greyed c x) xs, length-append c.listed (x ∷ []))

-- ---- root bits

pub bit_root : (roots : List Bool) (i t : ℕ) → root_bit roots i ≡ Some t → (t ≡ i) × (get_or roots i false ≡ true)
bit_root roots i t e = go (get_or roots i false) refl e
  where
    go : (b : Bool) → get_or roots i false ≡ b → root_bit roots i ≡ Some t → (t ≡ i) × (get_or roots i false ≡ true)
    go true is e = let at : Some i ≡ Some t = rw is at e in let same : i ≡ t = cc in (sym same, is)
    go false is e = absurd (let none : None ≡ Some t = rw is at e in cc)

pub roots_more : (roots : List Bool) (k t : ℕ) → InRoots roots (k + 1) t → InRoots roots k t ⊎ (root_bit roots k ≡ Some t)
roots_more roots k t (below, is) = dite (ℕ_discrete t k)
    (λ (e : t ≡ k). let bit : get_or roots k false ≡ true = ap (λ (x : ℕ). get_or roots x false) (sym e) ∙ is in inr (rw bit (ap (λ (x : ℕ). Some x) (sym e))))
    (λ (ne : t ≢ k). inl (omega arith, is))

-- ---- the cells of a row, and of a unit

pub row_more : (targets : List (Option ℕ)) (row k t : ℕ) → InRow targets row (k + 1) t → InRow targets row k t ⊎ (get_or targets (row + k) None ≡ Some t)
row_more targets row k t (slot, below, at) = dite (ℕ_discrete slot k)
    (λ (e : slot ≡ k). inr (ap (λ (x : ℕ). get_or targets (row + x) None) (sym e) ∙ at))
    (λ (ne : slot ≢ k). inl (slot, omega arith, at))

-- the strong pointers of one lane more
pub strong_more : (strong : List (Option ℕ)) (each k t : ℕ) → InStrong strong each (k + 1) t → InStrong strong each k t ⊎ InRow strong (k * each) each t
strong_more strong each k t (lane, number, a, b, e) = dite (ℕ_discrete lane k)
    (λ (same : lane ≡ k). inr (number, b, ap (λ (x : ℕ). target_at each strong x number) (sym same) ∙ e))
    (λ (ne : lane ≢ k). inl (lane, number, omega arith, b, e))

module _ (kinds : List Kind) (slots : ℕ) (targets : List (Option ℕ)) (links : List ℕ) (head : ℕ) where
  pub unit_more : (k n t : ℕ) → k ≤ n → InUnit kinds slots targets links head k t → InUnit kinds slots targets links head n t
  unit_more k n t le (j, slot, below, low, at) = (j, slot, omega arith, low, at)

  -- the cells of one member
  pub row_unit : (index k n t : ℕ) → k < n → index ≡ chained links head k → InRow targets (index * slots) (kind_at kinds index).refs t → InUnit kinds slots targets links head n t
  row_unit index k n t below is (slot, low, at) = (k, slot, below, subst (λ (x : ℕ). slot < (kind_at kinds x).refs) is low, ap (λ (x : ℕ). target_at slots targets x slot) (sym is) ∙ at)

  pub unit_row : (index k t : ℕ) → index ≡ chained links head k → InUnit kinds slots targets links head (k + 1) t
      → InUnit kinds slots targets links head k t ⊎ InRow targets (index * slots) (kind_at kinds index).refs t
  unit_row index k t is (j, slot, below, low, at) = dite (ℕ_discrete j k)
      (λ (e : j ≡ k).
      let here : chained links head j ≡ index = ap (λ (x : ℕ). chained links head x) e ∙ sym is in
      inr (slot, subst (λ (x : ℕ). slot < (kind_at kinds x).refs) here low, ap (λ (x : ℕ). target_at slots targets x slot) (sym here) ∙ at))
      (λ (ne : j ≢ k). inl (j, slot, omega arith, low, at))
