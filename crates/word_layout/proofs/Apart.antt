-- Each part has a place of its own.
use Rattle.std.proofs.Common.{◌≡◌, ℕ, zero, suc, ◌+◌, ◌*◌, ◌<◌, ◌≤◌, refl, sym, ap, ◌∙◌, subst, inl, inr, ◌⊎◌, arith, List, [], ◌∷◌}
use Rattle.std.proofs.Math.Nat.{mul-le-mul_right}
use Rattle.std.proofs.lemmas.Bool.{cases_order}
use Rattle.world_model.specs.Sizes.{Sizes, item_count}
use Rattle.word_layout.specs.Types.{Part}
use Rattle.word_layout.specs.Types.part
use Rattle.word_layout.specs.Places.{row_words, IsPart, place, PlacesFit, PlacesDiffer}

-- ---- rows of a table

-- a row ends before a later one begins
row_before : (i j n : ℕ) → i < j → i * n + n ≤ j * n
row_before i j n lt = let all = mul-le-mul_right n (let h : i + 1 ≤ j = omega arith in h) in omega (arith, all)

-- each place of a table is within it
row_inside : (i m n s : ℕ) → i < m → s < n → i * n + s < m * n
row_inside i m n s lt less = let b = row_before i m n lt in omega arith

-- and is that of one row and one column
row_once : (i j n s t : ℕ) → s < n → t < n → i * n + s ≡ j * n + t → (i ≡ j) × (s ≡ t)
row_once i j n s t sl tl e = go (cases_order i j)
  where
    go : (i ≡ j) ⊎ ((i < j) ⊎ (j < i)) → (i ≡ j) × (s ≡ t)
    go (inl same) = (same, let rows : i * n ≡ j * n = ap (λ k. k * n) same in omega arith)
    go (inr (inl lt)) = absurd (let b = row_before i j n lt in omega arith)
    go (inr (inr lt)) = absurd (let b = row_before j i n lt in omega arith)

-- ---- kinds of parts, numbered in the order of their places

abbrev region : Part → ℕ
region part.Gate = 0
region part.Cursor = 1
region part.Removed = 2
region part.Left = 3
region part.Polling = 4
region (part.FreeStock a) = 5
region (part.ReturnStock a) = 6
region (part.NamesMade a) = 7
region (part.SerialsMade a) = 8
region (part.Strong a b) = 9
region (part.Root a) = 10
region (part.Row a b) = 11
region (part.Head a) = 12
region (part.Owner a) = 13
region (part.Next a) = 14
region (part.NameOf a) = 15
region (part.KindOf a) = 16
region (part.Serial a) = 17
region (part.Cell a b) = 18

abbrev first : Part → ℕ
first part.Gate = 0
first part.Cursor = 0
first part.Removed = 0
first part.Left = 0
first part.Polling = 0
first (part.FreeStock a) = a
first (part.ReturnStock a) = a
first (part.NamesMade a) = a
first (part.SerialsMade a) = a
first (part.Strong a b) = a
first (part.Root a) = a
first (part.Row a b) = a
first (part.Head a) = a
first (part.Owner a) = a
first (part.Next a) = a
first (part.NameOf a) = a
first (part.KindOf a) = a
first (part.Serial a) = a
first (part.Cell a b) = a

abbrev second : Part → ℕ
second part.Gate = 0
second part.Cursor = 0
second part.Removed = 0
second part.Left = 0
second part.Polling = 0
second (part.FreeStock a) = 0
second (part.ReturnStock a) = 0
second (part.NamesMade a) = 0
second (part.SerialsMade a) = 0
second (part.Strong a b) = b
second (part.Root a) = 0
second (part.Row a b) = b
second (part.Head a) = 0
second (part.Owner a) = 0
second (part.Next a) = 0
second (part.NameOf a) = 0
second (part.KindOf a) = 0
second (part.Serial a) = 0
second (part.Cell a b) = b

-- the part of these numbers
part_at : ℕ → ℕ → ℕ → Part
part_at zero a b = part.Gate
part_at (suc zero) a b = part.Cursor
part_at (suc (suc zero)) a b = part.Removed
part_at (suc (suc (suc zero))) a b = part.Left
part_at (suc (suc (suc (suc zero)))) a b = part.Polling
part_at (suc (suc (suc (suc (suc zero))))) a b = part.FreeStock a
part_at (suc (suc (suc (suc (suc (suc zero)))))) a b = part.ReturnStock a
part_at (suc (suc (suc (suc (suc (suc (suc zero))))))) a b = part.NamesMade a
part_at (suc (suc (suc (suc (suc (suc (suc (suc zero)))))))) a b = part.SerialsMade a
part_at (suc (suc (suc (suc (suc (suc (suc (suc (suc zero))))))))) a b = part.Strong a b
part_at (suc (suc (suc (suc (suc (suc (suc (suc (suc (suc zero)))))))))) a b = part.Root a
part_at (suc (suc (suc (suc (suc (suc (suc (suc (suc (suc (suc zero))))))))))) a b = part.Row a b
part_at (suc (suc (suc (suc (suc (suc (suc (suc (suc (suc (suc (suc zero)))))))))))) a b = part.Head a
part_at (suc (suc (suc (suc (suc (suc (suc (suc (suc (suc (suc (suc (suc zero))))))))))))) a b = part.Owner a
part_at (suc (suc (suc (suc (suc (suc (suc (suc (suc (suc (suc (suc (suc (suc zero)))))))))))))) a b = part.Next a
part_at (suc (suc (suc (suc (suc (suc (suc (suc (suc (suc (suc (suc (suc (suc (suc zero))))))))))))))) a b = part.NameOf a
part_at (suc (suc (suc (suc (suc (suc (suc (suc (suc (suc (suc (suc (suc (suc (suc (suc zero)))))))))))))))) a b = part.KindOf a
part_at (suc (suc (suc (suc (suc (suc (suc (suc (suc (suc (suc (suc (suc (suc (suc (suc (suc zero))))))))))))))))) a b = part.Serial a
part_at (suc (suc (suc (suc (suc (suc (suc (suc (suc (suc (suc (suc (suc (suc (suc (suc (suc (suc zero)))))))))))))))))) a b = part.Cell a b
part_at (suc (suc (suc (suc (suc (suc (suc (suc (suc (suc (suc (suc (suc (suc (suc (suc (suc (suc (suc n))))))))))))))))))) a b = part.Gate

part_again : (p : Part) → part_at (region p) (first p) (second p) ≡ p
unfolding part_at
part_again part.Gate = refl
part_again part.Cursor = refl
part_again part.Removed = refl
part_again part.Left = refl
part_again part.Polling = refl
part_again (part.FreeStock a) = refl
part_again (part.ReturnStock a) = refl
part_again (part.NamesMade a) = refl
part_again (part.SerialsMade a) = refl
part_again (part.Strong a b) = refl
part_again (part.Root a) = refl
part_again (part.Row a b) = refl
part_again (part.Head a) = refl
part_again (part.Owner a) = refl
part_again (part.Next a) = refl
part_again (part.NameOf a) = refl
part_again (part.KindOf a) = refl
part_again (part.Serial a) = refl
part_again (part.Cell a b) = refl

-- how many words each kind has
abbrev sizes : Sizes → List ℕ
sizes z =
    1 ∷ 1 ∷ 1 ∷ 1 ∷ 1 ∷ z.lanes ∷ z.lanes ∷ z.lanes ∷ z.lanes ∷ z.lanes * z.strong ∷ row_words z ∷ (z.markers + 1) * row_words z ∷ item_count z
    ∷ item_count z ∷ item_count z ∷ item_count z ∷ item_count z ∷ item_count z ∷ item_count z * z.slots ∷ []

-- and how many stand in a row
abbrev widths : Sizes → List ℕ
widths z = 1 ∷ 1 ∷ 1 ∷ 1 ∷ 1 ∷ 1 ∷ 1 ∷ 1 ∷ 1 ∷ z.strong ∷ 1 ∷ row_words z ∷ 1 ∷ 1 ∷ 1 ∷ 1 ∷ 1 ∷ 1 ∷ z.slots ∷ []

-- where the kind of a number begins
abbrev begins : List ℕ → ℕ → ℕ
begins ns zero = 0
begins [] (suc r) = 0
begins (n ∷ ns) (suc r) = n + begins ns r

abbrev nth : List ℕ → ℕ → ℕ
nth [] r = 1
nth (n ∷ ns) zero = n
nth (n ∷ ns) (suc r) = nth ns r

begins_order : (ns : List ℕ) (r k : ℕ) → r < k → begins ns (suc r) ≤ begins ns k
begins_order ns r zero lt = absurd (omega arith)
begins_order [] r (suc k) lt = omega arith
begins_order (n ∷ ns) zero (suc k) lt = omega arith
begins_order (n ∷ ns) (suc r) (suc k) lt = let on = begins_order ns r k (omega arith) in omega arith

region_few : (p : Part) → region p < 19
region_few part.Gate = omega arith
region_few part.Cursor = omega arith
region_few part.Removed = omega arith
region_few part.Left = omega arith
region_few part.Polling = omega arith
region_few (part.FreeStock a) = omega arith
region_few (part.ReturnStock a) = omega arith
region_few (part.NamesMade a) = omega arith
region_few (part.SerialsMade a) = omega arith
region_few (part.Strong a b) = omega arith
region_few (part.Root a) = omega arith
region_few (part.Row a b) = omega arith
region_few (part.Head a) = omega arith
region_few (part.Owner a) = omega arith
region_few (part.Next a) = omega arith
region_few (part.NameOf a) = omega arith
region_few (part.KindOf a) = omega arith
region_few (part.Serial a) = omega arith
region_few (part.Cell a b) = omega arith

-- a part stands within its kind
inside : (z : Sizes) (p : Part) → IsPart z p → (begins (sizes z) (region p) ≤ place z p) × (place z p < begins (sizes z) (suc (region p)))
inside z part.Gate h = (omega arith, omega arith)
inside z part.Cursor h = (omega arith, omega arith)
inside z part.Removed h = (omega arith, omega arith)
inside z part.Left h = (omega arith, omega arith)
inside z part.Polling h = (omega arith, omega arith)
inside z (part.FreeStock a) h = (omega arith, omega arith)
inside z (part.ReturnStock a) h = (omega arith, omega arith)
inside z (part.NamesMade a) h = (omega arith, omega arith)
inside z (part.SerialsMade a) h = (omega arith, omega arith)
inside z (part.Strong a b) h = let t = row_inside a z.lanes z.strong b h.0 h.1 in (omega arith, omega arith)
inside z (part.Root a) h = (omega arith, omega arith)
inside z (part.Row a b) h = let t = row_inside a (z.markers + 1) (row_words z) b (let l = h.0 in omega arith) h.1 in (omega arith, omega arith)
inside z (part.Head a) h = (omega arith, omega arith)
inside z (part.Owner a) h = (omega arith, omega arith)
inside z (part.Next a) h = (omega arith, omega arith)
inside z (part.NameOf a) h = (omega arith, omega arith)
inside z (part.KindOf a) h = (omega arith, omega arith)
inside z (part.Serial a) h = (omega arith, omega arith)
inside z (part.Cell a b) h = let t = row_inside a (item_count z) z.slots b h.0 h.1 in (omega arith, omega arith)

-- at its row and column
at_row : (z : Sizes) (p : Part) → IsPart z p → (place z p ≡ begins (sizes z) (region p) + (first p * nth (widths z) (region p) + second p)) × (second p < nth (widths z) (region p))
at_row z part.Gate h = (omega arith, omega arith)
at_row z part.Cursor h = (omega arith, omega arith)
at_row z part.Removed h = (omega arith, omega arith)
at_row z part.Left h = (omega arith, omega arith)
at_row z part.Polling h = (omega arith, omega arith)
at_row z (part.FreeStock a) h = (omega arith, omega arith)
at_row z (part.ReturnStock a) h = (omega arith, omega arith)
at_row z (part.NamesMade a) h = (omega arith, omega arith)
at_row z (part.SerialsMade a) h = (omega arith, omega arith)
at_row z (part.Strong a b) h = (omega arith, h.1)
at_row z (part.Root a) h = (omega arith, omega arith)
at_row z (part.Row a b) h = (omega arith, h.1)
at_row z (part.Head a) h = (omega arith, omega arith)
at_row z (part.Owner a) h = (omega arith, omega arith)
at_row z (part.Next a) h = (omega arith, omega arith)
at_row z (part.NameOf a) h = (omega arith, omega arith)
at_row z (part.KindOf a) h = (omega arith, omega arith)
at_row z (part.Serial a) h = (omega arith, omega arith)
at_row z (part.Cell a b) h = (omega arith, h.1)

pub places_fit : PlacesFit
places_fit z p h =
    let here = (inside z p h).1 in
    let on = begins_order (sizes z) (region p) 19 (region_few p) in
    omega arith

pub places_differ : PlacesDiffer
places_differ z p q h k e = go (cases_order (region p) (region q))
  where
    go : (region p ≡ region q) ⊎ ((region p < region q) ⊎ (region q < region p)) → p ≡ q
    go (inl same) =
        let a = at_row z p h in
        let b = at_row z q k in
        let n = nth (widths z) (region p) in
        let width : nth (widths z) (region q) ≡ n = ap (nth (widths z)) (sym same) in
        let start : begins (sizes z) (region q) ≡ begins (sizes z) (region p) = ap (begins (sizes z)) (sym same) in
        let other : place z q ≡ begins (sizes z) (region p) + (first q * n + second q) = b.0 ∙ (λ i. start i + (first q * width i + second q)) in
        let mine = a.0 in
        let rows : first p * n + second p ≡ first q * n + second q = omega arith in
        let once = row_once (first p) (first q) n (second p) (second q) a.1 (subst (λ m. second q < m) width b.1) rows in
        sym (part_again p) ∙ (λ i. part_at (same i) (once.0 i) (once.1 i)) ∙ part_again q
    go (inr (inl lt)) = absurd (let a = (inside z p h).1 in let b = (inside z q k).0 in let on = begins_order (sizes z) (region p) (region q) lt in omega arith)
    go (inr (inr lt)) = absurd (let a = (inside z q k).1 in let b = (inside z p h).0 in let on = begins_order (sizes z) (region q) (region p) lt in omega arith)
