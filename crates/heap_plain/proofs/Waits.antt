-- The places of the queue of destruction.
use Rattle.std.proofs.Common.{◌≡◌, ◌≢◌, ℕ, ◌+◌, ◌<◌, ◌≤◌, ◌==◌, if◌then◌else◌, refl, sym, ap, ◌∙◌, arith, Bool, true, false, List, [], ◌∷◌, ◌++◌, append-nil, append_assoc, length, take, drop, get_or}
use Rattle.std.proofs.Math.ListN.{set}
use Rattle.std.proofs.Math.Logic.{dite}
use Rattle.std.proofs.Math.Decide.{ℕ_discrete}
use Rattle.std.proofs.lemmas.Bool.{eqb-true}
use Rattle.std.proofs.lemmas.List.{length-set, length-append, length-drop, length-take-le, get_or-take, take_more, take_more_set, drop_more, drop_all, drop-set-lt}
use Rattle.std.proofs.Math.Seq.{take-set-lt}
use Rattle.heap_plain.specs.Queue.{Queued, queued, HasPlaces, Begins, turned}

-- the queue that these places have, where all are begun
abbrev all_begun : List ℕ → ℕ → ℕ → ℕ → Queued
all_begun order begun from kept = record { room = length order; todo = []; ring = drop from (take begun order) ++ take kept order }

-- a round that has ended is followed by the next one
turns : (order : List ℕ) (begun from kept : ℕ) → begun ≤ length order → kept ≤ length order → (t : ℕ × ℕ × ℕ) → t ≡ turned begun from kept
    → queued order t.0 t.0 t.1 t.2 ≡ all_begun order begun from kept
turns order begun from kept few small t is = go (from == begun) refl is
  where
    none : (n : ℕ) → n ≤ length order → drop n (take n order) ≡ []
    none n less = drop_all n (take n order) (omega (arith, length-take-le n order less))

    both : (n f k : ℕ) → n ≤ length order → queued order n n f k ≡ all_begun order n f k
    both n f k less = ap (λ (xs : List ℕ). record (all_begun order n f k) { todo = xs }) (none n less)

    go : (b : Bool) → (from == begun) ≡ b → t ≡ (if b then (kept, 0, 0) else (begun, from, kept)) → queued order t.0 t.0 t.1 t.2 ≡ all_begun order begun from kept
    go true e end =
        let front : drop from (take begun order) ≡ [] = ap (λ (n : ℕ). drop n (take begun order)) (eqb-true from begun e) ∙ none begun few in
        (λ t. queued order (end t).0 (end t).0 (end t).1 (end t).2) ∙ both kept 0 0 small
        ∙ ap (λ (xs : List ℕ). record (all_begun order begun from kept) { ring = xs })
        (append-nil (take kept order) ∙ ap (λ (xs : List ℕ). xs ++ take kept order) (sym front))
    go false e end = (λ t. queued order (end t).0 (end t).0 (end t).1 (end t).2) ∙ both begun from kept few

module _ (order : List ℕ) (listed begun from kept : ℕ) (h : HasPlaces (length order) listed begun from kept) where
  abbrev old : Queued
  old = queued order listed begun from kept

  -- the first that is to be begun goes behind those that are asked
  pub begins : begun < listed → Begins old (queued order listed (begun + 1) from kept) (get_or order begun 0)
  begins less =
      let none : from ≡ 0 = h.early less in
      let few : kept ≡ 0 = omega (arith, h.kept_few) in
      let small : begun < length order = omega (arith, h.listed_few) in
      record {
        room = refl;
        first =
            drop_more (take listed order) begun 0 (omega (arith, length-take-le listed order h.listed_few))
            ∙ ap (λ (x : ℕ). x ∷ drop (begun + 1) (take listed order)) (get_or-take listed order begun 0 less);
        asked =
            (λ t. drop (none t) (take_more order begun 0 small t) ++ take (few t) order)
            ∙ append-nil (take begun order ++ get_or order begun 0 ∷ [])
            ∙ ap (λ (xs : List ℕ). xs ++ get_or order begun 0 ∷ []) (sym (append-nil (take begun order)))
            ∙ (λ t. (drop (sym none t) (take begun order) ++ take (sym few t) order) ++ get_or order begun 0 ∷ []);
      }

  -- those that were not asked in this round come first
  pub ring_front : from < begun → old.ring ≡ get_or order from 0 ∷ (drop (from + 1) (take begun order) ++ take kept order)
  ring_front less = ap (λ (xs : List ℕ). xs ++ take kept order)
      (drop_more (take begun order) from 0 (omega (arith, length-take-le begun order (omega (arith, h.begun_few, h.listed_few))))
      ∙ ap (λ (x : ℕ). x ∷ drop (from + 1) (take begun order)) (get_or-take begun order from 0 less))

  -- where one waits, one waits in this round
  pub waits_now : 0 < length old.ring → from < begun
  waits_now some =
      let few = length-take-le begun order (omega (arith, h.begun_few, h.listed_few)) in
      let front = length-take-le kept order (omega (arith, h.begun_few, h.listed_few, h.from_few, h.kept_few)) in
      let len = length-append (drop from (take begun order)) (take kept order) in
      let rest = length-drop from (take begun order) in
      dite (ℕ_discrete from begun) (λ (e : from ≡ begun). let z = h.turned e in omega (arith, h.kept_few)) (λ (ne : from ≢ begun). omega (arith, h.from_few))

  -- the one that is asked next goes
  pub finishes : 0 < length old.ring → old.todo ≡ [] → (t : ℕ × ℕ × ℕ) → t ≡ turned begun (from + 1) kept
      → queued order t.0 t.0 t.1 t.2 ≡ record old { ring = drop 1 old.ring }
  finishes some all t is =
      turns order begun (from + 1) kept (omega (arith, h.begun_few, h.listed_few)) (omega (arith, h.begun_few, h.listed_few, h.from_few, h.kept_few)) t is
      ∙ ap (λ (xs : List ℕ). record (all_begun order begun (from + 1) kept) { todo = xs }) (sym all)
      ∙ ap (λ (xs : List ℕ). record old { ring = drop 1 xs }) (sym (ring_front (waits_now some)))

  -- it goes behind all others
  pub turns_back : 0 < length old.ring → old.todo ≡ [] → (t : ℕ × ℕ × ℕ) → t ≡ turned begun (from + 1) (kept + 1)
      → queued (set order kept (get_or order from 0)) t.0 t.0 t.1 t.2 ≡ record old { ring = drop 1 old.ring ++ get_or old.ring 0 0 ∷ [] }
  turns_back some all t is =
      let i : ℕ = get_or order from 0 in
      let now : List ℕ = set order kept i in
      let len : length now ≡ length order = length-set order kept i in
      let less = waits_now some in
      let rest : drop (from + 1) (take begun now) ≡ drop (from + 1) (take begun order) =
      ap (drop (from + 1)) (take-set-lt begun order kept i (omega (arith, h.kept_few)))
      ∙ drop-set-lt (from + 1) (take begun order) kept i (omega (arith, h.kept_few)) in
      let front : take (kept + 1) now ≡ take kept order ++ i ∷ [] = take_more_set order kept i (omega (arith, h.begun_few, h.listed_few, h.kept_few)) in
      turns now begun (from + 1) (kept + 1) (omega (arith, len, h.begun_few, h.listed_few)) (omega (arith, len, h.begun_few, h.listed_few, h.kept_few)) t is
      ∙ (λ t. record { room = len t; todo = sym all t; ring = rest t ++ front t })
      ∙ ap (λ (xs : List ℕ). record old { ring = xs }) (sym (append_assoc (drop (from + 1) (take begun order)) (take kept order) (i ∷ [])))
      ∙ ap (λ (xs : List ℕ). record old { ring = drop 1 xs ++ get_or xs 0 0 ∷ [] }) (sym (ring_front less))
