-- Names, units and functions with one value changed.
use Rattle.std.proofs.Common.{◌≡◌, ℕ, ◌+◌, ◌<◌, ◌≤◌, refl, sym, subst, ap, ◌∙◌, inl, inr, arith, Bool, cond, true, false, ◌||◌, ◌==◌, List, [], ◌∷◌, length, Some, unwrap_or, ◌⊎◌}
use Rattle.std.specs.List.{list_any, find}
use Rattle.std.proofs.lemmas.Bool.{eqb-true, eq-eqb}
use Rattle.world_model.specs.Types.{Name, Kind}
use Rattle.world_model.specs.NameLists.{same_name, has, members, names_from, set_at}
use Rattle.world_model.proofs.ListFacts.{and_true, or_true, or_right, Among, among_append, among_test, test_among}

pub same_name_true : (a b : Name) → same_name a b ≡ true → a ≡ b
same_name_true a b h =
    let parts = and_true _ _ h in
    let lane : a.lane ≡ b.lane = eqb-true a.lane b.lane parts.0 in
    let count : a.count ≡ b.count = eqb-true a.count b.count parts.1 in
    let with_lane : ℕ → Name = λ l. record { lane = l; count = a.count } in
    let with_count : ℕ → Name = λ c. record { lane = b.lane; count = c } in
    ap with_lane lane ∙ ap with_count count

pub same_name_refl : (n : Name) → same_name n n ≡ true
same_name_refl n = let l : (n.lane == n.lane) ≡ true = eq-eqb n.lane n.lane refl in let c : (n.count == n.count) ≡ true = eq-eqb n.count n.count refl in rw (l, c) refl

pub set_at_same : {A : Type 0} (f : ℕ → A) (k : ℕ) (x : A) → set_at f k x k ≡ x
set_at_same f k x = let t : (k == k) ≡ true = eq-eqb k k refl in rw t refl

-- the names of a new unit are of the lane, and their counts go up from the first
pub names_from_range : (lane first : ℕ) (kinds : List Kind) (n : Name) → has (names_from lane first kinds) n ≡ true → (n.lane ≡ lane) × (first ≤ n.count) × (n.count < first + length kinds)
names_from_range lane first [] n h = absurd cc
names_from_range lane first (k ∷ kinds) n h = go (names_from_range lane (first + 1) kinds n) (or_true _ _ h)
  where
    go : (has (names_from lane (first + 1) kinds) n ≡ true → (n.lane ≡ lane) × (first + 1 ≤ n.count) × (n.count < (first + 1) + length kinds))
        → (same_name n (record { lane = lane; count = first }) ≡ true) ⊎ (has (names_from lane (first + 1) kinds) n ≡ true)
        → (n.lane ≡ lane) × (first ≤ n.count) × (n.count < first + length (k ∷ kinds))
    go rest (inl same) =
        let parts = and_true _ _ same in
        let lanes : n.lane ≡ lane = eqb-true n.lane lane parts.0 in
        let counts : n.count ≡ first = eqb-true n.count first parts.1 in
        (lanes, omega arith, omega arith)
    go rest (inr more) =
        let range = rest more in
        (range.0, omega (arith, range.1), omega (arith, range.2))

-- a member of a unit of one is that one
pub member_of_one : (n m : Name) → has (m ∷ []) n ≡ true → n ≡ m
member_of_one n m h = same_name_true n m (or_false _ h)
  where
    or_false : (b : Bool) → (b || false) ≡ true → b ≡ true
    or_false true e = refl
    or_false false e = e

-- a unit with a name among one more is the unit of that name, or has one of the others
pub any_more : (of : Name) (kept u : List Name) → list_any (has (of ∷ kept)) u ≡ true → (has u of ≡ true) ⊎ (list_any (has kept) u ≡ true)
any_more of kept [] h = absurd cc
any_more of kept (n ∷ u) h = go (any_more of kept u) (or_true _ _ h)
  where
    later : (has u of ≡ true) ⊎ (list_any (has kept) u ≡ true) → (has (n ∷ u) of ≡ true) ⊎ (list_any (has kept) (n ∷ u) ≡ true)
    later (inl e) = inl (or_right (same_name of n) _ e)
    later (inr e) = inr (or_right (has kept n) _ e)

    first : (same_name n of ≡ true) ⊎ (has kept n ≡ true) → (has (n ∷ u) of ≡ true) ⊎ (list_any (has kept) (n ∷ u) ≡ true)
    first (inl e) = inl (let t : same_name of n ≡ true = subst (λ (m : Name). same_name of m ≡ true) (sym (same_name_true n of e)) (same_name_refl of) in rw t refl)
    first (inr e) = inr (rw e refl)

    go : (list_any (has (of ∷ kept)) u ≡ true → (has u of ≡ true) ⊎ (list_any (has kept) u ≡ true))
        → (has (of ∷ kept) n ≡ true) ⊎ (list_any (has (of ∷ kept)) u ≡ true) → (has (n ∷ u) of ≡ true) ⊎ (list_any (has kept) (n ∷ u) ≡ true)
    go rest (inl e) = first (or_true _ _ e)
    go rest (inr e) = later (rest e)

-- the unit of a name in the world is a unit, and has the name
pub found_unit : (units : List (List Name)) (n : Name) → list_any (λ u. has u n) units ≡ true
    → Among units (unwrap_or (find (λ u. has u n) units) []) × (has (unwrap_or (find (λ u. has u n) units) []) n ≡ true)
found_unit [] n h = absurd cc
found_unit (u ∷ units) n h = go (has u n) refl (found_unit units n) h
  where
    go : (b : Bool) → has u n ≡ b
        → (list_any (λ v. has v n) units ≡ true
        → Among units (unwrap_or (find (λ v. has v n) units) []) × (has (unwrap_or (find (λ v. has v n) units) []) n ≡ true))
        → (b || list_any (λ v. has v n) units) ≡ true
        → Among (u ∷ units) (unwrap_or (cond b (Some u) (find (λ v. has v n) units)) []) × (has (unwrap_or (cond b (Some u) (find (λ v. has v n) units)) []) n ≡ true)
    go true e rest h = (inl refl, e)
    go false e rest h = let r = rest h in (inr r.0, r.1)

-- ---- membership by test

pub has_among : (names : List Name) (n : Name) → has names n ≡ true → Among names n
has_among names n h = let found = test_among (same_name n) names h in subst (λ (m : Name). Among names m) (sym (same_name_true n found.0 found.2)) found.1

pub among_has : (names : List Name) (n : Name) → Among names n → has names n ≡ true
among_has names n h = among_test (same_name n) names n h (same_name_refl n)

pub among_members : (units : List (List Name)) (n : Name) → Among (members units) n → (u : List Name) × Among units u × (has u n ≡ true)
among_members [] n h = absurd h
among_members (u ∷ units) n h = go (among_members units n) (among_append u (members units) n h)
  where
    go : (Among (members units) n → (v : List Name) × Among units v × (has v n ≡ true)) → Among u n ⊎ Among (members units) n → (v : List Name) × Among (u ∷ units) v × (has v n ≡ true)
    go rest (inl a) = (u, inl refl, among_has u n a)
    go rest (inr b) = let r = rest b in (r.0, inr r.1, r.2)
