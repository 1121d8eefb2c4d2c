-- The names of a new unit, and its members.
use Rattle.std.proofs.Common.{◌≡◌, ℕ, ◌+◌, ◌<◌, refl, sym, subst, ap, ◌∙◌, inl, inr, zero, suc, arith, true, ◌||◌, ◌-◌, List, [], ◌∷◌, ◌++◌, length, get_or, map, ◌⊎◌}
use Rattle.std.specs.List.{flat_map}
use Rattle.std.proofs.lemmas.List.Folds.{list_any-append}
use Rattle.world_model.specs.NameLists.{same_name, has, names_from, members}
use Rattle.world_model.proofs.ListFacts.{Among, among_append, or_true, or_right, among_left, among_right}
use Rattle.world_model.proofs.NameFacts.{same_name_refl, names_from_range, has_among, among_has}
use Rattle.heap_plain.specs.Types.{Name, Ref, Kind}
use Rattle.heap_plain.specs.Lists.{Distinct}

-- ---- names in a row

pub length-names_from : (lane first : ℕ) (kinds : List Kind) → length (names_from lane first kinds) ≡ length kinds
length-names_from lane first [] = refl
length-names_from lane first (k ∷ kinds) = let t = length-names_from lane (first + 1) kinds in omega arith

pub has_in_row : (lane first : ℕ) (kinds : List Kind) (k : ℕ) → k < length kinds → has (names_from lane first kinds) (record { lane = lane; count = first + k }) ≡ true
has_in_row lane first [] k h = absurd (omega arith)
has_in_row lane first (kind ∷ kinds) zero h =
    let e : first + 0 ≡ first = omega arith in
    rw e (let t = same_name_refl (record { lane = lane; count = first }) in rw t refl)
has_in_row lane first (kind ∷ kinds) (suc k) h =
    let e : first + 1 + k ≡ first + suc k = omega arith in
    subst (λ (c : ℕ). has (names_from lane first (kind ∷ kinds)) (record { lane = lane; count = c }) ≡ true) e
    (or_right (same_name (record { lane = lane; count = first + 1 + k }) (record { lane = lane; count = first })) _ (has_in_row lane (first + 1) kinds k (omega arith)))

-- a name of the row is at its count
pub row_place : (lane first : ℕ) (kinds : List Kind) (n : Name) → has (names_from lane first kinds) n ≡ true → (k : ℕ) × (k < length kinds) × (n ≡ record { lane = lane; count = first + k })
row_place lane first kinds n h =
    let range = names_from_range lane first kinds n h in
    let count : n.count ≡ first + (n.count - first) = omega (arith, range.1) in
    let with_lane : ℕ → Name = λ l. record { lane = l; count = n.count } in
    let with_count : ℕ → Name = λ c. record { lane = lane; count = c } in
    (n.count - first, omega (arith, range.1, range.2), ap with_lane range.0 ∙ ap with_count count)

pub distinct_row : (lane first : ℕ) (kinds : List Kind) → Distinct (names_from lane first kinds)
distinct_row lane first [] = tt
distinct_row lane first (k ∷ kinds) =
    ((λ among. let range = names_from_range lane (first + 1) kinds _ (among_has _ _ among) in absurd (omega (arith, range.1))), distinct_row lane (first + 1) kinds)

-- the references whose names are in a row
pub names_of_row : (lane first : ℕ) (kinds : List Kind) (out : List Ref) → length out ≡ length kinds
    → ((k : ℕ) (d : Ref) → k < length out → (get_or out k d).name ≡ record { lane = lane; count = first + k })
    → map (λ r. r.name) out ≡ names_from lane first kinds
names_of_row lane first [] [] len each = refl
names_of_row lane first [] (r ∷ out) len each = absurd (omega arith)
names_of_row lane first (k ∷ kinds) [] len each = absurd (omega arith)
names_of_row lane first (k ∷ kinds) (r ∷ out) len each =
    let zero_more : first + 0 ≡ first = omega arith in
    let at_count : ℕ → Name = λ c. record { lane = lane; count = c } in
    let head : r.name ≡ at_count first = each 0 r (omega arith) ∙ ap at_count zero_more in
    let rest : map (λ q. q.name) out ≡ names_from lane (first + 1) kinds = names_of_row lane (first + 1) kinds out (omega arith)
    (λ j d below. each (suc j) d (omega arith) ∙ ap at_count (shift j)) in
    ap (λ (n : Name). n ∷ map (λ (q : Ref). q.name) out) head ∙ ap (λ (ns : List Name). at_count first ∷ ns) rest
  where
    shift : (j : ℕ) → first + suc j ≡ first + 1 + j
    shift j = omega arith

-- ---- members of units

pub members_among : (units : List (List Name)) (u : List Name) (n : Name) → Among units u → has u n ≡ true → Among (members units) n
members_among [] u n h e = absurd h
members_among (v ∷ units) u n (inl same) e = among_left v (members units) n (subst (λ (x : List Name). Among x n) (sym same) (has_among u n e))
members_among (v ∷ units) u n (inr h) e = among_right v (members units) n (members_among units u n h e)

pub distinct_append : (xs ys : List Name) → Distinct xs → Distinct ys → ((n : Name) → Among xs n → Among ys n → ⊥) → Distinct (xs ++ ys)
distinct_append [] ys d e apart = e
distinct_append (x ∷ xs) ys d e apart = ((λ h. both (among_append xs ys x h)), distinct_append xs ys d.1 e (λ n a b. apart n (inr a) b))
  where
    both : Among xs x ⊎ Among ys x → ⊥
    both (inl a) = d.0 a
    both (inr b) = apart x (inl refl) b

-- the units of the members of a unit are that unit
pub given_members : (f : Name → List Name) (u names : List Name) → ((n : Name) → Among names n → f n ≡ u) → (n : Name) → has (flat_map f names) n ≡ true → has u n ≡ true
given_members f u [] each n h = absurd cc
given_members f u (x ∷ names) each n h =
    go (or_true _ _ (sym (list_any-append (same_name n) (f x) (flat_map f names)) ∙ h)) (given_members f u names (λ m a. each m (inr a)) n)
  where
    go : (has (f x) n ≡ true) ⊎ (has (flat_map f names) n ≡ true) → (has (flat_map f names) n ≡ true → has u n ≡ true) → has u n ≡ true
    go (inl e) rest = subst (λ (v : List Name). has v n ≡ true) (each x (inl refl)) e
    go (inr e) rest = rest e

pub members_given : (f : Name → List Name) (u names : List Name) → ((n : Name) → Among names n → f n ≡ u) → (m : Name) → Among names m → (n : Name) → has u n ≡ true → has (flat_map f names) n ≡ true
members_given f u [] each m h n e = absurd h
members_given f u (x ∷ names) each m (inl same) n e =
    list_any-append (same_name n) (f x) (flat_map f names)
    ∙ ap (λ b. b || has (flat_map f names) n) (subst (λ (v : List Name). has v n ≡ true) (sym (each x (inl refl))) e)
members_given f u (x ∷ names) each m (inr h) n e = list_any-append (same_name n) (f x) (flat_map f names) ∙ or_right (has (f x) n) _ (members_given f u names (λ k a. each k (inr a)) m h n e)
