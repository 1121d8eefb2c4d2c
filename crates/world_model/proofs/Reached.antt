-- A unit is reached by a walk exactly where it is reached by one of no more steps than there are units.
use Rattle.std.proofs.Common.{◌≡◌, ℕ, ◌+◌, ◌<◌, ◌≤◌, zero, suc, refl, sym, ap, subst, ◌∙◌, inl, inr, arith, Bool, cond, true, false, ◌&&◌, ◌||◌, ◌⊎◌, List, [], ◌∷◌, length, count_by, Option, Some, None}
use Rattle.std.specs.List.{list_any, range_with_len}
use Rattle.std.proofs.Math.Logic.{dite}
use Rattle.std.proofs.Math.Decide.{ℕ_discrete, dec_le}
use Rattle.std.proofs.Math.Nat.{lt_of_not-le}
use Rattle.std.proofs.lemmas.List.Sums.{count_by-le-length}
use Rattle.world_model.specs.Types.{Name}
use Rattle.world_model.specs.NameLists.{has}
use Rattle.world_model.specs.Reach.{Graph, IsUnit, Refers, Walk, IsReached}
use Rattle.world_model.specs.Reached.{within_steps, names_member, object_refers, refers_to, is_reached, HasSlots, TellsRoots, ReachBySteps}
use Rattle.world_model.proofs.ListFacts.{Among, and_true, or_true, or_right, contains_among, among_contains, among_test, test_among}
use Rattle.world_model.proofs.NameFacts.{has_among, among_has}
use Rattle.world_model.proofs.Reaches.{reach_by_walks_holds}
use Rattle.world_model.proofs.Counts.{count-cons}

-- ---- tests on a list

-- two tests that agree on a list
abbrev pub AgreeOn : {A : Type 0} → List A → (A → Bool) → (A → Bool) → Type 0
AgreeOn xs p q = (x : _) → Among xs x → p x ≡ q x

any_agree : {A : Type 0} (xs : List A) (p q : A → Bool) → AgreeOn xs p q → list_any p xs ≡ list_any q xs
any_agree [] p q h = refl
any_agree (x ∷ xs) p q h = let first = h x (inl refl) in let rest = any_agree xs p q (λ y a. h y (inr a)) in cc

count_agree : {A : Type 0} (xs : List A) (p q : A → Bool) → AgreeOn xs p q → count_by p xs ≡ count_by q xs
count_agree [] p q h = refl
count_agree (x ∷ xs) p q h =
    count-cons p x xs ∙ ap (λ (b : Bool). cond b 1 0 + count_by p xs) (h x (inl refl))
    ∙ ap (λ (n : ℕ). cond (q x) 1 0 + n) (count_agree xs p q (λ y a. h y (inr a))) ∙ sym (count-cons q x xs)

agree_more : {A : Type 0} (x : A) (xs : List A) (p q : A → Bool) → p x ≡ q x → AgreeOn xs p q → AgreeOn (x ∷ xs) p q
agree_more x xs p q e h y (inl same) = subst (λ (z : _). p z ≡ q z) same e
agree_more x xs p q e h y (inr a) = h y a

-- a test that is met more widely agrees, or is met by more elements
grows : {A : Type 0} (xs : List A) (p q : A → Bool) → ((x : A) → p x ≡ true → q x ≡ true) → AgreeOn xs p q ⊎ (count_by p xs + 1 ≤ count_by q xs)
grows [] p q wider = inl (λ x a. absurd a)
grows (x ∷ xs) p q wider = go (p x) (q x) refl refl (grows xs p q wider)
  where
    go : (a b : Bool) → p x ≡ a → q x ≡ b → AgreeOn xs p q ⊎ (count_by p xs + 1 ≤ count_by q xs) → AgreeOn (x ∷ xs) p q ⊎ (count_by p (x ∷ xs) + 1 ≤ count_by q (x ∷ xs))
    go true false e f rest = absurd (let on : q x ≡ true = wider x e in cc)
    go false true e f (inl agree) = let same = count_agree xs p q agree in inr (rw (count-cons p x xs, count-cons q x xs, e, f) (omega (arith, same)))
    go false true e f (inr more) = inr (rw (count-cons p x xs, count-cons q x xs, e, f) (omega (arith, more)))
    go true true e f (inl agree) = inl (agree_more x xs p q (e ∙ sym f) agree)
    go true true e f (inr more) = inr (rw (count-cons p x xs, count-cons q x xs, e, f) (omega (arith, more)))
    go false false e f (inl agree) = inl (agree_more x xs p q (e ∙ sym f) agree)
    go false false e f (inr more) = inr (rw (count-cons p x xs, count-cons q x xs, e, f) (omega (arith, more)))

-- ---- steps

-- with one step more
step_more : {A : Type 0} (root : A → Bool) (edge : A → A → Bool) (xs : List A) (k : ℕ) (x : A) → within_steps root edge xs k x ≡ true → within_steps root edge xs (suc k) x ≡ true
unfolding within_steps
step_more root edge xs k x e = rw e refl

-- where one step more reaches nothing more
abbrev pub IsSettled : {A : Type 0} → (A → Bool) → (A → A → Bool) → List A → ℕ → Type 0
IsSettled root edge xs k = AgreeOn xs (within_steps root edge xs k) (within_steps root edge xs (suc k))

settled_on : {A : Type 0} (root : A → Bool) (edge : A → A → Bool) (xs : List A) (k : ℕ) → IsSettled root edge xs k → IsSettled root edge xs (suc k)
unfolding within_steps
settled_on root edge xs k h x a =
    let same = any_agree xs (λ y. within_steps root edge xs k y && edge y x) (λ y. within_steps root edge xs (suc k) y && edge y x) (λ y b. ap (λ (t : Bool). t && edge y x) (h y b)) in
    sym (ap (λ (t : Bool). within_steps root edge xs (suc k) x || t) (sym same) ∙ absorbed (within_steps root edge xs k x) _)
  where
    absorbed : (a b : Bool) → ((a || b) || b) ≡ (a || b)
    absorbed true b = refl
    absorbed false true = refl
    absorbed false false = refl

settles : {A : Type 0} (root : A → Bool) (edge : A → A → Bool) (xs : List A) (k : ℕ) → IsSettled root edge xs k ⊎ (k ≤ count_by (within_steps root edge xs k) xs)
settles root edge xs zero = inr (omega arith)
settles root edge xs (suc k) = go (settles root edge xs k)
  where
    go : IsSettled root edge xs k ⊎ (k ≤ count_by (within_steps root edge xs k) xs) → IsSettled root edge xs (suc k) ⊎ (suc k ≤ count_by (within_steps root edge xs (suc k)) xs)
    go (inl settled) = inl (settled_on root edge xs k settled)
    go (inr many) = more many (grows xs (within_steps root edge xs k) (within_steps root edge xs (suc k)) (λ x e. step_more root edge xs k x e))
      where
        more : k ≤ count_by (within_steps root edge xs k) xs
            → AgreeOn xs (within_steps root edge xs k) (within_steps root edge xs (suc k))
            ⊎ (count_by (within_steps root edge xs k) xs + 1 ≤ count_by (within_steps root edge xs (suc k)) xs)
            → IsSettled root edge xs (suc k) ⊎ (suc k ≤ count_by (within_steps root edge xs (suc k)) xs)
        more many (inl settled) = inl (settled_on root edge xs k settled)
        more many (inr up) = inr (omega (arith, many, up))

-- as many steps as there are elements reach all that any steps reach
pub all_settled : {A : Type 0} (root : A → Bool) (edge : A → A → Bool) (xs : List A) → IsSettled root edge xs (length xs)
all_settled root edge xs =
    go (settles root edge xs (length xs))
    (grows xs (within_steps root edge xs (length xs)) (within_steps root edge xs (suc (length xs))) (λ x e. step_more root edge xs (length xs) x e))
  where
    go : IsSettled root edge xs (length xs) ⊎ (length xs ≤ count_by (within_steps root edge xs (length xs)) xs)
        → AgreeOn xs (within_steps root edge xs (length xs)) (within_steps root edge xs (suc (length xs)))
        ⊎ (count_by (within_steps root edge xs (length xs)) xs + 1 ≤ count_by (within_steps root edge xs (suc (length xs))) xs)
        → IsSettled root edge xs (length xs)
    go (inl settled) grown = settled
    go (inr many) (inl settled) = settled
    go (inr many) (inr more) = absurd (let most = count_by-le-length (within_steps root edge xs (suc (length xs))) xs in omega (arith, many, more, most))

pub roots_within : {A : Type 0} (root : A → Bool) (edge : A → A → Bool) (xs : List A) (k : ℕ) (x : A) → root x ≡ true → within_steps root edge xs k x ≡ true
unfolding within_steps
roots_within root edge xs zero x e = e
roots_within root edge xs (suc k) x e = let on = roots_within root edge xs k x e in rw on refl

pub edge_within : {A : Type 0} (root : A → Bool) (edge : A → A → Bool) (xs : List A) (y x : A) → Among xs y → Among xs x
    → within_steps root edge xs (length xs) y ≡ true → edge y x ≡ true → within_steps root edge xs (length xs) x ≡ true
unfolding within_steps
edge_within root edge xs y x ay ax e step =
    let both : (within_steps root edge xs (length xs) y && edge y x) ≡ true = rw (e, step) refl in
    all_settled root edge xs x ax ∙ or_right (within_steps root edge xs (length xs) x) _ (among_test (λ z. within_steps root edge xs (length xs) z && edge z x) xs y ay both)

-- ---- the test that a unit refers to another

pub range_among : (first count k : ℕ) → first ≤ k → k < first + count → Among (range_with_len first count) k
range_among first zero k low high = absurd (omega (arith, low, high))
range_among first (suc count) k low high = dite (ℕ_discrete first k) (λ same. inl same) (λ other. inr (range_among (first + 1) count k (omega (arith, low, other)) (omega (arith, high))))

names_member_of : (o : Option Name) (to : Name) (v : List Name) → o ≡ Some to → has v to ≡ true → names_member o v ≡ true
names_member_of None to v e h = absurd cc
names_member_of (Some other) to v e h = let same : other ≡ to = cc in rw same h

member_named : (o : Option Name) (v : List Name) → names_member o v ≡ true → (to : Name) × (o ≡ Some to) × (has v to ≡ true)
member_named None v h = absurd cc
member_named (Some to) v h = (to, refl, h)

-- the test tells references
pub refers_told : (slots : ℕ) (g : Graph) (u v : List Name) → HasSlots slots g → Refers g u v → refers_to slots g u v ≡ true
refers_told slots g u v few r = among_test (λ from. object_refers slots g from v) u r.from (has_among u r.from r.member)
    (among_test (λ slot. names_member (g.cell r.from slot) v) (range_with_len 0 slots) r.slot
    (range_among 0 slots r.slot (omega arith) (dite (dec_le slots r.slot) (λ high. absurd (let none = few r.from r.slot high in let some = r.cell in cc)) (λ low. omega (arith, lt_of_not-le low))))
    (names_member_of (g.cell r.from r.slot) r.to v r.cell r.target))

pub told_refers : (slots : ℕ) (g : Graph) (u v : List Name) → refers_to slots g u v ≡ true → Refers g u v
told_refers slots g u v e =
    let from = test_among (λ from. object_refers slots g from v) u e in
    let slot = test_among (λ slot. names_member (g.cell from.0 slot) v) (range_with_len 0 slots) from.2 in
    let to = member_named (g.cell from.0 slot.0) v slot.2 in
    record { from = from.0; slot = slot.0; to = to.0; cell = to.1; member = among_has u from.0 from.1; target = to.2 }

-- ---- the test that a unit is reached

-- what so many steps reach is reached by a walk
steps_walk : (slots : ℕ) (root : List Name → Bool) (g : Graph) (k : ℕ) (u : List Name) → TellsRoots g root → IsUnit g u → within_steps root (refers_to slots g) g.units k u ≡ true → IsReached g u
unfolding within_steps
steps_walk slots root g zero u tells unit e = (reach_by_walks_holds g).roots u unit (tells.sound u e)
steps_walk slots root g (suc k) u tells unit e = go (λ v. steps_walk slots root g k v tells) (or_true (within_steps root (refers_to slots g) g.units k u) _ e)
  where
    go : ((v : List Name) → IsUnit g v → within_steps root (refers_to slots g) g.units k v ≡ true → IsReached g v)
        → (within_steps root (refers_to slots g) g.units k u ≡ true) ⊎ (list_any (λ v. within_steps root (refers_to slots g) g.units k v && refers_to slots g v u) g.units ≡ true) → IsReached g u
    go rest (inl before) = rest u unit before
    go rest (inr after) =
        let v = test_among (λ v. within_steps root (refers_to slots g) g.units k v && refers_to slots g v u) g.units after in
        let both = and_true (within_steps root (refers_to slots g) g.units k v.0) (refers_to slots g v.0 u) v.2 in
        (reach_by_walks_holds g).refers v.0 u unit (rest v.0 (among_contains g.units v.0 v.1) both.0) (told_refers slots g v.0 u both.1)

-- a walk from a unit that is reached by steps ends in one
walk_steps : (slots : ℕ) (root : List Name → Bool) (g : Graph) (u : List Name) (rest : List (List Name)) (v : List Name) → HasSlots slots g
    → IsUnit g u → is_reached slots root g u ≡ true → Walk g u rest v → is_reached slots root g v ≡ true
walk_steps slots root g u [] v few unit e walk = subst (λ (x : List Name). is_reached slots root g x ≡ true) walk e
walk_steps slots root g u (next ∷ rest) v few unit e walk =
    let on : is_reached slots root g next ≡ true =
    edge_within root (refers_to slots g) g.units u next (contains_among g.units u unit) (contains_among g.units next walk.0) e
    (refers_told slots g u next few walk.1) in
    walk_steps slots root g next rest v few walk.0 on walk.2

pub reached_told : (slots : ℕ) (root : List Name → Bool) (g : Graph) (u : List Name) → HasSlots slots g → TellsRoots g root → IsReached g u → is_reached slots root g u ≡ true
reached_told slots root g u few tells r =
    walk_steps slots root g r.root r.rest u few r.unit
    (roots_within root (refers_to slots g) g.units (length g.units) r.root (tells.whole r.root r.is_root)) r.walk

pub told_reached : (slots : ℕ) (root : List Name → Bool) (g : Graph) (u : List Name) → TellsRoots g root → IsUnit g u → is_reached slots root g u ≡ true → IsReached g u
told_reached slots root g u tells unit e = steps_walk slots root g (length g.units) u tells unit e

pub reach_by_steps : ReachBySteps
reach_by_steps slots root g u few tells unit = (told_reached slots root g u tells unit, reached_told slots root g u few tells)
