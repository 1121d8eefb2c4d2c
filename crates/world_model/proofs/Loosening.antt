-- A unit is parted: its last member leaves it, and is a unit by itself.
use Rattle.std.proofs.Common.{◌≡◌, ◌≢◌, refl, sym, subst, ap, ◌∙◌, inl, inr, Bool, cond, true, false, ◌||◌, if◌then◌else◌, List, [], ◌∷◌, ◌++◌, append-nil, Option, Some, None, unwrap_or, option_map, ◌⊎◌}
use Rattle.std.specs.List.{find, flat_map}
use Rattle.std.proofs.lemmas.Bool.{not-true, not_from_false, and_from, or_left}
use Rattle.std.proofs.lemmas.List.Folds.{list_any-append}
use Rattle.std.proofs.lemmas.List.Concat.{flat_map-append}
use Rattle.world_model.specs.Types.{Name}
use Rattle.world_model.specs.NameLists.{same_name, has, all_different, members, is_last, ends_with, but_last, parted}
use Rattle.world_model.specs.World.{World, unit_of, in_world}
use Rattle.world_model.specs.Next.{with_loose}
use Rattle.world_model.proofs.ListFacts.{and_true, or_false, or_right, Among, among_append, among_left, among_right}
use Rattle.world_model.proofs.NameFacts.{same_name_true, same_name_refl}
use Rattle.world_model.proofs.Rounds.{has-members, same_name_sym}

-- ---- the last member

last_splits : (n : Name) (u : List Name) → is_last n u ≡ true → u ≡ but_last u ++ n ∷ []
last_splits n [] h = absurd cc
last_splits n (m ∷ []) h = ap (λ (x : Name). x ∷ []) (sym (same_name_true n m h))
last_splits n (m ∷ k ∷ names) h = ap (λ (ns : List Name). m ∷ ns) (last_splits n (k ∷ names) h)

-- a unit with a last member is what is left of it, and that member
pub ends_splits : (n : Name) (u : List Name) → ends_with n u ≡ true → u ≡ but_last u ++ n ∷ []
ends_splits n [] h = absurd cc
ends_splits n (first ∷ []) h = absurd cc
ends_splits n (first ∷ k ∷ names) h = ap (λ (ns : List Name). first ∷ ns) (last_splits n (k ∷ names) h)

-- and something is left of it
pub ends_some : (n : Name) (u : List Name) → ends_with n u ≡ true → but_last u ≢ []
ends_some n [] h = absurd cc
ends_some n (first ∷ []) h = absurd cc
ends_some n (first ∷ k ∷ names) h = λ e. cc

or_none : (b : Bool) → (b || false) ≡ b
or_none true = refl
or_none false = refl

-- its members are those that are left, and the one that leaves
pub ends_has : (n : Name) (u : List Name) (m : Name) → ends_with n u ≡ true → has u m ≡ (has (but_last u) m || same_name m n)
ends_has n u m h =
    ap (λ (ns : List Name). has ns m) (ends_splits n u h) ∙ list_any-append (same_name m) (but_last u) (n ∷ []) ∙ ap (λ (b : Bool). has (but_last u) m || b) (or_none (same_name m n))

-- the last member is one
pub ends_own : (n : Name) (u : List Name) → ends_with n u ≡ true → has u n ≡ true
ends_own n u h = ends_has n u n h ∙ or_right (has (but_last u) n) _ (same_name_refl n)

-- ---- different members

-- of different names the last is none of the others
different_front : (xs : List Name) (n : Name) → all_different (xs ++ n ∷ []) ≡ true → (has xs n ≡ false) × (all_different xs ≡ true)
different_front [] n h = (refl, refl)
different_front (x ∷ xs) n h =
    let parts = and_true _ _ h in
    let rest = different_front xs n parts.1 in
    let out = or_false (has xs x) _ (sym (list_any-append (same_name x) xs (n ∷ [])) ∙ not-true _ parts.0) in
    let other : same_name n x ≡ false = same_name_sym x n (sym (or_none (same_name x n)) ∙ out.1) in
    (rw (other, rest.0) refl, and_from _ _ (not_from_false _ out.0) rest.1)

pub different_left : (n : Name) (u : List Name) → ends_with n u ≡ true → all_different u ≡ true → (has (but_last u) n ≡ false) × (all_different (but_last u) ≡ true)
different_left n u h different = different_front (but_last u) n (ap all_different (sym (ends_splits n u h)) ∙ different)

-- ---- parts

parts_join : (of : Name) (u : List Name) → members (parted of u) ≡ u
parts_join of u = go (ends_with of u) refl
  where
    go : (b : Bool) → ends_with of u ≡ b → members (if b then but_last u ∷ (of ∷ []) ∷ [] else u ∷ []) ≡ u
    go true e = sym (ends_splits of u e)
    go false e = append-nil u

-- parting keeps all members, and their order
pub members_parted : (of : Name) (units : List (List Name)) → members (flat_map (parted of) units) ≡ members units
members_parted of [] = refl
members_parted of (u ∷ units) =
    flat_map-append (λ (v : List Name). v) (parted of u) (flat_map (parted of) units)
    ∙ ap (λ (ns : List Name). ns ++ members (flat_map (parted of) units)) (parts_join of u)
    ∙ ap (λ (ns : List Name). u ++ ns) (members_parted of units)

-- so what lives stays so, and nothing else does
pub lives_loose : (w : World) (of n : Name) → in_world (with_loose w of) n ≡ in_world w n
lives_loose w of n = sym (has-members (flat_map (parted of) w.units) n) ∙ ap (λ (ns : List Name). has ns n) (members_parted of w.units) ∙ has-members w.units n

-- each part is one of a unit
pub among_parted : (of : Name) (units : List (List Name)) (u : List Name) → Among (flat_map (parted of) units) u → (v : List Name) × Among units v × Among (parted of v) u
among_parted of [] u h = absurd h
among_parted of (v ∷ units) u h = go (among_parted of units u) (among_append (parted of v) (flat_map (parted of) units) u h)
  where
    go : (Among (flat_map (parted of) units) u → (x : List Name) × Among units x × Among (parted of x) u) → Among (parted of v) u ⊎ Among (flat_map (parted of) units) u
        → (x : List Name) × Among (v ∷ units) x × Among (parted of x) u
    go rest (inl k) = (v, inl refl, k)
    go rest (inr k) = let r = rest k in (r.0, inr r.1, r.2)

pub parted_among : (of : Name) (units : List (List Name)) (v u : List Name) → Among units v → Among (parted of v) u → Among (flat_map (parted of) units) u
parted_among of [] v u k h = absurd k
parted_among of (x ∷ units) v u (inl e) h = among_left (parted of x) (flat_map (parted of) units) u (subst (λ (y : List Name). Among (parted of y) u) (sym e) h)
parted_among of (x ∷ units) v u (inr k) h = among_right (parted of x) (flat_map (parted of) units) u (parted_among of units v u k h)

-- a part of a unit: what is left of it, the member that left it, or all of it
pub which_part : (of : Name) (v u : List Name) → Among (parted of v) u → ((ends_with of v ≡ true) × ((but_last v ≡ u) ⊎ (of ∷ [] ≡ u))) ⊎ ((ends_with of v ≡ false) × (v ≡ u))
which_part of v u h = go (ends_with of v) refl h
  where
    two : ends_with of v ≡ true → (but_last v ≡ u) ⊎ ((of ∷ [] ≡ u) ⊎ ⊥) → (ends_with of v ≡ true) × ((but_last v ≡ u) ⊎ (of ∷ [] ≡ u))
    two e (inl k) = (e, inl k)
    two e (inr (inl k)) = (e, inr k)
    two e (inr (inr k)) = absurd k

    one : (v ≡ u) ⊎ ⊥ → v ≡ u
    one (inl e) = e
    one (inr k) = absurd k

    go : (b : Bool) → ends_with of v ≡ b → Among (if b then but_last v ∷ (of ∷ []) ∷ [] else v ∷ []) u
        → ((ends_with of v ≡ true) × ((but_last v ≡ u) ⊎ (of ∷ [] ≡ u))) ⊎ ((ends_with of v ≡ false) × (v ≡ u))
    go true e k = inl (two e k)
    go false e k = inr (e, one k)

pub first_part : (of : Name) (v : List Name) → ends_with of v ≡ true → Among (parted of v) (but_last v)
first_part of v e = rw e (inl refl)

pub last_part : (of : Name) (v : List Name) → ends_with of v ≡ true → Among (parted of v) (of ∷ [])
last_part of v e = rw e (inr (inl refl))

pub whole_part : (of : Name) (v : List Name) → ends_with of v ≡ false → Among (parted of v) v
whole_part of v e = rw e (inl refl)

-- a part has no member but those of the unit
pub in_part : (of : Name) (v u : List Name) (n : Name) → Among (parted of v) u → has u n ≡ true → has v n ≡ true
in_part of v u n k h = go (which_part of v u k)
  where
    go : ((ends_with of v ≡ true) × ((but_last v ≡ u) ⊎ (of ∷ [] ≡ u))) ⊎ ((ends_with of v ≡ false) × (v ≡ u)) → has v n ≡ true
    go (inl (e, inl same)) = ends_has of v n e ∙ or_left _ _ (ap (λ (x : List Name). has x n) same ∙ h)
    go (inl (e, inr same)) = ends_has of v n e ∙ or_right (has (but_last v) n) _ (sym (or_none (same_name n of)) ∙ ap (λ (x : List Name). has x n) same ∙ h)
    go (inr (e, same)) = ap (λ (x : List Name). has x n) same ∙ h

-- ---- the unit of a name

-- the part in which a member of a unit stands
abbrev pub part_of : Name → Name → List Name → List Name
part_of of n u = if ends_with of u then (if has (but_last u) n then but_last u else of ∷ []) else u

find_parted : (of n : Name) (units : List (List Name)) → find (λ u. has u n) (flat_map (parted of) units) ≡ option_map (part_of of n) (find (λ u. has u n) units)
find_parted of n [] = refl
find_parted of n (u ∷ units) = go (ends_with of u) refl (find_parted of n units)
  where
    rest : Option (List Name)
    rest = find (λ v. has v n) units

    parts : (a b : Bool) → ends_with of u ≡ true → has (but_last u) n ≡ a → same_name n of ≡ b → has u n ≡ (a || b) → find (λ v. has v n) (flat_map (parted of) units) ≡ option_map (part_of of n) rest
        → cond a (Some (but_last u)) (cond (b || false) (Some (of ∷ [])) (find (λ v. has v n) (flat_map (parted of) units))) ≡ option_map (part_of of n) (cond (has u n) (Some u) rest)
    parts true b ends left own all later = rw (all, ends, left) refl
    parts false true ends left own all later = rw (all, ends, left) refl
    parts false false ends left own all later = rw all later

    go : (e : Bool) → ends_with of u ≡ e → find (λ v. has v n) (flat_map (parted of) units) ≡ option_map (part_of of n) rest
        → find (λ v. has v n) ((if e then but_last u ∷ (of ∷ []) ∷ [] else u ∷ []) ++ flat_map (parted of) units) ≡ option_map (part_of of n) (cond (has u n) (Some u) rest)
    go true e later = parts (has (but_last u) n) (same_name n of) e refl refl (ends_has of u n e) later
    go false e later = one (has u n)
      where
        one : (b : Bool) → cond b (Some u) (find (λ v. has v n) (flat_map (parted of) units)) ≡ option_map (part_of of n) (cond b (Some u) rest)
        one true = rw e refl
        one false = later

pub unit_of_loose : (w : World) (of n : Name) → unit_of (with_loose w of) n ≡ part_of of n (unit_of w n)
unit_of_loose w of n = ap (λ (o : Option (List Name)). unwrap_or o []) (find_parted of n w.units) ∙ go (find (λ u. has u n) w.units)
  where
    go : (o : Option (List Name)) → unwrap_or (option_map (part_of of n) o) [] ≡ part_of of n (unwrap_or o [])
    go None = refl
    go (Some u) = refl

-- a unit that does not end with the member stays
pub stays_whole : (of n : Name) (u : List Name) → ends_with of u ≡ false → part_of of n u ≡ u
stays_whole of n u e = rw e refl

-- a name stands in a part of the unit in which it stood
pub part_within : (of n : Name) (u : List Name) (m : Name) → has (part_of of n u) m ≡ true → has u m ≡ true
part_within of n u m h = go (ends_with of u) refl (has (but_last u) n) h
  where
    go : (b : Bool) → ends_with of u ≡ b → (c : Bool) → has (if b then (if c then but_last u else of ∷ []) else u) m ≡ true → has u m ≡ true
    go true e true k = ends_has of u m e ∙ or_left _ _ k
    go true e false k = ends_has of u m e ∙ or_right (has (but_last u) m) _ (sym (or_none (same_name m of)) ∙ k)
    go false e c k = k
