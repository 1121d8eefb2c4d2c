-- In every legal history no name stands in two units.
use Rattle.std.proofs.Common.{◌≡◌, ℕ, ◌+◌, ◌<◌, ◌≤◌, refl, sym, subst, ap, ◌∙◌, inl, inr, arith, Bool, cond, true, false, ◌==◌, List, [], ◌∷◌, ◌++◌, length, length-append, ◌⊎◌}
use Rattle.std.specs.List.{flat_map}
use Rattle.std.proofs.lemmas.Bool.{both_ways, not_from_false, false_from_ne_true, and_from, eqb-true, eq-eqb}
use Rattle.world_model.specs.Types.{Name, Kind, Pass, Lane, Marker, Collector, Act, Entry}
use Rattle.world_model.specs.Types.act
use Rattle.world_model.specs.Types.begin
use Rattle.world_model.specs.Types.commit
use Rattle.world_model.specs.Sizes.{Sizes}
use Rattle.world_model.specs.NameLists.{has, all_different, ends_with, but_last, parted, names_from, set_at}
use Rattle.world_model.specs.State.{State, beginning, is_marked}
use Rattle.world_model.specs.Next.{next_world, next, run}
use Rattle.world_model.specs.Histories.{MayBy, Legal, LegalFrom, after}
use Rattle.world_model.specs.Midway.{AreApart}
use Rattle.world_model.proofs.ListFacts.{Among, among_append, among_filter}
use Rattle.world_model.proofs.NameFacts.{names_from_range, member_of_one}
use Rattle.world_model.proofs.Loosening.{among_parted, which_part, in_part, different_left}

-- a lane that makes more names has made no fewer, and the new ones are among them
pub grown : (kinds : ℕ → List Kind) (lane : ℕ) (more : List Kind) (l : ℕ) → length (kinds l) ≤ length (set_at kinds lane (kinds lane ++ more) l)
grown kinds lane more l = go (l == lane) refl
  where
    go : (b : Bool) → (l == lane) ≡ b → length (kinds l) ≤ length (cond b (kinds lane ++ more) (kinds l))
    go true e =
        let len = length-append (kinds lane) more in
        let same : length (kinds l) ≡ length (kinds lane) = ap (λ i. length (kinds i)) (eqb-true l lane e) in
        omega arith
    go false e = omega arith

pub new_made : (kinds : ℕ → List Kind) (lane : ℕ) (more : List Kind) (n : Name) → n.lane ≡ lane → n.count ≤ length (kinds lane) + length more
    → n.count ≤ length (set_at kinds lane (kinds lane ++ more) n.lane)
new_made kinds lane more n own below = go (n.lane == lane) refl
  where
    go : (b : Bool) → (n.lane == lane) ≡ b → n.count ≤ length (cond b (kinds lane ++ more) (kinds n.lane))
    go true e = omega (arith, length-append (kinds lane) more)
    go false e = absurd (let t : (n.lane == lane) ≡ true = eq-eqb n.lane lane own in let f : (n.lane == lane) ≡ false = e in cc)

-- new names are all different
pub new_different : (lane first : ℕ) (kinds : List Kind) → all_different (names_from lane first kinds) ≡ true
new_different lane first [] = refl
new_different lane first (k ∷ kinds) =
    and_from _ _ (not_from_false _ (false_from_ne_true _ (λ is. let range = names_from_range lane (first + 1) kinds (record { lane = lane; count = first }) is in absurd (omega (arith, range.1)))))
    (new_different lane (first + 1) kinds)

-- with one more unit of new names
with_unit_apart : (kinds : ℕ → List Kind) (units : List (List Name)) (lane first : ℕ) (more : List Kind) → first ≡ length (kinds lane) + 1
    → AreApart kinds units → AreApart (set_at kinds lane (kinds lane ++ more)) (units ++ names_from lane first more ∷ [])
with_unit_apart kinds units lane first more is h =
    record {
      made = λ u n m has_n. made' u n (among_append units (names_from lane first more ∷ []) u m) has_n;
      apart = λ u v n m k has_u has_v. apart' u v n (among_append units (names_from lane first more ∷ []) u m) (among_append units (names_from lane first more ∷ []) v k) has_u has_v;
      different = λ u m. different' u (among_append units (names_from lane first more ∷ []) u m);
      one_lane = λ u n k m has_n has_k. one_lane' u n k (among_append units (names_from lane first more ∷ []) u m) has_n has_k;
    }
  where
    one_lane' : (u : List Name) (n k : Name) → Among units u ⊎ ((names_from lane first more ≡ u) ⊎ ⊥) → has u n ≡ true → has u k ≡ true → n.lane ≡ k.lane
    one_lane' u n k (inl m) has_n has_k = h.one_lane u n k m has_n has_k
    one_lane' u n k (inr (inl e)) has_n has_k =
        (names_from_range lane first more n (subst (λ (x : List Name). has x n ≡ true) (sym e) has_n)).0
        ∙ sym (names_from_range lane first more k (subst (λ (x : List Name). has x k ≡ true) (sym e) has_k)).0
    one_lane' u n k (inr (inr e)) has_n has_k = absurd e

    different' : (u : List Name) → Among units u ⊎ ((names_from lane first more ≡ u) ⊎ ⊥) → all_different u ≡ true
    different' u (inl m) = h.different u m
    different' u (inr (inl e)) = ap all_different (sym e) ∙ new_different lane first more
    different' u (inr (inr e)) = absurd e

    -- a name of the new unit
    new : (u : List Name) (n : Name) → (names_from lane first more ≡ u) ⊎ ⊥ → has u n ≡ true → (n.lane ≡ lane) × (first ≤ n.count) × (n.count < first + length more)
    new u n (inl e) has_n = names_from_range lane first more n (subst (λ (x : List Name). has x n ≡ true) (sym e) has_n)
    new u n (inr e) has_n = absurd e

    -- no name is in an old unit and in the new one
    both : (u v : List Name) (n : Name) → Among units u → has u n ≡ true → (names_from lane first more ≡ v) ⊎ ⊥ → has v n ≡ true → ⊥
    both u v n m has_u k has_v =
        let range = new v n k has_v in
        let low : n.count ≤ length (kinds n.lane) = h.made u n m has_u in
        let same : length (kinds n.lane) ≡ length (kinds lane) = ap (λ i. length (kinds i)) range.0 in
        omega (arith, range.1)

    made' : (u : List Name) (n : Name) → Among units u ⊎ ((names_from lane first more ≡ u) ⊎ ⊥) → has u n ≡ true → n.count ≤ length (set_at kinds lane (kinds lane ++ more) n.lane)
    made' u n (inl m) has_n = omega (arith, h.made u n m has_n, grown kinds lane more n.lane)
    made' u n (inr e) has_n = let range = new u n e has_n in new_made kinds lane more n range.0 (omega (arith, range.2))

    same' : (u v : List Name) → (names_from lane first more ≡ u) ⊎ ⊥ → (names_from lane first more ≡ v) ⊎ ⊥ → u ≡ v
    same' u v (inl e) (inl f) = sym e ∙ f
    same' u v (inr e) f = absurd e
    same' u v e (inr f) = absurd f

    apart' : (u v : List Name) (n : Name) → Among units u ⊎ ((names_from lane first more ≡ u) ⊎ ⊥) → Among units v ⊎ ((names_from lane first more ≡ v) ⊎ ⊥) → has u n ≡ true → has v n ≡ true → u ≡ v
    apart' u v n (inl m) (inl k) has_u has_v = h.apart u v n m k has_u has_v
    apart' u v n (inl m) (inr k) has_u has_v = absurd (both u v n m has_u k has_v)
    apart' u v n (inr m) (inl k) has_u has_v = absurd (both v u n k has_v m has_u)
    apart' u v n (inr m) (inr k) has_u has_v = same' u v m k

-- a unit is parted
loosened_apart : (kinds : ℕ → List Kind) (units : List (List Name)) (of : Name) → AreApart kinds units → AreApart kinds (flat_map (parted of) units)
loosened_apart kinds units of h = record {
  made = λ u n m has_n. let r = among_parted of units u m in h.made r.0 n r.1 (in_part of r.0 u n r.2 has_n);
  apart = λ u v n m k has_u has_v.
      let r = among_parted of units u m in
      let q = among_parted of units v k in
      let same : q.0 ≡ r.0 = h.apart q.0 r.0 n q.1 r.1 (in_part of q.0 v n q.2 has_v) (in_part of r.0 u n r.2 has_u) in
      one r.0 u v n (h.different r.0 r.1) (which_part of r.0 u r.2) (which_part of r.0 v (subst (λ (x : List Name). Among (parted of x) v) same q.2)) has_u has_v;
  different = λ u m. let r = among_parted of units u m in different' r.0 u (h.different r.0 r.1) (which_part of r.0 u r.2);
  one_lane = λ u n k m has_n has_k. let r = among_parted of units u m in h.one_lane r.0 n k r.1 (in_part of r.0 u n r.2 has_n) (in_part of r.0 u k r.2 has_k);
}
  where
    Part : List Name → List Name → Type 0
    Part x u = ((ends_with of x ≡ true) × ((but_last x ≡ u) ⊎ (of ∷ [] ≡ u))) ⊎ ((ends_with of x ≡ false) × (x ≡ u))

    -- the member that leaves a unit is not among those that are left
    both : (x u v : List Name) (n : Name) → all_different x ≡ true → ends_with of x ≡ true → but_last x ≡ u → of ∷ [] ≡ v → has u n ≡ true → has v n ≡ true → ⊥
    both x u v n different e left out has_u has_v =
        let same : n ≡ of = member_of_one n of (ap (λ (y : List Name). has y n) out ∙ has_v) in
        both_ways (has (but_last x) of) (different_left of x e different).0 (subst (λ (m : Name). has (but_last x) m ≡ true) same (ap (λ (y : List Name). has y n) left ∙ has_u))

    one : (x u v : List Name) (n : Name) → all_different x ≡ true → Part x u → Part x v → has u n ≡ true → has v n ≡ true → u ≡ v
    one x u v n different (inl (e, inl s)) (inl (f, inl t)) has_u has_v = sym s ∙ t
    one x u v n different (inl (e, inr s)) (inl (f, inr t)) has_u has_v = sym s ∙ t
    one x u v n different (inl (e, inl s)) (inl (f, inr t)) has_u has_v = absurd (both x u v n different e s t has_u has_v)
    one x u v n different (inl (e, inr s)) (inl (f, inl t)) has_u has_v = absurd (both x v u n different e t s has_v has_u)
    one x u v n different (inr (e, s)) (inr (f, t)) has_u has_v = sym s ∙ t
    one x u v n different (inl (e, s)) (inr (f, t)) has_u has_v = absurd (both_ways _ f e)
    one x u v n different (inr (e, s)) (inl (f, t)) has_u has_v = absurd (both_ways _ e f)

    different' : (x u : List Name) → all_different x ≡ true → Part x u → all_different u ≡ true
    different' x u different (inl (e, inl s)) = ap all_different (sym s) ∙ (different_left of x e different).1
    different' x u different (inl (e, inr s)) = ap all_different (sym s)
    different' x u different (inr (e, s)) = ap all_different (sym s) ∙ different

-- each step keeps the units apart
pub next_apart : (z : Sizes) (s : State) (p : Pass) (a : Act) → MayBy z s p a → AreApart s.world.kinds s.world.units
    → AreApart (next_world s.marks s.world p a).kinds (next_world s.marks s.world p a).units
next_apart z s (Lane lane) (act.Make kinds first) may h = with_unit_apart s.world.kinds s.world.units lane first kinds may.may.next h
next_apart z s (Marker marker) (act.Make kinds first) may h = absurd may.may
next_apart z s Collector (act.Make kinds first) may h = absurd may.may
next_apart z s p (act.Loose of) may h = loosened_apart s.world.kinds s.world.units of h
next_apart z s p (act.CommitGc commit.Done) may h = record {
  different = λ u m. h.different u (among_filter (is_marked s.marks) s.world.units u m);
  one_lane = λ u n k m has_n has_k. h.one_lane u n k (among_filter (is_marked s.marks) s.world.units u m) has_n has_k;
  made = λ u n m has_n. h.made u n (among_filter (is_marked s.marks) s.world.units u m) has_n;
  apart = λ u v n m k has_u has_v. h.apart u v n (among_filter (is_marked s.marks) s.world.units u m) (among_filter (is_marked s.marks) s.world.units v k) has_u has_v;
}
next_apart z s p (act.BeginGc begin.Started) may h = h
next_apart z s p _ may h = h

pub run_apart : (z : Sizes) (s : State) (entries : List Entry) → LegalFrom z s entries → AreApart s.world.kinds s.world.units → AreApart (run s entries).world.kinds (run s entries).world.units
run_apart z s [] legal h = h
run_apart z s (e ∷ entries) legal h = run_apart z (next s e) entries legal.1 (next_apart z s e.pass e.act legal.0 h)

-- in the world that a legal history leaves no name stands in two units
pub units_apart : (z : Sizes) (history : List Entry) → Legal z history → AreApart (after history).kinds (after history).units
units_apart z history legal = run_apart z beginning history legal (record { made = λ u n m. absurd m; apart = λ u v n m. absurd m; different = λ u m. absurd m; one_lane = λ u n k m. absurd m })
