-- The queue of destruction, as sweeps build it.
use Rattle.std.proofs.Common.{◌≡◌, ℕ, ◌+◌, ◌<◌, ◌≤◌, ◌==◌, ◌⊎◌, refl, sym, subst, ap, ◌∙◌, inl, inr, zero, suc, arith, Bool, cond, true, false, List, [], ◌∷◌, ◌++◌, append-nil, length, filter, get_or, Option, Some}
use Rattle.std.proofs.lemmas.Bool.{eqb-true, eqb-false}
use Rattle.std.proofs.lemmas.Grind.{flat_map-append}
use Rattle.world_model.specs.Sizes.{Sizes}
use Rattle.world_model.specs.NameLists.{same_name, has, members, begins_with}
use Rattle.world_model.specs.World.{Removal, Removed as AtRemoved}
use Rattle.world_model.proofs.ListFacts.{Among, among_filter, among_filter_test, among_test}
use Rattle.world_model.proofs.NameFacts.{same_name_true, same_name_refl, among_members, among_has, has_among}
use Rattle.world_model.proofs.Queues.{unit_in_order, begins_among}
use Rattle.world_model.proofs.Destroying.{order_of}
use Rattle.heap_plain.specs.Types.{Name, Kind, Gathering}
use Rattle.heap_plain.specs.declared.life.Life.{Life}
use Rattle.heap_plain.specs.declared.life.Life.TheVariants.{Free, Live, Removed, Begun, Finished}
use Rattle.heap_plain.specs.Parts.{Objects, name_at, life_at, first_at, is_gone, stage_of}
use Rattle.heap_plain.specs.Sweeping.{removed_name, removed_names}
use Rattle.heap_plain.specs.Listing.{chained, chain, begins, unit_at, units_at}
use Rattle.heap_plain.specs.Lists.{Distinct}
use Rattle.heap_plain.specs.Units.{NamesShow, UnitsShow, AreLinked}
use Rattle.heap_plain.specs.Destroying.{RemovedShow, removal_at, GoneShow, LiesAt, AreNamed, still_there}
use Rattle.heap_plain.proofs.MarkSteps.{few_below}
use Rattle.heap_plain.proofs.Standing.{name_below}
use Rattle.heap_plain.proofs.NewNames.{members_among, distinct_append}
use Rattle.heap_plain.proofs.Listings.{linked_named, linked_member}
use Rattle.heap_plain.proofs.Queueing.{named_append, named_in}
use Rattle.heap_plain.proofs.SliceSteps.{filter_none}
use Rattle.heap_plain.proofs.CommitSteps.{distinct_left, distinct_right, distinct_both}
use Rattle.world_model.proofs.Turns.{begins_both}

-- ---- the unit that begins with a name

-- a unit of different names is one of the units at one place
pub filter_one : (n : Name) (units : List (List Name)) (u : List Name) → Distinct (members units) → Among units u → begins_with n u ≡ true → filter (begins_with n) units ≡ u ∷ []
filter_one n [] u d a e = absurd a
filter_one n (v ∷ units) u d a e = go (begins_with n v) refl a (filter_one n units u (distinct_right v (members units) d))
  where
    out : begins_with n v ≡ true → (x : List Name) → Among units x → begins_with n x ≡ true → ⊥
    out is x b f = distinct_both v (members units) d n (begins_among n v is) (members_among units x n b (among_has x n (begins_among n x f)))

    go : (b : Bool) → begins_with n v ≡ b → (v ≡ u) ⊎ Among units u → (Among units u → begins_with n u ≡ true → filter (begins_with n) units ≡ u ∷ [])
        → cond b (v ∷ filter (begins_with n) units) (filter (begins_with n) units) ≡ u ∷ []
    go true is (inl same) rest = λ t. same t ∷ filter_none (begins_with n) units (out is) t
    go true is (inr b) rest = absurd (out is u b e)
    go false is (inl same) rest = absurd (let wrong : begins_with n v ≡ true = ap (begins_with n) same ∙ e in cc)
    go false is (inr b) rest = rest b e

pub distinct_unit : (units : List (List Name)) (u : List Name) → Distinct (members units) → Among units u → Distinct u
distinct_unit [] u d a = absurd a
distinct_unit (v ∷ units) u d (inl e) = subst (λ (x : List Name). Distinct x) e (distinct_left v (members units) d)
distinct_unit (v ∷ units) u d (inr a) = distinct_unit units u (distinct_right v (members units) d) a

-- ---- the order of destruction

-- a name stands in one unit
pub same_unit : (units : List (List Name)) (u v : List Name) (n : Name) → Distinct (members units) → Among units u → Among units v → Among u n → Among v n → u ≡ v
same_unit [] u v n d a b i j = absurd a
same_unit (w ∷ units) u v n d (inl e) (inl f) i j = sym e ∙ f
same_unit (w ∷ units) u v n d (inl e) (inr b) i j = absurd (distinct_both w (members units) d n (subst (λ (x : List Name). Among x n) (sym e) i) (members_among units v n b (among_has v n j)))
same_unit (w ∷ units) u v n d (inr a) (inl f) i j = absurd (distinct_both w (members units) d n (subst (λ (x : List Name). Among x n) (sym f) j) (members_among units u n a (among_has u n i)))
same_unit (w ∷ units) u v n d (inr a) (inr b) i j = same_unit units u v n (distinct_right w (members units) d) a b i j

distinct_units : (n : Name) (units : List (List Name)) → Distinct (members units) → Distinct (members (filter (begins_with n) units))
distinct_units n [] d = tt
distinct_units n (u ∷ units) d = go (begins_with n u) (distinct_units n units (distinct_right u (members units) d))
  where
    go : (b : Bool) → Distinct (members (filter (begins_with n) units)) → Distinct (members (cond b (u ∷ filter (begins_with n) units) (filter (begins_with n) units)))
    go true rest = distinct_append u (members (filter (begins_with n) units)) (distinct_left u (members units) d) rest
        (λ m a b. let v = among_members (filter (begins_with n) units) m b in distinct_both u (members units) d m a (members_among units v.0 m (among_filter (begins_with n) units v.0 v.1) v.2))
    go false rest = rest

pub order_distinct : (units : List (List Name)) (found : List Name) → Distinct (members units) → Distinct found → Distinct (members (order_of units found))
order_distinct units [] d f = tt
order_distinct units (n ∷ found) d f =
    subst (λ (ns : List Name). Distinct ns) (sym (flat_map-append (λ (u : List Name). u) (filter (begins_with n) units) (order_of units found)))
    (distinct_append (members (filter (begins_with n) units)) (members (order_of units found)) (distinct_units n units d) (order_distinct units found d f.1) apart)
  where
    apart : (m : Name) → Among (members (filter (begins_with n) units)) m → Among (members (order_of units found)) m → ⊥
    apart m a b =
        let u = among_members (filter (begins_with n) units) m a in
        let v = among_members (order_of units found) m b in
        let placed = unit_in_order units found v.0 v.1 in
        let same = same_unit units u.0 v.0 m d (among_filter (begins_with n) units u.0 u.1) placed.0 (has_among u.0 m u.2) (has_among v.0 m v.2) in
        let first : begins_with n v.0 ≡ true = subst (λ (x : List Name). begins_with n x ≡ true) same (among_filter_test (begins_with n) units u.0 u.1) in
        f.0 (subst (λ (x : Name). Among found x) (begins_both placed.1.0 n v.0 placed.1.1 first) placed.1.2)

-- ---- how many indexes there are

pub distinct_at : (names : List (Option Name)) (at : List ℕ) (of : List Name) → AreNamed names at of → Distinct of → Distinct at
distinct_at names [] [] h d = tt
distinct_at names [] (n ∷ of) h d = absurd h
distinct_at names (i ∷ at) [] h d = absurd h
distinct_at names (i ∷ at) (n ∷ of) h d = (
  (λ a. let r = named_in names at of h.1 i a in let same : r.0 ≡ n = (let x = r.2 in let y = h.0 in cc) in d.0 (subst (λ (x : Name). Among of x) same r.1)),
  distinct_at names at of h.1 d.1,
)

-- different objects are no more than there are indexes
pub few_named : (names : List (Option Name)) (at : List ℕ) (of : List Name) → AreNamed names at of → Distinct of → length at ≤ length names
few_named names at of h d =
    few_below (length names) at (distinct_at names at of h d) (λ i a. let r = named_in names at of h i a in name_below names i r.0 r.2)

-- ---- removed units

module _ {z : Sizes} {o : Objects} {kinds : ℕ → List Kind} {waiting polls : List ℕ} {living : List (List Name)} {left swept looked : ℕ}
    {found : List Name} {removals : List Removal} {units : List (List Name)}
    (ns : NamesShow z o.names kinds) (us : UnitsShow z o living) (rs : RemovedShow z o.names o.lives polls left swept Gathering removals found looked) (gs : GoneShow z o waiting removals units)
    (once : Distinct (members units)) (unbegun : (r : Removal) → Among removals r → r.stage ≡ AtRemoved) where
  abbrev Lies : ℕ → List Name → Type 0
  Lies head u = LiesAt o waiting removals units head u

  name_there : (i : ℕ) → is_gone (life_at o.lives i) ≡ true → (n : Name) × (name_at o.names i ≡ Some n)
  name_there i e = us.named i (λ free. let none : is_gone (life_at o.lives i) ≡ false = ap is_gone free in absurd cc)

  -- while they are being found, none is begun
  pub not_begun : (i : ℕ) → is_gone (life_at o.lives i) ≡ true → life_at o.lives i ≡ Removed
  not_begun i e = let n = name_there i e in go (life_at o.lives i) e (unbegun (removal_at o.lives polls i n.0) (rs.removed i n.0 n.1 e))
    where
      go : (life : Life) → is_gone life ≡ true → stage_of life ≡ AtRemoved → life ≡ Removed
      go Removed a b = refl
      go Free a b = absurd cc
      go Live a b = absurd cc
      go Begun a b = absurd cc
      go Finished a b = absurd cc

  -- the first member of a unit is at its first index
  pub first_begins : (head : ℕ) (u : List Name) (n : Name) → Lies head u → name_at o.names head ≡ Some n → begins_with n u ≡ true
  first_begins head u n t e = go u t.linked (t.whole head n (record { name = e; life = t.life }) t.own)
    where
      go : (v : List Name) → AreLinked o.names o.next head v → has v n ≡ true → begins_with n v ≡ true
      go [] l h = absurd cc
      go (m ∷ v) l h = let same : n ≡ m = (let x = l.0 in let y = e in cc) in ap (same_name n) (sym same) ∙ same_name_refl n

  -- and the other way round
  head_first : (head : ℕ) (u : List Name) (n : Name) → Lies head u → begins_with n u ≡ true → name_at o.names head ≡ Some n
  head_first head u n t e = go u t.linked e
    where
      go : (v : List Name) → AreLinked o.names o.next head v → begins_with n v ≡ true → name_at o.names head ≡ Some n
      go [] l h = absurd cc
      go (m ∷ v) l h = l.0 ∙ ap (λ (x : Name). Some x) (sym (same_name_true n m h))

  -- what is looked at, and what it gives of the order
  unit_named : (i : ℕ) → AreNamed o.names (unit_at o.lives o.firsts o.sizes o.next i) (members (order_of units (removed_name (life_at o.lives i) (name_at o.names i))))
  unit_named i = go (life_at o.lives i) refl
    where
      there : (n : Name) → life_at o.lives i ≡ Removed → name_at o.names i ≡ Some n → (b : Bool) → (first_at o.firsts i == i) ≡ b
          → AreNamed o.names (cond b (chain o.next i (get_or o.sizes i 0)) []) (members (filter (begins_with n) units ++ []))
      there n e at true own =
          let r = gs.each i (ap is_gone e) in
          let here = eqb-true (first_at o.firsts i) i own in
          let t : Lies i r.0 = subst (λ (x : ℕ). Lies x r.0) here r.1 in
          let one = filter_one n units r.0 once t.among (first_begins i r.0 n t at) in
          let list : members (filter (begins_with n) units ++ []) ≡ r.0 = ap members (append-nil (filter (begins_with n) units) ∙ one) ∙ append-nil r.0 in
          subst (λ (xs : List ℕ). AreNamed o.names xs (members (filter (begins_with n) units ++ []))) (ap (chain o.next i) (sym t.size))
          (subst (λ (xs : List Name). AreNamed o.names (chain o.next i (length r.0)) xs) (sym list) (linked_named o.names o.next i r.0 t.linked))
      there n e at false own =
          let none = filter_none (begins_with n) units (λ v a f.
          let known : still_there removals n ≡ true = among_test (λ r. same_name n r.name) removals (removal_at o.lives polls i n) (rs.removed i n at (ap is_gone e)) (same_name_refl n) in
          let r = gs.all v n a (among_has v n (begins_among n v f)) known in
          let same = ns.alone r.0 i n (head_first r.0 v n r.1 f) at in
          eqb-false (first_at o.firsts i) i own (ap (first_at o.firsts) (sym same) ∙ r.1.own ∙ same)) in
          rw none tt

      go : (life : Life) → life_at o.lives i ≡ life
          → AreNamed o.names (cond (begins life (first_at o.firsts i) i) (chain o.next i (get_or o.sizes i 0)) [])
          (members (order_of units (removed_name life (name_at o.names i))))
      go Removed e =
          let n = name_there i (ap is_gone e) in
          subst (λ (q : Option Name). AreNamed o.names (cond (first_at o.firsts i == i) (chain o.next i (get_or o.sizes i 0)) []) (members (order_of units (removed_name Removed q)))) (sym n.1)
          (there n.0 e n.1 (first_at o.firsts i == i) refl)
      go Free e = tt
      go Live e = tt
      go Begun e = tt
      go Finished e = tt

  pub units_named : (from count : ℕ) → AreNamed o.names (units_at o.lives o.firsts o.sizes o.next from count) (members (order_of units (removed_names o.names o.lives from count)))
  units_named from zero = tt
  units_named from (suc count) =
      let before = removed_names o.names o.lives from count in
      let here = removed_name (life_at o.lives (from + count)) (name_at o.names (from + count)) in
      let spread : members (order_of units (before ++ here)) ≡ members (order_of units before) ++ members (order_of units here) =
      ap members (flat_map-append (λ n. filter (begins_with n) units) before here) ∙ flat_map-append (λ (u : List Name). u) (order_of units before) (order_of units here) in
      subst (λ (xs : List Name). AreNamed o.names (units_at o.lives o.firsts o.sizes o.next from (suc count)) xs) (sym spread)
      (named_append o.names _ _ _ _ (units_named from count) (unit_named (from + count)))

  -- the indexes of a unit
  pub links_within : (i : ℕ) → begins (life_at o.lives i) (first_at o.firsts i) i ≡ true → (k : ℕ) → k < get_or o.sizes i 0 → chained o.next i k < length o.next
  links_within i e k b = go (life_at o.lives i) refl e
    where
      go : (life : Life) → life_at o.lives i ≡ life → begins life (first_at o.firsts i) i ≡ true → chained o.next i k < length o.next
      go Removed is own =
          let r = gs.each i (ap is_gone is) in
          let t : Lies i r.0 = subst (λ (x : ℕ). Lies x r.0) (eqb-true (first_at o.firsts i) i own) r.1 in
          let n = linked_member o.names o.next i r.0 t.linked k (omega (arith, t.size)) in
          omega (arith, name_below o.names (chained o.next i k) n.0 n.1, ns.items, us.links_len)
      go Free is own = absurd cc
      go Live is own = absurd cc
      go Begun is own = absurd cc
      go Finished is own = absurd cc
