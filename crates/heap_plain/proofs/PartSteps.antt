-- Taking a unit apart: its last member leaves it, again and again.
use Rattle.std.proofs.Common.{◌≡◌, ◌≢◌, ℕ, ◌<◌, suc, refl, sym, subst, ap, ◌∙◌, inl, inr, arith, Bool, true, false, List, [], ◌∷◌, ◌++◌, length, length-append, get_or, ◌⊎◌, Option, Some}
use Rattle.std.specs.List.{flat_map}
use Rattle.std.proofs.Math.ListN.{set}
use Rattle.std.proofs.Math.Logic.{dite}
use Rattle.std.proofs.Math.Decide.{ℕ_discrete}
use Rattle.std.proofs.lemmas.Bool.{both_ways}
use Rattle.std.proofs.lemmas.List.{length-set, get_or-set_same, get_or-set_other}
use Rattle.world_model.specs.Sizes.{Sizes, item_count}
use Rattle.world_model.specs.NameLists.{same_name, has, all_different, ends_with, but_last, parted}
use Rattle.world_model.specs.World.{Removal}
use Rattle.world_model.specs.Midway.{AreApart}
use Rattle.world_model.proofs.ListFacts.{Among, or_true}
use Rattle.world_model.proofs.NameFacts.{same_name_refl, member_of_one}
use Rattle.world_model.proofs.Loosening.{ends_splits, ends_has, ends_own, different_left, among_parted, which_part, parted_among, first_part, last_part, whole_part}
use Rattle.heap_plain.specs.Types.{Name, Kind}
use Rattle.heap_plain.specs.declared.life.Life.TheVariants.{Live}
use Rattle.heap_plain.specs.Parts.{Objects, name_at, life_at, first_at, next_at, is_gone}
use Rattle.heap_plain.specs.Listing.{chained}
use Rattle.heap_plain.specs.Units.{NamesShow, UnitsShow, StandsAt, LivesAt, AreLinked}
use Rattle.heap_plain.specs.Destroying.{GoneShow, LiesAt}
use Rattle.heap_plain.proofs.Listings.{chained_next}
use Rattle.heap_plain.proofs.Standing.{one_head, one_unit, name_below}

-- ---- links

-- the last member stands where the links of the others lead
linked_last : (names : List (Option Name)) (links : List ℕ) (i : ℕ) (front : List Name) (n : Name) → AreLinked names links i (front ++ n ∷ []) → name_at names (chained links i (length front)) ≡ Some n
linked_last names links i [] n h = h.0
linked_last names links i (m ∷ front) n h = ap (name_at names) (chained_next links i (length front)) ∙ linked_last names links (next_at links i) front n h.1

linked_front : (names : List (Option Name)) (links : List ℕ) (i : ℕ) (front rest : List Name) → AreLinked names links i (front ++ rest) → AreLinked names links i front
linked_front names links i [] rest h = tt
linked_front names links i (m ∷ front) rest h = (h.0, linked_front names links (next_at links i) front rest h.1)

-- a unit begins with its first member
starts_with : (names : List (Option Name)) (links : List ℕ) (head : ℕ) (u : List Name) → u ≢ [] → AreLinked names links head u → (n : Name) × (name_at names head ≡ Some n) × (has u n ≡ true)
starts_with names links head [] some h = absurd (some refl)
starts_with names links head (n ∷ u) some h = (n, h.0, let t = same_name_refl n in rw t refl)

-- ---- one member leaves

module _ {z : Sizes} {o : Objects} {kinds : ℕ → List Kind} {units : List (List Name)} (ns : NamesShow z o.names kinds) (us : UnitsShow z o units)
    (apart : AreApart kinds units) (head : ℕ) (u : List Name) (t : StandsAt o units head u) (n : Name) (ends : ends_with n u ≡ true) (left : ℕ) (size : length u ≡ suc left) where
  abbrev i : ℕ
  i = chained o.next head left

  pub front_size : length (but_last u) ≡ left
  front_size = let all = ap (λ (v : List Name). length v) (ends_splits n u ends) in let parts = length-append (but_last u) (n ∷ []) in omega arith

  linked_all : AreLinked o.names o.next head (but_last u ++ n ∷ [])
  linked_all = subst (λ (v : List Name). AreLinked o.names o.next head v) (ends_splits n u ends) t.linked

  pub named_last : name_at o.names i ≡ Some n
  named_last = subst (λ (k : ℕ). name_at o.names (chained o.next head k) ≡ Some n) front_size (linked_last o.names o.next head (but_last u) n linked_all)

  own : has u n ≡ true
  own = ends_own n u ends

  place : (j : ℕ) × LivesAt o.names o.lives j n × (first_at o.firsts j ≡ head)
  place = t.inside n own

  same_place : place.0 ≡ i
  same_place = ns.alone place.0 i n place.1.name named_last

  here : LivesAt o.names o.lives i n
  here = subst (λ (j : ℕ). LivesAt o.names o.lives j n) same_place place.1

  first_here : first_at o.firsts i ≡ head
  first_here = ap (first_at o.firsts) (sym same_place) ∙ place.2

  left_out : (has (but_last u) n ≡ false) × (all_different (but_last u) ≡ true)
  left_out = different_left n u ends (apart.different u t.among)

  -- the head is another place
  not_head : but_last u ≢ [] → i ≢ head
  not_head some same =
      let first = starts_with o.names o.next head (but_last u) some (linked_front o.names o.next head (but_last u) (n ∷ []) linked_all) in
      let is : ◌≡◌ {A = Option Name} (Some n) (Some first.0) = sym named_last ∙ ap (name_at o.names) same ∙ first.1 in
      let name : n ≡ first.0 = cc in
      both_ways (has (but_last u) n) left_out.0 (ap (λ (m : Name). has (but_last u) m) name ∙ first.2)

  below : i < item_count z
  below = omega (arith, name_below o.names i n named_last, ns.items)

  module _ (some : but_last u ≢ []) (head_below : head < item_count z) where
    abbrev firsts' : List ℕ
    firsts' = set o.firsts i i

    abbrev sizes' : List ℕ
    sizes' = set (set o.sizes i 1) head left

    -- the objects after it
    abbrev o' : Objects
    o' = record o { firsts = firsts'; sizes = sizes' }

    apart_head : i ≢ head
    apart_head = not_head some

    first_own : first_at firsts' i ≡ i
    first_own = get_or-set_same o.firsts i i 0 (omega (arith, below, us.firsts_len))

    first_other : (j : ℕ) → j ≢ i → first_at firsts' j ≡ first_at o.firsts j
    first_other j ne = get_or-set_other o.firsts i j i 0 ne

    size_own : get_or sizes' i 0 ≡ 1
    size_own = get_or-set_other (set o.sizes i 1) head i left 0 apart_head ∙ get_or-set_same o.sizes i 1 0 (omega (arith, below, us.sizes_len))

    size_head : get_or sizes' head 0 ≡ left
    size_head = get_or-set_same (set o.sizes i 1) head left 0 (omega (arith, head_below, us.sizes_len, length-set o.sizes i 1))

    size_other : (j : ℕ) → j ≢ i → j ≢ head → get_or sizes' j 0 ≡ get_or o.sizes j 0
    size_other j ne other = get_or-set_other (set o.sizes i 1) head j left 0 other ∙ get_or-set_other o.sizes i j 1 0 ne

    -- another index has another name
    named_other : (j : ℕ) (m : Name) → name_at o.names j ≡ Some m → m ≢ n → j ≢ i
    named_other j m e ne same = let is : ◌≡◌ {A = Option Name} (Some m) (Some n) = sym e ∙ ap (name_at o.names) same ∙ named_last in ne cc

    -- what is left of the unit
    pub stands_front : StandsAt o' (flat_map (parted n) units) head (but_last u)
    stands_front = record {
      among = parted_among n units u (but_last u) t.among (first_part n u ends);
      life = t.life;
      own = first_other head (λ e. apart_head (sym e)) ∙ t.own;
      size = size_head ∙ sym front_size;
      linked = linked_front o.names o.next head (but_last u) (n ∷ []) linked_all;
      inside = λ m k.
          let j = t.inside m (in_front m k) in
          (j.0, j.1, first_other j.0 (named_other j.0 m j.1.name (λ e. both_ways _ left_out.0 (ap (λ (x : Name). has (but_last u) x) (sym e) ∙ k))) ∙ j.2);
      whole = λ j m a f. dite (ℕ_discrete j i)
          (λ (e : j ≡ i). absurd (apart_head (sym first_own ∙ ap (first_at firsts') (sym e) ∙ f)))
          (λ (ne : j ≢ i). front_only j m a ne (or_true _ _ (sym (ends_has n u m ends) ∙ t.whole j m a (sym (first_other j ne) ∙ f))));
    }
      where
        in_front : (m : Name) → has (but_last u) m ≡ true → has u m ≡ true
        in_front m k = ends_has n u m ends ∙ (rw k refl)

        front_only : (j : ℕ) (m : Name) → LivesAt o.names o.lives j m → j ≢ i → (has (but_last u) m ≡ true) ⊎ (same_name m n ≡ true) → has (but_last u) m ≡ true
        front_only j m a ne (inl k) = k
        front_only j m a ne (inr e) =
            let same : m ≡ n = member_of_one m n (rw e refl) in
            absurd (ne (ns.alone j i n (a.name ∙ ap (λ (x : Name). Some x) same) named_last))

    -- the member that left
    pub stands_last : StandsAt o' (flat_map (parted n) units) i (n ∷ [])
    stands_last = record {
      among = parted_among n units u (n ∷ []) t.among (last_part n u ends);
      life = here.life;
      own = first_own;
      size = size_own;
      linked = (named_last, tt);
      inside = λ m k. let same : m ≡ n = member_of_one m n k in (i, subst (λ (x : Name). LivesAt o.names o.lives i x) (sym same) here, first_own);
      whole = λ j m a f. dite (ℕ_discrete j i)
          (λ (e : j ≡ i). let is : ◌≡◌ {A = Option Name} (Some m) (Some n) = sym a.name ∙ ap (name_at o.names) e ∙ named_last in
          let same : n ≡ m = cc in
          subst (λ (x : Name). has (n ∷ []) x ≡ true) same (let t = same_name_refl n in rw t refl))
          (λ (ne : j ≢ i). let r = us.each j a.life in absurd (apart_head (sym (subst (λ (x : ℕ). first_at o.firsts x ≡ x) (sym (first_other j ne) ∙ f) r.1.own) ∙ first_here)));
    }

    -- another unit
    stands_other : (h : ℕ) (v : List Name) → ends_with n v ≡ false → StandsAt o units h v → StandsAt o' (flat_map (parted n) units) h v
    stands_other h v out s = record {
      among = parted_among n units v v s.among (whole_part n v out);
      life = s.life;
      own = first_other h not_i ∙ s.own;
      size = size_other h not_i not_h ∙ s.size;
      linked = s.linked;
      inside = λ m k. let j = s.inside m k in (j.0, j.1, first_other j.0 (named_other j.0 m j.1.name (λ e. not_in (ap (λ (x : Name). has v x) (sym e) ∙ k))) ∙ j.2);
      whole = λ j m a f. dite (ℕ_discrete j i)
          (λ (e : j ≡ i). absurd (not_i (sym f ∙ ap (first_at firsts') e ∙ first_own)))
          (λ (ne : j ≢ i). s.whole j m a (sym (first_other j ne) ∙ f));
    }
      where
        other : v ≢ u
        other same = both_ways (ends_with n u) (ap (ends_with n) (sym same) ∙ out) ends

        not_in : has v n ≡ true → ⊥
        not_in k = other (apart.apart v u n s.among t.among k own)

        not_i : h ≢ i
        not_i e = apart_head (sym e ∙ sym s.own ∙ ap (first_at o.firsts) e ∙ first_here)

        not_h : h ≢ head
        not_h e = other (one_unit apart us head v u (subst (λ (x : ℕ). StandsAt o units x v) e s) t)

    pub units_left : UnitsShow z o' (flat_map (parted n) units)
    units_left = record {
      firsts_len = length-set o.firsts i i ∙ us.firsts_len;
      sizes_len = length-set (set o.sizes i 1) head left ∙ length-set o.sizes i 1 ∙ us.sizes_len;
      links_len = us.links_len;
      lives_len = us.lives_len;
      in_range =
          λ j.
          dite (ℕ_discrete j i) (λ (e : j ≡ i). let f = ap (first_at firsts') e ∙ first_own in omega (arith, below))
          (λ (ne : j ≢ i). let f = first_other j ne in omega (arith, us.in_range j));
      small = λ j. dite (ℕ_discrete j head)
          (λ (e : j ≡ head). let f = ap (λ (x : ℕ). get_or sizes' x 0) e ∙ size_head in omega (arith, us.small head, t.size, size))
          (λ (other : j ≢ head).
          dite (ℕ_discrete j i) (λ (e : j ≡ i). let f = ap (λ (x : ℕ). get_or sizes' x 0) e ∙ size_own in omega arith)
          (λ (ne : j ≢ i). let f = size_other j ne other in omega (arith, us.small j)));
      named = us.named;
      each = λ j live. dite (ℕ_discrete j i)
          (λ (e : j ≡ i). (n ∷ [], subst (λ (x : ℕ). StandsAt o' (flat_map (parted n) units) x (n ∷ [])) (sym (ap (first_at firsts') e ∙ first_own)) stands_last))
          (λ (ne : j ≢ i). at_first j ne (us.each j live));
      all = λ w a. let r = among_parted n units w a in pick w r.0 r.1 (which_part n r.0 w r.2);
    }
      where
        New : ℕ → List Name → Type 0
        New h v = StandsAt o' (flat_map (parted n) units) h v

        at_first : (j : ℕ) → j ≢ i → (v : List Name) × StandsAt o units (first_at o.firsts j) v → (v : List Name) × New (first_at firsts' j) v
        at_first j ne (v, s) = go (ends_with n v) refl
          where
            go : (b : Bool) → ends_with n v ≡ b → (v : List Name) × New (first_at firsts' j) v
            go false out = (v, subst (λ (x : ℕ). New x v) (sym (first_other j ne)) (stands_other (first_at o.firsts j) v out s))
            go true is =
                let same : v ≡ u = apart.apart v u n s.among t.among (ends_own n v is) own in
                let h : first_at o.firsts j ≡ head = one_head ns us (first_at o.firsts j) head u (subst (λ (x : List Name). StandsAt o units (first_at o.firsts j) x) same s) t in
                (but_last u, subst (λ (x : ℕ). New x (but_last u)) (sym (first_other j ne ∙ h)) stands_front)

        pick : (w v : List Name) → Among units v → ((ends_with n v ≡ true) × ((but_last v ≡ w) ⊎ (n ∷ [] ≡ w))) ⊎ ((ends_with n v ≡ false) × (v ≡ w)) → (h : ℕ) × New h w
        pick w v a (inl (e, inl same)) =
            let is : u ≡ v = apart.apart u v n t.among a own (ends_own n v e) in
            (head, subst (λ (x : List Name). New head x) (ap but_last is ∙ same) stands_front)
        pick w v a (inl (e, inr same)) = (i, subst (λ (x : List Name). New i x) same stands_last)
        pick w v a (inr (out, same)) = let r = us.all v a in (r.0, subst (λ (x : List Name). New r.0 x) same (stands_other r.0 v out r.1))

    -- removed units lie as before
    pub gone_left : {waiting : List ℕ} {removals : List Removal} {lasts : List (List Name)} → GoneShow z o waiting removals lasts → GoneShow z o' waiting removals lasts
    gone_left {waiting} {removals} {lasts} g = record {
      waiting_len = g.waiting_len;
      each = λ j e. let r = g.each j e in (r.0, subst (λ (x : ℕ). LiesAt o' waiting removals lasts x r.0) (sym (first_other j (not_live j e))) (lies (first_at o.firsts j) r.0 r.1));
      all = λ v m a e still. let r = g.all v m a e still in (r.0, lies r.0 v r.1);
    }
      where
        not_live : (j : ℕ) → is_gone (life_at o.lives j) ≡ true → j ≢ i
        not_live j e same = let live : life_at o.lives j ≡ Live = ap (life_at o.lives) same ∙ here.life in let wrong : false ≡ true = ap is_gone (sym live) ∙ e in cc

        not_at_head : (j : ℕ) → is_gone (life_at o.lives j) ≡ true → j ≢ head
        not_at_head j e same = let live : life_at o.lives j ≡ Live = ap (life_at o.lives) same ∙ t.life in let wrong : false ≡ true = ap is_gone (sym live) ∙ e in cc

        lies : (h : ℕ) (v : List Name) → LiesAt o waiting removals lasts h v → LiesAt o' waiting removals lasts h v
        lies h v l = record {
          among = l.among;
          life = l.life;
          own = first_other h (not_live h l.life) ∙ l.own;
          size = size_other h (not_live h l.life) (not_at_head h l.life) ∙ l.size;
          linked = l.linked;
          inside = λ m k. let j = l.inside m k in (j.0, j.1, first_other j.0 (not_live j.0 j.1.life) ∙ j.2);
          whole = λ j m a f. l.whole j m a (sym (first_other j (not_live j a.life)) ∙ f);
          waits = l.waits;
        }
