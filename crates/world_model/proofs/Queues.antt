-- A queue by which an engine destroys removed objects follows the destruction order.
use Rattle.std.proofs.Common.{◌≡◌, ◌≢◌, ℕ, refl, sym, subst, ap, ◌∙◌, inl, inr, Bool, cond, true, false, not, ◌&&◌, ◌||◌, if◌then◌else◌, List, [], ◌∷◌, ◌++◌, map, append_assoc, append-nil, Option, Some, None, option_and_then, ◌⊎◌, filter, find, flat_map}
use Rattle.std.specs.List.{list_any, list_all}
use Rattle.std.proofs.Math.Bool.{and_comm}
use Rattle.std.proofs.lemmas.Bool.{both_ways, not-true, not_from_false, false_from_ne_true, true_from_ne_false, cond_both, and_from, or_left}
use Rattle.std.proofs.lemmas.List.Elements.{filter-append}
use Rattle.std.proofs.lemmas.List.Folds.{list_any-append}
use Rattle.std.proofs.lemmas.Map.Views.{any-filter_same}
use Rattle.world_model.specs.Types.{Name}
use Rattle.world_model.specs.NameLists.{same_name, has, all_different, members, begins_with, first_member}
use Rattle.world_model.specs.World.{World, Stage, Removed, Begun, Finished, Removal, has_stage, is_at, destruction_order}
use Rattle.world_model.specs.Next.{removal_with, at_stage, polled, released}
use Rattle.world_model.specs.CollectorSteps.{to_begin, to_release, round_from}
use Rattle.world_model.specs.DestructionQueue.{rotated, in_removals, in_order, IsOrder, IsReady, IsQueue}
use Rattle.world_model.proofs.ListFacts.{and_true, or_true, or_false, or_right, any_filter, Among, among_append, among_filter, filter_among, among_filter_test}
use Rattle.world_model.proofs.NameFacts.{same_name_true, same_name_refl, has_among, among_has}
use Rattle.world_model.proofs.Rounds.{find_in_round, has-rotated, asked_last, asked_out, in_removals_at, one_stage, is_at-at_stage_same, is_at-at_stage_other, is_at-polled, released_by, is_at-released, has-released_by, one_begins}

-- ---- lists

other_name : (ns : List Name) (x n : Name) → has ns x ≡ false → Among ns n → same_name x n ≡ false
other_name [] x n h k = absurd k
other_name (m ∷ ns) x n h (inl e) = ap (same_name x) (sym e) ∙ (or_false _ _ h).0
other_name (m ∷ ns) x n h (inr k) = other_name ns x n (or_false _ _ h).1 k

each_more : {A : Type 0} (P : A → Type 0) (xs : List A) (x : A) → ((y : A) → Among xs y → P y) → P x → (y : A) → Among (xs ++ x ∷ []) y → P y
each_more P xs x all is y k = go (among_append xs (x ∷ []) y k)
  where
    go : Among xs y ⊎ ((x ≡ y) ⊎ ⊥) → P y
    go (inl h) = all y h
    go (inr (inl e)) = subst P e is
    go (inr (inr h)) = absurd h

filter_all : {A : Type 0} (p : A → Bool) (xs : List A) → ((x : A) → Among xs x → p x ≡ true) → filter p xs ≡ xs
filter_all p [] h = refl
filter_all p (x ∷ xs) h = rw (h x (inl refl), filter_all p xs (λ y k. h y (inr k))) refl

filter_none : {A : Type 0} (p : A → Bool) (xs : List A) → ((x : A) → Among xs x → p x ≡ false) → filter p xs ≡ []
filter_none p [] h = refl
filter_none p (x ∷ xs) h = rw (h x (inl refl)) (filter_none p xs (λ y k. h y (inr k)))

filter_front : {A : Type 0} (p : A → Bool) (xs ys : List A) → ((x : A) → Among xs x → p x ≡ true) → ((y : A) → Among ys y → p y ≡ false)
    → filter p (xs ++ ys) ≡ xs
filter_front p xs ys all none = filter-append p xs ys ∙ (λ i. filter_all p xs all i ++ filter_none p ys none i) ∙ append-nil xs

filter_back : {A : Type 0} (p : A → Bool) (xs ys : List A) → ((x : A) → Among xs x → p x ≡ false) → ((y : A) → Among ys y → p y ≡ true)
    → filter p (xs ++ ys) ≡ ys
filter_back p xs ys none all = filter-append p xs ys ∙ (λ i. filter_none p xs none i ++ filter_all p ys all i)

-- nothing that passes is left out
none_pass : (p : Name → Bool) (ns : List Name) (n : Name) → [] ≡ filter p ns → has ns n ≡ true → p n ≡ false
none_pass p ns n e h = false_from_ne_true (p n) (λ is. subst (λ (ms : List Name). Among ms n) (sym e) (filter_among p ns n (has_among ns n h) is))

pub all_at : {A : Type 0} (p : A → Bool) (xs : List A) (x : A) → list_all p xs ≡ true → Among xs x → p x ≡ true
all_at p [] x h k = absurd k
all_at p (y ∷ xs) x h (inl e) = ap p (sym e) ∙ (and_true _ _ h).0
all_at p (y ∷ xs) x h (inr k) = all_at p xs x (and_true _ _ h).1 k

pub all_from : {A : Type 0} (p : A → Bool) (xs : List A) → ((x : A) → Among xs x → p x ≡ true) → list_all p xs ≡ true
all_from p [] h = refl
all_from p (x ∷ xs) h = and_from _ _ (h x (inl refl)) (all_from p xs (λ y k. h y (inr k)))

pub find_some : {A : Type 0} (p : A → Bool) (xs : List A) (x : A) → find p xs ≡ Some x → Among xs x × (p x ≡ true)
find_some p [] x e = absurd cc
find_some p (y ∷ xs) x e = go (p y) refl (find_some p xs x) e
  where
    go : (b : Bool) → p y ≡ b → (find p xs ≡ Some x → Among xs x × (p x ≡ true)) → cond b (Some y) (find p xs) ≡ Some x
        → ((y ≡ x) ⊎ Among xs x) × (p x ≡ true)
    go true is rest e = let same : y ≡ x = cc in (inl same, ap p (sym same) ∙ is)
    go false is rest e = let found = rest e in (inr found.0, found.1)

pub find_none : {A : Type 0} (p : A → Bool) (xs : List A) → find p xs ≡ None → (x : A) → Among xs x → p x ≡ false
find_none p [] e x k = absurd k
find_none p (y ∷ xs) e x k = go (p y) refl (λ f. find_none p xs f x) e k
  where
    go : (b : Bool) → p y ≡ b → (find p xs ≡ None → Among xs x → p x ≡ false) → cond b (Some y) (find p xs) ≡ None
        → (y ≡ x) ⊎ Among xs x → p x ≡ false
    go true is rest e k = absurd cc
    go false is rest e (inl same) = ap p (sym same) ∙ is
    go false is rest e (inr k) = rest e k

-- A test that one element alone may pass finds that one, or nothing.
find_only : {A : Type 0} (p : A → Bool) (xs : List A) (x : A) → Among xs x → ((y : A) → Among xs y → p y ≡ true → y ≡ x)
    → find p xs ≡ cond (p x) (Some x) None
find_only {A} p xs x among only = go (find p xs) refl
  where
    go : (r : Option A) → find p xs ≡ r → r ≡ cond (p x) (Some x) None
    go None e = rw (find_none p xs e x among) refl
    go (Some y) e =
        let found = find_some p xs y e in
        let same = only y found.0 found.1 in
        let is : p x ≡ true = ap p (sym same) ∙ found.1 in
        rw is (ap Some same)

none_found : {A : Type 0} (p : A → Bool) (xs : List A) → ((x : A) → Among xs x → p x ≡ false) → find p xs ≡ None
none_found p [] h = refl
none_found p (x ∷ xs) h = rw (h x (inl refl)) (none_found p xs (λ y k. h y (inr k)))

-- ---- units

pub member_of : (units : List (List Name)) (u : List Name) (n : Name) → Among units u → has u n ≡ true → has (members units) n ≡ true
member_of [] u n k h = absurd k
member_of (v ∷ units) u n (inl e) h =
    list_any-append (same_name n) v (members units) ∙ or_left (has v n) _ (ap (λ (ns : List Name). has ns n) e ∙ h)
member_of (v ∷ units) u n (inr k) h =
    list_any-append (same_name n) v (members units) ∙ or_right (has v n) _ (member_of units u n k h)

pub unit_with : (units : List (List Name)) (n : Name) → has (members units) n ≡ true → (u : List Name) × Among units u × (has u n ≡ true)
unit_with [] n h = absurd cc
unit_with (v ∷ units) n h = go (or_true _ _ (sym (list_any-append (same_name n) v (members units)) ∙ h)) (unit_with units n)
  where
    go : (has v n ≡ true) ⊎ (has (members units) n ≡ true) → (has (members units) n ≡ true → (u : List Name) × Among units u × (has u n ≡ true))
        → (u : List Name) × Among (v ∷ units) u × (has u n ≡ true)
    go (inl e) rest = (v, inl refl, e)
    go (inr k) rest = let r = rest k in (r.0, inr r.1, r.2)

-- of different names in two parts those of the second are different, and none stands in both
pub second_part : (ns ms : List Name) → all_different (ns ++ ms) ≡ true → all_different ms ≡ true
second_part [] ms h = h
second_part (m ∷ ns) ms h = second_part ns ms (and_true _ _ h).1

pub in_one_part : (ns ms : List Name) (n : Name) → all_different (ns ++ ms) ≡ true → Among ns n → has ms n ≡ true → ⊥
in_one_part [] ms n h k l = absurd k
in_one_part (m ∷ ns) ms n h (inr k) l = in_one_part ns ms n (and_true _ _ h).1 k l
in_one_part (m ∷ ns) ms n h (inl e) l =
    let none : has (ns ++ ms) m ≡ false = not-true _ (and_true _ _ h).0 in
    both_ways (has (ns ++ ms) m) none (list_any-append (same_name m) ns ms ∙ or_right (has ns m) _ (ap (has ms) e ∙ l))

-- A name stands in one unit.
pub one_unit : (units : List (List Name)) (u v : List Name) (n : Name) → all_different (members units) ≡ true → Among units u → Among units v
    → has u n ≡ true → has v n ≡ true → u ≡ v
one_unit [] u v n different k l a b = absurd k
one_unit (x ∷ units) u v n different k l a b = go k l (one_unit units u v n (second_part x (members units) different))
  where
    twice : (y z : List Name) → x ≡ y → Among units z → has y n ≡ true → has z n ≡ true → ⊥
    twice y z e m a b =
        in_one_part x (members units) n different (has_among x n (ap (λ (us : List Name). has us n) e ∙ a)) (member_of units z n m b)

    go : (x ≡ u) ⊎ Among units u → (x ≡ v) ⊎ Among units v → (Among units u → Among units v → has u n ≡ true → has v n ≡ true → u ≡ v) → u ≡ v
    go (inl e) (inl f) rest = sym e ∙ f
    go (inl e) (inr l) rest = absurd (twice u v e l a b)
    go (inr k) (inl f) rest = absurd (twice v u f k b a)
    go (inr k) (inr l) rest = rest k l a b

pub begins_among : (n : Name) (u : List Name) → begins_with n u ≡ true → Among u n
begins_among n [] h = absurd cc
begins_among n (m ∷ u) h = inl (sym (same_name_true n m h))

first_begins : (n : Name) (u : List Name) → Some n ≡ first_member u → begins_with n u ≡ true
first_begins n [] e = absurd cc
first_begins n (m ∷ u) e = let same : n ≡ m = cc in ap (same_name n) (sym same) ∙ same_name_refl n

-- a unit of the destruction order is a removed unit, and begins with a name that is found
pub unit_in_order : (units : List (List Name)) (found : List Name) (u : List Name) → Among (flat_map (λ n. filter (begins_with n) units) found) u
    → Among units u × ((n : Name) × (begins_with n u ≡ true) × Among found n)
unit_in_order units [] u k = absurd k
unit_in_order units (n ∷ found) u k = go (among_append (filter (begins_with n) units) _ u k) (unit_in_order units found u)
  where
    go : Among (filter (begins_with n) units) u ⊎ Among (flat_map (λ n. filter (begins_with n) units) found) u
        → (Among (flat_map (λ n. filter (begins_with n) units) found) u → Among units u × ((m : Name) × (begins_with m u ≡ true) × Among found m))
        → Among units u × ((m : Name) × (begins_with m u ≡ true) × Among (n ∷ found) m)
    go (inl h) rest = (among_filter (begins_with n) units u h, (n, among_filter_test (begins_with n) units u h, inl refl))
    go (inr h) rest = let r = rest h in (r.0, (r.1.0, r.1.1, inr r.1.2))

-- the unit that is to be released
pub ready_unit : (p : List Name → Bool) (order : List (List Name)) (h : Name) → Some h ≡ option_and_then first_member (find p order)
    → (u : List Name) × Among order u × (p u ≡ true) × (begins_with h u ≡ true)
ready_unit p order h e = go (find p order) refl e
  where
    go : (r : Option (List Name)) → find p order ≡ r → Some h ≡ option_and_then first_member r
        → (u : List Name) × Among order u × (p u ≡ true) × (begins_with h u ≡ true)
    go None f e = absurd cc
    go (Some u) f e = let found = find_some p order u f in (u, found.0, found.1, first_begins h u e)

-- where there is none, no unit has finished
none_finished : (w : World) → None ≡ to_release w → (v : List Name) → Among (destruction_order w) v → list_all (is_at w Finished) v ≡ false
none_finished w e v k = go (find (list_all (is_at w Finished)) (destruction_order w)) refl e
  where
    some : (u : List Name) (n : Name) → begins_with n u ≡ true → None ≡ first_member u → ⊥
    some [] n b e = absurd cc
    some (m ∷ u) n b e = absurd cc

    go : (r : Option (List Name)) → find (list_all (is_at w Finished)) (destruction_order w) ≡ r → None ≡ option_and_then first_member r
        → list_all (is_at w Finished) v ≡ false
    go None f e = find_none (list_all (is_at w Finished)) (destruction_order w) f v k
    go (Some u) f e =
        let found = find_some (list_all (is_at w Finished)) (destruction_order w) u f in
        let begins = (unit_in_order w.last_removed w.found u found.0).1 in
        absurd (some u begins.0 begins.1 e)

-- ---- the object that is to be released

none_ready : (order : List (List Name)) (finished : Name → Bool) → ((v : List Name) → Among order v → list_all finished v ≡ false)
    → IsReady order finished None
none_ready order finished none = record {
  first = sym (ap (option_and_then first_member) (none_found (list_all finished) order none));
  one = λ u v k l a b. absurd (both_ways (list_all finished u) (none u k) a);
}

-- where another object is finished, the unit of that object alone can be ready
now_ready : (order : List (List Name)) (before after : Name → Bool) (x : Name) (u : List Name) → all_different (members order) ≡ true
    → ((v : List Name) → Among order v → list_all before v ≡ false) → ((n : Name) → same_name x n ≡ false → after n ≡ before n)
    → Among order u → has u x ≡ true → IsReady order after (if list_all after u then first_member u else None)
now_ready order before after x u different none others among has_x = record {
  first = sym (ap (option_and_then first_member) (find_only (list_all after) order u among only) ∙ first_of (list_all after u));
  one = λ v y k l a b. only v k a ∙ sym (only y l b);
}
  where
    only : (v : List Name) → Among order v → list_all after v ≡ true → v ≡ u
    only v k all =
        let in_v = true_from_ne_false (has v x) (λ out. both_ways (list_all before v) (none v k) (was out)) in
        one_unit order v u x different k among in_v has_x
      where
        was : has v x ≡ false → list_all before v ≡ true
        was out = all_from before v (λ n m. sym (others n (other_name v x n out m)) ∙ all_at after v n all m)

    first_of : (b : Bool) → option_and_then first_member (cond b (Some u) None) ≡ cond b (first_member u) None
    first_of true = refl
    first_of false = refl

-- ---- removed objects

pub named_any : (n : Name) (rs : List Removal) → has (map (λ r. r.name) rs) n ≡ list_any (λ r. same_name n r.name) rs
named_any n [] = refl
named_any n (r ∷ rs) = ap (λ (b : Bool). same_name n r.name || b) (named_any n rs)

pub names_kept : (n : Name) (change : Removal → Removal) → ((r : Removal) → (change r).name ≡ r.name) → (rs : List Removal)
    → map (λ r. r.name) (map (λ r. if same_name n r.name then change r else r) rs) ≡ map (λ r. r.name) rs
names_kept n change same [] = refl
names_kept n change same (r ∷ rs) = λ i. first i ∷ names_kept n change same rs i
  where
    first : (if same_name n r.name then change r else r).name ≡ r.name
    first = cond_both (same_name n r.name) (change r) r (λ s. s.name ≡ r.name) (λ e. same r) (λ e. refl)

pub names_left : (keep : Removal → Bool) (rs : List Removal) → all_different (map (λ r. r.name) rs) ≡ true
    → all_different (map (λ r. r.name) (filter keep rs)) ≡ true
names_left keep [] h = h
names_left keep (r ∷ rs) h =
    let parts = and_true _ _ h in
    let rest = names_left keep rs parts.1 in
    cond_both (keep r) (r ∷ filter keep rs) (filter keep rs) (λ ss. all_different (map (λ (s : Removal). s.name) ss) ≡ true)
    (λ e. and_from _ _ (not_from_false _ (out (not-true _ parts.0))) rest) (λ e. rest)
  where
    out : has (map (λ r. r.name) rs) r.name ≡ false → has (map (λ r. r.name) (filter keep rs)) r.name ≡ false
    out none = named_any r.name (filter keep rs) ∙ false_from_ne_true _ (λ h.
        both_ways (has (map (λ r. r.name) rs) r.name) none (named_any r.name rs ∙ any_filter (λ s. same_name r.name s.name) keep rs h))

-- a removed object that is at none of the other stages is finished
pub last_stage : (n : Name) (rs : List Removal) → list_any (λ r. same_name n r.name) rs ≡ true
    → list_any (λ r. same_name n r.name && has_stage Removed r.stage) rs ≡ false
    → list_any (λ r. same_name n r.name && has_stage Begun r.stage) rs ≡ false
    → list_any (λ r. same_name n r.name && has_stage Finished r.stage) rs ≡ true
last_stage n [] h a b = absurd cc
last_stage n (r ∷ rs) h a b = go (same_name n r.name) r.stage (last_stage n rs) h a b
  where
    any_at : Stage → Bool
    any_at stage = list_any (λ r. same_name n r.name && has_stage stage r.stage) rs

    go : (same : Bool) (s : Stage)
        → (list_any (λ r. same_name n r.name) rs ≡ true → any_at Removed ≡ false → any_at Begun ≡ false → any_at Finished ≡ true)
        → (same || list_any (λ r. same_name n r.name) rs) ≡ true → ((same && has_stage Removed s) || any_at Removed) ≡ false
        → ((same && has_stage Begun s) || any_at Begun) ≡ false → ((same && has_stage Finished s) || any_at Finished) ≡ true
    go true Removed rest h a b = absurd cc
    go true Begun rest h a b = absurd cc
    go true Finished rest h a b = refl
    go false s rest h a b = rest h a b

-- the stage of an object where none is begun
pub fresh : (n : Name) (stage : Stage) (rs : List Removal) → ((r : Removal) → Among rs r → r.stage ≡ Removed)
    → list_any (λ r. same_name n r.name && has_stage stage r.stage) rs ≡ (has_stage stage Removed && list_any (λ r. same_name n r.name) rs)
fresh n stage [] h = and_comm false (has_stage stage Removed)
fresh n stage (r ∷ rs) h =
    let rest = fresh n stage rs (λ s k. h s (inr k)) in
    rw (h r (inl refl), rest) (spread (same_name n r.name) (has_stage stage Removed) (list_any (λ s. same_name n s.name) rs))
  where
    spread : (a s c : Bool) → ((a && s) || (s && c)) ≡ (s && (a || c))
    spread true true c = refl
    spread true false c = refl
    spread false true c = refl
    spread false false c = refl

-- a removed object whose stage changed is at the new one
restaged : (w : World) (x : Name) (new stage : Stage) → in_removals w x ≡ true → is_at (at_stage w x new) stage x ≡ has_stage stage new
restaged w x new stage is = is_at-at_stage_same w x new stage ∙ ap (λ (b : Bool). has_stage stage new && b) is ∙ and_comm (has_stage stage new) true

-- where an object's stage changed, the same objects as before are at a stage that is neither its old one nor its new one
elsewhere : (w : World) (x : Name) (old new stage : Stage) → IsOrder w → is_at w old x ≡ true
    → has_stage stage old ≡ false → has_stage stage new ≡ false → (n : Name) → is_at (at_stage w x new) stage n ≡ is_at w stage n
elsewhere w x old new stage order at a b n = go (same_name x n) refl
  where
    here : is_at (at_stage w x new) stage x ≡ is_at w stage x
    here = restaged w x new stage (in_removals_at w old x at) ∙ b ∙ sym (one_stage w x old stage order.removals_different at a)

    go : (c : Bool) → same_name x n ≡ c → is_at (at_stage w x new) stage n ≡ is_at w stage n
    go true same = subst (λ (m : Name). is_at (at_stage w x new) stage m ≡ is_at w stage m) (same_name_true x n same) here
    go false other = is_at-at_stage_other w x new stage n other

-- ---- the order after each step

order_kept : (w : World) (n : Name) (change : Removal → Removal) → ((r : Removal) → (change r).name ≡ r.name)
    → IsOrder w → IsOrder (removal_with w n change)
order_kept w n change same order = record {
  different = order.different;
  units_different = order.units_different;
  removals_different = ap all_different names ∙ order.removals_different;
  covered = λ m h. order.covered m (sym (left m) ∙ h);
  whole = λ u a b k l m h. left b ∙ order.whole u a b k l m (sym (left a) ∙ h);
}
  where
    names : map (λ r. r.name) (removal_with w n change).removals ≡ map (λ r. r.name) w.removals
    names = names_kept n change same w.removals

    left : (m : Name) → in_removals (removal_with w n change) m ≡ in_removals w m
    left m = sym (named_any m (removal_with w n change).removals) ∙ ap (λ (ns : List Name). has ns m) names ∙ named_any m w.removals

order_restaged : (w : World) (n : Name) (stage : Stage) → IsOrder w → IsOrder (at_stage w n stage)
order_restaged w n stage order = order_kept w n (λ r. record r { stage = stage }) (λ r. refl) order

order_polled : (w : World) (n : Name) (polls : ℕ) → IsOrder w → IsOrder (polled w n polls)
order_polled w n polls order = order_kept w n (λ r. record r { polls = polls }) (λ r. refl) order

-- what a release of this unit releases
releases : (w : World) (h : Name) (u : List Name) → IsOrder w → Among (destruction_order w) u → begins_with h u ≡ true
    → (n : Name) → has (released_by w h) n ≡ has u n
releases w h u order among begins =
    let last = (unit_in_order w.last_removed w.found u among).0 in
    has-released_by w h u last begins (λ v k b. one_begins h w.last_removed u v order.units_different last k begins b)

order_released : (w : World) (h : Name) (u : List Name) → IsOrder w → Among (destruction_order w) u → begins_with h u ≡ true → IsOrder (released w h)
order_released w h u order among begins = record {
  different = order.different;
  units_different = order.units_different;
  removals_different = names_left (λ r. not (has (released_by w h) r.name)) w.removals order.removals_different;
  covered = λ n k. order.covered n (parts n k).1;
  whole = λ v a b k l m c. sym (left b) ∙ and_from _ _ (not_from_false _ (out v a b k l m (parts a c).0)) (order.whole v a b k l m (parts a c).1);
}
  where
    stays : Name → Bool
    stays n = not (has (released_by w h) n)

    left : (n : Name) → (not (has u n) && in_removals w n) ≡ in_removals (released w h) n
    left n =
        ap (λ (b : Bool). not b && in_removals w n) (sym (releases w h u order among begins n))
        ∙ sym (any-filter_same (λ r. same_name n r.name) (λ r. stays r.name) (stays n) (λ r e. ap stays (sym (same_name_true n r.name e))) w.removals)

    parts : (n : Name) → in_removals (released w h) n ≡ true → (not (has u n) ≡ true) × (in_removals w n ≡ true)
    parts n k = and_true _ _ (left n ∙ k)

    -- a unit with an object that stays is another one
    out : (v : List Name) (a b : Name) → Among (destruction_order w) v → has v a ≡ true → has v b ≡ true → not (has u a) ≡ true → has u b ≡ false
    out v a b k l m c = false_from_ne_true (has u b) (λ d.
        let same = one_unit (destruction_order w) v u b order.different k among m d in
        both_ways (has u a) (not-true _ c) (subst (λ (us : List Name). has us a ≡ true) same l))

-- ---- what is read of a queue

module _ {w : World} {asked : Option Name} {todo ring : List Name} {ready : Option Name} (q : IsQueue w asked todo ring ready) where
  pub todo_at : (n : Name) → Among todo n → is_at w Removed n ≡ true
  todo_at n k = among_filter_test (is_at w Removed) (in_order w) n (subst (λ (ns : List Name). Among ns n) q.todo_is k)

  pub ring_at : (n : Name) → Among ring n → is_at w Begun n ≡ true
  ring_at n k = among_filter_test (is_at w Begun) (rotated asked (in_order w)) n (subst (λ (ns : List Name). Among ns n) q.ring_is k)

  not_removed : (n : Name) → Among ring n → is_at w Removed n ≡ false
  not_removed n k = one_stage w n Begun Removed q.order.removals_different (ring_at n k) refl

  first_todo : to_begin w ≡ first_member todo
  first_todo = find_in_round (is_at w Removed) None (in_order w) ∙ ap first_member (sym q.todo_is)

  -- The object that is to be released is the queue's.
  pub queue_ready : to_release w ≡ ready
  queue_ready = sym q.ready_is.first

  same_ready : (finished : Name → Bool) → ((n : Name) → finished n ≡ is_at w Finished n) → IsReady (destruction_order w) finished ready
  same_ready finished same = subst (λ (p : Name → Bool). IsReady (destruction_order w) p ready) (λ i n. sym (same n) i) q.ready_is

-- ---- the first queue

-- Before anything is begun everything waits to be begun, in order.
pub queue_start : (w : World) → all_different (in_order w) ≡ true → all_different (members w.last_removed) ≡ true
    → all_different (map (λ r. r.name) w.removals) ≡ true → ((r : Removal) → Among w.removals r → r.stage ≡ Removed)
    → ((n : Name) → in_removals w n ≡ has (in_order w) n) → IsQueue w None (in_order w) [] None
queue_start w different units removals removed are = record {
  order = record {
    different = different;
    units_different = units;
    removals_different = removals;
    covered = λ n h. sym (are n) ∙ h;
    whole = λ u n m k a b h. are m ∙ member_of (destruction_order w) u m k b;
  };
  todo_is = sym (filter_all (is_at w Removed) (in_order w) (λ n k. at Removed n ∙ are n ∙ among_has (in_order w) n k));
  ring_is = sym (filter_none (is_at w Begun) (in_order w) (λ n k. at Begun n));
  early = λ h. (refl, refl);
  ready_is = none_ready (destruction_order w) (is_at w Finished) none;
}
  where
    at : (stage : Stage) (n : Name) → is_at w stage n ≡ (has_stage stage Removed && in_removals w n)
    at stage n = fresh n stage w.removals removed

    none : (v : List Name) → Among (destruction_order w) v → list_all (is_at w Finished) v ≡ false
    none v k =
        let first = (unit_in_order w.last_removed w.found v k).1 in
        let among = begins_among first.0 v first.1 in
        false_from_ne_true _ (λ all. both_ways (is_at w Finished first.0) (at Finished first.0) (all_at (is_at w Finished) v first.0 all among))

-- ---- an object is begun

module _ {w : World} {asked : Option Name} {x : Name} {todo ring : List Name} {ready : Option Name} (q : IsQueue w asked (x ∷ todo) ring ready) where
  unbegun : is_at w Removed x ≡ true
  unbegun = todo_at q x (inl refl)

  now : (asked ≡ None) × (in_order w ≡ (ring ++ x ∷ []) ++ todo)
  now = let early = q.early (λ e. absurd cc) in (early.0, early.1 ∙ sym (append_assoc ring (x ∷ []) todo))

  stage_now : (stage : Stage) → is_at (at_stage w x Begun) stage x ≡ has_stage stage Begun
  stage_now stage = restaged w x Begun stage (in_removals_at w Removed x unbegun)

  stage_in_ring : (stage : Stage) (n : Name) → Among ring n → is_at (at_stage w x Begun) stage n ≡ is_at w stage n
  stage_in_ring stage n k = is_at-at_stage_other w x Begun stage n (false_from_ne_true (same_name x n) (λ e.
      both_ways (is_at w Removed n) (not_removed q n k) (ap (is_at w Removed) (sym (same_name_true x n e)) ∙ unbegun)))

  stage_in_todo : (stage : Stage) (n : Name) → Among todo n → is_at (at_stage w x Begun) stage n ≡ is_at w stage n
  stage_in_todo stage n k =
      let all = subst (λ (ns : List Name). all_different ns ≡ true) (now.1 ∙ append_assoc ring (x ∷ []) todo) q.order.different in
      is_at-at_stage_other w x Begun stage n (other_name todo x n (not-true _ (and_true _ _ (second_part ring (x ∷ todo) all)).0) k)

  begin_todo : todo ≡ filter (is_at (at_stage w x Begun) Removed) (in_order w)
  begin_todo = sym (ap (filter (is_at (at_stage w x Begun) Removed)) now.1 ∙ filter_back (is_at (at_stage w x Begun) Removed) (ring ++ x ∷ []) todo
      (each_more (λ n. is_at (at_stage w x Begun) Removed n ≡ false) ring x (λ n k. stage_in_ring Removed n k ∙ not_removed q n k) (stage_now Removed))
      (λ n k. stage_in_todo Removed n k ∙ todo_at q n (inr k)))

  begin_ring : ring ++ x ∷ [] ≡ filter (is_at (at_stage w x Begun) Begun) (rotated asked (in_order w))
  begin_ring = sym (ap (λ (last : Option Name). filter (is_at (at_stage w x Begun) Begun) (rotated last (in_order w))) now.0
      ∙ ap (filter (is_at (at_stage w x Begun) Begun)) now.1 ∙ filter_front (is_at (at_stage w x Begun) Begun) (ring ++ x ∷ []) todo
      (each_more (λ n. is_at (at_stage w x Begun) Begun n ≡ true) ring x (λ n k. stage_in_ring Begun n k ∙ ring_at q n k) (stage_now Begun))
      (λ n k. stage_in_todo Begun n k ∙ one_stage w n Removed Begun q.order.removals_different (todo_at q n (inr k)) refl))

  -- The first one that waits is to be begun, and is then the last of the ring.
  pub queue_begin : (to_begin w ≡ Some x) × IsQueue (at_stage w x Begun) asked todo (ring ++ x ∷ []) ready
  queue_begin = (
    first_todo q,
    record {
      order = order_restaged w x Begun q.order;
      todo_is = begin_todo;
      ring_is = begin_ring;
      early = λ some. now;
      ready_is = same_ready q (is_at (at_stage w x Begun) Finished) (elsewhere w x Removed Begun Finished q.order unbegun refl refl);
    },
  )

-- Where none waits, none is to be begun.
pub queue_begun : {w : World} {asked : Option Name} {ring : List Name} {ready : Option Name} → IsQueue w asked [] ring ready → to_begin w ≡ None
queue_begun q = first_todo q

-- ---- an object is asked

module _ {w : World} {asked : Option Name} {x : Name} {ring : List Name} (q : IsQueue w asked [] (x ∷ ring) None) where
  -- The first of the ring is to be asked.
  pub queue_ask : find (is_at w Begun) (round_from asked (in_order w)) ≡ Some x
  queue_ask = find_in_round (is_at w Begun) asked (in_order w) ∙ ap first_member (sym q.ring_is)

  -- Where it refuses, it is then the last of the ring.
  pub queue_refused : (polls : ℕ) → IsQueue (polled w x polls) (Some x) [] (ring ++ x ∷ []) None
  queue_refused polls = record {
    order = order_polled w x polls q.order;
    todo_is = q.todo_is ∙ (λ i. filter (λ n. sym (same Removed n) i) (in_order w));
    ring_is = sym (asked_last (is_at w Begun) asked (in_order w) x ring q.order.different (sym q.ring_is))
        ∙ (λ i. filter (λ n. sym (same Begun n) i) (rotated (Some x) (in_order w)));
    early = λ some. absurd (some refl);
    ready_is = same_ready q (is_at (polled w x polls) Finished) (same Finished);
  }
    where
      same : (stage : Stage) (n : Name) → is_at (polled w x polls) stage n ≡ is_at w stage n
      same stage n = is_at-polled w x polls stage n

  module _ (polls : ℕ) where
    abbrev before : World
    before = polled w x polls

    abbrev after : World
    after = at_stage before x Finished

    asked_begun : is_at before Begun x ≡ true
    asked_begun = is_at-polled w x polls Begun x ∙ ring_at q x (inl refl)

    agreed_others : (stage : Stage) (n : Name) → same_name x n ≡ false → is_at after stage n ≡ is_at w stage n
    agreed_others stage n other = is_at-at_stage_other before x Finished stage n other ∙ is_at-polled w x polls stage n

    agreed_todo : [] ≡ filter (is_at after Removed) (in_order w)
    agreed_todo = q.todo_is ∙ (λ i. filter (λ n. sym (same n) i) (in_order w))
      where
        same : (n : Name) → is_at after Removed n ≡ is_at w Removed n
        same n = elsewhere before x Begun Finished Removed (order_polled w x polls q.order) asked_begun refl refl n ∙ is_at-polled w x polls Removed n

    agreed_ring : ring ≡ filter (is_at after Begun) (rotated (Some x) (in_order w))
    agreed_ring = sym (asked_out (is_at w Begun) (is_at after Begun) asked (in_order w) x ring q.order.different (sym q.ring_is)
        (restaged before x Finished Begun (in_removals_at before Begun x asked_begun)) (agreed_others Begun))

    -- Where it agrees, it leaves the ring, and its unit is to be released if all members of that unit are finished then.
    pub queue_agreed : (u : List Name) → Among (destruction_order w) u → has u x ≡ true
        → IsQueue (at_stage (polled w x polls) x Finished) (Some x) [] ring
        (if list_all (is_at (at_stage (polled w x polls) x Finished) Finished) u then first_member u else None)
    queue_agreed u among has_x = record {
      order = order_restaged before x Finished (order_polled w x polls q.order);
      todo_is = agreed_todo;
      ring_is = agreed_ring;
      early = λ some. absurd (some refl);
      ready_is = now_ready (destruction_order w) (is_at w Finished) (is_at after Finished) x u q.order.different
          (none_finished w q.ready_is.first) (agreed_others Finished) among has_x;
    }

-- ---- a unit is released

module _ {w : World} {asked : Option Name} {ring : List Name} {h : Name} (q : IsQueue w asked [] ring (Some h)) where
  to_go : (u : List Name) × Among (destruction_order w) u × (list_all (is_at w Finished) u ≡ true) × (begins_with h u ≡ true)
  to_go = ready_unit (list_all (is_at w Finished)) (destruction_order w) h q.ready_is.first

  stays_or_not : (stage : Stage) (n : Name) → is_at (released w h) stage n ≡ (not (has to_go.0 n) && is_at w stage n)
  stays_or_not stage n = is_at-released w h stage n ∙ ap (λ (b : Bool). not b && is_at w stage n) (releases w h to_go.0 q.order to_go.1 to_go.3 n)

  -- what is released was finished
  stays_unfinished : (stage : Stage) → has_stage stage Finished ≡ false → (n : Name) → is_at (released w h) stage n ≡ is_at w stage n
  stays_unfinished stage apart n = stays_or_not stage n ∙ go (has to_go.0 n) refl
    where
      go : (b : Bool) → has to_go.0 n ≡ b → (not b && is_at w stage n) ≡ is_at w stage n
      go true e =
          let at = all_at (is_at w Finished) to_go.0 n to_go.2 (has_among to_go.0 n e) in
          sym (one_stage w n Finished stage q.order.removals_different at apart)
      go false e = refl

  none_left_ready : (v : List Name) → Among (destruction_order w) v → list_all (is_at (released w h) Finished) v ≡ true → ⊥
  none_left_ready v k all =
      let same = q.ready_is.one to_go.0 v to_go.1 k to_go.2 (all_from (is_at w Finished) v (λ n m. (parts n m).1)) in
      let first = begins_among h to_go.0 to_go.3 in
      both_ways (has to_go.0 h) (not-true _ (parts h (subst (λ (us : List Name). Among us h) same first)).0) (among_has to_go.0 h first)
    where
      parts : (n : Name) → Among v n → (not (has to_go.0 n) ≡ true) × (is_at w Finished n ≡ true)
      parts n m = and_true _ _ (sym (stays_or_not Finished n) ∙ all_at (is_at (released w h) Finished) v n all m)

  -- Its release leaves the rest of the queue.
  pub queue_release : IsQueue (released w h) asked [] ring None
  queue_release = record {
    order = order_released w h to_go.0 q.order to_go.1 to_go.3;
    todo_is = q.todo_is ∙ (λ i. filter (λ n. sym (stays_unfinished Removed refl n) i) (in_order w));
    ring_is = q.ring_is ∙ (λ i. filter (λ n. sym (stays_unfinished Begun refl n) i) (rotated asked (in_order w)));
    early = λ some. absurd (some refl);
    ready_is = none_ready (destruction_order w) (is_at (released w h) Finished) (λ v k. false_from_ne_true _ (none_left_ready v k));
  }

-- ---- the queue is empty

-- Then all are released.
pub queue_empty : {w : World} {asked : Option Name} → IsQueue w asked [] [] None → w.removals ≡ []
queue_empty {w} {asked} q = go w.removals refl
  where
    finished : (n : Name) → in_removals w n ≡ true → is_at w Finished n ≡ true
    finished n h =
        let known = q.order.covered n h in
        last_stage n w.removals h (none_pass (is_at w Removed) (in_order w) n q.todo_is known)
        (none_pass (is_at w Begun) (rotated asked (in_order w)) n q.ring_is (has-rotated asked (in_order w) n ∙ known))

    none : (n : Name) → in_removals w n ≡ true → ⊥
    none n h =
        let u = unit_with (destruction_order w) n (q.order.covered n h) in
        let all = all_from (is_at w Finished) u.0 (λ m k. finished m (q.order.whole u.0 n m u.1 u.2 (among_has u.0 m k) h)) in
        both_ways (list_all (is_at w Finished) u.0) (none_finished w q.ready_is.first u.0 u.1) all

    go : (rs : List Removal) → w.removals ≡ rs → rs ≡ []
    go [] e = refl
    go (r ∷ rs) e = absurd (none r.name (ap (list_any (λ s. same_name r.name s.name)) e ∙ (rw (same_name_refl r.name) refl)))

-- Where all are begun, none is to be released and some are left, there is one to be asked.
pub queue_least : {w : World} {asked : Option Name} {ring : List Name} → IsQueue w asked [] ring None → w.removals ≢ [] → ring ≢ []
queue_least {w} {asked} q some e = some (queue_empty (subst (λ (ns : List Name). IsQueue w asked [] ns None) e q))
