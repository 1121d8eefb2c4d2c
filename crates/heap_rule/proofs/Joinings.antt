-- What two views say together is true where each is, if they have no common pass.
use Rattle.std.proofs.Common.{◌≡◌, ℕ, ◌≤◌, refl, sym, ap, ◌∙◌, cond, eqb, ◌⊎◌, Bool, true, false, ◌||◌, ◌&&◌, List, [], ◌∷◌, ◌++◌, length, arith, Option, Some, None}
use Rattle.std.specs.List.{filter}
use Rattle.std.proofs.lemmas.Bool.{eqb-true}
use Rattle.std.proofs.lemmas.List.Folds.{list_any-append}
use Rattle.world_model.specs.NameLists.{same_pass}
use Rattle.world_model.proofs.ListFacts.{or_true}
use Rattle.world_model.proofs.Frames.{same_pass_true}
use Rattle.heap_rule.specs.Types.{Pass, Lane, Marker, Entry, Part, LaneView, MarkerView, Known}
use Rattle.heap_rule.specs.Memory.{same_part}
use Rattle.heap_rule.specs.Removal.{Each}
use Rattle.heap_rule.specs.Counters.{counter_pass}
use Rattle.heap_rule.specs.Views.{has_pass, by_passes, resting_lane, lane_in, resting_marker, marker_in, known_in, is_late}
use Rattle.heap_rule.specs.Seating.{counts_for}
use Rattle.heap_rule.proofs.Placing.{same_part_true}

-- ---- passes

pub pass_both : (xs ys : List Pass) (p : Pass) → has_pass (xs ++ ys) p ≡ true → (has_pass xs p ≡ true) ⊎ (has_pass ys p ≡ true)
pass_both xs ys p h = or_true (has_pass xs p) (has_pass ys p) (sym (list_any-append (same_pass p) xs ys) ∙ h)

-- entries of none of the one passes, and of none of the others
pub none_both : (xs ys : List Pass) (es : List Entry) → by_passes xs es ≡ [] → by_passes ys es ≡ [] → by_passes (xs ++ ys) es ≡ []
none_both xs ys [] a b = refl
none_both xs ys (e ∷ es) a b = go (has_pass xs e.pass) refl (has_pass ys e.pass) refl a b (none_both xs ys es)
  where
    go : (x : Bool) → has_pass xs e.pass ≡ x → (y : Bool) → has_pass ys e.pass ≡ y → cond x (e ∷ by_passes xs es) (by_passes xs es) ≡ [] → cond y (e ∷ by_passes ys es) (by_passes ys es) ≡ []
        → (by_passes xs es ≡ [] → by_passes ys es ≡ [] → by_passes (xs ++ ys) es ≡ []) → cond (has_pass (xs ++ ys) e.pass) (e ∷ by_passes (xs ++ ys) es) (by_passes (xs ++ ys) es) ≡ []
    go true is y at a b rest = absurd cc
    go false is true at a b rest = absurd cc
    go false is false at a b rest = let off : has_pass (xs ++ ys) e.pass ≡ false = list_any-append (same_pass e.pass) xs ys ∙ (rw is at) in rw off (rest a b)

pub none_behind : (passes : List Pass) (xs ys : List Entry) → by_passes passes (xs ++ ys) ≡ [] → by_passes passes ys ≡ []
none_behind passes [] ys h = h
none_behind passes (e ∷ xs) ys h = go (has_pass passes e.pass) h (none_behind passes xs ys)
  where
    go : (b : Bool) → cond b (e ∷ by_passes passes (xs ++ ys)) (by_passes passes (xs ++ ys)) ≡ [] → (by_passes passes (xs ++ ys) ≡ [] → by_passes passes ys ≡ []) → by_passes passes ys ≡ []
    go true h rest = absurd cc
    go false h rest = rest h

-- of two beginnings of one list, what is behind the longer one is the end of what is behind the other
pub ends_with_rest : (xs ys a b : List Entry) → xs ++ a ≡ ys ++ b → length ys ≤ length xs → (mid : List Entry) × (b ≡ mid ++ a)
ends_with_rest xs [] a b same less = (xs, sym same)
ends_with_rest [] (y ∷ ys) a b same less = absurd (omega (arith, less))
ends_with_rest (x ∷ xs) (y ∷ ys) a b same less = ends_with_rest xs ys a b (ap tail same) (omega (arith, less))
  where
    tail : List Entry → List Entry
    tail [] = []
    tail (e ∷ es) = es

-- ---- what is looked up in two lists

lane_off : (g : Pass → Bool) (ds : List LaneView) (l : ℕ) → g (Lane l) ≡ false → lane_in (filter (λ d. g (Lane d.lane)) ds) l ≡ resting_lane l
lane_off g [] l off = refl
lane_off g (d ∷ ds) l off = go (g (Lane d.lane)) refl (eqb l d.lane) refl (lane_off g ds l off)
  where
    go : (b : Bool) → g (Lane d.lane) ≡ b → (a : Bool) → eqb l d.lane ≡ a → lane_in (filter (λ e. g (Lane e.lane)) ds) l ≡ resting_lane l
        → lane_in (cond b (d ∷ filter (λ e. g (Lane e.lane)) ds) (filter (λ e. g (Lane e.lane)) ds)) l ≡ resting_lane l
    go true e true f rest = let wrong : false ≡ true = sym off ∙ (ap (λ (i : ℕ). g (Lane i)) (eqb-true l d.lane f) ∙ e) in absurd cc
    go true e false f rest = rw f rest
    go false e a f rest = rest

pub lane_first : (f g : Pass → Bool) (xs ys : List LaneView) (l : ℕ) → f (Lane l) ≡ true → g (Lane l) ≡ false
    → lane_in (filter (λ d. f (Lane d.lane)) xs ++ filter (λ d. g (Lane d.lane)) ys) l ≡ lane_in xs l
lane_first f g [] ys l is off = lane_off g ys l off
lane_first f g (d ∷ xs) ys l is off = go (f (Lane d.lane)) refl (eqb l d.lane) refl (lane_first f g xs ys l is off)
  where
    Rest : List LaneView
    Rest = filter (λ e. f (Lane e.lane)) xs

    go : (b : Bool) → f (Lane d.lane) ≡ b → (a : Bool) → eqb l d.lane ≡ a → lane_in (Rest ++ filter (λ e. g (Lane e.lane)) ys) l ≡ lane_in xs l
        → lane_in (cond b (d ∷ Rest) Rest ++ filter (λ e. g (Lane e.lane)) ys) l ≡ cond (eqb l d.lane) d (lane_in xs l)
    go true e a h rest = ap (λ (x : LaneView). cond (eqb l d.lane) d x) rest
    go false e true h rest = let wrong : false ≡ true = sym e ∙ (ap (λ (i : ℕ). f (Lane i)) (sym (eqb-true l d.lane h)) ∙ is) in absurd cc
    go false e false h rest = rw h rest

pub lane_second : (f : Pass → Bool) (xs ys : List LaneView) (l : ℕ) → f (Lane l) ≡ false → lane_in (filter (λ d. f (Lane d.lane)) xs ++ ys) l ≡ lane_in ys l
lane_second f [] ys l off = refl
lane_second f (d ∷ xs) ys l off = go (f (Lane d.lane)) refl (eqb l d.lane) refl (lane_second f xs ys l off)
  where
    Rest : List LaneView
    Rest = filter (λ e. f (Lane e.lane)) xs

    go : (b : Bool) → f (Lane d.lane) ≡ b → (a : Bool) → eqb l d.lane ≡ a → lane_in (Rest ++ ys) l ≡ lane_in ys l → lane_in (cond b (d ∷ Rest) Rest ++ ys) l ≡ lane_in ys l
    go true e true h rest = let wrong : false ≡ true = sym off ∙ (ap (λ (i : ℕ). f (Lane i)) (eqb-true l d.lane h) ∙ e) in absurd cc
    go true e false h rest = rw h rest
    go false e a h rest = rest

marker_off : (g : Pass → Bool) (ds : List MarkerView) (m : ℕ) → g (Marker m) ≡ false → marker_in (filter (λ d. g (Marker d.marker)) ds) m ≡ resting_marker m
marker_off g [] m off = refl
marker_off g (d ∷ ds) m off = go (g (Marker d.marker)) refl (eqb m d.marker) refl (marker_off g ds m off)
  where
    go : (b : Bool) → g (Marker d.marker) ≡ b → (a : Bool) → eqb m d.marker ≡ a → marker_in (filter (λ e. g (Marker e.marker)) ds) m ≡ resting_marker m
        → marker_in (cond b (d ∷ filter (λ e. g (Marker e.marker)) ds) (filter (λ e. g (Marker e.marker)) ds)) m ≡ resting_marker m
    go true e true f rest = let wrong : false ≡ true = sym off ∙ (ap (λ (i : ℕ). g (Marker i)) (eqb-true m d.marker f) ∙ e) in absurd cc
    go true e false f rest = rw f rest
    go false e a f rest = rest

pub marker_first : (f g : Pass → Bool) (xs ys : List MarkerView) (m : ℕ) → f (Marker m) ≡ true → g (Marker m) ≡ false
    → marker_in (filter (λ d. f (Marker d.marker)) xs ++ filter (λ d. g (Marker d.marker)) ys) m ≡ marker_in xs m
marker_first f g [] ys m is off = marker_off g ys m off
marker_first f g (d ∷ xs) ys m is off = go (f (Marker d.marker)) refl (eqb m d.marker) refl (marker_first f g xs ys m is off)
  where
    Rest : List MarkerView
    Rest = filter (λ e. f (Marker e.marker)) xs

    go : (b : Bool) → f (Marker d.marker) ≡ b → (a : Bool) → eqb m d.marker ≡ a → marker_in (Rest ++ filter (λ e. g (Marker e.marker)) ys) m ≡ marker_in xs m
        → marker_in (cond b (d ∷ Rest) Rest ++ filter (λ e. g (Marker e.marker)) ys) m ≡ cond (eqb m d.marker) d (marker_in xs m)
    go true e a h rest = ap (λ (x : MarkerView). cond (eqb m d.marker) d x) rest
    go false e true h rest = let wrong : false ≡ true = sym e ∙ (ap (λ (i : ℕ). f (Marker i)) (sym (eqb-true m d.marker h)) ∙ is) in absurd cc
    go false e false h rest = rw h rest

pub marker_second : (f : Pass → Bool) (xs ys : List MarkerView) (m : ℕ) → f (Marker m) ≡ false → marker_in (filter (λ d. f (Marker d.marker)) xs ++ ys) m ≡ marker_in ys m
marker_second f [] ys m off = refl
marker_second f (d ∷ xs) ys m off = go (f (Marker d.marker)) refl (eqb m d.marker) refl (marker_second f xs ys m off)
  where
    Rest : List MarkerView
    Rest = filter (λ e. f (Marker e.marker)) xs

    go : (b : Bool) → f (Marker d.marker) ≡ b → (a : Bool) → eqb m d.marker ≡ a → marker_in (Rest ++ ys) m ≡ marker_in ys m → marker_in (cond b (d ∷ Rest) Rest ++ ys) m ≡ marker_in ys m
    go true e true h rest = let wrong : false ≡ true = sym off ∙ (ap (λ (i : ℕ). f (Marker i)) (eqb-true m d.marker h) ∙ e) in absurd cc
    go true e false h rest = rw h rest
    go false e a h rest = rest

known_off : (g : Pass → Bool) (ks : List Known) (p : Pass) (q : Part) → g p ≡ false → known_in (filter (λ k. g k.pass) ks) p q ≡ None
known_off g [] p q off = refl
known_off g (k ∷ ks) p q off = go (g k.pass) refl (same_pass p k.pass) refl (known_off g ks p q off)
  where
    go : (b : Bool) → g k.pass ≡ b → (a : Bool) → same_pass p k.pass ≡ a → known_in (filter (λ e. g e.pass) ks) p q ≡ None
        → known_in (cond b (k ∷ filter (λ e. g e.pass) ks) (filter (λ e. g e.pass) ks)) p q ≡ None
    go true e true f rest = let wrong : false ≡ true = sym off ∙ (ap g (same_pass_true p k.pass f) ∙ e) in absurd cc
    go true e false f rest = rw f rest
    go false e a f rest = rest

pub known_first : (f g : Pass → Bool) (xs ys : List Known) (p : Pass) (q : Part) → f p ≡ true → g p ≡ false → known_in (filter (λ k. f k.pass) xs ++ filter (λ k. g k.pass) ys) p q ≡ known_in xs p q
known_first f g [] ys p q is off = known_off g ys p q off
known_first f g (k ∷ xs) ys p q is off = go (f k.pass) refl (same_pass p k.pass) refl (known_first f g xs ys p q is off)
  where
    Rest : List Known
    Rest = filter (λ e. f e.pass) xs

    go : (b : Bool) → f k.pass ≡ b → (a : Bool) → same_pass p k.pass ≡ a → known_in (Rest ++ filter (λ e. g e.pass) ys) p q ≡ known_in xs p q
        → known_in (cond b (k ∷ Rest) Rest ++ filter (λ e. g e.pass) ys) p q ≡ cond (same_pass p k.pass && same_part q k.part) (Some k.value) (known_in xs p q)
    go true e a h rest = ap (λ (x : Option ℕ). cond (same_pass p k.pass && same_part q k.part) (Some k.value) x) rest
    go false e true h rest = let wrong : false ≡ true = sym e ∙ (ap f (sym (same_pass_true p k.pass h)) ∙ is) in absurd cc
    go false e false h rest = rw h rest

pub known_second : (f : Pass → Bool) (xs ys : List Known) (p : Pass) (q : Part) → f p ≡ false → known_in (filter (λ k. f k.pass) xs ++ ys) p q ≡ known_in ys p q
known_second f [] ys p q off = refl
known_second f (k ∷ xs) ys p q off = go (f k.pass) refl (same_pass p k.pass) refl (known_second f xs ys p q off)
  where
    Rest : List Known
    Rest = filter (λ e. f e.pass) xs

    go : (b : Bool) → f k.pass ≡ b → (a : Bool) → same_pass p k.pass ≡ a → known_in (Rest ++ ys) p q ≡ known_in ys p q → known_in (cond b (k ∷ Rest) Rest ++ ys) p q ≡ known_in ys p q
    go true e true h rest = let wrong : false ≡ true = sym off ∙ (ap f (same_pass_true p k.pass h) ∙ e) in absurd cc
    go true e false h rest = rw h rest
    go false e a h rest = rest

late_off : (g : Pass → Bool) (rs : List Part) (q : Part) (p : Pass) → counter_pass q ≡ Some p → g p ≡ false → is_late (filter (λ r. counts_for g (counter_pass r)) rs) q ≡ false
late_off g [] q p is off = refl
late_off g (r ∷ rs) q p is off = go (counts_for g (counter_pass r)) refl (same_part q r) refl (late_off g rs q p is off)
  where
    go : (b : Bool) → counts_for g (counter_pass r) ≡ b → (a : Bool) → same_part q r ≡ a → is_late (filter (λ e. counts_for g (counter_pass e)) rs) q ≡ false
        → is_late (cond b (r ∷ filter (λ e. counts_for g (counter_pass e)) rs) (filter (λ e. counts_for g (counter_pass e)) rs)) q ≡ false
    go true e true f rest = let wrong : false ≡ true = sym off ∙ (ap (counts_for g) (sym is) ∙ (ap (λ (x : Part). counts_for g (counter_pass x)) (same_part_true q r f) ∙ e)) in absurd cc
    go true e false f rest = rw f rest
    go false e a f rest = rest

pub late_first : (f g : Pass → Bool) (xs ys : List Part) (q : Part) (p : Pass) → counter_pass q ≡ Some p → f p ≡ true → g p ≡ false
    → is_late (filter (λ r. counts_for f (counter_pass r)) xs ++ filter (λ r. counts_for g (counter_pass r)) ys) q ≡ is_late xs q
late_first f g [] ys q p is on off = late_off g ys q p is off
late_first f g (r ∷ xs) ys q p is on off = go (counts_for f (counter_pass r)) refl (same_part q r) refl (late_first f g xs ys q p is on off)
  where
    Rest : List Part
    Rest = filter (λ e. counts_for f (counter_pass e)) xs

    go : (b : Bool) → counts_for f (counter_pass r) ≡ b → (a : Bool) → same_part q r ≡ a → is_late (Rest ++ filter (λ e. counts_for g (counter_pass e)) ys) q ≡ is_late xs q
        → is_late (cond b (r ∷ Rest) Rest ++ filter (λ e. counts_for g (counter_pass e)) ys) q ≡ (same_part q r || is_late xs q)
    go true e a h rest = ap (λ (x : Bool). same_part q r || x) rest
    go false e true h rest = let wrong : false ≡ true = sym e ∙ (ap (λ (x : Part). counts_for f (counter_pass x)) (sym (same_part_true q r h)) ∙ (ap (counts_for f) is ∙ on)) in absurd cc
    go false e false h rest = rw h rest

pub late_second : (f : Pass → Bool) (xs ys : List Part) (q : Part) (p : Pass) → counter_pass q ≡ Some p → f p ≡ false → is_late (filter (λ r. counts_for f (counter_pass r)) xs ++ ys) q ≡ is_late ys q
late_second f [] ys q p is off = refl
late_second f (r ∷ xs) ys q p is off = go (counts_for f (counter_pass r)) refl (same_part q r) refl (late_second f xs ys q p is off)
  where
    Rest : List Part
    Rest = filter (λ e. counts_for f (counter_pass e)) xs

    go : (b : Bool) → counts_for f (counter_pass r) ≡ b → (a : Bool) → same_part q r ≡ a → is_late (Rest ++ ys) q ≡ is_late ys q → is_late (cond b (r ∷ Rest) Rest ++ ys) q ≡ is_late ys q
    go true e true h rest = let wrong : false ≡ true = sym off ∙ (ap (counts_for f) (sym is) ∙ (ap (λ (x : Part). counts_for f (counter_pass x)) (same_part_true q r h) ∙ e)) in absurd cc
    go true e false h rest = rw h rest
    go false e a h rest = rest

-- ---- facts of each

pub each_both : {A : Type 0} (P : A → Type 0) (xs ys : List A) → Each P xs → Each P ys → Each P (xs ++ ys)
each_both P [] ys a b = b
each_both P (x ∷ xs) ys a b = (a.0, each_both P xs ys a.1 b)

pub each_kept : {A : Type 0} (P Q : A → Type 0) (keep : A → Bool) (xs : List A) → ((x : A) → keep x ≡ true → P x → Q x) → Each P xs → Each Q (filter keep xs)
each_kept P Q keep [] f h = tt
each_kept P Q keep (x ∷ xs) f h = go (keep x) refl (each_kept P Q keep xs f h.1)
  where
    go : (b : Bool) → keep x ≡ b → Each Q (filter keep xs) → Each Q (cond b (x ∷ filter keep xs) (filter keep xs))
    go true e rest = (f x e h.0, rest)
    go false e rest = rest
