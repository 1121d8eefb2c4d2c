-- What the variables show, as they are bound and as frames end.
use Rattle.std.proofs.Common.{◌≡◌, ℕ, ◌+◌, ◌<◌, ◌≤◌, ◌==◌, Bool, true, false, cond, List, [], ◌∷◌, ◌++◌, drop, length, replicate, set, get_or, slice_get, refl, sym, ap, ◌∙◌, subst, arith, zero, suc, Option, Some, None, IfSome, option_map}
use Rattle.std.specs.Option.{option_and_then}
use Rattle.std.specs.Option.{option_map_or}
use Rattle.std.specs.Prelude.{slice_index}
use Rattle.std.proofs.lemmas.Bool.{eqb-true, eq-eqb}
use Rattle.std.proofs.lemmas.Bool.Decides.{nat_tests}
use Rattle.std.proofs.lemmas.List.{length-map, length-replicate, length-set}
use Rattle.world_model.specs.NameLists.{set_at}
use Rattle.world_model.specs.Engines.{Holdings, KeepsHeld, KeepsOthers}
use Rattle.world_play.specs.Types.{Name, Ref, Weak}
use Rattle.world_play.specs.Pairs.{no_pair}
use Rattle.world_play.specs.Bindings.{no_bindings, bound, weak_bound, ended}
use Rattle.world_play.specs.Variables.{Standing, unbound, with_ref, with_weak, without_refs, shown, AreHeld, lane_ref, ref_of, numbers_of, weak_of}
use Rattle.world_play.specs.Slots.{slot_of, live, AreDated}
use Rattle.world_play.specs.declared.variables.Bound.{Bound}
use Rattle.world_play.specs.declared.variables.LaneVariables.{LaneVariables}

-- what an element is after one was replaced
slice_get-set : {A : Type 0} (xs : List A) (i j : ℕ) (y : A) → i < length xs → slice_get (set xs i y) j ≡ cond (j == i) (Some y) (slice_get xs j)
slice_get-set [] i j y h = absurd (omega arith)
slice_get-set (x ∷ xs) zero zero y h = refl
slice_get-set (x ∷ xs) zero (suc j) y h = let t : (suc j == 0) ≡ false = grind (arith, nat_tests) in rw t refl
slice_get-set (x ∷ xs) (suc i) zero y h = let t : (0 == suc i) ≡ false = grind (arith, nat_tests) in rw t refl
slice_get-set (x ∷ xs) (suc i) (suc j) y h = let t : (suc j == suc i) ≡ (j == i) = grind (arith, nat_tests) in rw t (slice_get-set xs i j y (omega arith))

-- ---- the variables of one lane

-- one more slot is empty
pub fill_more : {A : Type 0} (n : ℕ) (v : A) (d : List A) → n < length d → set (replicate n v ++ drop n d) n v ≡ replicate (suc n) v ++ drop (suc n) d
fill_more zero v [] h = absurd (omega arith)
fill_more zero v (x ∷ d) h = refl
fill_more (suc n) v [] h = absurd (omega arith)
fill_more (suc n) v (x ∷ d) h = ap (λ xs. v ∷ xs) (fill_more n v d (omega arith))

-- no variable is bound
none_bound : (n v : ℕ) (b : Bound) → slice_get (replicate n None) v ≡ Some (Some b) → ⊥
none_bound zero v b e = cc
none_bound (suc n) zero b e = cc
none_bound (suc n) (suc v) b e = none_bound n v b e

clear_bound : (slots : List (Option Bound)) (n v : ℕ) (b : Bound) → slots ≡ replicate n None → slice_get slots v ≡ Some (Some b) → ⊥
clear_bound slots n v b are e = none_bound n v b (ap (λ (s : List (Option Bound)). slice_get s v) (sym are) ∙ e)

-- a slot that is not bound gives nothing
live_none : (frame : ℕ) (o : Option (Option Bound)) → ((b : Bound) → o ≡ Some (Some b) → ⊥) → option_and_then (live frame) o ≡ None
live_none frame None h = refl
live_none frame (Some None) h = refl
live_none frame (Some (Some b)) h = absurd (h b refl)

-- where all slots are empty no variable stands for an object, whatever the frame
pub clear_ref : (l : LaneVariables) (n v : ℕ) → l.slots.items ≡ replicate n None → lane_ref l v ≡ None
clear_ref l n v are = live_none l.frame (slice_get l.slots.items v) (λ b. clear_bound l.slots.items n v b are)

pub clear_dated : (frame n : ℕ) (slots : List (Option Bound)) → slots ≡ replicate n None → AreDated frame slots
clear_dated frame n slots are v b e = absurd (clear_bound slots n v b are e)

-- no variable of a lane stands for an object in the next frame
pub end_ref : (l new : LaneVariables) (v : ℕ) → new.frame ≡ l.frame + 1 → new.slots.items ≡ l.slots.items → AreDated l.frame l.slots.items → lane_ref new v ≡ None
end_ref l new v frame slots dated = go (slice_get new.slots.items v) (ap (λ (s : List (Option Bound)). slice_get s v) slots)
  where
    late : (b : Bound) → b.frame ≤ l.frame → (b.frame == new.frame) ≡ false
    late b h = grind (arith, nat_tests, frame)

    go : (o : Option (Option Bound)) → o ≡ slice_get l.slots.items v → option_and_then (live new.frame) o ≡ None
    go None e = refl
    go (Some None) e = refl
    go (Some (Some b)) e = let t : (b.frame == new.frame) ≡ false = late b (dated v b (sym e)) in rw t refl

pub later_dated : (frame later : ℕ) (slots : List (Option Bound)) → frame ≤ later → AreDated frame slots → AreDated later slots
later_dated frame later slots more dated v b at = omega (arith, more, dated v b at)

then_cond : {A B : Type 0} (f : A → Option B) (b : Bool) (x : A) (o : Option A) → option_and_then f (cond b (Some x) o) ≡ cond b (f x) (option_and_then f o)
then_cond f true x o = refl
then_cond f false x o = refl

live_slot : (frame : ℕ) (to : Option Ref) → live frame (slot_of frame to) ≡ to
live_slot frame None = refl
live_slot frame (Some at) = let t : (frame == frame) ≡ true = eq-eqb frame frame refl in rw t refl

-- what a lane's variables stand for after one was bound
bind_ref : (l new : LaneVariables) (var : ℕ) (to : Option Ref) (v : ℕ) → new.frame ≡ l.frame
    → new.slots.items ≡ set l.slots.items var (slot_of l.frame to) → var < length l.slots.items → lane_ref new v ≡ cond (v == var) to (lane_ref l v)
bind_ref l new var to v frame slots h =
    ap (λ (f : ℕ). option_and_then (live f) (slice_get new.slots.items v)) frame
    ∙ ap (λ (s : List (Option Bound)). option_and_then (live l.frame) (slice_get s v)) slots
    ∙ ap (option_and_then (live l.frame)) (slice_get-set l.slots.items var v (slot_of l.frame to) h)
    ∙ then_cond (live l.frame) (v == var) (slot_of l.frame to) (slice_get l.slots.items v)
    ∙ ap (λ (o : Option Ref). cond (v == var) o (lane_ref l v)) (live_slot l.frame to)

-- a slot that was just bound is of this frame
slot_dated : (frame : ℕ) (to : Option Ref) (b : Bound) → slot_of frame to ≡ Some b → b.frame ≤ frame
slot_dated frame None b e = absurd cc
slot_dated frame (Some at) b e = let same : frame ≡ b.frame = ap (λ (o : Option Bound). option_map_or (λ x. x.frame) o 0) e in omega arith

pub bind_dated : (frame var : ℕ) (to : Option Ref) (slots : List (Option Bound)) → var < length slots → AreDated frame slots → AreDated frame (set slots var (slot_of frame to))
bind_dated frame var to slots h dated v b e = go (v == var) (sym (slice_get-set slots var v (slot_of frame to) h) ∙ e)
  where
    go : (c : Bool) → cond c (Some (slot_of frame to)) (slice_get slots v) ≡ Some (Some b) → b.frame ≤ frame
    go true e = slot_dated frame to b (let t : slot_of frame to ≡ Some b = cc in t)
    go false e = dated v b e

-- ---- the variables of all lanes

-- lanes with so many variables, of which none is bound
unfoldable pub AreFresh : List LaneVariables → List ℕ → Type 0
AreFresh [] [] = Unit {0}
AreFresh (lane ∷ lanes) (count ∷ counts) = (lane.slots.items ≡ replicate count None) × AreFresh lanes counts
AreFresh _ _ = ⊥

pub fresh_none : AreFresh [] []
unfolding AreFresh
fresh_none = tt

-- one more fresh lane
pub fresh_more : (lanes : List LaneVariables) (counts : List ℕ) (lane : LaneVariables) (count : ℕ) → AreFresh lanes counts
    → lane.slots.items ≡ replicate count None → AreFresh (lanes ++ lane ∷ []) (counts ++ count ∷ [])
unfolding AreFresh
fresh_more [] [] lane count h slots = (slots, tt)
fresh_more [] (c ∷ counts) lane count h slots = absurd h
fresh_more (l ∷ lanes) [] lane count h slots = absurd h
fresh_more (l ∷ lanes) (c ∷ counts) lane count h slots = (h.0, fresh_more lanes counts lane count h.1 slots)

fresh_lane : (lanes : List LaneVariables) (counts : List ℕ) → AreFresh lanes counts → (lane : ℕ) (l : LaneVariables) → slice_get lanes lane ≡ Some l → (n : ℕ) × (l.slots.items ≡ replicate n None)
unfolding AreFresh
fresh_lane [] counts h lane l e = absurd cc
fresh_lane (x ∷ lanes) [] h lane l e = absurd h
fresh_lane (x ∷ lanes) (c ∷ counts) h zero l e = let same : x ≡ l = cc in (c, ap (λ (y : LaneVariables). y.slots.items) (sym same) ∙ h.0)
fresh_lane (x ∷ lanes) (c ∷ counts) h (suc lane) l e = fresh_lane lanes counts h.1 lane l e

ref_none : (o : Option LaneVariables) (var : ℕ) → ((l : LaneVariables) → o ≡ Some l → lane_ref l var ≡ None) → option_and_then (λ l. lane_ref l var) o ≡ None
ref_none None var h = refl
ref_none (Some l) var h = h l refl

fresh_refs : (lanes : List LaneVariables) (counts : List ℕ) → AreFresh lanes counts → (lane var : ℕ) → ref_of lanes lane var ≡ None
fresh_refs lanes counts h lane var = ref_none (slice_get lanes lane) var (λ l e. let are = fresh_lane lanes counts h lane l e in clear_ref l are.0 var are.1)

fresh_numbers : (lanes : List LaneVariables) (counts : List ℕ) → AreFresh lanes counts → numbers_of lanes ≡ counts
unfolding AreFresh
fresh_numbers [] [] h = refl
fresh_numbers [] (c ∷ counts) h = absurd h
fresh_numbers (l ∷ lanes) [] h = absurd h
fresh_numbers (l ∷ lanes) (c ∷ counts) h =
    let first : length l.slots.items ≡ c = ap length h.0 ∙ length-replicate c None in
    λ i. first i ∷ fresh_numbers lanes counts h.1 i

-- what lanes show
abbrev pub shows : List LaneVariables → List Weak → Standing
shows lanes weaks = record { refs = ref_of lanes; weaks = weak_of weaks; counts = record { lanes = numbers_of lanes; weaks = length weaks } }

empty_pairs : (count weak : ℕ) → weak_of (replicate count no_pair) weak ≡ no_pair
empty_pairs zero weak = refl
empty_pairs (suc count) zero = refl
empty_pairs (suc count) (suc weak) = empty_pairs count weak

pub fresh_standing : (lanes : List LaneVariables) (counts : List ℕ) (count : ℕ) → AreFresh lanes counts → shows lanes (replicate count no_pair) ≡ unbound counts count
fresh_standing lanes counts count h =
    λ i.
    record {
      refs = λ lane var. fresh_refs lanes counts h lane var i;
      weaks = λ weak. empty_pairs count weak i;
      counts = record { lanes = fresh_numbers lanes counts h i; weaks = length-replicate count no_pair i };
    }

-- the lane and the variable that are there
pub lane_inside : (lanes : List LaneVariables) (lane : ℕ) → lane < length (numbers_of lanes) → lane < length lanes
lane_inside lanes lane h = let n : length (numbers_of lanes) ≡ length lanes = length-map lanes (λ (l : LaneVariables). length l.slots.items) in omega (arith, h, n)

numbers_at : (all : List LaneVariables) (lane : ℕ) (l : LaneVariables) → slice_get all lane ≡ Some l → slice_index (numbers_of all) lane ≡ length l.slots.items
numbers_at [] lane l e = absurd cc
numbers_at (x ∷ all) zero l e = let same : x ≡ l = cc in ap (λ (y : LaneVariables). length y.slots.items) same
numbers_at (x ∷ all) (suc lane) l e = numbers_at all lane l e

pub var_inside : (lanes : List LaneVariables) (lane var : ℕ) (l : LaneVariables) → slice_get lanes lane ≡ Some l → var < slice_index (numbers_of lanes) lane → var < length l.slots.items
var_inside lanes lane var l at h = omega (arith, h, numbers_at lanes lane l at)

pub own_ref : (lanes : List LaneVariables) (lane : ℕ) (l : LaneVariables) (var : ℕ) → slice_get lanes lane ≡ Some l → ref_of lanes lane var ≡ lane_ref l var
own_ref lanes lane l var e = ap (option_and_then (λ x. lane_ref x var)) e

-- ---- one lane's variables change

-- what the variables stand for after those of one lane changed
ref_set : (lanes : List LaneVariables) (lane : ℕ) (new : LaneVariables) (j var : ℕ) → lane < length lanes → ref_of (set lanes lane new) j var ≡ cond (j == lane) (lane_ref new var) (ref_of lanes j var)
ref_set lanes lane new j var h = ap (option_and_then (λ l. lane_ref l var)) (slice_get-set lanes lane j new h) ∙ then_cond (λ l. lane_ref l var) (j == lane) new (slice_get lanes j)

numbers_set : (lanes : List LaneVariables) (lane : ℕ) (l new : LaneVariables) → slice_get lanes lane ≡ Some l
    → length new.slots.items ≡ length l.slots.items → numbers_of (set lanes lane new) ≡ numbers_of lanes
numbers_set [] lane l new e len = absurd cc
numbers_set (x ∷ lanes) zero l new e len =
    let same : x ≡ l = cc in
    λ i. (len ∙ ap (λ (y : LaneVariables). length y.slots.items) (sym same)) i ∷ numbers_of lanes
numbers_set (x ∷ lanes) (suc lane) l new e len = λ i. length x.slots.items ∷ numbers_set lanes lane l new e len i

-- one lane's variables are others
set_standing : (lanes : List LaneVariables) (weaks : List Weak) (lane : ℕ) (l new : LaneVariables) (own : ℕ → Option Ref) → slice_get lanes lane ≡ Some l
    → lane < length lanes → length new.slots.items ≡ length l.slots.items → ((v : ℕ) → lane_ref new v ≡ own v)
    → shows (set lanes lane new) weaks ≡ record { refs = set_at (ref_of lanes) lane own; weaks = weak_of weaks; counts = (shows lanes weaks).counts }
set_standing lanes weaks lane l new own e h len refs =
    λ i.
    record {
      refs =
          λ j v. (ref_set lanes lane new j v h ∙ ap (λ (o : Option Ref). cond (j == lane) o (ref_of lanes j v)) (refs v) ∙ at j v (j == lane)) i;
      weaks = weak_of weaks;
      counts = record { lanes = numbers_set lanes lane l new e len i; weaks = length weaks };
    }
  where
    at : (j v : ℕ) (b : Bool) → cond b (own v) (ref_of lanes j v) ≡ cond {A = ℕ → Option Ref} b own (ref_of lanes j) v
    at j v true = refl
    at j v false = refl

-- a variable is bound
pub bind_standing : (lanes : List LaneVariables) (weaks : List Weak) (lane var : ℕ) (l new : LaneVariables) (to : Option Ref) → slice_get lanes lane ≡ Some l
    → lane < length lanes → new.frame ≡ l.frame → new.slots.items ≡ set l.slots.items var (slot_of l.frame to)
    → length new.slots.items ≡ length l.slots.items → var < length l.slots.items
    → shows (set lanes lane new) weaks ≡ with_ref (shows lanes weaks) lane var to
bind_standing lanes weaks lane var l new to e h frame slots len inside =
    set_standing lanes weaks lane l new (set_at (ref_of lanes lane) var to) e h len
    (λ v. bind_ref l new var to v frame slots inside ∙ ap (λ (o : Option Ref). cond (v == var) to o) (sym (own_ref lanes lane l v e)))

-- a frame ends
pub end_standing : (lanes : List LaneVariables) (weaks : List Weak) (lane : ℕ) (l new : LaneVariables) → slice_get lanes lane ≡ Some l → lane < length lanes
    → length new.slots.items ≡ length l.slots.items → ((v : ℕ) → lane_ref new v ≡ None)
    → shows (set lanes lane new) weaks ≡ without_refs (shows lanes weaks) lane
end_standing lanes weaks lane l new e h len none = set_standing lanes weaks lane l new (λ v. None) e h len none

-- what a place has after another value was put into the list
pub get_or-set : {A : Type 0} (xs : List A) (i j : ℕ) (y d : A) → i < length xs → get_or (set xs i y) j d ≡ cond (j == i) y (get_or xs j d)
get_or-set [] i j y d h = absurd (omega arith)
get_or-set (x ∷ xs) zero zero y d h = refl
get_or-set (x ∷ xs) zero (suc j) y d h = let t : (suc j == 0) ≡ false = grind (arith, nat_tests) in rw t refl
get_or-set (x ∷ xs) (suc i) zero y d h = let t : (0 == suc i) ≡ false = grind (arith, nat_tests) in rw t refl
get_or-set (x ∷ xs) (suc i) (suc j) y d h = let t : (suc j == suc i) ≡ (j == i) = grind (arith, nat_tests) in rw t (get_or-set xs i j y d (omega arith))

-- a weak variable gets a pair
pub weak_standing : (lanes : List LaneVariables) (weaks : List Weak) (weak : ℕ) (pair : Weak) → weak < length weaks
    → shows lanes (set weaks weak pair) ≡ with_weak (shows lanes weaks) weak pair
weak_standing lanes weaks weak pair h =
    λ i.
    record {
      refs = ref_of lanes;
      weaks = λ j. get_or-set weaks weak j pair no_pair h i;
      counts = record { lanes = numbers_of lanes; weaks = length-set weaks weak pair i };
    }

-- ---- the bindings

pub unbound_shown : (counts : List ℕ) (weaks : ℕ) → shown (unbound counts weaks) ≡ no_bindings
unbound_shown counts weaks = refl

pub weak_shown : (v : Standing) (weak : ℕ) (pair : Weak) → shown (with_weak v weak pair) ≡ weak_bound (shown v) weak pair
weak_shown v weak pair = refl

pub bind_shown : (v : Standing) (lane var : ℕ) (to : Option Ref) → shown (with_ref v lane var to) ≡ bound (shown v) lane var (option_map (λ r. r.name) to)
bind_shown v lane var to = λ i. record { objects = λ j w. go j w (j == lane) (w == var) refl i; weaks = v.weaks }
  where
    go : (j w : ℕ) (b c : Bool) → (w == var) ≡ c → option_map (λ (r : Ref). r.name) (cond {A = ℕ → Option Ref} b (set_at (v.refs lane) var to) (v.refs j) w)
        ≡ cond {A = ℕ → Option Name} b (set_at ((shown v).objects lane) var (option_map (λ r. r.name) to)) ((shown v).objects j) w
    go j w true true is = rw is refl
    go j w true false is = rw is refl
    go j w false c is = refl

pub end_shown : (v : Standing) (lane : ℕ) → shown (without_refs v lane) ≡ ended (shown v) lane
end_shown v lane = λ i. record { objects = λ j w. go j w (j == lane) i; weaks = v.weaks }
  where
    go : (j w : ℕ) (b : Bool) → option_map (λ (r : Ref). r.name) (cond {A = ℕ → Option Ref} b (λ x. None) (v.refs j) w) ≡ cond {A = ℕ → Option Name} b (λ x. None) ((shown v).objects j) w
    go j w true = refl
    go j w false = refl

-- ---- what is held

pub unbound_held : (holds : Holdings) (counts : List ℕ) (weaks : ℕ) → AreHeld holds (unbound counts weaks)
unbound_held holds counts weaks lane var r e = absurd cc

pub held_on : (holds holds' : Holdings) (v : Standing) → KeepsHeld holds holds' → AreHeld holds v → AreHeld holds' v
held_on holds holds' v keeps h lane var r e = keeps lane r (h lane var r e)

pub bind_held : (holds : Holdings) (v : Standing) (lane var : ℕ) (to : Option Ref) → IfSome to (holds lane) → AreHeld holds v → AreHeld holds (with_ref v lane var to)
bind_held holds v lane var to given h j w r is = go (j == lane) refl is
  where
    inner : (c : Bool) → cond c to (v.refs lane w) ≡ Some r → holds lane r
    inner true e = subst (λ (o : Option Ref). IfSome o (holds lane)) e given
    inner false e = h lane w r e

    go : (b : Bool) → (j == lane) ≡ b → cond {A = ℕ → Option Ref} b (set_at (v.refs lane) var to) (v.refs j) w ≡ Some r → holds j r
    go true t e = subst (λ (i : ℕ). holds i r) (sym (eqb-true j lane t)) (inner (w == var) e)
    go false t e = h j w r e

pub end_held : (holds holds' : Holdings) (v : Standing) (lane : ℕ) → KeepsOthers lane holds holds' → AreHeld holds v → AreHeld holds' (without_refs v lane)
end_held holds holds' v lane keeps h j w r is = go (j == lane) refl is
  where
    go : (b : Bool) → (j == lane) ≡ b → cond {A = ℕ → Option Ref} b (λ x. None) (v.refs j) w ≡ Some r → holds' j r
    go true at is = absurd cc
    go false at is = keeps j r (λ same. let t : (j == lane) ≡ true = eq-eqb j lane same in let f : (j == lane) ≡ false = at in cc) (h j w r is)
