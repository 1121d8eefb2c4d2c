-- Units of several members: their kinds, and their variables.
use Rattle.std.proofs.Common.{◌≡◌, ℕ, ◌+◌, ◌-◌, ◌<◌, ◌≤◌, ◌==◌, ◌&&◌, zero, suc, refl, sym, subst, ap, ◌∙◌, arith, Bool, cond, true, false, List, [], ◌∷◌, ◌++◌, length, map, take, drop, set, Option, Some, None, option_map, IfSome, slice_get, get_or}
use Rattle.std.specs.Prelude.{nat_lt, nat_le}
use Rattle.std.specs.List.{AllByRecursion, All, list_all}
use Rattle.std.proofs.lemmas.Bool.{eqb-true}
use Rattle.std.proofs.lemmas.Bool.Decides.{nat_tests}
use Rattle.std.proofs.lemmas.List.Sums.{AllPass-from_list_all}
use Rattle.world_model.specs.NameLists.{set_at, names_from}
use Rattle.world_model.specs.Engines.{Holdings}
use Rattle.world_model.proofs.ListFacts.{and_true}
use Rattle.class_schema.specs.Table as table
use Rattle.level_script.specs.Operands.{fits_member, fits_members}
use Rattle.world_play.specs.Header.{Header}
use Rattle.world_play.specs.Types.{Name, Ref, ClassId, Kind, Member}
use Rattle.world_play.specs.Bindings.{BindingsOf, bound, next_of, members_bound}
use Rattle.world_play.specs.Lanes.{kinds_of}
use Rattle.world_play.specs.Variables.{Standing, with_ref, with_members, without_members, HasVariable, shown, AreHeld}
use Rattle.world_play.proofs.Keeping.{bind_shown, bind_held}

-- ---- kinds

module _ {A : Type 0} (P : A → Type 0) where
  all_at : (ys : List A) (i : ℕ) (k : A) → AllByRecursion P ys → slice_get ys i ≡ Some k → P k
  all_at [] i k each e = absurd cc
  all_at (y ∷ ys) zero k each e = subst P (let same : y ≡ k = cc in same) each.0
  all_at (y ∷ ys) (suc i) k each e = all_at ys i k each.1 e

  -- what stands in a list with these behind it stood in the list, or is one of these
  from_more : (xs ys : List A) (i : ℕ) (k : A) → AllByRecursion P ys → slice_get (xs ++ ys) i ≡ Some k → (slice_get xs i ≡ Some k → P k) → P k
  from_more [] ys i k each e before = all_at ys i k each e
  from_more (x ∷ xs) ys zero k each e before = before e
  from_more (x ∷ xs) ys (suc i) k each e before = from_more xs ys i k each e before

  -- so it is with the lists of lanes, one of which has more behind it
  pub lists_more : (lists : ℕ → List A) (lane : ℕ) (ys : List A) → AllByRecursion P ys → (l i : ℕ) (k : A)
      → slice_get (set_at lists lane (lists lane ++ ys) l) i ≡ Some k → (slice_get (lists l) i ≡ Some k → P k) → P k
  lists_more lists lane ys each l i k e before = go (l == lane) refl e
    where
      go : (b : Bool) → (l == lane) ≡ b → slice_get (cond b (lists lane ++ ys) (lists l)) i ≡ Some k → P k
      go true t f = from_more (lists lane) ys i k each f (λ g. before (subst (λ (x : ℕ). slice_get (lists x) i ≡ Some k) (sym (eqb-true l lane t)) g))
      go false t f = before f

-- a kind of the table
abbrev pub IsKind : Header → Kind → Type 0
IsKind header k = (k.class.0 < length header.classes.classes) × (k ≡ table.kind_of header.classes k.class)

pub one_kind : (header : Header) (class : ClassId) → class.0 < length header.classes.classes → AllByRecursion (IsKind header) (table.kind_of header.classes class ∷ [])
one_kind header class small = ((small, refl), tt)

pub members_kinds : (header : Header) (members : List Member) → AllByRecursion (λ m. m.class.0 < length header.classes.classes) members → AllByRecursion (IsKind header) (kinds_of header members)
members_kinds header [] small = tt
members_kinds header (m ∷ members) small = ((small.0, refl), members_kinds header members small.1)

-- ---- members that fit

pub members_classes : (vars classes : ℕ) (members : List Member) → list_all (fits_member vars classes) members ≡ true → AllByRecursion (λ m. m.class.0 < classes) members
members_classes vars classes [] h = tt
members_classes vars classes (m ∷ members) h =
    let both = and_true (fits_member vars classes m) _ h in
    let class : nat_lt m.class.0 classes ≡ true = (and_true (nat_lt m.var vars) _ both.0).1 in
    (grind (arith, nat_tests, class), members_classes vars classes members both.1)

-- the classes of the members of a cluster that fits are there
pub members_fit : (vars classes : ℕ) (members : List Member) → fits_members vars classes members ≡ true → AllByRecursion (λ m. m.class.0 < classes) members
members_fit vars classes members h =
    let whole = and_true (nat_le 1 (length members) && nat_le (length members) 1024 && list_all (fits_member vars classes) members) _ h in
    members_classes vars classes members (and_true (nat_le 1 (length members) && nat_le (length members) 1024) _ whole.0).1

-- there are some of them, but not too many
pub members_many : (vars classes : ℕ) (members : List Member) → fits_members vars classes members ≡ true → (1 ≤ length members) × (length members ≤ 1024)
members_many vars classes members h =
    let whole = and_true (nat_le 1 (length members) && nat_le (length members) 1024 && list_all (fits_member vars classes) members) _ h in
    let both = and_true (nat_le 1 (length members)) (nat_le (length members) 1024) (and_true (nat_le 1 (length members) && nat_le (length members) 1024) _ whole.0).0 in
    let some : nat_le 1 (length members) ≡ true = both.0 in
    let few : nat_le (length members) 1024 ≡ true = both.1 in
    (grind (arith, nat_tests, some), grind (arith, nat_tests, few))

-- the variable and the class of each are there
pub member_at : (vars classes : ℕ) (members : List Member) → fits_members vars classes members ≡ true → (k : ℕ) (d : Member) → k < length members
    → (nat_lt (get_or members k d).var vars ≡ true) × ((get_or members k d).class.0 < classes)
member_at vars classes members h k d lt =
    let whole = and_true (nat_le 1 (length members) && nat_le (length members) 1024 && list_all (fits_member vars classes) members) _ h in
    let each = and_true (nat_le 1 (length members) && nat_le (length members) 1024) (list_all (fits_member vars classes) members) whole.0 in
    let one = AllPass-from_list_all (fits_member vars classes) members each.1 k d lt in
    let both = and_true (nat_lt (get_or members k d).var vars) _ one in
    let class : nat_lt (get_or members k d).class.0 classes ≡ true = both.1 in
    (both.0, grind (arith, nat_tests, class))

-- ---- variables

-- the counts stay
pub with_counts : (v : Standing) (lane : ℕ) (members : List Member) (refs : List Ref) → (with_members v lane members refs).counts ≡ v.counts
with_counts v lane [] refs = refl
with_counts v lane (m ∷ members) [] = refl
with_counts v lane (m ∷ members) (r ∷ refs) = with_counts (with_ref v lane m.var (Some r)) lane members refs

pub without_counts : (v : Standing) (lane : ℕ) (members : List Member) → (without_members v lane members).counts ≡ v.counts
without_counts v lane [] = refl
without_counts v lane (m ∷ members) = without_counts (with_ref v lane m.var None) lane members

-- what they stand for is held
pub with_held : (holds : Holdings) (v : Standing) (lane : ℕ) (members : List Member) (refs : List Ref) → All (holds lane) refs → AreHeld holds v → AreHeld holds (with_members v lane members refs)
with_held holds v lane [] refs given h = h
with_held holds v lane (m ∷ members) [] given h = h
with_held holds v lane (m ∷ members) (r ∷ refs) given h =
    with_held holds (with_ref v lane m.var (Some r)) lane members refs (λ k d lt. given (suc k) d (omega (arith, lt)))
    (bind_held holds v lane m.var (Some r) (given 0 r (omega arith)) h)

pub without_held : (holds : Holdings) (v : Standing) (lane : ℕ) (members : List Member) → AreHeld holds v → AreHeld holds (without_members v lane members)
without_held holds v lane [] h = h
without_held holds v lane (m ∷ members) h = without_held holds (with_ref v lane m.var None) lane members (bind_held holds v lane m.var None tt h)

-- the names are those of the members in order
pub with_shown : (v : Standing) (lane : ℕ) (members : List Member) (refs : List Ref) (first : ℕ) (kinds : List Kind) → map (λ (r : Ref). r.name) refs ≡ names_from lane first kinds
    → length kinds ≡ length members → shown (with_members v lane members refs) ≡ members_bound (shown v) lane members (Some (record { lane = lane; count = first }))
with_shown v lane [] refs first kinds names len = refl
with_shown v lane (m ∷ members) refs first [] names len = absurd (omega (arith, len))
with_shown v lane (m ∷ members) [] first (k ∷ kinds) names len = absurd cc
with_shown v lane (m ∷ members) (r ∷ refs) first (k ∷ kinds) names len =
    let own : r.name ≡ record { lane = lane; count = first } = cc in
    let rest : map (λ (r : Ref). r.name) refs ≡ names_from lane (first + 1) kinds = cc in
    with_shown (with_ref v lane m.var (Some r)) lane members refs (first + 1) kinds rest (omega (arith, len))
    ∙ ap (λ b. members_bound b lane members (Some (record { lane = lane; count = first + 1 })))
    (bind_shown v lane m.var (Some r) ∙ ap (λ (n : Name). bound (shown v) lane m.var (Some n)) own)

pub without_shown : (v : Standing) (lane : ℕ) (members : List Member) → shown (without_members v lane members) ≡ members_bound (shown v) lane members None
without_shown v lane [] = refl
without_shown v lane (m ∷ members) =
    without_shown (with_ref v lane m.var None) lane members ∙ ap (λ b. members_bound b lane members None) (bind_shown v lane m.var None)

-- the first member has the first name
pub first_member : (refs : List Ref) (d : Ref) (lane first : ℕ) (kinds : List Kind) → 1 ≤ length kinds → map (λ (r : Ref). r.name) refs ≡ names_from lane first kinds
    → (get_or refs 0 d).name ≡ record { lane = lane; count = first }
first_member refs d lane first [] some names = absurd (omega (arith, some))
first_member [] d lane first (k ∷ kinds) some names = absurd cc
first_member (r ∷ refs) d lane first (k ∷ kinds) some names = cc

-- weak variables stay, and the objects are the same whatever the weak ones have
pub members_weaks : {W : Type 0} (names : BindingsOf W) (lane : ℕ) (members : List Member) (first : Option Name) → (members_bound names lane members first).weaks ≡ names.weaks
members_weaks names lane [] first = refl
members_weaks names lane (m ∷ members) first = members_weaks (bound names lane m.var first) lane members (option_map next_of first)

pub members_objects : {V W : Type 0} (a : BindingsOf V) (b : BindingsOf W) (lane : ℕ) (members : List Member) (first : Option Name) → a.objects ≡ b.objects
    → (members_bound a lane members first).objects ≡ (members_bound b lane members first).objects
members_objects a b lane [] first same = same
members_objects a b lane (m ∷ members) first same =
    members_objects (bound a lane m.var first) (bound b lane m.var first) lane members (option_map next_of first)
    (ap (λ (o : ℕ → ℕ → Option Name). set_at o lane (set_at (o lane) m.var first)) same)
