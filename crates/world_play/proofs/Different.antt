-- In the world that a legal history leaves, the members of all units are different names.
use Rattle.std.proofs.Common.{◌≡◌, ℕ, ◌+◌, ◌≤◌, refl, sym, subst, ap, ◌∙◌, inl, inr, arith, Bool, cond, true, false, not, ◌||◌, List, [], ◌∷◌, ◌++◌, append-nil, length, ◌⊎◌, filter}
use Rattle.std.proofs.lemmas.Bool.{not-true, or_from, or_parts, false_from_ne_true}
use Rattle.std.proofs.lemmas.Grind.{flat_map-append}
use Rattle.std.proofs.lemmas.List.Folds.{list_any-append}
use Rattle.world_model.specs.Sizes.{Sizes}
use Rattle.world_model.specs.NameLists.{same_name, has, all_different, members, names_from}
use Rattle.world_model.specs.State.{State, beginning, is_marked}
use Rattle.world_model.specs.Next.{next_world, next, run}
use Rattle.world_model.specs.Histories.{MayBy, Legal, LegalFrom, after}
use Rattle.world_model.specs.Midway.{AreApart}
use Rattle.world_model.proofs.ListFacts.{and_true, or_true, or_right}
use Rattle.world_model.proofs.NameFacts.{same_name_true, same_name_refl, names_from_range}
use Rattle.world_model.proofs.Loosening.{members_parted}
use Rattle.world_model.proofs.Units.{next_apart, new_different}
use Rattle.world_model.proofs.NameFacts.{has_among, among_members}
use Rattle.world_play.specs.Types.{Name, Kind, Pass, Lane, Marker, Collector, Act, Entry}
use Rattle.world_play.specs.Types.act
use Rattle.world_play.specs.Types.begin
use Rattle.world_play.specs.Types.commit
use Rattle.world_model.proofs.Turns.{some_units}

-- ---- lists of names

-- no name stands in both lists
abbrev pub NoneShared : List Name → List Name → Type 0
NoneShared xs ys = (n : Name) → has xs n ≡ true → has ys n ≡ false

pub has_append : (xs ys : List Name) (n : Name) → has (xs ++ ys) n ≡ (has xs n || has ys n)
has_append xs ys n = list_any-append (same_name n) xs ys

has_first : (x : Name) (xs : List Name) → has (x ∷ xs) x ≡ true
has_first x xs = let own : same_name x x ≡ true = same_name_refl x in rw own refl

pub different_append : (xs ys : List Name) → all_different xs ≡ true → all_different ys ≡ true → NoneShared xs ys → all_different (xs ++ ys) ≡ true
different_append [] ys left right apart = right
different_append (x ∷ xs) ys left right apart =
    let both = and_true (not (has xs x)) (all_different xs) left in
    let first : has xs x ≡ false = not-true (has xs x) both.0 in
    let none : has (xs ++ ys) x ≡ false = has_append xs ys x ∙ or_from (has xs x) (has ys x) first (apart x (has_first x xs)) in
    let later : NoneShared xs ys = λ n h. apart n (or_right (same_name n x) (has xs n) h) in
    rw (none, different_append xs ys both.1 right later) refl

-- different names are so in each part of their list, and the parts share none
pub different_parts : (xs ys : List Name) → all_different (xs ++ ys) ≡ true → (all_different xs ≡ true) × (all_different ys ≡ true) × NoneShared xs ys
different_parts [] ys h = (refl, h, λ n e. absurd cc)
different_parts (x ∷ xs) ys h =
    let both = and_true (not (has (xs ++ ys) x)) (all_different (xs ++ ys)) h in
    let none = or_parts (has xs x) (has ys x) (sym (has_append xs ys x) ∙ not-true (has (xs ++ ys) x) both.0) in
    let rest = different_parts xs ys both.1 in
    (rw (none.0, rest.0) refl, rest.1, λ n e. apart none.1 rest.2 n (or_true (same_name n x) (has xs n) e))
  where
    apart : has ys x ≡ false → NoneShared xs ys → (n : Name) → (same_name n x ≡ true) ⊎ (has xs n ≡ true) → has ys n ≡ false
    apart first later n (inl same) = subst (λ (m : Name). has ys m ≡ false) (sym (same_name_true n x same)) first
    apart first later n (inr more) = later n more

-- ---- some of the units

-- ---- one more unit

-- new names are none of those that were made
new_names : (kinds : ℕ → List Kind) (units : List (List Name)) (lane first : ℕ) (more : List Kind)
    → first ≡ length (kinds lane) + 1 → AreApart kinds units → NoneShared (members units) (names_from lane first more)
new_names kinds units lane first more is h n old = false_from_ne_true (has (names_from lane first more) n) new
  where
    new : has (names_from lane first more) n ≡ true → ⊥
    new e =
        let range = names_from_range lane first more n e in
        let unit = among_members units n (has_among (members units) n old) in
        let low : n.count ≤ length (kinds n.lane) = h.made unit.0 n unit.1 unit.2 in
        let same : length (kinds n.lane) ≡ length (kinds lane) = ap (λ (i : ℕ). length (kinds i)) range.0 in
        omega (arith, range.1)

with_unit_different : (kinds : ℕ → List Kind) (units : List (List Name)) (lane first : ℕ) (more : List Kind)
    → first ≡ length (kinds lane) + 1 → AreApart kinds units → all_different (members units) ≡ true
    → all_different (members (units ++ names_from lane first more ∷ [])) ≡ true
with_unit_different kinds units lane first more is apart h =
    let row : List Name = names_from lane first more in
    let same : members (units ++ row ∷ []) ≡ members units ++ row =
    flat_map-append (λ u. u) units (row ∷ []) ∙ ap (λ (xs : List Name). members units ++ xs) (append-nil row) in
    subst (λ (xs : List Name). all_different xs ≡ true) (sym same)
    (different_append (members units) row h (new_different lane first more) (new_names kinds units lane first more is apart))

-- ---- each step, and all of them

next_different : (z : Sizes) (s : State) (p : Pass) (a : Act) → MayBy z s p a → AreApart s.world.kinds s.world.units
    → all_different (members s.world.units) ≡ true → all_different (members (next_world s.marks s.world p a).units) ≡ true
next_different z s (Lane lane) (act.Make kinds first) may apart h =
    with_unit_different s.world.kinds s.world.units lane first kinds may.may.next apart h
next_different z s (Marker marker) (act.Make kinds first) may apart h = absurd may.may
next_different z s Collector (act.Make kinds first) may apart h = absurd may.may
next_different z s p (act.CommitGc commit.Done) may apart h = some_units (is_marked s.marks) s.world.units h
next_different z s p (act.Loose of) may apart h = ap all_different (members_parted of s.world.units) ∙ h
next_different z s p (act.BeginGc begin.Started) may apart h = h
next_different z s p _ may apart h = h

run_different : (z : Sizes) (s : State) (entries : List Entry) → LegalFrom z s entries → AreApart s.world.kinds s.world.units
    → all_different (members s.world.units) ≡ true → all_different (members (run s entries).world.units) ≡ true
run_different z s [] legal apart h = h
run_different z s (e ∷ entries) legal apart h =
    let one = next_different z s e.pass e.act legal.0 apart h in
    run_different z (next s e) entries legal.1 (next_apart z s e.pass e.act legal.0 apart) one

pub members_different : (z : Sizes) (history : List Entry) → Legal z history → all_different (members (after history).units) ≡ true
members_different z history legal =
    run_different z beginning history legal
    (record { made = λ u n m. absurd m; apart = λ u v n m. absurd m; different = λ u m. absurd m; one_lane = λ u n k m. absurd m }) refl
