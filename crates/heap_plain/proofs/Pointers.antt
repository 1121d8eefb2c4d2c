-- Strong pointers and serials, while objects come and go.
use Rattle.std.proofs.Common.{◌≡◌, ◌≢◌, ℕ, ◌<◌, ◌≤◌, ◌++◌, refl, sym, ap, ◌∙◌, inl, inr, arith, List, [], ◌∷◌, length, Option, Some}
use Rattle.std.proofs.Math.ListN.{set}
use Rattle.std.proofs.Math.Logic.{dite}
use Rattle.std.proofs.Math.Decide.{ℕ_discrete, dec_le}
use Rattle.std.proofs.Math.Nat.{lt_of_not-le}
use Rattle.std.proofs.lemmas.List.{length-set, get_or-set_same, get_or-set_other, get_or_past}
use Rattle.world_model.specs.Sizes.{Sizes}
use Rattle.world_model.proofs.ListFacts.{Among}
use Rattle.heap_plain.specs.Types.{Name}
use Rattle.heap_plain.specs.declared.life.Life.{Life}
use Rattle.heap_plain.specs.Parts.{name_at, target_at}
use Rattle.heap_plain.specs.Serials.{serial_at, all_cleared}
use Rattle.heap_plain.specs.Units.{LivesAt}
use Rattle.heap_plain.specs.Roots.{StrongShow}
use Rattle.heap_plain.specs.Destroying.{AreNamed}
use Rattle.heap_plain.proofs.Cells.{aims_map, aims_name}

-- ---- strong pointers

-- what strong pointers name lives still
pub strong_map : {z : Sizes} {names ns : List (Option Name)} {lives ls : List Life} {targets : List (Option ℕ)} {strong : ℕ → ℕ → Option Name}
    → ((lane number t : ℕ) (m : Name) → strong lane number ≡ Some m → LivesAt names lives t m → LivesAt ns ls t m)
    → StrongShow z names lives targets strong → StrongShow z ns ls targets strong
strong_map {z} {targets = targets} {strong} stays s = record {
  len = s.len;
  aims = λ lane number a b. aims_map (target_at z.strong targets lane number) (strong lane number) (λ t m e. stays lane number t m e) (s.aims lane number a b);
  no_more = s.no_more;
}

-- where a strong pointer names an object, it is one of the shape, and holds the index of that object
pub strong_target : {z : Sizes} {names : List (Option Name)} {lives : List Life} {targets : List (Option ℕ)} {strong : ℕ → ℕ → Option Name} → StrongShow z names lives targets strong
    → (lane number : ℕ) (n : Name) → strong lane number ≡ Some n
    → (lane < z.lanes) × (number < z.strong) × ((t : ℕ) × (target_at z.strong targets lane number ≡ Some t) × LivesAt names lives t n)
strong_target {z} {targets = targets} {strong} s lane number n e = dite (dec_le z.lanes lane)
    (λ (past : z.lanes ≤ lane). absurd (let none = s.no_more lane number (λ a b. absurd (omega arith)) in cc))
    (λ (low : ¬ (z.lanes ≤ lane)). dite (dec_le z.strong number)
    (λ (past : z.strong ≤ number). absurd (let none = s.no_more lane number (λ a b. absurd (omega arith)) in cc))
    (λ (few : ¬ (z.strong ≤ number)).
    let a = lt_of_not-le low in
    let b = lt_of_not-le few in
    (a, b, aims_name (target_at z.strong targets lane number) (strong lane number) n (s.aims lane number a b) e)))

-- ---- serials that are cleared

set_zero : (xs : List ℕ) (i : ℕ) → serial_at (set xs i 0) i ≡ 0
set_zero xs i = dite (dec_le (length xs) i)
    (λ (past : length xs ≤ i). get_or_past (set xs i 0) i 0 (omega (arith, length-set xs i 0)))
    (λ (inside : ¬ (length xs ≤ i)). get_or-set_same xs i 0 0 (lt_of_not-le inside))

pub length-all_cleared : (xs is : List ℕ) → length (all_cleared xs is) ≡ length xs
length-all_cleared xs [] = refl
length-all_cleared xs (i ∷ is) = length-all_cleared (set xs i 0) is ∙ length-set xs i 0

-- where there is none, there is none still
pub cleared_still : (xs is : List ℕ) (j : ℕ) → serial_at xs j ≡ 0 → serial_at (all_cleared xs is) j ≡ 0
cleared_still xs [] j e = e
cleared_still xs (i ∷ is) j e = cleared_still (set xs i 0) is j (dite (ℕ_discrete j i)
    (λ (same : j ≡ i). ap (λ (x : ℕ). serial_at (set xs i 0) x) same ∙ set_zero xs i)
    (λ (ne : j ≢ i). get_or-set_other xs i j 0 0 ne ∙ e))

pub cleared_in : (xs is : List ℕ) (j : ℕ) → Among is j → serial_at (all_cleared xs is) j ≡ 0
cleared_in xs [] j a = absurd a
cleared_in xs (i ∷ is) j (inl e) = cleared_still (set xs i 0) is j (ap (λ (x : ℕ). serial_at (set xs i 0) x) (sym e) ∙ set_zero xs i)
cleared_in xs (i ∷ is) j (inr a) = cleared_in (set xs i 0) is j a

pub cleared_out : (xs is : List ℕ) (j : ℕ) → (Among is j → ⊥) → serial_at (all_cleared xs is) j ≡ serial_at xs j
cleared_out xs [] j out = refl
cleared_out xs (i ∷ is) j out = cleared_out (set xs i 0) is j (λ a. out (inr a)) ∙ get_or-set_other xs i j 0 0 (λ e. out (inl (sym e)))

pub all_cleared-append : (xs is : List ℕ) (j : ℕ) → all_cleared xs (is ++ j ∷ []) ≡ set (all_cleared xs is) j 0
all_cleared-append xs [] j = refl
all_cleared-append xs (i ∷ is) j = all_cleared-append (set xs i 0) is j

-- ---- objects at indexes in a row

-- each of the objects stands at one of the indexes
pub among_named : (names : List (Option Name)) (is : List ℕ) (ns : List Name) → AreNamed names is ns → (i : ℕ) (n : Name) → name_at names i ≡ Some n
    → ((i j : ℕ) (n : Name) → name_at names i ≡ Some n → name_at names j ≡ Some n → i ≡ j) → Among ns n → Among is i
among_named names is [] h i n e alone a = absurd a
among_named names [] (m ∷ ns) h i n e alone a = absurd h
among_named names (j ∷ is) (m ∷ ns) h i n e alone (inl same) = inl (alone j i n (h.0 ∙ ap (λ (x : Name). Some x) same) e)
among_named names (j ∷ is) (m ∷ ns) h i n e alone (inr a) = inr (among_named names is ns h.1 i n e alone a)
