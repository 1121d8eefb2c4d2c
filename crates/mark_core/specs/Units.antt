-- Colours and places of the units of a `Core`, by the lists that it keeps.
use Rattle.std.specs.Prelude.{◌≡◌, ℕ, ◌<◌, ◌^◌, nat_le, Bool, true, false, not, ◌&&◌, ◌||◌, List, [], length}
use lib.ListN.{get_or}
use Rattle.mark_core.specs.Machine.{Place, Nowhere, OnStack, same_place}

-- the parity, and for each unit its colour and whether it is doomed
pub record Painted : Type 0 where
  pub parity : Bool
  pub colour : List Bool
  pub doomed : List Bool

abbrev pub same : Bool → Bool → Bool
same true b = b
same false b = not b

-- a unit is marked where its colour is the parity
abbrev pub marked_in : Painted → ℕ → Bool
marked_in p u = same p.parity (get_or p.colour u false)

-- a number without a unit counts as doomed
abbrev pub doomed_in : Painted → ℕ → Bool
doomed_in p u = nat_le (length p.colour) u || get_or p.doomed u false

-- the units that are not doomed, apart by their colour
pub record AreApart (colour doomed on off : List Bool) : Type 0 where
  pub doomed_len : length doomed ≡ length colour
  pub on_len : length on ≡ length colour
  pub off_len : length off ≡ length colour
  pub on_is : (u : ℕ) → get_or on u false ≡ (not (doomed_in (record { parity = false; colour = colour; doomed = doomed }) u) && get_or colour u false)
  pub off_is : (u : ℕ) → get_or off u false ≡ (not (doomed_in (record { parity = false; colour = colour; doomed = doomed }) u) && not (get_or colour u false))

-- where each unit stands, and the number of markers
pub record Standing : Type 0 where
  pub places : List Place
  pub markers : ℕ

abbrev pub place_in : Standing → ℕ → Place
place_in s u = get_or s.places u Nowhere

-- a stack is one of so many markers
abbrev pub IsStackOf : ℕ → Place → Type 0
IsStackOf markers p = (m : ℕ) → p ≡ OnStack m → m < markers

-- the stacks of the markers are what stands on them
pub record AreStacks (places : List Place) (stacks : List (List Bool)) : Type 0 where
  pub few : length places < 2 ^ 32
  pub lens : (m : ℕ) → m < length stacks → length (get_or stacks m []) ≡ length places
  pub stack_is : (m u : ℕ) → m < length stacks → get_or (get_or stacks m []) u false ≡ same_place (get_or places u Nowhere) (OnStack m)
  pub of_markers : (u : ℕ) → IsStackOf (length stacks) (get_or places u Nowhere)
