-- A set of the numbers below a bound, as a list of stamps: a number is in it where its stamp is the present one.
use Rattle.std.specs.Prelude.{◌≡◌, ℕ, ◌<◌, ◌≤◌, ◌^◌, ◌==◌, Bool, false, List, length, map}
use lib.ListN.{get_or}
use Rattle.mark_core.specs.Machine.{count_below}

abbrev pub members : ℕ → List ℕ → List Bool
members now stamps = map (λ s. s == now) stamps

-- how many numbers are in a set
abbrev pub count_in : List Bool → ℕ
count_in bits = count_below (λ i. get_or bits i false) (length bits)

pub record AreStamps (now count : ℕ) (stamps : List ℕ) : Type 0 where
  pub few : length stamps < 2 ^ 32
  pub positive : 0 < now
  pub past : (i : ℕ) → get_or stamps i 0 ≤ now
  pub counted : count_in (members now stamps) ≡ count
