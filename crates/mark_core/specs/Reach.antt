-- Reachability from the root set.
use Rattle.std.specs.Prelude.{◌≡◌, ℕ, true, List, [], ◌∷◌, Option, Some}
use Rattle.mark_core.specs.Changes.{has}
use Rattle.mark_core.specs.Machine.{Core}

pub record Graph : Type 0 where
  pub cells : ℕ → List ℕ
  pub cell : ℕ → Option ℕ
  pub root : ℕ → Option ℕ

abbrev pub graph : Core → Graph
graph c = record { cells = c.cells; cell = c.cell; root = c.root }

-- a cell of u names v
abbrev pub Refers : Graph → ℕ → ℕ → Type 0
Refers g u v = (n : ℕ) × (has (g.cells u) n ≡ true) × (g.cell n ≡ Some v)

-- each of these units refers to the next, from u on and up to v
abbrev pub Walk : Graph → ℕ → List ℕ → ℕ → Type 0
Walk g u [] v = u ≡ v
Walk g u (next ∷ rest) v = Refers g u next × Walk g next rest v

-- the unit is the last of a walk that begins with a unit that the root set names
pub record IsReached (g : Graph) (v : ℕ) : Type 0 where
  pub place : ℕ
  pub root : ℕ
  pub rest : List ℕ
  pub named : g.root place ≡ Some root
  pub walk : Walk g root rest v
