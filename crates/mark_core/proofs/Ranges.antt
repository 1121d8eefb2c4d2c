-- What is in the world, or is grey, is one of the units of the machine.
use Rattle.std.proofs.Common.{◌≡◌, ℕ, ◌<◌, ◌≤◌, refl, inl, inr, true, false, ◌⊎◌, Option, Some, None, IfSome}
use Rattle.mark_core.specs.Changes.{has}
use Rattle.mark_core.specs.Machine.{Nowhere, Scan, Sizes, Core}
use Rattle.mark_core.specs.Steps.{is_live, found_of}
use Rattle.mark_core.specs.Lawful.{Lawful}
use Rattle.mark_core.proofs.Tools.{in_or_beyond, live_alive}

pub alive_in : (z : Sizes) (c : Core) (u : ℕ) → c.doomed u ≡ false → Lawful z c → u < z.units
alive_in z c u alive h = go (in_or_beyond z u)
  where
    go : (u < z.units) ⊎ (z.units ≤ u) → u < z.units
    go (inl lt) = lt
    go (inr far) = absurd (let dead = h.beyond u far in cc)

pub live_in : (z : Sizes) (c : Core) (u : ℕ) → is_live c.phase c.doomed c.marked u ≡ true → Lawful z c → u < z.units
live_in z c u live h = alive_in z c u (live_alive c.phase c.doomed c.marked u live) h

if_in : (z : Sizes) (o : Option ℕ) → ((u : ℕ) → o ≡ Some u → u < z.units) → IfSome o (λ u. u < z.units)
if_in z None f = tt
if_in z (Some u) f = f u refl

pub target_in : (z : Sizes) (c : Core) (l u k : ℕ) (o : Option ℕ) → c.holds l u ≡ true → has (c.cells u) k ≡ true → o ≡ c.cell k → Lawful z c → IfSome o (λ v. v < z.units)
target_in z c l u k o holds own at h = if_in z o (λ v e. live_in z c v (h.cells u k v (h.held l u holds) own (let there : c.cell k ≡ Some v = cc in there)) h)

pub root_in : (z : Sizes) (c : Core) (p : ℕ) (o : Option ℕ) → o ≡ c.root p → Lawful z c → IfSome o (λ v. v < z.units)
root_in z c p o at h = if_in z o (λ v e. live_in z c v (let named = h.root_set p v (let there : c.root p ≡ Some v = cc in there) in named.1) h)

pub held_in : (z : Sizes) (c : Core) (l u : ℕ) → c.holds l u ≡ true → Lawful z c → u < z.units
held_in z c l u holds h = live_in z c u (h.held l u holds) h

pub grey_in : (z : Sizes) (c : Core) (u : ℕ) → (c.place u ≡ Nowhere → ⊥) → Lawful z c → u < z.units
grey_in z c u grey h = go (in_or_beyond z u)
  where
    go : (u < z.units) ⊎ (z.units ≤ u) → u < z.units
    go (inl lt) = lt
    go (inr far) = absurd (grey (h.grey.doomed_is u (h.beyond u far)))

-- what a marker has found is in the world
pub found_alive : (z : Sizes) (c : Core) (m u : ℕ) → found_of (c.scan m) ≡ Some u → Lawful z c → c.doomed u ≡ false
found_alive z c m u found h = go (c.scan m) refl found
  where
    go : (o : Option Scan) → c.scan m ≡ o → found_of o ≡ Some u → c.doomed u ≡ false
    go None at e = absurd cc
    go (Some s) at e = live_alive c.phase c.doomed c.marked u (h.found.markers m s u at e)
