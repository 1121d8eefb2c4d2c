-- The machine is lawful at its start.
use Rattle.std.proofs.Common.{◌≡◌, ℕ, ◌≤◌, nat_le, refl, rules, true, List}
use Rattle.mark_core.specs.Machine.{Sizes}
use Rattle.mark_core.specs.Lawful.{Lawful}
use Rattle.mark_core.specs.Start.{start}
use Rattle.mark_core.specs.Laws.{StaysLawful, BareIsLawful}
use Rattle.mark_core.proofs.Steps.{run_lawful}

test_le : (a b : ℕ) → a ≤ b → nat_le a b ≡ true
test_le a b h = search rules

pub start_lawful : (z : Sizes) (cells : ℕ → List ℕ) → Lawful z (start z cells)
start_lawful z cells = record {
  beyond = λ u far. test_le z.units u far;
  scans_own = λ m s k wrong. absurd cc;
  open_in = record { lanes = λ l far. refl; markers = λ m far. refl };
  lanes = record { hand_is = λ l off. refl; owes_is = λ l off. refl };
  markers = record { scan_is = λ m off. refl; owes_is = λ m off. refl };
  held_in = λ l u off. refl;
  stacks_in = λ m u off wrong. absurd cc;
  standing =
      record {
        rows = λ u r wrong. absurd cc;
        hands = λ u l wrong. absurd cc;
        own = λ u wrong. absurd cc;
        in_hand = λ l u wrong. absurd cc;
        in_own = λ u wrong. absurd cc;
        scans = λ u m wrong. absurd cc;
        under = λ m s wrong. absurd cc;
      };
  grey = record { marked_is = λ u e. refl; doomed_is = λ u e. refl; scanned_is = λ u wrong. absurd cc };
  black = λ m. absurd cc;
  roots = λ m. absurd cc;
  quiet = λ out. record { places = λ u. refl; clean = refl; lanes = λ l. refl; markers = λ m. refl };
  work = (refl, λ u. refl);
  looked = tt;
  cells = λ u k v live lt wrong. absurd cc;
  root_set = λ p v wrong. absurd cc;
  held = λ l u wrong. absurd cc;
  found = record { markers = λ m s t wrong. absurd cc; own = λ u wrong. absurd cc };
  idle = λ e u wrong. absurd cc;
}

pub stays_lawful : StaysLawful
stays_lawful z cells events may = run_lawful z (start z cells) events may (start_lawful z cells)

-- without units
pub bare_lawful : BareIsLawful
bare_lawful z marked cells = record {
  beyond = λ u far. refl;
  scans_own = λ m s k wrong. absurd cc;
  open_in = record { lanes = λ l far. refl; markers = λ m far. refl };
  lanes = record { hand_is = λ l off. refl; owes_is = λ l off. refl };
  markers = record { scan_is = λ m off. refl; owes_is = λ m off. refl };
  held_in = λ l u off. refl;
  stacks_in = λ m u off wrong. absurd cc;
  standing =
      record {
        rows = λ u r wrong. absurd cc;
        hands = λ u l wrong. absurd cc;
        own = λ u wrong. absurd cc;
        in_hand = λ l u wrong. absurd cc;
        in_own = λ u wrong. absurd cc;
        scans = λ u m wrong. absurd cc;
        under = λ m s wrong. absurd cc;
      };
  grey = record { marked_is = λ u e. refl; doomed_is = λ u e. refl; scanned_is = λ u wrong. absurd cc };
  black = λ m. absurd cc;
  roots = λ m. absurd cc;
  quiet = λ out. record { places = λ u. refl; clean = refl; lanes = λ l. refl; markers = λ m. refl };
  work = (refl, λ u. refl);
  looked = tt;
  cells = λ u k v live lt wrong. absurd cc;
  root_set = λ p v wrong. absurd cc;
  held = λ l u wrong. absurd cc;
  found = record { markers = λ m s t wrong. absurd cc; own = λ u wrong. absurd cc };
  idle = λ e u white. refl;
}
