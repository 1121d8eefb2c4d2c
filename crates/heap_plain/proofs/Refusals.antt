-- Refused creations.
use Rattle.std.proofs.Common.{◌≡◌, ℕ, ◌-◌, refl, arith, true, List, [], ◌∷◌, ◌++◌, length}
use Rattle.world_model.specs.Sizes.{Sizes}
use Rattle.world_model.specs.World.{made}
use Rattle.world_model.specs.Histories.{after}
use Rattle.world_model.specs.Engines.{IsInFrame, act_of_refusal}
use Rattle.heap_plain.specs.Types.{Lane, CreateErr, Entry}
use Rattle.heap_plain.specs.Types.act
use Rattle.heap_plain.specs.Types.create
use Rattle.heap_plain.specs.Parts.{Parts}
use Rattle.heap_plain.specs.Creation.{Refuses}
use Rattle.heap_plain.specs.Stocked.{free_of}
use Rattle.heap_plain.specs.Plain.{IsPlain}
use Rattle.heap_plain.proofs.Resting.{in_open, is_staying}
use Rattle.heap_plain.proofs.Entries.{Done, does}

pub refuses : {z : Sizes} {p : Parts} {h : List Entry} {l m left room : ℕ} (asked : ℕ) (e : CreateErr) → IsPlain z p h → IsInFrame z h l
    → m ≡ made (after h) l → left ≡ z.names - m → room ≡ length (free_of p.stocks l) → Refuses asked left room e
    → Done z p h (h ++ record { pass = Lane l; act = act_of_refusal asked e } ∷ []) (Lane l) (act_of_refusal asked e)
refuses {l = l} asked (create.NamesSpent left) was frame is by_names by_stack d =
    does (Lane l) (act.NamesSpent asked left) (act.NamesSpent asked left ∷ []) was (refl, tt) (
      record { in_range = frame.in_range; frame = in_open was.rest.between frame.opened; may = record { rest = omega (arith, d.0); short = d.1 } },
      tt,
    ) was.shows
refuses {l = l} asked (create.Full free) was frame is by_names by_stack d =
    does (Lane l) (act.Full asked free) (act.Full asked free ∷ []) was (refl, tt) (
      record {
        in_range = frame.in_range;
        frame = in_open was.rest.between frame.opened;
        may = record { names = omega (arith, d.0); rest = omega (arith, d.1, (was.shows.free.each l frame.in_range).count); short = d.2 };
      },
      tt,
    )
    was.shows

-- a refusal opens and closes nothing
pub refusal_stays : (asked : ℕ) (e : CreateErr) → is_staying (act_of_refusal asked e) ≡ true
refusal_stays asked (create.NamesSpent left) = refl
refusal_stays asked (create.Full free) = refl
