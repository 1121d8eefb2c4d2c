-- What worked histories show of the laws.
use Rattle.std.proofs.Common.{refl, inl, lit<, [], ◌∷◌}
use Rattle.world_model.specs.Examples.{name, AreSharp}

pub are_sharp : AreSharp
are_sharp = record {
  begun_alone = (refl, refl);
  finished_alone = (refl, refl);
  white_reached = (refl, record { root = name 1 ∷ []; rest = []; unit = (0, lit< tt, refl); is_root = (name 1, refl, inl refl); walk = refl }, refl);
  white_lives = (refl, refl);
  given_none = (record { lane = 0; given = (6, lit< tt, refl) }, refl);
}
