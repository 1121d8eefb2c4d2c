use Rattle.world_model.proofs.Places.{units_are_sound_holds}
use Rattle.world_model.proofs.follows.units_are_sound.Goals as goal

pub returns : goal.returns
returns c = units_are_sound_holds
