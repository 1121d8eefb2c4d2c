use Rattle.world_model.proofs.Turns.{begun_in_order_holds}
use Rattle.world_model.proofs.follows.begun_in_order.Goals as goal

pub returns : goal.returns
returns c = begun_in_order_holds
