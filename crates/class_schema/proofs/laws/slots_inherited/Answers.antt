use Rattle.class_schema.proofs.Inheriting.{slots_inherited_holds}
use Rattle.class_schema.proofs.laws.slots_inherited.Goals as goal

pub returns : goal.returns
returns c = slots_inherited_holds
