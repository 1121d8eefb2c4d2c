use Rattle.class_schema.proofs.Inheriting.{ancestry_tested_holds}
use Rattle.class_schema.proofs.laws.ancestry_tested.Goals as goal

pub returns : goal.returns
returns c = ancestry_tested_holds
