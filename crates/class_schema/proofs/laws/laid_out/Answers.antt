use Rattle.class_schema.proofs.Laying.{laid_out_holds}
use Rattle.class_schema.proofs.laws.laid_out.Goals as goal

pub returns : goal.returns
returns c = laid_out_holds
