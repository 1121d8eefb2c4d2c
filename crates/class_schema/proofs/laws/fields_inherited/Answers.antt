use Rattle.class_schema.proofs.Inheriting.{fields_inherited_holds}
use Rattle.class_schema.proofs.laws.fields_inherited.Goals as goal

pub returns : goal.returns
returns c = fields_inherited_holds
