use Rattle.level_script.proofs.NameTables.{name_there}
use Rattle.level_script.proofs.names.NameTable.add.Goals as goal

pub returns-in-Some-clause-number : goal.returns-in-Some-clause-number
returns-in-Some-clause-number c = (name_there _ _ _ c.in-Some.ensures).0

pub returns-in-Some-clause-names : goal.returns-in-Some-clause-names
returns-in-Some-clause-names c = (name_there _ _ _ c.in-Some.ensures).1
