use Rattle.std.proofs.Common.{◌∙◌}
use Rattle.level_script.proofs.NameTables.{name_found}
use Rattle.level_script.proofs.names.NameTable.find.Goals as goal

pub returns-in-Some-get_index_of : goal.returns-in-Some-get_index_of
returns-in-Some-get_index_of c = rw (← c.self.view_is) (c.in-Some-get_index_of.ensures.index ∙ name_found c.self.inside.names.keys c.args.name.now)

pub returns-in-None : goal.returns-in-None
returns-in-None c = rw (← c.self.view_is) (c.in-None.ensures.index ∙ name_found c.self.inside.names.keys c.args.name.now)
