use Rattle.world_play.proofs.text.push_line.Goals as goal

pub returns-in-SerialsSpent : goal.returns-in-SerialsSpent
returns-in-SerialsSpent c = rw c.in-SerialsSpent.is c.push_serials_spent.ensures

pub returns-in-WrongKind : goal.returns-in-WrongKind
returns-in-WrongKind c = rw c.in-WrongKind.is c.push_worded-in-WrongKind.ensures

pub returns-in-NoElement : goal.returns-in-NoElement
returns-in-NoElement c = rw c.in-NoElement.is c.push_worded-in-NoElement.ensures

pub returns-in-WrongClass : goal.returns-in-WrongClass
returns-in-WrongClass c = rw c.in-WrongClass.is c.push_worded-in-WrongClass.ensures
