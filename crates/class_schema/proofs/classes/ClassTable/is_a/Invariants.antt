use Rattle.class_schema.proofs.Reading.{IsUnderWay}
use Rattle.class_schema.proofs.classes.ClassTable.is_a.Given as goal

abbrev pub decreases-loop-at : goal.decreases-loop-at
decreases-loop-at l = l.at.0

-- the search may go on at this class
abbrev pub invariant-loop-at : goal.invariant-loop-at
invariant-loop-at l = IsUnderWay l.self.classes l.fn.class l.at l.of
