use Rattle.world_play.proofs.Collecting.{marks_more, marks_all, marks_less}
use Rattle.world_play.proofs.collection.mark_all.Goals as goal

pub slices-preserved : goal.slices-preserved
slices-preserved g c = record {
  on = marks_more _ _ _ _ _ _ c.slices.invariant.on c.mark-marked.ensures.entries c.in-Spent.is;
  held = λ lane r h. c.mark-marked.ensures.held lane r (c.slices.invariant.held lane r h);
}

pub slices-smaller : goal.slices-smaller
slices-smaller g c = marks_less _ _ _ _ _ c.mark-marked.ensures.entries c.in-Spent.is c.requires.some

pub returns-in-Idle-clause-marks : goal.returns-in-Idle-clause-marks
returns-in-Idle-clause-marks g c = marks_all _ _ _ _ _ _ c.slices.invariant.on c.mark-marked.ensures.entries c.in-Idle.is
