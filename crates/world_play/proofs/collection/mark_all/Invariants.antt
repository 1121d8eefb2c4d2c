use Rattle.world_model.specs.Histories.{state_of}
use Rattle.world_model.specs.Engines.{KeepsHeld}
use Rattle.world_model.proofs.Progress.{left_to_scan}
use Rattle.world_play.specs.Stages.{MarksOn}
use Rattle.world_play.proofs.collection.mark_all.Given as goal

abbrev pub invariant-slices : goal.invariant-slices
invariant-slices g l = record {
  on : MarksOn g.S.Shape.sizes (g.E.Engine.history l.fn.engine) (g.E.Engine.history l.engine) l.budget;
  held : KeepsHeld (g.E.Engine.holds l.fn.engine) (g.E.Engine.holds l.engine);
}

abbrev pub decreases-slices : goal.decreases-slices
decreases-slices g l = left_to_scan (state_of (g.E.Engine.history l.engine))
